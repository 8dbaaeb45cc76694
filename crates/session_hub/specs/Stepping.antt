-- What a hub tells of the next bytes of its input.
use Rattle.std.specs.Prelude.{◌≡◌, ⊤, ℕ, ◌<◌, ◌≤◌, List, [], ◌++◌, length, take}
use Rattle.plain_sessions.specs.Arrivals.{Sent, sent_by}
use Rattle.plain_sessions.specs.Pieces.{number_in, length_in, Stop, Outside, Inside, Unknown, IsUnknown}
use Rattle.session_hub.specs.Standing.{Standing, AtHead, InPiece, AtUnknown, StandsAt, IsHead}
use Rattle.session_hub.specs.declared.hub.Place.{Place}
use Rattle.session_hub.specs.declared.hub.Place.TheVariants as places
use Rattle.session_hub.specs.declared.hub.Headed.{Headed}
use Rattle.session_hub.specs.declared.hub.Headed.TheVariants as headed
use Rattle.session_hub.specs.declared.hub.Step.{Step}
use Rattle.session_hub.specs.declared.hub.Step.TheVariants as steps
use Rattle.session_hub.specs.declared.hub.Stopped.{Stopped}
use Rattle.session_hub.specs.declared.hub.Stopped.TheVariants as stopped

-- how many sessions there are, and what stands open
pub record Hubbed : Type 0 where
  pub sessions : ℕ
  pub standing : Standing

-- how a hub keeps it
abbrev pub standing_of : Place → List ℕ → Standing
standing_of places.Head head = AtHead head
standing_of (places.Piece session left) head = InPiece session left
standing_of places.Unknown head = AtUnknown

-- the hub stands in a head
abbrev pub IsAtHead : Standing → Type 0
IsAtHead (AtHead head) = ⊤
IsAtHead (InPiece session left) = ⊥
IsAtHead AtUnknown = ⊥

module _ (sessions : ℕ) (head : List ℕ) where
  -- a head is whole, and tells a session and a length
  pub record IsWhole (session long : ℕ) : Type 0 where
    pub six : length head ≡ 6
    pub number : session ≡ number_in head
    pub known : session < sessions
    pub long_is : long ≡ length_in head

  -- what a head tells, as far as it is there
  abbrev pub HeadIs : Headed → Type 0
  HeadIs headed.Open = IsHead sessions head
  HeadIs headed.Unknown = IsUnknown sessions head
  HeadIs (headed.Whole session long) = IsWhole session long

-- how many bytes of a chunk a step passes over: one of a head; those of a session; all behind a number that no session has
abbrev pub count_of : List ℕ → Step → ℕ
count_of chunk steps.Head = 1
count_of chunk (steps.Bytes session count) = count
count_of chunk steps.Unknown = length chunk

-- and what they bring
abbrev pub sent_of : List ℕ → Step → List Sent
sent_of chunk steps.Head = []
sent_of chunk (steps.Bytes session count) = sent_by session (take count chunk)
sent_of chunk steps.Unknown = []

-- the session of a step is one, and a number that no session has is told where it stands
abbrev pub Tells : ℕ → Step → Standing → Type 0
Tells sessions steps.Head standing = standing ≡ AtUnknown → ⊥
Tells sessions (steps.Bytes session count) standing = (session < sessions) × (standing ≡ AtUnknown → ⊥)
Tells sessions steps.Unknown standing = standing ≡ AtUnknown

-- The step passes over some of the chunk, and whatever was taken before, the bytes taken and what they bring grow by it.
pub record Steps (old : Hubbed) (chunk : List ℕ) (step : Step) (new : Hubbed) : Type 0 where
  pub sessions : new.sessions ≡ old.sessions
  pub some : 0 < count_of chunk step
  pub within : count_of chunk step ≤ length chunk
  pub tells : Tells old.sessions step new.standing
  pub goes_on : (taken : List ℕ) (sent : List Sent) → StandsAt old.sessions taken sent old.standing
      → StandsAt new.sessions (taken ++ take (count_of chunk step) chunk) (sent ++ sent_of chunk step) new.standing

-- where the input stops
abbrev pub stop_told : Stopped → Stop
stop_told stopped.Outside = Outside
stop_told stopped.Inside = Inside
stop_told stopped.Unknown = Unknown
