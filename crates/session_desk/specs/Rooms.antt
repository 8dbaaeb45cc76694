-- How a desk stands beside a plain room (the definitions of several sessions).
use Rattle.std.specs.Prelude.{◌≡◌, ◌≢◌, ◌⊎◌, ℕ, ◌<◌, ◌≤◌, max, List, Option, None, Some, true, false}
use Rattle.std.specs.List.{AllByRecursion, Contains}
use Rattle.plain_world.specs.Words.{Words}
use Rattle.plain_world.specs.Worlds.{World, Entry, in_time, live, selecting}
use Rattle.plain_world.specs.declared.reply.Part.{Part}
use Rattle.plain_sessions.specs.Arrivals.{Asks, arrival}
use Rattle.plain_sessions.specs.Transactions.{Watched, Session}
use Rattle.plain_sessions.specs.Histories.{Room, Deed, Does}
use Rattle.request_queue.specs.Queued.{AreQueued}
use Rattle.session_desk.specs.Engines.{View, seen}
use Rattle.session_desk.specs.Kept.{Look, Kept, session_at, DeskSeen}

-- what stood there was gone before the moment
pub record IsGone (moment : ℕ) (first : Option Entry) : Type 0 where
  pub entry : Entry
  pub is : first ≡ Some entry
  pub late : in_time moment entry.deadline ≡ false

-- something else was seen at a watched key
pub record WasOther (w : Watched) : Type 0 where
  pub entry : Option Entry
  pub seen : Contains w.since entry
  pub other : entry ≢ w.first

-- all that was seen there is what stood there at the WATCH
abbrev pub AreFirst : Watched → Type 0
AreFirst w = AllByRecursion (λ entry. entry ≡ w.first) w.since

-- where this stands at a moment
module _ (sees : ℕ → List ℕ → Option Entry) (moment : ℕ) where
  -- there stands at a watched key what stood there at the WATCH, or that is gone
  abbrev pub StillStands : Look → Type 0
  StillStands one = (sees one.db one.key ≡ one.first) ⊎ IsGone moment one.first

  -- What a desk keeps of a watched key agrees with all that was seen there: it tells a change exactly where there was one,
  -- unless what stood there at the WATCH is gone by now, which a look tells.
  pub record SameWatch (one : Look) (w : Watched) : Type 0 where
    pub db : one.db ≡ w.db
    pub key : one.key ≡ w.key
    pub first : one.first ≡ w.first
    pub changed : one.changed ≡ true → WasOther w
    pub same : one.changed ≡ false → AreFirst w ⊎ IsGone moment w.first
    pub stands : one.changed ≡ false → StillStands one

  -- both have the same watched keys, in whatever order
  pub record SameWatches (kept : List Look) (watched : List Watched) : Type 0 where
    pub kept_are : (one : Look) → Contains kept one → (w : Watched) × Contains watched w × SameWatch one w
    pub are_kept : (w : Watched) → Contains watched w → (one : Look) × Contains kept one × SameWatch one w

-- the bytes that are queued are those of the queued requests
abbrev pub SameQueue : Option (List (List ℕ)) → Option (List Words) → Type 0
SameQueue None None = Unit {0}
SameQueue (Some kept) (Some asked) = AreQueued kept asked
SameQueue None (Some asked) = ⊥
SameQueue (Some kept) None = ⊥

-- what a desk keeps of a session is the session
pub record SameSession (sees : ℕ → List ℕ → Option Entry) (moment : ℕ) (kept : Kept) (s : Session) : Type 0 where
  pub db : kept.db ≡ s.db
  pub within : kept.db < 16
  pub queue : SameQueue kept.queue s.queue
  pub spoilt : kept.spoilt ≡ s.spoilt
  pub watched : SameWatches sees moment kept.watched s.watched

module _ {E : Type 0} (v : View E) where
  -- from a moment on a world and an engine hold the same in every database
  abbrev pub Holds : ℕ → World → E → Type 0
  Holds moment world engine = (later db : ℕ) → moment ≤ later
      → live (selecting world db) later ≡ live (selecting (v.world engine) db) later

  -- A desk stands as a room at a moment, the last one of both or a later one: from there on both hold the same, and what
  -- the desk keeps are the room's sessions.
  pub record StandsAs (moment : ℕ) (desk : DeskSeen E) (room : Room) : Type 0 where
    pub late : v.last desk.engine ≤ moment
    pub holds : Holds moment room.world desk.engine
    pub sessions : (number : ℕ)
        → SameSession (seen v moment desk.engine) moment (session_at desk.sessions number) (room.sessions number)

  -- what a desk answers at the moment given, or the last one used where that is later, is a deed in a room at that moment,
  -- by which they stand alike again
  pub record IsDeed (given moment : ℕ) (old : DeskSeen E) (room : Room) (words : Words) (reply : List Part) (new : DeskSeen E)
      : Type 0 where
    pub deed : Deed
    pub room' : Room
    pub is : deed.arrival ≡ arrival old.current (Asks words)
    pub moment_is : deed.moment ≡ moment
    pub reply_is : deed.left.reply ≡ reply
    pub does : Does (v.seed old.engine) room deed room'
    pub stands : StandsAs moment new room'
    pub at : max (v.last new.engine) given ≡ moment
    pub seed : v.seed new.engine ≡ v.seed old.engine
