-- What a feeder tells.
use Rattle.std.specs.Prelude.{◌≡◌, ℕ, ◌+◌, ◌≤◌, ◌^◌, ◌⊎◌, List, [], ◌∷◌, length, drop, Option, Some, None, Result, Ok}
use Rattle.std.specs.Prelude.{Err, Bool, true, false}
use Rattle.plain_world.specs.Words.{Words, IsRequest}
use Rattle.resp_frames.specs.Frames.{Item, Framed, requests}
use Rattle.resp_frames.specs.Faults.{RequestFault}
use Rattle.resp_frames.specs.Ends.{IsCut}
use Rattle.resp_frames.specs.RequestRead.{words_at, AreWithin, Stands, IsOpenRequest, IsRequestAt, IsBrokenAt}
use Rattle.resp_frames.specs.declared.feeder.FrameFault.{FrameFault}
use Rattle.resp_frames.specs.declared.feeder.FrameFault.TheVariants.{Protocol, Memory}
use Rattle.resp_frames.specs.declared.feeder.Next.{Next}
use Rattle.resp_frames.specs.declared.feeder.Next.TheVariants as next
use Rattle.resp_frames.specs.declared.rule.Rule.{Rule}
use Rattle.resp_frames.specs.declared.span.Span.{Span}
use Rattle.resp_frames.specs.declared.request.Progress.{Progress}

-- how many bytes were given out or passed over, the bytes that were fed and not given out, and the request that was
-- given out last
pub record Feeding : Type 0 where
  pub gone : ℕ
  pub kept : List ℕ
  pub current : Option Words

-- from the old bytes these requests are taken, and the new ones are left
pub record GivesRequests (old new : List ℕ) (asked : List Words) : Type 0 where
  pub items : List Item
  pub framed : Framed old items new
  pub are : requests items ≡ asked

-- as many bytes were fed as before
abbrev pub SameFed : Feeding → Feeding → Type 0
SameFed old new = new.gone + length new.kept ≡ old.gone + length old.kept

-- so many bytes more may be fed
abbrev pub HasFed : Feeding → ℕ → Type 0
HasFed old n = old.gone + length old.kept + n ≤ 2 ^ 62

-- the next request is given out
pub record GivesOut (old new : Feeding) : Type 0 where
  pub words : Words
  pub gives : GivesRequests old.kept new.kept (words ∷ [])
  pub current : new.current ≡ Some words
  pub fed : SameFed old new

-- what is left holds no whole request, and breaks no rule
pub record GivesNone (old new : Feeding) : Type 0 where
  pub gives : GivesRequests old.kept new.kept []
  pub unread : (new.kept ≡ []) ⊎ IsCut new.kept
  pub current : new.current ≡ None
  pub fed : SameFed old new

-- what is left breaks this rule, at the byte of this number from the start of the stream
pub record GivesFault (old new : Feeding) (rule : Rule) (at : ℕ) : Type 0 where
  pub gives : GivesRequests old.kept new.kept []
  pub from : List ℕ
  pub fault : RequestFault new.kept rule from
  pub place : at + length from ≡ new.gone + length new.kept
  pub current : new.current ≡ None
  pub fed : SameFed old new

-- what `next_request` answers
abbrev pub NextIs : Feeding → Result Bool FrameFault → Feeding → Type 0
NextIs old (Ok true) new = GivesOut old new
NextIs old (Ok false) new = GivesNone old new
NextIs old (Err (Protocol rule at)) new = GivesFault old new rule at
NextIs old (Err Memory) new = new ≡ record { gone = old.gone; kept = old.kept; current = None }

-- ---- how a feeder keeps it

abbrev pub current_words : List ℕ → ℕ → List Span → Bool → Option Words
current_words bytes base spans true = Some (words_at (drop base bytes) spans)
current_words bytes base spans false = None

abbrev pub feeding : ℕ → List ℕ → ℕ → ℕ → List Span → Bool → Feeding
feeding gone bytes base at spans ready =
    record { gone = gone + at; kept = drop at bytes; current = current_words bytes base spans ready }

-- the spans are those of the words of a request, within the bytes
pub record IsOut (bytes : List ℕ) (spans : List Span) : Type 0 where
  pub inside : AreWithin bytes spans
  pub sound : IsRequest (words_at bytes spans)

-- a request is out; or the next one is read so far
abbrev pub IsState : List ℕ → ℕ → ℕ → List Span → Progress → Bool → Type 0
IsState bytes base at spans progress true = IsOut (drop base bytes) spans
IsState bytes base at spans progress false = (base ≡ at) × Stands (drop at bytes) progress.read spans progress.due

pub record IsFeeder (gone : ℕ) (bytes : List ℕ) (base at : ℕ) (spans : List Span) (progress : Progress) (ready : Bool)
    : Type 0 where
  pub within : at ≤ length bytes
  pub before : base ≤ at
  pub fits : gone + length bytes ≤ 2 ^ 62
  pub state : IsState bytes base at spans progress ready

-- what stands at the front of the bytes
abbrev pub ReadsNext : List ℕ → List Span → Next → Type 0
ReadsNext bytes spans (next.Open p) = IsOpenRequest bytes p spans
ReadsNext bytes spans (next.Request end) = IsRequestAt bytes end spans
ReadsNext bytes spans (next.Broken rule at) = IsBrokenAt bytes rule at

-- the same after so many bytes that are passed over
pub record NextFound (bytes : List ℕ) (spans : List Span) (passed : ℕ) (r : Next) : Type 0 where
  pub gives : GivesRequests bytes (drop passed bytes) []
  pub within : passed ≤ length bytes
  pub reads : ReadsNext (drop passed bytes) spans r
