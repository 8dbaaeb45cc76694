-- What was heard of one session, among bytes of several.
use Rattle.std.specs.Prelude.{◌≡◌, ℕ, ◌+◌, List, ◌++◌, length, false}
use Rattle.std.specs.List.{AllByRecursion}
use Rattle.plain_world.specs.Words.{Words}
use Rattle.plain_model.specs.Meant.{asks_to_quit}
use Rattle.resp_frames.specs.Frames.{Item, requests, Framed}
use Rattle.resp_frames.specs.Feeding.{Feeding}
use Rattle.plain_sessions.specs.Arrivals.{Sent, bytes_of, Said, Says}

-- none of the requests ends its session
abbrev pub GoOn : List Words → Type 0
GoOn asked = AllByRecursion (λ words. asks_to_quit words ≡ false) asked

-- the session's bytes were fed: they are items, none of which ends it, and what its feeder keeps
pub record IsHeard (number : ℕ) (sent : List Sent) (feeder : Feeding) : Type 0 where
  pub items : List Item
  pub framed : Framed (bytes_of number sent) items feeder.kept
  pub go_on : GoOn (requests items)
  pub fed : feeder.gone + length feeder.kept ≡ length (bytes_of number sent)

-- the session has ended: whatever it sends, it says no more
pub record HasEnded (number : ℕ) (sent : List Sent) : Type 0 where
  pub said : List Said
  pub last : (more : List ℕ) → Says (bytes_of number sent ++ more) said
