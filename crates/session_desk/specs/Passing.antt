-- Watched keys that were gone over: they were looked at, or left out.
use Rattle.std.specs.Prelude.{◌≡◌, ℕ, ◌<◌, List, length, Option, None, Some, slice_index_or}
use Rattle.plain_world.specs.Worlds.{Entry}
use Rattle.session_desk.specs.Kept.{Look, no_look}
use Rattle.session_desk.specs.Watching.{IsLooked}

-- a database is this one, where one is told
abbrev pub IsOf : Option ℕ → ℕ → Type 0
IsOf None db = Unit {0}
IsOf (Some number) db = db ≡ number

-- a watched key was looked at, or left out where it needn't be
pub data Passed (needs : Type 0) (sees : ℕ → List ℕ → Option Entry) (one new : Look) : Type 0 where
  left : (needs → ⊥) → new ≡ one → Passed needs sees one new
  seen : IsLooked sees one new → Passed needs sees one new

-- so was each of a list, where it is said of its place and of itself whether it needs a look
pub record EachPassed (needs : ℕ → Look → Type 0) (sees : ℕ → List ℕ → Option Entry) (olds news : List Look) : Type 0 where
  pub many : length news ≡ length olds
  pub each : (k : ℕ) → k < length olds → Passed (needs k (slice_index_or olds k no_look)) sees (slice_index_or olds k no_look) (slice_index_or news k no_look)
