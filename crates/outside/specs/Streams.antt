-- What is told of sources and sinks, and what their calls do.
use Rattle.std.specs.Prelude.{◌≡◌, ℕ, ◌-◌, ◌≤◌, Bool, true, false, List, [], ◌∷◌, Option, Some, None, Result, IfOk, length}
use Rattle.std.specs.Io.KnownBytes.{Consumes, ReadConsumes, WriteAppends}
use Rattle.outside.specs.Counts.{Rose, Tallies}

-- a source: the bytes that are left, where they are told; how many faults there were, up to the greatest u64; and
-- whether none follows
pub record SourceSeen : Type 0 where
  pub told : Option (List ℕ)
  pub faults : ℕ
  pub sure : Bool

-- a sink: the bytes that it was given, where they are told; how many faults there were, up to the greatest u64; and how
-- many bytes more it takes without one, where it surely does
pub record SinkSeen : Type 0 where
  pub told : Option (List ℕ)
  pub faults : ℕ
  pub room : Option ℕ

-- the next bytes are taken
pub record Takes {E : Type 0} (old new : SourceSeen) (result : Result ℕ E) (into : List ℕ) : Type 0 where
  pub bytes : ReadConsumes old.told new.told result into
  pub tally : Tallies old.faults new.faults (old.sure ≡ true) result
  pub sure : old.sure ≡ true → new.sure ≡ true

-- these bytes are taken, with no fault
pub record TakesAll (old new : SourceSeen) (bytes : List ℕ) : Type 0 where
  pub told : Consumes old.told new.told bytes
  pub faults : new.faults ≡ old.faults
  pub sure : old.sure ≡ true → new.sure ≡ true

-- nothing is taken, and the source failed, as it doesn't where that is sure
pub record TakesNone (old new : SourceSeen) : Type 0 where
  pub told : Consumes old.told new.told []
  pub rose : Rose old.faults new.faults
  pub unsure : old.sure ≡ true → ⊥

-- so many bytes surely fit
abbrev pub Fits : Option ℕ → ℕ → Type 0
Fits None n = ⊥
Fits (Some room) n = n ≤ room

-- the room that is left after so many bytes
abbrev pub without : Option ℕ → ℕ → Option ℕ
without None n = None
without (Some room) n = Some (room - n)

-- a front of a piece is put
pub record PutsSome {E : Type 0} (old new : SinkSeen) (result : Result ℕ E) (piece : List ℕ) : Type 0 where
  pub bytes : WriteAppends old.told new.told result piece
  pub tally : Tallies old.faults new.faults (Fits old.room (length piece)) result
  pub room : IfOk result (λ n. new.room ≡ without old.room n)

-- no call fails
abbrev pub is_empty : List ℕ → Bool
is_empty [] = true
is_empty (call ∷ calls) = false

-- where no call fails there is so much room, else none that is sure
abbrev pub sure_room : List ℕ → ℕ → Option ℕ
sure_room [] room = Some room
sure_room (call ∷ calls) room = None
