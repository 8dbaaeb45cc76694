-- What is gathered before it is put into a shelf, and the sum of what was put.
use Rattle.std.specs.Prelude.{◌≡◌, ℕ, ◌^◌, ◌<◌, List, [], ◌∷◌, ◌++◌, take, Result, Ok, Err}
use Rattle.std.specs.Int.{w64, to_le_bytes}
use Rattle.digests.specs.Crc.{crc_of}
use Rattle.outside.specs.Files.{ShelfSeen}
use Rattle.rdb_grammar.specs.Codes as code
use Rattle.rdb_parts.specs.declared.pen.Pen.{Pen}
use Rattle.rdb_parts.specs.Shelves.{PutsAll, Loses}

-- the bytes that are gathered
abbrev pub gathered : Pen → List ℕ
gathered pen = take pen.used pen.room

-- These bytes more are written: what was gathered before and they are what is put, and behind it what is gathered now. The
-- sum goes on over what is put.
pub record Adds (old new : ShelfSeen) (before after : Pen) (word : List ℕ) : Type 0 where
  pub put : List ℕ
  pub puts : PutsAll old new put
  pub same : put ++ gathered after ≡ gathered before ++ word
  pub summed : after.sum ≡ crc_of before.sum put

-- the bytes are written, or the shelf failed
abbrev pub Writes : {T E : Type 0} → ShelfSeen → ShelfSeen → Pen → Pen → List ℕ → Result T E → Type 0
Writes old new before after word (Ok x) = Adds old new before after word
Writes old new before after word (Err e) = Loses old new

-- bytes are written of which and of the answer this holds, or the shelf failed
abbrev pub WritesSome : {T E : Type 0} → ShelfSeen → ShelfSeen → Pen → Pen → (T → List ℕ → Type 0) → Result T E → Type 0
WritesSome old new before after Holds (Ok x) = (word : List ℕ) × Adds old new before after word × Holds x word
WritesSome old new before after Holds (Err e) = Loses old new

-- all that is written so far, with the end behind it
abbrev pub closed : Pen → List ℕ
closed pen = gathered pen ++ code.eof ∷ []

-- what is gathered is put, and then the end and the sum of all that was put
abbrev pub Closes : {T E : Type 0} → ShelfSeen → ShelfSeen → Pen → Result T E → Type 0
Closes old new pen (Ok x) =
    PutsAll old new (closed pen ++ to_le_bytes w64 (crc_of pen.sum (closed pen))) × (crc_of pen.sum (closed pen) < 2 ^ 64)
Closes old new pen (Err e) = Loses old new
