-- What a block holds after an edit of a part of it.
use Rattle.std.specs.Prelude.{◌≡◌, ℕ, ◌+◌, List, Some, ◌++◌, length, take, drop}
use Rattle.blocks.specs.declared.BlockRef.{BlockRef}
use Rattle.blocks.specs.Blocks.{Blocks}
use Rattle.byteorder.specs.Endian.{little_bytes}

-- the bytes with another part in the place of `size` of them from a place on
abbrev pub spliced : List ℕ → ℕ → ℕ → List ℕ → List ℕ
spliced bytes from size part = take from bytes ++ (part ++ drop (from + size) bytes)

-- The bytes under a listpack's header that tells their number and this count. (Listpack specification, "General structure".)
abbrev pub headed : ℕ → List ℕ → List ℕ
headed count bytes = little_bytes 4 (length bytes) ++ (little_bytes 2 count ++ drop 6 bytes)

-- The block holds the bytes with a gap of `room` bytes in the place of `size` bytes from a place on. What stands in the gap
-- isn't told.
pub record HasGap (blocks : Blocks) (at : BlockRef) (bytes : List ℕ) (from size room : ℕ) : Type 0 where
  pub gap : List ℕ
  pub wide : length gap ≡ room
  pub holds : blocks at ≡ Some (spliced bytes from size gap)
