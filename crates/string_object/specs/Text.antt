-- String values over the blocks of a store.
use Rattle.std.specs.Prelude.{ℕ, Bool, true, false, List, [], ◌∷◌}
use Rattle.blocks.specs.declared.BlockRef.{BlockRef}
use Rattle.blocks.specs.Blocks.{Blocks, bytes_at}
use Rattle.int_text.specs.Decimal.{canonical}
use Rattle.string_object.specs.declared.text.Text.{Text}
use Rattle.string_object.specs.declared.text.Text.TheVariants.{Number, Whole, Raw}

-- the block of these parts
abbrev pub block : ℕ → ℕ → BlockRef
block slot slab = record { slab = slab; slot = slot }

-- the bytes of a string (Redis command reference, data type Strings: a sequence of bytes)
abbrev pub text_bytes : Blocks → Text → List ℕ
text_bytes blocks (Number n) = canonical n
text_bytes blocks (Whole slot slab) = bytes_at blocks (block slot slab)
text_bytes blocks (Raw slot slab) = bytes_at blocks (block slot slab)

-- the references that it owns
abbrev pub text_refs : Text → List BlockRef
text_refs (Number n) = []
text_refs (Whole slot slab) = block slot slab ∷ []
text_refs (Raw slot slab) = block slot slab ∷ []

-- it was made raw by a change of a part
abbrev pub is_raw : Text → Bool
is_raw (Number n) = false
is_raw (Whole slot slab) = false
is_raw (Raw slot slab) = true
