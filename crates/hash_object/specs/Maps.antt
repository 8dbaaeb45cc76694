-- Finite maps from byte strings to byte strings, and which form such a map has. (Redis command reference, data type
-- Hashes: records structured as collections of field-value pairs.)
use Rattle.std.specs.Prelude.{ℕ, List}
use Rattle.std.specs.Ordering.{nat_cmp}
use Rattle.std.specs.Cmp.Lexicographic.{slice_cmp}
use Rattle.std.specs.FinMap.{FinMap, entries, len}
use Rattle.object_codec.specs.declared.limits.Limits.{Limits}
use Rattle.object_codec.specs.declared.form.Form.{Form}
use Rattle.object_codec.specs.Forms.{FitsHash, IsLeastFrom}
use Rattle.pack_pairs.specs.Pairs.{longest}

-- a finite map from fields to values
abbrev pub FieldMap : Type 0
FieldMap = FinMap (slice_cmp nat_cmp) (List ℕ)

-- the forms that a hash of these fields and values fits
abbrev pub FitsFields : Limits → FieldMap → Form → Type 0
FitsFields limits map = FitsHash limits (len map) (longest (entries map))

-- The form of a hash of these fields after one was written: the least one that fits and isn't below the old one.
abbrev pub IsRisen : Limits → Form → FieldMap → Form → Type 0
IsRisen limits old map new = IsLeastFrom old (FitsFields limits map) new
