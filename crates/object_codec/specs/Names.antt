-- The encodings of strings. (Redis command reference, OBJECT ENCODING: int, embstr, raw.)
use Rattle.std.specs.Prelude.{◌≡◌, ℕ, ◌≤◌, ◌<◌, ◌⊎◌, Bool, true, false, List, length, codes}
use Rattle.int_text.specs.Decimal.{IsI64Text}
use Rattle.object_codec.specs.declared.name.Name.{Name}
use Rattle.object_codec.specs.declared.name.Name.TheVariants.{Int, Embstr, Raw}

-- A number has the name int, another text embstr up to 44 bytes, and a longer one raw, as has each that was made raw.
abbrev pub IsNameOf : List ℕ → Bool → Name → Type 0
IsNameOf text raw Int = (raw ≡ false) × IsI64Text text
IsNameOf text raw Embstr = (raw ≡ false) × ¬ (IsI64Text text) × (length text ≤ 44)
IsNameOf text raw Raw = (raw ≡ true) ⊎ (¬ (IsI64Text text) × (44 < length text))

abbrev pub name_text : Name → List ℕ
name_text Int = codes "int"
name_text Embstr = codes "embstr"
name_text Raw = codes "raw"
