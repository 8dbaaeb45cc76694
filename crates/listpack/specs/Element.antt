-- An element as code gives it.
use Rattle.std.specs.Prelude.{◌<◌, ◌≤◌, ◌⊎◌, ℕ, Bool, true, false, List}
use Rattle.int_text.specs.Decimal.{canonical}
use Rattle.listpack.specs.declared.encoding.Element.{Element}
use Rattle.listpack.specs.declared.encoding.Element.TheVariants as elements

-- the text that it stands for
abbrev pub element_text : Element → List ℕ
element_text (elements.Text part) = part.now
element_text (elements.Number n) = canonical n

abbrev pub is_number : Element → Bool
is_number (elements.Text part) = false
is_number (elements.Number n) = true

-- the first byte of an entry that is spelled as a number
abbrev pub IsNumberByte : ℕ → Type 0
IsNumberByte b = (b < 0x80) ⊎ ((0xC0 ≤ b) × (b < 0xE0)) ⊎ (0xF1 ≤ b)
