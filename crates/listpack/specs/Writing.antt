-- How an element is spelled by a writer: the shortest number form for a canonical text of a signed number of 64 bits,
-- else the shortest string form. (Listpack specification, "Element encoding".)
use Rattle.std.specs.Prelude.{ℕ, ◌+◌, ◌-◌, ◌/◌, ◌%◌, ◌^◌, ◌<◌, Bool, false, List, [], ◌∷◌, ◌++◌, length, ℤ, pos, negsuc, nat_lt, if◌then◌else◌, Option, Some, None}
use Rattle.std.specs.Int.{w64}
use Rattle.byteorder.specs.Endian.{little_bytes, low_bytes}
use Rattle.int_text.specs.Decimal.{number_of}
use Rattle.listpack.specs.Entry.{entry_of}

-- the number, or of a negative one how far it is below -1
abbrev pub magnitude : ℤ → ℕ
magnitude (pos n) = n
magnitude (negsuc n) = n

-- two's complement of k bits and a sign holds the number
abbrev pub has_bits : ℕ → ℤ → Bool
has_bits k n = nat_lt (magnitude n) (2 ^ k)

-- from 0 to 127
abbrev pub is_small : ℤ → Bool
is_small (pos n) = nat_lt n 128
is_small (negsuc n) = false

-- two's complement of 13 bits
abbrev pub thirteen_low : ℤ → ℕ
thirteen_low (pos n) = n
thirteen_low (negsuc n) = 8191 - n

-- encoding and content of a number
unfoldable pub number_spelling : ℤ → List ℕ
number_spelling n =
    if is_small n then magnitude n ∷ [] else
    if has_bits 12 n then (0xC0 + thirteen_low n / 256) ∷ thirteen_low n % 256 ∷ [] else
    if has_bits 15 n then 0xF1 ∷ little_bytes 2 (low_bytes w64 2 n) else
    if has_bits 23 n then 0xF2 ∷ little_bytes 3 (low_bytes w64 3 n) else
    if has_bits 31 n then 0xF3 ∷ little_bytes 4 (low_bytes w64 4 n) else
    0xF4 ∷ little_bytes 8 (low_bytes w64 8 n)

-- the encoding of a string of n bytes
unfoldable pub text_head : ℕ → List ℕ
text_head n =
    if nat_lt n 64 then (0x80 + n) ∷ [] else
    if nat_lt n 4096 then (0xE0 + n / 256) ∷ n % 256 ∷ [] else
    0xF0 ∷ little_bytes 4 n

-- encoding and content of an element
abbrev pub spelling_by : Option ℤ → List ℕ → List ℕ
spelling_by (Some n) text = number_spelling n
spelling_by None text = text_head (length text) ++ text

unfoldable pub spelling : List ℕ → List ℕ
spelling text = spelling_by (number_of text) text

-- the whole entry of an element
abbrev pub entry : List ℕ → List ℕ
entry text = entry_of (spelling text)

-- with the element put into it, a listpack stays below 2^32 bytes
abbrev pub Fits : List ℕ → List ℕ → Type 0
Fits pack text = length pack + length (entry text) < 2 ^ 32
