-- One entry of a listpack: encoding, content, back length. (Listpack specification, "Entry format".)
use Rattle.std.specs.Prelude.{◌≡◌, ℕ, ◌+◌, ◌-◌, ◌*◌, ◌/◌, ◌%◌, ◌^◌, List, [], ◌∷◌, ◌++◌, length, drop, slice_index, ℤ, pos, ◌-ℤ◌, nat_lt, if◌then◌else◌}
use Rattle.int_text.specs.Decimal.{canonical}
use Rattle.byteorder.specs.Endian.{little_number, twos_complement}

-- What an entry's first byte says of the bytes behind it.
pub data Encoding : Type 0 where
  SmallNumber : Encoding
  ShortText : Encoding
  ThirteenBits : Encoding
  MediumText : Encoding
  LongText : Encoding
  Signed : ℕ → Encoding
  NoEncoding : Encoding

-- 0xxxxxxx, 10xxxxxx, 110xxxxx, 1110xxxx, F0, F1 to F4 for numbers of 2, 3, 4 and 8 bytes, and F5 to FF for none
abbrev pub encoding_of : ℕ → Encoding
encoding_of b =
    if nat_lt b 0x80 then SmallNumber else
    if nat_lt b 0xC0 then ShortText else
    if nat_lt b 0xE0 then ThirteenBits else
    if nat_lt b 0xF0 then MediumText else
    if nat_lt b 0xF1 then LongText else
    if nat_lt b 0xF2 then Signed 2 else
    if nat_lt b 0xF3 then Signed 3 else
    if nat_lt b 0xF4 then Signed 4 else
    if nat_lt b 0xF5 then Signed 8 else NoEncoding

-- How many bytes encoding and content take, by the first byte b and the bytes behind it, where missing ones count as
-- zeros. A byte that is no encoding asks for more than there are.
abbrev pub needed_by : Encoding → ℕ → List ℕ → ℕ
needed_by SmallNumber b more = 1
needed_by ShortText b more = 1 + (b - 0x80)
needed_by ThirteenBits b more = 2
needed_by MediumText b more = 2 + ((b - 0xE0) * 256 + slice_index more 0)
needed_by LongText b more = 5 + little_number 4 more
needed_by (Signed n) b more = 1 + n
needed_by NoEncoding b more = 2 + length more

-- The same for the bytes from the entry on.
unfoldable pub needed : List ℕ → ℕ
needed [] = 1
needed (b ∷ more) = needed_by (encoding_of b) b more

-- These bytes, all of them, are the encoding and content of an entry: its spelling.
abbrev pub IsSpelling : List ℕ → Type 0
IsSpelling s = length s ≡ needed s

-- the signed number of 13 bits, as two's complement
abbrev pub thirteen_bits : ℕ → ℤ
thirteen_bits x = if nat_lt x 4096 then pos x else pos x -ℤ pos 8192

-- What the content says: a string is its bytes, a number its decimal text.
abbrev pub text_by : Encoding → ℕ → List ℕ → List ℕ
text_by SmallNumber b more = canonical (pos b)
text_by ShortText b more = more
text_by ThirteenBits b more = canonical (thirteen_bits ((b - 0xC0) * 256 + slice_index more 0))
text_by MediumText b more = drop 1 more
text_by LongText b more = drop 4 more
text_by (Signed n) b more = canonical (twos_complement n (little_number n more))
text_by NoEncoding b more = []

unfoldable pub text_of : List ℕ → List ℕ
text_of [] = []
text_of (b ∷ more) = text_by (encoding_of b) b more

-- seven bits of n, marked as not the first ones
abbrev pub seven_bits : ℕ → ℕ
seven_bits n = 0x80 + n % 128

-- The back length of n bytes: seven bits a byte, the highest first, all but the first byte with the top bit set. It has
-- one byte up to 127, two below 16,383, three below 2,097,151, four below 268,435,455, and else five.
unfoldable pub back_length : ℕ → List ℕ
back_length n =
    if nat_lt n 128 then n ∷ [] else
    if nat_lt n 16383 then n / 128 ∷ seven_bits n ∷ [] else
    if nat_lt n 2097151 then n / 128 ^ 2 ∷ seven_bits (n / 128) ∷ seven_bits n ∷ [] else
    if nat_lt n 268435455 then n / 128 ^ 3 ∷ seven_bits (n / 128 ^ 2) ∷ seven_bits (n / 128) ∷ seven_bits n ∷ [] else
    n / 128 ^ 4 ∷ seven_bits (n / 128 ^ 3) ∷ seven_bits (n / 128 ^ 2) ∷ seven_bits (n / 128) ∷ seven_bits n ∷ []

-- the whole entry of a spelling
abbrev pub entry_of : List ℕ → List ℕ
entry_of s = s ++ back_length (length s)

-- The back lengths next to the limits of their widths.
pub record BackLengthLimits : Type 0 where
  pub one : back_length 127 ≡ 0x7F ∷ []
  pub two : back_length 128 ≡ 0x01 ∷ 0x80 ∷ []
  pub two_last : back_length 16382 ≡ 0x7F ∷ 0xFE ∷ []
  pub three : back_length 16383 ≡ 0x00 ∷ 0xFF ∷ 0xFF ∷ []
  pub three_last : back_length 2097150 ≡ 0x7F ∷ 0xFF ∷ 0xFE ∷ []
  pub four : back_length 2097151 ≡ 0x00 ∷ 0xFF ∷ 0xFF ∷ 0xFF ∷ []
  pub four_last : back_length 268435454 ≡ 0x7F ∷ 0xFF ∷ 0xFF ∷ 0xFE ∷ []
  pub five : back_length 268435455 ≡ 0x00 ∷ 0xFF ∷ 0xFF ∷ 0xFF ∷ 0xFF ∷ []
