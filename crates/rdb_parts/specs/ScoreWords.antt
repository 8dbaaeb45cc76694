-- The bytes of a score (RDB file format, "Sorted Set Encoding"; IEEE 754, "binary64").
use Rattle.std.specs.Prelude.{ℕ, suc, ◌+◌, ◌-◌, ◌*◌, ◌/◌, ◌^◌, List, ℤ, pos, negsuc, ◌==◌, if◌then◌else◌}
use Rattle.std.specs.Int.{w64, to_le_bytes}
use lib.Count.{count_leading_zeros}

-- how many bits a number has from its first one on
abbrev pub bits_of : ℕ → ℕ
bits_of n = 64 - count_leading_zeros 64 n

-- the number moved so that its first bit stands at that of 2^52
abbrev pub significand : ℕ → ℕ
significand n = n * 2 ^ (53 - bits_of n) / 2 ^ (bits_of n - 53)

-- The word of a whole number from 0 to 2^53: an exponent, which is 1023 for a number of one bit, and the fraction behind
-- the first bit.
unfoldable pub magnitude_word : ℕ → ℕ
magnitude_word n = if n == 0 then 0 else (1022 + bits_of n) * 2 ^ 52 + (significand n - 2 ^ 52)

-- the same with the sign
abbrev pub word_of : ℤ → ℕ
word_of (pos n) = magnitude_word n
word_of (negsuc n) = 2 ^ 63 + magnitude_word (suc n)

-- a score
abbrev pub score_word : ℤ → List ℕ
score_word score = to_le_bytes w64 (word_of score)
