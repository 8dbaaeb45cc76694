-- The score of a member in a plain sorted set: a binary number of 64 bits (RDB file format, "Sorted Set Encoding";
-- IEEE 754, "binary64").
use Rattle.std.specs.Prelude.{ℕ, ◌+◌, ◌-◌, ◌*◌, ◌/◌, ◌%◌, ◌^◌, Bool, ◌==◌, ◌&&◌, ◌≡◌, nat_le, true, false, if◌then◌else◌, ℤ, pos, neg_ℤ, Option, Some, None}
use Rattle.std.specs.Int.{w64}
use Rattle.rdb_grammar.specs.declared.fault.LoadKind.TheVariants as kinds
use Rattle.rdb_grammar.specs.Format.{Format, give, followed, checked}
use Rattle.rdb_grammar.specs.Lengths.{number_le}

-- its bits: a sign, 11 of an exponent, 52 of a fraction
abbrev pub sign : ℕ → ℕ
sign word = word / 2 ^ 63

abbrev pub exponent : ℕ → ℕ
exponent word = word / 2 ^ 52 % 2 ^ 11

abbrev pub fraction : ℕ → ℕ
fraction word = word % 2 ^ 52

-- the magnitude of a word with the exponent e and the fraction f is (2 ^ 52 + f) * 2 ^ (e - 1075): one number over another
abbrev pub over : ℕ → ℕ → ℕ
over e f = (2 ^ 52 + f) * 2 ^ (e - 1075)

abbrev pub under : ℕ → ℕ
under e = 2 ^ (1075 - e)

-- 0, of either sign
abbrev pub is_zero : ℕ → ℕ → Bool
is_zero e f = (e == 0) && (f == 0)

-- finite, not below the least exponent, whole, and of a magnitude of 2 ^ 53 at most
abbrev pub is_whole : ℕ → ℕ → Bool
is_whole e f = nat_le 1 e && nat_le e 2046 && (over e f % under e == 0) && nat_le (over e f / under e) (2 ^ 53)

abbrev pub is_taken : ℕ → ℕ → Bool
is_taken e f = if is_zero e f then true else is_whole e f

abbrev pub magnitude : ℕ → ℕ → ℕ
magnitude e f = if is_zero e f then 0 else over e f / under e

abbrev pub is_score : ℕ → Bool
is_score word = is_taken (exponent word) (fraction word)

abbrev pub signed : ℕ → ℕ → ℤ
signed sign m = if sign == 0 then pos m else neg_ℤ (pos m)

abbrev pub score_of : ℕ → ℤ
score_of word = signed (sign word) (magnitude (exponent word) (fraction word))

-- the magnitude that was found, or that there is none
abbrev pub IsMagnitude : ℕ → ℕ → Option ℕ → Type 0
IsMagnitude e f None = is_taken e f ≡ false
IsMagnitude e f (Some m) = (is_taken e f ≡ true) × (m ≡ magnitude e f)

-- the score that was found, or that there is none
abbrev pub IsScore : ℕ → Option ℤ → Type 0
IsScore word None = is_score word ≡ false
IsScore word (Some n) = (is_score word ≡ true) × (n ≡ score_of word)

-- a score, lowest byte first
abbrev pub score : Format ℤ
score = followed (checked kinds.ScoreRange 0 is_score (number_le w64)) λ word. give (score_of word)
