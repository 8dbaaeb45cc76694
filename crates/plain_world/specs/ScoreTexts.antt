-- Words as scores and as ends of ranges of scores, read from their front (Redis command reference, ZADD and ZRANGEBYSCORE).
use Rattle.std.specs.Prelude.{ℕ, ◌+◌, ◌*◌, ◌^◌, ◌/◌, ◌%◌, ◌==◌, List, [], ◌∷◌, ◌++◌, length, ℤ, pos, neg_ℤ, Option, None, Some, Bool, false, ◌&&◌, ◌||◌, nat_le, nat_lt, bytes_eq, codes}
use Rattle.std.specs.Prelude.{Result, Ok, Err, if◌then◌else◌}
use Rattle.std.specs.Char.{is_ascii_digit}
use Rattle.std.specs.Str.{all_ascii_digits}
use Rattle.std.specs.Str.Parse.{digits_value}
use Rattle.int_text.specs.Score.{Number}
use Rattle.int_text.specs.declared.score.ScoreFault.{ScoreFault}
use Rattle.int_text.specs.declared.score.ScoreFault.TheVariants.{Malformed, NotWhole, TooLarge}
use Rattle.plain_world.specs.Words.{in_lower_case}

-- the digits in front
abbrev pub digits_in_front : List ℕ → List ℕ
digits_in_front [] = []
digits_in_front (byte ∷ text) = if is_ascii_digit byte then byte ∷ digits_in_front text else []

-- what stands behind them
abbrev pub behind_digits : List ℕ → List ℕ
behind_digits [] = []
behind_digits (byte ∷ text) = if is_ascii_digit byte then behind_digits text else byte ∷ text

-- a `-` stands in front
abbrev pub is_negative : List ℕ → Bool
is_negative [] = false
is_negative (byte ∷ text) = byte == 45

-- the text without a sign in front
abbrev pub unsigned : List ℕ → List ℕ
unsigned [] = []
unsigned (byte ∷ text) = if (byte == 45) || (byte == 43) then text else byte ∷ text

-- the digits behind a point in front, and what stands behind them; without a point none, and all
abbrev pub fraction_of : List ℕ → List ℕ
fraction_of [] = []
fraction_of (byte ∷ text) = if byte == 46 then digits_in_front text else []

abbrev pub behind_fraction : List ℕ → List ℕ
behind_fraction [] = []
behind_fraction (byte ∷ text) = if byte == 46 then behind_digits text else byte ∷ text

-- one digit or more behind a sign that may stand: whether it is `-`, and their number
abbrev pub power_of : List ℕ → Option (Bool × ℕ)
power_of text =
    if nat_lt 0 (length (unsigned text)) && all_ascii_digits (unsigned text)
    then Some (is_negative text, digits_value 10 (unsigned text)) else None

-- the exponent that a text is: none, or `e` or `E` and a power
abbrev pub exponent_of : List ℕ → Option (Bool × ℕ)
exponent_of [] = Some (false, 0)
exponent_of (byte ∷ text) = if (byte == 101) || (byte == 69) then power_of text else None

abbrev pub with_exponent : List ℕ → List ℕ → Option (Bool × ℕ) → Option Number
with_exponent whole fraction None = None
with_exponent whole fraction (Some exponent) =
    Some (record { whole = whole; fraction = fraction; divides = exponent.0; power = exponent.1 })

-- the number that a text without a sign is: digits, a fraction and an exponent, and one digit before it at least
abbrev pub number_in : List ℕ → Option Number
number_in body =
    let whole = digits_in_front body in
    let rest = behind_digits body in
    if nat_lt 0 (length whole + length (fraction_of rest))
    then with_exponent whole (fraction_of rest) (exponent_of (behind_fraction rest)) else None

-- what it means, if that is a whole number of at most 2^53
abbrev pub value_of : Number → Result ℕ ScoreFault
value_of number =
    let over = digits_value 10 (number.whole ++ number.fraction) * 10 ^ (if number.divides then 0 else number.power) in
    let under = 10 ^ (length number.fraction + (if number.divides then number.power else 0)) in
    if over % under == 0
    then (if nat_le (over / under) (2 ^ 53) then Ok (over / under) else Err TooLarge) else Err NotWhole

abbrev pub is_infinity_word : List ℕ → Bool
is_infinity_word word = bytes_eq (in_lower_case word) (codes "inf") || bytes_eq (in_lower_case word) (codes "infinity")

abbrev pub with_sign : Bool → Result ℕ ScoreFault → Result ℤ ScoreFault
with_sign negative (Ok n) = Ok (if negative then neg_ℤ (pos n) else pos n)
with_sign negative (Err fault) = Err fault

abbrev pub score_in : Bool → Option Number → Result ℤ ScoreFault
score_in negative None = Err Malformed
score_in negative (Some number) = with_sign negative (value_of number)

-- The score that a text means: the whole number of a sign that may stand and a number, of magnitude at most 2^53, or why
-- there is none. An infinity is too large.
abbrev pub score_of : List ℕ → Result ℤ ScoreFault
score_of text =
    if is_infinity_word (unsigned text) then Err TooLarge else score_in (is_negative text) (number_in (unsigned text))
