-- Score texts, and the whole numbers that they mean. (Redis command reference, ZADD: a score is the text of a floating
-- point number. Here the whole ones of magnitude at most 2^53 are taken, which such numbers hold exactly.)
use Rattle.std.specs.Prelude.{◌≡◌, ℕ, ◌+◌, ◌*◌, ◌^◌, ◌<◌, ◌≤◌, ◌⊎◌, Bool, true, false, List, [], ◌∷◌, ◌++◌, length, Result, Ok, Err, if◌then◌else◌, ℤ, pos, neg_ℤ, codes}
use Rattle.std.specs.Str.{str_to_ascii_lowercase}
use Rattle.std.specs.Str.Parse.{AllDigits, IsNumeral, digits_value}
use Rattle.int_text.specs.declared.score.ScoreFault.{ScoreFault}
use Rattle.int_text.specs.declared.score.ScoreFault.TheVariants.{Malformed, NotWhole, TooLarge}

-- a sign that may stand: none, `+` or `-`, which makes negative
pub data IsSign : List ℕ → Bool → Type 0 where
  no_sign : IsSign [] false
  plus : IsSign (43 ∷ []) false
  minus : IsSign (45 ∷ []) true

-- nothing, or a `.` and the digits of the fraction, maybe none
pub data IsFraction : List ℕ → List ℕ → Type 0 where
  no_point : IsFraction [] []
  point : (digits : List ℕ) → AllDigits 10 digits → IsFraction (46 ∷ digits) digits

-- nothing, or `e` or `E`, a sign that may stand, and one digit or more: whether to divide, and by which power of ten
pub data IsExponent : List ℕ → Bool → ℕ → Type 0 where
  no_exponent : IsExponent [] false 0
  exponent : (mark : ℕ) (sign digits : List ℕ) (divides : Bool) → (mark ≡ 101) ⊎ (mark ≡ 69) → IsSign sign divides
      → IsNumeral 10 digits
      → IsExponent (mark ∷ sign ++ digits) divides (digits_value 10 digits)

-- The parts of a number without a sign: digits, a fraction and an exponent, with one digit at least before the
-- exponent.
pub record Number : Type 0 where
  pub whole : List ℕ
  pub fraction : List ℕ
  pub divides : Bool
  pub power : ℕ

pub record IsNumber (body : List ℕ) (number : Number) : Type 0 where
  pub point_text : List ℕ
  pub exponent_text : List ℕ
  pub body_is : body ≡ number.whole ++ (point_text ++ exponent_text)
  pub digits : AllDigits 10 number.whole
  pub is_fraction : IsFraction point_text number.fraction
  pub is_exponent : IsExponent exponent_text number.divides number.power
  pub some : 0 < length number.whole + length number.fraction

-- The value is the number n: the digits, as one number, times the power of ten, over a power for each digit of the
-- fraction.
abbrev pub IsInteger : Number → ℕ → Type 0
IsInteger number n =
    digits_value 10 (number.whole ++ number.fraction) * 10 ^ (if number.divides then 0 else number.power)
    ≡ n * 10 ^ (length number.fraction + (if number.divides then number.power else 0))

-- what is found of a number without a sign
abbrev pub IsValue : Number → Result ℕ ScoreFault → Type 0
IsValue number (Ok n) = IsInteger number n × (n ≤ 2 ^ 53)
IsValue number (Err Malformed) = ⊥
IsValue number (Err NotWhole) = (n : ℕ) → ¬ (IsInteger number n)
IsValue number (Err TooLarge) = (n : ℕ) × IsInteger number n × (2 ^ 53 < n)

-- A score text is a sign that may stand and a number.
pub record IsScoreText (text : List ℕ) (negative : Bool) (number : Number) : Type 0 where
  pub sign : List ℕ
  pub body : List ℕ
  pub text_is : text ≡ sign ++ body
  pub is_sign : IsSign sign negative
  pub is_number : IsNumber body number

-- `inf` or `infinity`, in any case
abbrev pub IsInfinityWord : List ℕ → Type 0
IsInfinityWord word = (str_to_ascii_lowercase word ≡ codes "inf") ⊎ (str_to_ascii_lowercase word ≡ codes "infinity")

pub record IsInfinity (text : List ℕ) : Type 0 where
  pub sign : List ℕ
  pub word : List ℕ
  pub negative : Bool
  pub text_is : text ≡ sign ++ word
  pub is_sign : IsSign sign negative
  pub is_word : IsInfinityWord word

-- The score of a text: the whole number that it means, of magnitude at most 2^53, or why there is none. A malformed
-- text is neither a score text nor an infinity; a value that is not whole is so whatever its magnitude; too large is a
-- whole value above 2^53 in magnitude, or an infinity.
abbrev pub IsScoreOf : List ℕ → Result ℤ ScoreFault → Type 0
IsScoreOf text (Ok z) =
    (negative : Bool) × (number : Number) × (n : ℕ) × IsScoreText text negative number × IsInteger number n × (n ≤ 2 ^ 53)
    × (z ≡ (if negative then neg_ℤ (pos n) else pos n))
IsScoreOf text (Err Malformed) =
    ((negative : Bool) (number : Number) → ¬ (IsScoreText text negative number)) × ¬ (IsInfinity text)
IsScoreOf text (Err NotWhole) =
    (negative : Bool) × (number : Number) × IsScoreText text negative number × ((n : ℕ) → ¬ (IsInteger number n))
IsScoreOf text (Err TooLarge) =
    IsInfinity text
    ⊎ ((negative : Bool) × (number : Number) × (n : ℕ) × IsScoreText text negative number × IsInteger number n
    × (2 ^ 53 < n))

-- a text has one score, or one fault
abbrev pub ScoresAreOne : Type 0
ScoresAreOne = (text : List ℕ) (r s : Result ℤ ScoreFault) → IsScoreOf text r → IsScoreOf text s → r ≡ s

-- the number of each fault
abbrev pub fault_number : ScoreFault → ℕ
fault_number Malformed = 1
fault_number NotWhole = 2
fault_number TooLarge = 3
