-- What the parts of a score text are found to be.
use Rattle.std.specs.Prelude.{◌≡◌, ℕ, ◌-◌, ◌^◌, min, Bool, List, ◌++◌, Option, Some, None, Result, Ok, Err, ◌<◌, ◌+◌, ◌⊎◌, length, ℤ, pos, neg_ℤ, if◌then◌else◌}
use Rattle.std.specs.Str.Parse.{IsNumeral, digits_value}
use Rattle.int_text.specs.declared.score.ScoreFault.{ScoreFault}
use Rattle.int_text.specs.declared.score.ScoreFault.TheVariants.{Malformed, NotWhole, TooLarge}
use Rattle.int_text.specs.declared.value.Exponent.{Exponent}
use Rattle.int_text.specs.Score.{Number, IsNumber, IsSign, IsExponent, IsValue, IsInfinityWord}

-- a power, cut at the greatest number that the code holds
abbrev pub capped : ℕ → ℕ
capped power = min power (2 ^ 64 - 1)

-- what is found of these digits, whatever power was cut to this one
abbrev pub IsValueRead : List ℕ → List ℕ → Bool → ℕ → Result ℕ ScoreFault → Type 0
IsValueRead whole fraction divides cut result =
    (power : ℕ) → cut ≡ capped power
    → IsValue (record { whole = whole; fraction = fraction; divides = divides; power = power }) result

-- what is found of the digits of an exponent behind its sign
abbrev pub IsPowerRead : Bool → List ℕ → Option Exponent → Type 0
IsPowerRead divides digits None = ¬ (IsNumeral 10 digits)
IsPowerRead divides digits (Some e) =
    IsNumeral 10 digits × (e.divides ≡ divides) × (e.power ≡ capped (digits_value 10 digits))

-- what is found of the sign and the digits of an exponent
abbrev pub IsSignedPowerRead : List ℕ → Option Exponent → Type 0
IsSignedPowerRead text None =
    (sign digits : List ℕ) (divides : Bool) → IsSign sign divides → text ≡ sign ++ digits → ¬ (IsNumeral 10 digits)
IsSignedPowerRead text (Some e) =
    (sign : List ℕ) × (digits : List ℕ) × IsSign sign e.divides × (text ≡ sign ++ digits) × IsNumeral 10 digits
    × (e.power ≡ capped (digits_value 10 digits))

-- what is found of an exponent
abbrev pub IsExponentRead : List ℕ → Option Exponent → Type 0
IsExponentRead text None = (divides : Bool) (power : ℕ) → ¬ (IsExponent text divides power)
IsExponentRead text (Some e) = (power : ℕ) × IsExponent text e.divides power × (e.power ≡ capped power)

-- the text behind these digits ends a number
abbrev pub IsTail : List ℕ → List ℕ → List ℕ → Bool → ℕ → Type 0
IsTail whole fraction tail divides power = (0 < length whole + length fraction) × IsExponent tail divides power

abbrev pub IsTailRead : List ℕ → List ℕ → List ℕ → Result ℕ ScoreFault → Type 0
IsTailRead whole fraction tail (Err Malformed) =
    (divides : Bool) (power : ℕ) → ¬ (IsTail whole fraction tail divides power)
IsTailRead whole fraction tail (Err NotWhole) =
    (divides : Bool) × (power : ℕ) × IsTail whole fraction tail divides power
    × IsValue (record { whole = whole; fraction = fraction; divides = divides; power = power }) (Err NotWhole)
IsTailRead whole fraction tail (Err TooLarge) =
    (divides : Bool) × (power : ℕ) × IsTail whole fraction tail divides power
    × IsValue (record { whole = whole; fraction = fraction; divides = divides; power = power }) (Err TooLarge)
IsTailRead whole fraction tail (Ok n) =
    (divides : Bool) × (power : ℕ) × IsTail whole fraction tail divides power
    × IsValue (record { whole = whole; fraction = fraction; divides = divides; power = power }) (Ok n)

-- what is found of a number without a sign
abbrev pub IsNumberRead : List ℕ → Result ℕ ScoreFault → Type 0
IsNumberRead body (Err Malformed) = (number : Number) → ¬ (IsNumber body number)
IsNumberRead body (Err NotWhole) = (number : Number) × IsNumber body number × IsValue number (Err NotWhole)
IsNumberRead body (Err TooLarge) = (number : Number) × IsNumber body number × IsValue number (Err TooLarge)
IsNumberRead body (Ok n) = (number : Number) × IsNumber body number × IsValue number (Ok n)

-- what is found of a number or an infinity behind its sign
abbrev pub IsSignedRead : Bool → List ℕ → Result ℤ ScoreFault → Type 0
IsSignedRead negative body (Err Malformed) = IsNumberRead body (Err Malformed) × ¬ (IsInfinityWord body)
IsSignedRead negative body (Err NotWhole) = IsNumberRead body (Err NotWhole)
IsSignedRead negative body (Err TooLarge) = IsInfinityWord body ⊎ IsNumberRead body (Err TooLarge)
IsSignedRead negative body (Ok z) =
    (n : ℕ) × IsNumberRead body (Ok n) × (z ≡ (if negative then neg_ℤ (pos n) else pos n))
