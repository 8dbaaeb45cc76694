-- Whole numbers as decimal text.
use Rattle.std.specs.Prelude.{◌≡◌, ℕ, ◌^◌, ◌<◌, List, ℤ, Option, Some, None, Bool, ◌&&◌, FitsSigned, IfSome, IfNone, bytes_eq, nat_lt, if◌then◌else◌}
use Rattle.std.specs.Fmt.{signed_decimal}
use Rattle.std.specs.Int.{w64}
use Rattle.std.specs.Str.Parse.{IsNumeral, digits_value, signed_digits_value}
use lib.Signed.{mag}

-- The canonical text of a whole number: a minus sign where it is negative, and its decimal digits, of which the first
-- is no 0 but in `0` itself. (Redis command reference: the text of an integer value, as INCR writes it.)
abbrev pub canonical : ℤ → List ℕ
canonical n = signed_decimal n

-- the text is the canonical one of a signed number of 64 bits
abbrev pub IsI64Text : List ℕ → Type 0
IsI64Text text = (n : ℤ) × FitsSigned w64 n × (text ≡ canonical n)

-- the number fits in 64 bits with a sign
abbrev pub is_i64 : ℤ → Bool
is_i64 n = nat_lt (mag n) (2 ^ 63)

-- the number of 64 bits whose canonical text it is, where there is one: the number that the digits make, where its text
-- is this one
abbrev pub number_of : List ℕ → Option ℤ
number_of text = let n = signed_digits_value 10 text in if bytes_eq (canonical n) text && is_i64 n then Some n else None

-- the text is one decimal digit or more, and their number is below 2^64
abbrev pub IsU64Text : List ℕ → Type 0
IsU64Text text = IsNumeral 10 text × (digits_value 10 text < 2 ^ 64)

-- an answer that the clauses of `read_i64` allow
abbrev pub Reads : List ℕ → Option ℤ → Type 0
Reads text answer = IfSome answer (λ n. FitsSigned w64 n × (text ≡ canonical n)) × IfNone answer (¬ (IsI64Text text))

-- Of the text of a number the answer is that number, and of any other text it is none.
pub record PrintedIsReadBack : Type 0 where
  pub number : (n : ℤ) → FitsSigned w64 n → (answer : Option ℤ) → Reads (canonical n) answer → answer ≡ Some n
  pub only : (text : List ℕ) (n : ℤ) → Reads text (Some n) → text ≡ canonical n
