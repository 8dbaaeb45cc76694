-- Finite sets of byte strings, and which form such a set has. (Redis command reference, data type Sets: an unordered
-- collection of unique strings.)
use Rattle.std.specs.Prelude.{◌≡◌, ℕ, Bool, true, ◌&&◌, List, [], ◌∷◌, length, map, max, is_some}
use Rattle.std.specs.Ordering.{nat_cmp}
use Rattle.std.specs.Cmp.Lexicographic.{slice_cmp}
use Rattle.std.specs.FinMap.{FinMap, from_entries, get, keys, len}
use Rattle.int_text.specs.Decimal.{number_of}
use Rattle.object_codec.specs.declared.limits.Limits.{Limits}
use Rattle.object_codec.specs.declared.form.Form.{Form}
use Rattle.object_codec.specs.Forms.{FitsSet, IsLeastFrom}

-- a finite set of strings: a map that has nothing at each
abbrev pub Strings : Type 0
Strings = FinMap (slice_cmp nat_cmp) (Unit {0})

-- the set of the strings of a list
unfoldable pub set_of : List (List ℕ) → Strings
set_of list = from_entries (map (λ (x : List ℕ). (x, tt)) list)

-- the string is in the set
abbrev pub has : Strings → List ℕ → Bool
has set x = is_some (get set x)

-- no string stands twice in the list
abbrev pub IsOnce : List (List ℕ) → Type 0
IsOnce list = len (set_of list) ≡ length list

-- all strings are canonical texts of signed numbers of 64 bits
abbrev pub are_numbers : List (List ℕ) → Bool
are_numbers [] = true
are_numbers (x ∷ xs) = is_some (number_of x) && are_numbers xs

-- the length of the longest string
abbrev pub longest : List (List ℕ) → ℕ
longest [] = 0
longest (x ∷ xs) = max (length x) (longest xs)

-- the forms that a set of these members fits
abbrev pub FitsMembers : Limits → Strings → Form → Type 0
FitsMembers limits set = FitsSet limits (are_numbers (keys set)) (len set) (longest (keys set))

-- The form of a set of these members after one was written: the least one that fits and isn't below the old one.
abbrev pub IsRisen : Limits → Form → Strings → Form → Type 0
IsRisen limits old set new = IsLeastFrom old (FitsMembers limits set) new
