-- Classes of a pattern. (Redis command reference, KEYS: `h[ae]llo`, `h[^e]llo`, `h[a-b]llo`.)
use Rattle.std.specs.Prelude.{ℕ, zero, suc, ◌-◌, min, max, Bool, false, not, List, [], ◌∷◌, drop, if◌then◌else◌, ◌==◌, ◌&&◌, ◌||◌, nat_le, slice_index}
use Rattle.glob.specs.declared.class.Member.{Member}

abbrev pub one : ℕ → ℕ → Member
one byte width = record { least = byte; greatest = byte; width = width }

abbrev pub range : ℕ → ℕ → Member
range x y = record { least = min x y; greatest = max x y; width = 3 }

-- The member that a class begins with. `\` (92) takes the next byte as itself, where there is one. x-y is a range,
-- where all three bytes are there, its ends swapped where needed.
abbrev pub first_member : List ℕ → Member
first_member [] = one 0 1
first_member (x ∷ []) = one x 1
first_member (x ∷ y ∷ []) = if x == 92 then one y 2 else one x 1
first_member (x ∷ y ∷ z ∷ _) = if x == 92 then one y 2 else (if y == 45 then range x z else one x 1)

abbrev pub is_within : Member → ℕ → Bool
is_within member byte = nat_le member.least byte && nat_le byte member.greatest

-- whether a member holds the byte, up to `]` (93) or the pattern's end, where so many bytes are passed first
abbrev pub holds_behind : ℕ → List ℕ → ℕ → Bool
holds_behind passed [] byte = false
holds_behind (suc passed) (x ∷ xs) byte = holds_behind passed xs byte
holds_behind zero (x ∷ xs) byte = if x == 93 then false else
    (let member = first_member (x ∷ xs) in is_within member byte || holds_behind (member.width - 1) xs byte)

-- the pattern behind the class, likewise
abbrev pub rest_behind : ℕ → List ℕ → List ℕ
rest_behind passed [] = []
rest_behind (suc passed) (x ∷ xs) = rest_behind passed xs
rest_behind zero (x ∷ xs) = if x == 93 then xs else rest_behind ((first_member (x ∷ xs)).width - 1) xs

abbrev pub is_negated : List ℕ → Bool
is_negated class = slice_index class 0 == 94

-- the members of a class that stands behind `[`: `^` (94) in front negates them
abbrev pub members_of : List ℕ → List ℕ
members_of class = if is_negated class then drop 1 class else class

-- whether the class takes the byte: one that is empty takes none, and a negated empty one takes each
abbrev pub class_takes : List ℕ → ℕ → Bool
class_takes class byte =
    if is_negated class then not (holds_behind 0 (members_of class) byte) else holds_behind 0 (members_of class) byte

abbrev pub behind_class : List ℕ → List ℕ
behind_class class = rest_behind 0 (members_of class)
