-- The intset, Redis's packed form of a set of whole numbers (`intset.h` of Redis 7.2, and the
-- intset of the RDB format): the width of a number in bytes as four bytes, how many numbers there
-- are as four bytes, and then the numbers, signed, each of that width and each greater than the
-- one before it. All numbers stand with their lowest byte first.
use Rattle.std.specs.Prelude.{◌≡◌, ℕ, zero, suc, ◌+◌, ◌*◌, ◌^◌, ◌≤◌, ◌⊎◌, Bool, not, nat_lt, if◌then◌else◌, List, [], ◌∷◌, length, drop, ℤ, pos, negsuc, int_lt, ◌<ℤ◌}
use Rattle.std.specs.List.{AllPairs, count_by, filter, insert}
use Rattle.std.specs.Ordering.{int_eq}
use Rattle.byteorder.specs.Endian.{little_number, twos_complement}
use Rattle.intset.specs.declared.ints.IntsetFault.{IntsetFault}
use Rattle.intset.specs.declared.ints.IntsetFault.TheVariants.{Width, Length, Order}

-- the width that the first four bytes tell, and the count that the next four tell
unfoldable pub width_of : List ℕ → ℕ
width_of bytes = little_number 4 bytes

unfoldable pub count_of : List ℕ → ℕ
count_of bytes = little_number 4 (drop 4 bytes)

-- the signed number in the first bytes, as many as the width says
unfoldable pub first_number : ℕ → List ℕ → ℤ
first_number width packed = twos_complement width (little_number width packed)

-- so many numbers of that width, one after the other
abbrev pub packed_numbers : ℕ → ℕ → List ℕ → List ℤ
packed_numbers width zero packed = []
packed_numbers width (suc count) packed =
    first_number width packed ∷ packed_numbers width count (drop width packed)

-- the numbers that the bytes tell
unfoldable pub numbers_of : List ℕ → List ℤ
numbers_of bytes = packed_numbers (width_of bytes) (count_of bytes) (drop 8 bytes)

-- a number takes two, four or eight bytes
abbrev pub IsWidth : ℕ → Type 0
IsWidth width = (width ≡ 2) ⊎ ((width ≡ 4) ⊎ (width ≡ 8))

-- the bytes begin with a width
pub record HasWidth (bytes : List ℕ) : Type 0 where
  pub told : 4 ≤ length bytes
  pub width : IsWidth (width_of bytes)

-- there are the eight bytes of the head, as many bytes as the told numbers take, and no more
abbrev pub HasLength : List ℕ → Type 0
HasLength bytes = length bytes ≡ 8 + width_of bytes * count_of bytes

-- each number is less than each later one
abbrev pub IsRising : List ℤ → Type 0
IsRising numbers = AllPairs (λ x y. x <ℤ y) numbers

-- the bytes are the intset of these numbers
pub record IsIntset (bytes : List ℕ) (numbers : List ℤ) : Type 0 where
  pub width : HasWidth bytes
  pub length : HasLength bytes
  pub listed : numbers ≡ numbers_of bytes
  pub rising : IsRising numbers

-- the first of the three things that is wrong with the bytes
abbrev pub HasFault : List ℕ → IntsetFault → Type 0
HasFault bytes Width = ¬ HasWidth bytes
HasFault bytes Length = HasWidth bytes × ¬ HasLength bytes
HasFault bytes Order = HasWidth bytes × HasLength bytes × ¬ IsRising (numbers_of bytes)

-- the numbers of the faults, in the order in which they are looked for
abbrev pub fault_number : IntsetFault → ℕ
fault_number Width = 1
fault_number Length = 2
fault_number Order = 3

-- the number lies from -limit up to limit, which is left out
abbrev pub is_within : ℕ → ℤ → Bool
is_within limit (pos n) = nat_lt n limit
is_within limit (negsuc n) = nat_lt n limit

-- the least width that holds a number
abbrev pub width_for : ℤ → ℕ
width_for n = if is_within (2 ^ 15) n then 2 else if is_within (2 ^ 31) n then 4 else 8

-- the numbers with n put in behind those that are less
abbrev pub with_number : List ℤ → ℤ → List ℤ
with_number numbers n = insert numbers (count_by (λ x. int_lt x n) numbers) n

-- the numbers without n
abbrev pub without_number : List ℤ → ℤ → List ℤ
without_number numbers n = filter (λ x. not (int_eq x n)) numbers
