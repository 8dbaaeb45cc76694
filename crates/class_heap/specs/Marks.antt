-- Which slabs a pass keeps.
use Rattle.std.specs.Prelude.{◌≡◌, ℕ, ◌+◌, ◌-◌, ◌/◌, ◌<◌, ◌==◌, Bool, true, false, ◌&&◌, ◌||◌, not, nat_lt}
use Rattle.std.specs.Prelude.{List, [], ◌∷◌, map, sum_by, count_by, length, slice_index_or, Option, Some, None, if◌then◌else◌}
use Rattle.blocks.specs.Slabs.{SlabUse, is_of, is_kept, used_in, per_slab, unmarked, IsFuller}
use Rattle.class_heap.specs.declared.entry.Entry.{Entry}
use Rattle.class_heap.specs.Entries.{use_in, entry_at, block_in}

-- a slab of the class with at least so many blocks
abbrev pub holds_at_least : ℕ → ℕ → Option SlabUse → Bool
holds_at_least class least None = false
holds_at_least class least (Some s) = (s.class == class) && not (nat_lt s.used least)

-- the slab is kept where it is of the class and has more blocks than so many, or as many while some of these are to
-- be kept
abbrev pub marked : ℕ → ℕ → ℕ → Option SlabUse → Option SlabUse
marked class least equal None = None
marked class least equal (Some s) =
    if (s.class == class) && (nat_lt least s.used || ((s.used == least) && nat_lt 0 equal))
    then Some (record { class = s.class; used = s.used; kept = true })
    else Some s

-- how many of these are to be kept after it
abbrev pub equal_after : ℕ → ℕ → ℕ → Option SlabUse → ℕ
equal_after class least equal None = equal
equal_after class least equal (Some s) = if (s.class == class) && (s.used == least) then equal - 1 else equal

-- the slabs in order of their numbers
abbrev pub all_marked : ℕ → ℕ → ℕ → List (Option SlabUse) → List (Option SlabUse)
all_marked class least equal [] = []
all_marked class least equal (o ∷ rest) =
    marked class least equal o ∷ all_marked class least (equal_after class least equal o) rest

-- the uses of all numbers
abbrev pub uses : List Entry → List (Option SlabUse)
uses entries = map use_in entries

-- 1 for a slab of the class that has a block, else 0
abbrev pub filled_in : ℕ → Option SlabUse → ℕ
filled_in class o = if holds_at_least class 1 o then 1 else 0

-- for each class the sum of what is counted of its slabs
pub record IsTally (count : ℕ → Option SlabUse → ℕ) (us : List (Option SlabUse)) (sums : List ℕ) : Type 0 where
  pub classes : length sums ≡ 36
  pub sum : (class : ℕ) → class < 36 → slice_index_or sums class 0 ≡ sum_by (count class) us

-- no slab of the class is kept
abbrev pub IsUnmarked : ℕ → List Entry → Type 0
IsUnmarked class entries =
    (n : ℕ) (s : SlabUse) → use_in (entry_at entries n) ≡ Some s → s.class ≡ class → s.kept ≡ false

-- how many slabs the blocks of the class need
abbrev pub needed_in : ℕ → List Entry → ℕ
needed_in class entries = (sum_by (used_in class) (uses entries) + (per_slab class - 1)) / per_slab class

-- so many slabs of the class are kept, the fullest and among equals those with the lower number
pub record IsMarked (class needed : ℕ) (entries : List Entry) : Type 0 where
  pub kept : count_by (is_kept class) (uses entries) ≡ needed
  pub fullest : (m n : ℕ) (s t : SlabUse) → use_in (entry_at entries m) ≡ Some s → use_in (entry_at entries n) ≡ Some t
      → s.class ≡ class → t.class ≡ class → s.kept ≡ true → t.kept ≡ false → IsFuller m s n t

-- the same blocks, and the same slabs but for the marks of a class
pub record IsMarking (class : ℕ) (old new : List Entry) : Type 0 where
  pub long : length new ≡ length old
  pub blocks : (n slot : ℕ) → block_in (entry_at new n) slot ≡ block_in (entry_at old n) slot
  pub same : (n : ℕ) → unmarked (use_in (entry_at new n)) ≡ unmarked (use_in (entry_at old n))
  pub others : (n : ℕ) → is_of class (use_in (entry_at old n)) ≡ false
      → use_in (entry_at new n) ≡ use_in (entry_at old n)
