-- The table of the sizes rises, and what a slab of a class has room for.
use Rattle.std.specs.Prelude.{◌≡◌, ℕ, zero, suc, ◌+◌, ◌*◌, ◌/◌, ◌<◌, ◌≤◌, ◌&&◌, Bool, true, nat_lt, nat_le, List, [], ◌∷◌, length, refl}
use Rattle.std.proofs.Common.{arith, get_or, subst, sym, inl, inr}
use Rattle.std.proofs.lemmas.Bool.{and_parts, cases_eq}
use borrow.Author.Tests.{ltb-true, leb-true}
use Rattle.blocks.specs.Slabs.{sizes, size_of, per_slab, IsClassOf}

-- each number is above the one before, and none above 14,336
abbrev are_rising : ℕ → List ℕ → Bool
are_rising low [] = true
are_rising low (x ∷ rest) = nat_lt low x && (nat_le x 14336 && are_rising x rest)

rising : (low : ℕ) (xs : List ℕ) → are_rising low xs ≡ true → (i d : ℕ) → i < length xs
    → (low < get_or xs i d) × (get_or xs i d ≤ 14336)
rising low [] h i d lt = absurd (omega arith)
rising low (x ∷ rest) h zero d lt =
    (let p = and_parts _ _ h in let q = and_parts _ _ p.1 in (ltb-true low x p.0, leb-true x 14336 q.0))
rising low (x ∷ rest) h (suc i) d lt =
    (let p = and_parts _ _ h in let q = and_parts _ _ p.1 in let r = rising x rest q.1 i d (omega arith) in
    let a = ltb-true low x p.0 in let b = r.0 in (omega (arith, a, b), r.1))

rising_pair : (low : ℕ) (xs : List ℕ) → are_rising low xs ≡ true → (i j d : ℕ) → i < j → j < length xs
    → get_or xs i d < get_or xs j d
rising_pair low [] h i j d lt within = absurd (omega arith)
rising_pair low (x ∷ rest) h i zero d lt within = absurd (omega arith)
rising_pair low (x ∷ rest) h zero (suc j) d lt within =
    (let p = and_parts _ _ h in let q = and_parts _ _ p.1 in (rising x rest q.1 j d (omega arith)).0)
rising_pair low (x ∷ rest) h (suc i) (suc j) d lt within =
    (let p = and_parts _ _ h in let q = and_parts _ _ p.1 in rising_pair x rest q.1 i j d (omega arith) (omega arith))

-- inside the table the value for places beyond it doesn't count
one_value : (xs : List ℕ) (i d e : ℕ) → i < length xs → get_or xs i d ≡ get_or xs i e
one_value [] i d e h = absurd (omega arith)
one_value (x ∷ xs) zero d e h = refl
one_value (x ∷ xs) (suc i) d e h = let k : i < length xs = omega arith in one_value xs i d e k

pub size_read : (class d : ℕ) → class < 36 → get_or sizes class d ≡ size_of class
size_read class d lt = one_value sizes class d 65536 lt

pub size_bounds : (class : ℕ) → class < 36 → (8 ≤ size_of class) × (size_of class ≤ 14336)
size_bounds class lt = (let r = rising 7 sizes refl class 65536 lt in r)

pub size_above : (i j : ℕ) → i < j → j < 36 → size_of i < size_of j
size_above i j lt within = rising_pair 7 sizes refl i j 65536 lt within

slots : (size : ℕ) → 8 ≤ size → size ≤ 14336
    → (0 < 65536 / size) × (65536 / size ≤ 8192) × (65536 / size * size ≤ 65536)
slots size least most = (grind (arith, least, most), grind (arith, least, most), grind (arith, least, most))

pub slots_bounds : (class : ℕ) → class < 36
    → (0 < per_slab class) × (per_slab class ≤ 8192) × (per_slab class * size_of class ≤ 65536)
slots_bounds class lt = (let b = size_bounds class lt in slots (size_of class) b.0 b.1)

-- a class whose every lesser one is too small is the least that holds the length
pub class_at : (len low : ℕ) → low < 36 → ((k : ℕ) → k < low → size_of k < len) → len ≤ size_of low → IsClassOf len low
class_at len low lt below holds = record { holds = holds; least = below }

-- where the middle one is too small, so are all below it
pub below_middle : (len low middle : ℕ) → ((k : ℕ) → k < low → size_of k < len) → middle < 36 → size_of middle < len
    → (k : ℕ) → k < middle + 1 → size_of k < len
below_middle len low middle below within short k lt = elim (cases_eq k middle) [
  | inl same ↦ subst (λ i. size_of i < len) (sym same) short
  | inr other ↦ (let a = size_above k middle (omega arith) within in less (size_of k) (size_of middle) len a short)
]
  where
    less : (a b c : ℕ) → a < b → b < c → a < c
    less a b c p q = omega arith
