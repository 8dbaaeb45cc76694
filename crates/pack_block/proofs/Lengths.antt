-- Lengths that have one class.
use Rattle.std.proofs.Common.{◌≡◌, ◌↔◌, Bool, true, false, IsTrue, Option, Some, None, ℕ, zero, suc, ◌<◌, ◌≤◌, List, [], ◌∷◌, length, get_or, refl, inl, inr, arith, subst}
use Rattle.std.proofs.lemmas.Bool.{cases_lt}
use Rattle.blocks.specs.declared.BlockRef.{BlockRef}
use Rattle.blocks.specs.Blocks.{Blocks}
use Rattle.blocks.specs.Slabs.{sizes, size_of, IsClassOf, Heap, SlabUse, slab_at, IsSlabFor, Stretches, IsSoundHeap}

one_value : (xs : List ℕ) (i d e : ℕ) → i < length xs → get_or xs i d ≡ get_or xs i e
one_value [] i d e h = absurd (omega arith)
one_value (x ∷ xs) zero d e h = refl
one_value (x ∷ xs) (suc i) d e h = let k : i < length xs = omega arith in one_value xs i d e k

pub size_read : (class d : ℕ) → class < 36 → get_or sizes class d ≡ size_of class
size_read class d lt = one_value sizes class d 65536 lt

-- the least class that holds a length holds a longer one too: then both have it
pub class_shared : (len longer least class : ℕ) → len ≤ longer → ((k : ℕ) → k < least → size_of k < len) → longer ≤ size_of least → IsClassOf longer class → IsClassOf len class
class_shared len longer least class shorter below holds has = record {
  holds = (let h = has.holds in omega (arith, h, shorter));
  least = λ smaller under. elim (cases_lt smaller least) [
    | inl low ↦ below smaller low
    | inr high ↦ absurd (let l = has.least least (omega (arith, high, under)) in omega (arith, l, holds))
  ];
}

-- the other way round
pub class_least : (len longer least class : ℕ) → ((k : ℕ) → k < least → size_of k < len) → len ≤ size_of least → IsClassOf longer class → IsClassOf len class → longer ≤ size_of least
class_least len longer least class below holds has both = elim (cases_lt least class) [
  | inl low ↦ absurd (let l = both.least least low in omega (arith, l, holds))
  | inr high ↦ elim (cases_lt class least) [
    | inl low ↦ absurd (let l = below class low in let h = both.holds in omega (arith, l, h))
    | inr also ↦ (let same : class ≡ least = omega (arith, high, also) in subst (λ k. longer ≤ size_of k) same has.holds)
  ]
]

-- a block of a slab may have a length of the same class
pub one_class : (m : Blocks) (h : Heap) (at : BlockRef) (bytes : List ℕ) (len : ℕ) (same : Bool) → IsSoundHeap m h → m at ≡ Some bytes
    → ((class : ℕ) → class < 36 → IsClassOf (length bytes) class → (IsTrue same ↔ IsClassOf len class)) → same ≡ true
    → (Stretches h at (length bytes) → Stretches h at len) × (Stretches h at len → Stretches h at (length bytes))
one_class m h at bytes len same sound was rule shared = by_slab (slab_at h at.slab) refl
  where
    by_slab : (o : Option SlabUse) → slab_at h at.slab ≡ o → (IsSlabFor (length bytes) o → IsSlabFor len o) × (IsSlabFor len o → IsSlabFor (length bytes) o)
    by_slab None e = (λ x. x, λ x. x)
    by_slab (Some s) e = (λ has. (rule s.class (sound.classed at.slab s e) has).0 shared, λ has. sound.sized at s bytes e was)

-- and no length of another
pub other_class : (m : Blocks) (h : Heap) (at : BlockRef) (bytes : List ℕ) (len : ℕ) (same : Bool) → IsSoundHeap m h → m at ≡ Some bytes
    → ((class : ℕ) → class < 36 → IsClassOf (length bytes) class → (IsTrue same ↔ IsClassOf len class)) → same ≡ false
    → (IsTrue same → Stretches h at len) × (Stretches h at len → IsTrue same)
other_class m h at bytes len same sound was rule apart = (λ shared. absurd (never shared apart), by_slab (slab_at h at.slab) refl)
  where
    never : IsTrue same → same ≡ false → ⊥
    never is_true is_false = cc

    by_slab : (o : Option SlabUse) → slab_at h at.slab ≡ o → IsSlabFor len o → IsTrue same
    by_slab None e has = absurd has
    by_slab (Some s) e has = (rule s.class (sound.classed at.slab s e) (sound.sized at s bytes e was)).1 has
