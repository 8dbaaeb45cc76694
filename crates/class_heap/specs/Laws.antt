-- The laws of the trait, of a class heap.
use Rattle.std.specs.Prelude.{◌≡◌, ◌≢◌, ℕ, zero, suc, ◌<◌, ◌≤◌, Bool, true, false, List, [], ◌∷◌, ◌++◌, length, Some, None, IsSome, is_some, refl, ◌⊎◌, unwrap_or}
use Rattle.std.proofs.Common.{arith, cond, eqb, ap, ◌∙◌, sym, subst, inl, inr}
use Rattle.std.proofs.lemmas.Grind.{common_steps}
use Rattle.std.proofs.lemmas.Bool.{cases_eq, and_from, eq-eqb}
use Rattle.std.proofs.Math.ListN.{get_or-map}
use Rattle.blocks.specs.declared.BlockRef.{BlockRef}
use Rattle.blocks.specs.Blocks.{Blocks, ref_eq, times, IsFinite, live}
use Rattle.blocks.specs.Slabs.{SlabUse, Heap, slab_at, per_slab, IsClassOf, IsSoundHeap, blocks_in}
use Rattle.blocks.specs.Steps as step
use Rattle.blocks.proofs.Times.{times-append}
use Rattle.class_heap.specs.declared.entry.Entry.{Entry}
use Rattle.class_heap.specs.declared.entry.Entry.TheVariants.{Vacant, Large, Classed}
use Rattle.class_heap.specs.declared.directory.Directory.{Directory}
use Rattle.class_heap.specs.declared.slab.Slab.{Slab}
use Rattle.class_heap.specs.Slots.{is_used, used_below, word_at}
use Rattle.class_heap.specs.Slab.{use_of, block_at}
use Rattle.class_heap.specs.Entries.{use_in, block_in, entry_at, blocks_of, heap_of, class_in, IsHeap}
use Rattle.class_heap.specs.Placing.{IsHeapStep, stays, places, returns, writes, stretches}
use Rattle.class_heap.specs.Live.{used_least, live_used, live_there, slots_most, block_length}

-- the slab at a number
pub slab_read : (passing : Bool) (entries : List Entry) (n : ℕ)
    → slab_at (heap_of passing entries) n ≡ use_in (entry_at entries n)
slab_read passing entries n = get_or-map use_in entries n Vacant

-- ---- what a slab's type says of its use

pub fits_in : (e : Entry) (s : SlabUse) → use_in e ≡ Some s → (s.used ≤ per_slab s.class) × (s.class < 36)
fits_in Vacant s h = cc
fits_in (Large bytes) s h = cc
fits_in (Classed slab) s h =
    (let f = used_least slab.sound in let c = slab.sound.classed in
    let q : record { class = slab.class; used = slab.used; kept = slab.kept } ≡ s = cc in
    (subst (λ u. u.used ≤ per_slab u.class) q f.0, subst (λ u. u.class < 36) q c))

pub class_few : (e : Entry) (class : ℕ) → class_in (use_in e) ≡ Some class → class < 36
class_few Vacant class h = cc
class_few (Large bytes) class h = cc
class_few (Classed slab) class h =
    (let c = slab.sound.classed in let q : slab.class ≡ class = cc in subst (λ n. n < 36) q c)

-- ---- finitely many references

-- the references of the first slots of a number
refs_at : ℕ → ℕ → List BlockRef
refs_at n zero = []
refs_at n (suc k) = record { slab = n; slot = k } ∷ refs_at n k

-- those of all numbers below one
refs_below : ℕ → List BlockRef
refs_below zero = []
refs_below (suc n) = refs_at n 8192 ++ refs_below n

abbrev one_if : Bool → ℕ
one_if b = cond b 1 0

is_at : (n k : ℕ) (r : BlockRef) → r.slab ≡ n → r.slot < k → 0 < times r (refs_at n k)
unfolding refs_at
is_at n zero r e lt = absurd (omega arith)
is_at n (suc k) r e lt = elim (cases_eq k r.slot) [
  | inl here ↦
      (let c : ref_eq (record { slab = n; slot = k }) r ≡ true =
      and_from _ _ (eq-eqb n r.slab (sym e)) (eq-eqb k r.slot here) in
      let o : one_if (ref_eq (record { slab = n; slot = k }) r) ≡ 1 = ap one_if c in omega (arith, o))
  | inr there ↦ (let i = is_at n k r e (omega (arith, lt, there)) in omega (arith, i))
]

is_below : (n : ℕ) (r : BlockRef) → r.slab < n → r.slot < 8192 → 0 < times r (refs_below n)
unfolding refs_below
is_below zero r lt few = absurd (omega arith)
is_below (suc n) r lt few = elim (cases_eq r.slab n) [
  | inl here ↦ omega (arith, times-append r (refs_at n 8192) (refs_below n), is_at n 8192 r here few)
  | inr there ↦ omega
      (arith, times-append r (refs_at n 8192) (refs_below n), is_below n r (omega (arith, lt, there)) few)
]

-- a live block has one of the first 8,192 slots
slot_few : (e : Entry) (slot : ℕ) → IsSome (block_in e slot) → slot < 8192
slot_few Vacant slot h = cc
slot_few (Large bytes) slot h = by_zero (cases_eq slot 0)
  where
    by_zero : (slot ≡ 0) ⊎ (slot ≢ 0) → slot < 8192
    by_zero (inl z) = omega (arith, z)
    by_zero (inr ne) = absurd (none (eqb slot 0) (grind (arith, common_steps, ne)) h)
      where
        none : (t : Bool) → t ≡ false → IsSome (cond t (Some bytes.items) None) → ⊥
        none true e k = cc
        none false e k = cc
slot_few (Classed slab) slot h =
    (let t = live_there slab.sound slot h in let m = slots_most slab.sound in omega (arith, t, m))

-- and a number that the list has
pub slab_there : (entries : List Entry) (n slot : ℕ) → IsSome (block_in (entry_at entries n) slot) → n < length entries
slab_there [] n slot h = cc
slab_there (e ∷ rest) zero slot h = omega arith
slab_there (e ∷ rest) (suc n) slot h = (let k = slab_there rest n slot h in omega (arith, k))

pub heap_finite : (entries : List Entry) → IsFinite (blocks_of entries)
heap_finite entries = (
  refs_below (length entries),
  λ r h.
      is_below (length entries) r (slab_there entries r.slab r.slot h) (slot_few (entry_at entries r.slab) r.slot h),
)

-- ---- sound slabs

by_use : (b : Bool) (bytes : List ℕ) → one_if (is_some (cond b (Some bytes) None)) ≡ one_if b
by_use true bytes = refl
by_use false bytes = refl

live_one : (entries : List Entry) (slab : Slab) (n k : ℕ) → entry_at entries n ≡ Classed slab
    → live (blocks_of entries) (record { slab = n; slot = k }) ≡ one_if (is_used slab.words.items k)
live_one entries slab n k is = ap (λ e. one_if (is_some (block_in e k))) is ∙ by_use (is_used slab.words.items k) _

counted : (entries : List Entry) (slab : Slab) (n : ℕ) → entry_at entries n ≡ Classed slab → (k : ℕ)
    → blocks_in (blocks_of entries) n k ≡ used_below slab.words.items k
unfolding blocks_in used_below
counted entries slab n is zero = refl
counted entries slab n is (suc k) = omega (arith, counted entries slab n is k, live_one entries slab n k is)

-- an entry with a slab
pub record IsSlabAt (e : Entry) (s : SlabUse) : Type 0 where
  pub slab : Slab
  pub is : e ≡ Classed slab
  pub same : use_of slab ≡ s

pub slab_of : (e : Entry) (s : SlabUse) → use_in e ≡ Some s → IsSlabAt e s
slab_of Vacant s h = cc
slab_of (Large bytes) s h = cc
slab_of (Classed slab) s h = record { slab = slab; is = refl; same = (let q : use_of slab ≡ s = cc in q) }

pub heap_sound
    : {passing : Bool} {entries : List Entry} {directory : Directory} {margins : List ℕ}
    (sound : IsHeap passing entries directory margins) → IsSoundHeap (blocks_of entries) (heap_of passing entries)
heap_sound {passing = passing} {entries = entries} sound = record {
  classed = λ n s h. (fits_in (entry_at entries n) s (read n s h)).1;
  fits = λ n s h. (fits_in (entry_at entries n) s (read n s h)).0;
  counted = λ n s h. count n s (slab_of (entry_at entries n) s (read n s h));
  inside = λ r s h was. within r s (slab_of (entry_at entries r.slab) s (read r.slab s h)) was;
  sized = λ r s bytes h was. size_is r s bytes (slab_of (entry_at entries r.slab) s (read r.slab s h)) was;
  marked = λ n s h kept. sound.marked n s (read n s h) kept;
  filled = λ n s h kept. sound.filled n s (read n s h) kept;
  room = λ open' class lt. (let m = sound.margin open' class lt in omega (arith, m));
}
  where
    read : (n : ℕ) (s : SlabUse) → slab_at (heap_of passing entries) n ≡ Some s → use_in (entry_at entries n) ≡ Some s
    read n s h = sym (slab_read passing entries n) ∙ h

    count : (n : ℕ) (s : SlabUse) → IsSlabAt (entry_at entries n) s
        → blocks_in (blocks_of entries) n (per_slab s.class) ≡ s.used
    count n s t = (let words = t.slab.words.items in let cut = t.slab.sound.cut in
        counted entries t.slab n t.is (per_slab s.class) ∙
        (ap (used_below words) (ap (λ u. per_slab u.class) (sym t.same) ∙ sym cut) ∙
        (t.slab.sound.counted ∙ ap (λ u. u.used) t.same)))

    within : (r : BlockRef) (s : SlabUse) → IsSlabAt (entry_at entries r.slab) s → IsSome (blocks_of entries r)
        → r.slot < per_slab s.class
    within r s t was =
        (let l = live_there t.slab.sound r.slot (subst (λ e. IsSome (block_in e r.slot)) t.is was) in
        subst (λ n. r.slot < n) (t.slab.sound.cut ∙ ap (λ u. per_slab u.class) t.same) l)

    size_is : (r : BlockRef) (s : SlabUse) (bytes : List ℕ) → IsSlabAt (entry_at entries r.slab) s
        → blocks_of entries r ≡ Some bytes → IsClassOf (length bytes) s.class
    size_is r s bytes t was =
        let here : block_at t.slab r.slot ≡ Some bytes = ap (λ e. block_in e r.slot) (sym t.is) ∙ was in
        let alive : IsSome (block_at t.slab r.slot) = subst (λ o. IsSome o) (sym here) refl in
        let long : length bytes ≡ word_at t.slab.words.items r.slot =
        ap (λ o. length (unwrap_or o [])) (sym here) ∙ block_length t.slab.sound r.slot alive in
        subst (λ n. IsClassOf n s.class) (sym long)
        (subst (λ u. IsClassOf (word_at t.slab.words.items r.slot) u.class) t.same
        (t.slab.sound.held r.slot (live_used t.slab.size t.slab.words.items t.slab.mem r.slot alive)))

-- ---- each step is a placing, a return, a write or a stretch

pub heap_step : {before after : Blocks} {h later : Heap} → IsHeapStep before h after later
    → step.IsStep before h after later
heap_step (stays same kept) = step.stayed same kept
heap_step (places len at p) = step.placed at len p.fresh p.placed p.passing
heap_step (returns at r) = step.returned at r.was r.ended r.passing
heap_step (writes at from piece w) = step.written at from piece w.was w.room w.written w.slabs
heap_step (stretches at len s) = step.stretched at len s.was s.fits s.stretched s.slabs
