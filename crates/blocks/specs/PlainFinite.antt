-- A plain store has finitely many blocks, and no slab to count.
use Rattle.std.specs.Prelude.{◌≡◌, ℕ, zero, suc, ◌<◌, Bool, true, false, List, [], ◌∷◌, length, Option, Some, None, IsSome, slice_index_or, refl}
use Rattle.std.proofs.Common.{arith, eqb, cond, sym, inl, inr}
use Rattle.std.proofs.lemmas.Bool.{eqb-true, eq-eqb, cond-true, and_from, cases_eq}
use Rattle.blocks.specs.declared.BlockRef.{BlockRef}
use Rattle.blocks.specs.Blocks.{Blocks, ref_eq, times, IsFinite}
use Rattle.blocks.specs.Plain.{blocks_at}
use Rattle.blocks.specs.Slabs.{SlabUse, IsSoundHeap}

-- the references of the first n places
refs_below : ℕ → List BlockRef
refs_below zero = []
refs_below (suc n) = record { slab = n; slot = 0 } ∷ refs_below n

abbrev one_if : Bool → ℕ
one_if b = cond b 1 0

stands_below : (n : ℕ) (r : BlockRef) → r.slot ≡ 0 → r.slab < n → 0 < times r (refs_below n)
unfolding refs_below
stands_below zero r z lt = absurd (omega arith)
stands_below (suc n) r z lt = elim (cases_eq n r.slab) [
  | inl here ↦
      (let counted : one_if (ref_eq (record { slab = n; slot = 0 }) r) ≡ 1 =
      cond-true _ _ _ (and_from _ _ (eq-eqb n r.slab here) (eq-eqb 0 r.slot (sym z))) in
      omega arith)
  | inr there ↦ omega (arith, stands_below n r z (omega arith))
]

slot_by : (t : Bool) (o : Option (List ℕ)) (n : ℕ) → IsSome (cond t o None) → (t ≡ true → n ≡ 0) → (n ≡ 0) × IsSome o
slot_by true o n h f = (f refl, h)
slot_by false o n h f = cc

place_below : (places : List (Option (List ℕ))) (n : ℕ) → IsSome (slice_index_or places n None) → n < length places
place_below [] n h = cc
place_below (x ∷ rest) zero h = omega arith
place_below (x ∷ rest) (suc n) h = let k : n < length rest = place_below rest n h in omega arith

pub plain_finite : (places : List (Option (List ℕ))) → IsFinite (blocks_at places)
plain_finite places = (
  refs_below (length places),
  λ r h.
      (let p = slot_by (eqb r.slot 0) _ r.slot h (eqb-true _ _) in
      stands_below (length places) r p.0 (place_below places r.slab p.1)),
)

-- a store without a slab
pub plain_sound : (blocks : Blocks) (passing : Bool) → IsSoundHeap blocks (record { passing = passing; slabs = [] })
plain_sound blocks passing = record {
  classed = λ n s h. absurd (none_at n h);
  fits = λ n s h. absurd (none_at n h);
  counted = λ n s h. absurd (none_at n h);
  inside = λ r s h was. absurd (none_at r.slab h);
  sized = λ r s bytes h was. absurd (none_at r.slab h);
  marked = λ n s h k. absurd (none_at n h);
  filled = λ n s h k. absurd (none_at n h);
  room = λ h class lt. omega arith;
}
  where
    none_at : (n : ℕ) {s : SlabUse} → slice_index_or {A = Option SlabUse} [] n None ≡ Some s → ⊥
    none_at n h = cc
