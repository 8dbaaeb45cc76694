-- What a plain store holds after a change of one place.
use Rattle.std.proofs.Common.{◌≡◌, ℕ, Bool, true, false, cond, ◌&&◌, List, [], ◌∷◌, zero, suc, unwrap_or, map, Option, Some, None, IsSome, eqb, get_or, length, slice_set, ◌<◌}
use Rattle.std.proofs.Common.{get_or-set_same, get_or-set_other, refl, sym, ap, ◌∙◌, arith}
use Rattle.std.proofs.Math.ListN.{get_or-map}
use Rattle.std.proofs.lemmas.Bool.{eqb-true, eq-eqb, eqb-false, cond-true}
use Rattle.std.specs.Global.{Vec}
use Rattle.slab.specs.Slab.{Slab, Updates, with_value}
use Rattle.blocks.specs.declared.BlockRef.{BlockRef}
use Rattle.blocks.specs.Blocks.{with_block, bytes_at}
use Rattle.blocks.specs.Plain.{bytes_of, blocks_at}

place_of : (s : Slab (Vec ℕ)) (n : ℕ) → get_or (map bytes_of s.slots) n None ≡ bytes_of (get_or s.slots n None)
place_of s n = get_or-map bytes_of s.slots n None

-- by cases on the two tests
by_tests : (new changed old : Option (List ℕ)) (same zero : Bool) → (same ≡ true → new ≡ changed) → (same ≡ false → new ≡ old) → cond zero new None ≡ cond (same && zero) changed (cond zero old None)
by_tests new changed old true true at_true at_false = at_true refl
by_tests new changed old true false at_true at_false = refl
by_tests new changed old false true at_true at_false = at_false refl
by_tests new changed old false false at_true at_false = refl

at_one : (old new : Slab (Vec ℕ)) (at : BlockRef) (slot : Option (Vec ℕ)) → at.slot ≡ 0 → Updates old new at.slab slot → (r : BlockRef)
    → blocks_at (map bytes_of new.slots) r ≡ with_block (blocks_at (map bytes_of old.slots)) at (bytes_of slot) r
at_one old new at slot z u r =
    rw z (by_tests _ _ _ (eqb r.slab at.slab) (eqb r.slot 0)
    (λ h. place_of new r.slab ∙ ap (λ n. bytes_of (get_or new.slots n None)) (eqb-true _ _ h) ∙ ap bytes_of u.changed)
    (λ h. place_of new r.slab ∙ ap bytes_of (u.others r.slab (eqb-false _ _ h)) ∙ sym (place_of old r.slab)))

-- the new slab has this in the place, so the store has it under the reference
pub plain_updated : (old new : Slab (Vec ℕ)) (at : BlockRef) (slot : Option (Vec ℕ)) → at.slot ≡ 0 → Updates old new at.slab slot
    → blocks_at (map bytes_of new.slots) ≡ with_block (blocks_at (map bytes_of old.slots)) at (bytes_of slot)
plain_updated old new at slot z u = λ i r. at_one old new at slot z u r i

slot_by : (z : Bool) (o : Option (List ℕ)) (n : ℕ) → IsSome (cond z o None) → (z ≡ true → n ≡ 0) → n ≡ 0
slot_by true o n h at_true = at_true refl
slot_by false o n h at_true = cc

-- only block 0 of a place is live
pub plain_slot : (places : List (Option (List ℕ))) (at : BlockRef) → IsSome (blocks_at places at) → at.slot ≡ 0
plain_slot places at h = slot_by (eqb at.slot 0) _ at.slot h (eqb-true _ _)

-- a vector that stands in its place is written over
pub plain_written : (old : Slab (Vec ℕ)) (at : BlockRef) (v : Vec ℕ) → at.slot ≡ 0 → at.slab < length old.slots
    → blocks_at (map bytes_of (slice_set old.slots at.slab (Some v))) ≡ with_block (blocks_at (map bytes_of old.slots)) at (Some v.items)
plain_written old at v z h =
    plain_updated old (with_value old at.slab v) at (Some v) z (record {
      changed = get_or-set_same old.slots at.slab (Some v) None h;
      others = λ other ne. get_or-set_other old.slots at.slab other (Some v) None ne;
    })

-- the bytes of a block are those of the vector in its place
pub plain_bytes : (old : Slab (Vec ℕ)) (at : BlockRef) (v : Vec ℕ) → at.slot ≡ 0 → get_or old.slots at.slab None ≡ Some v → bytes_at (blocks_at (map bytes_of old.slots)) at ≡ v.items
plain_bytes old at v z h =
    ap (λ o. unwrap_or o []) (cond-true (eqb at.slot 0) _ None (eq-eqb _ _ z) ∙ place_of old at.slab ∙ ap bytes_of h)

pub in_range : {X : Type 0} (xs : List (Option X)) (i : ℕ) (v : X) → get_or xs i None ≡ Some v → i < length xs
in_range [] i v h = cc
in_range (x ∷ xs) zero v h = omega arith
in_range (x ∷ xs) (suc i) v h = let k : i < length xs = in_range xs i v h in omega arith

-- what a write through `get_mut` leaves
pub plain_put : (old : Slab (Vec ℕ)) (places : List (Option (List ℕ))) (at : BlockRef) (v w : Vec ℕ) (change : List ℕ → List ℕ) → map bytes_of old.slots ≡ places
    → IsSome (blocks_at places at) → get_or old.slots at.slab None ≡ Some v → w.items ≡ change v.items
    → blocks_at (map bytes_of (slice_set old.slots at.slab (Some w))) ≡ with_block (blocks_at places) at (Some (change (bytes_at (blocks_at places) at)))
plain_put old places at v w change same h is e =
    let z : at.slot ≡ 0 = plain_slot places at h in
    plain_written old at w z (in_range old.slots at.slab v is)
    ∙ ap (λ b. with_block (blocks_at (map bytes_of old.slots)) at (Some b)) (e ∙ ap change (sym (plain_bytes old at v z is)))
    ∙ ap (λ p. with_block (blocks_at p) at (Some (change (bytes_at (blocks_at p) at)))) same

-- inside a list the value for places beyond it doesn't count
pub one_value : (xs : List ℕ) (i d e : ℕ) → i < length xs → get_or xs i d ≡ get_or xs i e
one_value [] i d e h = absurd (omega arith)
one_value (x ∷ xs) zero d e h = refl
one_value (x ∷ xs) (suc i) d e h = let k : i < length xs = omega arith in one_value xs i d e k

-- nothing stands in a vacant place
pub plain_vacant : (s : Slab (Vec ℕ)) (n : ℕ) → get_or s.slots n None ≡ None → blocks_at (map bytes_of s.slots) (record { slab = n; slot = 0 }) ≡ None
plain_vacant s n h = place_of s n ∙ ap bytes_of h
