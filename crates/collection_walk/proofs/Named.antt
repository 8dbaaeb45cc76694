-- The blocks of an element are among those of its dictionary.
use Rattle.std.proofs.Common.{◌≡◌, ℕ, zero, suc, ◌≤◌, List, [], ◌∷◌, Some, IsSome, flat_map, ap, subst, arith}
use Rattle.std.proofs.lemmas.Bool.{cond-true}
use Rattle.blocks.specs.declared.BlockRef.{BlockRef}
use Rattle.blocks.specs.Blocks.{Blocks, times, IsIn, Owned}
use Rattle.blocks.proofs.Refs.{ref_eq_refl}
use Rattle.blocks.proofs.Times.{times-append}
use Rattle.blocks.proofs.Change.{one, live_is_in_change}
use Rattle.rehash_dict.specs.Table.{Element, Table, at_item, item}
use Rattle.rehash_dict.specs.MapOf.{own_of, refs_of, key_refs}
use Rattle.collection_walk.proofs.Ranks.{Slots}

pub self : (r : BlockRef) → one r r ≡ 1
self r = cond-true _ _ _ (ref_eq_refl r)

module _ {V : Type 0} (own : V → List BlockRef) (e : Element V) (r : BlockRef) where
  in_list : (items : Slots V) (at : ℕ) → at_item items at ≡ Some e → times r (e.key ∷ own e.value) ≤ times r (flat_map (own_of own) items)
  in_list [] at found = cc
  in_list (x ∷ items) zero found =
      (let here : times r (own_of own x) ≡ times r (e.key ∷ own e.value) = ap (λ o. times r (own_of own o)) found in
      omega (arith, here, times-append r (own_of own x) (flat_map (own_of own) items)))
  in_list (x ∷ items) (suc at) found = omega (arith, in_list items at found, times-append r (own_of own x) (flat_map (own_of own) items))

-- an element's key block and those that its value owns
pub entry_within : {V : Type 0} (own : V → List BlockRef) (t : Table V) (at : ℕ) (e : Element V) → item t at ≡ Some e → (r : BlockRef) → times r (e.key ∷ own e.value) ≤ times r (refs_of own t)
entry_within own t at e found r = in_list own e r t.items at found

pub key_within : {V : Type 0} (t : Table V) (at : ℕ) (e : Element V) → item t at ≡ Some e → (r : BlockRef) → times r (e.key ∷ []) ≤ times r (key_refs t)
key_within t at e found r = entry_within (λ _. []) t at e found r

pub names_key : {V : Type 0} (t : Table V) (at : ℕ) (e : Element V) → item t at ≡ Some e → IsIn e.key (key_refs t)
names_key t at e found = omega (arith, key_within t at e found e.key, self e.key)

-- the one block of a packed form is live
pub packed_live : (m : Blocks) (refs : List BlockRef) (at : BlockRef) → refs ≡ at ∷ [] → Owned refs m → IsSome (m at)
packed_live m refs at is owned = live_is_in_change m at (let one' = subst (λ rs. Owned rs m) is owned at in omega (arith, one', self at))
