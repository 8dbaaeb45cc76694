-- The blocks of a table's elements are given back, from the first item number on.
use Rattle.std.proofs.Common.{◌≡◌, ◌≢◌, ℕ, zero, suc, ◌+◌, ◌≤◌, ◌<◌, Bool, false, IsTrue, ◌↔◌, List, [], ◌∷◌, drop, flat_map, Option, Some, None, IsSome, refl, sym, ap, ◌∙◌, subst, arith}
use Rattle.blocks.specs.declared.BlockRef.{BlockRef}
use Rattle.blocks.specs.Blocks.{Blocks, times, Changes, Owned}
use Rattle.blocks.proofs.Times.{times-append}
use Rattle.object_codec.specs.declared.limits.Limits.{Limits}
use Rattle.plain_world.specs.Worlds.{Value}
use Rattle.stored.specs.Owning.{ReadsOwn}
use Rattle.blocks.proofs.Change.{live_once, changes_same, changes_then, changes_beside, changes_owned}
use Rattle.rehash_dict.specs.Table.{at_item}
use Rattle.rehash_dict.specs.Steps.{Holds}
use Rattle.held.specs.Table.{Table, Element, item, Swaps, own_of, refs}

-- an item number that is no element's
pub no_item : {V : Type 0} (now : Table V) (at : ℕ) (is_entry : Bool) → is_entry ≡ false → (IsTrue is_entry ↔ IsSome (item now at)) → item now at ≡ None
no_item {V} now at is_entry not_one both = none (item now at) both.1
  where
    none : (o : Option (Element V)) → (IsSome o → IsTrue is_entry) → o ≡ None
    none None h = refl
    none (Some e) h = absurd (let yes : IsTrue is_entry = h refl in cc)

module _ {V : Type 0} (own : V → List BlockRef) where
  -- the references of the elements from an item number on
  abbrev refs_from : Table V → ℕ → List BlockRef
  refs_from table n = flat_map (own_of own) (drop n table.items)

  -- ---- one item number less is left

  all_left : (items : List (Option (Element V))) → drop 0 items ≡ items
  all_left [] = refl
  all_left (x ∷ items) = refl

  left_past : (n : ℕ) → flat_map (own_of own) (drop n []) ≡ []
  left_past zero = refl
  left_past (suc n) = refl

  left_next : (items : List (Option (Element V))) (n : ℕ) (q : BlockRef)
      → times q (flat_map (own_of own) (drop n items)) ≡ times q (own_of own (at_item items n)) + times q (flat_map (own_of own) (drop (suc n) items))
  left_next [] n q = (let one = ap (times q) (left_past n) in let two = ap (times q) (left_past (suc n)) in omega (arith, one, two))
  left_next (x ∷ items) zero q = times-append q (own_of own x) (flat_map (own_of own) items)
  left_next (x ∷ items) (suc n) q = left_next items n q

  left_end : (items : List (Option (Element V))) (n : ℕ) (q : BlockRef) → ((i : ℕ) → IsSome (at_item items i) → i < n) → times q (flat_map (own_of own) (drop n items)) ≡ 0
  left_end [] n q below = ap (times q) (left_past n)
  left_end (x ∷ items) zero q below = omega (
    arith,
    times-append q (own_of own x) (flat_map (own_of own) items),
    none x (λ some. omega (arith, below 0 some)),
    ap (λ list. times q (flat_map (own_of own) list)) (all_left items),
    left_end items zero q (λ i some. absurd (omega (arith, below (suc i) some))),
  )
    where
      none : (o : Option (Element V)) → (IsSome o → ⊥) → times q (own_of own o) ≡ 0
      none None h = refl
      none (Some e) h = absurd (h refl)
  left_end (x ∷ items) (suc n) q below = left_end items n q (λ i some. omega (arith, below (suc i) some))

  left_named : (items : List (Option (Element V))) (k i : ℕ) (q : BlockRef) → k ≤ i → times q (own_of own (at_item items i)) ≤ times q (flat_map (own_of own) (drop k items))
  left_named [] k i q below = omega arith
  left_named (x ∷ items) zero zero q below = omega (arith, times-append q (own_of own x) (flat_map (own_of own) items))
  left_named (x ∷ items) zero (suc i) q below = omega
      (arith, times-append q (own_of own x) (flat_map (own_of own) items), left_named items zero i q (omega arith), ap (λ list. times q (flat_map (own_of own) list)) (all_left items))
  left_named (x ∷ items) (suc k) zero q below = absurd (omega (arith, below))
  left_named (x ∷ items) (suc k) (suc i) q below = left_named items k i q (omega (arith, below))

  -- ---- the walk

  -- The elements before an item number are released, and the others still stand.
  pub record IsReleased (first now : Table V) (n : ℕ) (before after : Blocks) : Type 0 where
    pub same : (i : ℕ) → n ≤ i → item now i ≡ item first i
    pub changes : Changes before after (refs own first) (refs_from first n)
    -- what is still to be released has the bytes that it had
    pub kept : (i : ℕ) (e : Element V) → n ≤ i → item first i ≡ Some e → (q : BlockRef) → 0 < times q (e.key ∷ own e.value) → after q ≡ before q

  pub release_begins : (first : Table V) (m : Blocks) → Owned (refs own first) m → IsReleased first first 0 m m
  release_begins first m owned = record {
    same = λ i above. refl;
    kept = λ i e above found q isin. refl;
    changes = subst (λ items. Changes m m (refs own first) (flat_map (own_of own) items)) (sym (all_left first.items)) (changes_same m (refs own first) owned);
  }

  pub release_ends : (first now : Table V) (n : ℕ) (before after : Blocks) → Owned (refs own first) before → IsReleased first now n before after → ((i : ℕ) → IsSome (item first i) → i < n)
      → Changes before after (refs own first) []
  release_ends first now n before after owned r below =
      changes_then before after after (refs own first) (refs_from first n) [] r.changes
      (changes_beside after after [] [] (refs_from first n) [] (changes_same after [] (λ q. omega arith)) (changes_owned before after (refs own first) (refs_from first n) r.changes)
      (λ q. 0) (λ q. left_end first.items n q below) (λ q. omega arith))

  module _ (first now : Table V) (n : ℕ) (before mid : Blocks) (r : IsReleased first now n before mid) where
    left_owned : Owned (refs_from first n) mid
    left_owned = changes_owned before mid (refs own first) (refs_from first n) r.changes

    goes_on : (later : Table V) (after : Blocks) (given : List BlockRef) → ((q : BlockRef) → times q (own_of own (item first n)) ≡ times q given)
        → ((i : ℕ) → i ≢ n → item later i ≡ item now i) → Changes mid after given [] → IsReleased first later (suc n) before after
    goes_on later after given is others p = record {
      kept = λ i e above found q isin.
          (let there : times q (own_of own (item first i)) ≡ times q (e.key ∷ own e.value) = ap (λ o. times q (own_of own o)) found in
          p.kept q (omega (arith, left_next first.items n q, is q, left_owned q, live_once mid q, left_named first.items (suc n) i q above, there, isin)) refl
          ∙ r.kept i e (omega (arith, above)) found q isin);
      same = λ i above. others i (λ at. omega (arith, above, at)) ∙ r.same i (omega (arith, above));
      changes = changes_then before mid after (refs own first) (refs_from first n) (refs_from first (suc n)) r.changes
          (changes_beside mid after given [] (refs_from first n) (refs_from first (suc n)) p left_owned (λ q. times q (refs_from first (suc n)))
          (λ q. omega (arith, left_next first.items n q, is q)) (λ q. omega arith));
    }

    -- an item number without an element
    pub release_skips : item now n ≡ None → IsReleased first now (suc n) before mid
    release_skips none = goes_on now mid [] (λ q. ap (λ o. times q (own_of own o)) (sym (r.same n (omega arith)) ∙ none)) (λ i other. refl) (changes_same mid [] (λ q. omega arith))

    -- the value of its element was taken out, whose key is at hand
    module _ (later : Table V) (was zero : V) (s : Swaps now later n was zero) (key : BlockRef) (value : V) (h : Holds later n key value) where
      same_key : s.key ≡ key
      same_key =
          let both : Some (record { key = s.key; hash = s.hash; value = zero }) ≡ Some (record { key = key; hash = h.hash; value = value }) = sym s.updates.changed ∙ h.found in
          let same : record { key = s.key; hash = s.hash; value = zero } ≡ record { key = key; hash = h.hash; value = value } = cc in
          ap (λ (e : Element V). e.key) same

      named : (q : BlockRef) → times q (own_of own (item first n)) ≡ times q (key ∷ own was)
      named q = ap (λ o. times q (own_of own o)) (sym (r.same n (omega arith)) ∙ s.found) ∙ ap (λ k. times q (k ∷ own was)) same_key

      pub was_owned : Owned (key ∷ own was) mid
      was_owned q = omega (arith, left_next first.items n q, named q, left_owned q)

      pub was_goes_on : (after : Blocks) → Changes mid after (key ∷ own was) [] → IsReleased first later (suc n) before after
      was_goes_on after p = goes_on later after (key ∷ own was) named s.updates.others p

-- what a value owns is read out of its own blocks
module _ {V : Type 0} {IsSound : Limits → ℕ → Blocks → V → Type 0} (refs_of : Blocks → V → List BlockRef) (value_of : Blocks → V → Value) (own : ReadsOwn refs_of value_of IsSound)
    (first now : Table V) (n : ℕ) (before mid : Blocks) (r : IsReleased (refs_of before) first now n before mid) (later : Table V) (was zero : V) (s : Swaps now later n was zero)
    (key : BlockRef) (value : V)
    (h : Holds later n key value) where
  was_refs : refs_of mid was ≡ refs_of before was
  was_refs = own.refs before mid was (λ q isin. r.kept n (record { key = s.key; hash = s.hash; value = was }) (omega arith) (sym (r.same n (omega arith)) ∙ s.found) q (omega (arith, isin)))

  pub release_owned : Owned (key ∷ refs_of mid was) mid
  release_owned q = omega (arith, ap (times q) was_refs, was_owned (refs_of before) first now n before mid r later was zero s key value h q)

  -- the value that was taken out is sound, as it was
  pub release_sound : (limits : Limits) (seed : ℕ) → ((at : ℕ) (e : Element V) → item first at ≡ Some e → IsSound limits seed before e.value) → IsSound limits seed mid was
  release_sound limits seed all =
      let there : item first n ≡ Some (record { key = s.key; hash = s.hash; value = was }) = sym (r.same n (omega arith)) ∙ s.found in
      own.stays limits seed before mid was (λ q isin. r.kept n (record { key = s.key; hash = s.hash; value = was }) (omega arith) there q (omega (arith, isin)))
      (all n (record { key = s.key; hash = s.hash; value = was }) there)

  pub release_goes_on : (after : Blocks) → Changes mid after (key ∷ refs_of mid was) [] → IsReleased (refs_of before) first later (suc n) before after
  release_goes_on after p = was_goes_on (refs_of before) first now n before mid r later was zero s key value h after (subst (λ list. Changes mid after (key ∷ list) []) was_refs p)
