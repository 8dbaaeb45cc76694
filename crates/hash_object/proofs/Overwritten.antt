-- A dictionary of which one value's block was written over: the value stands at its field, and everything else stays.
use Rattle.std.proofs.Common.{◌≡◌, ◌≢◌, ℕ, zero, suc, ◌+◌, ◌≤◌, Bool, true, false, cond, List, [], ◌∷◌, Option, Some, unwrap_or, flat_map, refl, sym, ap, ◌∙◌, subst, arith, inl, inr}
use Rattle.std.proofs.lemmas.Bool.{cond-true, cond-false, cases_Bool, cases_eq}
use Rattle.std.specs.declared.cmp.Ordering.{Ordering}
use Rattle.std.specs.declared.cmp.Ordering.TheVariants.{Less, Equal, Greater}
use Rattle.std.specs.Ordering.{nat_cmp, eq_by_cmp, is_eq}
use Rattle.std.specs.Cmp.{eq_by_cmp_equiv}
use Rattle.std.specs.Cmp.Lexicographic.{slice_cmp, nat_list_cmp_total}
use Rattle.std.specs.FinMap.{get, insert, get-insert, same_map, slice_cmp-IsAntisymmetric, nat_cmp-IsAntisymmetric}
use Rattle.blocks.specs.declared.BlockRef.{BlockRef}
use Rattle.blocks.specs.Blocks.{Blocks, times, with_block, bytes_at, ref_eq, Owned}
use Rattle.blocks.proofs.Refs.{with_block_same, with_block_other}
use Rattle.blocks.proofs.Change.{other_than, live_once, counts_written, changes_counted}
use Rattle.blocks.proofs.Times.{times-append}
use Rattle.collection_walk.proofs.Named.{self, entry_within}
use Rattle.rehash_dict.specs.Table.{Element, at_item, item}
use Rattle.rehash_dict.specs.Keyed.{Keyed, Lacks, hash_of, key_of, key_tables}
use Rattle.rehash_dict.proofs.Keys.{keyed_frame, live_bytes}
use Rattle.rehash_dict.proofs.MapOf.{cases_key, map_of_stands, map_of_lacks}
use Rattle.rehash_dict.proofs.Growing.{grown_same}
use Rattle.hash_object.specs.Hashed.{FieldTable, fields_in, blocks_of, no_fields, IsHashed}
use Rattle.hash_object.proofs.Tables.{value_block, names, has_value, value_live}

-- ---- fields of bytes

-- both are the same bytes
abbrev tied : List ℕ → List ℕ → Bool
tied q k = eq_by_cmp (slice_cmp nat_cmp) q k

-- fields that are tied have the same bytes
tied_true : (q k : List ℕ) → tied q k ≡ true → q ≡ k
tied_true q k h = slice_cmp-IsAntisymmetric nat_cmp-IsAntisymmetric q k (equal (slice_cmp nat_cmp q k) h)
  where
    equal : (o : Ordering) → is_eq o ≡ true → o ≡ Equal
    equal Less h = cc
    equal Equal h = refl
    equal Greater h = cc

-- a field is tied with itself
tied_refl : (q : List ℕ) → tied q q ≡ true
tied_refl q = (eq_by_cmp_equiv nat_list_cmp_total).refl q

some_same : {A : Type 0} (o : Option A) (x y : A) → o ≡ Some x → o ≡ Some y → x ≡ y
some_same o x y h k = cc

-- ---- two elements of a dictionary

-- a dictionary of these elements alone
abbrev of_items : List (Option (Element BlockRef)) → FieldTable
of_items items = record (no_fields 0) { items = items }

-- two elements of a dictionary name no block of each other
both_within : (items : List (Option (Element BlockRef))) (i j : ℕ) (e f : Element BlockRef) → i ≢ j → at_item items i ≡ Some e → at_item items j ≡ Some f → (r : BlockRef)
    → times r (names (Some e)) + times r (names (Some f)) ≤ times r (flat_map names items)
both_within [] i j e f apart at_i at_j r = cc
both_within (x ∷ items) zero zero e f apart at_i at_j r = absurd (apart refl)
both_within (x ∷ items) zero (suc j) e f apart at_i at_j r =
    let here : times r (names x) ≡ times r (names (Some e)) = ap (λ o. times r (names o)) at_i in
    omega (arith, here, entry_within value_block (of_items items) j f at_j r, times-append r (names x) (flat_map names items))
both_within (x ∷ items) (suc i) zero e f apart at_i at_j r =
    let here : times r (names x) ≡ times r (names (Some f)) = ap (λ o. times r (names o)) at_j in
    omega (arith, here, entry_within value_block (of_items items) i e at_i r, times-append r (names x) (flat_map names items))
both_within (x ∷ items) (suc i) (suc j) e f apart at_i at_j r =
    omega (arith, both_within items i j e f (λ same. apart (ap suc same)) at_i at_j r, times-append r (names x) (flat_map names items))

-- ---- the block of the element's value was written over

module _ (m n : Blocks) (t : FieldTable) (i : ℕ) (e : Element BlockRef) (value : List ℕ) (k : Keyed m t) (owned : Owned (blocks_of t) m) (found : item t i ≡ Some e)
    (put : n ≡ with_block m e.value (Some value)) where
  -- every other block stays
  other_same : (r : BlockRef) → ref_eq r e.value ≡ false → n r ≡ m r
  other_same r apart = (λ j. put j r) ∙ with_block_other m e.value r (Some value) apart

  value_is : n e.value ≡ Some value
  value_is = (λ j. put j e.value) ∙ with_block_same m e.value (Some value)

  -- no field's block is that of the value
  key_apart : (at : ℕ) (f : Element BlockRef) → item t at ≡ Some f → ref_eq f.key e.value ≡ false
  key_apart at f there = elim (cases_eq at i) [
    | inl here ↦ (let same : f ≡ e = some_same (item t i) f e (ap (item t) (sym here) ∙ there) found in
        subst (λ (x : Element BlockRef). ref_eq x.key e.value ≡ false) (sym same)
        (other_than e.key e.value (omega (arith, entry_within value_block t i e found e.key, owned e.key, live_once m e.key, self e.key))))
    | inr other ↦ other_than f.key e.value (omega (arith, both_within t.items at i f e other there found f.key, owned f.key, live_once m f.key, self f.key))
  ]

  -- no other value's block is that of the value
  value_apart : (at : ℕ) (f : Element BlockRef) → at ≢ i → item t at ≡ Some f → ref_eq f.value e.value ≡ false
  value_apart at f other there = other_than f.value e.value (omega (arith, both_within t.items at i f e other there found f.value, owned f.value, live_once m f.value, self f.value))

  frame : Keyed n t × (key_tables n t ≡ key_tables m t)
  frame = keyed_frame m n t k (λ at f there. other_same f.key (key_apart at f there))

  -- the bytes of the element's field
  abbrev field : List ℕ
  field = key_of m (item t i)

  field_is : m e.key ≡ Some field
  field_is = live_bytes m e.key (k.live i e found) ∙ ap (λ o. Some (key_of m o)) (sym found)

  -- the dictionary has its old fields and values, but the new value at the field of the element
  fields_written : fields_in n t ≡ insert (fields_in m t) field value
  fields_written = same_map nat_list_cmp_total (slice_cmp-IsAntisymmetric nat_cmp-IsAntisymmetric) _ _ (λ p. by_key p ∙ sym (get-insert nat_list_cmp_total (fields_in m t) field value p))
    where
      still : (at : ℕ) (f : Element BlockRef) → item t at ≡ Some f → n f.key ≡ m f.key
      still at f there = other_same f.key (key_apart at f there)

      by_other : (p : List ℕ) → p ≢ field → get (fields_in n t) p ≡ get (fields_in m t) p
      by_other p apart = elim (cases_key m t p k) [
        | inl s ↦
            (let other : s.at ≢ i =
            (λ here. apart
            (some_same (m e.key) p field (ap (λ (x : Element BlockRef). m x.key) (some_same (item t i) e s.element found (ap (item t) (sym here) ∙ s.found)) ∙ s.bytes) field_is)) in
            map_of_stands n (λ v. bytes_at n v) t s.at s.element p frame.0 s.found (still s.at s.element s.found ∙ s.bytes)
            ∙ ap (λ o. Some (unwrap_or o [])) (other_same s.element.value (value_apart s.at s.element other s.found))
            ∙ sym (map_of_stands m (λ v. bytes_at m v) t s.at s.element p k s.found s.bytes))
        | inr lacks ↦
            (let none : Lacks n t p = record { each = λ at f there same. lacks.each at f there (sym (still at f there) ∙ same) } in
            map_of_lacks n (λ v. bytes_at n v) t p frame.0 none ∙ sym (map_of_lacks m (λ v. bytes_at m v) t p k lacks))
      ]

      by_key : (p : List ℕ) → get (fields_in n t) p ≡ cond (tied p field) (Some value) (get (fields_in m t) p)
      by_key p = elim (cases_Bool (tied p field)) [
        | inl same ↦
            map_of_stands n (λ v. bytes_at n v) t i e p frame.0 found (still i e found ∙ field_is ∙ ap Some (sym (tied_true p field same)))
            ∙ ap (λ o. Some (unwrap_or o [])) value_is ∙ sym (cond-true _ _ _ same)
        | inr other ↦ by_other p (λ same. (let bad : tied p field ≡ true = ap (tied p) (sym same) ∙ tied_refl p in cc)) ∙ sym (cond-false _ _ _ other)
      ]

  pub overwritten_hashed : IsHashed m n t t (insert (fields_in m t) field value)
  overwritten_hashed = record {
    keyed = frame.0;
    seed = refl;
    fields_are = fields_written;
    changes = changes_counted m n (blocks_of t) (blocks_of t) owned
        (counts_written m n e.value value (blocks_of t) (blocks_of t) (value_live m t i e owned found) put (has_value t i e found) (λ r. refl));
    grown = grown_same (hash_of t.seed) (key_tables m t) (key_tables n t) frame.1;
  }
