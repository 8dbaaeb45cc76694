-- A dictionary of field and value blocks: what it depends on, and what becomes of it where a field is put in, given another value, or
-- taken out.
use Rattle.std.proofs.Common.{◌≡◌, ℕ, ◌+◌, List, [], ◌∷◌, Option, Some, None, IsSome, unwrap_or, flat_map, refl, sym, ap, ◌∙◌, subst, arith, inl, inr}
use Rattle.std.specs.FinMap.{insert, remove, empty, get}
use Rattle.blocks.specs.declared.BlockRef.{BlockRef}
use Rattle.blocks.specs.Blocks.{Blocks, times, with_block, bytes_at, IsIn, Changes, Owned}
use Rattle.blocks.proofs.Refs.{with_block_same, with_block_other}
use Rattle.blocks.proofs.Change.{one, other_than, live_is_in_change, live_once, changes_beside, changes_counted, changes_owned, changes_then, changes_same, counts_ended, owned_others}
use Rattle.collection_walk.proofs.Named.{self, entry_within}
use Rattle.rehash_dict.specs.Table.{Element, item}
use Rattle.rehash_dict.specs.Keyed.{Keyed, Lacks, Stands, hash_of, key_of, key_tables}
use Rattle.rehash_dict.specs.Steps.{Adds, Swaps, Removes}
use Rattle.rehash_dict.specs.Grown.{Grown}
use Rattle.rehash_dict.specs.MapOf.{own_of}
use Rattle.rehash_dict.proofs.Fresh.{stands_bytes}
use Rattle.rehash_dict.proofs.Keys.{keyed_frame}
use Rattle.rehash_dict.proofs.MapOf.{cases_key, map_of_stands, map_of_lacks, map_of_frame, map_of_items, map_of_empty, map_of_adds, map_of_swaps, map_of_removes, map_of_had, refs_changed}
use Rattle.rehash_dict.proofs.Growing.{grown_then, grown_same}
use Rattle.hash_object.specs.Maps.{FieldMap}
use Rattle.hash_object.specs.Hashed.{FieldTable, fields_in, blocks_of, no_fields, IsHashed}

-- the block that a value is
abbrev pub value_block : BlockRef → List BlockRef
value_block at = at ∷ []

-- the blocks of an element
abbrev pub names : Option (Element BlockRef) → List BlockRef
names = own_of value_block

-- the block of an element's field is one of the dictionary's
pub has_key : (t : FieldTable) (at : ℕ) (e : Element BlockRef) → item t at ≡ Some e → IsIn e.key (blocks_of t)
has_key t at e found = omega (arith, entry_within value_block t at e found e.key, self e.key)

-- the block of an element's value is one of the dictionary's
pub has_value : (t : FieldTable) (at : ℕ) (e : Element BlockRef) → item t at ≡ Some e → IsIn e.value (blocks_of t)
has_value t at e found = omega (arith, entry_within value_block t at e found e.value, self e.value)

-- ---- blocks that keep their bytes

module _ (m n : Blocks) (t : FieldTable) (k : Keyed m t) (same : (r : BlockRef) → IsIn r (blocks_of t) → n r ≡ m r) where
  -- where a dictionary's blocks keep their bytes, so does the block of each element's field
  key_same : (at : ℕ) (e : Element BlockRef) → item t at ≡ Some e → n e.key ≡ m e.key
  key_same at e found = same e.key (has_key t at e found)

  -- where its blocks keep their bytes, a dictionary stays keyed, and the tables of its key bytes are the same
  pub table_kept : Keyed n t × (key_tables n t ≡ key_tables m t)
  table_kept = keyed_frame m n t k key_same

  -- where its blocks keep their bytes, a dictionary has the same fields and values
  pub fields_kept : fields_in n t ≡ fields_in m t
  fields_kept = map_of_frame m n (λ at. bytes_at m at) (λ at. bytes_at n at) t k table_kept.0 (λ at e found. (key_same at e found, ap (λ o. unwrap_or o []) (same e.value (has_value t at e found))))

  -- where its blocks keep their bytes, a dictionary lacks each field that it lacked
  pub lacks_kept : (q : List ℕ) → Lacks m t q → Lacks n t q
  lacks_kept q l = record { each = λ at e found is. l.each at e found (sym (key_same at e found) ∙ is) }

-- ---- what is found

module _ (m : Blocks) (t : FieldTable) (k : Keyed m t) where
  -- a field has as its value the bytes of the value's block of the element at which the field stands
  pub found_value : (at : ℕ) (q : List ℕ) (e : Element BlockRef) → Stands m t at q → item t at ≡ Some e → get (fields_in m t) q ≡ Some (bytes_at m e.value)
  found_value at q e s found = map_of_stands m (λ v. bytes_at m v) t at e q k found (stands_bytes m t at q e s found)

  -- the map of a dictionary has no value for a field that no element has
  pub fields_lacks : (q : List ℕ) → Lacks m t q → get (fields_in m t) q ≡ None
  fields_lacks q l = map_of_lacks m (λ v. bytes_at m v) t q k l

  -- what the map has nothing for no element has
  pub lacks_field : (q : List ℕ) → get (fields_in m t) q ≡ None → Lacks m t q
  lacks_field q none = elim (cases_key m t q k) [
    | inl s ↦ absurd (never (get (fields_in m t) q) (bytes_at m s.element.value) (map_of_stands m (λ v. bytes_at m v) t s.at s.element q k s.found s.bytes) none)
    | inr lacks ↦ lacks
  ]
    where
      never : (o : Option (List ℕ)) (x : List ℕ) → o ≡ Some x → o ≡ None → ⊥
      never o x h g = cc

-- the value block of an element is live
pub value_live : (m : Blocks) (t : FieldTable) (at : ℕ) (e : Element BlockRef) → Owned (blocks_of t) m → item t at ≡ Some e → IsSome (m e.value)
value_live m t at e owned found = live_is_in_change m e.value (omega (arith, owned e.value, has_value t at e found))

-- an option that equals some text is there
some_is : (o : Option (List ℕ)) (x : List ℕ) → o ≡ Some x → IsSome o
some_is o x h = subst (λ p. IsSome p) (sym h) refl

-- ---- the blocks of a field and its value were placed

module _ (m n : Blocks) (old : FieldTable) (key at : BlockRef) (field value : List ℕ) (k : Keyed m old) (owned : Owned (blocks_of old) m) (p : Changes m n [] (key ∷ at ∷ []))
    (key_is : n key ≡ Some field) (at_is : n at ≡ Some value) where
  -- where the blocks of a field and its value are placed, the dictionary's own keep their bytes
  put_same : (r : BlockRef) → IsIn r (blocks_of old) → n r ≡ m r
  put_same r isin = owned_others m n [] (key ∷ at ∷ []) (blocks_of old) owned p r isin refl

  -- where the blocks of a field and its value are placed, the dictionary as it was stays keyed
  pub put_keyed : Keyed n old
  put_keyed = (table_kept m n old k put_same).0

  -- where the dictionary lacked the field, it lacks the bytes of the field's new block
  pub put_lacks : Lacks m old field → Lacks n old (bytes_at n key)
  put_lacks l = subst (Lacks n old) (sym (ap (λ o. unwrap_or o []) key_is)) (lacks_kept m n old k put_same field l)

  -- with an element of the two new blocks added, the dictionary has its old fields and the new one with its value
  pub put_hashed : (new : FieldTable) (i : ℕ) (e : Element BlockRef) → e.key ≡ key → e.value ≡ at → Adds old new i e → Keyed n new → Grown (hash_of old.seed) (key_tables n old) (key_tables n new)
      → IsHashed m n old new (insert (fields_in m old) field value)
  put_hashed new i e by_key by_value adds keyed grown = record {
    keyed = keyed;
    seed = adds.seed;
    fields_are = map_of_adds n (λ v. bytes_at n v) old new put_keyed i e keyed (some_is (n e.key) field (ap n by_key ∙ key_is)) adds
        ∙ ap (λ q. insert (fields_in n old) q (bytes_at n e.value)) (ap (λ o. unwrap_or o []) (ap n by_key ∙ key_is))
        ∙ ap (insert (fields_in n old) field) (ap (λ o. unwrap_or o []) (ap n by_value ∙ at_is))
        ∙ ap (λ map. insert map field value) (fields_kept m n old k put_same);
    changes = changes_beside m n [] (key ∷ at ∷ []) (blocks_of old) (blocks_of new) p owned (λ r. times r (blocks_of old)) (λ r. omega arith) more;
    grown = subst (λ t. Grown (hash_of old.seed) t (key_tables n new)) (table_kept m n old k put_same).1 grown;
  }
    where
      more : (r : BlockRef) → times r (blocks_of new) ≡ times r (key ∷ at ∷ []) + times r (blocks_of old)
      more r =
          let both = refs_changed value_block old new i (Some e) adds.updates r in
          let none : times r (own_of value_block (item old i)) ≡ 0 = ap (λ o. times r (own_of value_block o)) adds.vacant in
          let named : times r (e.key ∷ e.value ∷ []) ≡ times r (key ∷ at ∷ []) = ap (λ (q : BlockRef). times r (q ∷ e.value ∷ [])) by_key ∙ ap (λ (q : BlockRef). times r (key ∷ q ∷ [])) by_value in
          omega (arith, both, none, named)

-- ---- a value's block was placed, and the old one given back

module _ (m a n : Blocks) (old new : FieldTable) (i : ℕ) (was at : BlockRef) (value : List ℕ) (k : Keyed m old) (owned : Owned (blocks_of old) m) (p : Changes m a [] (at ∷ []))
    (placed : a ≡ with_block m at (Some value)) (s : Swaps old new i was at) where
  -- where the new block of a value is placed, the dictionary's own keep their bytes
  swap_same : (r : BlockRef) → IsIn r (blocks_of old) → a r ≡ m r
  swap_same r isin = owned_others m a [] (at ∷ []) (blocks_of old) owned p r isin refl

  -- where the new block of a value is placed, the dictionary as it was stays keyed
  pub swap_keyed : Keyed a old
  swap_keyed = (table_kept m a old k swap_same).0

  -- the old block of the value is one of the dictionary's
  was_in : IsIn was (blocks_of old)
  was_in = has_value old i (record { key = s.key; hash = s.hash; value = was }) s.found

  -- the old block of the value is live after the new one was placed
  pub was_live : IsSome (a was)
  was_live = subst (λ o. IsSome o) (sym (swap_same was was_in)) (live_is_in_change m was (omega (arith, owned was, was_in)))

  -- the new dictionary's blocks and the value's old one are the old dictionary's and the value's new one
  swap_count : (r : BlockRef) → times r (blocks_of new) + one r was ≡ times r (at ∷ blocks_of old)
  swap_count r =
      let both = refs_changed value_block old new i (Some (record { key = s.key; hash = s.hash; value = at })) s.updates r in
      let here : times r (own_of value_block (item old i)) ≡ times r (s.key ∷ was ∷ []) = ap (λ o. times r (own_of value_block o)) s.found in
      omega (arith, both, here)

  -- the placing of the value's new block adds that one to the dictionary's blocks
  swap_changes : Changes m a (blocks_of old) (at ∷ blocks_of old)
  swap_changes = changes_beside m a [] (at ∷ []) (blocks_of old) (at ∷ blocks_of old) p owned (λ r. times r (blocks_of old)) (λ r. omega arith) (λ r. omega arith)

  -- the value's new block and the old dictionary's blocks are live, and none of them is there twice
  swap_owned : Owned (at ∷ blocks_of old) a
  swap_owned = changes_owned m a (blocks_of old) (at ∷ blocks_of old) swap_changes

  module _ (given : n ≡ with_block a was None) (l : Keyed a new) where
    -- where the old block of the value is given back, the new dictionary's blocks keep their bytes
    left_same : (r : BlockRef) → IsIn r (blocks_of new) → n r ≡ a r
    left_same r isin = (λ j. given j r) ∙ with_block_other a was r None (other_than r was (omega (arith, swap_count r, swap_owned r, live_once a r, isin)))

    -- the dictionary has its old fields and values, but the new value at the field of the element that changed
    pub swap_hashed : key_tables a new ≡ key_tables a old → IsHashed m n old new (insert (fields_in m old) (key_of m (item old i)) value)
    swap_hashed same = record {
      keyed = (table_kept a n new l left_same).0;
      seed = s.seed;
      fields_are = fields_kept a n new l left_same
          ∙ map_of_swaps a (λ v. bytes_at a v) old new swap_keyed i was at l s
          ∙ ap (insert (fields_in a old) (key_of a (item old i))) (ap (λ o. unwrap_or o []) ((λ j. placed j at) ∙ with_block_same m at (Some value)))
          ∙ ap (λ q. insert (fields_in a old) q value) key_bytes
          ∙ ap (λ map. insert map (key_of m (item old i)) value) (fields_kept m a old k swap_same);
      changes = changes_then m a n (blocks_of old) (at ∷ blocks_of old) (blocks_of new) swap_changes
          (changes_counted a n (at ∷ blocks_of old) (blocks_of new) swap_owned (counts_ended a n was (at ∷ blocks_of old) (blocks_of new) was_live given swap_count));
      grown = grown_same (hash_of old.seed) (key_tables m old) (key_tables n new) ((table_kept a n new l left_same).1 ∙ same ∙ (table_kept m a old k swap_same).1);
    }
      where
        key_bytes : key_of a (item old i) ≡ key_of m (item old i)
        key_bytes = ap (key_of a) s.found ∙ ap (λ o. unwrap_or o []) (swap_same s.key (has_key old i (record { key = s.key; hash = s.hash; value = was }) s.found)) ∙ ap (key_of m) (sym s.found)

-- ---- a field was taken out, and both its blocks given back

module _ (m : Blocks) (old mid : FieldTable) (field : List ℕ) (key value : BlockRef) (k : Keyed m old) (owned : Owned (blocks_of old) m) (r : Removes m old mid field key value) where
  -- the blocks that are left and the two of the field that was taken out are the old dictionary's
  taken_count : (q : BlockRef) → times q (blocks_of mid) + times q (key ∷ value ∷ []) ≡ times q (blocks_of old)
  taken_count q =
      let both = refs_changed value_block old mid r.at None r.updates q in
      let here : times q (own_of value_block (item old r.at)) ≡ times q (key ∷ value ∷ []) = ap (λ o. times q (own_of value_block o)) r.found in
      omega (arith, both, here)

  -- the two blocks of the field that was taken out are live, and not the same one
  pub taken_owned : Owned (key ∷ value ∷ []) m
  taken_owned q = omega (arith, taken_count q, owned q)

  -- the field that was taken out had the bytes of its value's block as its value
  pub taken_had : get (fields_in m old) field ≡ Some (bytes_at m value)
  taken_had = map_of_had m (λ v. bytes_at m v) old mid k field key value r

  module _ (n : Blocks) (new : FieldTable) (l : Keyed m mid) (p : Changes m n (key ∷ value ∷ []) []) where
    -- where both blocks of the field are given back, the blocks that are left keep their bytes
    others_same : (q : BlockRef) → IsIn q (blocks_of mid) → n q ≡ m q
    others_same q isin = owned_others m n (key ∷ value ∷ []) [] (blocks_of old) owned p q (omega (arith, isin, taken_count q)) (omega (arith, isin, taken_count q, owned q, live_once m q))

    -- where both blocks of the field are given back, the dictionary that is left stays keyed
    pub taken_keyed : Keyed n mid
    taken_keyed = (table_kept m n mid l others_same).0

    -- the dictionary, shrunk or not since, has its old fields and values without the field that was taken out
    pub taken_hashed : Grown (hash_of old.seed) (key_tables m old) (key_tables m mid) → Keyed n new → new.items ≡ mid.items → new.seed ≡ mid.seed
        → Grown (hash_of mid.seed) (key_tables n mid) (key_tables n new)
        → IsHashed m n old new (remove (fields_in m old) field)
    taken_hashed grown keyed items seed shrunk = record {
      keyed = keyed;
      seed = seed ∙ r.seed;
      fields_are = map_of_items n (λ v. bytes_at n v) mid new items ∙ fields_kept m n mid l others_same ∙ map_of_removes m (λ v. bytes_at m v) old mid k field key value l r;
      changes = changes_beside m n (key ∷ value ∷ []) [] (blocks_of old) (blocks_of new) p owned (λ q. times q (blocks_of mid)) (λ q. omega (arith, taken_count q)) (λ q. omega (arith, same_refs q));
      grown = grown_then (hash_of old.seed) (key_tables m old) (key_tables m mid) (key_tables n new) grown
          (subst (λ t. Grown (hash_of old.seed) t (key_tables n new)) (table_kept m n mid l others_same).1
          (subst (λ s. Grown (hash_of s) (key_tables n mid) (key_tables n new)) r.seed shrunk));
    }
      where
        same_refs : (q : BlockRef) → times q (blocks_of new) ≡ times q (blocks_of mid)
        same_refs q = ap (λ xs. times q (flat_map (own_of value_block) xs)) items

-- ---- one after the other

-- one change of a dictionary and then another are one change, to the fields and values of the second
pub hashed_then : (a b c : Blocks) (t u v : FieldTable) (s w : FieldMap) → IsHashed a b t u s → IsHashed b c u v w → IsHashed a c t v w
hashed_then a b c t u v s w p q = record {
  keyed = q.keyed;
  seed = q.seed ∙ p.seed;
  fields_are = q.fields_are;
  changes = changes_then a b c (blocks_of t) (blocks_of u) (blocks_of v) p.changes q.changes;
  grown = grown_then (hash_of t.seed) (key_tables a t) (key_tables b u) (key_tables c v) p.grown (subst (λ n. Grown (hash_of n) (key_tables b u) (key_tables c v)) p.seed q.grown);
}

-- what changes no reference changes nothing
pub all_same : (m n : Blocks) → Changes m n [] [] → n ≡ m
all_same m n p = λ i r. p.kept r refl refl i

-- a new dictionary
pub new_is : (t : FieldTable) (seed : ℕ) → t.items ≡ [] → t.older ≡ [] → t.newer ≡ [] → t.position ≡ 0 → t.seed ≡ seed → t.top ≡ 0 → t ≡ no_fields seed
new_is t seed items older newer position seed_is top = λ i. record { items = items i; older = older i; newer = newer i; position = position i; seed = seed_is i; top = top i }

-- a new dictionary has no field, and no block changes for it
pub new_hashed : (m : Blocks) (t : FieldTable) (seed : ℕ) → t ≡ no_fields seed → Keyed m t → IsHashed m m (no_fields seed) t empty
new_hashed m t seed is keyed = record {
  keyed = keyed;
  seed = ap (λ (d : FieldTable). d.seed) is;
  fields_are = map_of_items m (λ v. bytes_at m v) (no_fields seed) t (ap (λ (d : FieldTable). d.items) is) ∙ map_of_empty m (λ v. bytes_at m v) (no_fields seed) refl;
  changes = subst (λ (d : FieldTable). Changes m m [] (blocks_of d)) (sym is) (changes_same m [] (λ r. omega arith));
  grown = grown_same (hash_of seed) _ _ (ap (key_tables m) is);
}
