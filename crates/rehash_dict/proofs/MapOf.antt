-- What a dictionary's map has at each key, and what becomes of the map and of the references.
use Rattle.std.proofs.Common.{◌≡◌, ◌≢◌, ◌⊎◌, inl, inr, ℕ, zero, suc, ◌+◌, ◌<◌, ◌≤◌, Bool, true, false, cond, List, [], ◌∷◌, Option, Some, None, IsSome, is_some, Result, Ok, Err, IfOk}
use Rattle.std.proofs.Common.{OnOk, count_by, unwrap_or, refl, sym, ap, ◌∙◌, arith}
use Rattle.std.proofs.lemmas.Bool.{cond-true, cond-false, cases_Bool, cases_eq}
use Rattle.std.specs.List.{flat_map}
use Rattle.std.specs.declared.cmp.Ordering.{Ordering}
use Rattle.std.specs.declared.cmp.Ordering.TheVariants.{Less, Equal, Greater}
use Rattle.std.specs.Ordering.{nat_cmp, eq_by_cmp, is_eq}
use Rattle.std.specs.Cmp.{eq_by_cmp_equiv}
use Rattle.std.specs.Cmp.Lexicographic.{slice_cmp, nat_list_cmp_total}
use Rattle.std.specs.FinMap.{FinMap, empty, from_entries, find, get, insert, remove, get-from_entries, get-insert, get-remove, len, len-insert, len-empty, same_map}
use Rattle.std.specs.FinMap.{slice_cmp-IsAntisymmetric, nat_cmp-IsAntisymmetric}
use Rattle.blocks.specs.declared.BlockRef.{BlockRef}
use Rattle.blocks.specs.Blocks.{Blocks, bytes_at, ref_eq, times, live, Owned}
use Rattle.blocks.proofs.Change.{one_if}
use Rattle.blocks.proofs.Sums.{count_cons}
use Rattle.blocks.proofs.Refs.{ref_eq_true}
use Rattle.blocks.proofs.Times.{times_changed}
use Rattle.rehash_dict.specs.Table.{Element, Table, at_item, item, table_len, Updates}
use Rattle.rehash_dict.specs.Keyed.{hash_of, key_of, Stands, Lacks, Keyed}
use Rattle.rehash_dict.specs.Steps.{Takes, Adds, Swaps, Renames, Removes}
use Rattle.rehash_dict.specs.MapOf.{pair_of, map_of, content, value_of, value_found, own_of, refs_of, key_refs}
use Rattle.rehash_dict.proofs.Keys.{live_bytes, keyed_removed}

-- ---- keys of bytes

-- both are the same bytes
abbrev tied : List ℕ → List ℕ → Bool
tied q k = eq_by_cmp (slice_cmp nat_cmp) q k

-- keys that are tied have the same bytes
tied_true : (q k : List ℕ) → tied q k ≡ true → q ≡ k
tied_true q k h = slice_cmp-IsAntisymmetric nat_cmp-IsAntisymmetric q k (equal (slice_cmp nat_cmp q k) h)
  where
    equal : (o : Ordering) → is_eq o ≡ true → o ≡ Equal
    equal Less h = cc
    equal Equal h = refl
    equal Greater h = cc

-- a key is tied with itself
tied_refl : (q : List ℕ) → tied q q ≡ true
tied_refl q = (eq_by_cmp_equiv nat_list_cmp_total).refl q

-- keys with the same bytes are tied
tied_same : (q k : List ℕ) → q ≡ k → tied q k ≡ true
tied_same q k is = ap (tied q) (sym is) ∙ tied_refl q

-- keys with other bytes aren't tied
tied_other_in_maps : (q k : List ℕ) → q ≢ k → tied q k ≡ false
tied_other_in_maps q k h = elim (cases_Bool (tied q k)) [ inl t ↦ absurd (h (tied_true q k t)) | inr f ↦ f ]

-- the bytes of a block
read : (m : Blocks) (e : Option (List ℕ)) (q : List ℕ) → e ≡ Some q → unwrap_or e [] ≡ q
read m e q h = ap (λ o. unwrap_or o []) h

-- no option is both something and nothing
some_none : {A : Type 0} (o : Option A) (x : A) → o ≡ Some x → o ≡ None → ⊥
some_none o x h k = cc

-- two answers of one option are the same
some_same : {A : Type 0} (o : Option A) (x y : A) → o ≡ Some x → o ≡ Some y → x ≡ y
some_same o x y h k = cc

-- maps that have the same at each key are the same
maps_alike : {X : Type 0} (m n : FinMap (slice_cmp nat_cmp) X) → ((q : List ℕ) → get m q ≡ get n q) → m ≡ n
maps_alike = same_map nat_list_cmp_total (slice_cmp-IsAntisymmetric nat_cmp-IsAntisymmetric)

-- what isn't there can't be removed
remove_absent : {X : Type 0} (m : FinMap (slice_cmp nat_cmp) X) (q : List ℕ) → get m q ≡ None → remove m q ≡ m
remove_absent m q h =
    maps_alike _ _ (λ p. get-remove nat_list_cmp_total m q p ∙ elim (cases_Bool (tied p q)) [
      | inl same ↦ cond-true _ _ _ same ∙ sym h ∙ ap (get m) (sym (tied_true p q same))
      | inr other ↦ cond-false _ _ _ other
    ])

module _ {V : Type 0} where
  -- ---- one look

  module _ {X : Type 0} (m : Blocks) (meaning : V → X) where
    -- a look through the pairs of a list of elements finds nothing for a key that none of them has
    found_none : (items : List (Option (Element V))) (q : List ℕ) → ((at : ℕ) (e : Element V) → at_item items at ≡ Some e → q ≢ bytes_at m e.key)
        → find (slice_cmp nat_cmp) q (flat_map (pair_of m meaning) items) ≡ None
    found_none [] q h = refl
    found_none (None ∷ rest) q h = found_none rest q (λ at e f. h (suc at) e f)
    found_none (Some e ∷ rest) q h = cond-false _ _ _ (tied_other_in_maps q (bytes_at m e.key) (h 0 e refl)) ∙ found_none rest q (λ at f g. h (suc at) f g)

    -- for a key that one element of a list alone has, a look through the pairs finds what its value means
    found_some : (items : List (Option (Element V))) (q : List ℕ) (at : ℕ) (e : Element V) → at_item items at ≡ Some e → bytes_at m e.key ≡ q
        → ((other : ℕ) (f : Element V) → at_item items other ≡ Some f → bytes_at m f.key ≡ q → other ≡ at) → find (slice_cmp nat_cmp) q (flat_map (pair_of m meaning) items) ≡ Some (meaning e.value)
    found_some [] q at e h is one = cc
    found_some (None ∷ rest) q zero e h is one = cc
    found_some (None ∷ rest) q (suc at) e h is one = found_some rest q at e h is (λ other f g b. omega (arith, one (suc other) f g b))
    found_some (Some f ∷ rest) q zero e h is one =
        let same : f ≡ e = some_same (Some f) f e refl h in
        cond-true _ _ _ (tied_same q (bytes_at m f.key) (sym is ∙ ap (λ (x : Element V). bytes_at m x.key) (sym same))) ∙ ap (λ (x : Element V). Some (meaning x.value)) same
    found_some (Some f ∷ rest) q (suc at) e h is one =
        cond-false _ _ _ (tied_other_in_maps q (bytes_at m f.key) (λ same. omega (arith, one 0 f refl (sym same))))
        ∙ found_some rest q at e h is (λ other g k b. omega (arith, one (suc other) g k b))

    -- The map has the value of an element at its key.
    pub map_of_stands : (t : Table V) (at : ℕ) (e : Element V) (q : List ℕ) → Keyed m t → item t at ≡ Some e → m e.key ≡ Some q → get (map_of m meaning t) q ≡ Some (meaning e.value)
    unfolding map_of
    map_of_stands t at e q k found bytes =
        get-from_entries nat_list_cmp_total (flat_map (pair_of m meaning) t.items) q
        ∙ found_some t.items q at e found (read m (m e.key) q bytes)
        (λ other f there same. k.apart other at f e there found (live_bytes m f.key (k.live other f there) ∙ ap Some same ∙ sym bytes))

    -- The map has nothing at a key that no element has.
    pub map_of_lacks : (t : Table V) (q : List ℕ) → Keyed m t → Lacks m t q → get (map_of m meaning t) q ≡ None
    unfolding map_of
    map_of_lacks t q k lacks =
        get-from_entries nat_list_cmp_total (flat_map (pair_of m meaning) t.items) q
        ∙ found_none t.items q (λ at e there same. lacks.each at e there (live_bytes m e.key (k.live at e there) ∙ ap Some (sym same)))

    -- a dictionary whose list of elements is empty has the empty map
    pub map_of_empty : (t : Table V) → t.items ≡ [] → map_of m meaning t ≡ empty
    unfolding map_of
    map_of_empty t none = ap (λ xs. from_entries {R = slice_cmp nat_cmp} (flat_map (pair_of m meaning) xs)) none

    -- the map of a list of elements has as many keys as there are elements, where all keys are live and differ
    len_pairs : (items : List (Option (Element V))) → ((at : ℕ) (e : Element V) → at_item items at ≡ Some e → IsSome (m e.key))
        → ((at other : ℕ) (e f : Element V) → at_item items at ≡ Some e → at_item items other ≡ Some f → m e.key ≡ m f.key → at ≡ other)
        → len (from_entries {R = slice_cmp nat_cmp} (flat_map (pair_of m meaning) items)) ≡ count_by is_some items
    len_pairs [] alive apart = len-empty (slice_cmp nat_cmp) X
    len_pairs (None ∷ rest) alive apart = len_pairs rest (λ at. alive (suc at)) (λ at other e f h k same. omega (arith, apart (suc at) (suc other) e f h k same))
    len_pairs (Some e ∷ rest) alive apart =
        let others = from_entries {R = slice_cmp nat_cmp} (flat_map (pair_of m meaning) rest) in
        let none : get others (bytes_at m e.key) ≡ None = get-from_entries nat_list_cmp_total (flat_map (pair_of m meaning) rest) (bytes_at m e.key)
        ∙ found_none rest (bytes_at m e.key)
        (λ at f there same. omega (arith, apart 0 (suc at) e f refl there (live_bytes m e.key (alive 0 e refl) ∙ ap Some same ∙ sym (live_bytes m f.key (alive (suc at) f there))))) in
        let more : len others ≡ count_by is_some rest = len_pairs rest (λ at. alive (suc at)) (λ at other f g h k same. omega (arith, apart (suc at) (suc other) f g h k same)) in
        len-insert nat_list_cmp_total others (bytes_at m e.key) (meaning e.value) ∙ ap (λ o. cond (is_some o) (len others) (len others + 1)) none
        ∙ (omega (arith, more, count_cons is_some (Some e) rest))

    -- The map has as many keys as there are elements.
    pub len_map_of : (t : Table V) → Keyed m t → len (map_of m meaning t) ≡ table_len t
    unfolding map_of
    len_map_of t k = len_pairs t.items k.live k.apart

    -- The map is read off the elements alone.
    pub map_of_items : (old new : Table V) → new.items ≡ old.items → map_of m meaning new ≡ map_of m meaning old
    unfolding map_of
    map_of_items old new same = ap (λ xs. from_entries {R = slice_cmp nat_cmp} (flat_map (pair_of m meaning) xs)) same

  -- the item number and the element of a key
  pub record Spot (m : Blocks) (t : Table V) (q : List ℕ) : Type 0 where
    pub at : ℕ
    pub element : Element V
    pub found : item t at ≡ Some element
    pub bytes : m element.key ≡ Some q

  -- some element of the list has these key bytes
  abbrev Seen : Blocks → List ℕ → List (Option (Element V)) → Type 0
  Seen m q items = (at : ℕ) × (e : Element V) × (at_item items at ≡ Some e) × (bytes_at m e.key ≡ q)

  -- no element of the list has these key bytes
  abbrev Out : Blocks → List ℕ → List (Option (Element V)) → Type 0
  Out m q items = (at : ℕ) (e : Element V) → at_item items at ≡ Some e → bytes_at m e.key ≢ q

  -- A key stands, or no element has it.
  pub cases_key : (m : Blocks) (t : Table V) (q : List ℕ) → Keyed m t → Spot m t q ⊎ Lacks m t q
  cases_key m t q k = elim (look t.items) [
    | inl p ↦ inl (record { at = p.0; element = p.1; found = p.2; bytes = live_bytes m p.1.key (k.live p.0 p.1 p.2) ∙ ap Some p.3 })
    | inr out ↦ inr (record { each = λ at e there same. out at e there (read m (m e.key) q same) })
  ]
    where
      out_more : (o : Option (Element V)) (rest : List (Option (Element V))) → ((e : Element V) → o ≡ Some e → bytes_at m e.key ≢ q) → Out m q rest → Out m q (o ∷ rest)
      out_more o rest first others zero e h = first e h
      out_more o rest first others (suc at) e h = others at e h

      look : (items : List (Option (Element V))) → Seen m q items ⊎ Out m q items
      look [] = inr (λ at e h. absurd (some_none None e h refl))
      look (None ∷ rest) = elim (look rest) [
        | inl p ↦ inl (suc p.0, p.1, p.2, p.3)
        | inr out ↦ inr (out_more None rest (λ e h. absurd (some_none None e h refl)) out)
      ]
      look (Some e ∷ rest) = elim (cases_Bool (tied (bytes_at m e.key) q)) [
        | inl same ↦ inl (0, e, refl, tied_true (bytes_at m e.key) q same)
        | inr other ↦ elim (look rest) [
          | inl p ↦ inl (suc p.0, p.1, p.2, p.3)
          | inr out ↦ inr
              (out_more (Some e) rest
              (λ f h is.
              (let one : e ≡ f = some_same (Some e) e f refl h in let bad : tied (bytes_at m e.key) q ≡ true =
              tied_same (bytes_at m e.key) q (ap (λ (x : Element V). bytes_at m x.key) one ∙ is) in cc)) out)
        ]
      ]

  module _ {X : Type 0} where
    -- What the map has is the meaning of an element's value.
    pub map_of_has : (m : Blocks) (meaning : V → X) (t : Table V) (q : List ℕ) (x : X) → Keyed m t → get (map_of m meaning t) q ≡ Some x → (s : Spot m t q) × (meaning s.element.value ≡ x)
    map_of_has m meaning t q x k is = elim (cases_key m t q k) [
      | inl s ↦ (s, some_same (get (map_of m meaning t) q) (meaning s.element.value) x (map_of_stands m meaning t s.at s.element q k s.found s.bytes) is)
      | inr lacks ↦ absurd (some_none (get (map_of m meaning t) q) x is (map_of_lacks m meaning t q k lacks))
    ]

    -- Keys keep their bytes and values their meaning, wherever the elements stand.
    pub map_of_same : (before after : Blocks) (meaning later : V → X) (old new : Table V) → Keyed before old → Keyed after new
        → ((at : ℕ) (e : Element V) → item old at ≡ Some e → (other : ℕ) × (f : Element V) × (item new other ≡ Some f) × (after f.key ≡ before e.key) × (later f.value ≡ meaning e.value))
        → ((at : ℕ) (f : Element V) → item new at ≡ Some f → (other : ℕ) × (e : Element V) × (item old other ≡ Some e) × (after f.key ≡ before e.key))
        → map_of after later new ≡ map_of before meaning old
    map_of_same before after meaning later old new k l forth back =
        maps_alike _ _ (λ q. elim (cases_key before old q k) [
          | inl s ↦
              (let p = forth s.at s.element s.found in
              map_of_stands after later new p.0 p.1 q l p.2 (p.3 ∙ s.bytes) ∙ ap Some p.4 ∙ sym (map_of_stands before meaning old s.at s.element q k s.found s.bytes))
          | inr lacks ↦
              (let none : Lacks after new q = record { each = λ at f there same. (let p = back at f there in lacks.each p.0 p.1 p.2 (sym p.3 ∙ same)) } in
              map_of_lacks after later new q l none ∙ sym (map_of_lacks before meaning old q k lacks))
        ])

    -- A store in which the key blocks keep their bytes, and values their meaning.
    pub map_of_frame : (before after : Blocks) (meaning later : V → X) (t : Table V) → Keyed before t → Keyed after t
        → ((at : ℕ) (e : Element V) → item t at ≡ Some e → (after e.key ≡ before e.key) × (later e.value ≡ meaning e.value)) → map_of after later t ≡ map_of before meaning t
    map_of_frame before after meaning later t k l keeps =
        map_of_same before after meaning later t t k l (λ at e there. (at, e, there, (keeps at e there).0, (keeps at e there).1)) (λ at e there. (at, e, there, (keeps at e there).0))

    module _ (m : Blocks) (meaning : V → X) (old new : Table V) (at : ℕ) (e : Element V) (q : List ℕ) (k : Keyed m old) (l : Keyed m new) where
      -- An element of a key joins, or stands in place of one of the same key: the map has its value there, and else what it had.
      pub map_of_put : Updates old.items new.items at (Some e) → m e.key ≡ Some q → ((f : Element V) → item old at ≡ Some f → m f.key ≡ Some q)
          → map_of m meaning new ≡ insert (map_of m meaning old) q (meaning e.value)
      map_of_put u bytes was =
          maps_alike _ _ (λ p. by_key p ∙ sym (get-insert nat_list_cmp_total (map_of m meaning old) q (meaning e.value) p))
        where
          other_place : (p : List ℕ) → p ≢ q → (s : Spot m new p) → s.at ≢ at
          other_place p apart s here =
              let same : s.element ≡ e = some_same (item new at) s.element e (ap (item new) (sym here) ∙ s.found) u.changed in
              apart (some_same (m e.key) p q (ap (λ (x : Element V). m x.key) (sym same) ∙ s.bytes) bytes)

          by_other : (p : List ℕ) → p ≢ q → get (map_of m meaning new) p ≡ get (map_of m meaning old) p
          by_other p apart = elim (cases_key m new p l) [
            | inl s ↦ map_of_stands m meaning new s.at s.element p l s.found s.bytes
                ∙ sym (map_of_stands m meaning old s.at s.element p k (sym (u.others s.at (other_place p apart s)) ∙ s.found) s.bytes)
            | inr lacks ↦
                (let none : Lacks m old p = record {
                  each = λ i f there same. elim (cases_eq i at) [
                    | inl here ↦ apart (some_same (m f.key) p q same (was f (ap (item old) (sym here) ∙ there)))
                    | inr other ↦ lacks.each i f (u.others i other ∙ there) same
                  ];
                } in
                map_of_lacks m meaning new p l lacks ∙ sym (map_of_lacks m meaning old p k none))
          ]

          by_key : (p : List ℕ) → get (map_of m meaning new) p ≡ cond (tied p q) (Some (meaning e.value)) (get (map_of m meaning old) p)
          by_key p = elim (cases_Bool (tied p q)) [
            | inl same ↦ map_of_stands m meaning new at e p l u.changed (bytes ∙ ap Some (sym (tied_true p q same))) ∙ sym (cond-true _ _ _ same)
            | inr other ↦ by_other p (λ same. (let bad : tied p q ≡ true = tied_same p q same in cc)) ∙ sym (cond-false _ _ _ other)
          ]

      -- The element of a key leaves: the map has nothing there, and else what it had.
      pub map_of_taken : Updates old.items new.items at None → item old at ≡ Some e → m e.key ≡ Some q → map_of m meaning new ≡ remove (map_of m meaning old) q
      map_of_taken u found bytes =
          maps_alike _ _ (λ p. by_key p ∙ sym (get-remove nat_list_cmp_total (map_of m meaning old) q p))
        where
          still : (i : ℕ) (f : Element V) → item new i ≡ Some f → (i ≢ at) × (item old i ≡ Some f)
          still i f there = elim (cases_eq i at) [
            | inl here ↦ absurd (some_none (item new i) f there (ap (item new) here ∙ u.changed))
            | inr other ↦ (other, sym (u.others i other) ∙ there)
          ]

          gone : Lacks m new q
          gone = record { each = λ i f there same. (let p = still i f there in p.0 (k.apart i at f e p.1 found (same ∙ sym bytes))) }

          by_other : (p : List ℕ) → p ≢ q → get (map_of m meaning new) p ≡ get (map_of m meaning old) p
          by_other p apart = elim (cases_key m new p l) [
            | inl s ↦ map_of_stands m meaning new s.at s.element p l s.found s.bytes ∙ sym (map_of_stands m meaning old s.at s.element p k (still s.at s.element s.found).1 s.bytes)
            | inr lacks ↦
                (let none : Lacks m old p = record {
                  each = λ i f there same. elim (cases_eq i at) [
                    | inl here ↦
                        (let one : f ≡ e = some_same (item old at) f e (ap (item old) (sym here) ∙ there) found in
                        apart (some_same (m e.key) p q (ap (λ (x : Element V). m x.key) (sym one) ∙ same) bytes))
                    | inr other ↦ lacks.each i f (u.others i other ∙ there) same
                  ];
                } in
                map_of_lacks m meaning new p l lacks ∙ sym (map_of_lacks m meaning old p k none))
          ]

          by_key : (p : List ℕ) → get (map_of m meaning new) p ≡ cond (tied p q) None (get (map_of m meaning old) p)
          by_key p = elim (cases_Bool (tied p q)) [
            | inl same ↦ ap (get (map_of m meaning new)) (tied_true p q same) ∙ map_of_lacks m meaning new q l gone ∙ sym (cond-true _ _ _ same)
            | inr other ↦ by_other p (λ same. (let bad : tied p q ≡ true = tied_same p q same in cc)) ∙ sym (cond-false _ _ _ other)
          ]

    -- ---- what the calls make of the map

    module _ (m : Blocks) (meaning : V → X) (old new : Table V) (k : Keyed m old) where
      -- `insert`
      pub map_of_adds : (at : ℕ) (e : Element V) → Keyed m new → IsSome (m e.key) → Adds old new at e → map_of m meaning new ≡ insert (map_of m meaning old) (bytes_at m e.key) (meaning e.value)
      map_of_adds at e l live a = map_of_put m meaning old new at e (bytes_at m e.key) k l a.updates (live_bytes m e.key live) (λ f there. absurd (some_none (item old at) f there a.vacant))

      -- `remove`
      pub map_of_removes : (key : List ℕ) (ref : BlockRef) (value : V) → Keyed m new → Removes m old new key ref value → map_of m meaning new ≡ remove (map_of m meaning old) key
      map_of_removes key ref value l r = map_of_taken m meaning old new r.at _ key k l r.updates r.found r.bytes

      -- before a `remove` the map has the meaning of the removed value at the key
      pub map_of_had : (key : List ℕ) (ref : BlockRef) (value : V) → Removes m old new key ref value → get (map_of m meaning old) key ≡ Some (meaning value)
      map_of_had key ref value r = map_of_stands m meaning old r.at _ key k r.found r.bytes

      -- `remove` of a key that isn't there
      pub map_of_kept : (key : List ℕ) → new ≡ old → Lacks m old key → map_of m meaning new ≡ remove (map_of m meaning old) key
      map_of_kept key same lacks = ap (map_of m meaning) same ∙ sym (remove_absent (map_of m meaning old) key (map_of_lacks m meaning old key k lacks))

      -- `swap_value`
      pub map_of_swaps : (at : ℕ) (was value : V) → Keyed m new → Swaps old new at was value → map_of m meaning new ≡ insert (map_of m meaning old) (key_of m (item old at)) (meaning value)
      map_of_swaps at was value l s =
          let bytes : m s.key ≡ Some (key_of m (item old at)) = live_bytes m s.key (k.live at _ s.found) ∙ ap (λ o. Some (key_of m o)) (sym s.found) in
          map_of_put m meaning old new at (record { key = s.key; hash = s.hash; value = value }) (key_of m (item old at)) k l s.updates bytes
          (λ f there. (let one : f ≡ record { key = s.key; hash = s.hash; value = was } = some_same (item old at) _ _ there s.found in ap (λ (x : Element V). m x.key) one ∙ bytes))

      -- before a `swap_value` the map has the meaning of the old value at the element's key
      pub map_of_was : (at : ℕ) (was value : V) → Swaps old new at was value → get (map_of m meaning old) (key_of m (item old at)) ≡ Some (meaning was)
      map_of_was at was value s = map_of_stands m meaning old at _ (key_of m (item old at)) k s.found (live_bytes m s.key (k.live at _ s.found) ∙ ap (λ o. Some (key_of m o)) (sym s.found))

    -- `swap_ref`
    pub map_of_renames : (before after : Blocks) (meaning : V → X) (old new : Table V) (at : ℕ) (ref : BlockRef) → Keyed before old → Keyed after new → (n : Renames old new at ref)
        → after ref ≡ before n.element.key
        → ((other : ℕ) (e : Element V) → other ≢ at → item old other ≡ Some e → after e.key ≡ before e.key) → map_of after meaning new ≡ map_of before meaning old
    map_of_renames before after meaning old new at ref k l n same keeps =
        map_of_same before after meaning meaning old new k l
        (λ i e there. elim (cases_eq i at) [
          | inl here ↦
              (let one : e ≡ n.element = some_same (item old at) _ _ (ap (item old) (sym here) ∙ there) n.found in
              (at, record n.element { key = ref }, n.updates.changed, same ∙ ap (λ (x : Element V). before x.key) (sym one), ap (λ (x : Element V). meaning x.value) (sym one)))
          | inr other ↦ (i, e, n.updates.others i other ∙ there, keeps i e other there, refl)
        ])
        (λ i f there. elim (cases_eq i at) [
          | inl here ↦
              (let one : f ≡ record n.element { key = ref } = some_same (item new at) _ _ (ap (item new) (sym here) ∙ there) n.updates.changed in
              (at, n.element, n.found, ap (λ (x : Element V). after x.key) one ∙ same))
          | inr other ↦ (i, f, sym (n.updates.others i other) ∙ there, keeps i f other (sym (n.updates.others i other) ∙ there))
        ])

  -- `insert`, where it may want memory
  pub content_adds : {E : Type 0} (m : Blocks) (old new : Table V) (e : Element V) (result : Result ℕ E) → Keyed m old → IsSome (m e.key) → e.hash ≡ hash_of old.seed (bytes_at m e.key)
      → Lacks m old (bytes_at m e.key)
      → IfOk result (λ at. Adds old new at e) → OnOk result (content m new ≡ insert (content m old) (bytes_at m e.key) e.value)
  content_adds m old new e (Ok at) k live hashed lacks a = map_of_adds m (λ v. v) old new k at e (a.keyed m k live hashed lacks).0 live a
  content_adds m old new e (Err x) k live hashed lacks a = tt

  -- an element of the key was taken out
  module _ (m : Blocks) (old new : Table V) (at : ℕ) (key : List ℕ) (ref : BlockRef) (value : V) (k : Keyed m old) (s : Stands m old at key) (t : Takes old new at ref value) where
    -- without the element each key is still a live block with the bytes of its hash, and no two elements have one key
    left : Keyed m new
    left = keyed_removed m old new at s.element key k s.found s.bytes t.updates t.seed t.placed

    -- the content is the old one with the key removed
    pub content_takes : content m new ≡ remove (content m old) key
    content_takes = map_of_taken m (λ v. v) old new at s.element key k left t.updates s.found s.bytes

    -- the old content has, at the key, the value that was taken out
    pub content_took : get (content m old) key ≡ Some value
    content_took = map_of_stands m (λ v. v) old at s.element key k s.found s.bytes ∙ ap (λ o. value_of o) (sym s.found ∙ t.found)

  -- `find`
  pub content_found : (m : Blocks) (t : Table V) (at : ℕ) (q : List ℕ) → Keyed m t → Stands m t at q → get (content m t) q ≡ value_found t (Some at)
  content_found m t at q k s = map_of_stands m (λ v. v) t at s.element q k s.found s.bytes ∙ ap value_of (sym s.found)

  -- ---- references

  -- the references where one item number changes
  pub refs_changed : (own : V → List BlockRef) (old new : Table V) (at : ℕ) (o : Option (Element V)) → Updates old.items new.items at o → (r : BlockRef)
      → times r (refs_of own new) + times r (own_of own (item old at)) ≡ times r (refs_of own old) + times r (own_of own o)
  refs_changed own old new at o u r = times_changed (own_of own) None refl r old.items new.items at u.others ∙ ap (λ x. times r (refs_of own old) + times r (own_of own x)) u.changed

  -- the key block of each element of a list
  abbrev key_list : List (Option (Element V)) → List BlockRef
  key_list items = flat_map (own_of (λ (_ : V). [])) items

  -- a reference among the key blocks is the key block of some element
  named_by : (items : List (Option (Element V))) (r : BlockRef) → 0 < times r (key_list items) → (at : ℕ) × (e : Element V) × (at_item items at ≡ Some e) × (e.key ≡ r)
  named_by [] r h = absurd (omega arith)
  named_by (None ∷ rest) r h = (let p = named_by rest r h in (suc p.0, p.1, p.2, p.3))
  named_by (Some e ∷ rest) r h = elim (cases_Bool (ref_eq e.key r)) [
    | inl same ↦ (0, e, refl, ref_eq_true e.key r same)
    | inr other ↦ (let p = named_by rest r (omega (arith, ap one_if other)) in (suc p.0, p.1, p.2, p.3))
  ]

  -- where no two elements have one key block, no reference stands twice among the key blocks
  named_once : (items : List (Option (Element V))) (r : BlockRef)
      → ((at other : ℕ) (e f : Element V) → at_item items at ≡ Some e → at_item items other ≡ Some f → e.key ≡ f.key → at ≡ other) → times r (key_list items) ≤ 1
  named_once [] r one = omega arith
  named_once (None ∷ rest) r one = named_once rest r (λ at other e f h k same. omega (arith, one (suc at) (suc other) e f h k same))
  named_once (Some e ∷ rest) r one =
      let later : times r (key_list rest) ≤ 1 = named_once rest r (λ at other f g h k same. omega (arith, one (suc at) (suc other) f g h k same)) in
      elim (cases_Bool (ref_eq e.key r)) [
        | inl same ↦ elim (cases_eq (times r (key_list rest)) 0) [
          | inl none ↦ omega (arith, none, ap one_if same)
          | inr some ↦ (let p = named_by rest r (omega arith) in absurd (omega (arith, one 0 (suc p.0) e p.1 refl p.2 (ref_eq_true e.key r same ∙ sym p.3))))
        ]
        | inr other ↦ omega (arith, ap one_if other, later)
      ]

  -- The key blocks are live, and none is named twice.
  pub key_refs_owned : (m : Blocks) (t : Table V) → Keyed m t → Owned (key_refs t) m
  key_refs_owned m t k r = elim (cases_eq (times r (key_refs t)) 0) [
    | inl none ↦ omega (arith, none)
    | inr some ↦
        (let p = named_by t.items r (omega arith) in
        let there : live m r ≡ 1 = ap one_if (ap (λ x. is_some (m x)) (sym p.3) ∙ k.live p.0 p.1 p.2) in
        omega (arith, there, named_once t.items r (λ at other e f h g same. k.apart at other e f h g (ap m same))))
  ]
