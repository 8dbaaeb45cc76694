-- A table of scores over blocks that change, and what becomes of it where a member is put in, gets another score, or is taken out.
use Rattle.std.proofs.Common.{◌≡◌, ◌≢◌, inl, inr, ℕ, ◌+◌, ℤ, List, [], ◌∷◌, map, get_or, Option, Some, None, IsSome, Bool, true, false, unwrap_or, flat_map, refl, sym, ap, ◌∙◌, subst, arith}
use Rattle.std.specs.FinMap.{get, insert, remove}
use Rattle.std.proofs.lemmas.Bool.{cond-true}
use Rattle.blocks.specs.declared.BlockRef.{BlockRef}
use Rattle.blocks.specs.Blocks.{Blocks, ref_eq, times, with_block, bytes_at, Changes}
use Rattle.blocks.proofs.Refs.{ref_eq_refl, cases_ref, with_block_other}
use Rattle.blocks.proofs.Change.{one, changes_beside, changes_counted, changes_same, changes_then, counts_ended, counts_same, owned_others}
use Rattle.collection_walk.proofs.Named.{names_key}
use Rattle.rehash_dict.specs.Table.{Table, Element, at_item, item}
use Rattle.rehash_dict.specs.Keyed.{Keyed, Lacks, Stands, hash_of, key_of as key_bytes, key_tables}
use Rattle.rehash_dict.specs.Steps.{Holds, Adds, Swaps, Removes}
use Rattle.rehash_dict.specs.Grown.{Grown}
use Rattle.rehash_dict.specs.MapOf.{content, value_of, key_refs, own_of}
use Rattle.rehash_dict.proofs.Keys.{keyed_frame, live_bytes}
use Rattle.rehash_dict.proofs.MapOf.{cases_key, map_of_stands, map_of_frame, map_of_adds, refs_changed, key_refs_owned}
use Rattle.rehash_dict.proofs.Growing.{grown_same, grown_then}
use Rattle.score_list.specs.Linked.{Element as Scored, no_element, with_at, without_at}
use Rattle.score_list.specs.Sorted.{Key, key_of, place_of, IsSorted, Misses, Rescores, Removes as ListRemoves}
use Rattle.score_list.proofs.Renaming.{Alike, sorted_alike}
use Rattle.score_table.specs.declared.table.ScoreTable.{ScoreTable}
use Rattle.score_table.specs.Ranking.{ScoreMap}
use Rattle.score_table.specs.Scored.{IsScoreTable, IsChanged, IsJoined, scores, ranked, refs, tables, seed_of}
use Rattle.score_table.proofs.Bytes.{insert_same}
use Rattle.score_table.proofs.Among.{Among, among_contained, contained_among, misses_all, missed, it_is, Follows, follows_with, follows_without, follows_removed, follows_moved}
use Rattle.score_table.proofs.Agreeing.{entry_of, agree_follows}

-- the blocks that a value owns: none
abbrev pub no_block : ℤ → List BlockRef
no_block v = []

-- ---- blocks that keep their bytes

-- where the blocks of its elements are the same in both stores, a list is alike to itself
alike_same : (m n : Blocks) (xs : List Scored) → ((x : Scored) → Among xs x → n x.1 ≡ m x.1) → Alike m n xs xs
alike_same m n [] same = tt
alike_same m n (x ∷ xs) same = (refl, same x (inl refl), alike_same m n xs (λ y h. same y (inr h)))

-- where the blocks of its elements are the same in both stores, a list has the same keys in both
ranked_same : (m n : Blocks) (xs : List Scored) → ((x : Scored) → Among xs x → n x.1 ≡ m x.1) → map (key_of n) xs ≡ map (key_of m) xs
ranked_same m n [] same = refl
ranked_same m n (x ∷ xs) same =
    let first : key_of n x ≡ key_of m x = ap (λ (o : Option (List ℕ)). let k : Key = (x.0, unwrap_or o []) in k) (same x (inl refl)) in
    let rest = ranked_same m n xs (λ y h. same y (inr h)) in
    cc

module _ (m n : Blocks) (s : ScoreTable) (is : IsScoreTable m s) (same : (at : ℕ) (e : Element ℤ) → item s.table at ≡ Some e → n e.key ≡ m e.key) where
  -- the blocks of the list's elements are the same in both stores
  listed_same : (x : Scored) → Among s.list x → n x.1 ≡ m x.1
  listed_same x h = let p = is.agree.named x (contained_among s.list x h) in same p.0 (record { key = x.1; hash = p.1.hash; value = x.0 }) p.1.found

  -- over the new store the dictionary is sound, and its tables are the same
  keyed_same : Keyed n s.table × (key_tables n s.table ≡ key_tables m s.table)
  keyed_same = keyed_frame m n s.table is.keyed same

  -- a table of scores is sound over a store in which the blocks of its members are the same
  pub kept_sound : IsScoreTable n s
  kept_sound = record {
    keyed = keyed_same.0;
    sorted = sorted_alike m n s.list s.list (alike_same m n s.list listed_same) is.sorted;
    agree = is.agree;
  }

  -- the scores are the same over a store in which the blocks of its members are the same
  pub kept_scores : scores n s ≡ scores m s
  kept_scores = map_of_frame m n (λ (v : ℤ). v) (λ (v : ℤ). v) s.table is.keyed keyed_same.0 (λ at e found. (same at e found, refl))

  -- the pairs in their order are the same over a store in which the blocks of its members are the same
  pub kept_ranked : ranked n s ≡ ranked m s
  kept_ranked = ranked_same m n s.list listed_same

  -- the dictionary's tables are the same over a store in which the blocks of its members are the same
  pub kept_tables : tables n s ≡ tables m s
  kept_tables = keyed_same.1

-- ---- a member joins

-- two answers of one option are the same
some_element : (o : Option (Element ℤ)) (a b : Element ℤ) → o ≡ Some a → o ≡ Some b → a ≡ b
some_element o a b h k = cc

-- what the map has nothing for no element has
pub lacks_member : (m : Blocks) (t : Table ℤ) (q : List ℕ) → Keyed m t → get (content m t) q ≡ None → Lacks m t q
lacks_member m t q k none = elim (cases_key m t q k) [
  | inl s ↦ absurd (never (get (content m t) q) s.element.value (map_of_stands m (λ (v : ℤ). v) t s.at s.element q k s.found s.bytes) none)
  | inr lacks ↦ lacks
]
  where
    never : (o : Option ℤ) (x : ℤ) → o ≡ Some x → o ≡ None → ⊥
    never o x h n = cc

module _ (m : Blocks) (old : ScoreTable) (is : IsScoreTable m old) where
  -- no element of the list has the bytes of a member that isn't there
  pub joins_fresh : (score : ℤ) (q : List ℕ) → Lacks m old.table q → Misses m (score, q) old.list
  joins_fresh score q lacks = misses_all m (score, q) old.list (λ x h same.
      let p = is.agree.named x (contained_among old.list x h) in
      let e : Element ℤ = record { key = x.1; hash = p.1.hash; value = x.0 } in
      lacks.each p.0 e p.1.found (live_bytes m x.1 (is.keyed.live p.0 e p.1.found) ∙ ap Some (ap (λ (k : Key). k.1) same)))

  -- nor has one the bytes of a member and another score than its own
  pub rescores_fresh : (at : ℕ) (q : List ℕ) (score : ℤ) (st : Stands m old.table at q) → score ≢ st.element.value → Misses m (score, q) old.list
  rescores_fresh at q score st apart = misses_all m (score, q) old.list (λ x h same.
      let p = is.agree.named x (contained_among old.list x h) in
      let e : Element ℤ = record { key = x.1; hash = p.1.hash; value = x.0 } in
      let bytes : m x.1 ≡ Some q = live_bytes m x.1 (is.keyed.live p.0 e p.1.found) ∙ ap Some (ap (λ (k : Key). k.1) same) in
      let here : p.0 ≡ at = is.keyed.apart p.0 at e st.element p.1.found st.found (bytes ∙ sym st.bytes) in
      let it : e ≡ st.element = some_element (item old.table at) e st.element (ap (item old.table) (sym here) ∙ p.1.found) st.found in
      apart (sym (ap (λ (k : Key). k.0) same) ∙ ap (λ (f : Element ℤ). f.value) it))

module _ (m : Blocks) (old : ScoreTable) (table : Table ℤ) (ys : List Scored) (at place : ℕ) (e : Element ℤ) (is : IsScoreTable m old) (live : IsSome (m e.key))
    (adds : Adds old.table table at e) (hashed : e.hash ≡ hash_of old.table.seed (bytes_at m e.key)) (lacks : Lacks m old.table (bytes_at m e.key)) (sorted : IsSorted m ys)
    (list_is : ys ≡ with_at old.list place (e.value, e.key)) where
  -- the dictionary that the element joined is sound over the store
  added : Keyed m table
  added = (adds.keyed m is.keyed live hashed lacks).0

  -- the dictionary names each block as often as before, and the new element's block once more
  more : (r : BlockRef) → times r (key_refs table) ≡ times r (key_refs old.table) + times r (e.key ∷ [])
  more r =
      let both = refs_changed no_block old.table table at (Some e) adds.updates r in
      let none : times r (own_of no_block (item old.table at)) ≡ 0 = ap (λ o. times r (own_of no_block o)) adds.vacant in
      omega (arith, both, none)

  -- an element that joins the dictionary and the list joins the table of scores
  pub joined : Grown (hash_of old.table.seed) (key_tables m old.table) (key_tables m table) → IsJoined m old (record { table = table; list = ys }) e.key e.value
  joined grown = record {
    sound = record {
      keyed = added;
      sorted = sorted;
      agree = agree_follows m old.table table old.list ys at (Some e) is.keyed adds.updates is.agree
          (subst (λ zs. Follows old.list zs (entry_of (item old.table at)) (Some (e.value, e.key))) (sym list_is)
          (subst (λ o. Follows old.list (with_at old.list place (e.value, e.key)) o (Some (e.value, e.key))) (sym (ap entry_of adds.vacant)) (follows_with old.list place (e.value, e.key))));
    };
    scores_are = map_of_adds m (λ (v : ℤ). v) old.table table is.keyed at e added live adds;
    one_more = more;
    grown = grown;
    seed = adds.seed;
  }

-- ---- the block of a new member was placed

module _ (m n : Blocks) (old : ScoreTable) (at : BlockRef) (q : List ℕ) (is : IsScoreTable m old) (placed : n ≡ with_block m at (Some q)) (p : Changes m n [] (at ∷ [])) where
  -- the blocks of the elements stay the same where a block is placed
  put_same : (i : ℕ) (e : Element ℤ) → item old.table i ≡ Some e → n e.key ≡ m e.key
  put_same i e found = owned_others m n [] (at ∷ []) (key_refs old.table) (key_refs_owned m old.table is.keyed) p e.key (names_key old.table i e found) refl

  -- the table of scores stays sound where a block is placed
  pub put_sound : IsScoreTable n old
  put_sound = kept_sound m n old is put_same

  -- the placed block holds the bytes of the member
  put_bytes : bytes_at n at ≡ q
  put_bytes = ap (λ (o : Option (List ℕ)). unwrap_or o []) ((λ j. placed j at) ∙ cond-true _ _ _ (ref_eq_refl at))

  -- a dictionary that lacked the member lacks the bytes of the placed block in the new store
  pub put_lacks : Lacks m old.table q → Lacks n old.table (bytes_at n at)
  put_lacks l = subst (Lacks n old.table) (sym put_bytes) (record { each = λ i e found same. l.each i e found (sym (put_same i e found) ∙ same) })

  -- where the placed block joined, the table has its old scores with that of the new member put in
  pub put_joined : (new : ScoreTable) (score : ℤ) → IsJoined n old new at score → IsChanged m n old new (insert (scores m old) q score)
  put_joined new score j = record {
    sound = j.sound;
    scores_are = j.scores_are ∙ ap (λ b. insert (scores n old) b score) put_bytes ∙ ap (λ map. insert map q score) (kept_scores m n old is put_same);
    changes = changes_beside m n [] (at ∷ []) (refs old) (refs new) p (key_refs_owned m old.table is.keyed) (λ r. times r (refs old)) (λ r. omega arith) (λ r. omega (arith, j.one_more r));
    grown = subst (λ t. Grown (hash_of (seed_of old)) t (tables n new)) (kept_tables m n old is put_same) j.grown;
    seed = j.seed;
  }

-- ---- a member gets another score

-- the value of an element that was found
pub value_is : (t : Table ℤ) (at : ℕ) (v : ℤ) (e : Element ℤ) → item t at ≡ Some e → value_of (item t at) ≡ Some v → e.value ≡ v
value_is t at v e found h = some_same e.value v (ap value_of (sym found) ∙ h)
  where
    some_same : (a b : ℤ) → Some a ≡ Some b → a ≡ b
    some_same a b h = cc

-- the value of the element that stands for a member is the score of the member
pub found_score : (m : Blocks) (s : ScoreTable) → IsScoreTable m s → (at : ℕ) (q : List ℕ) (st : Stands m s.table at q) (v : ℤ) → st.element.value ≡ v → get (scores m s) q ≡ Some v
found_score m s is at q st v value = map_of_stands m (λ (v : ℤ). v) s.table at st.element q is.keyed st.found st.bytes ∙ ap Some value

-- a table that is left as it is has its scores with one put in that the member has already
pub same_changed : (m : Blocks) (s : ScoreTable) (q : List ℕ) (v : ℤ) → IsScoreTable m s → get (scores m s) q ≡ Some v → IsChanged m m s s (insert (scores m s) q v)
same_changed m s q v is has = record {
  sound = is;
  scores_are = sym (insert_same (scores m s) q v has);
  changes = changes_same m (refs s) (key_refs_owned m s.table is.keyed);
  grown = grown_same (hash_of (seed_of s)) _ _ refl;
  seed = refl;
}

module _ (m : Blocks) (old : ScoreTable) (table : Table ℤ) (ys : List Scored) (at : ℕ) (was score : ℤ) (q : List ℕ) (is : IsScoreTable m old) (st : Stands m old.table at q)
    (swaps : Swaps old.table table at was score) where
  -- the element that stands for the member is the one whose value changes
  pub its : st.element ≡ record { key = swaps.key; hash = swaps.hash; value = was }
  its = some_element (item old.table at) st.element (record { key = swaps.key; hash = swaps.hash; value = was }) st.found swaps.found

  -- the block of the element whose value changes holds the bytes of the member
  bytes_are : m swaps.key ≡ Some q
  bytes_are = ap (λ (e : Element ℤ). m e.key) (sym its) ∙ st.bytes

  -- the list has the block of the member with its old score
  there : Among old.list (was, swaps.key)
  there = among_contained old.list (was, swaps.key) (is.agree.listed at (record { key = swaps.key; hash = swaps.hash; value = was }) swaps.found)

  -- the dictionary names each block as often as before
  same_refs : (r : BlockRef) → times r (key_refs table) ≡ times r (key_refs old.table)
  same_refs r =
      let both = refs_changed no_block old.table table at (Some (record { key = swaps.key; hash = swaps.hash; value = score })) swaps.updates r in
      let here : times r (own_of no_block (item old.table at)) ≡ times r (swaps.key ∷ []) = ap (λ o. times r (own_of no_block o)) swaps.found in
      omega (arith, both, here)

  -- its old score and the bytes of the member are the key of its element
  old_key : ◌≡◌ {A = Key} (was, q) (key_of m (was, swaps.key))
  old_key = ap (λ (o : Option (List ℕ)). let k : Key = (was, unwrap_or o []) in k) (sym bytes_are)

  -- the list has the new score of the member in place of the old
  moved_on : (moved : Bool) → Rescores m (was, q) score old.list moved ys → Follows old.list ys (Some (was, swaps.key)) (Some (score, swaps.key))
  moved_on false moves = absurd (missed m (was, q) old.list (was, swaps.key) moves.0 there (sym old_key))
  moved_on true moves =
      let place = place_of m (was, q) old.list in
      let rest = without_at old.list place in
      let to = place_of m (score, q) rest in
      let key_is = moves.0.1 ∙ old_key in
      let same : get_or old.list place no_element ≡ (was, swaps.key) = it_is m old.list is.sorted (was, swaps.key) there place moves.0.0 key_is in
      let list_is : ys ≡ with_at rest to (score, swaps.key) = moves.1 ∙ ap (λ (e : Scored). with_at rest to (score, e.1)) same in
      subst (λ l. Follows old.list l (Some (was, swaps.key)) (Some (score, swaps.key))) (sym list_is)
      (follows_moved old.list rest (with_at rest to (score, swaps.key)) (was, swaps.key) (score, swaps.key)
      (follows_without m old.list is.sorted (was, swaps.key) there place moves.0.0 key_is) (follows_with rest to (score, swaps.key)))

  -- where the dictionary and the list have the new score in place of the old, the table has changed to it
  pub rescored : (moved : Bool) → Rescores m (was, q) score old.list moved ys → IsSorted m ys
      → Keyed m table → key_tables m table ≡ key_tables m old.table → content m table ≡ insert (content m old.table) (key_bytes m (item old.table at)) score
      → IsChanged m m old (record { table = table; list = ys }) (insert (scores m old) q score)
  rescored moved moves sorted keyed tables_are map_is = record {
    sound = record {
      keyed = keyed;
      sorted = sorted;
      agree = agree_follows m old.table table old.list ys at (Some (record { key = swaps.key; hash = swaps.hash; value = score })) is.keyed swaps.updates is.agree
          (subst (λ o. Follows old.list ys o (Some (score, swaps.key))) (sym (ap entry_of swaps.found)) (moved_on moved moves));
    };
    scores_are = map_is ∙ ap (λ b. insert (scores m old) b score) (ap (key_bytes m) swaps.found ∙ ap (λ (o : Option (List ℕ)). unwrap_or o []) bytes_are);
    changes = changes_counted m m (key_refs old.table) (key_refs table) (key_refs_owned m old.table is.keyed) (counts_same m (key_refs old.table) (key_refs table) same_refs);
    grown = grown_same (hash_of old.table.seed) _ _ tables_are;
    seed = swaps.seed;
  }

  -- the same, where the old score was read off the dictionary
  pub rescored_as : (v : ℤ) → value_of (item old.table at) ≡ Some v → (moved : Bool) → Rescores m (v, q) score old.list moved ys → IsSorted m ys
      → Keyed m table → key_tables m table ≡ key_tables m old.table → content m table ≡ insert (content m old.table) (key_bytes m (item old.table at)) score
      → IsChanged m m old (record { table = table; list = ys }) (insert (scores m old) q score)
  rescored_as v value moved moves = rescored moved (subst (λ w. Rescores m (w, q) score old.list moved ys) same_value moves)
    where
      same_value : v ≡ was
      same_value = sym (value_is old.table at v (record { key = swaps.key; hash = swaps.hash; value = was }) swaps.found value)

-- ---- a member is taken out, and its block given back

module _ (m n : Blocks) (old : ScoreTable) (table : Table ℤ) (ys : List Scored) (q : List ℕ) (ref : BlockRef) (score : ℤ) (is : IsScoreTable m old)
    (r : Removes m old.table table q ref score) (given : n ≡ with_block m ref None) where
  -- the table of scores without the member, before its block is given back
  abbrev mid : ScoreTable
  mid = record { table = table; list = ys }

  -- the old list has the block of the member that leaves, with its score
  gone_there : Among old.list (score, ref)
  gone_there = among_contained old.list (score, ref) (is.agree.listed r.at (record { key = ref; hash = r.hash; value = score }) r.found)

  -- the score and the bytes of the member that leaves are the key of its element
  key_is : ◌≡◌ {A = Key} (score, q) (key_of m (score, ref))
  key_is = ap (λ (o : Option (List ℕ)). let k : Key = (score, unwrap_or o []) in k) (sym r.bytes)

  -- what a removal of its key leaves of the list
  follows : (removed : Bool) → ListRemoves m (score, q) old.list removed ys → Follows old.list ys (Some (score, ref)) None
  follows removed removes = follows_removed m old.list is.sorted (score, ref) gone_there removed ys (subst (λ k. ListRemoves m k old.list removed ys) key_is removes)

  -- without the member in the dictionary and in the list, the table is sound over the old store
  taken_out : Keyed m table → IsSorted m ys → Follows old.list ys (Some (score, ref)) None → IsScoreTable m mid
  taken_out keyed sorted follows = record {
    keyed = keyed;
    sorted = sorted;
    agree = agree_follows m old.table table old.list ys r.at None is.keyed r.updates is.agree (subst (λ o. Follows old.list ys o None) (sym (ap entry_of r.found)) follows);
  }

  -- no element that is left has the block that is given back
  other_key : (i : ℕ) (e : Element ℤ) → item table i ≡ Some e → ref_eq e.key ref ≡ false
  other_key i e h = elim (cases_ref e.key ref) [
    | inl same ↦ absurd (never same)
    | inr other ↦ other
  ]
    where
      apart : i ≢ r.at
      apart same = let none : item table i ≡ None = ap (item table) same ∙ r.updates.changed in cc

      never : e.key ≡ ref → ⊥
      never same = apart (is.keyed.apart i r.at e (record { key = ref; hash = r.hash; value = score }) (sym (r.updates.others i apart) ∙ h) r.found (ap m same))

  -- the blocks of the elements that are left stay the same where the block is given back
  others_same : (i : ℕ) (e : Element ℤ) → item table i ≡ Some e → n e.key ≡ m e.key
  others_same i e h = (λ j. given j e.key) ∙ with_block_other m ref e.key None (other_key i e h)

  -- the dictionary names each block as often as before, but the one that is given back once less
  fewer : (p : BlockRef) → times p (key_refs table) + one p ref ≡ times p (key_refs old.table)
  fewer p =
      let both = refs_changed no_block old.table table r.at None r.updates p in
      let was : times p (own_of no_block (item old.table r.at)) ≡ times p (ref ∷ []) = ap (λ o. times p (own_of no_block o)) r.found in
      omega (arith, both, was)

  -- the block that is given back was live
  live : IsSome (m ref)
  live = subst (λ o. IsSome o) (sym r.bytes) refl

  -- where the member left and its block was given back, the table has its old scores without that member
  pub taken_off : Keyed m table → IsSorted m ys → Follows old.list ys (Some (score, ref)) None → content m table ≡ remove (content m old.table) q
      → Grown (hash_of old.table.seed) (key_tables m old.table) (key_tables m table)
      → IsChanged m n old mid (remove (scores m old) q)
  taken_off keyed sorted follows map_is grown = record {
    sound = kept_sound m n mid sound others_same;
    scores_are = kept_scores m n mid sound others_same ∙ map_is;
    changes = changes_counted m n (key_refs old.table) (key_refs table) (key_refs_owned m old.table is.keyed) (counts_ended m n ref (key_refs old.table) (key_refs table) live given fewer);
    grown = subst (Grown (hash_of old.table.seed) (key_tables m old.table)) (sym (kept_tables m n mid sound others_same)) grown;
    seed = r.seed;
  }
    where
      sound : IsScoreTable m mid
      sound = taken_out keyed sorted follows

  -- and the pairs of what is left of the list
  pub taken_ranked : Keyed m table → IsSorted m ys → Follows old.list ys (Some (score, ref)) None → ranked n mid ≡ map (key_of m) ys
  taken_ranked keyed sorted follows = kept_ranked m n mid (taken_out keyed sorted follows) others_same

  -- the same, where the list answered the removal
  pub taken : Keyed m table → IsSorted m ys → (removed : Bool) → ListRemoves m (score, q) old.list removed ys → content m table ≡ remove (content m old.table) q
      → Grown (hash_of old.table.seed) (key_tables m old.table) (key_tables m table)
      → IsChanged m n old mid (remove (scores m old) q)
  taken keyed sorted removed removes = taken_off keyed sorted (follows removed removes)

-- one change and then another are one change, to the scores of the second
pub changed_then : (a b c : Blocks) (t u v : ScoreTable) (s w : ScoreMap) → IsChanged a b t u s → IsChanged b c u v w → IsChanged a c t v w
changed_then a b c t u v s w p q = record {
  sound = q.sound;
  scores_are = q.scores_are;
  changes = changes_then a b c (refs t) (refs u) (refs v) p.changes q.changes;
  grown = grown_then (hash_of (seed_of t)) (tables a t) (tables b u) (tables c v) p.grown (subst (λ n. Grown (hash_of n) (tables b u) (tables c v)) p.seed q.grown);
  seed = q.seed ∙ p.seed;
}

-- ---- the elements stay, and the tables change

-- a table whose items stay, and whose buckets come from the old ones by edits, has its old scores
pub items_changed : (m : Blocks) (old : ScoreTable) (table : Table ℤ) → IsScoreTable m old → table.items ≡ old.table.items → Keyed m table → table.seed ≡ old.table.seed
    → content m table ≡ content m old.table
    → Grown (hash_of old.table.seed) (key_tables m old.table) (key_tables m table) → IsChanged m m old (record { table = table; list = old.list }) (scores m old)
items_changed m old table is items keyed seed map_is grown = record {
  sound = record {
    keyed = keyed;
    sorted = is.sorted;
    agree = record {
      listed = λ at e there. is.agree.listed at e (ap (λ xs. at_item xs at) (sym items) ∙ there);
      named = λ x h. let p = is.agree.named x h in (p.0, record { hash = p.1.hash; found = ap (λ xs. at_item xs p.0) items ∙ p.1.found });
    };
  };
  scores_are = map_is;
  changes = subst (λ xs. Changes m m (key_refs old.table) (flat_map (own_of no_block) xs)) (sym items) (changes_same m (key_refs old.table) (key_refs_owned m old.table is.keyed));
  grown = grown;
  seed = seed;
}
