-- A table of scores whose members are copied, in the order of their item numbers.
use Rattle.std.proofs.Common.{◌≡◌, ℕ, ℤ, ◌<◌, suc, List, [], Option, Some, None, IsSome, is_some, cond, unwrap_or, refl, sym, ap, ◌∙◌, subst, arith, inl, inr}
use Rattle.std.proofs.lemmas.Bool.{cases_eq}
use Rattle.std.specs.FinMap.{empty, get, insert, get-empty}
use Rattle.std.specs.Ordering.{nat_cmp}
use Rattle.std.specs.Cmp.Lexicographic.{slice_cmp}
use Rattle.blocks.specs.declared.BlockRef.{BlockRef}
use Rattle.blocks.specs.Blocks.{Blocks, live, IsIn, Changes, Owned}
use Rattle.blocks.proofs.Change.{cases_in, live_none_in_change, changes_same, changes_then, owned_others}
use Rattle.collection_walk.proofs.Lists.{some_none}
use Rattle.rehash_dict.specs.Table.{Element, item}
use Rattle.rehash_dict.specs.Keyed.{hash_of}
use Rattle.rehash_dict.specs.Grown.{Grown}
use Rattle.rehash_dict.proofs.MapOf.{key_refs_owned}
use Rattle.rehash_dict.proofs.Growing.{grown_same, grown_then}
use Rattle.score_list.specs.Sorted.{Key}
use Rattle.score_table.specs.declared.table.ScoreTable.{ScoreTable}
use Rattle.score_table.specs.Scored.{IsScoreTable, IsArranged, pair_of, pair_at, scores, refs, seed_of, tables, no_tables}
use Rattle.score_table.specs.Copied.{IsCopied, TakesOver}
use Rattle.score_table.proofs.Bytes.{maps_alike, cases_put}
use Rattle.score_table.proofs.Edits.{kept_sound}
use Rattle.collection_walk.proofs.Named.{names_key}
use Rattle.score_table.proofs.Ranked.{items_arranged}

-- The copy has the members of the item numbers below this one.
pub record IsPart (m mid : Blocks) (seed : ℕ) (s copy : ScoreTable) (at : ℕ) : Type 0 where
  pub sound : IsScoreTable mid copy
  pub from : (q : List ℕ) (v : ℤ) → get (scores mid copy) q ≡ Some v → (i : ℕ) × (i < at) × (pair_at m s i ≡ Some (v, q))
  pub onto : (i : ℕ) (v : ℤ) (q : List ℕ) → i < at → pair_at m s i ≡ Some (v, q) → get (scores mid copy) q ≡ Some v
  pub changes : Changes m mid [] (refs copy)
  pub grown : Grown (hash_of seed) no_tables (tables mid copy)
  pub seed_is : seed_of copy ≡ seed

some_same : {A : Type 0} (o : Option A) (x y : A) → o ≡ Some x → o ≡ Some y → x ≡ y
some_same o x y h k = cc

none_unless : (o : Option ℤ) → ((x : ℤ) → o ≡ Some x → ⊥) → o ≡ None
none_unless None h = refl
none_unless (Some x) h = absurd (h x refl)

pub part_new : (m : Blocks) (seed : ℕ) (s copy : ScoreTable) → IsScoreTable m copy → scores m copy ≡ empty → refs copy ≡ [] → tables m copy ≡ no_tables → seed_of copy ≡ seed → IsPart m m seed s copy 0
part_new m seed s copy sound none no_refs no_table seed_is = record {
  sound = sound;
  from = λ q v h. absurd (some_none (get (scores m copy) q) v h (ap (λ map. get map q) none ∙ get-empty (slice_cmp nat_cmp) q));
  onto = λ i v q lt h. absurd (omega (arith, lt));
  changes = subst (λ rs. Changes m m [] rs) (sym no_refs) (changes_same m [] (λ r. omega arith));
  grown = grown_same (hash_of seed) no_tables (tables m copy) no_table;
  seed_is = seed_is;
}

module _ (m mid : Blocks) (seed : ℕ) (s copy : ScoreTable) (at : ℕ) (is : IsScoreTable m s) (part : IsPart m mid seed s copy at) where
  key_kept : (i : ℕ) (e : Element ℤ) → item s.table i ≡ Some e → mid e.key ≡ m e.key
  key_kept i e there = owned_others m mid [] (refs copy) (refs s) (key_refs_owned m s.table is.keyed) part.changes e.key (names_key s.table i e there) refl

  pub source_sound : IsScoreTable mid s
  source_sound = kept_sound m mid s is key_kept

  pair_kept : pair_at mid s at ≡ pair_at m s at
  pair_kept = by_item (item s.table at) refl
    where
      by_item : (o : Option (Element ℤ)) → item s.table at ≡ o → pair_of mid o ≡ pair_of m o
      by_item None h = refl
      by_item (Some e) h = ap (λ (o : Option (List ℕ)). let k : Key = (e.value, unwrap_or o []) in Some k) (key_kept at e h)

  arranged : IsArranged m s
  arranged = items_arranged m s is

  pub next_absent : (v : ℤ) (q : List ℕ) → pair_at mid s at ≡ Some (v, q) → get (scores mid copy) q ≡ None
  next_absent v q h = none_unless (get (scores mid copy) q) (λ w has.
      let p = part.from q w has in
      let same : p.0 ≡ at = arranged.apart p.0 at w v q p.2 (sym pair_kept ∙ h) in
      omega (arith, same, p.1))

  pub part_skips : item s.table at ≡ None → IsPart m mid seed s copy (suc at)
  part_skips none = record {
    sound = part.sound;
    from = λ q v h. let p = part.from q v h in (p.0, omega (arith, p.1), p.2);
    onto = λ i v q lt h. elim (cases_eq i at) [
      | inl here ↦ absurd (some_none (pair_at m s at) (v, q) (ap (pair_at m s) (sym here) ∙ h) (ap (pair_of m) none))
      | inr other ↦ part.onto i v q (omega (arith, lt, other)) h
    ];
    changes = part.changes;
    grown = part.grown;
    seed_is = part.seed_is;
  }

  module _ (n : Blocks) (new : ScoreTable) (t : TakesOver mid n s copy new at) where
    its : pair_at m s at ≡ Some (t.score, t.member)
    its = sym pair_kept ∙ t.pair

    scores_are : (q : List ℕ) → get (scores n new) q ≡ get (insert (scores mid copy) t.member t.score) q
    scores_are q = ap (λ map. get map q) t.changed.scores_are

    from : (q : List ℕ) (v : ℤ) → get (scores n new) q ≡ Some v → (i : ℕ) × (i < suc at) × (pair_at m s i ≡ Some (v, q))
    from q v h = elim (cases_put (scores mid copy) t.member t.score q) [
      | inl here ↦ (at, omega arith, its ∙ key_same (some_same (get (insert (scores mid copy) t.member t.score) q) t.score v here.1 (sym (scores_are q) ∙ h)) (sym here.0))
      | inr other ↦ let p = part.from q v (sym other.1 ∙ sym (scores_are q) ∙ h) in (p.0, omega (arith, p.1), p.2)
    ]
      where
        key_same : {a v : ℤ} {b q : List ℕ} → a ≡ v → b ≡ q → ◌≡◌ {A = Option Key} (Some (a, b)) (Some (v, q))
        key_same h g = cc

    onto : (i : ℕ) (v : ℤ) (q : List ℕ) → i < suc at → pair_at m s i ≡ Some (v, q) → get (scores n new) q ≡ Some v
    onto i v q lt h = elim (cases_eq i at) [
      | inl here ↦
          let same : ◌≡◌ {A = Key} (t.score, t.member) (v, q) = some_same (pair_at m s at) (t.score, t.member) (v, q) its (ap (pair_at m s) (sym here) ∙ h) in
          scores_are q ∙ ap (λ (k : Key). get (insert (scores mid copy) t.member t.score) k.1) (sym same) ∙ put_there ∙ ap (λ (k : Key). Some k.0) same
      | inr other ↦ scores_are q ∙ elim (cases_put (scores mid copy) t.member t.score q) [
        | inl same ↦ absurd (other (arranged.apart i at v t.score q h (its ∙ ap (λ b. let k : Key = (t.score, b) in Some k) (sym same.0))))
        | inr apart ↦ apart.1 ∙ part.onto i v q (omega (arith, lt, other)) h
      ]
    ]
      where
        put_there : get (insert (scores mid copy) t.member t.score) t.member ≡ Some t.score
        put_there = elim (cases_put (scores mid copy) t.member t.score t.member) [ inl here ↦ here.1 | inr other ↦ absurd (other.0 refl) ]

    pub part_next : IsPart m n seed s new (suc at)
    part_next = record {
      sound = t.changed.sound;
      from = from;
      onto = onto;
      changes = changes_then m mid n [] (refs copy) (refs new) part.changes t.changed.changes;
      grown = grown_then (hash_of seed) no_tables (tables mid copy) (tables n new) part.grown (subst (λ k. Grown (hash_of k) (tables mid copy) (tables n new)) part.seed_is t.changed.grown);
      seed_is = t.changed.seed ∙ part.seed_is;
    }

  pub part_whole : ((i : ℕ) → IsSome (item s.table i) → i < at) → IsCopied m mid seed copy (scores m s)
  part_whole below = record {
    sound = part.sound;
    scores_are = maps_alike (scores mid copy) (scores m s) (λ q. by_get q (get (scores m s) q) refl);
    changes = part.changes;
    grown = part.grown;
    seed_is = part.seed_is;
  }
    where
      there : (o : Option (Element ℤ)) (k : Key) → pair_of m o ≡ Some k → IsSome o
      there None k h = cc
      there (Some e) k h = refl

      by_get : (q : List ℕ) (o : Option ℤ) → get (scores m s) q ≡ o → get (scores mid copy) q ≡ get (scores m s) q
      by_get q (Some v) h = let p = arranged.found v q h in part.onto p.0 v q (below p.0 (there (item s.table p.0) (v, q) p.1)) p.1 ∙ sym h
      by_get q None h = none_unless (get (scores mid copy) q) (λ w has. let p = part.from q w has in some_none (get (scores m s) q) w (arranged.pair p.0 w q p.2) h) ∙ sym h

-- what changes no reference changes nothing
pub all_same : (m n : Blocks) → Changes m n [] [] → n ≡ m
all_same m n p = λ i r. p.kept r refl refl i

-- what a copy has stays where the blocks of the other are given back
pub new_kept : (m mid n : Blocks) (old new : List BlockRef) → Owned old m → Changes m mid [] new → Changes mid n old [] → (r : BlockRef) → IsIn r new → n r ≡ mid r
new_kept m mid n old new owned p q r isin = q.kept r (omega (arith, owned r, live_none_in_change m r (p.fresh r isin refl))) refl

-- what the other has stays where blocks are placed for a copy
pub old_owned : (m mid : Blocks) (old new : List BlockRef) → Owned old m → Changes m mid [] new → Owned old mid
old_owned m mid old new owned p r = elim (cases_in r old) [
  | inl out ↦ omega (arith, out)
  | inr isin ↦ let e : live mid r ≡ live m r = ap (λ x. cond (is_some x) 1 0) (owned_others m mid [] new old owned p r isin refl) in omega (arith, owned r, e)
]
