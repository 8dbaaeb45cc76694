-- A dictionary over the blocks of a store: what keeps its keys apart, and what its tables are by key bytes.
use Rattle.std.proofs.Common.{◌≡◌, ◌≢◌, ◌⊎◌, inl, inr, ℕ, ◌<◌, Bool, true, false, ◌&&◌, eqb, List, [], ◌∷◌, Option, Some, None, IsSome, refl, sym, ap, ◌∙◌, subst}
use Rattle.std.specs.Prelude.{unwrap_or}
use Rattle.std.proofs.lemmas.Bool.{eq-eqb, eqb-true, ne_eqb, cases_eq, cases_Bool, and_from}
use Rattle.blocks.specs.declared.BlockRef.{BlockRef}
use Rattle.blocks.specs.Blocks.{Blocks, bytes_at}
use Rattle.rev_cursor.specs.Span.{times}
use Rattle.rehash_dict.specs.Tables.{bucket, named, inserted, rehashed, shrunk, removed}
use Rattle.rehash_dict.specs.Table.{Element, Table, at_item, item, tables, Agrees, Updates}
use Rattle.rehash_dict.specs.Placed.{IsPlaced}
use Rattle.rehash_dict.specs.Keyed.{hash_of, same_key, key_of, Lacks, Keyed, key_tables}
use Rattle.rehash_dict.proofs.Named.{named_same, inserted_named, rehashed_named, shrunk_named, removed_named}

pub same_key_refl : (key : List ℕ) → same_key key key ≡ true
same_key_refl [] = refl
same_key_refl (x ∷ xs) = and_from _ _ (eq-eqb x x refl) (same_key_refl xs)

pub same_key_true : (a b : List ℕ) → same_key a b ≡ true → a ≡ b
same_key_true [] [] h = refl
same_key_true [] (y ∷ ys) h = cc
same_key_true (x ∷ xs) [] h = cc
same_key_true (x ∷ xs) (y ∷ ys) h = by_tests (eqb x y) (same_key xs ys) h (eqb-true x y) (same_key_true xs ys)
  where
    by_tests : (p q : Bool) → (p && q) ≡ true → (p ≡ true → x ≡ y) → (q ≡ true → xs ≡ ys) → x ∷ xs ≡ y ∷ ys
    by_tests true true h a b = (let first : x ≡ y = a refl in let rest : xs ≡ ys = b refl in cc)
    by_tests true false h a b = cc
    by_tests false q h a b = cc

pub same_key_false : (a b : List ℕ) → (a ≡ b → ⊥) → same_key a b ≡ false
same_key_false a b h = elim (cases_Bool (same_key a b)) [ inl e ↦ absurd (h (same_key_true a b e)) | inr e ↦ e ]

-- the bytes of a live block
pub live_bytes : (blocks : Blocks) (r : BlockRef) → IsSome (blocks r) → blocks r ≡ Some (bytes_at blocks r)
live_bytes blocks r h = go (blocks r) refl h
  where
    go : (o : Option (List ℕ)) → blocks r ≡ o → IsSome o → blocks r ≡ Some (bytes_at blocks r)
    go None e h = cc
    go (Some bytes) e h = e ∙ ap (λ o. Some (unwrap_or o [])) (sym e)

module _ {V : Type 0} where
  names_of : Blocks → Table V → ℕ → List ℕ
  names_of blocks t at = key_of blocks (item t at)

  -- each element of the new dictionary comes from one with the same hash and key bytes
  pub keyed_from : (before after : Blocks) (old new : Table V) → Keyed before old → IsPlaced new → new.seed ≡ old.seed
      → ((at : ℕ) (f : Element V) → item new at ≡ Some f → (e : Element V) × (item old at ≡ Some e) × (f.hash ≡ e.hash) × (after f.key ≡ before e.key)) → Keyed after new
  keyed_from before after old new k placed seed from = record {
    placed = placed;
    live = λ at f h. (let p = from at f h in subst IsSome (sym p.3) (k.live at p.0 p.1));
    hashed = λ at f h. (let p = from at f h in p.2 ∙ k.hashed at p.0 p.1 ∙ (λ i. hash_of (sym seed i) (unwrap_or (sym p.3 i) [])));
    apart = λ at other f g h i same. (let p = from at f h in let q = from other g i in k.apart at other p.0 q.0 p.1 q.1 (sym p.3 ∙ same ∙ q.3));
  }

  -- the elements that stand in buckets
  pub stands_older : (t : Table V) → IsPlaced t → (k i : ℕ) → 0 < times i (bucket t.older k) → (e : Element V) × (item t i ≡ Some e)
  stands_older t p k i h = (let q = p.kept.stand.of_older k i h in (q.0, q.1))

  pub stands_newer : (t : Table V) → IsPlaced t → (k i : ℕ) → 0 < times i (bucket t.newer k) → (e : Element V) × (item t i ≡ Some e)
  stands_newer t p k i h = (let q = p.kept.stand.of_newer k i h in (q.0, q.1))

  -- the tables by key bytes, where the key bytes of all that stands are the same
  pub key_tables_same : (before after : Blocks) (old new : Table V) → IsPlaced old → tables new ≡ tables old
      → ((at : ℕ) (e : Element V) → item old at ≡ Some e → key_of after (item new at) ≡ key_of before (item old at)) → key_tables after new ≡ key_tables before old
  key_tables_same before after old new p same keys =
      ap (named (λ at. key_of after (item new at))) same
      ∙ named_same (λ at. key_of after (item new at)) (λ at. key_of before (item old at)) (tables old)
      (λ k i h. (let q = stands_older old p k i h in keys i q.0 q.1)) (λ k i h. (let q = stands_newer old p k i h in keys i q.0 q.1))

  pub key_same_in_keys : (before after : Blocks) (t u : Table V) (at : ℕ) (e f : Element V) → item t at ≡ Some e → item u at ≡ Some f → after f.key ≡ before e.key
      → key_of after (item u at) ≡ key_of before (item t at)
  key_same_in_keys before after t u at e f h k same = ap (key_of after) k ∙ ap (λ o. unwrap_or o []) same ∙ sym (ap (key_of before) h)

  -- A store in which the key blocks keep their bytes: the dictionary means what it meant.
  pub keyed_frame : (before after : Blocks) (t : Table V) → Keyed before t → ((at : ℕ) (e : Element V) → item t at ≡ Some e → after e.key ≡ before e.key) → Keyed after t
      × (key_tables after t ≡ key_tables before t)
  keyed_frame before after t k keeps = (
    keyed_from before after t t k k.placed refl (λ at f h. (f, h, refl, keeps at f h)),
    key_tables_same before after t t k.placed refl (λ at e h. key_same_in_keys before after t t at e e h h (keeps at e h)),
  )

  -- ---- an element joins

  module _ (blocks : Blocks) (old new : Table V) (at : ℕ) (element : Element V) (k : Keyed blocks old) (vacant : item old at ≡ None) (u : Updates old.items new.items at (Some element))
      (seed : new.seed ≡ old.seed) (placed : IsPlaced new) (live : IsSome (blocks element.key)) (hashed : element.hash ≡ hash_of old.seed (bytes_at blocks element.key))
      (lacks : Lacks blocks old (bytes_at blocks element.key)) where
    where_from : (i : ℕ) (f : Element V) → item new i ≡ Some f → ((i ≡ at) × (f ≡ element)) ⊎ (item old i ≡ Some f)
    where_from i f h = elim (cases_eq i at) [
      | inl here ↦ inl (here, (let q : Some f ≡ Some element = sym h ∙ ap (item new) here ∙ u.changed in cc))
      | inr other ↦ inr (sym (u.others i other) ∙ h)
    ]

    other_bytes : (i : ℕ) (f : Element V) → item old i ≡ Some f → blocks f.key ≡ blocks element.key → ⊥
    other_bytes i f h same = lacks.each i f h (same ∙ live_bytes blocks element.key live)

    pub keyed_added : Keyed blocks new
    keyed_added = record {
      placed = placed;
      live = λ i f h. elim (where_from i f h) [
        | inl mine ↦ subst (λ (x : Element V). IsSome (blocks x.key)) (sym mine.1) live
        | inr was ↦ k.live i f was
      ];
      hashed = λ i f h. elim (where_from i f h) [
        | inl mine ↦ ap (λ x. x.hash) mine.1 ∙ hashed ∙ (λ j. hash_of (sym seed j) (bytes_at blocks (sym mine.1 j).key))
        | inr was ↦ k.hashed i f was ∙ ap (λ s. hash_of s (bytes_at blocks f.key)) (sym seed)
      ];
      apart = λ i j f g h m same. elim (where_from i f h) [
        | inl mine ↦ elim (where_from j g m) [
          | inl yours ↦ mine.0 ∙ sym yours.0
          | inr was ↦ absurd (other_bytes j g was (sym same ∙ ap (λ x. blocks x.key) mine.1))
        ]
        | inr was ↦ elim (where_from j g m) [
          | inl yours ↦ absurd (other_bytes i f was (same ∙ ap (λ x. blocks x.key) yours.1))
          | inr its ↦ k.apart i j f g was its same
        ]
      ];
    }

    not_at : (i : ℕ) (e : Element V) → item old i ≡ Some e → i ≢ at
    not_at i e h same = (let q : Some e ≡ None = sym h ∙ ap (item old) same ∙ vacant in cc)

    pub key_tables_added : ((names : ℕ → ℕ) → Agrees names new.items → tables new ≡ inserted names (tables old) at)
        → key_tables blocks new ≡ inserted (hash_of old.seed) (key_tables blocks old) (bytes_at blocks element.key)
    key_tables_added steps =
        let agrees : Agrees (λ i. hash_of old.seed (key_of blocks (item new i))) new.items = λ i e h. ap (λ o. hash_of old.seed (key_of blocks o)) h
        ∙ ap (λ s. hash_of s (bytes_at blocks e.key)) (sym seed) ∙ sym (keyed_added.hashed i e h) in
        ap (named (λ (i : ℕ). key_of blocks (item new i))) (steps (λ i. hash_of old.seed (key_of blocks (item new i))) agrees)
        ∙ inserted_named (λ (i : ℕ). key_of blocks (item new i)) (λ i. hash_of old.seed (key_of blocks (item new i))) (hash_of old.seed) (λ x. refl) (tables old) at
        ∙ ap (λ t. inserted (hash_of old.seed) t (key_of blocks (item new at)))
        (named_same (λ i. key_of blocks (item new i)) (λ i. key_of blocks (item old i)) (tables old)
        (λ b i h. (let q = stands_older old k.placed b i h in ap (key_of blocks) (u.others i (not_at i q.0 q.1))))
        (λ b i h. (let q = stands_newer old k.placed b i h in ap (key_of blocks) (u.others i (not_at i q.0 q.1)))))
        ∙ ap (inserted (hash_of old.seed) (key_tables blocks old)) (ap (key_of blocks) u.changed)

  -- ---- the elements stay

  pub key_tables_rehashed : (blocks : Blocks) (old new : Table V) → Keyed blocks old → new.items ≡ old.items
      → ((names : ℕ → ℕ) → Agrees names old.items → tables new ≡ rehashed names (tables old) 1) → key_tables blocks new ≡ rehashed (hash_of old.seed) (key_tables blocks old) 1
  key_tables_rehashed blocks old new k same steps =
      ap (λ items. named (λ i. key_of blocks (at_item items i)) (tables new)) same
      ∙ ap (named (λ i. key_of blocks (item old i))) (steps (λ i. hash_of old.seed (key_of blocks (item old i))) (λ i e h. ap (λ o. hash_of old.seed (key_of blocks o)) h ∙ sym (k.hashed i e h)))
      ∙ rehashed_named (λ i. key_of blocks (item old i)) (λ i. hash_of old.seed (key_of blocks (item old i))) (hash_of old.seed) (λ x. refl) (tables old)

  pub key_tables_shrunk : (blocks : Blocks) (old new : Table V) → new.items ≡ old.items → tables new ≡ shrunk (tables old) → key_tables blocks new ≡ shrunk (key_tables blocks old)
  key_tables_shrunk blocks old new same is =
      ap (λ items. named (λ i. key_of blocks (at_item items i)) (tables new)) same
      ∙ ap (named (λ i. key_of blocks (item old i))) is
      ∙ shrunk_named (λ i. key_of blocks (item old i)) (tables old)

  -- ---- an element leaves

  module _ (blocks : Blocks) (old new : Table V) (at : ℕ) (e : Element V) (key : List ℕ) (k : Keyed blocks old) (found : item old at ≡ Some e) (bytes : blocks e.key ≡ Some key)
      (u : Updates old.items new.items at None) (seed : new.seed ≡ old.seed) (placed : IsPlaced new) where
    still : (i : ℕ) (f : Element V) → item new i ≡ Some f → (i ≢ at) × (item old i ≡ Some f)
    still i f h = elim (cases_eq i at) [
      | inl here ↦ (let q : Some f ≡ None = sym h ∙ ap (item new) here ∙ u.changed in cc)
      | inr other ↦ (other, sym (u.others i other) ∙ h)
    ]

    pub keyed_removed : Keyed blocks new
    keyed_removed = keyed_from blocks blocks old new k placed seed (λ i f h. (let p = still i f h in (f, p.1, refl, refl)))

    tells : (i : ℕ) (f : Element V) → item old i ≡ Some f → same_key (key_of blocks (item old i)) (key_of blocks (item old at)) ≡ eqb i at
    tells i f h = elim (cases_eq i at) [
      | inl here ↦ ap (λ n. same_key (key_of blocks (item old n)) (key_of blocks (item old at))) here ∙ same_key_refl (key_of blocks (item old at)) ∙ sym (eq-eqb i at here)
      | inr other ↦
          same_key_false (key_of blocks (item old i)) (key_of blocks (item old at))
          (λ same. other (k.apart i at f e h found
          (live_bytes blocks f.key (k.live i f h) ∙ ap Some (ap (key_of blocks) (sym h) ∙ same ∙ ap (key_of blocks) found) ∙ sym (live_bytes blocks e.key (k.live at e found)))))
          ∙ sym (ne_eqb i at other)
    ]

    pub key_tables_removed : tables new ≡ removed eqb (tables old) at → key_tables blocks new ≡ removed same_key (key_tables blocks old) key
    key_tables_removed is =
        named_same (λ i. key_of blocks (item new i)) (λ i. key_of blocks (item old i)) (tables new)
        (λ b i h. (let q = stands_older new placed b i h in ap (key_of blocks) (u.others i (still i q.0 q.1).0)))
        (λ b i h. (let q = stands_newer new placed b i h in ap (key_of blocks) (u.others i (still i q.0 q.1).0)))
        ∙ ap (named (λ i. key_of blocks (item old i))) is
        ∙ removed_named (λ i. key_of blocks (item old i)) same_key (tables old) at
        (λ b i h. (let q = stands_older old k.placed b i h in tells i q.0 q.1))
        (λ b i h. (let q = stands_newer old k.placed b i h in tells i q.0 q.1))
        ∙ ap (removed same_key (key_tables blocks old)) (ap (key_of blocks) found ∙ ap (λ o. unwrap_or o []) bytes)
