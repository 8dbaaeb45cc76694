-- Each element stands once, in the bucket of its hash: what keeps it so.
use Rattle.std.proofs.Common.{◌≡◌, ◌≢◌, inl, inr, ℕ, zero, suc, ◌+◌, ◌%◌, ◌≤◌, ◌<◌, eqb, List, [], ◌∷◌, set, length, Option, Some, None, is_some, count_by, refl, sym, ap, ◌∙◌, subst, arith}
use Rattle.std.proofs.lemmas.Bool.{cases_eq}
use Rattle.std.proofs.lemmas.List.{length-set, length-replicate}
use Rattle.rev_cursor.specs.Span.{times}
use Rattle.rehash_dict.specs.Tables.{bucket, count, without, no_elements}
use Rattle.rehash_dict.specs.Table.{Element, at_item, Updates}
use Rattle.rehash_dict.specs.Placed.{IsSize, Names, Stand}
use Rattle.rehash_dict.specs.Placed.IsSize.{no_table}
use Rattle.rehash_dict.proofs.Counts.{times_here, times_past, times_without_same, times_without_other, length-without, bucket_set_same, bucket_set_other, count-set, bucket_none}
use Rattle.rehash_dict.proofs.Counts.{bucket_no_elements, count_no_elements}

module _ {V : Type 0} where
  -- elements that stand in an older and a newer table stand in these the other way round too
  pub flip : (items : List (Option (Element V))) (a b : List (List ℕ)) → Stand items a b → Stand items b a
  flip items a b s = record {
    of_older = s.of_newer;
    of_newer = s.of_older;
    once = λ at e h. omega (arith, s.once at e h);
    counted = omega (arith, s.counted);
    older_size = s.newer_size;
    newer_size = s.older_size;
  }

  -- two answers of one option are the same
  same_element : (o : Option (Element V)) (e f : Element V) → o ≡ Some e → o ≡ Some f → e ≡ f
  same_element o e f h k = let q : Some e ≡ Some f = sym h ∙ k in cc

  -- a vacant item number stands nowhere
  pub vacant_out : (items : List (Option (Element V))) (rows : List (List ℕ)) (at k : ℕ) → Names items rows → at_item items at ≡ None → times at (bucket rows k) ≡ 0
  vacant_out items rows at k names none = go (times at (bucket rows k)) refl
    where
      go : (n : ℕ) → times at (bucket rows k) ≡ n → n ≡ 0
      go zero h = refl
      go (suc n) h = (let p = names k at (omega arith) in cc (p.1, none))

  -- no number stands twice, nor in two buckets
  pub at_most_once : (items : List (Option (Element V))) (a b : List (List ℕ)) (k at : ℕ) → Stand items a b → times at (bucket a k) ≤ 1
  at_most_once items a b k at s = go (times at (bucket a k)) refl
    where
      go : (n : ℕ) → times at (bucket a k) ≡ n → n ≤ 1
      go zero h = omega arith
      go (suc n) h =
          let p = s.of_older k at (omega arith) in
          omega (arith, s.once at p.0 p.1, ap (λ j. times at (bucket a j)) p.2)

  -- an item number that stands in one bucket of a table stands in no other one of it
  pub one_bucket : (items : List (Option (Element V))) (a b : List (List ℕ)) (k j at : ℕ) → Stand items a b → 0 < times at (bucket a k) → j ≢ k → times at (bucket a j) ≡ 0
  one_bucket items a b k j at s here other = go (times at (bucket a j)) refl
    where
      go : (n : ℕ) → times at (bucket a j) ≡ n → n ≡ 0
      go zero h = refl
      go (suc n) h =
          let p = s.of_older k at here in
          let q = s.of_older j at (omega arith) in
          let one : p.0 ≡ q.0 = same_element (at_item items at) p.0 q.0 p.1 q.1 in
          absurd (other (sym q.2 ∙ ap (λ e. e.hash % length a) (sym one) ∙ p.2))

  -- an item number that stands in one table stands in no bucket of the other one
  pub one_table : (items : List (Option (Element V))) (a b : List (List ℕ)) (k j at : ℕ) → Stand items a b → 0 < times at (bucket a k) → times at (bucket b j) ≡ 0
  one_table items a b k j at s here = go (times at (bucket b j)) refl
    where
      go : (n : ℕ) → times at (bucket b j) ≡ n → n ≡ 0
      go zero h = refl
      go (suc n) h =
          let p = s.of_older k at here in
          let q = s.of_newer j at (omega arith) in
          let one : p.0 ≡ q.0 = same_element (at_item items at) p.0 q.0 p.1 q.1 in
          absurd (omega (arith, s.once at p.0 p.1, ap (λ i. times at (bucket a i)) p.2, ap (λ i. times at (bucket b i)) (ap (λ e. e.hash % length b) one ∙ q.2)))

  -- an element joins at the head of its bucket
  module _ (items later : List (Option (Element V))) (a b : List (List ℕ)) (at k : ℕ) (e : Element V) (s : Stand items a b) (vacant : at_item items at ≡ None)
      (u : Updates items later at (Some e)) (here : e.hash % length a ≡ k) (lt : k < length a) where
    -- the table with the new item number at the head of its bucket
    abbrev grown : List (List ℕ)
    grown = set a k (at ∷ bucket a k)

    -- an item number that stands in a bucket before the element joins is another one than the element's
    there : (i : ℕ) (rows : List (List ℕ)) (j : ℕ) → Names items rows → 0 < times i (bucket rows j) → i ≢ at
    there i rows j names h same = absurd (omega (arith, ap (λ n. times n (bucket rows j)) same, vacant_out items rows at j names vacant))

    -- a table that names only elements, each in the bucket of its hash, does so too after the element joins
    still : (rows : List (List ℕ)) → Names items rows → Names later rows
    still rows names j i h = (let p = names j i h in (p.0, u.others i (there i rows j names h) ∙ p.1, p.2))

    -- the table with the new item number names only elements, each in the bucket of its hash
    older_names : Names later grown
    older_names j i h = elim (cases_eq j k) [
      | inl same ↦
          (let row : bucket grown j ≡ at ∷ bucket a k = ap (bucket grown) same ∙ bucket_set_same a k (at ∷ bucket a k) lt in
          elim (cases_eq i at) [
            | inl mine ↦ (e, ap (at_item later) mine ∙ u.changed, ap (λ n. e.hash % n) (length-set a k (at ∷ bucket a k)) ∙ here ∙ sym same)
            | inr other ↦
                (let n : 0 < times i (bucket a k) = omega (arith, ap (times i) row, times_past i at (bucket a k) (λ q. other (sym q))) in
                let p = s.of_older k i n in
                (p.0, u.others i other ∙ p.1, ap (λ m. p.0.hash % m) (length-set a k (at ∷ bucket a k)) ∙ p.2 ∙ sym same))
          ])
      | inr apart ↦
          (let row : bucket grown j ≡ bucket a j = bucket_set_other a k j (at ∷ bucket a k) apart in
          let n : 0 < times i (bucket a j) = omega (arith, ap (times i) row) in
          let p = s.of_older j i n in
          (p.0, u.others i (there i a j s.of_older n) ∙ p.1, ap (λ m. p.0.hash % m) (length-set a k (at ∷ bucket a k)) ∙ p.2))
    ]

    -- every other item number stands as often in each bucket of the table with the new one as before
    older_times : (i j : ℕ) → i ≢ at → times i (bucket grown j) ≡ times i (bucket a j)
    older_times i j other = elim (cases_eq j k) [
      | inl same ↦ ap (times i) (ap (bucket grown) same ∙ bucket_set_same a k (at ∷ bucket a k) lt) ∙ times_past i at (bucket a k) (λ q. other (sym q)) ∙ ap (λ n. times i (bucket a n)) (sym same)
      | inr apart ↦ ap (times i) (bucket_set_other a k j (at ∷ bucket a k) apart)
    ]

    -- with the new item number, each element stands once, in the bucket of its hash in one of the two tables
    once_all : (i : ℕ) (f : Element V) → at_item later i ≡ Some f → times i (bucket grown (f.hash % length grown)) + times i (bucket b (f.hash % length b)) ≡ 1
    once_all i f h = elim (cases_eq i at) [
      | inl mine ↦
          (let one : e ≡ f = same_element (at_item later at) e f u.changed (ap (at_item later) (sym mine) ∙ h) in
          let spot : f.hash % length grown ≡ k = ap (λ n. f.hash % n) (length-set a k (at ∷ bucket a k)) ∙ ap (λ x. x.hash % length a) (sym one) ∙ here in
          let row : bucket grown (f.hash % length grown) ≡ at ∷ bucket a k = ap (bucket grown) spot ∙ bucket_set_same a k (at ∷ bucket a k) lt in
          let first : times i (bucket grown (f.hash % length grown)) ≡ suc (times at (bucket a k)) = ap (times i) row ∙ ap (λ n. times n (at ∷ bucket a k)) mine ∙ times_here at (bucket a k) in
          let second : times i (bucket b (f.hash % length b)) ≡ 0 = ap (λ n. times n (bucket b (f.hash % length b))) mine ∙ vacant_out items b at (f.hash % length b) s.of_newer vacant in
          omega (arith, vacant_out items a at k s.of_older vacant))
      | inr other ↦
          (let was : at_item items i ≡ Some f = sym (u.others i other) ∙ h in
          let size : times i (bucket grown (f.hash % length grown)) ≡ times i (bucket a (f.hash % length a)) = older_times i (f.hash % length grown) other
          ∙ ap (λ n. times i (bucket a (f.hash % n))) (length-set a k (at ∷ bucket a k)) in
          omega (arith, s.once i f was))
    ]

    -- with one element more, whose item number is at the head of its bucket, each element stands once in the tables
    pub joins : count_by is_some later ≡ count_by is_some items + 1 → Stand later (set a k (at ∷ bucket a k)) b
    joins more = record {
      of_older = older_names;
      of_newer = still b s.of_newer;
      once = once_all;
      counted = omega (arith, count-set a k (at ∷ bucket a k) lt, s.counted);
      older_size = subst IsSize (sym (length-set a k (at ∷ bucket a k))) s.older_size;
      newer_size = s.newer_size;
    }

  -- an element leaves its bucket
  module _ (items later : List (Option (Element V))) (a b : List (List ℕ)) (at k : ℕ) (s : Stand items a b) (inside : 0 < times at (bucket a k)) (u : Updates items later at None)
      (lt : k < length a) where
    -- the table with the item number taken out of its bucket
    abbrev left : List (List ℕ)
    left = set a k (without eqb at (bucket a k))

    -- the item number that was taken out stands in no bucket of the table
    gone : (j : ℕ) → times at (bucket left j) ≡ 0
    gone j = elim (cases_eq j k) [
      | inl same ↦ ap (times at) (ap (bucket left) same ∙ bucket_set_same a k (without eqb at (bucket a k)) lt) ∙ times_without_same at (bucket a k)
      | inr apart ↦ ap (times at) (bucket_set_other a k j (without eqb at (bucket a k)) apart) ∙ one_bucket items a b k j at s inside apart
    ]

    -- every other item number stands as often in each bucket of the table without the one taken out as before
    rest_times : (i j : ℕ) → i ≢ at → times i (bucket left j) ≡ times i (bucket a j)
    rest_times i j other = elim (cases_eq j k) [
      | inl same ↦ ap (times i) (ap (bucket left) same ∙ bucket_set_same a k (without eqb at (bucket a k)) lt) ∙ times_without_other at i (bucket a k) other ∙ ap (λ n. times i (bucket a n)) (sym same)
      | inr apart ↦ ap (times i) (bucket_set_other a k j (without eqb at (bucket a k)) apart)
    ]

    -- the table without the item number names only elements that are left, each in the bucket of its hash
    left_names : Names later left
    left_names j i h = elim (cases_eq i at) [
      | inl mine ↦ absurd (omega (arith, ap (λ n. times n (bucket left j)) mine, gone j))
      | inr other ↦ (let p = s.of_older j i (omega (arith, rest_times i j other)) in (p.0, u.others i other ∙ p.1, ap (λ n. p.0.hash % n) (length-set a k (without eqb at (bucket a k))) ∙ p.2))
    ]

    -- the other table names only elements that are left, each in the bucket of its hash
    other_names : Names later b
    other_names j i h = elim (cases_eq i at) [
      | inl mine ↦ absurd (omega (arith, ap (λ n. times n (bucket b j)) mine, one_table items a b k j at s inside))
      | inr other ↦ (let p = s.of_newer j i h in (p.0, u.others i other ∙ p.1, p.2))
    ]

    -- with one element less, whose item number left its bucket, each that is left stands once in the tables
    pub leaves : count_by is_some later + 1 ≡ count_by is_some items → Stand later (set a k (without eqb at (bucket a k))) b
    leaves fewer = record {
      of_older = left_names;
      of_newer = other_names;
      once = λ i f h. elim (cases_eq i at) [
        | inl mine ↦ (let q : Some f ≡ None = sym h ∙ ap (at_item later) mine ∙ u.changed in cc)
        | inr other ↦ omega (
          arith,
          s.once i f (sym (u.others i other) ∙ h),
          rest_times i (f.hash % length left) other,
          ap (λ n. times i (bucket a (f.hash % n)))
              (length-set a k (without eqb at (bucket a k))),
        )
      ];
      counted = omega (arith, count-set a k (without eqb at (bucket a k)) lt, length-without at (bucket a k), at_most_once items a b k at s, s.counted);
      older_size = subst IsSize (sym (length-set a k (without eqb at (bucket a k)))) s.older_size;
      newer_size = s.newer_size;
    }

  -- keys and values change, and hashes stay
  pub restands : (items later : List (Option (Element V))) (a b : List (List ℕ)) → Stand items a b
      → ((i : ℕ) (e : Element V) → at_item items i ≡ Some e → (f : Element V) × (at_item later i ≡ Some f) × (f.hash ≡ e.hash))
      → ((i : ℕ) (f : Element V) → at_item later i ≡ Some f → (e : Element V) × (at_item items i ≡ Some e) × (f.hash ≡ e.hash)) → count_by is_some later ≡ count_by is_some items
      → Stand later a b
  restands items later a b s on back same = record {
    of_older = λ k i h. (let p = s.of_older k i h in let q = on i p.0 p.1 in (q.0, q.1, ap (λ n. n % length a) q.2 ∙ p.2));
    of_newer = λ k i h. (let p = s.of_newer k i h in let q = on i p.0 p.1 in (q.0, q.1, ap (λ n. n % length b) q.2 ∙ p.2));
    once = λ i f h. (let p = back i f h in omega (arith, s.once i p.0 p.1, ap (λ n. times i (bucket a (n % length a))) p.2, ap (λ n. times i (bucket b (n % length b))) p.2));
    counted = s.counted ∙ sym same;
    older_size = s.older_size;
    newer_size = s.newer_size;
  }

  -- a table opens
  pub opens : (items : List (Option (Element V))) (a : List (List ℕ)) (n : ℕ) → Stand items a [] → IsSize n → Stand items a (no_elements {X = ℕ} n)
  opens items a n s size = record {
    of_older = s.of_older;
    of_newer = λ k i h. absurd (omega (arith, ap (times i) (bucket_no_elements n k)));
    once = λ i e h. omega (arith, s.once i e h, ap (times i) (bucket_no_elements n (e.hash % length (no_elements {X = ℕ} n))));
    counted = omega (arith, s.counted, count_no_elements ℕ n);
    older_size = s.older_size;
    newer_size = subst IsSize (sym (length-replicate {A = List ℕ} n [])) size;
  }

  -- an empty table is given up
  pub ends : (items : List (Option (Element V))) (a b : List (List ℕ)) → Stand items a b → count a ≡ 0 → Stand items b []
  ends items a b s none = record {
    of_older = s.of_newer;
    of_newer = λ k i h. absurd (omega arith);
    once = λ i e h. omega (arith, s.once i e h, ap (times i) (bucket_none a (e.hash % length a) none));
    counted = omega (arith, s.counted);
    older_size = s.newer_size;
    newer_size = no_table refl;
  }
