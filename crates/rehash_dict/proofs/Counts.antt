-- How often item numbers stand in buckets, when a bucket changes.
use Rattle.std.proofs.Common.{◌≡◌, ◌≢◌, inl, inr, ℕ, zero, suc, ◌+◌, ◌≤◌, ◌<◌, Bool, true, false, not, cond, eqb, List, [], ◌∷◌, ◌++◌, set, length, filter, refl, sym, ap, ◌∙◌, subst, arith}
use Rattle.std.proofs.lemmas.Bool.{cond-true, cond-false, eq-eqb, ne_eqb, cases_eq}
use Rattle.std.proofs.lemmas.List.{get_or-set_same, get_or-set_other}
use Rattle.std.proofs.lemmas.List.Sums.{sum_by-cons, sum_by-set}
use Rattle.rev_cursor.specs.Span.{times}
use Rattle.rehash_dict.specs.Tables.{bucket, count, without, no_elements}

abbrev pub one_if : Bool → ℕ
one_if b = cond b 1 0

pub times_here : (i : ℕ) (xs : List ℕ) → times i (i ∷ xs) ≡ suc (times i xs)
times_here i xs = let one : one_if (eqb i i) ≡ 1 = cond-true _ _ _ (eq-eqb i i refl) in omega arith

pub times_past : (i x : ℕ) (xs : List ℕ) → x ≢ i → times i (x ∷ xs) ≡ times i xs
times_past i x xs h = let none : one_if (eqb x i) ≡ 0 = cond-false _ _ _ (ne_eqb x i h) in omega arith

pub times-append : (i : ℕ) (xs ys : List ℕ) → times i (xs ++ ys) ≡ times i xs + times i ys
times-append i [] ys = omega arith
times-append i (x ∷ xs) ys = omega (arith, times-append i xs ys)

pub none_in : (row : List ℕ) → ((i : ℕ) → times i row ≡ 0) → row ≡ []
none_in [] h = refl
none_in (x ∷ xs) h = absurd (omega (arith, h x, times_here x xs))

-- ---- a bucket without a number

filter_keep : (p : ℕ → Bool) (x : ℕ) (xs : List ℕ) → p x ≡ true → filter p (x ∷ xs) ≡ x ∷ filter p xs
filter_keep p x xs h = cond-true _ _ _ h

filter_drop : (p : ℕ → Bool) (x : ℕ) (xs : List ℕ) → p x ≡ false → filter p (x ∷ xs) ≡ filter p xs
filter_drop p x xs h = cond-false _ _ _ h

pub without_here : (at : ℕ) (xs : List ℕ) → without eqb at (at ∷ xs) ≡ without eqb at xs
without_here at xs = filter_drop _ at xs (ap not (eq-eqb at at refl))

pub without-past : (at x : ℕ) (xs : List ℕ) → x ≢ at → without eqb at (x ∷ xs) ≡ x ∷ without eqb at xs
without-past at x xs h = filter_keep _ x xs (ap not (ne_eqb x at h))

pub without_none : (at : ℕ) (row : List ℕ) → times at row ≡ 0 → without eqb at row ≡ row
without_none at [] h = refl
without_none at (x ∷ xs) h = elim (cases_eq x at) [
  | inl e ↦ absurd (omega (arith, subst (λ n. times at (n ∷ xs) ≡ suc (times at xs)) (sym e) (times_here at xs)))
  | inr ne ↦ without-past at x xs ne ∙ ap (λ r. x ∷ r) (without_none at xs (omega (arith, times_past at x xs ne)))
]

pub without_split : (at : ℕ) (front rest : List ℕ) → times at front ≡ 0 → times at rest ≡ 0 → without eqb at (front ++ at ∷ rest) ≡ front ++ rest
without_split at [] rest f r = without_here at rest ∙ without_none at rest r
without_split at (x ∷ xs) rest f r = elim (cases_eq x at) [
  | inl e ↦ absurd (omega (arith, subst (λ n. times at (n ∷ xs) ≡ suc (times at xs)) (sym e) (times_here at xs)))
  | inr ne ↦ without-past at x (xs ++ at ∷ rest) ne ∙ ap (λ t. x ∷ t) (without_split at xs rest (omega (arith, times_past at x xs ne)) r)
]

pub times_without_same : (at : ℕ) (row : List ℕ) → times at (without eqb at row) ≡ 0
times_without_same at [] = refl
times_without_same at (x ∷ xs) = elim (cases_eq x at) [
  | inl e ↦ subst (λ n. times at (without eqb at (n ∷ xs)) ≡ 0) (sym e) (ap (times at) (without_here at xs) ∙ times_without_same at xs)
  | inr ne ↦ ap (times at) (without-past at x xs ne) ∙ times_past at x _ ne ∙ times_without_same at xs
]

pub times_without_other : (at i : ℕ) (row : List ℕ) → i ≢ at → times i (without eqb at row) ≡ times i row
times_without_other at i [] h = refl
times_without_other at i (x ∷ xs) h = elim (cases_eq x at) [
  | inl e ↦ ap (λ n. times i (without eqb at (n ∷ xs))) e ∙ ap (times i) (without_here at xs) ∙ times_without_other at i xs h ∙ sym (times_past i x xs (λ same. h (sym same ∙ e)))
  | inr ne ↦ ap (times i) (without-past at x xs ne) ∙ omega (arith, times_without_other at i xs h)
]

pub length-without : (at : ℕ) (row : List ℕ) → length (without eqb at row) + times at row ≡ length row
length-without at [] = refl
length-without at (x ∷ xs) = elim (cases_eq x at) [
  | inl e ↦ omega (arith, ap length (ap (λ n. without eqb at (n ∷ xs)) e ∙ without_here at xs), ap (λ n. times at (n ∷ xs)) e ∙ times_here at xs, length-without at xs)
  | inr ne ↦ omega (arith, ap length (without-past at x xs ne), times_past at x xs ne, length-without at xs)
]

-- ---- a table with another bucket

module _ {X : Type 0} where
  pub bucket_set_same : (rows : List (List X)) (k : ℕ) (row : List X) → k < length rows → bucket (set rows k row) k ≡ row
  bucket_set_same rows k row h = get_or-set_same rows k row [] h

  pub bucket_set_other : (rows : List (List X)) (k j : ℕ) (row : List X) → j ≢ k → bucket (set rows k row) j ≡ bucket rows j
  bucket_set_other rows k j row h = get_or-set_other rows k j row [] h

  pub count-set : (rows : List (List X)) (k : ℕ) (row : List X) → k < length rows → count (set rows k row) + length (bucket rows k) ≡ count rows + length row
  count-set rows k row h = sum_by-set length rows k row [] h

  pub length_bucket_le : (rows : List (List X)) (k : ℕ) → length (bucket rows k) ≤ count rows
  length_bucket_le [] k = omega arith
  length_bucket_le (r ∷ rest) zero = omega (arith, sum_by-cons length r rest)
  length_bucket_le (r ∷ rest) (suc k) = omega (arith, sum_by-cons length r rest, length_bucket_le rest k)

  pub no_length : (row : List X) → length row ≡ 0 → row ≡ []
  no_length [] h = refl
  no_length (x ∷ xs) h = absurd (omega arith)

  pub bucket_none : (rows : List (List X)) (k : ℕ) → count rows ≡ 0 → bucket rows k ≡ []
  bucket_none rows k h = no_length (bucket rows k) (omega (arith, length_bucket_le rows k))

  pub count_none_in_counts : (rows : List (List X)) → ((k : ℕ) → k < length rows → bucket rows k ≡ []) → count rows ≡ 0
  count_none_in_counts [] h = refl
  count_none_in_counts (r ∷ rest) h = omega (arith, sum_by-cons length r rest, ap length (h 0 (omega arith)), count_none_in_counts rest (λ k lt. h (suc k) (omega arith)))

  pub bucket_past : (rows : List (List X)) (k : ℕ) → length rows ≤ k → bucket rows k ≡ []
  bucket_past [] k h = refl
  bucket_past (r ∷ rest) zero h = absurd (omega arith)
  bucket_past (r ∷ rest) (suc k) h = bucket_past rest k (omega arith)

  pub bucket_no_elements : (n k : ℕ) → bucket (no_elements {X = X} n) k ≡ []
  bucket_no_elements zero k = refl
  bucket_no_elements (suc n) zero = refl
  bucket_no_elements (suc n) (suc k) = bucket_no_elements n k

pub count_no_elements : (X : Type 0) (n : ℕ) → count (no_elements {X = X} n) ≡ 0
count_no_elements X n = count_none_in_counts (no_elements n) (λ k lt. bucket_no_elements n k)
