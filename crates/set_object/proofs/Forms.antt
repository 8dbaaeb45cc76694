-- Which form a set has after a member was put in.
use Rattle.std.proofs.Common.{◌≡◌, ℕ, ◌+◌, ◌≤◌, max, Bool, true, false, cond, List, [], ◌∷◌, length, is_some, refl, sym, ap, ◌∙◌, subst, arith, inl, inr}
use Rattle.std.specs.Prelude.{◌&&◌, ◌||◌}
use Rattle.std.specs.List.{list_any}
use Rattle.std.proofs.lemmas.Bool.{cond-true, cond-false, cases_Bool, and_parts, and_from}
use Rattle.std.specs.Ordering.{nat_cmp}
use Rattle.std.specs.Cmp.Lexicographic.{slice_cmp}
use Rattle.std.specs.FinMap.{insert, keys, len, contains_key-keys, empty, len-empty}
use Rattle.int_text.specs.Decimal.{number_of}
use Rattle.object_codec.specs.declared.limits.Limits.{Limits}
use Rattle.object_codec.specs.declared.form.Form.{Form}
use Rattle.object_codec.specs.declared.form.Form.TheVariants.{Intset, Listpack, Hashtable, Skiplist, Quicklist, Stream}
use Rattle.object_codec.specs.Forms.{FitsSet, IsLeast, IsLeastFrom, rank}
use Rattle.set_object.specs.Strings.{Strings, set_of, has, IsOnce, are_numbers, longest, FitsMembers, IsRisen}
use Rattle.set_object.proofs.Sets.{two_ways, tied, tied_true, tied_same, among, has_among, has_put, has_empty, len_put}

-- the keys of a set are its strings
pub keys_among : (m : Strings) (q : List ℕ) → has m q ≡ among q (keys m)
keys_among m q = contains_key-keys m q ∙ same (keys m)
  where
    same : (xs : List (List ℕ)) → list_any (tied q) xs ≡ among q xs
    same [] = refl
    same (x ∷ xs) = by_test (tied q x) (list_any (tied q) xs) (among q xs) (same xs)
      where
        by_test : (t a b : Bool) → a ≡ b → (t || a) ≡ cond t true b
        by_test true a b h = refl
        by_test false a b h = h

same_bools : (a b : Bool) → (a ≡ true → b ≡ true) → (b ≡ true → a ≡ true) → a ≡ b
same_bools true b there back = sym (there refl)
same_bools false true there back = back refl
same_bools false false there back = refl

head_there : (x : List ℕ) (xs : List (List ℕ)) → among x (x ∷ xs) ≡ true
head_there x xs = cond-true _ _ _ (tied_same x x refl)

tail_there : (q x : List ℕ) (xs : List (List ℕ)) → among q xs ≡ true → among q (x ∷ xs) ≡ true
tail_there q x xs h = elim (cases_Bool (tied q x)) [ inl t ↦ cond-true _ _ _ t | inr f ↦ cond-false _ _ _ f ∙ h ]

numbers_all : (xs : List (List ℕ)) → ((q : List ℕ) → among q xs ≡ true → is_some (number_of q) ≡ true) → are_numbers xs ≡ true
numbers_all [] each = refl
numbers_all (x ∷ xs) each = and_from _ _ (each x (head_there x xs)) (numbers_all xs (λ q h. each q (tail_there q x xs h)))

pub numbers_each : (xs : List (List ℕ)) (q : List ℕ) → are_numbers xs ≡ true → among q xs ≡ true → is_some (number_of q) ≡ true
numbers_each [] q all h = absurd cc
numbers_each (x ∷ xs) q all h = let parts = and_parts (is_some (number_of x)) (are_numbers xs) all in elim (cases_Bool (tied q x)) [
  | inl t ↦ ap (λ k. is_some (number_of k)) (tied_true q x t) ∙ parts.0
  | inr f ↦ numbers_each xs q parts.1 (sym (cond-false _ _ _ f) ∙ h)
]

longest_all : (xs : List (List ℕ)) (v : ℕ) → ((q : List ℕ) → among q xs ≡ true → length q ≤ v) → longest xs ≤ v
longest_all [] v each = omega arith
longest_all (x ∷ xs) v each = omega (arith, each x (head_there x xs), longest_all xs v (λ q h. each q (tail_there q x xs h)))

pub longest_each : (xs : List (List ℕ)) (q : List ℕ) → among q xs ≡ true → length q ≤ longest xs
longest_each [] q h = absurd cc
longest_each (x ∷ xs) q h = elim (cases_Bool (tied q x)) [
  | inl t ↦ omega (arith, ap length (tied_true q x t))
  | inr f ↦ omega (arith, longest_each xs q (sym (cond-false _ _ _ f) ∙ h))
]

module _ (xs ys : List (List ℕ)) (same : (q : List ℕ) → among q xs ≡ among q ys) where
  numbers_alike : are_numbers xs ≡ are_numbers ys
  numbers_alike = same_bools _ _ (λ all. numbers_all ys (λ q h. numbers_each xs q all (same q ∙ h))) (λ all. numbers_all xs (λ q h. numbers_each ys q all (sym (same q) ∙ h)))

  longest_alike : longest xs ≡ longest ys
  longest_alike =
      let one : longest xs ≤ longest ys = longest_all xs (longest ys) (λ q h. longest_each ys q (sym (same q) ∙ h)) in
      let two : longest ys ≤ longest xs = longest_all ys (longest xs) (λ q h. longest_each xs q (same q ∙ h)) in
      omega (arith, one, two)

-- a set without a member
keys_none : (q : List ℕ) → among q (keys (empty {X = Unit {0}} {R = slice_cmp nat_cmp})) ≡ among q []
keys_none q = sym (keys_among (empty {X = Unit {0}} {R = slice_cmp nat_cmp}) q) ∙ has_empty q

pub least_zero : (F : Form → Type 0) → F Intset → IsLeast F Intset
least_zero F fits = record { fitting = fits; least = λ other h. omega arith }

pub new_least : (limits : Limits) → IsLeast (FitsMembers limits (empty {X = Unit {0}} {R = slice_cmp nat_cmp})) Intset
new_least limits = least_zero (FitsMembers limits (empty {X = Unit {0}} {R = slice_cmp nat_cmp})) (numbers_alike _ [] keys_none, omega (arith, len-empty (slice_cmp nat_cmp) (Unit {0})))

-- a set of a list with one more member
module _ (limits : Limits) (set : Strings) (xs : List (List ℕ)) (x : List ℕ) (is : set ≡ set_of xs) (once : IsOnce xs) (lacks : has set x ≡ false) where
  keys_more : (q : List ℕ) → among q (keys (insert set x tt)) ≡ among q (x ∷ xs)
  keys_more q = sym (keys_among (insert set x tt) q) ∙ has_put set x q ∙ ap (cond (tied q x) true) (ap (λ s. has s q) is ∙ has_among xs q)

  pub fits_more : FitsMembers limits (insert set x tt) ≡ FitsSet limits (is_some (number_of x) && are_numbers xs) (length xs + 1) (max (length x) (longest xs))
  fits_more =
      ap (λ b. FitsSet limits b (len (insert set x tt)) (longest (keys (insert set x tt)))) (numbers_alike _ (x ∷ xs) keys_more)
      ∙ ap (λ n. FitsSet limits (is_some (number_of x) && are_numbers xs) n (longest (keys (insert set x tt)))) (len_put set x lacks ∙ ap (λ n. n + 1) (ap len is ∙ once))
      ∙ ap (FitsSet limits (is_some (number_of x) && are_numbers xs) (length xs + 1)) (longest_alike _ (x ∷ xs) keys_more)

-- ---- from the least form that fits to the least one not below the old one

numbers_rise : (F : Form → Type 0) (f : Form) → IsLeast F f → IsLeastFrom Intset F f
numbers_rise F f h = record { fitting = h.fitting; from_old = omega arith; least = λ other fits from. h.least other fits }

module _ (limits : Limits) (numbers : Bool) (count l long : ℕ) (shorter : l ≤ limits.set_value → long ≤ limits.set_value) (longer : long ≤ limits.set_value → l ≤ limits.set_value) where
  pack_rises : (f : Form) → IsLeast (FitsSet limits false count l) f → IsLeastFrom Listpack (FitsSet limits numbers count long) f
  pack_rises Intset h = absurd (two_ways false h.fitting.0 refl)
  pack_rises Listpack h = record { fitting = (h.fitting.0, shorter h.fitting.1); from_old = omega arith; least = λ other fits from. from }
  pack_rises Hashtable h = record { fitting = tt; from_old = omega arith; least = least }
    where
      least : (other : Form) → FitsSet limits numbers count long other → 1 ≤ rank other → 2 ≤ rank other
      least Intset fits from = absurd (omega (arith, from))
      least Listpack fits from = h.least Listpack (fits.0, longer fits.1)
      least Hashtable fits from = omega arith
      least Skiplist fits from = absurd fits
      least Quicklist fits from = absurd fits
      least Stream fits from = absurd fits
  pack_rises Skiplist h = absurd h.fitting
  pack_rises Quicklist h = absurd h.fitting
  pack_rises Stream h = absurd h.fitting

module _ (limits : Limits) (set : Strings) (xs : List (List ℕ)) (x : List ℕ) (is : set ≡ set_of xs) (once : IsOnce xs) (lacks : has set x ≡ false) where
  pub risen_numbers : (number : Bool) (count most : ℕ) (f : Form) → number ≡ is_some (number_of x) → are_numbers xs ≡ true → count ≡ length xs + 1 → most ≡ max (length x) (longest xs)
      → IsLeast (FitsSet limits number count most) f → IsRisen limits Intset (insert set x tt) f
  risen_numbers number count most f by_text all counted longest_is h =
      let same : FitsMembers limits (insert set x tt) ≡ FitsSet limits number count most =
      fits_more limits set xs x is once lacks
      ∙ ap (λ b. FitsSet limits (is_some (number_of x) && b) (length xs + 1) (max (length x) (longest xs))) all
      ∙ ap (λ b. FitsSet limits b (length xs + 1) (max (length x) (longest xs))) (and_true (is_some (number_of x)) ∙ sym by_text)
      ∙ ap (λ n. FitsSet limits number n (max (length x) (longest xs))) (sym counted)
      ∙ ap (FitsSet limits number count) (sym longest_is) in
      numbers_rise (FitsMembers limits (insert set x tt)) f (subst (λ F. IsLeast F f) (sym same) h)
    where
      and_true : (b : Bool) → (b && true) ≡ b
      and_true true = refl
      and_true false = refl

  pub risen_pack : (count : ℕ) (f : Form) → count ≡ length xs + 1 → longest xs ≤ limits.set_value → IsLeast (FitsSet limits false count (length x)) f → IsRisen limits Listpack (insert set x tt) f
  risen_pack count f counted short h =
      subst (λ F. IsLeastFrom Listpack F f) (sym (fits_more limits set xs x is once lacks))
      (pack_rises limits (is_some (number_of x) && are_numbers xs) (length xs + 1) (length x) (max (length x) (longest xs)) (λ a. omega (arith, a, short)) (λ a. omega (arith, a)) f
      (subst (λ n. IsLeast (FitsSet limits false n (length x)) f) counted h))
