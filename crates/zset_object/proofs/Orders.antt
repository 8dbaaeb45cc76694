-- Lists of keys in order, and a key's place in them.
use Rattle.std.proofs.Common.{◌≡◌, ◌≢◌, ℕ, zero, suc, ◌≤◌, ℤ, int_lt, Bool, true, false, cond, List, [], ◌∷◌, length, take, count_by, Ordering, Less, Equal, Greater, Some, is_lt, refl}
use Rattle.std.proofs.Common.{sym, ap, ◌∙◌, subst, arith, inl, inr}
use Rattle.std.specs.Prelude.{slice_get}
use Rattle.std.specs.List.{insert as inserted, remove as removed}
use Rattle.std.specs.Ordering.{int_cmp, nat_cmp, ordering_then}
use Rattle.std.specs.Cmp.Lexicographic.{slice_cmp}
use Rattle.std.proofs.lemmas.Bool.{cases_Bool}
use Rattle.score_list.specs.Sorted.{Key, key_cmp}
use Rattle.score_list.proofs.Sortings.{keys_total, behind_key}
use Rattle.score_list.proofs.Searching.{count_yes, count_no}
use Rattle.score_table.specs.Ranking.{Leads, IsOrdered}
use Rattle.zset_object.specs.Orders.{is_before, place_in}

is_less : (o : Ordering) → is_lt o ≡ true → o ≡ Less
is_less Less e = refl
is_less Equal e = cc
is_less Greater e = cc

-- a key that stands before another stands before all behind that one
pub behind_too : (key x : Key) (rest : List Key) → key_cmp key x ≡ Less → Leads x rest → Leads key rest
behind_too key x [] less behind = tt
behind_too key x (y ∷ rest) less behind = (keys_total.trans key x y less behind.0, behind_too key x rest less behind.1)

-- what stands behind a key that isn't before another isn't either
not_before : (key x y : Key) → is_before key x ≡ false → key_cmp x y ≡ Less → is_before key y ≡ false
not_before key x y out less = elim (cases_Bool (is_before key y)) [
  | inl before ↦ absurd (let e : key_cmp x key ≡ Less = keys_total.trans x y key less (is_less (key_cmp y key) before) in let f : is_before key x ≡ true = ap is_lt e in cc)
  | inr after ↦ after
]

pub none_before : (key x : Key) (rest : List Key) → is_before key x ≡ false → Leads x rest → place_in key rest ≡ 0
none_before key x [] out behind = refl
none_before key x (y ∷ rest) out behind = count_no (is_before key) y rest (not_before key x y out behind.0) ∙ none_before key x rest out behind.1

-- the place is the index of the first key that isn't before
pub place_here : (key : Key) (keys : List Key) (i : ℕ) (x : Key) → IsOrdered keys → place_in key (take i keys) ≡ i → slice_get keys i ≡ Some x → is_before key x ≡ false → place_in key keys ≡ i
place_here key [] i x ranked before at out = cc
place_here key (y ∷ rest) zero x ranked before at out =
    let same : y ≡ x = (let e : Some y ≡ Some x = at in cc) in
    let first : is_before key y ≡ false = ap (is_before key) same ∙ out in
    count_no (is_before key) y rest first ∙ none_before key y rest first ranked.0
place_here key (y ∷ rest) (suc i) x ranked before at out = elim (cases_Bool (is_before key y)) [
  | inl ahead ↦ (let more = count_yes (is_before key) y (take i rest) ahead in
      let later = place_here key rest i x ranked.1 (omega (arith, more, before)) at out in
      omega (arith, later, count_yes (is_before key) y rest ahead))
  | inr stays ↦ absurd (omega (arith, count_no (is_before key) y (take i rest) stays, before, at_most i rest))
]
  where
    at_most : (i : ℕ) (list : List Key) → place_in key (take i list) ≤ i
    at_most zero [] = omega arith
    at_most zero (z ∷ list) = omega arith
    at_most (suc i) [] = omega arith
    at_most (suc i) (z ∷ list) = elim (cases_Bool (is_before key z)) [
      | inl ahead ↦ omega (arith, count_yes (is_before key) z (take i list) ahead, at_most i list)
      | inr stays ↦ omega (arith, count_no (is_before key) z (take i list) stays, at_most i list)
    ]

-- one more key that is before
pub place_more : (key : Key) (keys : List Key) (i : ℕ) (x : Key) → slice_get keys i ≡ Some x → is_before key x ≡ true → place_in key (take i keys) ≡ i → place_in key (take (suc i) keys) ≡ suc i
place_more key [] i x at ahead before = cc
place_more key (y ∷ rest) zero x at ahead before =
    let same : y ≡ x = (let e : Some y ≡ Some x = at in cc) in
    count_yes (is_before key) y (take 0 rest) (ap (is_before key) same ∙ ahead) ∙ ap suc (none rest)
  where
    none : (list : List Key) → place_in key (take 0 list) ≡ 0
    none [] = refl
    none (z ∷ list) = refl
place_more key (y ∷ rest) (suc i) x at ahead before = elim (cases_Bool (is_before key y)) [
  | inl first ↦ (let more = count_yes (is_before key) y (take i rest) first in
      omega (arith, count_yes (is_before key) y (take (suc i) rest) first, place_more key rest i x at ahead (omega (arith, more, before))))
  | inr stays ↦ absurd (omega (arith, count_no (is_before key) y (take i rest) stays, before, place_most key (take i rest), length_take i rest))
]
  where
    place_most : (key : Key) (list : List Key) → place_in key list ≤ length list
    place_most key [] = omega arith
    place_most key (z ∷ list) = elim (cases_Bool (is_before key z)) [
      | inl ahead ↦ omega (arith, count_yes (is_before key) z list ahead, place_most key list)
      | inr stays ↦ omega (arith, count_no (is_before key) z list stays, place_most key list)
    ]

    length_take : (i : ℕ) (list : List Key) → length (take i list) ≤ i
    length_take zero [] = omega arith
    length_take zero (z ∷ list) = omega arith
    length_take (suc i) [] = omega arith
    length_take (suc i) (z ∷ list) = omega (arith, length_take i list)

pub place_within : (key : Key) (list : List Key) → place_in key list ≤ length list
place_within key [] = omega arith
place_within key (z ∷ list) = elim (cases_Bool (is_before key z)) [
  | inl ahead ↦ omega (arith, count_yes (is_before key) z list ahead, place_within key list)
  | inr stays ↦ omega (arith, count_no (is_before key) z list stays, place_within key list)
]

-- ---- edits

-- none of these has the member
abbrev pub LacksMember : List ℕ → List Key → Type 0
LacksMember member [] = Unit {0}
LacksMember member (x ∷ rest) = (x.1 ≢ member) × LacksMember member rest

behind_with : (x key : Key) (n : ℕ) (list : List Key) → key_cmp x key ≡ Less → Leads x list → Leads x (inserted list n key)
behind_with x key zero [] less behind = (less, tt)
behind_with x key zero (y ∷ rest) less behind = (less, behind)
behind_with x key (suc n) [] less behind = (less, tt)
behind_with x key (suc n) (y ∷ rest) less behind = (behind.0, behind_with x key n rest less behind.1)

-- a key at its place leaves the order
pub ranked_with : (key : Key) (list : List Key) → IsOrdered list → LacksMember key.1 list → IsOrdered (inserted list (place_in key list) key)
ranked_with key [] ranked lacks = (tt, tt)
ranked_with key (x ∷ rest) ranked lacks = elim (cases_Bool (is_before key x)) [
  | inl ahead ↦ subst (λ n. IsOrdered (inserted (x ∷ rest) n key)) (sym (count_yes (is_before key) x rest ahead))
      (behind_with x key (place_in key rest) rest (is_less (key_cmp x key) ahead) ranked.0, ranked_with key rest ranked.1 lacks.1)
  | inr stays ↦ (let less = behind_key x key stays (λ same. lacks.0 (ap (λ (k : Key). k.1) same)) in
      subst (λ n. IsOrdered (inserted (x ∷ rest) n key)) (sym (count_no (is_before key) x rest stays ∙ none_before key x rest stays ranked.0))
      ((less, behind_too key x rest less ranked.0), ranked))
]

behind_without : (x : Key) (n : ℕ) (list : List Key) → Leads x list → Leads x (removed list n)
behind_without x zero [] behind = tt
behind_without x zero (y ∷ rest) behind = behind.1
behind_without x (suc n) [] behind = tt
behind_without x (suc n) (y ∷ rest) behind = (behind.0, behind_without x n rest behind.1)

pub ranked_without : (n : ℕ) (list : List Key) → IsOrdered list → IsOrdered (removed list n)
ranked_without zero [] ranked = tt
ranked_without zero (x ∷ rest) ranked = ranked.1
ranked_without (suc n) [] ranked = tt
ranked_without (suc n) (x ∷ rest) ranked = (behind_without x n rest ranked.0, ranked_without n rest ranked.1)

-- ---- by the score alone

lt_turned : (x y : ℤ) (a b : Bool) → int_lt x y ≡ a → int_lt y x ≡ b → is_lt (cond a Less (cond b Greater Equal)) ≡ a
lt_turned x y true b e f = refl
lt_turned x y false true e f = refl
lt_turned x y false false e f = refl

is_int_lt : (x y : ℤ) → is_lt (int_cmp x y) ≡ int_lt x y
is_int_lt x y = lt_turned x y (int_lt x y) (int_lt y x) refl refl

first_alone : (o : Ordering) (member : List ℕ) → is_lt (ordering_then o (slice_cmp nat_cmp member [])) ≡ is_lt o
first_alone Less member = refl
first_alone Equal [] = refl
first_alone Equal (b ∷ bytes) = refl
first_alone Greater member = refl

-- the keys before the empty member of a score are those below the score
pub below_is : (least : ℤ) (keys : List Key) → place_in (least, []) keys ≡ count_by (λ (key : Key). int_lt key.0 least) keys
below_is least keys = λ j. count_by (λ (key : Key). (first_alone (int_cmp key.0 least) key.1 ∙ is_int_lt key.0 least) j) keys
