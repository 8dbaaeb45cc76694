-- The keys of a listpack's pairs, each of which stands once.
use Rattle.std.proofs.Common.{◌≡◌, ℕ, zero, suc, ◌<◌, ℤ, List, [], ◌∷◌, length, Some, None, IsSome, refl, sym, ap, ◌∙◌, arith, inl, inr}
use Rattle.std.specs.Prelude.{slice_get, slice_index_or}
use Rattle.std.specs.FinMap.{get}
use Rattle.std.proofs.lemmas.Bool.{cases_Bool, cond-true, cond-false}
use Rattle.collection_walk.proofs.Lists.{some_none}
use Rattle.pack_pairs.specs.Pairs.{Pair, IsOnce, pairs, second_of}
use Rattle.pack_pairs.proofs.Maps.{tied, tied_true, tied_same}
use Rattle.score_list.specs.Sorted.{Key}
use Rattle.score_table.specs.Ranking.{ScoreMap, IsRanking}
use Rattle.zset_object.specs.Packed.{IsScorePack, score_of_text, key_of_pair, keys_of, keys_in, scores_in}
use Rattle.zset_object.proofs.Keys.{scored, get_keys}

-- a member that has a score stands in the list
list_found : (list : List Pair) (k : List ℕ) (v : ℤ) → scored (second_of k list) ≡ Some v → (i : ℕ) × (slice_get (keys_of list) i ≡ Some (v, k))
list_found [] k v h = absurd (some_none None v h refl)
list_found (p ∷ rest) k v h = elim (cases_Bool (tied k p.0)) [
  | inl t ↦ (let same : score_of_text p.1 ≡ v = (let e : Some (score_of_text p.1) ≡ Some v = sym (ap scored (cond-true _ _ _ t)) ∙ h in cc) in (0, (λ j. Some (same j, sym (tied_true k p.0 t) j))))
  | inr f ↦ (let q = list_found rest k v (sym (ap scored (cond-false _ _ _ f)) ∙ h) in (suc q.0, q.1))
]

key_same : (p : Pair) (v : ℤ) (k : List ℕ) → Some (key_of_pair p) ≡ Some (v, k) → (score_of_text p.1 ≡ v) × (p.0 ≡ k)
key_same p v k h = let e : key_of_pair p ≡ (v, k) = cc in (ap (λ (x : Key). x.0) e, ap (λ (x : Key). x.1) e)

list_there : (list : List Pair) (i : ℕ) (k : List ℕ) (v : ℤ) → slice_get (keys_of list) i ≡ Some (v, k) → second_of k list ≡ None → ⊥
list_there [] i k v is none = cc
list_there (p ∷ rest) zero k v is none = some_none (second_of k (p ∷ rest)) p.1 (cond-true _ _ _ (tied_same k p.0 (sym (key_same p v k is).1))) none
list_there (p ∷ rest) (suc i) k v is none = elim (cases_Bool (tied k p.0)) [
  | inl t ↦ some_none (second_of k (p ∷ rest)) p.1 (cond-true _ _ _ t) none
  | inr f ↦ list_there rest i k v is (sym (cond-false _ _ _ f) ∙ none)
]

list_has : (list : List Pair) (i : ℕ) (k : List ℕ) (v : ℤ) → IsOnce list → slice_get (keys_of list) i ≡ Some (v, k) → scored (second_of k list) ≡ Some v
list_has [] i k v once is = cc
list_has (p ∷ rest) zero k v once is = let same = key_same p v k is in ap scored (cond-true _ _ _ (tied_same k p.0 (sym same.1))) ∙ ap (λ (n : ℤ). Some n) same.0
list_has (p ∷ rest) (suc i) k v once is = elim (cases_Bool (tied k p.0)) [
  | inl t ↦ absurd (list_there rest i k v is (ap (λ q. second_of q rest) (tied_true k p.0 t) ∙ once.0))
  | inr f ↦ ap scored (cond-false _ _ _ f) ∙ list_has rest i k v once.1 is
]

list_apart : (list : List Pair) (i j : ℕ) (k : List ℕ) (v w : ℤ) → IsOnce list → slice_get (keys_of list) i ≡ Some (v, k) → slice_get (keys_of list) j ≡ Some (w, k) → i ≡ j
list_apart [] i j k v w once h g = cc
list_apart (p ∷ rest) zero zero k v w once h g = refl
list_apart (p ∷ rest) zero (suc j) k v w once h g = absurd (list_there rest j k w g (ap (λ q. second_of q rest) (sym (key_same p v k h).1) ∙ once.0))
list_apart (p ∷ rest) (suc i) zero k v w once h g = absurd (list_there rest i k v h (ap (λ q. second_of q rest) (sym (key_same p w k g).1) ∙ once.0))
list_apart (p ∷ rest) (suc i) (suc j) k v w once h g = ap suc (list_apart rest i j k v w once.1 h g)

pub get_within : (xs : List Key) (i : ℕ) (key : Key) → slice_get xs i ≡ Some key → i < length xs
get_within [] i key h = cc
get_within (x ∷ xs) zero key h = omega arith
get_within (x ∷ xs) (suc i) key h = omega (arith, get_within xs i key h)

pub contained_at : (xs : List Key) (i : ℕ) (key : Key) → i < length xs → slice_index_or xs i key ≡ key → slice_get xs i ≡ Some key
contained_at [] i key h is = absurd (omega (arith, h))
contained_at (x ∷ xs) zero key h is = ap (λ (k : Key). Some k) is
contained_at (x ∷ xs) (suc i) key h is = contained_at xs i key (omega (arith, h)) is

pub at_contained : (xs : List Key) (i : ℕ) (key : Key) → slice_get xs i ≡ Some key → slice_index_or xs i key ≡ key
at_contained [] i key h = cc
at_contained (x ∷ xs) zero key h = cc
at_contained (x ∷ xs) (suc i) key h = at_contained xs i key h

-- ---- a listpack

module _ (bytes : List ℕ) (is : IsScorePack bytes) where
  pub pack_found : (v : ℤ) (k : List ℕ) → get (scores_in bytes) k ≡ Some v → (i : ℕ) × (slice_get (keys_in bytes) i ≡ Some (v, k))
  pack_found v k h = list_found (pairs bytes) k v (sym (get_keys (pairs bytes) k) ∙ h)

  pub pack_has : (i : ℕ) (v : ℤ) (k : List ℕ) → slice_get (keys_in bytes) i ≡ Some (v, k) → get (scores_in bytes) k ≡ Some v
  pack_has i v k h = get_keys (pairs bytes) k ∙ list_has (pairs bytes) i k v is.once h

  pub pack_apart : (i j : ℕ) (v w : ℤ) (k : List ℕ) → slice_get (keys_in bytes) i ≡ Some (v, k) → slice_get (keys_in bytes) j ≡ Some (w, k) → i ≡ j
  pack_apart i j v w k h g = list_apart (pairs bytes) i j k v w is.once h g

  pub pack_ranking : IsRanking (scores_in bytes) (keys_in bytes)
  pack_ranking = record {
    ordered = is.ordered;
    pairs = λ key. (
      (λ h. pack_has h.0 key.0 key.1 (contained_at (keys_in bytes) h.0 key h.1 h.2)),
      (λ h. (let p = pack_found key.0 key.1 h in (p.0, get_within (keys_in bytes) p.0 key p.1, at_contained (keys_in bytes) p.0 key p.1))),
    );
  }

pub empty_ranking : (map : ScoreMap) → ((k : List ℕ) → get map k ≡ None) → IsRanking map []
empty_ranking map none = record {
  ordered = tt;
  pairs = λ key. ((λ h. absurd (omega (arith, h.1))), (λ h. absurd (some_none (get map key.1) key.0 h (none key.1))));
}
