-- The keys of a list of pairs.
use Rattle.std.proofs.Common.{◌≡◌, ℕ, zero, suc, ◌+◌, ◌<◌, ◌≤◌, ℤ, pos, Result, Ok, Err, Bool, true, false, cond, List, [], ◌∷◌, map, length, take, get_or, Option, Some, None, is_some}
use Rattle.std.proofs.Common.{max, unwrap_or, refl, sym, ap, ◌∙◌, subst, arith, inl, inr}
use Rattle.std.specs.Prelude.{slice_get, FitsSigned, IfOk, MatchOption}
use Rattle.std.specs.Int.{w64}
use Rattle.std.proofs.Common.{to_z, of_z}
use Rattle.std.proofs.lemmas.Int.{to_z-of_z}
use Rattle.std.specs.List.{insert as inserted, remove as removed}
use Rattle.std.specs.Ordering.{nat_cmp}
use Rattle.std.specs.Cmp.Lexicographic.{slice_cmp, nat_list_cmp_total}
use Rattle.std.specs.FinMap.{find, get, insert, remove, contains_key, len, len-empty, len-insert, get-insert, get-remove, get-from_entries}
use Rattle.std.proofs.lemmas.List.{take-map}
use Rattle.std.proofs.lemmas.Bool.{cases_Bool, cond-true, cond-false}
use Rattle.int_text.specs.Decimal.{canonical, IsI64Text}
use Rattle.int_text.proofs.NumberOf.{number_back}
use Rattle.pack_pairs.specs.Pairs.{Pair, IsPairPack, IsOnce, IsFirst, FitsPair, pairs, second_of, map_of_pairs, longest}
use Rattle.pack_pairs.proofs.Packs.{pair_fits}
use Rattle.std.proofs.lemmas.Fmt.{length_signed_le}
use Rattle.collection_walk.proofs.Lists.{some_none}
use Rattle.pack_pairs.proofs.Lists.{no_pair, length_removed}
use Rattle.pack_pairs.proofs.Maps.{tied, tied_true, tied_same, tied_other_in_maps, get_pairs, maps_alike, first_inside, first_second, once_removed, once_before, map_removed, map_more}
use Rattle.score_list.specs.Sorted.{Key}
use Rattle.score_table.specs.Ranking.{ScoreMap, IsOrdered}
use Rattle.zset_object.specs.Orders.{HasRank, entry_of, map_of_keys, place_in, longest_member}
use Rattle.zset_object.specs.Packed.{IsScorePack, IsIndex, AreScores, score_of_text, key_of_pair, keys_of, keys_in}
use Rattle.zset_object.proofs.Orders.{LacksMember, ranked_with, ranked_without}

-- the score of its own text
pub score_back : (n : ℤ) → FitsSigned w64 n → score_of_text (canonical n) ≡ n
unfolding score_of_text
score_back n fits = ap (λ (o : Option ℤ). unwrap_or o (pos 0)) (number_back n fits)

-- a text that is the canonical one of a number of 64 bits tells that number as its score
pub score_text_is : (text : List ℕ) (n : ℤ) → FitsSigned w64 n → text ≡ canonical n → score_of_text text ≡ n
score_text_is text n fits is = ap score_of_text is ∙ score_back n fits

-- the key at an index is that of the pair there
pub key_there : (list : List Pair) (i : ℕ) → i < length list → slice_get (keys_of list) i ≡ Some (key_of_pair (get_or list i no_pair))
key_there [] i h = absurd (omega (arith, h))
key_there (p ∷ rest) zero h = refl
key_there (p ∷ rest) (suc i) h = key_there rest i (omega (arith, h))

-- there are as many keys as pairs
pub keys_len : (list : List Pair) → length (keys_of list) ≡ length list
keys_len [] = refl
keys_len (p ∷ rest) = omega (arith, keys_len rest)

-- where each second text is that of a score, so is that of the pair at an index
pub score_text_there : (list : List Pair) (i : ℕ) → i < length list → AreScores list → IsI64Text (get_or list i no_pair).1
score_text_there [] i h all = absurd (omega (arith, h))
score_text_there (p ∷ rest) zero h all = all.0
score_text_there (p ∷ rest) (suc i) h all = score_text_there rest i (omega (arith, h)) all.1

-- ---- the map

-- the score that a text tells, where there is a text
abbrev pub scored : Option (List ℕ) → Option ℤ
scored None = None
scored (Some text) = Some (score_of_text text)

-- the score that a choice between a text and an option tells is that choice between their scores
cond_scored : (b : Bool) (text : List ℕ) (o : Option (List ℕ)) → scored (cond b (Some text) o) ≡ cond b (Some (score_of_text text)) (scored o)
cond_scored true text o = refl
cond_scored false text o = refl

-- a search for a member among the keys finds the score that the text of its first pair tells
find_keys : (list : List Pair) (q : List ℕ) → find (slice_cmp nat_cmp) q (map entry_of (keys_of list)) ≡ scored (second_of q list)
find_keys [] q = refl
find_keys (p ∷ rest) q = ap (cond (tied q p.0) (Some (score_of_text p.1))) (find_keys rest q) ∙ sym (cond_scored (tied q p.0) p.1 (second_of q rest))

-- the map of the keys has for a member the score that the text of its first pair tells
pub get_keys : (list : List Pair) (q : List ℕ) → get (map_of_keys (keys_of list)) q ≡ scored (second_of q list)
get_keys list q = get-from_entries nat_list_cmp_total (map entry_of (keys_of list)) q ∙ find_keys list q

-- the map of the keys has for a member the score of the text that the map of the pairs has for it
get_scored : (list : List Pair) (q : List ℕ) → get (map_of_keys (keys_of list)) q ≡ scored (get (map_of_pairs list) q)
get_scored list q = get_keys list q ∙ ap scored (sym (get_pairs list q))

-- what is put into the map of texts is put into that of scores
pub keys_put : (old new : List Pair) (k text : List ℕ) → map_of_pairs new ≡ insert (map_of_pairs old) k text → map_of_keys (keys_of new) ≡ insert (map_of_keys (keys_of old)) k (score_of_text text)
keys_put old new k text is = maps_alike _ _ (λ q.
    get_scored new q ∙ ap (λ m. scored (get m q)) is ∙ ap scored (get-insert nat_list_cmp_total (map_of_pairs old) k text q) ∙ cond_scored (tied q k) text (get (map_of_pairs old) q)
    ∙ ap (cond (tied q k) (Some (score_of_text text))) (sym (get_scored old q)) ∙ sym (get-insert nat_list_cmp_total (map_of_keys (keys_of old)) k (score_of_text text) q))

-- the score that a choice between nothing and an option tells is that choice between nothing and its score
cond_none : (b : Bool) (o : Option (List ℕ)) → scored (cond b None o) ≡ cond b None (scored o)
cond_none true o = refl
cond_none false o = refl

-- what is taken out of the map of texts is taken out of that of scores
pub keys_out : (old new : List Pair) (k : List ℕ) → map_of_pairs new ≡ remove (map_of_pairs old) k → map_of_keys (keys_of new) ≡ remove (map_of_keys (keys_of old)) k
keys_out old new k is = maps_alike _ _ (λ q.
    get_scored new q ∙ ap (λ m. scored (get m q)) is ∙ ap scored (get-remove nat_list_cmp_total (map_of_pairs old) k q) ∙ cond_none (tied q k) (get (map_of_pairs old) q)
    ∙ ap (cond (tied q k) None) (sym (get_scored old q)) ∙ sym (get-remove nat_list_cmp_total (map_of_keys (keys_of old)) k q))

-- the number whose text stands in the pair at an index is that of the key there
pub number_there : (list : List Pair) (i : ℕ) (key : Key) (n : ℤ) → FitsSigned w64 n → i < length list → slice_get (keys_of list) i ≡ Some key → canonical n ≡ (get_or list i no_pair).1
    → to_z w64 (of_z w64 n) ≡ key.0
number_there list i key n fits inside there text =
    let same : key_of_pair (get_or list i no_pair) ≡ key = (let e : Some (key_of_pair (get_or list i no_pair)) ≡ Some key = sym (key_there list i inside) ∙ there in cc) in
    to_z-of_z w64 n fits ∙ sym (score_text_is (get_or list i no_pair).1 n fits (sym text)) ∙ ap (λ (k : Key). k.0) same

-- what both elements of a pair say is its key
pub entry_there : (list : List Pair) (i : ℕ) (score n : ℤ) (member : List ℕ) → i < length list → member ≡ (get_or list i no_pair).0 → score ≡ n
    → ((key : Key) → slice_get (keys_of list) i ≡ Some key → n ≡ key.0) → slice_get (keys_of list) i ≡ Some (score, member)
entry_there list i score n member inside first same second =
    let here = key_there list i inside in
    let number : (key_of_pair (get_or list i no_pair)).0 ≡ score = sym (same ∙ second (key_of_pair (get_or list i no_pair)) here) in
    here ∙ (λ j. Some (number j, sym first j))

-- ---- what a search answers

-- the score of the key at the index of a member's first pair is what the map has for the member
pub score_found : (list : List Pair) (i : ℕ) (k : List ℕ) (n : ℤ) → IsFirst k list i → ((key : Key) → slice_get (keys_of list) i ≡ Some key → n ≡ key.0) → Some n ≡ get (map_of_keys (keys_of list)) k
score_found list i k n first number =
    ap Some (number (key_of_pair (get_or list i no_pair)) (key_there list i (first_inside k list i first))) ∙ ap scored (sym (first_second k list i first)) ∙ sym (get_keys list k)

-- a member without a pair has no score in the map
pub no_score : (list : List Pair) (k : List ℕ) → second_of k list ≡ None → None ≡ get (map_of_keys (keys_of list)) k
no_score list k none = ap scored (sym none) ∙ sym (get_keys list k)

-- ---- a pair more

-- the first pair does not have it, nor the others
none_parts : (q : List ℕ) (p : Pair) (rest : List Pair) → second_of q (p ∷ rest) ≡ None → (tied q p.0 ≡ false) × (second_of q rest ≡ None)
none_parts q p rest h = elim (cases_Bool (tied q p.0)) [
  | inl t ↦ absurd (some_none (second_of q (p ∷ rest)) p.1 (cond-true _ _ _ t) h)
  | inr f ↦ (f, sym (cond-false _ _ _ f) ∙ h)
]

module _ (k v : List ℕ) where
  -- after a new member's pair was put in at an index, its text is found for it, and the old ones for others
  find_with : (q : List ℕ) (list : List Pair) (i : ℕ) → second_of k list ≡ None → second_of q (inserted list i (k, v)) ≡ cond (tied q k) (Some v) (second_of q list)
  find_with q [] zero none = refl
  find_with q [] (suc i) none = refl
  find_with q (p ∷ rest) zero none = refl
  find_with q (p ∷ rest) (suc i) none =
      let parts = none_parts k p rest none in
      ap (cond (tied q p.0) (Some p.1)) (find_with q rest i parts.1) ∙ elim (cases_Bool (tied q k)) [
        | inl t ↦ (let out : tied q p.0 ≡ false = ap (λ x. tied x p.0) (tied_true q k t) ∙ parts.0 in cond-false _ _ _ out ∙ cond-true _ _ _ t ∙ sym (cond-true _ _ _ t))
        | inr f ↦ ap (cond (tied q p.0) (Some p.1)) (cond-false _ _ _ f) ∙ sym (cond-false _ _ _ f)
      ]

  -- pairs in which a new member's pair was put at an index mean the old map with the member and its text
  pub map_with : (list : List Pair) (i : ℕ) → second_of k list ≡ None → map_of_pairs (inserted list i (k, v)) ≡ insert (map_of_pairs list) k v
  map_with list i none = maps_alike _ _
      (λ q. get_pairs (inserted list i (k, v)) q ∙ find_with q list i none ∙ ap (cond (tied q k) (Some v)) (sym (get_pairs list q))
      ∙ sym (get-insert nat_list_cmp_total (map_of_pairs list) k v q))

  -- no member stands twice where the pair of a new one was put in at an index
  pub once_with : (list : List Pair) (i : ℕ) → IsOnce list → second_of k list ≡ None → IsOnce (inserted list i (k, v))
  once_with [] zero once none = (refl, tt)
  once_with [] (suc i) once none = (refl, tt)
  once_with (p ∷ rest) zero once none = (none, once)
  once_with (p ∷ rest) (suc i) once none =
      let parts = none_parts k p rest none in
      (find_with p.0 rest i parts.1 ∙ cond-false _ _ _ (tied_other_in_maps p.0 k (λ same. other same parts.0)) ∙ once.0, once_with rest i once.1 parts.1)
    where
      other : p.0 ≡ k → tied k p.0 ≡ false → ⊥
      other same out = let e = tied_same k p.0 (sym same) in cc

-- where a pair with the text of a score is put in, each second text is still that of a score
pub scores_with : (p : Pair) (list : List Pair) (i : ℕ) → AreScores list → IsI64Text p.1 → AreScores (inserted list i p)
scores_with p [] zero all text = (text, tt)
scores_with p [] (suc i) all text = (text, tt)
scores_with p (x ∷ rest) zero all text = (text, all)
scores_with p (x ∷ rest) (suc i) all text = (all.0, scores_with p rest i all.1 text)

-- where a pair is taken out, each second text is still that of a score
pub scores_without : (list : List Pair) (i : ℕ) → AreScores list → AreScores (removed list i)
scores_without [] zero all = tt
scores_without [] (suc i) all = tt
scores_without (x ∷ rest) zero all = all.1
scores_without (x ∷ rest) (suc i) all = (all.0, scores_without rest i all.1)

-- where a pair is put in at an index, its key is put in there among the keys
pub keys_with : (list : List Pair) (i : ℕ) (p : Pair) → keys_of (inserted list i p) ≡ inserted (keys_of list) i (key_of_pair p)
keys_with [] zero p = refl
keys_with [] (suc i) p = refl
keys_with (x ∷ rest) zero p = refl
keys_with (x ∷ rest) (suc i) p = ap (λ keys. key_of_pair x ∷ keys) (keys_with rest i p)

-- where the pair at an index is taken out, the key there is taken out of the keys
pub keys_without : (list : List Pair) (i : ℕ) → keys_of (removed list i) ≡ removed (keys_of list) i
keys_without [] zero = refl
keys_without [] (suc i) = refl
keys_without (x ∷ rest) zero = refl
keys_without (x ∷ rest) (suc i) = ap (λ keys. key_of_pair x ∷ keys) (keys_without rest i)

-- a member without a pair is the member of no key
pub keys_lack : (k : List ℕ) (list : List Pair) → second_of k list ≡ None → LacksMember k (keys_of list)
keys_lack k [] none = tt
keys_lack k (p ∷ rest) none =
    (let parts = none_parts k p rest none in
    ((λ same. (let e : tied k p.0 ≡ true = tied_same k p.0 (sym same) in let f = parts.0 in let never : ⊥ = cc in never)), keys_lack k rest parts.1))

-- a listpack with a member more, at its place
pub pack_joined : (old new : List ℕ) (score : ℤ) (k : List ℕ) → FitsSigned w64 score → IsScorePack old → second_of k (pairs old) ≡ None → IsPairPack new
    → pairs new ≡ inserted (pairs old) (place_in (score, k) (keys_in old)) (k, canonical score) → IsScorePack new
pack_joined old new score k fits is none pack list =
    let at = place_in (score, k) (keys_in old) in
    let key : key_of_pair (k, canonical score) ≡ (score, k) = (λ j. (score_back score fits j, k)) in
    record {
      pack = pack;
      once = subst IsOnce (sym list) (once_with k (canonical score) (pairs old) at is.once none);
      scores = subst AreScores (sym list) (scores_with (k, canonical score) (pairs old) at is.scores (score, fits, refl));
      ordered = subst IsOrdered (sym (ap keys_of list ∙ keys_with (pairs old) at (k, canonical score) ∙ ap (inserted (keys_in old) at) key))
          (ranked_with (score, k) (keys_in old) is.ordered (keys_lack k (pairs old) none));
    }

-- one with a member less
pub pack_without : (old new : List ℕ) (i : ℕ) → IsScorePack old → IsPairPack new → pairs new ≡ removed (pairs old) i → IsScorePack new
pack_without old new i is pack list = record {
  pack = pack;
  once = subst IsOnce (sym list) (once_removed (pairs old) i is.once);
  scores = subst AreScores (sym list) (scores_without (pairs old) i is.scores);
  ordered = subst IsOrdered (sym (ap keys_of list ∙ keys_without (pairs old) i)) (ranked_without i (keys_in old) is.ordered);
}

-- what a call made of a listpack with a member more, at its place, is a listpack of members and scores
pub if_pack_joined : {V E : Type 0} (items : V → List ℕ) (r : Result V E) (old : List ℕ) (score : ℤ) (k : List ℕ) → FitsSigned w64 score → IsScorePack old → second_of k (pairs old) ≡ None
    → IfOk r (λ new. IsPairPack (items new))
    → IfOk r (λ new. pairs (items new) ≡ inserted (pairs old) (place_in (score, k) (keys_in old)) (k, canonical score)) → IfOk r (λ new. IsScorePack (items new))
if_pack_joined items (Ok new) old score k fits is none pack list = pack_joined old (items new) score k fits is none pack list
if_pack_joined items (Err e) old score k fits is none pack list = tt

-- ---- lengths

-- the length of the longest member of the pairs
abbrev pub longest_key : List Pair → ℕ
longest_key list = longest_member (map entry_of (keys_of list))

-- the text of a score has at most 20 bytes
pub text_short : (text : List ℕ) → IsI64Text text → length text ≤ 20
text_short text is = omega (arith, ap length is.2, length_signed_le 19 is.0 (omega (arith, is.1.sfits)) (omega (arith, is.1.sfits)))

-- no text of the pairs is longer than both their longest member and 20 bytes
pairs_short : (list : List Pair) → AreScores list → longest list ≤ max (longest_key list) 20
pairs_short [] all = omega arith
pairs_short (p ∷ rest) all = omega (arith, text_short p.1 all.0, pairs_short rest all.1)

-- a member and its score have room in a listpack of few short members
pub member_fits : (bytes member : List ℕ) (score : ℤ) → FitsSigned w64 score → IsScorePack bytes → length (pairs bytes) ≤ 4096 → longest_key (pairs bytes) ≤ 4096 → length member ≤ 4096
    → FitsPair bytes member (canonical score)
member_fits bytes member score fits is few short more =
    pair_fits bytes member (canonical score) is.pack (omega (arith, pairs_short (pairs bytes) is.scores, short)) (omega (arith, few)) more
    (omega (arith, text_short (canonical score) (score, fits, refl)))

-- where a pair is put in, no member is longer than both its own and the longest old one
pub longest_with : (list : List Pair) (i : ℕ) (p : Pair) → longest_key (inserted list i p) ≤ max (length p.0) (longest_key list)
longest_with [] zero p = omega arith
longest_with [] (suc i) p = omega arith
longest_with (x ∷ rest) zero p = omega arith
longest_with (x ∷ rest) (suc i) p = omega (arith, longest_with rest i p)

-- where a pair is taken out, no member is longer than the longest old one
pub longest_without : (list : List Pair) (i : ℕ) → longest_key (removed list i) ≤ longest_key list
longest_without [] zero = omega arith
longest_without [] (suc i) = omega arith
longest_without (x ∷ rest) zero = omega arith
longest_without (x ∷ rest) (suc i) = omega (arith, longest_without rest i)

-- ---- a member that is given a score

-- to take a member out and then give it a score is to give it that score
pub put_again : (map : ScoreMap) (k : List ℕ) (v : ℤ) → insert (remove map k) k v ≡ insert map k v
put_again map k v = maps_alike _ _
    (λ q. get-insert nat_list_cmp_total (remove map k) k v q ∙ ap (cond (tied q k) (Some v)) (get-remove nat_list_cmp_total map k q) ∙ by_test (tied q k) (get map q)
    ∙ sym (get-insert nat_list_cmp_total map k v q))
  where
    by_test : (b : Bool) (o : Option ℤ) → cond b (Some v) (cond b None o) ≡ cond b (Some v) o
    by_test true o = refl
    by_test false o = refl

-- pairs in which a new member with its score was put have the old scores and that one
pub joined_scores : (old new : List Pair) (i : ℕ) (k : List ℕ) (score : ℤ) → FitsSigned w64 score → second_of k old ≡ None → new ≡ inserted old i (k, canonical score)
    → map_of_keys (keys_of new) ≡ insert (map_of_keys (keys_of old)) k score
joined_scores old new i k score fits none is =
    keys_put old new k (canonical score) (ap map_of_pairs is ∙ map_with k (canonical score) old i none) ∙ ap (insert (map_of_keys (keys_of old)) k) (score_back score fits)

-- the pairs without the first one of a member lack it
pub left_lacks : (old new : List Pair) (i : ℕ) (k : List ℕ) → IsOnce old → IsFirst k old i → new ≡ removed old i → (second_of k new ≡ None)
    × (map_of_keys (keys_of new) ≡ remove (map_of_keys (keys_of old)) k)
left_lacks old new i k once first is =
    let out : map_of_pairs new ≡ remove (map_of_pairs old) k = ap map_of_pairs is ∙ map_removed old i k once first in (
      sym (get_pairs new k) ∙ ap (λ m. get m k) out ∙ get-remove nat_list_cmp_total (map_of_pairs old) k k ∙ cond-true _ _ _ (tied_same k k refl),
      keys_out old new k out,
    )

-- where no member stands twice, the map of scores has as many members as there are pairs
pub once_len : (list : List Pair) → IsOnce list → len (map_of_keys (keys_of list)) ≡ length list
once_len [] once = len-empty (slice_cmp nat_cmp) ℤ
once_len (p ∷ rest) once =
    let none : is_some (get (map_of_keys (keys_of rest)) p.0) ≡ false = ap is_some (get_keys rest p.0 ∙ ap scored once.0) in
    len-insert nat_list_cmp_total (map_of_keys (keys_of rest)) p.0 (score_of_text p.1) ∙ cond-false _ _ _ none ∙ omega (arith, once_len rest once.1)

-- what is left without a member's pair
pub record Left (old new : List ℕ) (k : List ℕ) : Type 0 where
  pub pack : IsScorePack new
  pub lacks : second_of k (pairs new) ≡ None
  pub scores_are : map_of_keys (keys_in new) ≡ remove (map_of_keys (keys_in old)) k
  pub fewer : length (pairs new) ≤ length (pairs old)
  pub shorter : longest_key (pairs new) ≤ longest_key (pairs old)

-- a listpack from which the first pair of a member was taken out is what is left without that member
pub left_is : (old new made : List ℕ) (i : ℕ) (k : List ℕ) → IsScorePack old → IsFirst k (pairs old) i → new ≡ made → IsPairPack made → pairs made ≡ removed (pairs old) i → Left old new k
left_is old new made i k is first same pack list =
    let outcome = left_lacks (pairs old) (pairs made) i k is.once first list in
    subst (λ bytes. Left old bytes k) (sym same) (record {
      pack = pack_without old made i is pack list;
      lacks = outcome.0;
      scores_are = outcome.1;
      fewer = omega (arith, ap length list, length_removed (pairs old) i (first_inside k (pairs old) i first));
      shorter = omega (arith, ap longest_key list, longest_without (pairs old) i);
    })

module _ {V E : Type 0} (items : V → List ℕ) (old : List ℕ) (i : ℕ) (score : ℤ) (k : List ℕ) where
  -- where a call put a new member with its score in, the listpack has the old scores and that one
  pub if_joined_scores : (r : Result V E) → FitsSigned w64 score → second_of k (pairs old) ≡ None → IfOk r (λ new. pairs (items new) ≡ inserted (pairs old) i (k, canonical score))
      → IfOk r (λ new. map_of_keys (keys_in (items new)) ≡ insert (map_of_keys (keys_in old)) k score)
  if_joined_scores (Ok new) fits none list = joined_scores (pairs old) (pairs (items new)) i k score fits none list
  if_joined_scores (Err e) fits none list = tt

  -- where a call put a pair in, no member is longer than both its own and the longest old one
  pub if_joined_longest : (r : Result V E) → IfOk r (λ new. pairs (items new) ≡ inserted (pairs old) i (k, canonical score))
      → IfOk r (λ new. longest_key (pairs (items new)) ≤ max (length k) (longest_key (pairs old)))
  if_joined_longest (Ok new) list = omega (arith, ap longest_key list, longest_with (pairs old) i (k, canonical score))
  if_joined_longest (Err e) list = tt

-- what bounds the longest member of what a call made, a greater number bounds too
pub if_longer : {V E : Type 0} (items : V → List ℕ) (r : Result V E) (a b : ℕ) → a ≤ b → IfOk r (λ new. longest_key (pairs (items new)) ≤ a) → IfOk r (λ new. longest_key (pairs (items new)) ≤ b)
if_longer items (Ok new) a b less h = omega (arith, less, h)
if_longer items (Err e) a b less h = tt

-- ---- a walk over the pairs

-- the keys of the first pairs are the first keys
pub keys_take : (list : List Pair) (i : ℕ) → take i (keys_of list) ≡ keys_of (take i list)
keys_take list i = take-map key_of_pair i list

module _ (list : List Pair) (i : ℕ) (key : Key) (once : IsOnce list) (inside : i < length list) (there : slice_get (keys_of list) i ≡ Some key) where
  -- the key of the pair at an index is the one that stands there among the keys
  next_is : key_of_pair (get_or list i no_pair) ≡ key
  next_is = let e : Some (key_of_pair (get_or list i no_pair)) ≡ Some key = sym (key_there list i inside) ∙ there in cc

  -- the member of the key at an index has no score in the map of the keys before it
  pub next_absent : get (map_of_keys (take i (keys_of list))) key.1 ≡ None
  next_absent =
      ap (λ keys. get (map_of_keys keys) key.1) (keys_take list i) ∙ get_keys (take i list) key.1
      ∙ ap scored (ap (λ (k : Key). second_of k.1 (take i list)) (sym next_is) ∙ once_before list i once inside)

  -- the map of the keys before an index, with the key there put in, is that of one key more
  pub next_put : insert (map_of_keys (take i (keys_of list))) key.1 key.0 ≡ map_of_keys (take (i + 1) (keys_of list))
  next_put =
      let p = get_or list i no_pair in
      ap (λ keys. insert (map_of_keys keys) key.1 key.0) (keys_take list i)
      ∙ ap (λ (k : Key). insert (map_of_keys (keys_of (take i list))) k.1 k.0) (sym next_is)
      ∙ sym (keys_put (take i list) (take (i + 1) list) p.0 p.1 (map_more list i once inside))
      ∙ ap map_of_keys (sym (keys_take list (i + 1)))

-- ---- ranks

-- the pair at the index of a member's first one has that member
first_is : (k : List ℕ) (list : List Pair) (i : ℕ) → IsFirst k list i → (get_or list i no_pair).0 ≡ k
first_is k [] i h = absurd h
first_is k (p ∷ rest) zero h = h
first_is k (p ∷ rest) (suc i) h = first_is k rest i h.1

-- the index of a member is its rank among the keys, and without an index it has no score
pub rank_in : (list : List Pair) (k : List ℕ) (index : Option ℕ) → IsIndex list k index
    → MatchOption index (get (map_of_keys (keys_of list)) k ≡ None) (λ r. HasRank (map_of_keys (keys_of list)) (keys_of list) k r)
rank_in list k None none = get_keys list k ∙ ap scored none
rank_in list k (Some i) first = record {
  score = score_of_text (get_or list i no_pair).1;
  has = get_keys list k ∙ ap scored (first_second k list i first);
  there = key_there list i (first_inside k list i first) ∙ (λ j. Some (score_of_text (get_or list i no_pair).1, first_is k list i first j));
}

-- a member has a score exactly where it has an index
pub index_there : (list : List Pair) (k : List ℕ) (index : Option ℕ) → IsIndex list k index → contains_key (map_of_keys (keys_of list)) k ≡ is_some index
index_there list k None none = ap is_some (get_keys list k ∙ ap scored none)
index_there list k (Some i) first = ap is_some (get_keys list k ∙ ap scored (first_second k list i first))

-- each score has 64 bits with a sign
pub score_range : (list : List Pair) (i : ℕ) (key : Key) → AreScores list → i < length list → slice_get (keys_of list) i ≡ Some key → FitsSigned w64 key.0
score_range list i key all inside there =
    let text = score_text_there list i inside all in
    let same : key_of_pair (get_or list i no_pair) ≡ key = (let e : Some (key_of_pair (get_or list i no_pair)) ≡ Some key = sym (key_there list i inside) ∙ there in cc) in
    subst (FitsSigned w64) (sym (score_text_is (get_or list i no_pair).1 text.0 text.1 text.2) ∙ ap (λ (k : Key). k.0) same) text.1
