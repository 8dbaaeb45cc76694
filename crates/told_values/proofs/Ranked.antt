-- The members of a sorted set, gathered by rising ranks.
use Rattle.std.proofs.Common.{◌≡◌, inl, inr, ◌⊎◌, ℕ, ◌+◌, ◌<◌, ℤ, true, false, List, [], ◌∷◌, ◌++◌, take, Option, None, Some, refl, sym, ap, ◌∙◌, arith}
use Rattle.std.specs.Prelude.{slice_get, Contains}
use Rattle.std.proofs.lemmas.Bool.{cond-true, cond-false, cases_Bool}
use Rattle.std.proofs.lemmas.List.{take_more}
use Rattle.std.proofs.lemmas.Option.{get_or_from_slice_get, slice_get_within}
use Rattle.std.specs.BTreeMap.{insert_entry}
use Rattle.std.specs.Cmp.Lexicographic.{nat_list_cmp_total}
use Rattle.std.specs.FinMap.{empty, get, insert, get-empty, get-insert}
use Rattle.pack_pairs.proofs.Maps.{tied, tied_true, tied_same, maps_alike}
use Rattle.plain_world.proofs.Containing.{contains_first, contains_later, contains_cases}
use Rattle.score_list.specs.Sorted.{Key}
use Rattle.score_table.specs.Ranking.{ScoreMap, IsRanking}
use Rattle.stream_groups.specs.Kept.{Name, by_bytes, NamesRise}
use Rattle.stream_groups.proofs.Uses.{named_none, named_insert}
use Rattle.told_values.specs.Told.{scores_told}

-- the map with these members and scores put in
abbrev pub gathered : ScoreMap → List Key → ScoreMap
gathered m [] = m
gathered m (key ∷ keys) = gathered (insert m key.1 key.0) keys

gathered_push : (m : ScoreMap) (keys : List Key) (key : Key) → gathered m (keys ++ key ∷ []) ≡ insert (gathered m keys) key.1 key.0
gathered_push m [] key = refl
gathered_push m (k ∷ keys) key = gathered_push (insert m k.1 k.0) keys key

module _ (map : ScoreMap) where
  -- the member has its score in both, or in neither
  abbrev Alike : ScoreMap → List ℕ → Type 0
  Alike m q = get m q ≡ get map q

  abbrev Fits : ScoreMap → Type 0
  Fits m = (q : List ℕ) → (get m q ≡ None) ⊎ Alike m q

  module _ (m : ScoreMap) (key : Key) (has : get map key.1 ≡ Some key.0) (q : List ℕ) where
    here : tied q key.1 ≡ true → Alike (insert m key.1 key.0) q
    here t = get-insert nat_list_cmp_total m key.1 key.0 q ∙ cond-true _ _ _ t ∙ sym has ∙ ap (get map) (sym (tied_true q key.1 t))

    there : tied q key.1 ≡ false → get (insert m key.1 key.0) q ≡ get m q
    there f = get-insert nat_list_cmp_total m key.1 key.0 q ∙ cond-false _ _ _ f

    kept : Alike m q → Alike (insert m key.1 key.0) q
    kept same = elim (cases_Bool (tied q key.1)) [ inl t ↦ here t | inr f ↦ there f ∙ same ]

    fits_one : (get m q ≡ None) ⊎ Alike m q → (get (insert m key.1 key.0) q ≡ None) ⊎ Alike (insert m key.1 key.0) q
    fits_one old = elim (cases_Bool (tied q key.1)) [
      | inl t ↦ inr (here t)
      | inr f ↦ elim old [ inl none ↦ inl (there f ∙ none) | inr same ↦ inr (there f ∙ same) ]
    ]

  -- each of these members has its score
  abbrev Have : List Key → Type 0
  Have keys = (key : Key) → Contains keys key → get map key.1 ≡ Some key.0

  all_kept : (m : ScoreMap) (keys : List Key) (q : List ℕ) → Have keys → Alike m q → Alike (gathered m keys) q
  all_kept m [] q has same = same
  all_kept m (k ∷ keys) q has same =
      all_kept (insert m k.1 k.0) keys q (λ key c. has key (contains_later k key keys c)) (kept m k (has k (contains_first k keys)) q same)

  all_fit : (m : ScoreMap) (keys : List Key) → Have keys → Fits m → Fits (gathered m keys)
  all_fit m [] has fits = fits
  all_fit m (k ∷ keys) has fits =
      all_fit (insert m k.1 k.0) keys (λ key c. has key (contains_later k key keys c)) (λ q. fits_one m k (has k (contains_first k keys)) q (fits q))

  all_met : (m : ScoreMap) (keys : List Key) (key : Key) → Have keys → Contains keys key → Alike (gathered m keys) key.1
  all_met m [] key has c = let none : c.0 < 0 = c.1 in absurd (omega arith)
  all_met m (k ∷ keys) key has c =
      let first = has k (contains_first k keys) in
      let later : Have keys = λ other d. has other (contains_later k other keys d) in
      elim (contains_cases k key keys c) [
        | inl same ↦ all_kept (insert m k.1 k.0) keys key.1 later (here m k first key.1 (tied_same key.1 k.1 (ap (λ (x : Key). x.1) (sym same))))
        | inr more ↦ all_met (insert m k.1 k.0) keys key later more
      ]

  -- all members of a ranking, put in one after the other
  pub all_gathered : (keys : List Key) → IsRanking map keys → gathered empty keys ≡ map
  all_gathered keys ranking = maps_alike (gathered empty keys) map (λ q. at q (get map q) refl)
    where
      has : Have keys
      has key c = (ranking.pairs key).0 c

      at : (q : List ℕ) (o : Option ℤ) → get map q ≡ o → Alike (gathered empty keys) q
      at q None none = elim (all_fit empty keys has (λ p. inl (get-empty _ p)) q) [ inl out ↦ out ∙ sym none | inr same ↦ same ]
      at q (Some score) is = all_met empty keys (score, q) has ((ranking.pairs (score, q)).1 is)

pub scores_begun : (list : List Key) (es : List (Name × ℤ)) → es ≡ [] → scores_told es ≡ gathered empty (take 0 list)
scores_begun list es none = named_none (λ score. score) es none

-- one member more
pub scores_more : (list : List Key) (i : ℕ) (es new : List (Name × ℤ)) (k : Name) (score : ℤ) → NamesRise es → NamesRise new → slice_get list i ≡ Some (score, k.items)
    → new ≡ insert_entry by_bytes es k score → scores_told es ≡ gathered empty (take i list) → scores_told new ≡ gathered empty (take (i + 1) list)
scores_more list i es new k score rising after is put so_far =
    let key : Key = (score, k.items) in
    named_insert (λ n. n) es rising new after k score put
    ∙ ap (λ m. insert m k.items score) so_far
    ∙ sym (ap (gathered empty) (take_more list i key (slice_get_within list i key is) ∙ ap (λ (x : Key). take i list ++ x ∷ []) (get_or_from_slice_get list i key key is))
    ∙ gathered_push empty (take i list) key)
