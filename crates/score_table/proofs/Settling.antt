-- A table of scores in which one member's block moved.
use Rattle.std.proofs.Common.{◌≡◌, ◌≢◌, ℕ, ◌<◌, zero, suc, ℤ, List, [], ◌∷◌, length, get_or, Option, Some, unwrap_or, refl, sym, ap, ◌∙◌, subst, arith}
use Rattle.blocks.specs.declared.BlockRef.{BlockRef}
use Rattle.blocks.specs.Blocks.{Blocks, Changes}
use Rattle.blocks.proofs.Change.{changes_same}
use Rattle.collection_walk.proofs.Renamed.{renamed, bytes_kept, other_kept, moved_keyed, moved_changes, items_stand}
use Rattle.rehash_dict.specs.Table.{Table, Element, item}
use Rattle.rehash_dict.specs.Steps.{Holds, Renames}
use Rattle.rehash_dict.specs.MapOf.{key_refs}
use Rattle.rehash_dict.proofs.MapOf.{map_of_renames, key_refs_owned}
use Rattle.score_list.specs.Linked.{Element as Scored, no_element, renamed_at}
use Rattle.score_list.specs.Sorted.{Key, key_of, IsSorted, HasAt, Misses, Carries}
use Rattle.score_table.specs.declared.table.ScoreTable.{ScoreTable}
use Rattle.score_table.specs.Ranking.{IsRanking}
use Rattle.score_table.specs.Scored.{IsScoreTable, scores, ranked}
use Rattle.score_table.specs.Relocation.{IsRelocatedTable}
use Rattle.score_table.proofs.Among.{Among, among_contained, contained_among, among_at, behind_among, less_differs, missed, Follows, it_is, follows_renamed}
use Rattle.score_table.proofs.Agreeing.{entry_of, agree_follows}
use Rattle.score_table.proofs.Ranked.{ranking_holds, ranking_once}

pub settled_same : (m : Blocks) (s : ScoreTable) (stays : ℕ → Type 0) → IsScoreTable m s → IsRelocatedTable m m s s stays
settled_same m s stays is = record {
  sound = is;
  scores_are = refl;
  ranked_are = refl;
  tables_are = refl;
  changes = changes_same m (key_refs s.table) (key_refs_owned m s.table is.keyed);
  seed = refl;
  top = refl;
  same_items = λ at. refl;
  others = λ at h. refl;
}

-- an element of the dictionary isn't missed by the list
pub not_missed : (m : Blocks) (s : ScoreTable) (at : ℕ) (key : BlockRef) (v : ℤ) (q : List ℕ) → IsScoreTable m s → Holds s.table at key v → m key ≡ Some q → Misses m (v, q) s.list → ⊥
not_missed m s at key v q is h bytes misses =
    missed m (v, q) s.list (v, key) misses (among_contained s.list (v, key) (is.agree.listed at (record { key = key; hash = h.hash; value = v }) h.found))
    (ap (λ (o : Option (List ℕ)). let k : Key = (v, unwrap_or o []) in k) bytes)

-- no element of a sorted list stands at two ranks
apart_ranks : (m : Blocks) (xs : List Scored) (j k : ℕ) → IsSorted m xs → j < length xs → k < length xs → get_or xs j no_element ≡ get_or xs k no_element → j ≡ k
apart_ranks m [] j k s lt less same = absurd (omega arith)
apart_ranks m (x ∷ xs) zero zero s lt less same = refl
apart_ranks m (x ∷ xs) zero (suc k) s lt less same = absurd
    (less_differs (key_of m x) (key_of m (get_or xs k no_element)) (behind_among m (key_of m x) xs (get_or xs k no_element) s.1 (among_at xs k (omega (arith, less)))) (ap (key_of m) same))
apart_ranks m (x ∷ xs) (suc j) zero s lt less same = absurd
    (less_differs (key_of m x) (key_of m (get_or xs j no_element)) (behind_among m (key_of m x) xs (get_or xs j no_element) s.1 (among_at xs j (omega (arith, lt))))
    (ap (key_of m) (sym same)))
apart_ranks m (x ∷ xs) (suc j) (suc k) s lt less same = ap suc (apart_ranks m xs j k s.2 (omega (arith, lt)) (omega (arith, less)) same)

module _ (m n : Blocks) (s : ScoreTable) (table : Table ℤ) (ys : List Scored) (at rank : ℕ) (key ref : BlockRef) (v : ℤ) (q : List ℕ) (is : IsScoreTable m s) (h : Holds s.table at key v)
    (key_bytes : m key ≡ Some q) (has : HasAt m (v, q) s.list rank) (same : n ref ≡ m key) (p : Changes m n (key ∷ []) (ref ∷ [])) (r : Renames s.table table at ref)
    (list_is : ys ≡ renamed_at s.list rank ref) where
  there : Among s.list (v, key)
  there = among_contained s.list (v, key) (is.agree.listed at (record { key = key; hash = h.hash; value = v }) h.found)

  key_is : key_of m (get_or s.list rank no_element) ≡ key_of m (v, key)
  key_is = has.1 ∙ ap (λ (o : Option (List ℕ)). let k : Key = (v, unwrap_or o []) in k) (sym key_bytes)

  found : get_or s.list rank no_element ≡ (v, key)
  found = it_is m s.list is.sorted (v, key) there rank has.0 key_is

  pub carries : Carries m n s.list rank ref
  carries = record {
    moved = same ∙ ap (λ (x : Scored). m x.1) (sym found);
    others = λ k lt apart. other k lt apart (is.agree.named (get_or s.list k no_element) (contained_among s.list (get_or s.list k no_element) (among_at s.list k lt)));
  }
    where
      other : (k : ℕ) → k < length s.list → k ≢ rank → (i : ℕ) × Holds s.table i (get_or s.list k no_element).1 (get_or s.list k no_element).0
          → n (get_or s.list k no_element).1 ≡ m (get_or s.list k no_element).1
      other k lt apart w = other_kept m n s.table table at key ref v is.keyed h same p r w.0
          (record { key = (get_or s.list k no_element).1; hash = w.1.hash; value = (get_or s.list k no_element).0 }) not_at w.1.found
        where
          not_at : w.0 ≢ at
          not_at here = apart (apart_ranks m s.list k rank is.sorted lt has.0 (some_same (sym (ap entry_of w.1.found) ∙ ap (λ i. entry_of (item s.table i)) here ∙ ap entry_of h.found) ∙ sym found))
            where
              some_same : {a b : Scored} → Some a ≡ Some b → a ≡ b
              some_same h = cc

  pub item_settled : IsSorted n ys → IsRelocatedTable m n s (record { table = table; list = ys }) (λ i. i ≢ at)
  item_settled sorted = record {
    sound = sound;
    scores_are = scores_same;
    ranked_are = ranking_once (scores m s) (ranked n new) (ranked m s) (subst (λ map. IsRanking map (ranked n new)) scores_same (ranking_holds n new sound)) (ranking_holds m s is);
    tables_are = (moved_keyed m n s.table table at key ref v is.keyed h same p r).1;
    changes = moved_changes m n s.table table at key ref v is.keyed h same p r;
    seed = r.seed;
    top = r.top;
    same_items = items_stand m n s.table table at key ref v is.keyed h same p r;
    others = λ i other. r.updates.others i other;
  }
    where
      new : ScoreTable
      new = record { table = table; list = ys }

      follows : Follows s.list ys (entry_of (item s.table at)) (Some (r.element.value, ref))
      follows = subst (λ zs. Follows s.list zs (entry_of (item s.table at)) (Some (r.element.value, ref))) (sym list_is)
          (subst (λ o. Follows s.list (renamed_at s.list rank ref) o (Some (r.element.value, ref))) (sym (ap entry_of h.found))
          (subst (λ (e : Element ℤ). Follows s.list (renamed_at s.list rank ref) (Some (v, key)) (Some (e.value, ref))) (sym (renamed m n s.table table at key ref v is.keyed h same p r))
          (follows_renamed m s.list is.sorted (v, key) there rank has.0 key_is ref)))

      sound : IsScoreTable n new
      sound = record {
        keyed = (moved_keyed m n s.table table at key ref v is.keyed h same p r).0;
        sorted = sorted;
        agree = agree_follows m s.table table s.list ys at (Some (record r.element { key = ref })) is.keyed r.updates is.agree follows;
      }

      scores_same : scores n new ≡ scores m s
      scores_same = map_of_renames m n (λ (v : ℤ). v) s.table table at ref is.keyed (moved_keyed m n s.table table at key ref v is.keyed h same p r).0 r
          (bytes_kept m n s.table table at key ref v is.keyed h same p r) (other_kept m n s.table table at key ref v is.keyed h same p r)
