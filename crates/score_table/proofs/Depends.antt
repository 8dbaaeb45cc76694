-- Tables of scores over blocks that others change.
use Rattle.std.proofs.Common.{◌≡◌, ℕ, ℤ, List, [], ◌∷◌, ◌++◌, Option, Some, None, unwrap_or, flat_map, refl, ap, ◌∙◌, arith}
use Rattle.std.specs.FinMap.{from_entries}
use Rattle.std.specs.Ordering.{nat_cmp}
use Rattle.std.specs.Cmp.Lexicographic.{slice_cmp}
use Rattle.blocks.specs.declared.BlockRef.{BlockRef}
use Rattle.blocks.specs.Blocks.{Blocks, IsIn}
use Rattle.collection_walk.proofs.Replaced.{beside}
use Rattle.rehash_dict.specs.Table.{Element, item}
use Rattle.rehash_dict.specs.MapOf.{map_of, pair_of, own_of}
use Rattle.rehash_dict.proofs.MapOf.{key_refs_owned}
use Rattle.score_list.specs.Sorted.{key_of}
use Rattle.std.proofs.lemmas.List.{length-map}
use Rattle.score_table.specs.declared.table.ScoreTable.{ScoreTable}
use Rattle.score_table.specs.Scored.{IsScoreTable, scores, ranked, refs, tables}
use Rattle.score_table.specs.Laws.{ScoreTableLaws}
use Rattle.score_table.proofs.Edits.{no_block, kept_sound, kept_ranked, kept_tables}
use Rattle.collection_walk.proofs.Named.{self, names_key}
use Rattle.score_table.proofs.Ranked.{counted, items_arranged, ranking_holds, ranking_once}

module _ (a b : Blocks) where
  pairs_same : (items : List (Option (Element ℤ))) → ((r : BlockRef) → IsIn r (flat_map (own_of no_block) items) → b r ≡ a r)
      → flat_map (pair_of b (λ (v : ℤ). v)) items ≡ flat_map (pair_of a (λ (v : ℤ). v)) items
  pairs_same [] same = refl
  pairs_same (None ∷ items) same = pairs_same items same
  pairs_same (Some e ∷ items) same =
      ap (λ (o : Option (List ℕ)). let p : List ℕ × ℤ = (unwrap_or o [], e.value) in p ∷ flat_map (pair_of b (λ (v : ℤ). v)) items) (same e.key (omega (arith, self e.key)))
      ∙ ap (λ ps. pair_of a (λ (v : ℤ). v) (Some e) ++ ps) (pairs_same items (λ r isin. same r (omega (arith, isin))))

  own_scores : (s : ScoreTable) → ((r : BlockRef) → IsIn r (refs s) → b r ≡ a r) → scores b s ≡ scores a s
  unfolding map_of
  own_scores s same = ap (λ ps. from_entries {R = slice_cmp nat_cmp} ps) (pairs_same s.table.items same)

  key_same : (s : ScoreTable) → ((r : BlockRef) → IsIn r (refs s) → b r ≡ a r) → (at : ℕ) (e : Element ℤ) → item s.table at ≡ Some e → b e.key ≡ a e.key
  key_same s same at e found = same e.key (names_key s.table at e found)

  sound : (s : ScoreTable) → ((r : BlockRef) → IsIn r (refs s) → b r ≡ a r) → IsScoreTable a s → IsScoreTable b s × (ranked b s ≡ ranked a s) × (tables b s ≡ tables a s)
  sound s same is = (kept_sound a b s is (key_same s same), kept_ranked a b s is (key_same s same), kept_tables a b s is (key_same s same))

pub score_table_laws_hold : ScoreTableLaws
score_table_laws_hold = record {
  own = λ a b s same. own_scores a b s same;
  sound = sound;
  others = λ a b s old new o p. own_scores a b s (beside a b (refs s) old new o p);
  stays = λ a b s old new o p is. (sound a b s (beside a b (refs s) old new o p) is).0;
  owned = λ m s is. key_refs_owned m s.table is.keyed;
  ranking = ranking_holds;
  counted = λ m s is. length-map s.list (key_of m) ∙ counted m s is;
  arranged = items_arranged;
  unique = ranking_once;
}
