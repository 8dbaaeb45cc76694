-- Members of a range of ranks leave the dictionary one after the other.
use Rattle.std.proofs.Common.{◌≡◌, ℕ, ◌+◌, ◌-◌, ◌<◌, ◌≤◌, ℤ, List, [], ◌∷◌, ◌++◌, length, map, get_or, take, drop, Option, Some, None, unwrap_or, refl, sym, ap, ◌∙◌, subst, arith}
use Rattle.std.specs.Prelude.{MatchOption, slice_get, slice_range}
use Rattle.std.specs.List.{remove_range as range_removed}
use Rattle.std.specs.FinMap.{remove}
use Rattle.std.proofs.lemmas.List.{take-append-drop, take_more, get_or-drop, get_or-map, length-drop, length-map}
use Rattle.std.proofs.lemmas.Option.{get_or_from_slice_get}
use Rattle.blocks.specs.Blocks.{Blocks}
use Rattle.blocks.proofs.Change.{changes_same}
use Rattle.rehash_dict.specs.Table.{Table}
use Rattle.rehash_dict.specs.Keyed.{hash_of}
use Rattle.rehash_dict.specs.Steps.{Holds}
use Rattle.rehash_dict.proofs.Growing.{grown_same}
use Rattle.rehash_dict.proofs.MapOf.{key_refs_owned}
use Rattle.score_list.specs.Linked.{Element as Scored, no_element, without_at}
use Rattle.score_list.specs.Sorted.{Key, key_of, IsSorted}
use Rattle.score_list.specs.Cursor.{IsCursor}
use Rattle.score_list.proofs.Joins.{map_without}
use Rattle.score_list.proofs.Ranges.{range_on, range_next, range_length}
use Rattle.score_list.proofs.Sortings.{sorted_without}
use Rattle.score_table.specs.declared.table.ScoreTable.{ScoreTable}
use Rattle.score_table.specs.Ranking.{ScoreMap, without_each}
use Rattle.score_table.specs.Scored.{IsScoreTable, IsChanged, Forgets, LeavesRange, scores, ranked, refs, seed_of, table_of}
use Rattle.score_table.proofs.Among.{Among, among_at, among_contained, contained_among, Follows, follows_without}
use Rattle.score_table.proofs.Edits.{taken_off, taken_ranked, changed_then}
use Rattle.score_table.proofs.Ranked.{all_apart}

-- ---- ranges of lists

-- a range that is one longer
pub range_more : {A : Type 0} (xs : List A) (from at next : ℕ) (d : A) → from ≤ at → at < length xs → next ≡ at + 1 → slice_range xs from next ≡ slice_range xs from at ++ get_or xs at d ∷ []
range_more xs from at next d begun inside one =
    let rest = drop from xs in
    let is : next - from ≡ (at - from) + 1 = omega (arith, begun, one) in
    let there : from + (at - from) ≡ at = omega (arith, begun) in
    ap (λ n. take n rest) is ∙ take_more rest (at - from) d (omega (arith, length-drop from xs, begun, inside))
    ∙ ap (λ (x : _). slice_range xs from at ++ x ∷ []) (get_or-drop from xs (at - from) d ∙ ap (λ n. get_or xs n d) there)

-- an empty range
pub range_none : {A : Type 0} (xs : List A) (from : ℕ) → slice_range xs from from ≡ []
range_none xs from = let none : from - from ≡ 0 = omega arith in ap (λ n. take n (drop from xs)) none

-- the last of some pairs leaves last
pub without_last : (map : ScoreMap) (keys : List Key) (key : Key) → without_each map (keys ++ key ∷ []) ≡ remove (without_each map keys) key.1
without_last map [] key = refl
without_last map (k ∷ keys) key = without_last (remove map k.1) keys key

-- ---- the walk

-- the cursor at the next rank
pub cursor_on : (to : Option (List Scored × ℕ)) (cursor : List Scored × ℕ) (xs : List Scored) (rank next : ℕ) → cursor ≡ (xs, rank) → next ≡ rank + 1
    → MatchOption to (cursor.1 + 1 ≡ length cursor.0) (λ c. IsCursor c cursor.0 (cursor.1 + 1)) → MatchOption to (length xs ≤ next) (λ c. IsCursor c xs next)
cursor_on to cursor xs rank next is one h = at_next to (subst (λ (c : List Scored × ℕ). MatchOption to (c.1 + 1 ≡ length c.0) (λ p. IsCursor p c.0 (c.1 + 1))) is h)
  where
    at_next : (o : Option (List Scored × ℕ)) → MatchOption o (rank + 1 ≡ length xs) (λ p. IsCursor p xs (rank + 1)) → MatchOption o (length xs ≤ next) (λ p. IsCursor p xs next)
    at_next None g = omega (arith, g, one)
    at_next (Some p) g = subst (IsCursor p xs) (sym one) g

-- none has left yet
pub range_begun : (m : Blocks) (t : Table ℤ) (list : List Scored) (from : ℕ) → IsScoreTable m (table_of t list)
    → LeavesRange m m (table_of t list) (table_of t (range_removed list from from)) from from
range_begun m t list from is =
    let s = table_of t list in
    subst (λ xs. LeavesRange m m s (table_of t xs) from from) (sym (take-append-drop from list)) (record {
      changed = subst (λ keys. IsChanged m m s s (without_each (scores m s) keys)) (sym (range_none (ranked m s) from)) (record {
        sound = is;
        scores_are = refl;
        changes = changes_same m (refs s) (key_refs_owned m t is.keyed);
        grown = grown_same (hash_of (seed_of s)) _ _ refl;
        seed = refl;
      });
      ranked_are = sym (take-append-drop from (ranked m s));
    })

module _ (first m : Blocks) (old : ScoreTable) (t : Table ℤ) (from at : ℕ) (x : Scored) (so_far : LeavesRange first m old (table_of t (range_removed old.list from at)) from at)
    (begun : from ≤ at) (inside : at < length old.list) (there : slice_get old.list at ≡ Some x) where
  -- the table without those that left
  abbrev now : ScoreTable
  now = table_of t (range_removed old.list from at)

  is : IsScoreTable m now
  is = so_far.changed.sound

  x_at : get_or now.list from no_element ≡ x
  x_at = range_next old.list from at no_element begun inside ∙ get_or_from_slice_get old.list at x no_element there

  some : from < length now.list
  some = omega (arith, range_length old.list from at begun (omega (arith, inside)), inside)

  among : Among now.list x
  among = subst (Among now.list) x_at (among_at now.list from some)

  -- the dictionary has it
  pub named : (i : ℕ) × Holds t i x.1 x.0
  named = is.agree.named x (contained_among now.list x among)

  module _ (n : Blocks) (table : Table ℤ) (next : ℕ) (one : next ≡ at + 1) (f : Forgets m n t table x.1) where
    among_gone : Among now.list (f.score, f.taken)
    among_gone = among_contained now.list (f.score, f.taken) (is.agree.listed f.removes.at (record { key = f.taken; hash = f.removes.hash; value = f.score }) f.removes.found)

    -- what left the dictionary is the element at the rank
    gone_is : x ≡ (f.score, f.taken)
    gone_is = all_apart m now is x (f.score, f.taken) among among_gone (ap (λ (o : Option (List ℕ)). unwrap_or o []) (f.held ∙ sym f.removes.bytes))

    step : without_at now.list from ≡ range_removed old.list from next
    step = range_on old.list from at next begun inside (omega (arith, one))

    follows : Follows now.list (range_removed old.list from next) (Some (f.score, f.taken)) None
    follows = subst (λ ys. Follows now.list ys (Some (f.score, f.taken)) None) step
        (follows_without m now.list is.sorted (f.score, f.taken) among_gone from some (ap (key_of m) (x_at ∙ gone_is)))

    sorted : IsSorted m (range_removed old.list from next)
    sorted = subst (IsSorted m) step (sorted_without m from now.list is.sorted)

    abbrev keys : List Key
    keys = ranked first old

    many : at < length keys
    many = omega (arith, length-map old.list (key_of first), inside)

    -- its key was that of this rank all along
    key_is : key_of m x ≡ get_or keys at (key_of m no_element)
    key_is = ap (key_of m) (sym x_at) ∙ sym (get_or-map (key_of m) now.list from no_element (key_of m no_element) some)
        ∙ ap (λ (ks : List Key). get_or ks from (key_of m no_element)) so_far.ranked_are ∙ range_next keys from at (key_of m no_element) begun many

    bytes_are : f.bytes ≡ (get_or keys at (key_of m no_element)).1
    bytes_are = ap (λ (o : Option (List ℕ)). unwrap_or o []) (sym f.held) ∙ ap (λ (k : Key). k.1) key_is

    map_is : remove (scores m now) f.bytes ≡ without_each (scores first old) (slice_range keys from next)
    map_is = ap (λ map. remove map f.bytes) so_far.changed.scores_are ∙ ap (remove (without_each (scores first old) (slice_range keys from at))) bytes_are
        ∙ sym (without_last (scores first old) (slice_range keys from at) (get_or keys at (key_of m no_element)))
        ∙ ap (without_each (scores first old)) (sym (range_more keys from at next (key_of m no_element) begun many one))

    -- one more has left
    pub range_left : LeavesRange first n old (table_of table (range_removed old.list from next)) from next
    range_left = record {
      changed = changed_then first m n old now (table_of table (range_removed old.list from next)) _ _ so_far.changed
          (subst (IsChanged m n now (table_of table (range_removed old.list from next))) map_is
          (taken_off m n now table (range_removed old.list from next) f.bytes f.taken f.score is f.removes f.given f.keyed sorted follows f.map_is f.grown));
      ranked_are = taken_ranked m n now table (range_removed old.list from next) f.bytes f.taken f.score is f.removes f.given f.keyed sorted follows
          ∙ ap (map (key_of m)) (sym step) ∙ map_without (key_of m) now.list from ∙ ap (λ ks. without_at ks from) so_far.ranked_are
          ∙ range_on keys from at next begun many (omega (arith, one));
    }
