-- The members of a sorted set with their scores, one behind the other.
use Rattle.std.proofs.Common.{◌≡◌, ◌⊎◌, inl, inr, ℕ, zero, suc, Less, ◌<◌, ◌≤◌, ◌^◌, ℤ, pos, negsuc, List, [], ◌∷◌, ◌++◌, length, map, get_or, Option, Some, None, refl, sym, ap, subst, ◌∙◌, arith}
use Rattle.std.proofs.lemmas.Bool.{cases_Bool, cond-true, cond-false}
use Rattle.std.proofs.lemmas.List.{append-nil, map_push}
use Rattle.std.specs.Prelude.{is_none, slice_get, Contains, unsigned_abs}
use Rattle.std.specs.Ordering.{nat_cmp}
use Rattle.std.specs.Cmp.Lexicographic.{slice_cmp, nat_list_cmp_total}
use Rattle.std.specs.FinMap.Entries.{find}
use Rattle.std.specs.FinMap.{get, len, insert, from_entries, from_entries_push, get-from_entries, slice_cmp-IsAntisymmetric, nat_cmp-IsAntisymmetric}
use Rattle.blocks.specs.Blocks.{Blocks}
use Rattle.plain_world.specs.Worlds.{SortedOf}
use Rattle.plain_world.proofs.Maps.{maps_alike}
use Rattle.fit_worlds.specs.Fit.{IsShort, IsScore, IsFitValue}
use Rattle.pack_pairs.proofs.Maps.{tied, tied_true, tied_same}
use Rattle.score_list.specs.Sorted.{Key, key_cmp}
use Rattle.score_table.specs.Ranking.{ScoreMap, Leads, IsOrdered, IsRanking}
use Rattle.score_table.proofs.Among.{less_differs}
use Rattle.zset_object.specs.Orders.{entry_of, map_of_keys}
use Rattle.zset_object.specs.declared.scored.Scored.{Scored}
use Rattle.zset_object.specs.Scored.{IsScored, ranked, scores}
use Rattle.zset_object.proofs.Depends.{scored_laws_hold}
use Rattle.zset_object.proofs.Listed.{get_within, at_contained}
use Rattle.rdb_grammar.specs.declared.values.Collection.TheVariants as of
use Rattle.rdb_grammar.specs.Codes as code
use Rattle.rdb_grammar.specs.Elements.{with_one}
use Rattle.rdb_grammar.specs.Items as items
use Rattle.rdb_parts.specs.Words.{string_word, key_word}
use Rattle.rdb_parts.specs.ScoreWords.{score_word}
use Rattle.rdb_parts.proofs.Spelled.{string_spelled}
use Rattle.rdb_parts.proofs.Scored.{score_spelled}
use Rattle.rdb_writer.specs.Collections.{member_word, members_word, counted_members}
use Rattle.rdb_writer.proofs.Spelling.{turns_spelled, collection_spelled}

-- the magnitude of a score that can be written
pub magnitude : (score : ℤ) → IsScore score → unsigned_abs score ≤ 2 ^ 53
magnitude (pos n) low = low
magnitude (negsuc n) low = omega (arith, low)

-- ---- which members stand in a list

-- the list has the score with its member
abbrev Has : List Key → Key → Type 0
Has [] key = ⊥
Has (x ∷ xs) key = (x ≡ key) ⊎ Has xs key

has_contained : (xs : List Key) (key : Key) → Contains xs key → Has xs key
has_contained xs key h = at xs h.0 h.1 h.2
  where
    at : (xs : List Key) (n : ℕ) → n < length xs → get_or xs n key ≡ key → Has xs key
    at [] n below is = absurd (omega (arith, below))
    at (x ∷ xs) zero below is = inl is
    at (x ∷ xs) (suc n) below is = inr (at xs n (omega (arith, below)) is)

contained_has : (xs : List Key) (key : Key) → Has xs key → Contains xs key
contained_has [] key h = absurd h
contained_has (x ∷ xs) key (inl e) = (0, omega arith, e)
contained_has (x ∷ xs) key (inr h) = (let p = contained_has xs key h in (suc p.0, omega (arith, p.1), p.2))

has_middle : (front : List Key) (key : Key) (back : List Key) → Has (front ++ (key ∷ back)) key
has_middle [] key back = inl refl
has_middle (x ∷ xs) key back = inr (has_middle xs key back)

has_front : (front back : List Key) (key : Key) → Has front key → Has (front ++ back) key
has_front [] back key h = absurd h
has_front (x ∷ xs) back key (inl e) = inl e
has_front (x ∷ xs) back key (inr h) = inr (has_front xs back key h)

leads_has : (x : Key) (xs : List Key) (key : Key) → Leads x xs → Has xs key → key_cmp x key ≡ Less
leads_has x [] key l h = absurd h
leads_has x (y ∷ ys) key l (inl e) = ap (key_cmp x) (sym e) ∙ l.0
leads_has x (y ∷ ys) key l (inr h) = leads_has x ys key l.1 h

-- in order, one that stands behind others isn't among them
ordered_apart : (front : List Key) (key : Key) (back : List Key) → IsOrdered (front ++ (key ∷ back)) → Has front key → ⊥
ordered_apart [] key back o h = h
ordered_apart (x ∷ xs) key back o (inl e) = less_differs x key (leads_has x (xs ++ (key ∷ back)) key o.0 (has_middle xs key back)) e
ordered_apart (x ∷ xs) key back o (inr h) = ordered_apart xs key back o.1 h

-- ---- what a list's map has

abbrev found : List ℕ → List Key → Option ℤ
found member keys = find (slice_cmp nat_cmp) member (map entry_of keys)

found_has : (keys : List Key) (member : List ℕ) (score : ℤ) → found member keys ≡ Some score → Has keys (score, member)
found_has [] member score is = absurd cc
found_has (k ∷ keys) member score is = elim (cases_Bool (tied member k.1)) [
  | inl same ↦ let e : Some k.0 ≡ Some score = sym (cond-true _ _ _ same) ∙ is in let score_is : k.0 ≡ score = cc in inl (λ i. (score_is i, sym (tied_true member k.1 same) i))
  | inr other ↦ inr (found_has keys member score (sym (cond-false _ _ _ other) ∙ is))
]

has_found : (keys : List Key) (member : List ℕ) (score : ℤ) → Has keys (score, member) → found member keys ≡ None → ⊥
has_found [] member score h none = h
has_found (k ∷ keys) member score (inl e) none =
    let bad : Some k.0 ≡ None = sym (cond-true _ _ _ (tied_same member k.1 (ap (λ (x : Key). x.1) (sym e)))) ∙ none in cc
has_found (k ∷ keys) member score (inr h) none = elim (cases_Bool (tied member k.1)) [
  | inl same ↦ let bad : Some k.0 ≡ None = sym (cond-true _ _ _ same) ∙ none in absurd cc
  | inr other ↦ has_found keys member score h (sym (cond-false _ _ _ other) ∙ none)
]

lacks_found : (keys : List Key) (member : List ℕ) → ((score : ℤ) → Has keys (score, member) → ⊥) → found member keys ≡ None
lacks_found keys member none = by (found member keys) refl
  where
    by : (o : Option ℤ) → found member keys ≡ o → found member keys ≡ None
    by None is = is
    by (Some score) is = absurd (none score (found_has keys member score is))

module _ (scored : ScoreMap) (all : List Key) (ranking : IsRanking scored all) where
  has_score : (key : Key) → Has all key → get scored key.1 ≡ Some key.0
  has_score key h = (ranking.pairs key).0 (contained_has all key h)

  -- the map of all of them is that of the sorted set
  all_found : map_of_keys all ≡ scored
  all_found = maps_alike (map_of_keys all) scored (λ q. get-from_entries nat_list_cmp_total (map entry_of all) q ∙ by q (found q all) refl)
    where
      lacked : (q : List ℕ) (o : Option ℤ) → get scored q ≡ o → found q all ≡ None → None ≡ o
      lacked q None is none = refl
      lacked q (Some score) is none = absurd (has_found all q score (has_contained all (score, q) ((ranking.pairs (score, q)).1 is)) none)

      by : (q : List ℕ) (o : Option ℤ) → found q all ≡ o → found q all ≡ get scored q
      by q None none = none ∙ lacked q (get scored q) refl none
      by q (Some score) is = is ∙ sym (has_score (score, q) (found_has all q score is))

  module _ (front : List Key) (x : Key) (back : List Key) (is : front ++ (x ∷ back) ≡ all) where
    -- no score before it is that of the member
    apart : found x.1 front ≡ None
    apart = lacks_found front x.1 (λ score h.
        let other : get scored x.1 ≡ Some score = has_score (score, x.1) (subst (λ l. Has l (score, x.1)) is (has_front front (x ∷ back) (score, x.1) h)) in
        let own : get scored x.1 ≡ Some x.0 = has_score x (subst (λ l. Has l x) is (has_middle front x back)) in
        let same : score ≡ x.0 = (let e : Some score ≡ Some x.0 = sym other ∙ own in cc) in
        ordered_apart front x back (subst IsOrdered (sym is) ranking.ordered) (subst (λ (n : ℤ). Has front (n, x.1)) same h))

    pushed : map_of_keys (front ++ x ∷ []) ≡ insert (map_of_keys front) x.1 x.0
    pushed = ap from_entries (map_push entry_of front x)
        ∙ from_entries_push nat_list_cmp_total (slice_cmp-IsAntisymmetric nat_cmp-IsAntisymmetric) (map entry_of front) x.1 x.0 apart

    -- what each member of a fit sorted set has
    module _ (each : (member : List ℕ) (score : ℤ) → get scored member ≡ Some score → IsShort member × IsScore score) where
      fits : IsShort x.1 × IsScore x.0
      fits = each x.1 x.0 (has_score x (subst (λ l. Has l x) is (has_middle front x back)))

      one : (with_one (SortedOf (map_of_keys front))).Spells (SortedOf (map_of_keys (front ++ x ∷ []))) (member_word x)
      one =
          let a = string_word x.1 in
          let b = score_word x.0 in (
            x.1,
            a,
            b,
            refl,
            (string_spelled x.1 fits.0, ap is_none (get-from_entries nat_list_cmp_total (map entry_of front) x.1 ∙ apart)),
            (x.0, b, [], sym (append-nil b), score_spelled x.0 (magnitude x.0 fits.1), (ap SortedOf pushed, refl)),
          )

-- so many members stand in order
pub ranked_count : (m : Blocks) (scored : Scored) → IsScored m scored → length (ranked m scored) ≡ len (scores m scored)
ranked_count m scored sound = scored_laws_hold.counted m scored sound

-- the score that stands at a rank of a fit sorted set
pub score_fit : (m : Blocks) (scored : Scored) → IsScored m scored → IsFitValue (SortedOf (scores m scored)) → (rank : ℕ) (score : ℤ) (member : List ℕ)
    → slice_get (ranked m scored) rank ≡ Some (score, member) → IsScore score
score_fit m scored sound fit rank score member there =
    let keys = ranked m scored in
    let key : Key = (score, member) in
    let c : Contains keys key = (rank, get_within keys rank key there, at_contained keys rank key there) in
    (fit.1 member score (((scored_laws_hold.ranking m scored sound).pairs key).0 c)).1

-- a key with a sorted set
pub scored_spelled : (m : Blocks) (scored : Scored) (name : List ℕ) → IsScored m scored → IsShort name → IsFitValue (SortedOf (scores m scored)) → length (ranked m scored) < 2 ^ 64
    → items.item.Spells (items.Key name (SortedOf (scores m scored))) (key_word code.sorted_set name (counted_members (ranked m scored)))
scored_spelled m scored name sound short fit few =
    let keys = ranked m scored in
    let ranking : IsRanking (scores m scored) keys = scored_laws_hold.ranking m scored sound in
    subst (λ s. items.item.Spells (items.Key name (SortedOf s)) (key_word code.sorted_set name (counted_members keys))) (all_found (scores m scored) keys ranking)
    (collection_spelled code.sorted_set of.SortedSet name (length keys) (SortedOf (map_of_keys keys)) (members_word keys) short few (λ rest s. s)
    (turns_spelled member_word (λ l. SortedOf (map_of_keys l)) keys (λ front x back is. one (scores m scored) keys ranking front x back is fit.1)))
