-- Entries of one node between two ids.
use Rattle.std.proofs.Common.{◌≡◌, ◌∙◌, ℕ, zero, suc, ◌+◌, ◌<◌, ◌≤◌, Bool, true, false, List, [], ◌∷◌, ◌++◌, length, map, take, drop, get_or, refl, sym, ap, inl, inr, arith}
use Rattle.std.specs.Prelude.{not, ◌&&◌, if◌then◌else◌}
use Rattle.std.specs.List.{filter}
use Rattle.std.specs.Ordering.{nat_cmp, ordering_then, is_lt}
use Rattle.std.proofs.lemmas.Bool.{cases_lt, cond-false}
use Rattle.std.proofs.lemmas.List.{append-nil, append_assoc, map-append, take_at, take_all, take_more, take-append-drop, length-map, length-reverse}
use Rattle.std.proofs.lemmas.List.Elements.{filter-append}
use Rattle.stream_groups.specs.Groups.{id_cmp}
use Rattle.stream_node.specs.declared.id.Id.{Id}
use Rattle.stream_node.specs.declared.entry.Entry.{Entry}
use Rattle.stream_node.specs.Entry.{Stored, IsBelow}
use Rattle.stream_node.specs.View.{stored}
use Rattle.stream_node.proofs.Ids.{cmp_less, cmp_equal, cmp_greater}
use Rattle.plain_world.specs.Streams.{StreamEntry}
use Rattle.stream_object.specs.Parts.{plain, is_live, live_of}
use Rattle.stream_object.specs.Streams.{pair_of}
use Rattle.stream_object.specs.declared.owned.Owned.{Owned}
use Rattle.stream_object.specs.Ranges.{is_between, seen, taken, turned}
use Rattle.stream_object.proofs.Marking.{live_append, live_one_in_marking, live_none_in_marking}

-- the order of ids as pairs is that which a test says
lt_below : (a b : Id) → IsBelow a b → is_lt (id_cmp (pair_of a) (pair_of b)) ≡ true
lt_below a b (inl less) = ap (λ o. is_lt (ordering_then o (nat_cmp a.seq b.seq))) (cmp_less a.ms b.ms less)
lt_below a b (inr same) = ap (λ o. is_lt (ordering_then o (nat_cmp a.seq b.seq))) (cmp_equal a.ms b.ms same.0) ∙ ap is_lt (cmp_less a.seq b.seq same.1)

not_lt : (x y : ℕ) → y ≤ x → is_lt (nat_cmp x y) ≡ false
not_lt x y h = elim (cases_lt y x) [ inl more ↦ ap is_lt (cmp_greater x y more) | inr also ↦ ap is_lt (cmp_equal x y (omega arith)) ]

lt_upto : (a b : Id) → (IsBelow a b → ⊥) → is_lt (id_cmp (pair_of a) (pair_of b)) ≡ false
lt_upto a b none = elim (cases_lt a.ms b.ms) [
  | inl less ↦ absurd (none (inl less))
  | inr upto ↦ elim (cases_lt b.ms a.ms) [
    | inl more ↦ ap (λ o. is_lt (ordering_then o (nat_cmp a.seq b.seq))) (cmp_greater a.ms b.ms more)
    | inr also ↦ (let same : a.ms ≡ b.ms = omega arith in elim (cases_lt a.seq b.seq) [
      | inl less ↦ absurd (none (inr (same, less)))
      | inr rest ↦ ap (λ o. is_lt (ordering_then o (nat_cmp a.seq b.seq))) (cmp_equal a.ms b.ms same) ∙ not_lt a.seq b.seq rest
    ])
  ]
]

pub below_is : (a b : Id) (r : Bool) → (r ≡ true → IsBelow a b) → (IsBelow a b → r ≡ true) → is_lt (id_cmp (pair_of a) (pair_of b)) ≡ r
below_is a b true says back = lt_below a b (says refl)
below_is a b false says back = lt_upto a b (λ h. (let bad = back h in cc))

-- one entry among those that are picked, or not
one_picked : (from to : Id) (e : Stored) (b : Bool) → b ≡ (is_live e && is_between from to (plain e)) → filter (is_between from to) (live_of (e ∷ [])) ≡ (if b then plain e ∷ [] else [])
one_picked from to e b is = by_mark e.deleted refl
  where
    by_mark : (d : Bool) → e.deleted ≡ d → filter (is_between from to) (live_of (e ∷ [])) ≡ (if b then plain e ∷ [] else [])
    by_mark true gone =
        ap (filter (is_between from to)) (live_none_in_marking e gone)
        ∙ sym (cond-false b (plain e ∷ []) [] (is ∙ ap (λ d. not d && is_between from to (plain e)) gone))
    by_mark false live =
        ap (filter (is_between from to)) (live_one_in_marking e live)
        ∙ ap (λ t. if t then plain e ∷ [] else []) (sym (is ∙ ap (λ d. not d && is_between from to (plain e)) live))

-- the entries picked of those that a walk has passed
abbrev pub picked_of : Id → Id → List Entry → List StreamEntry
picked_of from to xs = filter (is_between from to) (live_of (map stored xs))

pub picked_more : (from to : Id) (xs : List Entry) (x : Entry) (b : Bool) → b ≡ (is_live (stored x) && is_between from to (seen x))
    → picked_of from to (xs ++ x ∷ []) ≡ picked_of from to xs ++ (if b then seen x ∷ [] else [])
picked_more from to xs x b is =
    ap (λ es. filter (is_between from to) (live_of es)) (map-append stored xs (x ∷ []))
    ∙ ap (filter (is_between from to)) (live_append (map stored xs) (stored x ∷ []))
    ∙ filter-append (is_between from to) (live_of (map stored xs)) (live_of (stored x ∷ []))
    ∙ ap (λ es. picked_of from to xs ++ es) (one_picked from to (stored x) b is)

-- taken one after the other until there are enough
pub taken_early : (old all now : List StreamEntry) (i limit : ℕ) → now ≡ old ++ take i all → length now ≡ limit → now ≡ take limit (old ++ all)
taken_early old all now i limit is full =
    sym (ap (λ es. take limit (old ++ es)) (sym (take-append-drop i all))
    ∙ ap (take limit) (sym (append_assoc old (take i all) (drop i all)))
    ∙ take_at (old ++ take i all) (drop i all) limit (ap length (sym is) ∙ full)
    ∙ sym is)

pub taken_all : (old all now : List StreamEntry) (i limit : ℕ) → now ≡ old ++ take i all → length all ≤ i → length now ≤ limit → now ≡ take limit (old ++ all)
taken_all old all now i limit is end within =
    let whole : now ≡ old ++ all = is ∙ ap (λ es. old ++ es) (take_all i all end) in
    whole ∙ sym (take_all limit (old ++ all) (omega (arith, ap length whole, within)))

-- an entry that is below the lower id isn't picked, and of the others one that isn't above the upper id
module _ (from to : Id) (e : Stored) where
  pub is_out : (id : Id) → id ≡ e.id → (r : Bool) → (r ≡ true → IsBelow id from) → (IsBelow id from → r ≡ true) → r ≡ true → false ≡ (is_live e && is_between from to (plain e))
  is_out id same r says back is =
      sym (ap (λ b. is_live e && (not b && not (is_lt (id_cmp (pair_of to) (pair_of e.id)))))
      (sym (ap (λ (i : Id). is_lt (id_cmp (pair_of i) (pair_of from))) same) ∙ below_is id from r says back ∙ is) ∙ and_false (is_live e))
    where
      and_false : (b : Bool) → (b && false) ≡ false
      and_false true = refl
      and_false false = refl

  pub is_in : e.deleted ≡ false → (id : Id) → id ≡ e.id → (r : Bool) → (r ≡ true → IsBelow id from) → (IsBelow id from → r ≡ true) → r ≡ false
      → (s : Bool) → (s ≡ true → IsBelow to id) → (IsBelow to id → s ≡ true) → not s ≡ (is_live e && is_between from to (plain e))
  is_in live id same r says back out s tells also =
      sym (ap (λ d. not d && is_between from to (plain e)) live
      ∙ ap (λ b. not b && not (is_lt (id_cmp (pair_of to) (pair_of e.id)))) (sym (ap (λ (i : Id). is_lt (id_cmp (pair_of i) (pair_of from))) same) ∙ below_is id from r says back ∙ out)
      ∙ ap not (sym (ap (λ (i : Id). is_lt (id_cmp (pair_of to) (pair_of i))) same) ∙ below_is to id s tells also))

pub length_turned : (back : Bool) (es : List StreamEntry) → length (turned back es) ≡ length es
length_turned false es = refl
length_turned true es = length-reverse es

seen_at : (xs : List Entry) (i : ℕ) (e : Entry) → get_or (map seen xs) i (seen e) ≡ seen (get_or xs i e)
seen_at [] i e = refl
seen_at (x ∷ xs) zero e = refl
seen_at (x ∷ xs) (suc i) e = seen_at xs i e

pub one_more_taken : (back : Bool) (picked : List Entry) (before : List StreamEntry) (found now : List Owned) (o : Owned) (e : Entry) (index place : ℕ)
    → map taken found ≡ before ++ take index (turned back (map seen picked)) → now ≡ found ++ o ∷ [] → taken o ≡ seen e → e ≡ get_or picked place e
    → get_or (turned back (map seen picked)) index (seen e) ≡ get_or (map seen picked) place (seen e) → index < length picked
    → map taken now ≡ before ++ take (index + 1) (turned back (map seen picked))
one_more_taken back picked before found now o e index place is more same at turn inside =
    let all = turned back (map seen picked) in
    let within : index < length all = omega (arith, inside, length_turned back (map seen picked), length-map picked seen) in
    ap (map taken) more ∙ map-append taken found (o ∷ [])
    ∙ (λ i. is i ++ (same ∙ ap seen at ∙ sym (seen_at picked place e) ∙ sym turn) i ∷ [])
    ∙ append_assoc before (take index all) (get_or all index (seen e) ∷ [])
    ∙ ap (λ es. before ++ es) (sym (take_more all index (seen e) within))

-- taken in their order, of the entries that a walk has passed
module _ (from to : Id) (xs : List Entry) (old now : List StreamEntry) (is : now ≡ old ++ picked_of from to xs) where
  -- with one more
  pub forth_more : (found more : List Owned) (o : Owned) (x : Entry) (b : Bool) → map taken found ≡ now → more ≡ found ++ o ∷ [] → taken o ≡ seen x
      → b ≡ (is_live (stored x) && is_between from to (seen x)) → b ≡ true
      → map taken more ≡ old ++ picked_of from to (xs ++ x ∷ [])
  forth_more found more o x b here one same test holds =
      ap (map taken) one ∙ map-append taken found (o ∷ [])
      ∙ (λ i. (here ∙ is) i ++ same i ∷ [])
      ∙ append_assoc old (picked_of from to xs) (seen x ∷ [])
      ∙ ap (λ es. old ++ es) (sym (picked_more from to xs x b test ∙ ap (λ t. picked_of from to xs ++ (if t then seen x ∷ [] else [])) holds))

  -- one that isn't picked
  pub forth_same : (x : Entry) (b : Bool) → b ≡ (is_live (stored x) && is_between from to (seen x)) → b ≡ false → now ≡ old ++ picked_of from to (xs ++ x ∷ [])
  forth_same x b test fails =
      is ∙ ap (λ es. old ++ es) (sym (picked_more from to xs x b test ∙ ap (λ t. picked_of from to xs ++ (if t then seen x ∷ [] else [])) fails ∙ append-nil (picked_of from to xs)))

  -- there are enough
  pub forth_full : (left all : List Stored) (limit : ℕ) → map stored xs ++ left ≡ all → length now ≡ limit → now ≡ take limit (old ++ filter (is_between from to) (live_of all))
  forth_full left all limit joined full =
      let more = filter (is_between from to) (live_of left) in
      let split : filter (is_between from to) (live_of all) ≡ picked_of from to xs ++ more =
      ap (λ es. filter (is_between from to) (live_of es)) (sym joined) ∙ ap (filter (is_between from to)) (live_append (map stored xs) left)
      ∙ filter-append (is_between from to) (live_of (map stored xs)) (live_of left) in
      sym (ap (λ es. take limit (old ++ es)) split
      ∙ ap (take limit) (sym (append_assoc old (picked_of from to xs) more))
      ∙ take_at (old ++ picked_of from to xs) more limit (ap length (sym is) ∙ full)
      ∙ sym is)

  -- all are passed
  pub forth_all : (all : List Stored) (limit : ℕ) → map stored xs ≡ all → length now ≤ limit → now ≡ take limit (old ++ filter (is_between from to) (live_of all))
  forth_all all limit passed within =
      let whole : now ≡ old ++ filter (is_between from to) (live_of all) = is ∙ ap (λ es. old ++ filter (is_between from to) (live_of es)) passed in
      whole ∙ sym (take_all limit (old ++ filter (is_between from to) (live_of all)) (omega (arith, ap length whole, within)))
