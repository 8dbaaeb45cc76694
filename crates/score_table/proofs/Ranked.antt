-- The list of the scores and members of a table, and the map of them.
use Rattle.std.proofs.Common.{◌≡◌, ◌≢◌, ◌⊎◌, inl, inr, ℕ, ◌+◌, ◌<◌, ◌≤◌, zero, suc, ℤ, List, [], ◌∷◌, length, map, get_or, Option, Some, None, IsSome, is_some, cond, unwrap_or, refl, sym}
use Rattle.std.proofs.Common.{ap, ◌∙◌, subst, arith, Less}
use Rattle.std.specs.Prelude.{Contains, IfSome, IfNone, MatchOption, slice_get}
use Rattle.std.specs.FinMap.{empty, get, insert, len, len-insert, len-empty, get-empty}
use Rattle.std.specs.Ordering.{nat_cmp}
use Rattle.std.specs.Cmp.Lexicographic.{slice_cmp, nat_list_cmp_total}
use Rattle.blocks.specs.declared.BlockRef.{BlockRef}
use Rattle.blocks.specs.Blocks.{Blocks, bytes_at}
use Rattle.rehash_dict.specs.Table.{Element, item}
use Rattle.rehash_dict.specs.Steps.{Holds}
use Rattle.rehash_dict.specs.MapOf.{value_of}
use Rattle.rehash_dict.proofs.Keys.{live_bytes}
use Rattle.rehash_dict.proofs.MapOf.{cases_key, map_of_stands, map_of_lacks, map_of_has}
use Rattle.score_list.specs.Linked.{Element as Scored, no_element}
use Rattle.score_list.specs.Sorted.{Key, key_of, key_cmp, AllBehind, IsSorted, Misses, HasAt}
use Rattle.score_list.proofs.Sortings.{keys_total}
use Rattle.score_table.specs.declared.table.ScoreTable.{ScoreTable}
use Rattle.score_table.specs.Ranking.{ScoreMap, Leads, IsOrdered, IsRanking}
use Rattle.score_table.specs.Scored.{IsScoreTable, IsArranged, RanksAt, Names, scores, ranked, pair_of, pair_at}
use Rattle.score_table.proofs.Bytes.{maps_alike, cases_put}
use Rattle.score_table.proofs.Among.{Among, among_contained, contained_among, behind_among, less_differs, missed}

-- ---- the map of a list

module _ (m : Blocks) where
  -- from the bytes of each element's member to its score
  abbrev map_in : List Scored → ScoreMap
  map_in [] = empty
  map_in (x ∷ xs) = insert (map_in xs) (bytes_at m x.1) x.0

  -- elements with the same bytes are one
  abbrev pub AreApart : List Scored → Type 0
  AreApart xs = (x y : Scored) → Among xs x → Among xs y → bytes_at m x.1 ≡ bytes_at m y.1 → x ≡ y

  -- where elements with the same bytes are one, this holds behind the first element too
  apart_behind : (x : Scored) (xs : List Scored) → AreApart (x ∷ xs) → AreApart xs
  apart_behind x xs a y z h g = a y z (inr h) (inr g)

  -- the map of a list has nothing for bytes that the member of no element has
  in_none : (xs : List Scored) (q : List ℕ) → ((x : Scored) → Among xs x → bytes_at m x.1 ≢ q) → get (map_in xs) q ≡ None
  in_none [] q out = get-empty (slice_cmp nat_cmp) q
  in_none (x ∷ xs) q out = elim (cases_put (map_in xs) (bytes_at m x.1) x.0 q) [
    | inl here ↦ absurd (out x (inl refl) (sym here.0))
    | inr other ↦ other.1 ∙ in_none xs q (λ y h. out y (inr h))
  ]

  -- where elements with the same bytes are one, the map of a list has the score of each
  in_some : (xs : List Scored) (y : Scored) → AreApart xs → Among xs y → get (map_in xs) (bytes_at m y.1) ≡ Some y.0
  in_some [] y a h = absurd h
  in_some (x ∷ xs) y a h = elim (cases_put (map_in xs) (bytes_at m x.1) x.0 (bytes_at m y.1)) [
    | inl here ↦ here.1 ∙ ap (λ (z : Scored). Some z.0) (a x y (inl refl) h (sym here.0))
    | inr other ↦ other.1 ∙ in_some xs y (apart_behind x xs a) (elim h [ inl e ↦ absurd (other.0 (ap (λ (z : Scored). bytes_at m z.1) (sym e))) | inr g ↦ g ])
  ]

  -- the map of a sorted list in which elements with the same bytes are one has as many members as the list
  many : (xs : List Scored) → IsSorted m xs → AreApart xs → len (map_in xs) ≡ length xs
  many [] s a = len-empty (slice_cmp nat_cmp) ℤ
  many (x ∷ xs) s a =
      let none : get (map_in xs) (bytes_at m x.1) ≡ None = in_none xs (bytes_at m x.1)
      (λ y h same. less_differs (key_of m x) (key_of m y) (behind_among m (key_of m x) xs y s.1 h) (ap (key_of m) (a x y (inl refl) (inr h) (sym same)))) in
      len-insert nat_list_cmp_total (map_in xs) (bytes_at m x.1) x.0 ∙ ap (λ o. cond (is_some o) (len (map_in xs)) (len (map_in xs) + 1)) none
      ∙ (let rest = many xs s.2 (apart_behind x xs a) in omega (arith, rest))

module _ (m : Blocks) (s : ScoreTable) (is : IsScoreTable m s) where
  -- an element of the list in the dictionary
  element_in : (x : Scored) → Among s.list x → (at : ℕ) × Holds s.table at x.1 x.0
  element_in x h = is.agree.named x (contained_among s.list x h)

  -- the block of each element of the list is live
  pub listed_live : (x : Scored) → Among s.list x → m x.1 ≡ Some (bytes_at m x.1)
  listed_live x h = let p = element_in x h in live_bytes m x.1 (is.keyed.live p.0 (record { key = x.1; hash = p.1.hash; value = x.0 }) p.1.found)

  -- elements of the list whose members have the same bytes are one
  pub all_apart : AreApart m s.list
  all_apart x y h g same =
      let p = element_in x h in
      let q = element_in y g in
      let e : Element ℤ = record { key = x.1; hash = p.1.hash; value = x.0 } in
      let f : Element ℤ = record { key = y.1; hash = q.1.hash; value = y.0 } in
      let here : p.0 ≡ q.0 = is.keyed.apart p.0 q.0 e f p.1.found q.1.found (listed_live x h ∙ ap Some same ∙ sym (listed_live y g)) in
      ap (λ (d : Element ℤ). let z : Scored = (d.value, d.key) in z) (some_same (item s.table q.0) e f (ap (item s.table) (sym here) ∙ p.1.found) q.1.found)
    where
      some_same : (o : Option (Element ℤ)) (a b : Element ℤ) → o ≡ Some a → o ≡ Some b → a ≡ b
      some_same o a b h k = cc

  -- the score of each element of the list is the one that its member has
  pub listed_score : (x : Scored) → Among s.list x → get (scores m s) (bytes_at m x.1) ≡ Some x.0
  listed_score x h = let p = element_in x h in map_of_stands m (λ (v : ℤ). v) s.table p.0 (record { key = x.1; hash = p.1.hash; value = x.0 }) (bytes_at m x.1) is.keyed p.1.found (listed_live x h)

  -- the element of a member with a score
  pub among_score : (q : List ℕ) (v : ℤ) → get (scores m s) q ≡ Some v → (x : Scored) × Among s.list x × (key_of m x ≡ (v, q))
  among_score q v has =
      let p = map_of_has m (λ (v : ℤ). v) s.table q v is.keyed has in
      let e = p.0.element in
      let x : Scored = (e.value, e.key) in
      (x, among_contained s.list x (is.agree.listed p.0.at e p.0.found), key_is p.1 (ap (λ (o : Option (List ℕ)). unwrap_or o []) p.0.bytes))
    where
      key_is : {a v : ℤ} {b q : List ℕ} → a ≡ v → b ≡ q → ◌≡◌ {A = Key} (a, b) (v, q)
      key_is h g = cc

  -- the map of the list is the map of the scores
  same_map_in : map_in m s.list ≡ scores m s
  same_map_in = maps_alike (map_in m s.list) (scores m s) (λ q. elim (cases_key m s.table q is.keyed) [
    | inl sp ↦
        let x : Scored = (sp.element.value, sp.element.key) in
        let bytes : bytes_at m x.1 ≡ q = ap (λ (o : Option (List ℕ)). unwrap_or o []) sp.bytes in
        ap (get (map_in m s.list)) (sym bytes) ∙ in_some m s.list x all_apart (among_contained s.list x (is.agree.listed sp.at sp.element sp.found))
        ∙ sym (map_of_stands m (λ (v : ℤ). v) s.table sp.at sp.element q is.keyed sp.found sp.bytes)
    | inr lacks ↦
        in_none m s.list q (λ x h same. let p = element_in x h in lacks.each p.0 (record { key = x.1; hash = p.1.hash; value = x.0 }) p.1.found (listed_live x h ∙ ap Some same))
        ∙ sym (map_of_lacks m (λ (v : ℤ). v) s.table q is.keyed lacks)
  ])

  -- the list has as many elements as there are members
  pub counted : length s.list ≡ len (scores m s)
  counted = sym (many m s.list is.sorted all_apart) ∙ ap len same_map_in

-- ---- what stands at a rank

-- the element at a rank of a sorted list has the key at that rank, and there is none only from the length on
names_at : (m : Blocks) (xs : List Scored) (n : ℕ) → IsSorted m xs → MatchOption (slice_get xs n) (length xs ≤ n) (λ pair. Names m pair (slice_get (map (key_of m) xs) n))
names_at m [] n s = omega arith
names_at m (x ∷ xs) zero s = record { live = s.0; same = refl }
names_at m (x ∷ xs) (suc n) s = more (slice_get xs n) (names_at m xs n s.2)
  where
    more : (o : Option Scored) → MatchOption o (length xs ≤ n) (λ pair. Names m pair (slice_get (map (key_of m) xs) n))
        → MatchOption o (length (x ∷ xs) ≤ suc n) (λ pair. Names m pair (slice_get (map (key_of m) xs) n))
    more None h = omega (arith, h)
    more (Some y) h = h

-- the element at a rank has the pair at that rank, and there is none only from the number of members on
pub rank_names : (m : Blocks) (s : ScoreTable) (n : ℕ) → IsScoreTable m s → MatchOption (slice_get s.list n) (len (scores m s) ≤ n) (λ pair. Names m pair (slice_get (ranked m s) n))
rank_names m s n is = subst (λ k. MatchOption (slice_get s.list n) (k ≤ n) (λ pair. Names m pair (slice_get (ranked m s) n))) (counted m s is) (names_at m s.list n is.sorted)

-- the key at a rank below the length is that of the element there
key_at : (m : Blocks) (xs : List Scored) (n : ℕ) → n < length xs → slice_get (map (key_of m) xs) n ≡ Some (key_of m (get_or xs n no_element))
key_at m [] n lt = absurd (omega (arith, lt))
key_at m (x ∷ xs) zero lt = refl
key_at m (x ∷ xs) (suc n) lt = key_at m xs n (omega (arith, lt))

-- a member's rank, looked for by its score
pub ranks_at : (m : Blocks) (s : ScoreTable) (q : List ℕ) (v : ℤ) (place : ℕ) (o : Option ℕ) → IsScoreTable m s → get (scores m s) q ≡ Some v
    → IfSome o (λ rank. (rank ≡ place) × HasAt m (v, q) s.list rank) → IfNone o (Misses m (v, q) s.list)
    → MatchOption o (get (scores m s) q ≡ None) (λ rank. RanksAt m s q rank)
ranks_at m s q v place (Some rank) is has found none = record { score = v; has = has; there = key_at m s.list rank found.1.0 ∙ ap Some found.1.1 }
ranks_at m s q v place None is has found none = absurd (let p = among_score m s is q v has in missed m (v, q) s.list p.0 none p.1 p.2)

-- ---- what an item number has

-- the block and the value of an item number are the pair of that item number
pub item_names : (m : Blocks) (s : ScoreTable) (at : ℕ) (key : BlockRef) (shown v : ℤ) → IsScoreTable m s → Holds s.table at key shown → value_of (item s.table at) ≡ Some v
    → Names m (v, key) (pair_at m s at)
item_names m s at key shown v is h value =
    let e : Element ℤ = record { key = key; hash = h.hash; value = shown } in
    let same : shown ≡ v = some_same shown v (ap value_of (sym h.found) ∙ value) in
    record { live = is.keyed.live at e h.found; same = ap (pair_of m) h.found ∙ ap (λ w. let k : Key = (w, bytes_at m key) in Some k) same }
  where
    some_same : (a b : ℤ) → Some a ≡ Some b → a ≡ b
    some_same a b h = cc

-- the element that a pair is read off
pair_some : (m : Blocks) (o : Option (Element ℤ)) (v : ℤ) (q : List ℕ) → pair_of m o ≡ Some (v, q) → (e : Element ℤ) × (o ≡ Some e) × (e.value ≡ v) × (bytes_at m e.key ≡ q)
pair_some m None v q h = cc
pair_some m (Some e) v q h = let same = some_same (e.value, bytes_at m e.key) (v, q) h in (e, refl, ap (λ (k : Key). k.0) same, ap (λ (k : Key). k.1) same)
  where
    some_same : (a b : Key) → Some a ≡ Some b → a ≡ b
    some_same a b h = cc

-- each member has exactly one item number, and its score there
pub items_arranged : (m : Blocks) (s : ScoreTable) → IsScoreTable m s → IsArranged m s
items_arranged m s is = record {
  found = λ v q has. (let p = map_of_has m (λ (v : ℤ). v) s.table q v is.keyed has in
      (p.0.at, ap (pair_of m) p.0.found ∙ key_same p.1 (ap (λ (o : Option (List ℕ)). unwrap_or o []) p.0.bytes)));
  pair = λ at v q h. (let p = pair_some m (item s.table at) v q h in
      map_of_stands m (λ (v : ℤ). v) s.table at p.0 q is.keyed p.1 (bytes at p.0 q p.1 p.3) ∙ ap Some p.2);
  apart = λ at other v w q h g. (let p = pair_some m (item s.table at) v q h in let r = pair_some m (item s.table other) w q g in
      is.keyed.apart at other p.0 r.0 p.1 r.1 (bytes at p.0 q p.1 p.3 ∙ sym (bytes other r.0 q r.1 r.3)));
  below = λ at h. is.keyed.placed.below at (there at (item s.table at) refl h);
}
  where
    key_same : {a v : ℤ} {b q : List ℕ} → a ≡ v → b ≡ q → ◌≡◌ {A = Option Key} (Some (a, b)) (Some (v, q))
    key_same h g = cc

    bytes : (at : ℕ) (e : Element ℤ) (q : List ℕ) → item s.table at ≡ Some e → bytes_at m e.key ≡ q → m e.key ≡ Some q
    bytes at e q found same = live_bytes m e.key (is.keyed.live at e found) ∙ ap Some same

    there : (at : ℕ) (o : Option (Element ℤ)) → item s.table at ≡ o → IsSome (pair_of m o) → IsSome (item s.table at)
    there at None e h = cc
    there at (Some x) e h = subst (λ o. IsSome o) (sym e) refl

-- ---- the one list of a map

-- the list has the pair
abbrev Has : List Key → Key → Type 0
Has [] k = ⊥
Has (x ∷ xs) k = (x ≡ k) ⊎ Has xs k

-- a pair that a list contains at an index is one that it has
has_contained : (xs : List Key) (k : Key) → Contains xs k → Has xs k
has_contained xs k h = at xs h.0 h.1 h.2
  where
    at : (xs : List Key) (n : ℕ) → n < length xs → get_or xs n k ≡ k → Has xs k
    at [] n lt is = absurd (omega arith)
    at (y ∷ ys) zero lt is = inl is
    at (y ∷ ys) (suc n) lt is = inr (at ys n (omega (arith, lt)) is)

-- a pair that a list has is contained in it at an index
contained_has : (xs : List Key) (k : Key) → Has xs k → Contains xs k
contained_has [] k h = absurd h
contained_has (y ∷ ys) k (inl e) = (0, omega arith, e)
contained_has (y ∷ ys) k (inr h) = (let p = contained_has ys k h in (suc p.0, omega (arith, p.1), p.2))

-- a pair that stands before all of a list is less than each pair that the list has
leads_has : (x : Key) (xs : List Key) (k : Key) → Leads x xs → Has xs k → key_cmp x k ≡ Less
leads_has x [] k l h = absurd h
leads_has x (y ∷ ys) k l (inl e) = ap (key_cmp x) (sym e) ∙ l.0
leads_has x (y ∷ ys) k l (inr h) = leads_has x ys k l.1 h

-- two lists in order that have the same pairs are the same
same_ordered : (xs ys : List Key) → IsOrdered xs → IsOrdered ys → ((k : Key) → Has xs k → Has ys k) → ((k : Key) → Has ys k → Has xs k) → xs ≡ ys
same_ordered [] [] o p forth back = refl
same_ordered [] (y ∷ ys) o p forth back = absurd (back y (inl refl))
same_ordered (x ∷ xs) [] o p forth back = absurd (forth x (inl refl))
same_ordered (x ∷ xs) (y ∷ ys) o p forth back =
    let rest : xs ≡ ys = same_ordered xs ys o.1 p.1
    (λ k h. elim (forth k (inr h)) [
      | inl e ↦ absurd (less_differs x k (leads_has x xs k o.0 h) (first ∙ e))
      | inr g ↦ g
    ])
    (λ k h. elim (back k (inr h)) [
      | inl e ↦ absurd (less_differs y k (leads_has y ys k p.0 h) (sym first ∙ e))
      | inr g ↦ g
    ]) in
    λ i. first i ∷ rest i
  where
    first : x ≡ y
    first = elim (forth x (inl refl)) [
      | inl e ↦ sym e
      | inr h ↦ elim (back y (inl refl)) [
        | inl e ↦ e
        | inr g ↦ absurd (less_differs x x (keys_total.trans x y x (leads_has x xs y o.0 g) (leads_has y ys x p.0 h)) refl)
      ]
    ]

-- two lists of the pairs of one map in order are the same
pub ranking_once : (map : ScoreMap) (xs ys : List Key) → IsRanking map xs → IsRanking map ys → xs ≡ ys
ranking_once map xs ys p q = same_ordered xs ys p.ordered q.ordered
    (λ k h. has_contained ys k ((q.pairs k).1 ((p.pairs k).0 (contained_has xs k h))))
    (λ k h. has_contained xs k ((p.pairs k).1 ((q.pairs k).0 (contained_has ys k h))))

module _ (m : Blocks) where
  -- a key behind which all elements of a list stand leads their keys
  leads_behind : (k : Key) (xs : List Scored) → AllBehind m k xs → Leads k (map (key_of m) xs)
  leads_behind k [] a = tt
  leads_behind k (x ∷ xs) a = (a.0, leads_behind k xs a.1)

  -- the keys of a sorted list are in order
  ordered_sorted : (xs : List Scored) → IsSorted m xs → IsOrdered (map (key_of m) xs)
  ordered_sorted [] s = tt
  ordered_sorted (x ∷ xs) s = (leads_behind (key_of m x) xs s.1, ordered_sorted xs s.2)

  -- each key of a list is that of an element among it
  has_among : (xs : List Scored) (k : Key) → Has (map (key_of m) xs) k → (x : Scored) × Among xs x × (key_of m x ≡ k)
  has_among [] k h = absurd h
  has_among (x ∷ xs) k (inl e) = (x, inl refl, e)
  has_among (x ∷ xs) k (inr h) = (let p = has_among xs k h in (p.0, inr p.1, p.2))

  -- the key of each element among a list is one of its keys
  among_has : (xs : List Scored) (x : Scored) → Among xs x → Has (map (key_of m) xs) (key_of m x)
  among_has [] x h = absurd h
  among_has (y ∷ ys) x (inl e) = inl (ap (key_of m) e)
  among_has (y ∷ ys) x (inr h) = inr (among_has ys x h)

-- the ranked pairs of a table of scores are the pairs of its map in order
pub ranking_holds : (m : Blocks) (s : ScoreTable) → IsScoreTable m s → IsRanking (scores m s) (ranked m s)
ranking_holds m s is = record {
  ordered = ordered_sorted m s.list is.sorted;
  pairs = λ k. (
    λ h. (let p = has_among m s.list k (has_contained (ranked m s) k h) in ap (get (scores m s)) (ap (λ (z : Key). z.1) (sym p.2)) ∙ listed_score m s is p.0 p.1 ∙ ap (λ (z : Key). Some z.0) p.2),
    λ h. (let p = among_score m s is k.1 k.0 h in contained_has (ranked m s) k (subst (Has (ranked m s)) p.2 (among_has m s.list p.0 p.1))),
  );
}
