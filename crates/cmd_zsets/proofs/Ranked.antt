-- The one list of the scores and members of a sorted set, in their order.
use Rattle.std.proofs.Common.{◌≡◌, ◌⊎◌, inl, inr, ℕ, zero, suc, ◌<◌, ℤ, Bool, true, false, ◌&&◌, ◌||◌, T, cond, List, [], ◌∷◌, length, map, get_or, Contains, Some, is_some, Ordering, Less}
use Rattle.std.proofs.Common.{Equal, Greater, is_lt, refl, sym, ap, ◌∙◌, arith}
use Rattle.std.specs.List.{list_any}
use Rattle.std.specs.FinMap.{find, empty, entries, from_entries, keys, len, is_sorted, contains_key, entries_sorted, contains_key-keys, get-from_entries, get-entries, len-entries, len-empty}
use Rattle.std.specs.FinMap.Entries.{below_all}
use Rattle.std.specs.Ordering.{nat_cmp, int_cmp, is_eq, eq_by_cmp, ordering_reverse}
use Rattle.std.specs.Cmp.Lexicographic.{slice_cmp, nat_list_cmp_total}
use Rattle.std.proofs.lemmas.Bool.{cases_Bool}
use Rattle.std.proofs.lemmas.Cmp.{tied_itself}
use Rattle.std.proofs.lemmas.Map.Lookups.{exact_pairs, exact_signed, exact_bytes}
use Rattle.score_list.proofs.Sortings.{keys_total}
use Rattle.score_table.specs.Ranking.{Leads, IsOrdered, IsRanking}
use Rattle.blocks.specs.Blocks.{Blocks}
use Rattle.zset_object.specs.Scored as object
use Rattle.zset_object.specs.declared.scored.Scored as kept
use Rattle.zset_object.proofs.Depends.{scored_laws_hold}
use Rattle.plain_model.specs.ZsetSteps.{Scores, Scored, scored_cmp, ordered, ranked}

-- an entry of the map, and one of the set of its pairs
abbrev Entry : Type 0
Entry = List ℕ × ℤ

abbrev Pair : Type 0
Pair = Scored × Unit {0}

abbrev turned : Entry → Pair
turned entry = ((entry.1, entry.0), tt)

first : (a b : Bool) → T (a && b) → T a
first true b p = tt
first false b p = p

second : (a b : Bool) → T (a && b) → T b
second true b p = p
second false b p = absurd p

less : (o : Ordering) → T (is_lt o) → o ≡ Less
less Less p = refl
less Equal p = absurd p
less Greater p = absurd p

equal : (o : Ordering) → is_eq o ≡ true → o ≡ Equal
equal Less p = cc
equal Equal p = refl
equal Greater p = cc

-- pairs that compare as equal are the same
exact : (x y : Scored) → scored_cmp x y ≡ Equal → x ≡ y
exact = exact_pairs int_cmp (slice_cmp nat_cmp) exact_signed exact_bytes

-- ---- the order

leads_of : (x : Scored) (pairs : List Pair) → T (below_all scored_cmp x pairs) → Leads x (map (λ (p : Pair). p.0) pairs)
leads_of x [] h = tt
leads_of x (p ∷ pairs) h =
    (less (scored_cmp x p.0) (first (is_lt (scored_cmp x p.0)) (below_all scored_cmp x pairs) h), leads_of x pairs (second (is_lt (scored_cmp x p.0)) (below_all scored_cmp x pairs) h))

ordered_of : (pairs : List Pair) → T (is_sorted scored_cmp pairs) → IsOrdered (map (λ (p : Pair). p.0) pairs)
ordered_of [] h = tt
ordered_of (p ∷ pairs) h =
    (leads_of p.0 pairs (first (below_all scored_cmp p.0 pairs) (is_sorted scored_cmp pairs) h), ordered_of pairs (second (below_all scored_cmp p.0 pairs) (is_sorted scored_cmp pairs) h))

-- ---- the pairs

-- the list has the pair
abbrev pub Has : List Scored → Scored → Type 0
Has [] k = ⊥
Has (x ∷ xs) k = (x ≡ k) ⊎ Has xs k

has_contained : (xs : List Scored) (k : Scored) → Contains xs k → Has xs k
has_contained xs k h = at xs h.0 h.1 h.2
  where
    at : (xs : List Scored) (n : ℕ) → n < length xs → get_or xs n k ≡ k → Has xs k
    at [] n lt is = absurd (omega arith)
    at (y ∷ ys) zero lt is = inl is
    at (y ∷ ys) (suc n) lt is = inr (at ys n (omega (arith, lt)) is)

pub contained_has : (xs : List Scored) (k : Scored) → Has xs k → Contains xs k
contained_has [] k h = absurd h
contained_has (y ∷ ys) k (inl e) = (0, omega arith, e)
contained_has (y ∷ ys) k (inr h) = (let p = contained_has ys k h in (suc p.0, omega (arith, p.1), p.2))

-- a pair that is found among keys stands there
any_has : (q : Scored) (xs : List Scored) → list_any (eq_by_cmp scored_cmp q) xs ≡ true → Has xs q
any_has q [] h = cc
any_has q (x ∷ xs) h = elim (cases_Bool (eq_by_cmp scored_cmp q x)) [
  | inl tied ↦ inl (sym (exact q x (equal (scored_cmp q x) tied)))
  | inr apart ↦ inr (any_has q xs (sym (ap (λ b. b || list_any (eq_by_cmp scored_cmp q) xs) apart) ∙ h))
]

itself : (q : Scored) → eq_by_cmp scored_cmp q q ≡ true
itself q = ap is_eq (tied_itself keys_total q)

has_any : (q : Scored) (xs : List Scored) → Has xs q → list_any (eq_by_cmp scored_cmp q) xs ≡ true
has_any q [] h = absurd h
has_any q (x ∷ xs) (inl e) = ap (λ b. b || list_any (eq_by_cmp scored_cmp q) xs) (ap (eq_by_cmp scored_cmp q) e ∙ itself q)
has_any q (x ∷ xs) (inr h) = elim (cases_Bool (eq_by_cmp scored_cmp q x)) [
  | inl tied ↦ ap (λ b. b || list_any (eq_by_cmp scored_cmp q) xs) tied
  | inr apart ↦ ap (λ b. b || list_any (eq_by_cmp scored_cmp q) xs) apart ∙ has_any q xs h
]

-- the entries have the member with the score
abbrev HasEntry : List Entry → List ℕ → ℤ → Type 0
HasEntry [] member score = ⊥
HasEntry (e ∷ es) member score = ((e.0 ≡ member) × (e.1 ≡ score)) ⊎ HasEntry es member score

abbrev Names : List ℕ → List ℕ → Ordering
Names a b = slice_cmp nat_cmp a b

found_has : (member : List ℕ) (score : ℤ) (es : List Entry) → find Names member es ≡ Some score → HasEntry es member score
found_has member score [] h = cc
found_has member score (e ∷ es) h = elim (cases_Bool (eq_by_cmp Names member e.0)) [
  | inl tied ↦ inl (sym (exact_bytes member e.0 (equal (Names member e.0) tied)), some_same e.1 score (sym (ap (λ b. cond b (Some e.1) (find Names member es)) tied) ∙ h))
  | inr apart ↦ inr (found_has member score es (sym (ap (λ b. cond b (Some e.1) (find Names member es)) apart) ∙ h))
]
  where
    some_same : (a b : ℤ) → Some a ≡ Some b → a ≡ b
    some_same a b e = cc

-- a name that is below all is less than each of them
below_has : (x member : List ℕ) (score : ℤ) (es : List Entry) → T (below_all Names x es) → HasEntry es member score → Names x member ≡ Less
below_has x member score [] b h = absurd h
below_has x member score (e ∷ es) b (inl here) = ap (Names x) (sym here.0) ∙ less (Names x e.0) (first (is_lt (Names x e.0)) (below_all Names x es) b)
below_has x member score (e ∷ es) b (inr h) = below_has x member score es (second (is_lt (Names x e.0)) (below_all Names x es) b) h

has_found : (member : List ℕ) (score : ℤ) (es : List Entry) → T (is_sorted Names es) → HasEntry es member score → find Names member es ≡ Some score
has_found member score [] s h = absurd h
has_found member score (e ∷ es) s (inl here) =
    ap (λ b. cond b (Some e.1) (find Names member es)) (ap (eq_by_cmp Names member) here.0 ∙ ap is_eq (tied_itself nat_list_cmp_total member)) ∙ ap Some here.1
has_found member score (e ∷ es) s (inr h) =
    let later : Names e.0 member ≡ Less = below_has e.0 member score es (first (below_all Names e.0 es) (is_sorted Names es) s) h in
    ap (λ b. cond b (Some e.1) (find Names member es)) (ap is_eq (nat_list_cmp_total.antisymm member e.0 ∙ ap ordering_reverse later))
    ∙ has_found member score es (second (below_all Names e.0 es) (is_sorted Names es) s) h

-- the set of the pairs has a pair where the entries have it turned
turned_has : (q : Scored) (es : List Entry) → is_some (find scored_cmp q (map turned es)) ≡ true → HasEntry es q.1 q.0
turned_has q [] h = cc
turned_has q (e ∷ es) h = elim (cases_Bool (eq_by_cmp scored_cmp q (e.1, e.0))) [
  | inl tied ↦ (let same = exact q (e.1, e.0) (equal (scored_cmp q (e.1, e.0)) tied) in inl (ap (λ (k : Scored). k.1) (sym same), ap (λ (k : Scored). k.0) (sym same)))
  | inr apart ↦ inr (turned_has q es (sym (ap (λ b. is_some (cond b (Some tt) (find scored_cmp q (map turned es)))) apart) ∙ h))
]

pair_same : {a v : ℤ} {b m : List ℕ} → a ≡ v → b ≡ m → ◌≡◌ {A = Scored} (a, b) (v, m)
pair_same h g = cc

has_turned : (q : Scored) (es : List Entry) → HasEntry es q.1 q.0 → is_some (find scored_cmp q (map turned es)) ≡ true
has_turned q [] h = absurd h
has_turned q (e ∷ es) (inl here) =
    let same : ◌≡◌ {A = Scored} (e.1, e.0) q = pair_same here.1 here.0 in
    ap (λ b. is_some (cond b (Some tt) (find scored_cmp q (map turned es)))) (ap (eq_by_cmp scored_cmp q) same ∙ itself q)
has_turned q (e ∷ es) (inr h) = elim (cases_Bool (eq_by_cmp scored_cmp q (e.1, e.0))) [
  | inl tied ↦ ap (λ b. is_some (cond b (Some tt) (find scored_cmp q (map turned es)))) tied
  | inr apart ↦ ap (λ b. is_some (cond b (Some tt) (find scored_cmp q (map turned es)))) apart ∙ has_turned q es h
]

-- ---- the list

-- what the set of the pairs has
set_has : (scores : Scores) (q : Scored) → contains_key (ordered scores) q ≡ is_some (find scored_cmp q (map turned (entries scores)))
set_has scores q = ap is_some (get-from_entries keys_total (map turned (entries scores)) q)

-- the list of the model has the pairs of the map, in their order
pub model_ranking : (scores : Scores) → IsRanking scores (ranked scores)
model_ranking scores = record {
  ordered = ordered_of (entries (ordered scores)) (entries_sorted (ordered scores));
  pairs = λ q. (
    λ h. get-entries scores q.1 ∙ has_found q.1 q.0 (entries scores) (entries_sorted scores)
        (turned_has q (entries scores) (sym (set_has scores q) ∙ contains_key-keys (ordered scores) q ∙ has_any q (ranked scores) (has_contained (ranked scores) q h))),
    λ h. contained_has (ranked scores) q
        (any_has q (ranked scores)
        (sym (contains_key-keys (ordered scores) q) ∙ set_has scores q ∙ has_turned q (entries scores) (found_has q.1 q.0 (entries scores) (sym (get-entries scores q.1) ∙ h)))),
  );
}

-- a sound sorted set has that list
pub ranked_is : (blocks : Blocks) (s : kept.Scored) → object.IsScored blocks s → object.ranked blocks s ≡ ranked (object.scores blocks s)
ranked_is blocks s sound =
    scored_laws_hold.unique (object.scores blocks s) (object.ranked blocks s) (ranked (object.scores blocks s)) (scored_laws_hold.ranking blocks s sound) (model_ranking (object.scores blocks s))

-- which is as long as it has members
pub ranked_counted : (blocks : Blocks) (s : kept.Scored) → object.IsScored blocks s → length (ranked (object.scores blocks s)) ≡ len (object.scores blocks s)
ranked_counted blocks s sound = ap length (sym (ranked_is blocks s sound)) ∙ scored_laws_hold.counted blocks s sound

-- a sorted set without a member has no list
no_entry : {K X : Type 0} (R : K → K → Ordering) → entries (empty {X = X} {R = R}) ≡ []
no_entry {X = X} R = none (entries (empty {X = X} {R = R})) (sym (len-entries (empty {X = X} {R = R})) ∙ len-empty R X)
  where
    none : {A : Type 0} (xs : List A) → length xs ≡ 0 → xs ≡ []
    none [] e = refl
    none (x ∷ xs) e = absurd (omega (arith, e))

pub ranked_empty : ranked empty ≡ []
ranked_empty = ap (λ (es : List Entry). keys (from_entries {R = scored_cmp} (map turned es))) (no_entry (slice_cmp nat_cmp)) ∙ ap (map (λ (p : Pair). p.0)) (no_entry scored_cmp)
