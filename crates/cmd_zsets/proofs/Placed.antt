-- Where a member stands in the list of a sorted set.
use Rattle.std.proofs.Common.{◌≡◌, inl, inr, ℕ, zero, suc, ◌+◌, ◌-◌, ℤ, false, List, [], ◌∷◌, ◌++◌, length, take, drop, reverse, Some, None, slice_get, bytes_eq, if◌then◌else◌, Less}
use Rattle.std.proofs.Common.{Equal, refl, sym, ap, subst, ◌∙◌, arith}
use Rattle.std.specs.FinMap.{get}
use Rattle.std.proofs.lemmas.Bool.{cases_Bool}
use Rattle.std.proofs.lemmas.Cmp.{tied_itself}
use Rattle.std.proofs.lemmas.Slice.Eq.{bytes_eq-Decides}
use Rattle.std.proofs.lemmas.List.{append_assoc, length-take-le, length-drop, length-reverse, reverse-append}
use mathlib.Core.List.{reverse-cons}
use Rattle.score_list.specs.Sorted.{key_cmp}
use Rattle.score_list.proofs.Sortings.{keys_total}
use Rattle.score_table.specs.Ranking.{Leads, IsOrdered, IsRanking}
use Rattle.plain_model.specs.ZsetSteps.{Scores, Scored, met, place_from}
use Rattle.plain_model.specs.declared.zset_command.Direction.{Direction}
use Rattle.plain_model.specs.declared.zset_command.Direction.TheVariants.{Rising, Falling}
use Rattle.cmd_zsets.specs.Spans.{rank_of}
use Rattle.cmd_zsets.proofs.Ranked.{Has, contained_has}
use Rattle.cmd_zsets.proofs.Told.{some_at, some_scored}

-- no pair of the list has the member
abbrev Lacks : List ℕ → List Scored → Type 0
Lacks member [] = Unit {0}
Lacks member (x ∷ xs) = (bytes_eq x.1 member ≡ false) × Lacks member xs

-- each pair of the list is one of the map
abbrev EachHas : Scores → List Scored → Type 0
EachHas scores [] = Unit {0}
EachHas scores (x ∷ xs) = (get scores x.1 ≡ Some x.0) × EachHas scores xs

each_of : (scores : Scores) (xs : List Scored) → ((k : Scored) → Has xs k → get scores k.1 ≡ Some k.0) → EachHas scores xs
each_of scores [] h = tt
each_of scores (x ∷ xs) h = (h x (inl refl), each_of scores xs (λ k g. h k (inr g)))

each_ranked : (scores : Scores) (xs : List Scored) → IsRanking scores xs → EachHas scores xs
each_ranked scores xs r = each_of scores xs (λ k h. (r.pairs k).0 (contained_has xs k h))

-- two members that differ in their pairs
unlike : (a b : List ℕ) → (a ≡ b → ⊥) → bytes_eq a b ≡ false
unlike a b ne = elim (cases_Bool (bytes_eq a b)) [
  | inl same ↦ absurd (ne ((bytes_eq-Decides a b).0 same))
  | inr apart ↦ apart
]

some_same : (a b : ℤ) → Some a ≡ Some b → a ≡ b
some_same a b e = cc

pair_same : (x y : Scored) → x.0 ≡ y.0 → x.1 ≡ y.1 → x ≡ y
pair_same x y e f = λ i. (e i, f i)

not_equal : Less ≡ Equal → ⊥
not_equal e = cc

differ : (scores : Scores) (x y : Scored) → key_cmp x y ≡ Less → get scores x.1 ≡ Some x.0 → get scores y.1 ≡ Some y.0 → x.1 ≡ y.1 → ⊥
differ scores x y less p q same =
    let alike : x ≡ y = pair_same x y (some_same x.0 y.0 (sym p ∙ ap (get scores) same ∙ q)) same in
    let tied : key_cmp x y ≡ Equal = ap (key_cmp x) (sym alike) ∙ tied_itself keys_total x in
    not_equal (sym less ∙ tied)

-- no pair behind another has its member
after : (scores : Scores) (x : Scored) (xs : List Scored) → get scores x.1 ≡ Some x.0 → Leads x xs → EachHas scores xs → Lacks x.1 xs
after scores x [] p l h = tt
after scores x (y ∷ ys) p l h = (unlike y.1 x.1 (λ same. differ scores x y l.0 p h.0 (sym same)), after scores x ys p l.1 h.1)

pair_at : (ys : List Scored) (n : ℕ) (x : Scored) → slice_get ys n ≡ Some x → Has ys x
pair_at [] n x at = cc
pair_at (y ∷ ys) zero x at = inl (some_scored y x at)
pair_at (y ∷ ys) (suc n) x at = inr (pair_at ys n x at)

leads_has : (y : Scored) (ys : List Scored) (x : Scored) → Leads y ys → Has ys x → key_cmp y x ≡ Less
leads_has y [] x l h = absurd h
leads_has y (z ∷ zs) x l (inl e) = ap (key_cmp y) (sym e) ∙ l.0
leads_has y (z ∷ zs) x l (inr h) = leads_has y zs x l.1 h

each_at : (scores : Scores) (ys : List Scored) (x : Scored) → EachHas scores ys → Has ys x → get scores x.1 ≡ Some x.0
each_at scores [] x h m = absurd m
each_at scores (y ∷ ys) x h (inl e) = subst (λ (z : Scored). get scores z.1 ≡ Some z.0) e h.0
each_at scores (y ∷ ys) x h (inr m) = each_at scores ys x h.1 m

-- no other pair of a list in order has the member of one
front_lacks : (scores : Scores) (xs : List Scored) (n : ℕ) (x : Scored) → IsOrdered xs → EachHas scores xs → slice_get xs n ≡ Some x → Lacks x.1 (take n xs)
front_lacks scores [] n x o h at = cc
front_lacks scores (y ∷ ys) zero x o h at = tt
front_lacks scores (y ∷ ys) (suc n) x o h at =
    let there = pair_at ys n x at in
    (unlike y.1 x.1 (differ scores y x (leads_has y ys x o.0 there) h.0 (each_at scores ys x h.1 there)), front_lacks scores ys n x o.1 h.1 at)

back_lacks : (scores : Scores) (xs : List Scored) (n : ℕ) (x : Scored) → IsOrdered xs → EachHas scores xs → slice_get xs n ≡ Some x → Lacks x.1 (drop (suc n) xs)
back_lacks scores [] n x o h at = cc
back_lacks scores (y ∷ ys) zero x o h at = subst (λ (z : Scored). Lacks z.1 ys) (some_scored y x at) (after scores y ys h.0 o.0 h.1)
back_lacks scores (y ∷ ys) (suc n) x o h at = back_lacks scores ys n x o.1 h.1 at

lacks_both : (member : List ℕ) (xs ys : List Scored) → Lacks member xs → Lacks member ys → Lacks member (xs ++ ys)
lacks_both member [] ys p q = q
lacks_both member (x ∷ xs) ys p q = (p.0, lacks_both member xs ys p.1 q)

lacks_reverse : (member : List ℕ) (xs : List Scored) → Lacks member xs → Lacks member (reverse xs)
lacks_reverse member [] p = tt
lacks_reverse member (x ∷ xs) p = subst (Lacks member) (sym (reverse-cons x xs)) (lacks_both member (reverse xs) (x ∷ []) (lacks_reverse member xs p.1) (p.0, tt))

lacks_met : (from : Direction) (member : List ℕ) (xs : List Scored) → Lacks member xs → Lacks member (met from xs)
lacks_met Rising member xs p = p
lacks_met Falling member xs p = lacks_reverse member xs p

-- ---- places

nowhere : (at : ℕ) (member : List ℕ) (xs : List Scored) → Lacks member xs → place_from at member xs ≡ None
nowhere at member [] p = refl
nowhere at member (x ∷ xs) p = ap (λ b. if b then Some (at, x.0) else place_from (suc at) member xs) p.0 ∙ nowhere (suc at) member xs p.1

behind_front : (at : ℕ) (front back : List Scored) (x : Scored) → Lacks x.1 front → place_from at x.1 (front ++ x ∷ back) ≡ Some (at + length front, x.0)
behind_front at [] back x p =
    let n : at ≡ at + 0 = omega arith in
    ap (λ b. if b then Some (at, x.0) else place_from (suc at) x.1 back) ((bytes_eq-Decides x.1 x.1).1 refl) ∙ ap (λ k. Some (k, x.0)) n
behind_front at (y ∷ front) back x p =
    let n : suc at + length front ≡ at + suc (length front) = omega arith in
    ap (λ b. if b then Some (at, y.0) else place_from (suc at) x.1 (front ++ x ∷ back)) p.0 ∙ behind_front (suc at) front back x p.1 ∙ ap (λ k. Some (k, x.0)) n

parted : (xs : List Scored) (n : ℕ) (x : Scored) → slice_get xs n ≡ Some x → xs ≡ take n xs ++ x ∷ drop (suc n) xs
parted [] n x at = cc
parted (y ∷ ys) zero x at = ap (λ (z : Scored). z ∷ ys) (some_scored y x at)
parted (y ∷ ys) (suc n) x at = ap (λ l. y ∷ l) (parted ys n x at)

turned : (front back : List Scored) (x : Scored) → reverse (front ++ x ∷ back) ≡ reverse back ++ x ∷ reverse front
turned front back x = reverse-append front (x ∷ back) ∙ ap (λ l. l ++ reverse front) (reverse-cons x back) ∙ append_assoc (reverse back) (x ∷ []) (reverse front)

-- a pair that has a rank is met there
pub placed : (from : Direction) (scores : Scores) (xs : List Scored) (rank : ℕ) (x : Scored) → IsRanking scores xs → slice_get xs rank ≡ Some x
    → place_from 0 x.1 (met from xs) ≡ Some (rank_of from (length xs) rank, x.0)
placed Rising scores xs rank x r at =
    let lt = (some_at xs rank x x at).0 in
    let n : 0 + length (take rank xs) ≡ rank = omega (arith, length-take-le rank xs (omega (arith, lt))) in
    ap (place_from 0 x.1) (parted xs rank x at) ∙ behind_front 0 (take rank xs) (drop (suc rank) xs) x (front_lacks scores xs rank x r.ordered (each_ranked scores xs r) at) ∙ ap (λ k. Some (k, x.0)) n
placed Falling scores xs rank x r at =
    let back = drop (suc rank) xs in
    let n : 0 + length (reverse back) ≡ length xs - suc rank = omega (arith, length-reverse back, length-drop (suc rank) xs) in
    ap (λ l. place_from 0 x.1 (reverse l)) (parted xs rank x at) ∙ ap (place_from 0 x.1) (turned (take rank xs) back x)
    ∙ behind_front 0 (reverse back) (reverse (take rank xs)) x (lacks_reverse x.1 back (back_lacks scores xs rank x r.ordered (each_ranked scores xs r) at)) ∙ ap (λ k. Some (k, x.0)) n

some_none : (a : ℤ) → Some a ≡ None → ⊥
some_none a e = cc

lacks_none : (scores : Scores) (member : List ℕ) (xs : List Scored) → EachHas scores xs → get scores member ≡ None → Lacks member xs
lacks_none scores member [] h none = tt
lacks_none scores member (x ∷ xs) h none = (unlike x.1 member (λ same. some_none x.0 (sym h.0 ∙ ap (get scores) same ∙ none)), lacks_none scores member xs h.1 none)

-- one that has no score stands nowhere
pub no_place : (from : Direction) (scores : Scores) (xs : List Scored) (member : List ℕ) → IsRanking scores xs → get scores member ≡ None → place_from 0 member (met from xs) ≡ None
no_place from scores xs member r none = nowhere 0 member (met from xs) (lacks_met from member xs (lacks_none scores member xs (each_ranked scores xs r) none))
