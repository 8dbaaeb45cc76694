-- Scores within bounds are the scores between two ranks.
use Rattle.std.proofs.Common.{◌≡◌, inl, inr, ℕ, zero, suc, ◌+◌, ◌-◌, ◌≤◌, min, ℤ, pos, ◌+ℤ◌, int_lt, Bool, true, false, not, ◌&&◌, cond, List, [], ◌∷◌, ◌++◌, length, take, drop, reverse}
use Rattle.std.proofs.Common.{filter, count_by, Some, slice_get, Ordering, Less, Equal, Greater, refl, sym, ap, subst, ◌∙◌, arith}
use Rattle.std.specs.Ordering.{nat_cmp, ordering_then}
use Rattle.std.specs.Cmp.Lexicographic.{slice_cmp}
use Rattle.std.proofs.lemmas.Int.{ints}
use Rattle.std.proofs.lemmas.Bool.{cases_Bool, cases_lt}
use Rattle.std.proofs.lemmas.List.{append_assoc, append-nil, drop_all, drop-take, drop-drop, take-append-drop, drop_at, take_at, length-take, length-take-le, length-drop, length-reverse}
use Rattle.std.proofs.lemmas.List.{reverse-append}
use Rattle.std.proofs.lemmas.List.Elements.{filter-append}
use Rattle.std.proofs.lemmas.List.Sums.{count_by-le-length}
use mathlib.Core.List.{reverse-cons}
use Rattle.score_list.proofs.Searching.{count_yes, count_no}
use Rattle.score_table.specs.Ranking.{Leads, IsOrdered}
use Rattle.plain_model.specs.ZsetSteps.{Scored, met, is_above, is_below, within}
use Rattle.plain_model.specs.declared.zset_command.Direction.{Direction}
use Rattle.plain_model.specs.declared.zset_command.Direction.TheVariants.{Rising, Falling}
use Rattle.plain_model.specs.declared.zset_command.ScoreBound.{ScoreBound}
use Rattle.plain_model.specs.declared.zset_command.ScoreBound.TheVariants.{Lowest, Including, Excluding, Highest}
use Rattle.cmd_zsets.specs.Spans.{start_of, EachUpTo}
use Rattle.cmd_zsets.proofs.Told.{some_scored}

-- ---- scores that rise

-- what isn't below a score that isn't below a number isn't either
still_over : (x y c : ℤ) → int_lt y x ≡ false → int_lt x c ≡ false → int_lt y c ≡ false
still_over x y c p q = grind (arith, ints)

-- what isn't below a score that is above a number is above it too
still_above : (x y c : ℤ) → int_lt y x ≡ false → int_lt c x ≡ true → int_lt c y ≡ true
still_above x y c p q = grind (arith, ints)

not_below_itself : (x : ℤ) → int_lt x x ≡ false
not_below_itself x = grind (arith, ints)

-- what is above a number is at least the next one
pub next_is : (x m n : ℤ) → n ≡ m +ℤ pos 1 → int_lt x n ≡ not (int_lt m x)
next_is x m n e = grind (arith, ints)

not_no : (b : Bool) → not b ≡ true → b ≡ false
not_no true e = cc
not_no false e = refl

not_yes : (b : Bool) → not b ≡ false → b ≡ true
not_yes true e = refl
not_yes false e = cc

above_rises : (min : ScoreBound) (x y : ℤ) → int_lt y x ≡ false → is_above min x ≡ true → is_above min y ≡ true
above_rises Lowest x y p h = refl
above_rises (Including least) x y p h = ap not (still_over x y least p (not_no (int_lt x least) h))
above_rises (Excluding below) x y p h = still_above x y below p h
above_rises Highest x y p h = cc

below_falls : (max : ScoreBound) (x y : ℤ) → int_lt y x ≡ false → is_below max x ≡ false → is_below max y ≡ false
below_falls Lowest x y p h = refl
below_falls (Including most) x y p h = ap not (still_above x y most p (not_yes (int_lt most x) h))
below_falls (Excluding above) x y p h = still_over x y above p h
below_falls Highest x y p h = cc

-- no score is below this one
abbrev EachFrom : ℤ → List Scored → Type 0
EachFrom least [] = Unit {0}
EachFrom least (x ∷ xs) = (int_lt x.0 least ≡ false) × EachFrom least xs

-- no score is below one before it
abbrev Rises : List Scored → Type 0
Rises [] = Unit {0}
Rises (x ∷ xs) = EachFrom x.0 xs × Rises xs

lt_first : (x y : ℤ) (a b : Bool) (o : Ordering) → int_lt x y ≡ a → int_lt y x ≡ b → ordering_then (cond a Less (cond b Greater Equal)) o ≡ Less → int_lt y x ≡ false
lt_first x y true b o p q e = grind (arith, ints)
lt_first x y false true o p q e = cc
lt_first x y false false o p q e = q

leads_from : (x : Scored) (xs : List Scored) → Leads x xs → EachFrom x.0 xs
leads_from x [] l = tt
leads_from x (y ∷ ys) l = (lt_first x.0 y.0 (int_lt x.0 y.0) (int_lt y.0 x.0) (slice_cmp nat_cmp x.1 y.1) refl refl l.0, leads_from x ys l.1)

rises_of : (xs : List Scored) → IsOrdered xs → Rises xs
rises_of [] o = tt
rises_of (x ∷ xs) o = (leads_from x xs o.0, rises_of xs o.1)

-- ---- the highest score

from_at : (least : ℤ) (xs : List Scored) (n : ℕ) (x : Scored) → EachFrom least xs → slice_get xs n ≡ Some x → int_lt x.0 least ≡ false
from_at least [] n x h at = cc
from_at least (y ∷ ys) zero x h at = subst (λ (z : Scored). int_lt z.0 least ≡ false) (some_scored y x at) h.0
from_at least (y ∷ ys) (suc n) x h at = from_at least ys n x h.1 at

last_highest : (xs : List Scored) (n : ℕ) (x : Scored) → Rises xs → suc n ≡ length xs → slice_get xs n ≡ Some x → EachUpTo x.0 xs
last_highest [] n x r long at = tt
last_highest (y ∷ []) zero x r long at = (subst (λ (z : Scored). int_lt z.0 y.0 ≡ false) (some_scored y x at) (not_below_itself y.0), tt)
last_highest (y ∷ []) (suc n) x r long at = cc
last_highest (y ∷ z ∷ zs) zero x r long at = absurd (omega (arith, long))
last_highest (y ∷ z ∷ zs) (suc n) x r long at = (from_at y.0 (z ∷ zs) n x r.0 at, last_highest (z ∷ zs) n x r.1 (omega (arith, long)) at)

-- the score of the last member is the highest one
pub highest_is : (xs : List Scored) (n : ℕ) (x : Scored) → IsOrdered xs → n + 1 ≡ length xs → slice_get xs n ≡ Some x → EachUpTo x.0 xs
highest_is xs n x o long at = last_highest xs n x (rises_of xs o) (omega (arith, long)) at

-- ---- counts

module _ (f : Scored → Bool) where
  abbrev AllAre : Bool → List Scored → Type 0
  AllAre b [] = Unit {0}
  AllAre b (x ∷ xs) = (f x ≡ b) × AllAre b xs

  count_all : (xs : List Scored) → AllAre true xs → count_by f xs ≡ length xs
  count_all [] h = refl
  count_all (x ∷ xs) h = (let rest = count_all xs h.1 in let here = count_yes f x xs h.0 in omega (arith, rest, here))

  count_none : (xs : List Scored) → AllAre false xs → count_by f xs ≡ 0
  count_none [] h = refl
  count_none (x ∷ xs) h = count_no f x xs h.0 ∙ count_none xs h.1

  all_so : (b : Bool) → ((x : Scored) → f x ≡ b) → (xs : List Scored) → AllAre b xs
  all_so b h [] = tt
  all_so b h (x ∷ xs) = (h x, all_so b h xs)

-- two tests that answer alike count alike
pub count_alike : (f g : Scored → Bool) → ((x : Scored) → f x ≡ g x) → (xs : List Scored) → count_by f xs ≡ count_by g xs
count_alike f g same xs = λ i. count_by (λ (x : Scored). same x i) xs

-- none pass a test that says no, and all one that says yes
pub count_never : (xs : List Scored) → 0 ≡ count_by (λ (x : Scored). false) xs
count_never xs = sym (count_none (λ x. false) xs (all_so (λ x. false) false (λ x. refl) xs))

pub count_ever : (xs : List Scored) → length xs ≡ count_by (λ (x : Scored). true) xs
count_ever xs = sym (count_all (λ x. true) xs (all_so (λ x. true) true (λ x. refl) xs))

upto : (s m x : ℤ) → int_lt m s ≡ false → int_lt s x ≡ false → int_lt m x ≡ false
upto s m x p q = grind (arith, ints)

up_to_all : (score most : ℤ) (xs : List Scored) → int_lt most score ≡ false → EachUpTo score xs → AllAre (λ (x : Scored). not (int_lt most x.0)) true xs
up_to_all score most [] le h = tt
up_to_all score most (x ∷ xs) le h = (ap not (upto score most x.0 le h.0), up_to_all score most xs le h.1)

-- where the highest score isn't above a number, no score is
pub count_highest : (score most : ℤ) (xs : List Scored) → int_lt most score ≡ false → EachUpTo score xs → length xs ≡ count_by (λ (x : Scored). not (int_lt most x.0)) xs
count_highest score most xs le h = sym (count_all (λ (x : Scored). not (int_lt most x.0)) xs (up_to_all score most xs le h))

pub count_next : (most above : ℤ) (xs : List Scored) → above ≡ most +ℤ pos 1 → count_by (λ (x : Scored). int_lt x.0 above) xs ≡ count_by (λ (x : Scored). not (int_lt most x.0)) xs
count_next most above xs e = count_alike (λ x. int_lt x.0 above) (λ x. not (int_lt most x.0)) (λ x. next_is x.0 most above e) xs

-- the same of a list that is another by name
pub count_next_in : (most above : ℤ) (xs ys : List Scored) (n : ℕ) → above ≡ most +ℤ pos 1 → xs ≡ ys → n ≡ count_by (λ (x : Scored). int_lt x.0 above) xs
    → n ≡ count_by (λ (x : Scored). not (int_lt most x.0)) ys
count_next_in most above xs ys n e same is = is ∙ ap (count_by (λ (x : Scored). int_lt x.0 above)) same ∙ count_next most above ys e

twice : (b : Bool) → b ≡ not (not b)
twice true = refl
twice false = refl

-- a score that isn't below the least one is above the bound
pub count_including : (least : ℤ) (xs : List Scored) → count_by (λ (x : Scored). int_lt x.0 least) xs ≡ count_by (λ (x : Scored). not (not (int_lt x.0 least))) xs
count_including least xs = count_alike (λ x. int_lt x.0 least) (λ x. not (not (int_lt x.0 least))) (λ x. twice (int_lt x.0 least)) xs

-- ---- the part between two ranks

both : {a b : Bool} → a ≡ true → b ≡ true → (a && b) ≡ true
both p q = cc

nothing : (n : ℕ) → drop {A = Scored} n [] ≡ []
nothing zero = refl
nothing (suc n) = refl

module _ (min_bound max_bound : ScoreBound) where
  abbrev Over : Scored → Bool
  Over x = is_above min_bound x.0

  abbrev Under : Scored → Bool
  Under x = is_below max_bound x.0

  abbrev Out : Scored → Bool
  Out x = not (is_above min_bound x.0)

  abbrev Both : Scored → Bool
  Both x = is_above min_bound x.0 && is_below max_bound x.0

  all_over : (least : ℤ) (xs : List Scored) → is_above min_bound least ≡ true → EachFrom least xs → AllAre Out false xs
  all_over least [] h r = tt
  all_over least (x ∷ xs) h r = (ap not (above_rises min_bound least x.0 r.0 h), all_over least xs h r.1)

  none_under : (least : ℤ) (xs : List Scored) → is_below max_bound least ≡ false → EachFrom least xs → AllAre Under false xs
  none_under least [] h r = tt
  none_under least (x ∷ xs) h r = (below_falls max_bound least x.0 r.0 h, none_under least xs h r.1)

  and_no : (a b : Bool) → b ≡ false → (a && b) ≡ false
  and_no true b e = e
  and_no false b e = refl

  none_both : (xs : List Scored) → AllAre Under false xs → filter Both xs ≡ []
  none_both [] h = refl
  none_both (x ∷ xs) h = ap (λ b. cond b (x ∷ filter Both xs) (filter Both xs)) (and_no (Over x) (Under x) h.0) ∙ none_both xs h.1

  -- behind those that are out below, and before those that are out above
  between : (xs : List Scored) → Rises xs → filter Both xs ≡ drop (count_by Out xs) (take (count_by Under xs) xs)
  between [] r = refl
  between (x ∷ xs) r = elim (cases_Bool (Under x)) [
    | inr high ↦
        let none : AllAre Under false (x ∷ xs) = (high, none_under x.0 xs high r.0) in
        none_both (x ∷ xs) none ∙ sym (ap (λ n. drop (count_by Out (x ∷ xs)) (take n (x ∷ xs))) (count_none Under (x ∷ xs) none) ∙ nothing (count_by Out (x ∷ xs)))
    | inl low ↦
        let some : take (count_by Under (x ∷ xs)) (x ∷ xs) ≡ x ∷ take (count_by Under xs) xs = ap (λ n. take n (x ∷ xs)) (count_yes Under x xs low) in
        elim (cases_Bool (Over x)) [
          | inl over ↦
              let rest = all_over x.0 xs over r.0 in
              let all : count_by Out (x ∷ xs) ≡ 0 = count_none Out (x ∷ xs) (ap not over, rest) in
              ap (λ b. cond b (x ∷ filter Both xs) (filter Both xs)) (both over low)
              ∙ ap (λ l. x ∷ l) (between xs r.1 ∙ ap (λ n. drop n (take (count_by Under xs) xs)) (count_none Out xs rest))
              ∙ sym (ap (λ n. drop n (take (count_by Under (x ∷ xs)) (x ∷ xs))) all ∙ some)
          | inr out ↦
              ap (λ b. cond b (x ∷ filter Both xs) (filter Both xs)) (ap (λ b. b && Under x) out) ∙ between xs r.1
              ∙ sym (ap (λ n. drop n (take (count_by Under (x ∷ xs)) (x ∷ xs))) (count_yes Out x xs (ap not out)) ∙ ap (drop (suc (count_by Out xs))) some)
        ]
  ]

-- ---- as it is met

joined : (x : Scored) (b : Bool) (l : List Scored) → reverse l ++ cond b (x ∷ []) [] ≡ reverse (cond b (x ∷ l) l)
joined x true l = sym (reverse-cons x l)
joined x false l = append-nil (reverse l)

filter_reverse : (f : Scored → Bool) (xs : List Scored) → filter f (reverse xs) ≡ reverse (filter f xs)
filter_reverse f [] = refl
filter_reverse f (x ∷ xs) =
    ap (filter f) (reverse-cons x xs) ∙ filter-append f (reverse xs) (x ∷ []) ∙ ap (λ l. l ++ cond (f x) (x ∷ []) []) (filter_reverse f xs)
    ∙ joined x (f x) (filter f xs)

-- a part of a list, from its other end
reverse_part : (xs : List Scored) (low count high : ℕ) → low + count ≡ high → high ≤ length xs → take count (drop (length xs - high) (reverse xs)) ≡ reverse (take count (drop low xs))
reverse_part xs low count high sum inside =
    let front = take low xs in
    let part = take count (drop low xs) in
    let back = drop high xs in
    let behind : drop low xs ≡ part ++ back = sym (take-append-drop count (drop low xs)) ∙ ap (λ l. part ++ l) (drop-drop count low xs ∙ ap (λ n. drop n xs) sum) in
    let whole : xs ≡ front ++ (part ++ back) = sym (take-append-drop low xs) ∙ ap (λ l. front ++ l) behind in
    let turned : reverse xs ≡ reverse back ++ (reverse part ++ reverse front) =
    ap reverse whole ∙ reverse-append front (part ++ back) ∙ ap (λ l. l ++ reverse front) (reverse-append part back) ∙ append_assoc (reverse back) (reverse part) (reverse front) in
    let size : length part ≡ count = length-take-le count (drop low xs) (omega (arith, sum, inside, length-drop low xs)) in
    ap (λ l. take count (drop (length xs - high) l)) turned
    ∙ ap (take count) (drop_at (reverse back) (reverse part ++ reverse front) (length xs - high) (omega (arith, length-reverse back, length-drop high xs)))
    ∙ take_at (reverse part) (reverse front) count (omega (arith, length-reverse part, size))

-- what is passed over and what is left
part_is : (xs : List Scored) (lo hi low count : ℕ) → low ≡ min lo hi → count ≡ hi - low → drop lo (take hi xs) ≡ take count (drop low xs)
part_is xs lo hi low count least many = elim (cases_lt hi lo) [
  | inl above ↦
      let none : count ≡ 0 = omega (arith, least, many, above) in
      drop_all lo (take hi xs) (omega (arith, above, length-take hi xs)) ∙ sym (ap (λ n. take n (drop low xs)) none)
  | inr within ↦
      let same : low ≡ lo = omega (arith, least, within) in
      let sum : hi ≡ lo + count = omega (arith, least, many, within) in
      ap (λ n. drop lo (take n xs)) sum ∙ drop-take lo count xs ∙ ap (λ n. take count (drop n xs)) (sym same)
]

module _ (min_bound max_bound : ScoreBound) where
  -- the scores within bounds stand between two ranks
  pub within_is : (from : Direction) (xs : List Scored) (len lo hi low start count : ℕ) → IsOrdered xs → len ≡ length xs → lo ≡ count_by (λ (x : Scored). not (is_above min_bound x.0)) xs
      → hi ≡ count_by (λ (x : Scored). is_below max_bound x.0) xs
      → low ≡ min lo hi → start ≡ start_of from len low hi → count ≡ hi - low → take count (drop start (met from xs)) ≡ within min_bound max_bound (met from xs)
  within_is Rising xs len lo hi low start count o long is_lo is_hi least is_start many =
      ap (λ n. take count (drop n xs)) is_start ∙ sym (part_is xs lo hi low count least many)
      ∙ ap (λ n. drop n (take hi xs)) is_lo ∙ ap (λ n. drop (count_by (Out min_bound max_bound) xs) (take n xs)) is_hi ∙ sym (between min_bound max_bound xs (rises_of xs o))
  within_is Falling xs len lo hi low start count o long is_lo is_hi least is_start many =
      let most : hi ≤ length xs = omega (arith, is_hi, count_by-le-length (Under min_bound max_bound) xs) in
      let from_end : start ≡ length xs - hi = is_start ∙ ap (λ n. n - hi) long in
      ap (λ n. take count (drop n (reverse xs))) from_end ∙ reverse_part xs low count hi (omega (arith, least, many)) most
      ∙ ap reverse
      (sym (part_is xs lo hi low count least many) ∙ ap (λ n. drop n (take hi xs)) is_lo ∙ ap (λ n. drop (count_by (Out min_bound max_bound) xs) (take n xs)) is_hi
      ∙ sym (between min_bound max_bound xs (rises_of xs o)))
      ∙ sym (filter_reverse (Both min_bound max_bound) xs)

-- a count of those that pass a test is no more than all
pub at_most_all : (f : Scored → Bool) (xs : List Scored) → count_by f xs ≤ length xs
at_most_all f xs = count_by-le-length f xs
