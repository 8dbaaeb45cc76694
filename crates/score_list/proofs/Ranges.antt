-- Elements that leave one after the other at one rank, to which one path leads.
use Rattle.std.proofs.Common.{◌≡◌, ◌≢◌, ℕ, zero, suc, ◌+◌, ◌<◌, ◌≤◌, nat_lt, ℤ, List, [], ◌∷◌, ◌++◌, length, take, drop, get_or, refl, sym, ap, ◌∙◌, subst, length-append, length-take-le}
use Rattle.std.proofs.Common.{arith, inl, inr}
use Rattle.std.specs.List.{remove_range as range_removed}
use Rattle.std.proofs.lemmas.List.{take-append-drop}
use Rattle.slab.specs.Slab.{get}
use Rattle.score_list.specs.declared.towers.Place.{Place}
use Rattle.score_list.specs.declared.towers.Towers.{Towers}
use Rattle.score_list.specs.Rows.{Reaches, Lacks}
use Rattle.score_list.specs.Linked.{Element, links_of, links_at, element_at, tall, order, items, IsLinked, Unthreads, Arrives, IsPath, no_place, without_at}
use Rattle.score_list.specs.Sorted.{AllFrom, IsRising}
use Rattle.score_list.proofs.Moved.{reach_stands}
use Rattle.score_list.proofs.Threading.{tall_kept, reaches_of}
use Rattle.score_list.proofs.Joins.{ordered_as, left_as, left_fresh}
use Rattle.score_list.proofs.Searching.{length_of_map}

-- ---- lists without a range

module _ {A : Type 0} where
  -- without the element that took the place of those gone, one more is gone
  one_more : (xs : List A) (from to : ℕ) → from ≤ to → to < length xs → without_at (range_removed xs from to) from ≡ range_removed xs from (suc to)
  one_more [] from to le lt = absurd (omega (arith, lt))
  one_more (x ∷ xs) zero zero le lt = refl
  one_more (x ∷ xs) zero (suc to) le lt = one_more xs zero to (omega arith) (omega (arith, lt))
  one_more (x ∷ xs) (suc from) zero le lt = absurd (omega (arith, le))
  one_more (x ∷ xs) (suc from) (suc to) le lt = ap (λ ys. x ∷ ys) (one_more xs from to (omega (arith, le)) (omega (arith, lt)))

  pub range_on : (xs : List A) (from to next : ℕ) → from ≤ to → to < length xs → next ≡ suc to → without_at (range_removed xs from to) from ≡ range_removed xs from next
  range_on xs from to next le lt is = one_more xs from to le lt ∙ ap (range_removed xs from) (sym is)

  -- the element that took the place of those gone
  pub range_next : (xs : List A) (from to : ℕ) (d : A) → from ≤ to → to < length xs → get_or (range_removed xs from to) from d ≡ get_or xs to d
  range_next [] from to d le lt = absurd (omega (arith, lt))
  range_next (x ∷ xs) zero zero d le lt = refl
  range_next (x ∷ xs) zero (suc to) d le lt = range_next xs zero to d (omega arith) (omega (arith, lt))
  range_next (x ∷ xs) (suc from) zero d le lt = absurd (omega (arith, le))
  range_next (x ∷ xs) (suc from) (suc to) d le lt = range_next xs from to d (omega (arith, le)) (omega (arith, lt))

  pub range_length : (xs : List A) (from to : ℕ) → from ≤ to → to ≤ length xs → length (range_removed xs from to) + to ≡ length xs + from
  range_length xs from to le inside =
      let whole : length (take to xs) + length (drop to xs) ≡ length xs = sym (length-append (take to xs) (drop to xs)) ∙ ap length (take-append-drop to xs) in
      omega (arith, whole, length-append (take from xs) (drop to xs), length-take-le from xs (omega (arith, le, inside)), length-take-le to xs inside)

  -- what stands in front of the one that leaves stays
  front_stays : (xs : List A) (n : ℕ) → n < length xs → take n (without_at xs n) ≡ take n xs
  front_stays [] n lt = absurd (omega (arith, lt))
  front_stays (x ∷ xs) zero lt = refl
  front_stays (x ∷ xs) (suc n) lt = ap (λ ys. x ∷ ys) (front_stays xs n (omega (arith, lt)))

from_behind : (score : ℤ) (n : ℕ) (xs : List Element) → AllFrom score xs → AllFrom score (drop n xs)
from_behind score zero xs a = a
from_behind score (suc n) [] a = tt
from_behind score (suc n) (x ∷ xs) a = from_behind score n xs a.1

from_without : (score : ℤ) (i j : ℕ) (xs : List Element) → i ≤ j → AllFrom score xs → AllFrom score (range_removed xs i j)
from_without score zero j xs le a = from_behind score j xs a
from_without score (suc i) zero xs le a = absurd (omega (arith, le))
from_without score (suc i) (suc j) [] le a = tt
from_without score (suc i) (suc j) (x ∷ xs) le a = (a.0, from_without score i j xs (omega (arith, le)) a.1)

rising_behind : (n : ℕ) (xs : List Element) → IsRising xs → IsRising (drop n xs)
rising_behind zero xs r = r
rising_behind (suc n) [] r = tt
rising_behind (suc n) (x ∷ xs) r = rising_behind n xs r.1

-- no score is below one before it without a range either
pub rising_without : (i j : ℕ) (xs : List Element) → i ≤ j → IsRising xs → IsRising (range_removed xs i j)
rising_without zero j xs le r = rising_behind j xs r
rising_without (suc i) zero xs le r = absurd (omega (arith, le))
rising_without (suc i) (suc j) [] le r = tt
rising_without (suc i) (suc j) (x ∷ xs) le r = (from_without x.0 i j xs (omega (arith, le)) r.0, rising_without i j xs (omega (arith, le)) r.1)

-- ---- the path

-- the last owner of the lowest level in front of a rank has a link there
pub lowest_reaches : (t : Towers) (rank owner after : ℕ) → IsLinked t → Arrives t 0 rank owner after → 0 < length (links_at t owner)
lowest_reaches t rank owner after linked a =
    let s = reach_stands (tall t 0) (take rank (order t)) owner a.0 a.1 in
    reaches_of t 0 (take rank (order t)) owner s.0 s.1 (omega (arith, linked.full_head))

lacks_front : (p : ℕ) (front back : List ℕ) → Lacks p (front ++ back) → Lacks p front
lacks_front p [] back l = tt
lacks_front p (k ∷ ks) back l = (l.0, lacks_front p ks back l.1)

module _ (t t' : Towers) (key : ℕ) (same : (k : ℕ) → k ≢ key → get t'.slab k ≡ get t.slab k) where
  tall_still : (l k : ℕ) → suc key ≢ suc k → tall t' l k ≡ tall t l k
  tall_still l k other = ap (λ s. nat_lt l (length (links_of s))) (same k (λ q. other (ap suc (sym q))))

  reaches_still : (l : ℕ) (ks : List ℕ) (o d last left : ℕ) → Lacks (suc key) ks → Reaches (tall t l) ks o d last left → Reaches (tall t' l) ks o d last left
  reaches_still l [] o d last left lacks r = r
  reaches_still l (k ∷ ks) o d last left lacks (inl r) = inl (tall_still l k lacks.0 ∙ r.0, reaches_still l ks (suc k) 0 last left lacks.1 r.1)
  reaches_still l (k ∷ ks) o d last left lacks (inr r) = inr (tall_still l k lacks.0 ∙ r.0, reaches_still l ks o (suc d) last left lacks.1 r.1)

-- where the tower at a rank left, a path to it leads to the one that took its place
module _ (t0 t1 t2 : Towers) (key rank : ℕ) (linked : IsLinked t0) (h : Unthreads t0 t1 key rank) (lt : rank < length (order t0)) (at : get_or (order t0) rank 0 ≡ key)
    (head : t2.head ≡ t1.head) (same : (k : ℕ) → k ≢ key → get t2.slab k ≡ get t1.slab k) (len : suc t2.len ≡ t1.len) where
  front_is : take rank (order t2) ≡ take rank (order t0)
  front_is = ap (take rank) (ordered_as t2 (without_at (order t0) rank) (left_as t0 t1 t2 key rank linked h lt at head same len)) ∙ front_stays (order t0) rank lt

  front_lacks : Lacks (suc key) (take rank (order t0))
  front_lacks = lacks_front (suc key) (take rank (order t0)) (drop (suc rank) (order t0)) (left_fresh t0 t1 t2 key rank linked h lt at head same len)

  still_reached : (l owner left : ℕ) → Reaches (tall t0 l) (take rank (order t0)) 0 0 owner left → Reaches (tall t2 l) (take rank (order t2)) 0 0 owner left
  still_reached l owner left r = subst (λ ks. Reaches (tall t2 l) ks 0 0 owner left) (sym front_is)
      (reaches_still t1 t2 key same l (take rank (order t0)) 0 0 owner left front_lacks
      (subst (λ f. Reaches f (take rank (order t0)) 0 0 owner left) (sym (tall_kept t0 t1 h.keeps.heights l)) r))

  pub path_stays : (path : List Place) → IsPath t0 rank path → IsPath t2 rank path
  path_stays path is = λ l low. (let a = is l low in (a.0, still_reached l (get_or path l no_place).owner a.0 a.1, a.2))

-- a tower stands at the rank while some of the range are left
pub some_left : (t : Towers) (old : List Element) (from at to : ℕ) → items t ≡ range_removed old from at → from ≤ at → at < to → to ≤ length old → from < length (order t)
some_left t old from at to is begun less inside = omega (
  arith,
  ap length is,
  length_of_map (element_at t) (order t),
  range_length old from at begun (omega (arith, less, inside)),
  less,
  inside,
)
