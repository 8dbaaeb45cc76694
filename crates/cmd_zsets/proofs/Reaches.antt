-- Ranges of places, and limits.
use Rattle.std.proofs.Common.{◌≡◌, inl, inr, ℕ, ◌+◌, ◌-◌, ◌≤◌, min, ℤ, pos, negsuc, int_lt, unsigned_abs, true, false, List, length, take, drop, sym, ap, ◌∙◌, arith}
use Rattle.std.proofs.lemmas.Bool.{cases_lt, ltb-true}
use Rattle.std.proofs.lemmas.List.{length-drop, length-take-le, take_min, drop_all, drop-take, drop-drop, take-take, take_all}
use Rattle.std.proofs.Math.Seq.{take-nil}
use Rattle.plain_model.specs.ListSteps.{range_start, range_end, list_range}
use Rattle.plain_model.specs.ZsetSteps.{Scored, behind, at_most}
use Rattle.plain_model.specs.declared.zset_command.Direction.{Direction}
use Rattle.plain_model.specs.declared.zset_command.Direction.TheVariants.{Rising, Falling}
use Rattle.cmd_zsets.specs.Spans.{start_of}

-- a range ends with its list
range_is : (xs : List Scored) (first end : ℕ) → take (min end (length xs) - first) (drop (min first (length xs)) xs) ≡ take (end - first) (drop first xs)
range_is xs first end = elim (cases_lt (length xs) first) [
  | inl past ↦
      ap (take (min end (length xs) - first)) (drop_all (min first (length xs)) xs (omega (arith, past))) ∙ take-nil (min end (length xs) - first)
      ∙ sym (ap (take (end - first)) (drop_all first xs (omega (arith, past))) ∙ take-nil (end - first))
  | inr within ↦
      let start : min first (length xs) ≡ first = omega (arith, within) in
      let size = length-drop first xs in
      let many : min end (length xs) - first ≡ min (end - first) (length (drop first xs)) = omega (arith, within, size) in
      ap (λ i. take (min end (length xs) - first) (drop i xs)) start ∙ ap (λ n. take n (drop first xs)) many ∙ take_min (end - first) (drop first xs)
]

-- how many members a range has of so many, and where it begins
pub reach_is : (xs : List Scored) (a b : ℤ) (len first end start stop count : ℕ) → length xs ≡ len → first ≡ range_start len a → end ≡ range_end len b → start ≡ min first len
    → stop ≡ min end len → count ≡ stop - first
    → take count (drop start xs) ≡ list_range xs a b
reach_is xs a b len first end start stop count size f e s t n =
    let from : start ≡ min first (length xs) = omega (arith, s, size) in
    let many : count ≡ min end (length xs) - first = omega (arith, n, t, size) in
    ap (λ n. take n (drop start xs)) many ∙ ap (λ i. take (min end (length xs) - first) (drop i xs)) from ∙ range_is xs first end
    ∙ ap (λ n. take (n - first) (drop first xs)) (e ∙ ap (λ n. range_end n b) (sym size)) ∙ ap (λ i. take (range_end (length xs) b - i) (drop i xs)) (f ∙ ap (λ n. range_start n a) (sym size))

-- ---- limits

pub behind_none : (n : ℤ) (list : List Scored) (count : ℕ) → int_lt n (pos 0) ≡ true → length list ≡ count → drop count list ≡ behind n list
behind_none (pos n) list count below long = absurd (omega (arith, ltb-true n 0 below))
behind_none (negsuc n) list count below long = drop_all count list (omega (arith, long))

pub behind_some : (n : ℤ) (list : List Scored) (count many : ℕ) → int_lt n (pos 0) ≡ false → length list ≡ count → many ≡ min (unsigned_abs n) count → drop many list ≡ behind n list
behind_some (negsuc n) list count many below long is = cc
behind_some (pos n) list count many below long is = elim (cases_lt count n) [
  | inl past ↦ drop_all many list (omega (arith, is, past, long)) ∙ sym (drop_all n list (omega (arith, past, long)))
  | inr within ↦ (let same : many ≡ n = omega (arith, is, within) in ap (λ k. drop k list) same)
]

pub first_all : (n : ℤ) (list : List Scored) (count : ℕ) → int_lt n (pos 0) ≡ true → length list ≡ count → take count list ≡ at_most n list
first_all (pos n) list count below long = absurd (omega (arith, ltb-true n 0 below))
first_all (negsuc n) list count below long = ap (λ k. take k list) (sym long) ∙ take_all (length list) list (omega arith)

pub first_some : (n : ℤ) (list : List Scored) (count many : ℕ) → int_lt n (pos 0) ≡ false → length list ≡ count → many ≡ min (unsigned_abs n) count → take many list ≡ at_most n list
first_some (negsuc n) list count many below long is = cc
first_some (pos n) list count many below long is = (let same : many ≡ min n (length list) = omega (arith, is, long) in ap (λ k. take k list) same ∙ take_min n list)

-- so many are passed over, and so many are left
pub limit_is : (list : List Scored) (start count over left : ℕ) (offset most : ℤ) → start + count ≤ length list → over ≤ count → left ≤ count - over
    → ((l : List Scored) → length l ≡ count → drop over l ≡ behind offset l) → ((l : List Scored) → length l ≡ count - over → take left l ≡ at_most most l)
    → take left (drop (start + over) list) ≡ at_most most (behind offset (take count (drop start list)))
limit_is list start count over left offset most inside passed few behind_is most_is =
    let rest = drop start list in
    let size : length (take count rest) ≡ count = length-take-le count rest (omega (arith, inside, length-drop start list)) in
    let sum : count ≡ over + (count - over) = omega (arith, passed) in
    let part : drop over (take count rest) ≡ take (count - over) (drop over rest) = ap (λ n. drop over (take n rest)) sum ∙ drop-take over (count - over) rest in
    sym (ap (at_most most) (sym (behind_is (take count rest) size))
    ∙ sym (most_is (drop over (take count rest)) (omega (arith, size, length-drop over (take count rest))))
    ∙ ap (take left) part ∙ take-take left (count - over) (drop over rest) few ∙ ap (take left) (drop-drop over start list))

-- ---- where a part is met

-- the members between two ranks are among all, from either end
pub start_inside : (from : Direction) (len low high start : ℕ) → low ≤ high → high ≤ len → start ≡ start_of from len low high → start + (high - low) ≤ len
start_inside Rising len low high start p q e = omega (arith, p, q, e)
start_inside Falling len low high start p q e = omega (arith, p, q, e)
