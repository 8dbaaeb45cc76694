-- A rising list into which a number is put, and from which one is taken.
use Rattle.std.proofs.Common.{◌≡◌, ℕ, zero, suc, ◌+◌, ◌-◌, ◌<◌, ◌≤◌, List, [], ◌∷◌, length, get_or, refl, sym, ap, ◌∙◌, arith, inl, inr, true, false}
use Rattle.std.specs.Prelude.{ℤ, ◌<ℤ◌, int_lt}
use Rattle.std.specs.Ordering.{int_eq}
use Rattle.std.specs.List.{insert, remove, filter}
use Rattle.std.proofs.lemmas.Int.{ints}
use Rattle.std.proofs.lemmas.Bool.{cases_lt}
use Rattle.std.proofs.lemmas.List.Edits.{get_or-insert_below, get_or-insert_at, get_or-insert_above, length-insert}
use Rattle.std.proofs.lemmas.List.Sums.{length-filter}
use Rattle.intset.specs.Intset.{IsRising, with_number, without_number}
use Rattle.intset.specs.Places.{IsPlace}

lt_true : (a b : ℤ) → a <ℤ b → int_lt a b ≡ true
lt_true a b h = grind (arith, ints)

lt_false : (a b : ℤ) → b <ℤ a → int_lt a b ≡ false
lt_false a b h = grind (arith, ints)

-- as many numbers are less as stand before the place
filter_place : (numbers : List ℤ) (n : ℤ) (place : ℕ) → IsPlace numbers n place → length (filter (λ x. int_lt x n) numbers) ≡ place
filter_place [] n place at = let w = at.within in omega arith
filter_place (x ∷ numbers) n zero at =
    let no : int_lt x n ≡ false = lt_false x n (at.after 0 x (omega arith) (omega arith)) in
    let rest = filter_place numbers n zero (record { within = omega arith; before = λ k d h. absurd (omega arith); after = λ k d from upto. at.after (suc k) d (omega arith) (omega arith) }) in
    rw no rest
filter_place (x ∷ numbers) n (suc place) at =
    let yes : int_lt x n ≡ true = lt_true x n (at.before 0 x (omega arith)) in
    let w = at.within in
    let rest = filter_place numbers n place
    (record { within = omega arith; before = λ k d h. at.before (suc k) d (omega arith); after = λ k d from upto. at.after (suc k) d (omega arith) (omega arith) }) in
    rw (yes, rest) refl

-- a number put in at its place
pub insert_place : (numbers : List ℤ) (n : ℤ) (place : ℕ) → IsPlace numbers n place → insert numbers place n ≡ with_number numbers n
insert_place numbers n place at =
    ap (λ k. insert numbers k n) (sym (sym (length-filter (λ x. int_lt x n) numbers) ∙ filter_place numbers n place at))

rising_insert_last : (numbers : List ℤ) (n : ℤ) (place : ℕ) → IsRising numbers → IsPlace numbers n place → (i j : ℕ) (d : ℤ) → i ≤ j → place ≤ j → j < length numbers
    → get_or (insert numbers place n) i d <ℤ get_or numbers j d
rising_insert_last numbers n place rising at i j d below from within = elim (cases_lt i place) [
  | inl front ↦ rw (get_or-insert_below numbers place n d i front at.within) (rising i j d (omega arith) within)
  | inr back ↦ elim (cases_lt place i) [
    | inl after ↦
        let up : (i - 1) + 1 ≡ i = omega arith in
        let left : get_or (insert numbers place n) i d ≡ get_or numbers (i - 1) d = ap (λ m. get_or (insert numbers place n) m d) (sym up)
        ∙ get_or-insert_above numbers place n d (i - 1) (omega arith) at.within in
        rw left (rising (i - 1) j d (omega arith) within)
    | inr here ↦
        let same : i ≡ place = omega arith in
        rw (same, get_or-insert_at numbers place n d at.within) (at.after j d from within)
  ]
]

pub rising_insert : (numbers : List ℤ) (n : ℤ) (place : ℕ) → IsRising numbers → IsPlace numbers n place → IsRising (insert numbers place n)
rising_insert numbers n place rising at i zero d below within = absurd (omega arith)
rising_insert numbers n place rising at i (suc j) d below within =
    let long = length-insert numbers place n at.within in
    let up : j + 1 ≡ suc j = omega arith in
    elim (cases_lt (suc j) place) [
      | inl front ↦
          rw (get_or-insert_below numbers place n d i (omega arith) at.within, get_or-insert_below numbers place n d (suc j) front at.within)
          (rising i (suc j) d below (let w = at.within in omega arith))
      | inr back ↦ elim (cases_lt place (suc j)) [
        | inl after ↦
            let right : get_or (insert numbers place n) (suc j) d ≡ get_or numbers j d = ap (λ m. get_or (insert numbers place n) m d) (sym up)
            ∙ get_or-insert_above numbers place n d j (omega arith) at.within in
            rw right (rising_insert_last numbers n place rising at i j d (omega arith) (omega arith) (omega arith))
        | inr here ↦
            let same : suc j ≡ place = omega arith in
            rw (get_or-insert_below numbers place n d i (omega arith) at.within, same, get_or-insert_at numbers place n d at.within) (at.before i d (omega arith))
      ]
    ]

eq_less : (a b : ℤ) → a <ℤ b → int_eq a b ≡ false
eq_less a b h = grind (arith, ints)

eq_more : (a b : ℤ) → b <ℤ a → int_eq a b ≡ false
eq_more a b h = grind (arith, ints)

eq_same : (a : ℤ) → int_eq a a ≡ true
eq_same a = grind (arith, ints)

-- a list none of whose numbers is n stays whole
keeps_all : (numbers : List ℤ) (n : ℤ) → ((k : ℕ) (d : ℤ) → k < length numbers → int_eq (get_or numbers k d) n ≡ false) → without_number numbers n ≡ numbers
keeps_all [] n other = refl
keeps_all (x ∷ numbers) n other =
    let no = other 0 x (omega arith) in
    let rest = keeps_all numbers n (λ k d h. other (suc k) d (omega arith)) in
    rw (no, rest) refl

-- a number taken out from where it stands
pub remove_place : (numbers : List ℤ) (n : ℤ) (place : ℕ) → IsRising numbers → place < length numbers → get_or numbers place n ≡ n → remove numbers place ≡ without_number numbers n
remove_place [] n place rising within found = absurd (omega arith)
remove_place (x ∷ numbers) n zero rising within found =
    let yes : int_eq x n ≡ true = rw found (eq_same n) in
    let rest = keeps_all numbers n (λ k d h. eq_more (get_or numbers k d) n (let up : x <ℤ get_or numbers k d = rising 0 (suc k) d (omega arith) (omega arith) in rw (sym found) up)) in
    rw (yes, rest) refl
remove_place (x ∷ numbers) n (suc place) rising within found =
    let less : x <ℤ n = let up = rising 0 (suc place) n (omega arith) (omega arith) in rw found at up in
    let no = eq_less x n less in
    let rest = remove_place numbers n place (λ i j d below upto. rising (suc i) (suc j) d (omega arith) (omega arith)) (omega arith) found in
    rw (no, ← rest) refl

-- a number that is not there is not taken out
pub absent_without : (numbers : List ℤ) (n : ℤ) (place : ℕ) → IsPlace numbers n place → numbers ≡ without_number numbers n
absent_without numbers n place at = sym (keeps_all numbers n (λ k d h. elim (cases_lt k place) [
  | inl front ↦ eq_less (get_or numbers k d) n (at.before k d front)
  | inr back ↦ eq_more (get_or numbers k d) n (at.after k d back h)
]))
