-- Elements of a list that go.
use Rattle.std.proofs.Common.{◌≡◌, ℕ, zero, suc, ◌+◌, ◌<◌, ◌≤◌, List, [], ◌∷◌, ◌++◌, length, take, drop, get_or, refl, ap, ◌∙◌, sym, subst, arith, length-append, Option, Some, None}
use Rattle.std.specs.Prelude.{MatchOption, Bool, true, false, not, bytes_eq, if◌then◌else◌}
use Rattle.std.proofs.lemmas.Bool.Decides.{nat_tests}
use Rattle.std.proofs.lemmas.List.{take-append-drop, take_more, length-take-le, length-drop, drop_all}
use Rattle.std.proofs.lemmas.List.Filters.{length-filter_both}
use Rattle.std.proofs.lemmas.List.Sums.{length-filter, sum_by-take-le, sum_by-take-drop, sum_by-drop_more, sum_by_more}
use Rattle.listpack.specs.Pack.{texts, IsAt}
use Rattle.quicklist.specs.declared.reach.Reach.{Reach}
use Rattle.quicklist.specs.Equal.{goes, going, cleared, others, equals, IsFromHead, IsFromTail}

-- the offset of the element at an index of a listpack, or none where there is no such element
abbrev pub IsNext : List ℕ → ℕ → Option ℕ → Type 0
IsNext bytes j place = MatchOption place (length (texts bytes) ≤ j) (λ at. IsAt bytes j at)

pub next_first : (bytes : List ℕ) (place : Option ℕ) → MatchOption place (length (texts bytes) ≡ 0) (λ at. IsAt bytes 0 at) → IsNext bytes 0 place
next_first bytes None h = omega (arith, h)
next_first bytes (Some at) h = h

pub next_at : (bytes : List ℕ) (j : ℕ) (place : Option ℕ) (at : ℕ) → IsNext bytes j place → place ≡ Some at → IsAt bytes j at
next_at bytes j place at h is = let Q : Option ℕ → Type 0 = λ o. IsNext bytes j o in subst Q is h

pub next_next : (bytes : List ℕ) (j : ℕ) (place : Option ℕ) → MatchOption place (j + 1 ≡ length (texts bytes)) (λ at. IsAt bytes (j + 1) at) → IsNext bytes (j + 1) place
next_next bytes j None h = omega (arith, h)
next_next bytes j (Some at) h = h

-- an element that goes, or stays
abbrev pub unless : Bool → List ℕ → List (List ℕ)
unless b x = if b then [] else x ∷ []

unless_front : (b : Bool) (x : List ℕ) (rest more : List (List ℕ)) → (if b then rest ++ more else x ∷ (rest ++ more)) ≡ (if b then rest else x ∷ rest) ++ more
unless_front true x rest more = refl
unless_front false x rest more = refl

pub cleared_append : (r : Reach) (i : ℕ) (xs ys : List (List ℕ)) → cleared r i (xs ++ ys) ≡ cleared r i xs ++ cleared r (i + length xs) ys
cleared_append r i [] ys = let e : i ≡ i + length {A = List ℕ} [] = omega arith in ap (λ (k : ℕ). cleared r k ys) e
cleared_append r i (x ∷ xs) ys =
    let e : suc i + length xs ≡ i + length (x ∷ xs) = omega arith in
    ap (λ (zs : List (List ℕ)). if goes r i x then zs else x ∷ zs) (cleared_append r (suc i) xs ys ∙ ap (λ (k : ℕ). cleared r (suc i) xs ++ cleared r k ys) e)
    ∙ unless_front (goes r i x) x (cleared r (suc i) xs) (cleared r (i + length (x ∷ xs)) ys)

-- one element more
pub cleared_more : (r : Reach) (i : ℕ) (xs : List (List ℕ)) (k : ℕ) (x : List ℕ) → k < length xs → x ≡ get_or xs k []
    → cleared r i (take (k + 1) xs) ≡ cleared r i (take k xs) ++ unless (goes r (i + k) x) x
cleared_more r i xs k x h is =
    let size : length (take k xs) ≡ k = length-take-le k xs (omega (arith, h)) in
    ap (cleared r i) (take_more xs k [] h ∙ ap (λ (y : List ℕ). take k xs ++ y ∷ []) (sym is)) ∙ cleared_append r i (take k xs) (x ∷ [])
    ∙ ap (λ (n : ℕ). cleared r i (take k xs) ++ cleared r (i + n) (x ∷ [])) size

-- how many go of one element more
pub going_yes : (r : Reach) (i : ℕ) (xs : List (List ℕ)) (k going : ℕ) (x : List ℕ) → k < length xs → x ≡ get_or xs k [] → going + length (cleared r i (take k xs)) ≡ k → goes r (i + k) x ≡ true
    → (going + 1) + length (cleared r i (take (k + 1) xs)) ≡ k + 1
going_yes r i xs k going x h is so_far out =
    let more = ap length (cleared_more r i xs k x h is ∙ ap (λ (b : Bool). cleared r i (take k xs) ++ unless b x) out) in
    omega (arith, more, length-append (cleared r i (take k xs)) [], so_far)

pub going_no : (r : Reach) (i : ℕ) (xs : List (List ℕ)) (k going : ℕ) (x : List ℕ) → k < length xs → x ≡ get_or xs k [] → going + length (cleared r i (take k xs)) ≡ k → goes r (i + k) x ≡ false
    → going + length (cleared r i (take (k + 1) xs)) ≡ k + 1
going_no r i xs k going x h is so_far stays =
    let more = ap length (cleared_more r i xs k x h is ∙ ap (λ (b : Bool). cleared r i (take k xs) ++ unless b x) stays) in
    omega (arith, more, length-append (cleared r i (take k xs)) (x ∷ []), so_far)

length_unless : (b : Bool) (x : List ℕ) (rest : List (List ℕ)) → length (if b then rest else x ∷ rest) ≤ suc (length rest)
length_unless true x rest = omega arith
length_unless false x rest = omega arith

pub cleared_short : (r : Reach) (i : ℕ) (xs : List (List ℕ)) → length (cleared r i xs) ≤ length xs
cleared_short r i [] = omega arith
cleared_short r i (x ∷ xs) = omega (arith, cleared_short r (suc i) xs, length_unless (goes r i x) x (cleared r (suc i) xs))

same_or : (b : Bool) (x : List ℕ) (xs rest : List (List ℕ)) → length (x ∷ xs) ≤ length (if b then rest else x ∷ rest) → length rest ≤ length xs → (length xs ≤ length rest → rest ≡ xs)
    → (if b then rest else x ∷ rest) ≡ x ∷ xs
same_or true x xs rest h short same = absurd (omega (arith, h, short))
same_or false x xs rest h short same = ap (λ (zs : List (List ℕ)). x ∷ zs) (same (omega (arith, h)))

-- where as many are left, all are
pub cleared_same : (r : Reach) (i : ℕ) (xs : List (List ℕ)) → length xs ≤ length (cleared r i xs) → cleared r i xs ≡ xs
cleared_same r i [] h = refl
cleared_same r i (x ∷ xs) h = same_or (goes r i x) x xs (cleared r (suc i) xs) h (cleared_short r (suc i) xs) (λ l. cleared_same r (suc i) xs l)

-- elements before and behind those of a reach
before_reach : (r : Reach) (i : ℕ) (x : List ℕ) → i < r.from → goes r i x ≡ false
before_reach r i x h = grind (arith, nat_tests)

behind_reach : (r : Reach) (i : ℕ) (x : List ℕ) → r.to ≤ i → goes r i x ≡ false
behind_reach r i x h = grind (arith, nat_tests)

pub in_reach : (r : Reach) (i : ℕ) (x : List ℕ) → r.from ≤ i → i < r.to → goes r i x ≡ bytes_eq x r.text.now
in_reach r i x h l = grind (arith, nat_tests)

pub cleared_before : (r : Reach) (i : ℕ) (xs : List (List ℕ)) → i + length xs ≤ r.from → cleared r i xs ≡ xs
cleared_before r i [] h = refl
cleared_before r i (x ∷ xs) h =
    let n : length (x ∷ xs) ≡ suc (length xs) = refl in
    ap (λ (b : Bool). if b then cleared r (suc i) xs else x ∷ cleared r (suc i) xs) (before_reach r i x (omega (arith, h, n)))
    ∙ ap (λ (zs : List (List ℕ)). x ∷ zs) (cleared_before r (suc i) xs (omega (arith, h, n)))

pub cleared_behind : (r : Reach) (i : ℕ) (xs : List (List ℕ)) → r.to ≤ i → cleared r i xs ≡ xs
cleared_behind r i [] h = refl
cleared_behind r i (x ∷ xs) h =
    ap (λ (b : Bool). if b then cleared r (suc i) xs else x ∷ cleared r (suc i) xs) (behind_reach r i x h)
    ∙ ap (λ (zs : List (List ℕ)). x ∷ zs) (cleared_behind r (suc i) xs (omega (arith, h)))

turned : (b : Bool) (x : List ℕ) (rest : List (List ℕ)) → (if b then rest else x ∷ rest) ≡ (if not b then x ∷ rest else rest)
turned true x rest = refl
turned false x rest = refl

pub cleared_within : (r : Reach) (i : ℕ) (xs : List (List ℕ)) → r.from ≤ i → i + length xs ≤ r.to → cleared r i xs ≡ others r.text.now xs
cleared_within r i [] h l = refl
cleared_within r i (x ∷ xs) h l =
    let n : length (x ∷ xs) ≡ suc (length xs) = refl in
    ap (λ (b : Bool). if b then cleared r (suc i) xs else x ∷ cleared r (suc i) xs) (in_reach r i x h (omega (arith, l, n)))
    ∙ ap (λ (zs : List (List ℕ)). if bytes_eq x r.text.now then zs else x ∷ zs) (cleared_within r (suc i) xs (omega (arith, h)) (omega (arith, l, n)))
    ∙ turned (bytes_eq x r.text.now) x (others r.text.now xs)

-- a reach that begins at the head, and one that goes to the tail
pub cleared_front : (r : Reach) (xs : List (List ℕ)) → r.from ≡ 0 → r.to ≤ length xs → cleared r 0 xs ≡ others r.text.now (take r.to xs) ++ drop r.to xs
cleared_front r xs from to =
    let size : length (take r.to xs) ≡ r.to = length-take-le r.to xs to in
    ap (cleared r 0) (sym (take-append-drop r.to xs)) ∙ cleared_append r 0 (take r.to xs) (drop r.to xs)
    ∙ ap (λ (zs : List (List ℕ)). zs ++ cleared r (0 + length (take r.to xs)) (drop r.to xs)) (cleared_within r 0 (take r.to xs) (omega (arith, from)) (omega (arith, size)))
    ∙ ap (λ (zs : List (List ℕ)). others r.text.now (take r.to xs) ++ zs) (cleared_behind r (0 + length (take r.to xs)) (drop r.to xs) (omega (arith, size)))

pub cleared_back : (r : Reach) (xs : List (List ℕ)) → r.from ≤ length xs → r.to ≡ length xs → cleared r 0 xs ≡ take r.from xs ++ others r.text.now (drop r.from xs)
cleared_back r xs from to =
    let size : length (take r.from xs) ≡ r.from = length-take-le r.from xs from in
    ap (cleared r 0) (sym (take-append-drop r.from xs)) ∙ cleared_append r 0 (take r.from xs) (drop r.from xs)
    ∙ ap (λ (zs : List (List ℕ)). zs ++ cleared r (0 + length (take r.from xs)) (drop r.from xs)) (cleared_before r 0 (take r.from xs) (omega (arith, size)))
    ∙ ap (λ (zs : List (List ℕ)). take r.from xs ++ zs) (cleared_within r (0 + length (take r.from xs)) (drop r.from xs) (omega (arith, size)) (omega (arith, size, to, length-drop r.from xs)))

-- how many go
equals_others : (text : List ℕ) (xs : List (List ℕ)) → equals text xs + length (others text xs) ≡ length xs
equals_others text xs =
    let both = length-filter_both (λ x. bytes_eq x text) (λ x. not (bytes_eq x text)) (λ x. refl) xs in omega (arith, both, length-filter (λ x. bytes_eq x text) xs)

pub reach_head : (r : Reach) (xs : List (List ℕ)) (many : ℕ) → r.from ≡ 0 → r.to ≤ length xs → equals r.text.now (take r.to xs) ≡ many
    → (many + length (cleared r 0 xs) ≡ length xs) × IsFromHead r.text.now many xs (cleared r 0 xs)
reach_head r xs many from to counted =
    let is = cleared_front r xs from to in (
      omega (arith, ap length is, length-append (others r.text.now (take r.to xs)) (drop r.to xs), equals_others r.text.now (take r.to xs), counted, length-take-le r.to xs to, length-drop r.to xs),
      record { front = take r.to xs; rest = drop r.to xs; was = sym (take-append-drop r.to xs); is = is; counted = counted },
    )

pub reach_tail : (r : Reach) (xs : List (List ℕ)) (many : ℕ) → r.from ≤ length xs → r.to ≡ length xs → equals r.text.now (drop r.from xs) ≡ many
    → (many + length (cleared r 0 xs) ≡ length xs) × IsFromTail r.text.now many xs (cleared r 0 xs)
reach_tail r xs many from to counted =
    let is = cleared_back r xs from to in (
      omega (
        arith,
        ap length is,
        length-append (take r.from xs) (others r.text.now (drop r.from xs)),
        equals_others r.text.now (drop r.from xs),
        counted,
        length-take-le r.from xs from,
        length-drop r.from xs,
      ),
      record { rest = take r.from xs; back = drop r.from xs; was = sym (take-append-drop r.from xs); is = is; counted = counted },
    )

-- how many of some elements are a text
pub equals_front : (text : List ℕ) (xs : List (List ℕ)) (k : ℕ) → equals text (take k xs) ≤ equals text xs
equals_front text xs k = sum_by-take-le (λ x. if bytes_eq x text then 1 else 0) xs k

pub equals_back : (text : List ℕ) (xs : List (List ℕ)) (k : ℕ) → equals text (drop k xs) ≤ equals text xs
equals_back text xs k = omega (arith, sum_by-take-drop (λ x. if bytes_eq x text then 1 else 0) xs k)

pub head_yes : (text : List ℕ) (xs : List (List ℕ)) (k : ℕ) (x : List ℕ) → k < length xs → x ≡ get_or xs k [] → bytes_eq x text ≡ true → equals text (take (k + 1) xs) ≡ equals text (take k xs) + 1
head_yes text xs k x h is same =
    sum_by_more (λ y. if bytes_eq y text then 1 else 0) xs k [] h ∙ ap (λ (y : List ℕ). equals text (take k xs) + (if bytes_eq y text then 1 else 0)) (sym is)
    ∙ ap (λ (b : Bool). equals text (take k xs) + (if b then 1 else 0)) same

pub head_no : (text : List ℕ) (xs : List (List ℕ)) (k : ℕ) (x : List ℕ) → k < length xs → x ≡ get_or xs k [] → bytes_eq x text ≡ false → equals text (take (k + 1) xs) ≡ equals text (take k xs)
head_no text xs k x h is other =
    let e = sum_by_more (λ y. if bytes_eq y text then 1 else 0) xs k [] h ∙ ap (λ (y : List ℕ). equals text (take k xs) + (if bytes_eq y text then 1 else 0)) (sym is)
    ∙ ap (λ (b : Bool). equals text (take k xs) + (if b then 1 else 0)) other in omega (arith, e)

pub tail_yes : (text : List ℕ) (xs : List (List ℕ)) (k : ℕ) (x : List ℕ) → k < length xs → x ≡ get_or xs k [] → bytes_eq x text ≡ true → equals text (drop k xs) ≡ 1 + equals text (drop (k + 1) xs)
tail_yes text xs k x h is same =
    sum_by-drop_more (λ y. if bytes_eq y text then 1 else 0) xs k [] h ∙ ap (λ (y : List ℕ). (if bytes_eq y text then 1 else 0) + equals text (drop (k + 1) xs)) (sym is)
    ∙ ap (λ (b : Bool). (if b then 1 else 0) + equals text (drop (k + 1) xs)) same

pub tail_no : (text : List ℕ) (xs : List (List ℕ)) (k : ℕ) (x : List ℕ) → k < length xs → x ≡ get_or xs k [] → bytes_eq x text ≡ false → equals text (drop k xs) ≡ equals text (drop (k + 1) xs)
tail_no text xs k x h is other =
    let e = sum_by-drop_more (λ y. if bytes_eq y text then 1 else 0) xs k [] h ∙ ap (λ (y : List ℕ). (if bytes_eq y text then 1 else 0) + equals text (drop (k + 1) xs)) (sym is)
    ∙ ap (λ (b : Bool). (if b then 1 else 0) + equals text (drop (k + 1) xs)) other in omega (arith, e)

pub none_behind : (text : List ℕ) (xs : List (List ℕ)) (k : ℕ) → length xs ≤ k → 0 ≡ equals text (drop k xs)
none_behind text xs k h = ap (equals text) (sym (drop_all k xs h))

-- what holds of an answer holds in other words too
pub match_as : {A P R : Type 0} {Q S : A → Type 0} (o : Option A) → (P → R) → ((x : A) → Q x → S x) → MatchOption o P Q → MatchOption o R S
match_as None f g h = f h
match_as (Some x) f g h = g x h

-- how many go where so many are wanted, and where fewer are there
pub going_wanted : (n all : ℕ) → 0 < n → n ≤ all → going n all ≡ n
going_wanted zero all h l = absurd (omega arith)
going_wanted (suc n) all h l = omega (arith, l)

pub going_all : (n all : ℕ) → (0 < n → all < n) → going n all ≡ all
going_all zero all h = refl
going_all (suc n) all h = omega (arith, h (omega arith))
