-- Moves one behind the other span what each of them spans, and the turns of a page.
use Rattle.std.proofs.Common.{◌≡◌, ℕ, Bool, List, [], ◌∷◌, ◌++◌, ◌<◌, ◌≤◌, ◌+◌, zero, suc, refl, sym, ap, ◌∙◌, arith, Some, None, Option, inl, inr, subst}
use Rattle.std.proofs.lemmas.Bool.{cases_lt}
use Rattle.rev_cursor.specs.Place.{place, end_of, end_within}
use Rattle.std.specs.Prelude.{◌==◌, nat_le, true, false, length}
use Rattle.std.proofs.lemmas.Bool.Decides.{nat_tests}
use Rattle.rev_cursor.specs.Span.{times, Span, StartsAt}
use Rattle.scan_cursor.specs.Page.{scan_from}

times-append : (i : ℕ) (xs ys : List ℕ) → times i (xs ++ ys) ≡ times i xs + times i ys
times-append i [] ys = omega arith
times-append i (x ∷ xs) ys = omega (arith, times-append i xs ys)

-- a cursor that is not 0 ends at its own place
end_of_more : (m : ℕ) → (m ≡ 0 → ⊥) → end_of m ≡ place m
unfolding end_within
end_of_more zero h = absurd (h refl)
end_of_more (suc m) h = refl

joined_once : (o : Option ℕ) (place_of : ℕ → Option ℕ) (c m n i : ℕ) (f g : List ℕ) → place_of i ≡ o → end_of m ≡ place m → Span place_of c m f → Span place_of m n g
    → StartsAt place_of m g → times i (f ++ g) ≤ 1
joined_once None place_of c m n i f g e ends a b start = omega (arith, times-append i f g, a.real i e, b.real i e)
joined_once (Some at) place_of c m n i f g e ends a b start = elim (cases_lt at (place m)) [
  | inl h ↦ omega (arith, times-append i f g, a.once i, start i at e h)
  | inr h ↦ omega (arith, times-append i f g, b.once i, a.low i at e (omega (arith, ends)))
]

-- two moves, one behind the other
pub joined : (place_of : ℕ → Option ℕ) (c m n : ℕ) (f g : List ℕ) → (m ≡ 0 → ⊥) → Span place_of c m f → Span place_of m n g → StartsAt place_of m g → Span place_of c n (f ++ g)
joined place_of c m n f g more a b start =
    let ends : end_of m ≡ place m = end_of_more m more in
    record {
      on = omega (arith, a.on, b.on, ends);
      once = λ i. joined_once (place_of i) place_of c m n i f g refl ends a b start;
      whole = λ i at e from to. elim (cases_lt at (place m)) [
        | inl h ↦ omega (arith, times-append i f g, a.whole i at e from (omega (arith, ends)), start i at e h)
        | inr h ↦ omega (arith, times-append i f g, b.whole i at e h to, a.low i at e (omega (arith, ends)))
      ];
      low = λ i at e over. omega (arith, times-append i f g, a.low i at e (omega (arith, a.on, b.on, ends)), b.low i at e over);
      real = λ i e. omega (arith, times-append i f g, a.real i e, b.real i e);
    }

pub joined_step : (place_of : ℕ → Option ℕ) (c m n next : ℕ) (f g found : List ℕ) → (m ≡ 0 → ⊥) → Span place_of c m f → Span place_of m n g → StartsAt place_of m g → found ≡ f ++ g
    → next ≡ n → Span place_of c next found
joined_step place_of c m n next f g found more a b start is_found is_next = rw (is_found, is_next) (joined place_of c m n f g more a b start)

pub starts_step : (place_of : ℕ → Option ℕ) (move : ℕ → List ℕ) (n next : ℕ) → next ≡ n → StartsAt place_of n (move n) → StartsAt place_of next (move next)
starts_step place_of move n next e start = subst (λ (x : ℕ). StartsAt place_of x (move x)) (sym e) start

-- one turn of a page, and its three ends
pub scan_more : (move : ℕ → List ℕ) (after : ℕ → ℕ) (left fewer count at next : ℕ) (met found : List ℕ) (whole : List ℕ × ℕ) → left ≡ suc fewer → (at ≡ 0 → ⊥) → length met < count
    → found ≡ met ++ move at → next ≡ after at → scan_from move after left count met at ≡ whole → scan_from move after fewer count found next ≡ whole
unfolding scan_from
scan_more move after left fewer count at next met found whole is_left more few is_found is_next so_far =
    let zero_no : (at == 0) ≡ false = grind (arith, nat_tests) in
    let met_no : nat_le count (length met) ≡ false = grind (arith, nat_tests) in
    let turn : scan_from move after (suc fewer) count met at ≡ scan_from move after fewer count (met ++ move at) (after at) = rw (zero_no, met_no) refl in
    rw (is_found, is_next) (sym turn ∙ ap (λ (x : ℕ). scan_from move after x count met at) (sym is_left) ∙ so_far)

pub scan_at_zero : (move : ℕ → List ℕ) (after : ℕ → ℕ) (left count at : ℕ) (met : List ℕ) (whole : List ℕ × ℕ) → at ≡ 0 → scan_from move after left count met at ≡ whole → whole ≡ (met, at)
unfolding scan_from
scan_at_zero move after zero count at met whole e so_far = sym so_far
scan_at_zero move after (suc left) count at met whole e so_far =
    let stop : (at == 0) ≡ true = grind (arith, nat_tests) in
    sym so_far ∙ rw stop refl

pub scan_at_enough : (move : ℕ → List ℕ) (after : ℕ → ℕ) (left count at : ℕ) (met : List ℕ) (whole : List ℕ × ℕ) → (at ≡ 0 → ⊥) → count ≤ length met
    → scan_from move after left count met at ≡ whole → whole ≡ (met, at)
unfolding scan_from
scan_at_enough move after zero count at met whole n e so_far = sym so_far
scan_at_enough move after (suc left) count at met whole n e so_far =
    let zero_no : (at == 0) ≡ false = grind (arith, nat_tests) in
    let stop : nat_le count (length met) ≡ true = grind (arith, nat_tests) in
    sym so_far ∙ rw (zero_no, stop) refl

pub scan_at_end : (move : ℕ → List ℕ) (after : ℕ → ℕ) (left count at : ℕ) (met : List ℕ) (whole : List ℕ × ℕ) → left ≡ 0 → scan_from move after left count met at ≡ whole → whole ≡ (met, at)
unfolding scan_from
scan_at_end move after left count at met whole e so_far = sym so_far ∙ rw e refl
