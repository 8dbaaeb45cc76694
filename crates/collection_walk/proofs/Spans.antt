-- A move of a scan over a packed form gives all items at once.
use Rattle.std.proofs.Common.{◌≡◌, ℕ, zero, suc, ◌<◌, ◌≤◌, ◌^◌, List, [], ◌∷◌, Option, refl, sym, ap, subst, arith, inl, inr}
use Rattle.std.proofs.lemmas.Bool.{cases_eq}
use Rattle.rev_cursor.specs.Place.{place, end_of}
use Rattle.rev_cursor.specs.Span.{times, Span, StartsAt}
use Rattle.rev_cursor.proofs.Reversal.{reversed_below}
use Rattle.rev_cursor.proofs.Places.{reversed_zero}
use Rattle.rev_cursor.proofs.Walks.{end_of_zero}
use Rattle.rehash_dict.proofs.Counts.{times_here, times_past, times-append}
use Rattle.collection_walk.specs.Places.{upto, HavePlaces}

-- each number below another stands once below it
last_once : (n : ℕ) → times n (n ∷ []) ≡ 1
last_once n = times_here n []

upto_above : (n i : ℕ) → n ≤ i → times i (upto n) ≡ 0
upto_above zero i h = refl
upto_above (suc n) i h = omega (arith, times-append i (upto n) (n ∷ []), upto_above n i (omega (arith, h)), times_past i n [] (omega (arith, h)))

upto_below : (n i : ℕ) → i < n → times i (upto n) ≡ 1
upto_below zero i h = absurd (omega (arith, h))
upto_below (suc n) i h = elim (cases_eq i n) [
  | inl same ↦ omega (arith, times-append i (upto n) (n ∷ []), upto_above n i (omega (arith, same)), ap (λ k. times i (k ∷ [])) (sym same), last_once i)
  | inr other ↦ omega (arith, times-append i (upto n) (n ∷ []), upto_below n i (omega (arith, h, other)), times_past i n [] (omega (arith, other)))
]

upto_once : (n i : ℕ) → times i (upto n) ≤ 1
upto_once zero i = omega arith
upto_once (suc n) i = elim (cases_eq i n) [
  | inl same ↦ omega (arith, upto_below (suc n) i (omega (arith, same)))
  | inr other ↦ omega (arith, times-append i (upto n) (n ∷ []), upto_once n i, times_past i n [] (omega (arith, other)))
]

pub all_spans : (count cursor : ℕ) (place_of : ℕ → Option ℕ) → HavePlaces count place_of → Span place_of cursor 0 (upto count)
all_spans count cursor place_of can = record {
  on = subst (λ e. place cursor < e) (sym end_of_zero) (reversed_below 64 cursor);
  once = upto_once count;
  whole = λ i at is low high. upto_below count i (can.real i at is).0;
  low = λ i at is high. absurd (let e : end_of 0 ≡ 2 ^ 64 = end_of_zero in omega (arith, (can.real i at is).1, high, e));
  real = λ i none. upto_above count i (can.all i none);
}

pub all_starts : (place_of : ℕ → Option ℕ) (found : List ℕ) → StartsAt place_of 0 found
all_starts place_of found i at is below = absurd (let z : place 0 ≡ 0 = reversed_zero 64 in omega (arith, below, z))
