-- Parts of runs of digits.
use Rattle.std.proofs.Common.{◌≡◌, ℕ, zero, suc, ◌-◌, ◌*◌, ◌^◌, List, [], ◌∷◌, length, take, drop, min, sym, ap, subst, ◌∙◌, arith}
use Rattle.std.specs.Str.Parse.{AllDigits, digits_value, digits_value_after}
use Rattle.std.proofs.lemmas.List.{take_rest}
use Rattle.int_text.specs.Places.{whole_kept, fraction_kept, kept, IsNothingBehind}
use Rattle.int_text.proofs.Capped.{large, capped_after, capped_times}

pub digits_take : (n : ℕ) (ds : List ℕ) → AllDigits 10 ds → AllDigits 10 (take n ds)
digits_take zero ds all = tt
digits_take (suc n) [] all = tt
digits_take (suc n) (c ∷ cs) all = (all.0, digits_take n cs all.1)

pub digits_drop : (n : ℕ) (ds : List ℕ) → AllDigits 10 ds → AllDigits 10 (drop n ds)
digits_drop zero ds all = all
digits_drop (suc n) [] all = tt
digits_drop (suc n) (c ∷ cs) all = digits_drop n cs all.1

pub digits_rest : (ds : List ℕ) (n : ℕ) → AllDigits 10 ds → AllDigits 10 (take (length ds - n) (drop n ds))
digits_rest ds n all = subst (AllDigits 10) (sym (take_rest ds n)) (digits_drop n ds all)

-- the number that the code comes to
pub kept_number : (whole fraction : List ℕ) (before wk fk start digits number : ℕ) → wk ≡ whole_kept whole fraction before → fk ≡ min (before - wk) (length fraction) →
    start ≡ min (digits_value_after 10 0 (take wk whole)) large → digits ≡ min (digits_value_after 10 start (take fk fraction)) large →
    number ≡ min (digits * 10 ^ (before - wk - fk)) large → number ≡ min (kept whole fraction before) large
kept_number whole fraction before wk fk start digits number wk_is fk_is start_is digits_is number_is =
    let s : ℕ = digits_value_after 10 0 (take wk whole) in
    let cut : min (min s large) large ≡ min s large = omega arith in
    let d : digits ≡ min (digits_value_after 10 s (take fk fraction)) large =
    digits_is ∙ ap (λ n. min (digits_value_after 10 n (take fk fraction)) large) start_is ∙ capped_after (min s large) s (take fk fraction) cut in
    let n : number ≡ min (digits_value_after 10 s (take fk fraction) * 10 ^ (before - wk - fk)) large =
    number_is ∙ ap (λ k. min (k * 10 ^ (before - wk - fk)) large) d ∙ capped_times (digits_value_after 10 s (take fk fraction)) (before - wk - fk) in
    let f : fk ≡ fraction_kept whole fraction before = fk_is ∙ ap (λ k. min (before - k) (length fraction)) wk_is in
    n ∙ ap (λ k. min (digits_value_after 10 (digits_value 10 (take wk whole)) (take k fraction) * 10 ^ (before - wk - k)) large) f
    ∙ ap (λ k. min (digits_value_after 10 (digits_value 10 (take k whole)) (take (fraction_kept whole fraction before) fraction) * 10 ^ (before - k - fraction_kept whole fraction before)) large) wk_is

pub nothing_behind : (whole fraction : List ℕ) (before wk fk : ℕ) → wk ≡ whole_kept whole fraction before → fk ≡ min (before - wk) (length fraction) →
    digits_value 10 (take (length whole - wk) (drop wk whole)) ≡ 0 → digits_value 10 (take (length fraction - fk) (drop fk fraction)) ≡ 0 → IsNothingBehind whole fraction before
nothing_behind whole fraction before wk fk wk_is fk_is none_whole none_fraction =
    let f : fk ≡ fraction_kept whole fraction before = fk_is ∙ ap (λ k. min (before - k) (length fraction)) wk_is in
    record {
      of_whole = subst (λ k. digits_value 10 (drop k whole) ≡ 0) wk_is (subst (λ l. digits_value 10 l ≡ 0) (take_rest whole wk) none_whole);
      of_fraction = subst (λ k. digits_value 10 (drop k fraction) ≡ 0) f (subst (λ l. digits_value 10 l ≡ 0) (take_rest fraction fk) none_fraction);
    }
