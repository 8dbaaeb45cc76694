-- Bytes that are cut at a CR.
use Rattle.std.proofs.Common.{◌≡◌, ◌≢◌, ◌==◌, if◌then◌else◌, ℕ, suc, ◌<◌, ◌^◌, List, [], ◌∷◌, ◌++◌, Bool, true, false, length, ap, refl, arith, ◌∙◌, eq-eqb}
use Rattle.std.specs.Fmt.{decimal, signed_decimal}
use Rattle.std.specs.Prelude.{ℤ, pos, negsuc}
use Rattle.std.specs.List.{AllByRecursion}
use Rattle.std.proofs.lemmas.Fmt.{digits_decimal}
use lib.Signed.{mag}
use Rattle.plain_world.proofs.Numerals.{AreDigits, own}

-- no CR
abbrev pub Plain : List ℕ → Type 0
Plain text = AllByRecursion (λ b. b ≢ 13) text

pub cut_unique : (s t A B : List ℕ) → Plain s → Plain t → s ++ 13 ∷ A ≡ t ++ 13 ∷ B → (s ≡ t) × (A ≡ B)
cut_unique [] [] A B p q e = (refl, cc)
cut_unique [] (y ∷ t) A B p q e = let h : y ≡ 13 = cc in absurd (q.0 h)
cut_unique (x ∷ s) [] A B p q e = let h : x ≡ 13 = cc in absurd (p.0 h)
cut_unique (x ∷ s) (y ∷ t) A B p q e =
    let h : x ≡ y = cc in
    let rest : s ++ 13 ∷ A ≡ t ++ 13 ∷ B = cc in
    let r = cut_unique s t A B p.1 q.1 rest in
    (ap (λ z. z ∷ s) h ∙ ap (λ l. y ∷ l) r.0, r.1)

pub same_length : (u v A B : List ℕ) → length u ≡ length v → u ++ A ≡ v ++ B → (u ≡ v) × (A ≡ B)
same_length [] [] A B h e = (refl, e)
same_length [] (y ∷ v) A B h e = absurd (omega arith)
same_length (x ∷ u) [] A B h e = absurd (omega arith)
same_length (x ∷ u) (y ∷ v) A B h e =
    let is : x ≡ y = cc in
    let rest : u ++ A ≡ v ++ B = cc in
    let r = same_length u v A B (omega arith) rest in
    (ap (λ z. z ∷ u) is ∙ ap (λ l. y ∷ l) r.0, r.1)

pub digits_plain : (ds : List ℕ) → AreDigits ds → Plain ds
digits_plain [] d = tt
digits_plain (x ∷ ds) d =
    let first = d 0 (omega arith) in
    (λ e. omega (arith, first), digits_plain ds (λ i h. d (suc i) (omega arith)))

pub decimal_plain : (n : ℕ) → n < 2 ^ 64 → Plain (decimal n)
decimal_plain n h = digits_plain (decimal n) (digits_decimal own n h)

pub signed_plain : (n : ℤ) → mag n < 2 ^ 63 → Plain (signed_decimal n)
signed_plain (pos n) h = decimal_plain n (omega arith)
signed_plain (negsuc n) h = (λ e. omega arith, decimal_plain (suc n) (omega arith))

-- a test that computes on literals
abbrev pub is_plain : List ℕ → Bool
is_plain [] = true
is_plain (b ∷ bs) = if b == 13 then false else is_plain bs

pub plain_from_test : (bs : List ℕ) → is_plain bs ≡ true → Plain bs
plain_from_test [] e = tt
plain_from_test (b ∷ bs) e =
    elim (b == 13) as (λ t. b == 13 ≡ t → (if t then false else is_plain bs) ≡ true → Plain (b ∷ bs)) [
      | true ↦ λ t f. cc
      | false ↦ λ t f. (λ is. let u = eq-eqb b 13 is in cc, plain_from_test bs f)
    ] refl e
