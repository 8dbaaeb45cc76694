-- Whether elements are the fields of pairs.
use Rattle.std.proofs.Common.{◌≡◌, Bool, true, false, ℕ, zero, suc, ◌+◌, ◌<◌, ◌≤◌, List, [], ◌∷◌, ◌++◌, length, take, drop, get_or, refl, sym, ap, ◌∙◌, arith}
use Rattle.std.specs.Prelude.{IsTrue, ◌↔◌, bytes_eq, ◌&&◌}
use Rattle.std.proofs.lemmas.List.{take_more, length-drop, length-map, map-append, get_or-drop}
use Rattle.std.proofs.lemmas.Slice.Eq.{bytes_eq-Decides}
use Rattle.stream_node.specs.Entry.{Pair, fields_of}
use Rattle.stream_node.specs.Pairs.{pair_at}
use Rattle.stream_node.specs.Appended.{same_texts}
use Rattle.stream_node.proofs.Lists.{Texts}
use Rattle.stream_node.proofs.Rests.{drop_one_more}

field_at : (pairs : List Pair) (i : ℕ) → get_or (fields_of pairs) i [] ≡ (pair_at pairs i).0
field_at [] i = refl
field_at (p ∷ pairs) zero = refl
field_at (p ∷ pairs) (suc i) = field_at pairs i

at_take : (n i : ℕ) (list : Texts) → i < n → get_or (take n list) i [] ≡ get_or list i []
at_take zero i list h = absurd (omega arith)
at_take (suc n) i [] h = refl
at_take (suc n) zero (x ∷ list) h = refl
at_take (suc n) (suc i) (x ∷ list) h = at_take n i list (omega (arith, h))

-- the element that stands at a place
at_place : (list rest behind : Texts) (i : ℕ) (x : List ℕ) → rest ≡ drop i list → rest ≡ x ∷ behind → (get_or list i [] ≡ x) × (i < length list)
at_place list rest behind i x e f =
    let same : i + 0 ≡ i = omega arith in (
      ap (λ (k : ℕ). get_or list k []) (sym same) ∙ sym (get_or-drop i list 0 []) ∙ ap (λ (y : Texts). get_or y 0 []) (sym e ∙ f),
      omega (arith, ap length (sym e ∙ f), length-drop i list),
    )

pub one_field : (list rest behind : Texts) (pairs : List Pair) (i : ℕ) (test : Bool) (x field : List ℕ) → i < length pairs → take i list ≡ fields_of (take i pairs) → rest ≡ drop i list
    → i ≤ length list
    → rest ≡ x ∷ behind → field ≡ (pair_at pairs i).0 → (IsTrue test ↔ (x ≡ field)) → test ≡ true
    → (take (i + 1) list ≡ fields_of (take (i + 1) pairs)) × (behind ≡ drop (i + 1) list) × (i + 1 ≤ length list)
one_field list rest behind pairs i test x field inside so_far e few f is both passed =
    let at = at_place list rest behind i x e f in
    let here : get_or list i [] ≡ (pair_at pairs i).0 = at.0 ∙ both.0 passed ∙ is in (
      take_more list i [] at.1
          ∙ ap (λ (y : List ℕ). take i list ++ y ∷ []) here
          ∙ ap (λ (y : Texts). y ++ (pair_at pairs i).0 ∷ []) so_far
          ∙ sym (map-append (λ (p : Pair). p.0) (take i pairs) (pair_at pairs i ∷ []))
          ∙ ap fields_of (sym (take_more pairs i ([], []) inside)),
      drop_one_more list rest behind x i e f,
      omega (arith, at.1),
    )

pub other_field : (list rest behind : Texts) (pairs : List Pair) (i : ℕ) (test : Bool) (x field : List ℕ) → i < length pairs → rest ≡ drop i list → rest ≡ x ∷ behind → field ≡ (pair_at pairs i).0
    → (IsTrue test ↔ (x ≡ field)) → test ≡ false → take (length pairs) list ≡ fields_of pairs → ⊥
other_field list rest behind pairs i test x field inside e f is both failed same =
    let at = at_place list rest behind i x e f in
    let here : x ≡ field = sym at.0 ∙ sym (at_take (length pairs) i list inside) ∙ ap (λ (y : Texts). get_or y i []) same ∙ field_at pairs i ∙ sym is in
    let passed : IsTrue test = both.1 here in
    let never : ⊥ = cc in
    never

pub no_field : (list rest : Texts) (pairs : List Pair) (i : ℕ) → i < length pairs → rest ≡ drop i list → rest ≡ [] → take (length pairs) list ≡ fields_of pairs → ⊥
no_field list rest pairs i inside e none same =
    omega (arith, ap length (sym e ∙ none), length-drop i list, ap length same, length-map pairs (λ (p : Pair). p.0), short (length pairs) list)
  where
    short : (n : ℕ) (list : Texts) → length (take n list) ≤ length list
    short zero list = omega arith
    short (suc n) [] = omega arith
    short (suc n) (x ∷ list) = omega (arith, short n list)

-- the test on lists of texts
both_same : (x y : List ℕ) (xs ys : Texts) (b : Bool) → bytes_eq x y ≡ b → (same_texts xs ys ≡ true → xs ≡ ys) → (b && same_texts xs ys) ≡ true → x ∷ xs ≡ y ∷ ys
both_same x y xs ys true t more e = let a = (bytes_eq-Decides x y).0 t in let b = more e in λ i. a i ∷ b i
both_same x y xs ys false t more e = let never : ⊥ = cc in absurd never

pub same_yes : (xs ys : Texts) → same_texts xs ys ≡ true → xs ≡ ys
same_yes [] [] e = refl
same_yes [] (y ∷ ys) e = let never : ⊥ = cc in absurd never
same_yes (x ∷ xs) [] e = let never : ⊥ = cc in absurd never
same_yes (x ∷ xs) (y ∷ ys) e = both_same x y xs ys (bytes_eq x y) refl (same_yes xs ys) e

pub same_self : (xs : Texts) → same_texts xs xs ≡ true
same_self [] = refl
same_self (x ∷ xs) = ap (λ (b : Bool). b && same_texts xs xs) ((bytes_eq-Decides x x).1 refl) ∙ same_self xs

pub same_test : (test : Bool) (xs ys : Texts) → (IsTrue test ↔ (ys ≡ xs)) → test ≡ same_texts xs ys
same_test true xs ys both = sym (ap (same_texts xs) (both.0 refl) ∙ same_self xs)
same_test false xs ys both = sym (no_test (same_texts xs ys) refl)
  where
    no_test : (b : Bool) → same_texts xs ys ≡ b → b ≡ false
    no_test true e = let passed : IsTrue false = both.1 (sym (same_yes xs ys e)) in let never : ⊥ = cc in absurd never
    no_test false e = refl

pub other_lengths : (xs ys : Texts) → (length ys ≡ length xs → ⊥) → same_texts xs ys ≡ false
other_lengths xs ys differ = by_test (same_texts xs ys) refl
  where
    by_test : (b : Bool) → same_texts xs ys ≡ b → same_texts xs ys ≡ false
    by_test true e = absurd (differ (sym (ap length (same_yes xs ys e))))
    by_test false e = e

pub same_as_many : (test : Bool) (xs list : Texts) (m n : ℕ) → m ≡ n → (IsTrue test ↔ (take m list ≡ xs)) → test ≡ same_texts xs (take n list)
same_as_many test xs list m n e both = same_test test xs (take m list) both ∙ ap (λ (k : ℕ). same_texts xs (take k list)) e
