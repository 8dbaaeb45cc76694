-- The texts of numbers, and the elements of a listpack.
use Rattle.std.proofs.Common.{◌≡◌, inl, inr, ℕ, zero, suc, ◌<◌, ◌≤◌, ◌^◌, Bool, true, false, List, [], ◌∷◌, ◌++◌, map, length, take, drop, max, is_some, get_or, Some, refl, sym, ap, ◌∙◌, subst, arith}
use Rattle.std.specs.Prelude.{IsTrue, ℤ, ◌<ℤ◌, slice_get}
use Rattle.std.specs.List.{All, Contains}
use Rattle.std.proofs.lemmas.Bool.{cond-true, cond-false, cases_Bool, and_from}
use Rattle.std.proofs.lemmas.List.Elements.{All-head, All-tail, All-nil, All-cons}
use Rattle.std.specs.Int.Signed.{<ℤ_irrefl}
use Rattle.std.proofs.lemmas.Fmt.{signed_decimal_injective, length_signed_le}
use lib.Signed.{mag}
use Rattle.int_text.specs.Decimal.{canonical, IsI64Text}
use Rattle.int_text.proofs.NumberOf.{number_back}
use Rattle.intset.specs.Intset.{IsRising}
use Rattle.set_object.specs.Strings.{IsOnce, longest, are_numbers}
use Rattle.set_object.proofs.Sets.{tied, tied_true, tied_same, tied_other_in_maps, among, once_nil, once_cons}

-- numbers of 64 bits with a sign
abbrev pub AreFit : List ℤ → Type 0
AreFit numbers = All (λ n. mag n < 2 ^ 63) numbers

contains_cons : (x n : ℤ) (ns : List ℤ) → Contains ns n → Contains (x ∷ ns) n
contains_cons x n ns c = (suc c.0, omega (arith, c.1), c.2)

-- the text of a number stands among those of numbers only where the number does
pub text_stands : (ns : List ℤ) (n : ℤ) → AreFit ns → mag n < 2 ^ 63 → among (canonical n) (map canonical ns) ≡ true → Contains ns n
text_stands [] n fit small h = absurd cc
text_stands (x ∷ ns) n fit small h = elim (cases_Bool (tied (canonical n) (canonical x))) [
  | inl t ↦ (0, omega arith, signed_decimal_injective x n (All-head (λ n. mag n < 2 ^ 63) x ns fit) small (sym (tied_true _ _ t)))
  | inr f ↦ contains_cons x n ns (text_stands ns n (All-tail (λ n. mag n < 2 ^ 63) x ns fit) small (sym (cond-false _ _ _ f) ∙ h))
]

pub stands_text : (ns : List ℤ) (n : ℤ) → Contains ns n → among (canonical n) (map canonical ns) ≡ true
stands_text ns n c = at ns c.0 c.1 c.2
  where
    at : (ns : List ℤ) (k : ℕ) → k < length ns → get_or ns k n ≡ n → among (canonical n) (map canonical ns) ≡ true
    at [] k h is = absurd (omega arith)
    at (x ∷ ns) zero h is = cond-true _ _ _ (tied_same (canonical n) (canonical x) (ap canonical (sym is)))
    at (x ∷ ns) (suc k) h is = elim (cases_Bool (tied (canonical n) (canonical x))) [ inl t ↦ cond-true _ _ _ t | inr f ↦ cond-false _ _ _ f ∙ at ns k (omega (arith, h)) is ]

pub number_among : (ns : List ℤ) (n : ℤ) (b : Bool) → AreFit ns → mag n < 2 ^ 63 → (IsTrue b → Contains ns n) × (Contains ns n → IsTrue b) → b ≡ among (canonical n) (map canonical ns)
number_among ns n b fit small both = by_cases b (among (canonical n) (map canonical ns)) (λ t. stands_text ns n (both.0 t)) (λ t. both.1 (text_stands ns n fit small t))
  where
    by_cases : (b c : Bool) → (IsTrue b → c ≡ true) → (c ≡ true → IsTrue b) → b ≡ c
    by_cases true c there back = sym (there refl)
    by_cases false true there back = absurd (let t : IsTrue false = back refl in cc)
    by_cases false false there back = refl

pub no_number_among : (ns : List ℤ) (text : List ℕ) → AreFit ns → ¬ (IsI64Text text) → among text (map canonical ns) ≡ false
no_number_among [] text fit none = refl
no_number_among (x ∷ ns) text fit none =
    cond-false _ _ _ (tied_other_in_maps text (canonical x) (λ same. none (x, record { sfits = All-head (λ n. mag n < 2 ^ 63) x ns fit }, same)))
    ∙ no_number_among ns text (All-tail (λ n. mag n < 2 ^ 63) x ns fit) none

-- texts of rising numbers stand once
pub numbers_once : (ns : List ℤ) → IsRising ns → AreFit ns → IsOnce (map canonical ns)
numbers_once [] rising fit = once_nil
numbers_once (x ∷ ns) rising fit =
    let rest : AreFit ns = All-tail (λ n. mag n < 2 ^ 63) x ns fit in
    once_cons (canonical x) (map canonical ns)
    (elim (cases_Bool (among (canonical x) (map canonical ns))) [
      | inl t ↦
          (let c = text_stands ns x rest (All-head (λ n. mag n < 2 ^ 63) x ns fit) t in
          absurd (<ℤ_irrefl (subst (λ (y : ℤ). x <ℤ y) c.2 (rising 0 (suc c.0) x (omega arith) (omega (arith, c.1))))))
      | inr f ↦ f
    ])
    (numbers_once ns (λ i j d h k. rising (suc i) (suc j) d (omega (arith, h)) (omega (arith, k))) rest)

-- the number at a place
pub at_fit : (ns : List ℤ) (i : ℕ) (n : ℤ) → AreFit ns → slice_get ns i ≡ Some n → mag n < 2 ^ 63
at_fit [] i n fit is = cc
at_fit (x ∷ ns) zero n fit is = subst (λ (y : ℤ). mag y < 2 ^ 63) (let e : x ≡ n = cc in e) (All-head (λ n. mag n < 2 ^ 63) x ns fit)
at_fit (x ∷ ns) (suc i) n fit is = at_fit ns i n (All-tail (λ n. mag n < 2 ^ 63) x ns fit) is

pub text_more : (ns : List ℤ) (i : ℕ) (n : ℤ) → slice_get ns i ≡ Some n → map canonical (take (suc i) ns) ≡ map canonical (take i ns) ++ canonical n ∷ []
text_more [] i n is = cc
text_more (x ∷ ns) zero n is = ap (λ (y : ℤ). canonical y ∷ []) (let e : x ≡ n = cc in e)
text_more (x ∷ ns) (suc i) n is = ap (λ xs. canonical x ∷ xs) (text_more ns i n is)

pub longest_from : (ns : List ℤ) (i : ℕ) (n : ℤ) → slice_get ns i ≡ Some n → longest (map canonical (drop i ns)) ≡ max (length (canonical n)) (longest (map canonical (drop (suc i) ns)))
longest_from [] i n is = cc
longest_from (x ∷ ns) zero n is = ap (λ (y : ℤ). max (length (canonical y)) (longest (map canonical ns))) (let e : x ≡ n = cc in e)
    ∙ ap (λ ys. max (length (canonical n)) (longest (map canonical ys))) (sym (all ns))
  where
    all : (ys : List ℤ) → drop 0 ys ≡ ys
    all [] = refl
    all (y ∷ ys) = refl
longest_from (x ∷ ns) (suc i) n is = longest_from ns i n is

-- all texts of numbers are short, and those of numbers
pub text_short : (n : ℤ) → mag n < 2 ^ 63 → length (canonical n) ≤ 20
text_short n small = length_signed_le 19 n (omega (arith, small)) small

pub texts_short : (ns : List ℤ) → AreFit ns → All (λ (x : List ℕ). length x ≤ 4096) (map canonical ns)
texts_short [] fit = All-nil (λ (x : List ℕ). length x ≤ 4096)
texts_short (x ∷ ns) fit = All-cons (λ (x : List ℕ). length x ≤ 4096) (canonical x) (map canonical ns) (omega (arith, text_short x (All-head (λ n. mag n < 2 ^ 63) x ns fit)))
    (texts_short ns (All-tail (λ n. mag n < 2 ^ 63) x ns fit))

pub texts_numbers : (ns : List ℤ) → AreFit ns → are_numbers (map canonical ns) ≡ true
texts_numbers [] fit = refl
texts_numbers (x ∷ ns) fit =
    and_from _ _ (ap is_some (number_back x (record { sfits = All-head (λ n. mag n < 2 ^ 63) x ns fit }))) (texts_numbers ns (All-tail (λ n. mag n < 2 ^ 63) x ns fit))
