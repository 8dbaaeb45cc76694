-- A text has one score, or one fault.
use Rattle.std.proofs.Common.{◌≡◌, ◌≢◌, ℕ, ◌+◌, ◌<◌, ◌≤◌, ◌^◌, Bool, List, [], ◌∷◌, ◌++◌, length, drop, get_or, refl, sym, ap, subst, ◌∙◌, inl, inr, arith}
use Rattle.std.specs.Prelude.{Result, Ok, Err, ℤ, pos, neg_ℤ, if◌then◌else◌}
use Rattle.std.specs.Char.{to_ascii_lowercase}
use Rattle.std.proofs.lemmas.Bool.Decides.{nat_tests}
use Rattle.std.specs.Str.Parse.{AllDigits, IsNumeral, digits_value}
use Rattle.std.proofs.lemmas.Str.Parse.{digit_from_value}
use Rattle.std.proofs.Math.Nat.{eq_of_mul-eq-mul_right}
use Rattle.int_text.specs.declared.score.ScoreFault.{ScoreFault}
use Rattle.int_text.specs.declared.score.ScoreFault.TheVariants.{Malformed, NotWhole, TooLarge}
use Rattle.int_text.specs.Score.{IsSign, no_sign, plus, minus, Number, IsNumber, IsFraction, no_point, point, IsExponent, no_exponent, exponent, IsInteger, IsInfinityWord, IsInfinity}
use Rattle.int_text.specs.Score.{IsScoreText, IsScoreOf}
use Rattle.int_text.proofs.Numbers.{prefix_one, exponent_stops, fraction_stops, with_point, without_point}
use Rattle.int_text.proofs.Scores.{IsUnsigned, number_unsigned, word_unsigned}
use Rattle.int_text.proofs.Wholes.{ten_pos}

-- a sign is told by the text, where what follows begins with none
sign_one : (s t a b : List ℕ) (x y : Bool) → IsSign s x → IsSign t y → IsUnsigned a → IsUnsigned b → s ++ a ≡ t ++ b → (x ≡ y) × (a ≡ b)
sign_one _ _ a b _ _ no_sign no_sign un_a un_b e = (refl, e)
sign_one _ _ a b _ _ no_sign plus un_a un_b e = absurd (un_a.no_plus (ap (λ l. get_or l 0 0) e))
sign_one _ _ a b _ _ no_sign minus un_a un_b e = absurd (un_a.no_minus (ap (λ l. get_or l 0 0) e))
sign_one _ _ a b _ _ plus no_sign un_a un_b e = absurd (un_b.no_plus (ap (λ l. get_or l 0 0) (sym e)))
sign_one _ _ a b _ _ plus plus un_a un_b e = (refl, ap (drop 1) e)
sign_one _ _ a b _ _ plus minus un_a un_b e = let head : 43 ≡ 45 = ap (λ l. get_or l 0 0) e in absurd (omega (arith, head))
sign_one _ _ a b _ _ minus no_sign un_a un_b e = absurd (un_b.no_minus (ap (λ l. get_or l 0 0) (sym e)))
sign_one _ _ a b _ _ minus plus un_a un_b e = let head : 45 ≡ 43 = ap (λ l. get_or l 0 0) e in absurd (omega (arith, head))
sign_one _ _ a b _ _ minus minus un_a un_b e = (refl, ap (drop 1) e)

numeral_unsigned : (ds : List ℕ) → IsNumeral 10 ds → IsUnsigned ds
numeral_unsigned [] n = absurd (omega (arith, n.0))
numeral_unsigned (c ∷ cs) n =
    let range = digit_from_value c n.1.0 in
    record { no_plus = λ e. omega (arith, range.0, e); no_minus = λ e. omega (arith, range.0, e) }

exponent_one : (s t : List ℕ) (x y : Bool) (p q : ℕ) → IsExponent s x p → IsExponent t y q → s ≡ t → (x ≡ y) × (p ≡ q)
exponent_one _ _ _ _ _ _ no_exponent no_exponent e = (refl, refl)
exponent_one _ _ _ _ _ _ no_exponent (exponent m sign digits y _ _ numeral) e = absurd (omega (arith, ap length e))
exponent_one _ _ _ _ _ _ (exponent m sign digits x _ _ numeral) no_exponent e = absurd (omega (arith, ap length e))
exponent_one _ _ _ _ _ _ (exponent m s a x _ first numeral_a) (exponent k t b y _ second numeral_b) e =
    let one = sign_one s t a b x y first second (numeral_unsigned a numeral_a) (numeral_unsigned b numeral_b) (ap (drop 1) e) in
    (one.0, ap (digits_value 10) one.1)

fraction_one : (p q f g s t : List ℕ) (x y : Bool) (a b : ℕ) → IsFraction p f → IsFraction q g → IsExponent s x a → IsExponent t y b → p ++ s ≡ q ++ t → (f ≡ g) × (s ≡ t)
fraction_one _ q _ g s t x y a b no_point second of_s of_t e =
    let two = without_point q g t s second (no_point_in s x a of_s) e in
    (sym two.0, two.1)
  where
    no_point_in : (s : List ℕ) (x : Bool) (a : ℕ) → IsExponent s x a → get_or s 0 0 ≢ 46
    no_point_in _ _ _ no_exponent h = omega (arith, h)
    no_point_in _ _ _ (exponent m sign digits divides mark _ numeral) h = elim mark [ inl k ↦ omega (arith, h, k) | inr k ↦ omega (arith, h, k) ]
fraction_one _ q _ g s t x y a b (point digits all) second of_s of_t e =
    let two = with_point q g t (digits ++ s) y b second of_t e in
    prefix_one digits s g t all two.1 (exponent_stops s x a of_s) (exponent_stops t y b of_t) two.0

abbrev number_of : List ℕ → List ℕ → Bool → ℕ → Number
number_of whole fraction divides power = record { whole = whole; fraction = fraction; divides = divides; power = power }

number_one : (body : List ℕ) (m n : Number) → IsNumber body m → IsNumber body n → m ≡ n
number_one body m n a b =
    let stops_a = exponent_stops a.exponent_text m.divides m.power a.is_exponent in
    let stops_b = exponent_stops b.exponent_text n.divides n.power b.is_exponent in
    let whole = prefix_one m.whole (a.point_text ++ a.exponent_text) n.whole (b.point_text ++ b.exponent_text) a.digits b.digits
    (fraction_stops a.point_text m.fraction a.exponent_text a.is_fraction stops_a) (fraction_stops b.point_text n.fraction b.exponent_text b.is_fraction stops_b) (sym a.body_is ∙ b.body_is) in
    let fraction = fraction_one a.point_text b.point_text m.fraction n.fraction a.exponent_text b.exponent_text m.divides n.divides m.power n.power a.is_fraction b.is_fraction
    a.is_exponent b.is_exponent whole.1 in
    let power = exponent_one a.exponent_text b.exponent_text m.divides n.divides m.power n.power a.is_exponent b.is_exponent fraction.1 in
    same_number m n whole.0 fraction.0 power.0 power.1
  where
    same_number : (m n : Number) → m.whole ≡ n.whole → m.fraction ≡ n.fraction → m.divides ≡ n.divides → m.power ≡ n.power → m ≡ n
    same_number m n w f d p =
        ap (λ k. number_of k m.fraction m.divides m.power) w ∙ ap (λ k. number_of n.whole k m.divides m.power) f
        ∙ ap (λ k. number_of n.whole n.fraction k m.power) d ∙ ap (λ k. number_of n.whole n.fraction n.divides k) p

-- a score text has one sign and one number
score_text_one : (text : List ℕ) (x y : Bool) (m n : Number) → IsScoreText text x m → IsScoreText text y n → (x ≡ y) × (m ≡ n)
score_text_one text x y m n a b =
    let one = sign_one a.sign b.sign a.body b.body x y a.is_sign b.is_sign (number_unsigned a.body m a.is_number) (number_unsigned b.body n b.is_number) (sym a.text_is ∙ b.text_is) in
    (one.0, number_one b.body m n (subst (λ l. IsNumber l m) one.1 a.is_number) b.is_number)

whole_one : (number : Number) (m n : ℕ) → IsInteger number m → IsInteger number n → m ≡ n
whole_one number m n a b =
    let below = length number.fraction + (if number.divides then number.power else 0) in
    eq_of_mul-eq-mul_right (10 ^ below) (ten_pos below) m n (sym a ∙ b)

low_first : (w p f ex : List ℕ) → AllDigits 10 w → IsFraction p f → 0 < length w + length f → get_or (w ++ (p ++ ex)) 0 0 ≤ 57
low_first (c ∷ cs) p f ex all is some = (digit_from_value c all.0).1
low_first [] _ _ ex all no_point some = absurd (omega arith)
low_first [] _ _ ex all (point digits is) some = omega arith

lower_low : (c : ℕ) → c ≤ 57 → to_ascii_lowercase c ≡ c
lower_low c low = grind (arith, nat_tests)

-- no number is an infinity
no_word : (word : List ℕ) (number : Number) → IsInfinityWord word → ¬ (IsNumber word number)
no_word [] number h n = elim h [ inl e ↦ omega (arith, ap length e) | inr e ↦ omega (arith, ap length e) ]
no_word (c ∷ cs) number h n =
    let low : c ≤ 57 = subst (λ l. get_or l 0 0 ≤ 57) (sym n.body_is) (low_first number.whole n.point_text number.fraction n.exponent_text n.digits n.is_fraction n.some) in
    let is : to_ascii_lowercase c ≡ 105 = elim h [ inl e ↦ ap (λ l. get_or l 0 0) e | inr e ↦ ap (λ l. get_or l 0 0) e ] in
    omega (arith, lower_low c low, is, low)

-- no score text is an infinity
no_infinity : (text : List ℕ) (x : Bool) (number : Number) → IsScoreText text x number → ¬ (IsInfinity text)
no_infinity text x number s i =
    let one = sign_one s.sign i.sign s.body i.word x i.negative s.is_sign i.is_sign (number_unsigned s.body number s.is_number) (word_unsigned i.word i.is_word) (sym s.text_is ∙ i.text_is) in
    no_word i.word number i.is_word (subst (λ l. IsNumber l number) one.1 s.is_number)

same_whole : (text : List ℕ) (x y : Bool) (a b : Number) (m n : ℕ) → IsScoreText text x a → IsScoreText text y b → IsInteger a m → IsInteger b n → (x ≡ y) × (m ≡ n)
same_whole text x y a b m n s t v w =
    let one = score_text_one text x y a b s t in
    (one.0, whole_one b m n (subst (λ k. IsInteger k m) one.1 v) w)

no_whole : (text : List ℕ) (x y : Bool) (a b : Number) (n : ℕ) → IsScoreText text x a → IsScoreText text y b → ((k : ℕ) → ¬ (IsInteger a k)) → ¬ (IsInteger b n)
no_whole text x y a b n s t none w = none n (subst (λ k. IsInteger k n) (sym (score_text_one text x y a b s t).1) w)

pub score_one : (text : List ℕ) (r s : Result ℤ ScoreFault) → IsScoreOf text r → IsScoreOf text s → r ≡ s
score_one text (Ok y) (Ok z) a b =
    let same = same_whole text a.0 b.0 a.1 b.1 a.2 b.2 a.3 b.3 a.4 b.4 in
    ap Ok (a.6 ∙ ap (λ k. if k then neg_ℤ (pos a.2) else pos a.2) same.0 ∙ ap (λ k. if b.0 then neg_ℤ (pos k) else pos k) same.1 ∙ sym b.6)
score_one text (Ok y) (Err Malformed) a b = absurd (b.0 a.0 a.1 a.3)
score_one text (Ok y) (Err NotWhole) a b = absurd (no_whole text b.0 a.0 b.1 a.1 a.2 b.2 a.3 b.3 a.4)
score_one text (Ok y) (Err TooLarge) a (inl i) = absurd (no_infinity text a.0 a.1 a.3 i)
score_one text (Ok y) (Err TooLarge) a (inr b) = let same = same_whole text a.0 b.0 a.1 b.1 a.2 b.2 a.3 b.3 a.4 b.4 in absurd (omega (arith, same.1, a.5, b.5))
score_one text (Err Malformed) (Ok z) a b = absurd (a.0 b.0 b.1 b.3)
score_one text (Err Malformed) (Err Malformed) a b = refl
score_one text (Err Malformed) (Err NotWhole) a b = absurd (a.0 b.0 b.1 b.2)
score_one text (Err Malformed) (Err TooLarge) a (inl i) = absurd (a.1 i)
score_one text (Err Malformed) (Err TooLarge) a (inr b) = absurd (a.0 b.0 b.1 b.3)
score_one text (Err NotWhole) (Ok z) a b = absurd (no_whole text a.0 b.0 a.1 b.1 b.2 a.2 b.3 a.3 b.4)
score_one text (Err NotWhole) (Err Malformed) a b = absurd (b.0 a.0 a.1 a.2)
score_one text (Err NotWhole) (Err NotWhole) a b = refl
score_one text (Err NotWhole) (Err TooLarge) a (inl i) = absurd (no_infinity text a.0 a.1 a.2 i)
score_one text (Err NotWhole) (Err TooLarge) a (inr b) = absurd (no_whole text a.0 b.0 a.1 b.1 b.2 a.2 b.3 a.3 b.4)
score_one text (Err TooLarge) (Ok z) (inl i) b = absurd (no_infinity text b.0 b.1 b.3 i)
score_one text (Err TooLarge) (Ok z) (inr a) b = let same = same_whole text a.0 b.0 a.1 b.1 a.2 b.2 a.3 b.3 a.4 b.4 in absurd (omega (arith, same.1, a.5, b.5))
score_one text (Err TooLarge) (Err Malformed) (inl i) b = absurd (b.1 i)
score_one text (Err TooLarge) (Err Malformed) (inr a) b = absurd (b.0 a.0 a.1 a.3)
score_one text (Err TooLarge) (Err NotWhole) (inl i) b = absurd (no_infinity text b.0 b.1 b.2 i)
score_one text (Err TooLarge) (Err NotWhole) (inr a) b = absurd (no_whole text b.0 a.0 b.1 a.1 a.2 b.2 a.3 b.3 a.4)
score_one text (Err TooLarge) (Err TooLarge) a b = refl
