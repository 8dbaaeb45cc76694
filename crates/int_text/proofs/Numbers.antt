-- A text is a number in one way at most.
use Rattle.std.proofs.Common.{◌≡◌, ◌≢◌, ℕ, ◌+◌, ◌<◌, ◌≤◌, Bool, List, [], ◌∷◌, ◌++◌, length, drop, get_or, refl, sym, ap, subst, ◌∙◌, inl, inr, arith, lit≤}
use Rattle.std.specs.Prelude.{Result, Ok, Err}
use Rattle.std.specs.Char.{digit_value}
use Rattle.std.specs.Str.Parse.{AllDigits}
use Rattle.int_text.specs.declared.score.ScoreFault.{ScoreFault}
use Rattle.int_text.specs.declared.score.ScoreFault.TheVariants.{Malformed, NotWhole, TooLarge}
use Rattle.int_text.specs.Digits.{StopsDigits}
use Rattle.int_text.specs.Parts.{IsTail, IsTailRead, IsNumberRead}
use Rattle.int_text.specs.Score.{Number, IsNumber, IsFraction, no_point, point, IsExponent, no_exponent, exponent}

-- digits end where the first other byte stands
pub prefix_one : (ds r es s : List ℕ) → AllDigits 10 ds → AllDigits 10 es → StopsDigits r → StopsDigits s → ds ++ r ≡ es ++ s → (ds ≡ es) × (r ≡ s)
prefix_one [] r [] s d e stops_r stops_s same = (refl, same)
prefix_one [] r (c ∷ cs) s d e stops_r stops_s same = let stops : StopsDigits (c ∷ cs ++ s) = subst StopsDigits same stops_r in absurd (omega (arith, stops, e.0))
prefix_one (c ∷ cs) r [] s d e stops_r stops_s same = let stops : StopsDigits (c ∷ cs ++ r) = subst StopsDigits (sym same) stops_s in absurd (omega (arith, stops, d.0))
prefix_one (c ∷ cs) r (b ∷ bs) s d e stops_r stops_s same =
    let head : c ≡ b = ap (λ l. get_or l 0 0) same in
    let rest = prefix_one cs r bs s d.1 e.1 stops_r stops_s (ap (drop 1) same) in
    (ap (λ x. x ∷ cs) head ∙ ap (λ l. b ∷ l) rest.0, rest.1)

pub exponent_stops : (t : List ℕ) (divides : Bool) (power : ℕ) → IsExponent t divides power → StopsDigits t
exponent_stops _ _ _ no_exponent = tt
exponent_stops _ _ _ (exponent mark sign digits divides is_mark _ numeral) =
    elim is_mark [ inl e ↦ subst (λ m. 10 ≤ digit_value m) (sym e) (lit≤ tt) | inr e ↦ subst (λ m. 10 ≤ digit_value m) (sym e) (lit≤ tt) ]

pub fraction_stops : (p f ex : List ℕ) → IsFraction p f → StopsDigits ex → StopsDigits (p ++ ex)
fraction_stops _ _ ex no_point stops = stops
fraction_stops _ _ ex (point digits all) stops = lit≤ tt

-- an exponent does not begin with a point
no_point_first : (t behind : List ℕ) (divides : Bool) (power : ℕ) → IsExponent t divides power → t ≢ 46 ∷ behind
no_point_first _ behind _ _ no_exponent e = omega (arith, ap length e)
no_point_first _ behind _ _ (exponent mark sign digits divides is_mark _ numeral) e =
    let head : mark ≡ 46 = ap (λ l. get_or l 0 0) e in
    elim is_mark [ inl a ↦ omega (arith, head, a) | inr b ↦ omega (arith, head, b) ]

pub with_point : (p f ex behind : List ℕ) (divides : Bool) (power : ℕ) → IsFraction p f → IsExponent ex divides power → 46 ∷ behind ≡ p ++ ex → (behind ≡ f ++ ex) × AllDigits 10 f
with_point _ _ ex behind divides power no_point x e = absurd (no_point_first ex behind divides power x (sym e))
with_point _ _ ex behind divides power (point digits all) x e = (ap (drop 1) e, all)

pub without_point : (p f ex rest : List ℕ) → IsFraction p f → get_or rest 0 0 ≢ 46 → rest ≡ p ++ ex → (f ≡ []) × (rest ≡ ex)
without_point _ _ ex rest no_point other e = (refl, e)
without_point _ _ ex rest (point digits all) other e = absurd (other (ap (λ l. get_or l 0 0) e))

-- a number whose digits are followed by a point
module _ (W F tail behind : List ℕ) (w : AllDigits 10 W) (f : AllDigits 10 F) (stops : StopsDigits tail) (parts : behind ≡ F ++ tail) where
  pub is_point_number : (divides : Bool) (power : ℕ) → IsTail W F tail divides power → IsNumber (W ++ 46 ∷ behind) (record { whole = W; fraction = F; divides = divides; power = power })
  is_point_number divides power is = record {
    point_text = 46 ∷ F;
    exponent_text = tail;
    body_is = ap (λ l. W ++ 46 ∷ l) parts;
    digits = w;
    is_fraction = point F f;
    is_exponent = is.1;
    some = is.0;
  }

  pub point_number_is : (number : Number) → IsNumber (W ++ 46 ∷ behind) number → (number.whole ≡ W) × (number.fraction ≡ F) × IsTail W F tail number.divides number.power
  point_number_is number n =
      let e = n.exponent_text in
      let e_stops = exponent_stops e number.divides number.power n.is_exponent in
      let dot : StopsDigits (46 ∷ behind) = lit≤ tt in
      let one = prefix_one W (46 ∷ behind) number.whole (n.point_text ++ e) w n.digits dot (fraction_stops n.point_text number.fraction e n.is_fraction e_stops) n.body_is in
      let two = with_point n.point_text number.fraction e behind number.divides number.power n.is_fraction n.is_exponent one.1 in
      let three = prefix_one F tail number.fraction e f two.1 stops e_stops (sym parts ∙ two.0) in (
        sym one.0,
        sym three.0,
        (
          subst (λ l. 0 < length W + length l) (sym three.0) (subst (λ l. 0 < length l + length number.fraction) (sym one.0) n.some),
          subst (λ l. IsExponent l number.divides number.power) (sym three.1) n.is_exponent,
        ),
      )

  pub from_point : (r : Result ℕ ScoreFault) → IsTailRead W F tail r → IsNumberRead (W ++ 46 ∷ behind) r
  from_point (Err Malformed) h = λ number n. h number.divides number.power (point_number_is number n).2
  from_point (Err NotWhole) h = (record { whole = W; fraction = F; divides = h.0; power = h.1 }, is_point_number h.0 h.1 h.2, h.3)
  from_point (Err TooLarge) h = (record { whole = W; fraction = F; divides = h.0; power = h.1 }, is_point_number h.0 h.1 h.2, h.3)
  from_point (Ok n) h = (record { whole = W; fraction = F; divides = h.0; power = h.1 }, is_point_number h.0 h.1 h.2, h.3)

-- a number whose digits are followed by none
module _ (W rest : List ℕ) (w : AllDigits 10 W) (stops : StopsDigits rest) (other : get_or rest 0 0 ≢ 46) where
  pub is_plain_number : (divides : Bool) (power : ℕ) → IsTail W [] rest divides power → IsNumber (W ++ rest) (record { whole = W; fraction = []; divides = divides; power = power })
  is_plain_number divides power is = record {
    point_text = [];
    exponent_text = rest;
    body_is = refl;
    digits = w;
    is_fraction = no_point;
    is_exponent = is.1;
    some = is.0;
  }

  pub plain_number_is : (number : Number) → IsNumber (W ++ rest) number → (number.whole ≡ W) × (number.fraction ≡ []) × IsTail W [] rest number.divides number.power
  plain_number_is number n =
      let e = n.exponent_text in
      let e_stops = exponent_stops e number.divides number.power n.is_exponent in
      let one = prefix_one W rest number.whole (n.point_text ++ e) w n.digits stops (fraction_stops n.point_text number.fraction e n.is_fraction e_stops) n.body_is in
      let two = without_point n.point_text number.fraction e rest n.is_fraction other one.1 in (
        sym one.0,
        two.0,
        (
          subst (λ l. 0 < length W + length l) two.0 (subst (λ l. 0 < length l + length number.fraction) (sym one.0) n.some),
          subst (λ l. IsExponent l number.divides number.power) (sym two.1) n.is_exponent,
        ),
      )

  pub from_plain : (r : Result ℕ ScoreFault) → IsTailRead W [] rest r → IsNumberRead (W ++ rest) r
  from_plain (Err Malformed) h = λ number n. h number.divides number.power (plain_number_is number n).2
  from_plain (Err NotWhole) h = (record { whole = W; fraction = []; divides = h.0; power = h.1 }, is_plain_number h.0 h.1 h.2, h.3)
  from_plain (Err TooLarge) h = (record { whole = W; fraction = []; divides = h.0; power = h.1 }, is_plain_number h.0 h.1 h.2, h.3)
  from_plain (Ok n) h = (record { whole = W; fraction = []; divides = h.0; power = h.1 }, is_plain_number h.0 h.1 h.2, h.3)
