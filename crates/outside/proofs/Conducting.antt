-- A conductor goes along its pacers.
use Rattle.std.proofs.Common.{◌≡◌, ℕ, zero, suc, ◌+◌, add-one, ◌<◌, ◌≤◌, List, [], ◌∷◌, length, get_or, set, drop, map, true, false, refl, arith, sym, subst, ◌∙◌, ap}
use Rattle.outside.specs.declared.pacing.Plan.{Plan}
use Rattle.outside.specs.Pacing.{PacerSeen, Paces, SaysSpent, Conducts, cut, tuned, no_plan}
use Rattle.outside.specs.Pacing.Conducts.{Drops, Asks, HasNone}

module _ {P : Type 0} where
  -- those from a place on begin with the one there
  pub from_place : (xs : List P) (seen : P → PacerSeen) (i : ℕ) (p : P) → i < length xs → p ≡ get_or xs i p → map seen (drop i xs) ≡ seen p ∷ map seen (drop (suc i) xs)
  from_place [] seen i p l at = absurd (omega arith)
  from_place (x ∷ xs) seen zero p l at = ap (λ y. seen y ∷ map seen xs) (sym at)
  from_place (x ∷ xs) seen (suc i) p l at = from_place xs seen i p (omega arith) at

  changed_place : (xs : List P) (seen : P → PacerSeen) (i : ℕ) (p : P) → i < length xs → map seen (drop i (set xs i p)) ≡ seen p ∷ map seen (drop (suc i) xs)
  changed_place [] seen i p l = absurd (omega arith)
  changed_place (x ∷ xs) seen zero p l = refl
  changed_place (x ∷ xs) seen (suc i) p l = changed_place xs seen i p (omega arith)

  -- a spent one is dropped
  pub drops_spent : (xs : List P) (seen : P → PacerSeen) (i : ℕ) (p : P) (plan : Plan) (new : List PacerSeen) → i < length xs → p ≡ get_or xs i p → SaysSpent (seen p).plans true
      → Conducts (map seen (drop (i + 1) xs)) plan new → Conducts (map seen (drop i xs)) plan new
  drops_spent xs seen i p plan new l at spent later =
      let rest : Conducts (map seen (drop (suc i) xs)) plan new = subst (λ n. Conducts (map seen (drop n xs)) plan new) (add-one i) later in
      subst (λ ys. Conducts ys plan new) (sym (from_place xs seen i p l at)) (Drops (seen p) (map seen (drop (suc i) xs)) new plan spent rest)

  -- what stands at a place is one thing
  same_place : (xs : List P) (i : ℕ) (p q : P) → i < length xs → p ≡ get_or xs i p → q ≡ get_or xs i q → p ≡ q
  same_place [] i p q l at too = absurd (omega arith)
  same_place (x ∷ xs) zero p q l at too = at ∙ sym too
  same_place (x ∷ xs) (suc i) p q l at too = same_place xs i p q (omega arith) at too

  -- the one at a place isn't spent, and is asked
  pub asks_next : (xs : List P) (seen : P → PacerSeen) (i : ℕ) (o p q : P) (plan : Plan) → i < length xs → o ≡ get_or xs i o → p ≡ get_or xs i p → SaysSpent (seen o).plans false
      → Paces (seen p) plan (seen q)
      → Conducts (map seen (drop i xs)) (cut plan) (map seen (drop i (set xs i q)))
  asks_next xs seen i o p q plan l first at unspent paces =
      let alive : SaysSpent (seen p).plans false = subst (λ y. SaysSpent (seen y).plans false) (same_place xs i o p l first at) unspent in
      subst (λ ys. Conducts ys (cut plan) (map seen (drop i (set xs i q)))) (sym (from_place xs seen i p l at))
      (subst (λ ys. Conducts (seen p ∷ map seen (drop (suc i) xs)) (cut plan) ys) (sym (changed_place xs seen i q l)) (Asks (seen p) (seen q) (map seen (drop (suc i) xs)) plan alive paces))

  -- none is left
  pub has_none : (xs : List P) (seen : P → PacerSeen) (i : ℕ) → length xs ≤ i → Conducts (map seen (drop i xs)) no_plan (map seen (drop i xs))
  has_none [] seen zero l = HasNone
  has_none [] seen (suc i) l = HasNone
  has_none (x ∷ xs) seen zero l = absurd (omega arith)
  has_none (x ∷ xs) seen (suc i) l = has_none xs seen i (omega arith)

  -- so many from the front on are tuned, and the others are as they were
  abbrev pub tuned_to : (P → PacerSeen) → ℕ → ℕ → List P → List PacerSeen
  tuned_to seen effort n [] = []
  tuned_to seen effort zero (x ∷ xs) = seen x ∷ tuned_to seen effort zero xs
  tuned_to seen effort (suc n) (x ∷ xs) = tuned (seen x) effort ∷ tuned_to seen effort n xs

  pub tuned_none : (xs : List P) (seen : P → PacerSeen) (effort : ℕ) → map seen xs ≡ tuned_to seen effort 0 xs
  tuned_none [] seen effort = refl
  tuned_none (x ∷ xs) seen effort = ap (λ ys. seen x ∷ ys) (tuned_none xs seen effort)

  pub tuned_all : (xs : List P) (seen : P → PacerSeen) (effort n : ℕ) → length xs ≤ n → tuned_to seen effort n xs ≡ map (λ p. tuned (seen p) effort) xs
  tuned_all [] seen effort n l = refl
  tuned_all (x ∷ xs) seen effort zero l = absurd (omega arith)
  tuned_all (x ∷ xs) seen effort (suc n) l = ap (λ ys. tuned (seen x) effort ∷ ys) (tuned_all xs seen effort n (omega arith))

  -- one more is tuned
  pub tuned_more : (first xs : List P) (seen : P → PacerSeen) (effort n : ℕ) (p q : P) → map seen xs ≡ tuned_to seen effort n first → n < length xs → p ≡ get_or xs n p → seen q ≡ tuned (seen p) effort
      → map seen (set xs n q) ≡ tuned_to seen effort (suc n) first
  tuned_more first [] seen effort n p q so_far l at tunes = absurd (omega arith)
  tuned_more [] (x ∷ xs) seen effort n p q so_far l at tunes = absurd (cc so_far)
  tuned_more (y ∷ ys) (x ∷ xs) seen effort zero p q so_far l at tunes =
      let head : seen x ≡ seen y = cc in
      let here : seen q ≡ tuned (seen y) effort = tunes ∙ ap (λ z. tuned (seen z) effort) at ∙ ap (λ z. tuned z effort) head in
      let rest : map seen xs ≡ tuned_to seen effort zero ys = cc in
      cc
  tuned_more (y ∷ ys) (x ∷ xs) seen effort (suc n) p q so_far l at tunes =
      let head : seen x ≡ tuned (seen y) effort = cc in
      let rest : map seen xs ≡ tuned_to seen effort n ys = cc in
      let more = tuned_more ys xs seen effort n p q rest (omega arith) at tunes in
      cc
