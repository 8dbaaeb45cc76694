-- Texts two by two, and their scores.
use Rattle.std.proofs.Common.{◌≡◌, ℕ, zero, suc, ◌+◌, ◌*◌, ◌<◌, List, [], ◌∷◌, length, get_or, Option, Some, Result, Ok, Err, refl, sym, ap, subst, ◌∙◌, inl, inr, arith}
use Rattle.std.proofs.lemmas.Bool.{cases_lt}
use Rattle.std.specs.Prelude.{ℤ, pos, MatchOption}
use Rattle.listpack.specs.Pack.{IsAt, texts}
use Rattle.rdb_grammar.specs.declared.fault.LoadKind.{LoadKind}
use Rattle.rdb_grammar.specs.declared.fault.LoadKind.TheVariants as kinds
use Rattle.rdb_grammar.specs.Format.{next_found}
use Rattle.rdb_grammar.specs.Payloads.{Pair, paired, Scored, score_in, scored, all_in, with_scored}
use Rattle.plain_world.specs.Worlds.{Value}
use Rattle.rdb_grammar.proofs.PayloadsExact.{next_ok}

-- a pair and a scored member that aren't there
abbrev pub no_pair : Pair
no_pair = ([], [])

abbrev pub no_scored : Scored
no_scored = ([], pos 0)

-- these are so many pairs of texts, one by one
abbrev pub AreEach : List (List ℕ) → List Pair → ℕ → Type 0
AreEach xs pairs n = (i : ℕ) → i < n → (get_or xs (2 * i) [] ≡ (get_or pairs i no_pair).0) × (get_or xs (2 * i + 1) [] ≡ (get_or pairs i no_pair).1)

pub record PairsOf (xs : List (List ℕ)) (n : ℕ) : Type 0 where
  pub pairs : List Pair
  pub are : paired xs ≡ Ok pairs
  pub many : length pairs ≡ n
  pub each : AreEach xs pairs n

one_more : (x y : List ℕ) (xs : List (List ℕ)) (pairs : List Pair) (n : ℕ) → AreEach xs pairs n → AreEach (x ∷ y ∷ xs) ((x, y) ∷ pairs) (suc n)
one_more x y xs pairs n h zero lt = (refl, refl)
one_more x y xs pairs n h (suc i) lt =
    let first : 2 * suc i ≡ suc (suc (2 * i)) = omega arith in
    let second : 2 * suc i + 1 ≡ suc (suc (2 * i + 1)) = omega arith in
    let e = h i (omega (arith, lt)) in
    (ap (λ (k : ℕ). get_or (x ∷ y ∷ xs) k []) first ∙ e.0, ap (λ (k : ℕ). get_or (x ∷ y ∷ xs) k []) second ∙ e.1)

-- where a pair stands, among so many texts
pub at_place : (bytes : List ℕ) (i : ℕ) (next : Option ℕ) (place : ℕ) → next ≡ Some place → MatchOption next (2 * i ≡ length (texts bytes)) (λ at. IsAt bytes (2 * i) at) → IsAt bytes (2 * i) place
at_place bytes i next place is h = subst (λ (o : Option ℕ). MatchOption o (2 * i ≡ length (texts bytes)) (λ at. IsAt bytes (2 * i) at)) is h

-- an even number of texts are pairs
pub pairs_of : (n : ℕ) (xs : List (List ℕ)) → length xs ≡ 2 * n → PairsOf xs n
pairs_of zero [] e = record { pairs = []; are = refl; many = refl; each = λ i lt. absurd (omega (arith, lt)) }
pairs_of zero (x ∷ xs) e = absurd (omega (arith, e))
pairs_of (suc n) [] e = absurd (omega (arith, e))
pairs_of (suc n) (x ∷ []) e = absurd (omega (arith, e))
pairs_of (suc n) (x ∷ y ∷ xs) e =
    let more = pairs_of n xs (omega (arith, e)) in
    record {
      pairs = (x, y) ∷ more.pairs;
      are = ap (λ (q : Result (List Pair) LoadKind). next_found q (λ (ps : List Pair). Ok ((x, y) ∷ ps))) more.are;
      many = ap suc more.many;
      each = one_more x y xs more.pairs n more.each;
    }

-- an odd number are none
pub odd_pairs : (n : ℕ) (xs : List (List ℕ)) → length xs ≡ 2 * n + 1 → paired xs ≡ Err kinds.Listpack
odd_pairs n [] e = absurd (omega (arith, e))
odd_pairs n (x ∷ []) e = refl
odd_pairs zero (x ∷ y ∷ xs) e = absurd (omega (arith, e))
odd_pairs (suc n) (x ∷ y ∷ xs) e =
    ap (λ (q : Result (List Pair) LoadKind). next_found q (λ (ps : List Pair). Ok ((x, y) ∷ ps))) (odd_pairs n xs (omega (arith, e)))

-- ---- scores

-- each of the first so many pairs has a score
abbrev pub HaveScores : List Pair → ℕ → Type 0
HaveScores pairs n = (i : ℕ) → i < n → (z : ℤ) × (score_in ((get_or pairs i no_pair).1) ≡ Ok z)

abbrev with_more : Pair → List Pair → ℤ → Result (List Scored) LoadKind
with_more p pairs n = next_found (scored pairs) λ more. Ok ((p.0, n) ∷ more)

first_score : (p : Pair) (pairs : List Pair) (z : ℤ) → score_in (p.1) ≡ Ok z → scored (p ∷ pairs) ≡ with_more p pairs z
first_score p pairs z e = ap (λ (q : Result ℤ LoadKind). next_found q (with_more p pairs)) e

-- pairs that all have a score
pub all_scored : (pairs : List Pair) → HaveScores pairs (length pairs) → (list : List Scored) × (scored pairs ≡ Ok list)
all_scored [] h = ([], refl)
all_scored (p ∷ pairs) h =
    let here = h 0 (omega arith) in
    let more = all_scored pairs (λ i lt. h (suc i) (omega (arith, lt))) in
    ((p.0, here.0) ∷ more.0, first_score p pairs here.0 here.1 ∙ ap (λ (q : Result (List Scored) LoadKind). next_found q (λ (ss : List Scored). Ok ((p.0, here.0) ∷ ss))) more.1)

-- the first that has none
pub first_unscored : (pairs : List Pair) (i : ℕ) (which : LoadKind) → i < length pairs → HaveScores pairs i → score_in ((get_or pairs i no_pair).1) ≡ Err which → scored pairs ≡ Err which
first_unscored [] i which lt h e = absurd (omega (arith, lt))
first_unscored (p ∷ pairs) zero which lt h e = ap (λ (q : Result ℤ LoadKind). next_found q (with_more p pairs)) e
first_unscored (p ∷ pairs) (suc i) which lt h e =
    let here = h 0 (omega arith) in
    let later = first_unscored pairs i which (omega (arith, lt)) (λ j less. h (suc j) (omega (arith, less))) e in
    first_score p pairs here.0 here.1 ∙ ap (λ (q : Result (List Scored) LoadKind). next_found q (λ (ss : List Scored). Ok ((p.0, here.0) ∷ ss))) later

-- one pair more that has a score
pub scored_more : (pairs : List Pair) (i : ℕ) (z : ℤ) → HaveScores pairs i → score_in ((get_or pairs i no_pair).1) ≡ Ok z → HaveScores pairs (i + 1)
scored_more pairs i z h e j lt = elim (cases_lt j i) [
  | inl before ↦ h j before
  | inr last ↦
      let same : i ≡ j = omega (arith, lt, last) in
      (z, ap (λ (k : ℕ). score_in ((get_or pairs k no_pair).1)) (sym same) ∙ e)
]

-- the members with their scores, one by one
pub record ScoresOf (pairs : List Pair) (list : List Scored) : Type 0 where
  pub many : length list ≡ length pairs
  pub each : (i : ℕ) → i < length pairs → ((get_or list i no_scored).0 ≡ (get_or pairs i no_pair).0) × (score_in ((get_or pairs i no_pair).1) ≡ Ok ((get_or list i no_scored).1))

abbrev done : List Scored → Result (List Scored) LoadKind
done list = Ok list

done_is : (x y : List Scored) → done x ≡ done y → x ≡ y
done_is x y e = cc

of_one : (p : Pair) (pairs : List Pair) (z : ℤ) (list : List Scored) → score_in (p.1) ≡ Ok z → ScoresOf pairs list → ScoresOf (p ∷ pairs) ((p.0, z) ∷ list)
of_one p pairs z list e more = record { many = ap suc more.many; each = at }
  where
    at : (i : ℕ) → i < length (p ∷ pairs) → ((get_or ((p.0, z) ∷ list) i no_scored).0 ≡ (get_or (p ∷ pairs) i no_pair).0)
        × (score_in ((get_or (p ∷ pairs) i no_pair).1) ≡ Ok ((get_or ((p.0, z) ∷ list) i no_scored).1))
    at zero lt = (refl, e)
    at (suc i) lt = more.each i (omega (arith, lt))

pub scores_of : (pairs : List Pair) (list : List Scored) → scored pairs ≡ Ok list → ScoresOf pairs list
scores_of [] list e = subst (ScoresOf []) (done_is [] list e) (record { many = refl; each = λ i lt. absurd (omega (arith, lt)) })
scores_of (p ∷ pairs) list e =
    let one = next_ok (score_in (p.1)) (with_more p pairs) list e in
    let more = next_ok (scored pairs) (λ (ss : List Scored). Ok ((p.0, one.0) ∷ ss)) list one.2 in
    subst (ScoresOf (p ∷ pairs)) (done_is ((p.0, one.0) ∷ more.0) list more.2) (of_one p pairs one.0 more.0 one.1 (scores_of pairs more.0 more.1))

-- ---- equal answers

abbrev score_done : ℤ → Result ℤ LoadKind
score_done z = Ok z

pub score_is : (x y : ℤ) → score_done x ≡ score_done y → x ≡ y
score_is x y e = cc

abbrev score_lost : LoadKind → Result ℤ LoadKind
score_lost which = Err which

pub no_score : (x : ℤ) (which : LoadKind) → score_done x ≡ score_lost which → ⊥
no_score x which e = absurd cc

abbrev pairs_done : List Pair → Result (List Pair) LoadKind
pairs_done ps = Ok ps

pub pairs_is : (x y : List Pair) → pairs_done x ≡ pairs_done y → x ≡ y
pairs_is x y e = cc

-- texts that are members with scores, put in
pub told_all : (xs : List (List ℕ)) (pairs : List Pair) (ss : List Scored) (first : Value) → paired xs ≡ Ok pairs → scored pairs ≡ Ok ss
    → next_found (next_found (paired xs) scored) (all_in with_scored first) ≡ all_in with_scored first ss
told_all xs pairs ss first e f =
    ap (λ (q : Result (List Pair) LoadKind). next_found (next_found q scored) (all_in with_scored first)) e
    ∙ ap (λ (q : Result (List Scored) LoadKind). next_found q (all_in with_scored first)) f
