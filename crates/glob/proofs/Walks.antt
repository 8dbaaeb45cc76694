-- A walk along a pattern and a text that remembers the last star alone.
use Rattle.std.proofs.Common.{◌≡◌, ℕ, ◌+◌, ◌-◌, ◌<◌, ◌≤◌, List, [], ◌∷◌, length, drop, get_or, sym, ap, subst, ◌∙◌, arith}
use Rattle.std.specs.Prelude.{Option, Some, None}
use Rattle.glob.specs.Pattern.{Matches}
use Rattle.glob.specs.Piece.{TakesByte}
use Rattle.glob.specs.declared.walk.Place.{Place}
use Rattle.glob.proofs.Stars.{star_inv, star_from, star_absorbs, star_next}
use Rattle.std.proofs.lemmas.List.{drop-drop, drop_all, drop_more, length-drop}

-- the rest of the pattern matches the rest of the text
abbrev pub At : List ℕ → List ℕ → ℕ → ℕ → Type 0
At P T p t = Matches (drop p P) (drop t T)

-- The walk has come to a place since it stood at another, behind a star.
pub record Since (P T : List ℕ) (p t : ℕ) (star : Place) : Type 0 where
  pub pattern_in : star.pattern ≤ length P
  pub text_before : star.text ≤ t
  -- the whole matches where the star and what is behind it match the text from there
  pub down : Matches P T → Matches (42 ∷ drop star.pattern P) (drop star.text T)
  pub up : Matches (42 ∷ drop star.pattern P) (drop star.text T) → Matches P T
  pub back : At P T p t → At P T star.pattern star.text
  -- between the two places each piece takes one byte
  pub on : (text : List ℕ) → Matches (drop star.pattern P) text → (t - star.text ≤ length text) × Matches (drop p P) (drop (t - star.text) text)

abbrev pub Walked : List ℕ → List ℕ → ℕ → ℕ → Option Place → Type 0
Walked P T p t None = (Matches P T → At P T p t) × (At P T p t → Matches P T)
Walked P T p t (Some star) = Since P T p t star

abbrev pub place : ℕ → ℕ → Place
place p t = record { pattern = p; text = t }

fresh : (P T : List ℕ) (p t : ℕ) → p ≤ length P → (Matches P T → Matches (42 ∷ drop p P) (drop t T)) → (Matches (42 ∷ drop p P) (drop t T) → Matches P T) → Since P T p t (place p t)
fresh P T p t le down up =
    let none : t - t ≡ 0 = omega arith in
    record {
      pattern_in = le;
      text_before = omega arith;
      down = down;
      up = up;
      back = λ m. m;
      on = λ text m. (omega arith, subst (λ n. Matches (drop p P) (drop n text)) (sym none) m);
    }

pub star_step : (P T : List ℕ) (p t : ℕ) (last : Option Place) → Walked P T p t last → drop p P ≡ 42 ∷ drop (p + 1) P → p + 1 ≤ length P → t ≤ length T → Walked P T (p + 1) t (Some (place (p + 1) t))
star_step P T p t None w head le lt =
    fresh P T (p + 1) t le
    (λ m. subst (λ l. Matches l (drop t T)) head (w.0 m))
    (λ m. w.1 (subst (λ l. Matches l (drop t T)) (sym head) m))
star_step P T p t (Some s) w head le lt =
    fresh P T (p + 1) t le
    (λ m.
    let inv = star_inv (drop s.pattern P) (drop s.text T) (w.down m) in
    let k = inv.0 in
    let on = w.on (drop k (drop s.text T)) inv.2 in
    let before = w.text_before in
    let same : drop (t - s.text) (drop k (drop s.text T)) ≡ drop k (drop t T) =
    drop-drop (t - s.text) k (drop s.text T) ∙ drop-drop (k + (t - s.text)) s.text T ∙ ap (λ n. drop n T) (omega arith) ∙ sym (drop-drop k t T) in
    star_absorbs (drop (p + 1) P) (drop t T) k (subst (λ l. Matches l (drop k (drop t T))) head (subst (Matches (drop p P)) same on.1)))
    (λ m. w.up (star_from (drop s.pattern P) (drop s.text T) 0 (w.back (subst (λ l. Matches l (drop t T)) (sym head) m))))

-- a piece that takes the byte at hand leads from one place to the next, and back
takes_on : (P T : List ℕ) (p t w : ℕ) → TakesByte (drop p P) (get_or T t 0) w → At P T p t → At P T (p + w) (t + 1)
takes_on P T p t w takes m =
    subst (λ l. Matches l (drop (t + 1) T)) (drop-drop w p P)
    (subst (Matches (drop w (drop p P))) (drop-drop 1 t T) (takes.one_byte (drop t T) m).1)

takes_back : (P T : List ℕ) (p t w : ℕ) → t < length T → TakesByte (drop p P) (get_or T t 0) w → At P T (p + w) (t + 1) → At P T p t
takes_back P T p t w lt takes m =
    subst (Matches (drop p P)) (sym (drop_more T t 0 lt))
    (takes.taken (drop (t + 1) T) (subst (λ l. Matches l (drop (t + 1) T)) (sym (drop-drop w p P)) m))

pub takes_step : (P T : List ℕ) (p t w : ℕ) (last : Option Place) → Walked P T p t last → t < length T → TakesByte (drop p P) (get_or T t 0) w → Walked P T (p + w) (t + 1) last
takes_step P T p t w None walked lt takes = (λ m. takes_on P T p t w takes (walked.0 m), λ m. walked.1 (takes_back P T p t w lt takes m))
takes_step P T p t w (Some s) walked lt takes =
    let before = walked.text_before in
    record {
      pattern_in = walked.pattern_in;
      text_before = omega arith;
      down = walked.down;
      up = walked.up;
      back = λ m. walked.back (takes_back P T p t w lt takes m);
      on = λ text m.
          let on = walked.on text m in
          let one = takes.one_byte (drop (t - s.text) text) on.1 in
          let next : drop 1 (drop (t - s.text) text) ≡ drop (t + 1 - s.text) text = drop-drop 1 (t - s.text) text ∙ ap (λ n. drop n text) (omega arith) in
          (omega (arith, length-drop (t - s.text) text, one.0), subst (λ l. Matches l (drop (t + 1 - s.text) text)) (drop-drop w p P) (subst (Matches (drop w (drop p P))) next one.1));
    }

-- nothing is taken, and no star can help
pub refuses_none : (P T : List ℕ) (p t : ℕ) → Walked P T p t None → t < length T → ((left : List ℕ) → ¬ (Matches (drop p P) (get_or T t 0 ∷ left))) → ¬ (Matches P T)
refuses_none P T p t w lt none m = none (drop (t + 1) T) (subst (Matches (drop p P)) (drop_more T t 0 lt) (w.0 m))

-- nothing is taken, and the last star takes one byte more
pub refuses_some : (P T : List ℕ) (p t : ℕ) (s : Place) → Since P T p t s → t < length T → ((left : List ℕ) → ¬ (Matches (drop p P) (get_or T t 0 ∷ left)))
    → Since P T s.pattern (s.text + 1) (place s.pattern (s.text + 1))
refuses_some P T p t s w lt none =
    let before = w.text_before in
    let same : drop (t - s.text) (drop s.text T) ≡ drop t T = drop-drop (t - s.text) s.text T ∙ ap (λ n. drop n T) (omega arith) in
    let not_here : ¬ (At P T s.pattern s.text) = λ m. none (drop (t + 1) T) (subst (Matches (drop p P)) (same ∙ drop_more T t 0 lt) (w.on (drop s.text T) m).1) in
    fresh P T s.pattern (s.text + 1) w.pattern_in
    (λ m. subst (Matches (42 ∷ drop s.pattern P)) (drop-drop 1 s.text T) (star_next (drop s.pattern P) (drop s.text T) (w.down m) not_here))
    (λ m. w.up (star_absorbs (drop s.pattern P) (drop s.text T) 1 (subst (Matches (42 ∷ drop s.pattern P)) (sym (drop-drop 1 s.text T)) m)))

-- the text is at its end
pub at_end : (P T : List ℕ) (p t : ℕ) (last : Option Place) → Walked P T p t last → t ≡ length T → (Matches (drop p P) [] → Matches P T) × (Matches P T → Matches (drop p P) [])
at_end P T p t None w end =
    let e : drop t T ≡ [] = drop_all t T (omega arith) in
    (λ m. w.1 (subst (Matches (drop p P)) (sym e) m), λ m. subst (Matches (drop p P)) e (w.0 m))
at_end P T p t (Some s) w end =
    let e : drop t T ≡ [] = drop_all t T (omega arith) in (
      λ m. w.up (star_from (drop s.pattern P) (drop s.text T) 0 (w.back (subst (Matches (drop p P)) (sym e) m))),
      λ m.
          let inv = star_inv (drop s.pattern P) (drop s.text T) (w.down m) in
          let rest = drop inv.0 (drop s.text T) in
          let on = w.on rest inv.2 in
          let short : length rest ≤ t - s.text = omega (arith, length-drop inv.0 (drop s.text T), length-drop s.text T) in
          subst (Matches (drop p P)) (drop_all (t - s.text) rest short) on.1,
    )

pub begins : (P T : List ℕ) → Walked P T 0 0 None
begins P T = (λ m. m, λ m. m)

-- how many more bytes the last star may take, or one more than there are where none stands yet
abbrev pub chances : List ℕ → Option Place → ℕ
chances T None = length T + 1
chances T (Some star) = length T - star.text
