use Rattle.std.proofs.Common.{◌≡◌, ◌+◌, ◌-◌, ◌≤◌, ◌∷◌, ◌∙◌, ℕ, List, [], length, take, drop, get_or, ap, sym, subst, arith}
use Rattle.glob.specs.Pattern.{Matches}
use Rattle.glob.specs.Piece.{TakesByte}
use Rattle.std.proofs.lemmas.List.{take_rest, drop-drop, length-drop}
use Rattle.glob.proofs.Walks.{Walked, Since, star_step, takes_step, refuses_some, at_end}
use Rattle.glob.proofs.walk.matches.Goals as goal

-- the pattern's rest as the code passes it
star_here : (P : List ℕ) (p : ℕ) → take (length P - p) (drop p P) ≡ 42 ∷ drop 1 (take (length P - p) (drop p P)) → (drop p P ≡ 42 ∷ drop (p + 1) P) × (p + 1 ≤ length P)
star_here P p is =
    let same = take_rest P p in
    let e : drop p P ≡ 42 ∷ drop (p + 1) P = sym same ∙ is ∙ ap (λ l. 42 ∷ drop 1 l) same ∙ ap (λ l. 42 ∷ l) (drop-drop 1 p P) in
    (e, omega (arith, ap length e, length-drop p P))

pub loop-place-preserved-in-Star : goal.loop-place-preserved-in-Star
loop-place-preserved-in-Star c =
    let P = c.args.pattern.now in
    let here = star_here P c.loop-place.place.pattern c.in-Star.ensures in
    record {
      pattern_in = here.1;
      text_in = c.loop-place.invariant.text_in;
      walked = star_step P c.args.text.now c.loop-place.place.pattern c.loop-place.place.text c.loop-place.last_star c.loop-place.invariant.walked here.0 here.1 c.loop-place.invariant.text_in;
    }

pub loop-place-preserved-in-Takes : goal.loop-place-preserved-in-Takes
loop-place-preserved-in-Takes c =
    let P = c.args.pattern.now in
    let T = c.args.text.now in
    let p = c.loop-place.place.pattern in
    let t = c.loop-place.place.text in
    let takes : TakesByte (drop p P) (get_or T t 0) c.in-Takes.width = subst (λ l. TakesByte l (get_or T t 0) c.in-Takes.width) (take_rest P p) c.in-Takes.ensures in
    record {
      pattern_in = omega (arith, takes.room, length-drop p P);
      text_in = omega arith;
      walked = takes_step P T p t c.in-Takes.width c.loop-place.last_star c.loop-place.invariant.walked c.loop-place-test.true takes;
    }

pub loop-place-preserved : goal.loop-place-preserved
loop-place-preserved c =
    let P = c.args.pattern.now in
    let T = c.args.text.now in
    let p = c.loop-place.place.pattern in
    let t = c.loop-place.place.text in
    let since : Since P T p t c.in-Some.star = subst (Walked P T p t) c.in-Some.is c.loop-place.invariant.walked in
    let refuses : (left : List ℕ) → ¬ (Matches (drop p P) (get_or T t 0 ∷ left)) = subst (λ l. (left : List ℕ) → ¬ (Matches l (get_or T t 0 ∷ left))) (take_rest P p) c.in-Refuses.ensures in
    record {
      pattern_in = since.pattern_in;
      text_in = omega (arith, since.text_before);
      walked = refuses_some P T p t c.in-Some.star since c.loop-place-test.true refuses;
    }

pub returns : goal.returns
returns c =
    let P = c.args.pattern.now in
    let end = at_end P c.args.text.now c.loop-place.place.pattern c.loop-place.place.text c.loop-place.last_star c.loop-place.invariant.walked (omega arith) in
    let same = take_rest P c.loop-place.place.pattern in
    (λ yes. end.0 (subst (λ l. Matches l []) same (c.is_stars.ensures.0 yes)), λ m. c.is_stars.ensures.1 (subst (λ l. Matches l []) (sym same) (end.1 m)))
