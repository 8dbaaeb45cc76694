use Rattle.std.proofs.Common.{◌≡◌, inl, inr, ◌∙◌, [], sym, ap, refl}
use Rattle.std.proofs.lemmas.Bool.{eqb-true, eq-eqb, cases_Bool}
use Rattle.rehash_dict.specs.Chains.{chain_left}
use Rattle.rehash_dict.specs.Scan.{after_in, first_of}
use Rattle.rehash_dict.proofs.Turns.{after_step}
use Rattle.rehash_dict.proofs.scan.next_in.Goals as goal

pub loop-other-init : goal.loop-other-init
loop-other-init g c = record { behind = λ h. cc; before = λ h. refl }

pub returns-then-met : goal.returns-then-met
returns-then-met g c = sym
    (ap (λ r. first_of (after_in c.args.at r)) (sym (ap chain_left c.into_iter-other-iterator.ensures.into_iter_gives)) ∙ ap first_of (c.loop-other.invariant.behind c.if-met.true)
    ∙ ap first_of c.in-Some.ensures.steps)

pub loop-other-preserved : goal.loop-other-preserved
loop-other-preserved g c =
    let s = after_step c.args.at c.in-Some.other (chain_left c.loop-other.other-iterator) (chain_left c.next.new.self) c.in-Some.ensures.steps in
    record {
      behind = λ h. c.loop-other.invariant.before c.if-met.false ∙ s.0 (eqb-true c.in-Some.other c.args.at h);
      before = λ h. c.loop-other.invariant.before c.if-met.false ∙ s.1 (λ same. let q = eq-eqb c.in-Some.other c.args.at same in cc);
    }

pub returns : goal.returns
returns g c =
    let empty = c.in-None.ensures.steps.0 in
    let none : after_in c.args.at (chain_left c.into_iter-other-iterator.result) ≡ [] = elim (cases_Bool c.loop-other.met) [
      | inl met ↦ c.loop-other.invariant.behind met ∙ empty
      | inr not' ↦ c.loop-other.invariant.before not' ∙ ap (after_in c.args.at) empty
    ] in
    sym (ap (λ r. first_of (after_in c.args.at r)) (sym (ap chain_left c.into_iter-other-iterator.ensures.into_iter_gives)) ∙ ap first_of none)
