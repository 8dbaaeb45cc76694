use Rattle.std.proofs.Common.{◌∙◌, ◌++◌, ◌∷◌, [], sym, ap, refl, arith, append_assoc, append-nil}
use Rattle.rev_cursor.specs.Span.{times}
use Rattle.rehash_dict.specs.Chains.{chain_left}
use Rattle.rehash_dict.proofs.Counts.{times-append, times_here, times_past}
use Rattle.rehash_dict.proofs.scan.contains.Goals as goal

pub loop-other-init : goal.loop-other-init
loop-other-init g c = record { row = refl; none = refl }

pub returns-then-other-at : goal.returns-then-other-at
returns-then-other-at g c =
    let whole = sym (ap chain_left c.into_iter-other-iterator.ensures.into_iter_gives) ∙ sym c.loop-other.invariant.row ∙ ap (λ r. c.loop-other.yielded ++ r) c.in-Some.ensures.steps in (
      (λ h. omega (
        arith,
        ap (times c.args.at) whole,
        times-append c.args.at c.loop-other.yielded (c.in-Some.other ∷ chain_left c.next.new.self),
        ap
            (λ n. times c.args.at (n ∷ chain_left c.next.new.self)) c.if-other-at.true,
        times_here c.args.at (chain_left c.next.new.self),
      )),
      λ h. refl,
    )

pub loop-other-preserved : goal.loop-other-preserved
loop-other-preserved g c = record {
  row = append_assoc c.loop-other.yielded (c.in-Some.other ∷ []) _ ∙ ap (λ r. c.loop-other.yielded ++ r) (sym c.in-Some.ensures.steps) ∙ c.loop-other.invariant.row;
  none = omega (arith, c.loop-other.invariant.none, times-append c.args.at c.loop-other.yielded (c.in-Some.other ∷ []), times_past c.args.at c.in-Some.other [] c.if-other-at.false);
}

pub returns : goal.returns
returns g c =
    let whole = sym (ap chain_left c.into_iter-other-iterator.ensures.into_iter_gives) ∙ sym c.loop-other.invariant.row ∙ ap (λ r. c.loop-other.yielded ++ r) c.in-None.ensures.steps.0
    ∙ append-nil c.loop-other.yielded in
    ((λ h. cc), λ h. absurd (omega (arith, ap (times c.args.at) whole, c.loop-other.invariant.none)))
