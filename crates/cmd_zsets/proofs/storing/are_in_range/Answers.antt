use Rattle.std.proofs.Common.{◌≡◌, [], false, map, sym, ap, ◌∙◌, rules, FitsSigned}
use Rattle.std.specs.Prelude.{◌&&◌}
use Rattle.std.specs.Int.{w128}
use Rattle.std.specs.Map.Iter.{deref_pair}
use Rattle.std.proofs.lemmas.Int.{to_z-of_z}
use Rattle.std.proofs.lemmas.Map.Iter.{rest_all, rest_more}
use Rattle.plain_model.specs.ZsetSteps.{are_scores, is_score}
use Rattle.cmd_zsets.specs.Joined.{entry_of}
use Rattle.cmd_zsets.proofs.Gathered.{entries_gathered}
use Rattle.cmd_zsets.proofs.storing.are_in_range.Goals as goal

pub returns-then-not-is_in_range : goal.returns-then-not-is_in_range
returns-then-not-is_in_range c =
    let sums = c.args.sums.now in
    let left = c.next.new.self in
    let fits : FitsSigned w128 c.in-Some.sum.now = search rules in
    let out : is_score c.in-Some.sum.now ≡ false = ap is_score (sym (to_z-of_z w128 c.in-Some.sum.now fits)) ∙ sym c.if-not-is_in_range.ensures in
    let more = rest_more deref_pair c.loop-sum.sum-iterator left c.next.result (c.in-Some.field-0-0, c.in-Some.sum) c.in-Some.is c.next.ensures.steps in
    sym
    (ap are_scores (entries_gathered sums c.into_iter-sum-iterator.ensures.into_iter_gives.5) ∙ sym c.loop-sum.invariant ∙ ap (λ l. are_scores (map entry_of l)) more
    ∙ ap (λ b. b && are_scores (map entry_of left)) out)

pub returns : goal.returns
returns c =
    let none : c.loop-sum.sum-iterator ≡ [] = rest_all deref_pair c.loop-sum.sum-iterator c.next.new.self c.next.result c.in-None.is c.next.ensures.steps in
    sym (ap are_scores (entries_gathered c.args.sums.now c.into_iter-sum-iterator.ensures.into_iter_gives.5) ∙ sym c.loop-sum.invariant ∙ ap (λ l. are_scores (map entry_of l)) none)
