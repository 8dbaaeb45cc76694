use Rattle.std.proofs.Common.{rules, ◌≡◌, ◌-◌, ℤ, List, length, take, drop, FitsSigned, sym, ap, subst, ◌∙◌, arith}
use Rattle.std.specs.Int.{w64}
use Rattle.std.proofs.lemmas.Int.{to_z-of_z}
use Rattle.plain_model.specs.ZsetSteps.{Scored, met, behind, at_most, limited}
use Rattle.cmd_zsets.specs.Spans.{in_span}
use Rattle.cmd_zsets.proofs.Told.{met_long}
use Rattle.cmd_zsets.proofs.Reaches.{limit_is}
use Rattle.cmd_zsets.proofs.ranges.limit_span.Goals as goal

pub returns-in-Some-clause-range : goal.returns-in-Some-clause-range
returns-in-Some-clause-range c list size =
    let over = c.so_many-over.result in
    let left = c.so_many-count.result in
    let span = c.args.span in
    let offset : FitsSigned w64 c.in-Some.limit.offset = search rules in
    let count : FitsSigned w64 c.in-Some.limit.count = search rules in
    limit_is (met span.from list) span.start span.count over left c.in-Some.limit.offset c.in-Some.limit.count (omega (arith, size, met_long span.from list, c.requires))
    c.so_many-over.ensures.few c.so_many-count.ensures.few
    (subst (λ (n : ℤ). (l : List Scored) → length l ≡ span.count → drop over l ≡ behind n l) (to_z-of_z w64 c.in-Some.limit.offset offset) c.so_many-over.ensures.passed)
    (subst (λ (n : ℤ). (l : List Scored) → length l ≡ span.count - over → take left l ≡ at_most n l) (to_z-of_z w64 c.in-Some.limit.count count) c.so_many-count.ensures.taken)
    ∙ ap (λ o. limited o (in_span span list)) (sym c.in-Some.is)
