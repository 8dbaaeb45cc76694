use Rattle.std.proofs.Common.{◌∙◌, sym, ap, arith, drop}
use Rattle.std.proofs.lemmas.List.{length-take-le}
use Rattle.std.proofs.lemmas.Option.{IfSome_then}
use Rattle.stream_node.specs.Rest.{rest_of}
use Rattle.stream_node.specs.Reading.{master_of}
use Rattle.stream_node.proofs.Skips.{behind_same, behind_own}
use Rattle.stream_node.proofs.marking.skip_whole.Goals as goal

pub returns-then-flags-ge2 : goal.returns-then-flags-ge2
returns-then-flags-ge2 c =
    let head = c.args.head.now in
    IfSome_then c.skip.result c.skip.ensures.some
    (λ x e. e ∙ behind_same (master_of head) (rest_of c.args.list.now) _ c.in_ok-flags.flags head.count c.in_ok-flags.ensures.some c.in_ok-flags.ensures.small (omega arith)
    (length-take-le head.count (rest_of head.fields) head.enough))

pub returns : goal.returns
returns c =
    IfSome_then c.skip-4.result c.skip-4.ensures.some
    (λ x e. e ∙ ap (drop 1) c.in_ok-end.ensures.some ∙ behind_own (master_of c.args.head.now) (rest_of c.args.list.now) _ (rest_of c.in_ok-count.pairs) c.in_ok-flags.flags c.in_ok-count.count
    c.in_ok-flags.ensures.some c.in_ok-flags.ensures.small (omega arith) (sym c.in_ok-middle.ensures.some ∙ c.in_ok-count.ensures.some) c.in_ok-count.ensures.small)
