use Rattle.std.proofs.Common.{◌≡◌, [], false, drop, sym, ap, ◌∙◌, arith}
use Rattle.std.proofs.Math.ListN.{drop_of_length-le}
use Rattle.stream_groups.specs.Index.{holds, marked}
use Rattle.stream_groups.proofs.Indexing.{same_name, marked_more, unmarked}
use Rattle.stream_groups.proofs.index.Index.take_all.Goals as goal

pub loop-id-preserved : goal.loop-id-preserved
loop-id-preserved c n q = marked_more c.args.name.now c.args.ids.now c.loop-id.id-index (0, 0) c.loop-id-test.true c.loop-id.self c.take.new.self false c.take.ensures n q ∙ c.loop-id.invariant n q

pub returns : goal.returns
returns c n q =
    let none : drop c.loop-id.id-index c.args.ids.now ≡ [] = drop_of_length-le c.args.ids.now (omega (arith, c.loop-id-test.false)) in
    sym (unmarked (same_name n c.args.name.now) false (holds c.loop-id.self n q)) ∙ ap (λ xs. marked false c.args.name.now xs c.loop-id.self n q) (sym none) ∙ c.loop-id.invariant n q
