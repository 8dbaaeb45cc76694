use Rattle.std.proofs.Common.{◌≡◌, ◌<◌, [], ◌∷◌, get_or, length, drop, sym, ap, subst, ◌∙◌, arith}
use Rattle.std.proofs.Math.ListN.{drop_of_length-le}
use Rattle.std.specs.Option.{option_map}
use Rattle.stream_groups.specs.Index.{stays, Leaves}
use Rattle.stream_groups.specs.Kept.{logged, pending_of}
use Rattle.stream_groups.proofs.Indexing.{left_more}
use Rattle.stream_groups.proofs.index.Index.leave_all.Goals as goal

pub loop-at-preserved : goal.loop-at-preserved
loop-at-preserved c n q =
    let there : c.loop-at.at < length c.args.log.now = omega (arith, c.loop-at-test.true, c.requires) in
    let was = c.index-log-at.result in
    left_more c.args.name.now c.args.ids.now c.loop-at.at (0, 0) c.loop-at-test.true c.loop-at.self c.leave.new.self c.args.log.now was there
    (subst (λ o. Leaves c.args.name.now (get_or c.args.ids.now c.loop-at.at (0, 0) ∷ []) (option_map pending_of o ∷ []) c.loop-at.self c.leave.new.self) c.index-log-at.is c.leave.ensures) n q
    ∙ c.loop-at.invariant n q

pub returns : goal.returns
returns c n q =
    let none : drop c.loop-at.at c.args.ids.now ≡ [] = drop_of_length-le c.args.ids.now (omega (arith, c.loop-at-test.false)) in
    ap (λ xs. stays c.args.name.now xs (logged (drop c.loop-at.at c.args.log.now)) c.loop-at.self n q) (sym none) ∙ c.loop-at.invariant n q
