use Rattle.std.proofs.Common.{inl, inr, arith}
use Rattle.quicklist.specs.Nodes.{held}
use Rattle.quicklist.proofs.Going.{cleared_before, cleared_behind}
use Rattle.quicklist.proofs.clearing.left_of.Goals as goal

pub returns-then-start-count : goal.returns-then-start-count
returns-then-start-count c =
    let list = held c.args.container c.args.bytes.now in
    elim c.then-start-count.either [
      | inl before ↦ cleared_before c.args.reach c.args.start list (omega (arith, before, c.requires.counted))
      | inr behind ↦ cleared_behind c.args.reach c.args.start list (omega (arith, behind))
    ]
