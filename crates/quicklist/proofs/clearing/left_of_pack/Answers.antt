use Rattle.std.proofs.Common.{arith}
use Rattle.listpack.specs.Pack.{texts}
use Rattle.quicklist.proofs.Going.{cleared_same}
use Rattle.quicklist.proofs.clearing.left_of_pack.Goals as goal

pub returns-then-going-eq0 : goal.returns-then-going-eq0
returns-then-going-eq0 c = cleared_same c.args.reach c.args.start (texts c.args.bytes.now) (omega (arith, c.count_going-going.ensures, c.if-going-eq0.true, c.requires.counted))

pub returns : goal.returns
returns c =
    (c.in_ok-pack.ensures.packed, c.in_ok-pack.ensures.list, omega (arith, c.count_going-going.ensures), omega (arith, c.count_going-going.ensures, c.if-going-count.false))
