use Rattle.std.proofs.Common.{arith}
use Rattle.listpack.proofs.Spellings.{needed_pos, split_parts}
use Rattle.listpack.proofs.encoding.split_spelling.Goals as goal

pub returns-in_default-clause-none : goal.returns-in_default-clause-none
returns-in_default-clause-none c = let p = needed_pos c.args.rest.now in omega (arith, p)

pub returns-then-needed-rest-clause-some : goal.returns-then-needed-rest-clause-some
returns-then-needed-rest-clause-some c = split_parts c.args.rest.now _ _ c.in_ok-needed.needed (omega arith) c.in_ok-needed.ensures.some c.if-needed-rest.true c.split_at.ensures.front
    c.split_at.ensures.back
