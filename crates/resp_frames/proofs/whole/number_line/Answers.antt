use Rattle.std.proofs.Common.{◌≤◌, ◌+◌, ◌-◌, ◌*◌, get_or, arith}
use Rattle.resp_frames.proofs.Wholes.{next_digit, number_ends}
use Rattle.resp_frames.proofs.whole.number_line.Goals as goal

pub returns-then-b-eq13 : goal.returns-then-b-eq13
returns-then-b-eq13 c = number_ends c.args.most c.args.bytes.now c.loop-i.number c.loop-i.i c.requires.few c.loop-i.invariant (omega arith) c.loop-i-test.true c.if-first-lt49.false c.if-b-eq13.true

pub loop-i-preserved : goal.loop-i-preserved
loop-i-preserved c =
    let d = get_or c.args.bytes.now c.loop-i.i 0 - 48 in
    let few : c.loop-i.number * 10 + d ≤ c.args.most = rw (← c.from.ensures) c.if-number-most.false in
    rw c.from.ensures (next_digit c.args.most c.args.bytes.now c.loop-i.number c.loop-i.i c.loop-i.invariant c.loop-i-test.true c.if-b-lt48.false c.if-b-gt57.false few)
