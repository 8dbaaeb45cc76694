use Rattle.resp_frames.proofs.Putting.{one_digit, two_digits}
use Rattle.resp_frames.proofs.spelling.put_header.Goals as goal

pub returns-then-n-lt10 : goal.returns-then-n-lt10
returns-then-n-lt10 g c = rw (one_digit c.args.mark c.args.n c.if-n-lt10.true) c.put_all.ensures

pub returns-then-n-lt100 : goal.returns-then-n-lt100
returns-then-n-lt100 g c = rw (two_digits c.args.mark c.args.n c.if-n-lt10.false c.if-n-lt100.true) c.put_all-then-n-lt100.ensures
