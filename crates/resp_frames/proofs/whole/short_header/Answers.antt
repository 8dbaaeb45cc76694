use Rattle.resp_frames.proofs.Wholes.{header_of_one, header_of_two}
use Rattle.resp_frames.proofs.whole.short_header.Goals as goal

pub returns-then-second-eq13 : goal.returns-then-second-eq13
returns-then-second-eq13 c =
    rw c.from-number.ensures
    (header_of_one c.args.mark c.args.most c.args.bytes.now c.requires.some c.requires.few c.if-bytes-lt5.false c.if-bytes-mark.false c.if-digit-lt49.false c.if-digit-gt57.false
    c.if-second-eq13.true c.if-bytes-ne10.false)

pub returns : goal.returns
returns c =
    rw (c.from-number.ensures, c.from.ensures)
    (header_of_two c.args.mark c.args.most c.args.bytes.now c.requires.some c.requires.few c.if-bytes-lt5.false c.if-bytes-mark.false c.if-digit-lt49.false c.if-digit-gt57.false
    c.if-second-lt48.false c.if-second-gt57.false c.if-bytes-ne13.false c.if-bytes-ne10-2.false)
