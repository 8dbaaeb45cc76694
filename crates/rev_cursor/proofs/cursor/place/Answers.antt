use Rattle.std.proofs.Common.{◌∙◌, arith}
use Rattle.rev_cursor.proofs.Reversal.{onto}
use Rattle.rev_cursor.proofs.cursor.place.Goals as goal

pub returns : goal.returns
returns c = c.reverse_bits.ensures ∙ onto 64 c.args.hash 0 ∙ omega arith
