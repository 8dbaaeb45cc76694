use Rattle.glob.proofs.Pieces.{backslash_last, backslash_before}
use Rattle.glob.proofs.piece.escaped_piece.Goals as goal

pub returns-in-empty : goal.returns-in-empty
returns-in-empty c = rw c.takes_if.ensures (backslash_last c.args.rest.now c.args.byte c.in-empty.len_below)

pub returns-in-len1-up : goal.returns-in-len1-up
returns-in-len1-up c = rw c.takes_if-in-len1-up.ensures (backslash_before c.args.rest.now c.args.byte c.in-len1-up.len_at_least)
