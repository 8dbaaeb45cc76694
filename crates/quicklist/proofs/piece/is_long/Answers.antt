use Rattle.quicklist.proofs.Places.{too_long}
use Rattle.std.proofs.Common.{arith}
use Rattle.quicklist.proofs.piece.is_long.Goals as goal

pub returns-then-element : goal.returns-then-element
returns-then-element c = (λ t. too_long c.args.element.now (omega arith), λ h. cc)
