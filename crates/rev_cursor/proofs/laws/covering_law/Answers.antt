use Rattle.rev_cursor.proofs.Walks.{once_from, none_before, whole_walk, met_once}
use Rattle.rev_cursor.proofs.laws.covering_law.Goals as goal

pub returns : goal.returns
returns c = record { once = once_from; none = none_before; whole = whole_walk; met = met_once }
