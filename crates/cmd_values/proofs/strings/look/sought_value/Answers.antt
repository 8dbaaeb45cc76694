use Rattle.cmd_values.proofs.StringLemmas.{old_some}
use Rattle.cmd_values.proofs.strings.look.sought_value.Goals as goal

pub returns-in_ok-bulk-in-There : goal.returns-in_ok-bulk-in-There
returns-in_ok-bulk-in-There g c = old_some _ _ _ _ _ _ c.in-There.ensures c.in_ok-bytes-in-There.ensures c.in_ok-bulk-in-There.ensures
