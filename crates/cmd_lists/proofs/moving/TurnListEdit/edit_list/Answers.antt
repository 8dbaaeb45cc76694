use Rattle.blocks.proofs.Serve.{served_then}
use Rattle.cmd_lists.proofs.moving.TurnListEdit.edit_list.Goals as goal

pub returns-clause-served : goal.returns-clause-served
returns-clause-served g c = served_then _ _ _ c.take_off.ensures.served c.push_one.ensures.served
