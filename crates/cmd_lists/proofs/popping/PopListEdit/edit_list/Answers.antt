use Rattle.blocks.specs.Blocks.{no_step}
use Rattle.cmd_lists.proofs.popping.PopListEdit.edit_list.Goals as goal

pub returns-in_err-self-clause-served : goal.returns-in_err-self-clause-served
returns-in_err-self-clause-served g c = no_step
