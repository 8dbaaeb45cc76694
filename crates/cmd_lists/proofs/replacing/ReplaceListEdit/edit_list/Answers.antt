use Rattle.cmd_lists.proofs.Setting.{replaces}
use Rattle.cmd_lists.proofs.replacing.ReplaceListEdit.edit_list.Goals as goal

pub returns-clause-makes : goal.returns-clause-makes
returns-clause-makes g c = replaces _ _ c.args.list.now c.set.new.self c.args.self.now.place c.args.self.now.element.now c.requires.takes c.set.result c.set.ensures.written
