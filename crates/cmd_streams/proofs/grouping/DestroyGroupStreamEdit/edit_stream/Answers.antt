use Rattle.blocks.specs.Blocks.{Served}
use Rattle.cmd_streams.proofs.Regrouped.{regrouped_changes}
use Rattle.cmd_streams.proofs.grouping.DestroyGroupStreamEdit.edit_stream.Goals as goal

pub returns-clause-changes : goal.returns-clause-changes
returns-clause-changes g c = regrouped_changes _ c.args.stream.now c.group_destroy.new.self _ c.requires.sound c.group_destroy.ensures.new

pub returns-clause-served : goal.returns-clause-served
returns-clause-served g c = Served.no_step
