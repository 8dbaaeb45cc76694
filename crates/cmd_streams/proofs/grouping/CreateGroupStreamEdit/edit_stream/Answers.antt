use Rattle.std.proofs.Common.{refl}
use Rattle.blocks.specs.Blocks.{Served}
use Rattle.cmd_streams.proofs.Rests.{left_changes}
use Rattle.cmd_streams.proofs.Regrouped.{regrouped_changes}
use Rattle.cmd_streams.proofs.grouping.CreateGroupStreamEdit.edit_stream.Goals as goal

pub returns-in_err-group_create-clause-changes : goal.returns-in_err-group_create-clause-changes
returns-in_err-group_create-clause-changes g c = left_changes _ _ c.args.stream.now c.group_create.new.self c.requires.sound c.in_err-group_create.ensures.err refl

pub returns-in_err-group_create-clause-served : goal.returns-in_err-group_create-clause-served
returns-in_err-group_create-clause-served g c = Served.no_step

pub returns-clause-changes : goal.returns-clause-changes
returns-clause-changes g c = regrouped_changes _ c.args.stream.now c.group_create.new.self _ c.requires.sound c.in_ok-group_create.ensures.ok

pub returns-clause-served : goal.returns-clause-served
returns-clause-served g c = Served.no_step
