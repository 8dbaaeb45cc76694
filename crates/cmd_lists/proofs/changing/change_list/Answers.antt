use Rattle.std.proofs.Common.{arith}
use Rattle.cmd_lists.proofs.AtKeys.{list_kept, list_gone, held_gone}
use Rattle.cmd_lists.proofs.changing.change_list.Goals as goal

pub returns-then-left-gt0-clause-changed : goal.returns-then-left-gt0-clause-changed
returns-then-left-gt0-clause-changed g c =
    list_kept (g.E.ListEdit.makes c.args.edit c.edit_list.new.on.edit) c.edit_list.new.on.left g.B.BlockStore.blocks c.args.keyspace.now c.edit_list.new.keyspace c.args.at.now
    c.args.key.now c.in_ok-edit_list.ensures.edited (omega (arith, c.if-left-gt0.true))

pub returns-clause-changed : goal.returns-clause-changed
returns-clause-changed g c =
    list_gone (g.E.ListEdit.makes c.args.edit c.edit_list.new.on.edit) c.edit_list.new.on.left g.B.BlockStore.blocks c.args.keyspace.now c.edit_list.new.keyspace c.args.at.now
    c.args.key.now c.in_ok-edit_list.ensures.edited (omega (arith, c.if-left-gt0.false)) c.drop_sought.new.keyspace c.drop_sought.ensures.world c.drop_sought.ensures.held.within

pub returns-clause-held : goal.returns-clause-held
returns-clause-held g c =
    held_gone g.B.BlockStore.blocks g.B.BlockStore.step c.args.at.now.db c.args.key.now c.args.keyspace.now c.edit_list.new.keyspace c.drop_sought.new.keyspace c.edit_list.ensures.held
    c.drop_sought.ensures.held
