use Rattle.std.proofs.Common.{arith}
use Rattle.keyspace.proofs.Settles.{settles_gone}
use Rattle.cmd_sets.proofs.AtKeys.{set_kept, set_gone, held_gone}
use Rattle.cmd_sets.proofs.changing.change_set.Goals as goal

pub returns-then-left-gt0-clause-changed : goal.returns-then-left-gt0-clause-changed
returns-then-left-gt0-clause-changed g c =
    set_kept (g.E.SetEdit.makes c.args.keyspace.now.bases.limits c.args.edit c.edit_set_at.new.on.edit) c.edit_set_at.new.on.left g.B.BlockStore.blocks c.args.keyspace.now
    c.edit_set_at.new.keyspace c.args.at.now c.args.key.now c.in_ok-edit_set_at.ensures.edited (omega (arith, c.if-left-gt0.true))

pub returns-clause-changed : goal.returns-clause-changed
returns-clause-changed g c =
    set_gone (g.E.SetEdit.makes c.args.keyspace.now.bases.limits c.args.edit c.edit_set_at.new.on.edit) c.edit_set_at.new.on.left g.B.BlockStore.blocks c.args.keyspace.now
    c.edit_set_at.new.keyspace c.args.at.now c.args.key.now c.in_ok-edit_set_at.ensures.edited (omega (arith, c.if-left-gt0.false)) c.drop_sought.new.keyspace
    c.drop_sought.ensures.world c.drop_sought.ensures.gone

pub returns-clause-held : goal.returns-clause-held
returns-clause-held g c =
    held_gone g.B.BlockStore.blocks g.B.BlockStore.step c.args.at.now.db c.args.key.now c.args.keyspace.now c.edit_set_at.new.keyspace c.drop_sought.new.keyspace c.edit_set_at.ensures.held
    c.drop_sought.ensures.held

pub returns-then-left-gt0-clause-settles : goal.returns-then-left-gt0-clause-settles
returns-then-left-gt0-clause-settles g c = c.in_ok-edit_set_at.ensures.settles

pub returns-clause-settles : goal.returns-clause-settles
returns-clause-settles g c =
    settles_gone g.B.BlockStore.blocks c.args.at.now c.args.key.now c.args.keyspace.now c.drop_sought.new.keyspace c.drop_sought.ensures.gone
