use Rattle.std.proofs.Common.{arith}
use Rattle.keyspace.proofs.Settles.{settles_gone}
use Rattle.cmd_hashes.proofs.AtKeys.{hash_kept, hash_gone, held_gone}
use Rattle.cmd_hashes.proofs.changing.change_hash.Goals as goal

pub returns-then-left-gt0-clause-changed : goal.returns-then-left-gt0-clause-changed
returns-then-left-gt0-clause-changed g c =
    hash_kept (g.E.HashEdit.makes c.args.edit c.edit_hash.new.on.edit) c.edit_hash.new.on.left g.B.BlockStore.blocks c.args.keyspace.now c.edit_hash.new.keyspace c.args.at.now
    c.args.key.now c.in_ok-edit_hash.ensures.edited (omega (arith, c.if-left-gt0.true))

pub returns-clause-changed : goal.returns-clause-changed
returns-clause-changed g c =
    hash_gone (g.E.HashEdit.makes c.args.edit c.edit_hash.new.on.edit) c.edit_hash.new.on.left g.B.BlockStore.blocks c.args.keyspace.now c.edit_hash.new.keyspace c.args.at.now
    c.args.key.now c.in_ok-edit_hash.ensures.edited (omega (arith, c.if-left-gt0.false)) c.drop_sought.new.keyspace c.drop_sought.ensures.world c.drop_sought.ensures.held.within

pub returns-clause-held : goal.returns-clause-held
returns-clause-held g c =
    held_gone g.B.BlockStore.blocks g.B.BlockStore.step c.args.at.now.db c.args.key.now c.args.keyspace.now c.edit_hash.new.keyspace c.drop_sought.new.keyspace c.edit_hash.ensures.held
    c.drop_sought.ensures.held

pub returns-then-left-gt0-clause-settles : goal.returns-then-left-gt0-clause-settles
returns-then-left-gt0-clause-settles g c = c.in_ok-edit_hash.ensures.settles

pub returns-clause-settles : goal.returns-clause-settles
returns-clause-settles g c =
    settles_gone g.B.BlockStore.blocks c.args.at.now c.args.key.now c.args.keyspace.now c.drop_sought.new.keyspace c.drop_sought.ensures.gone
