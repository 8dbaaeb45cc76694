use Rattle.cmd_sets.proofs.Put.{put_world, put_count, put_form, held_anew}
use Rattle.cmd_sets.proofs.storing.put_words.Goals as goal

pub returns-in_err-add-clause-held : goal.returns-in_err-add-clause-held
returns-in_err-add-clause-held g c =
    held_anew g.B.BlockStore.blocks g.B.BlockStore.step c.args.at.now.db c.args.key.now c.args.keyspace.now c.drop_sought.new.keyspace c.change_set.new.keyspace c.drop_sought.ensures.held
    c.change_set.ensures.held

pub returns-clause-held : goal.returns-clause-held
returns-clause-held g c =
    held_anew g.B.BlockStore.blocks g.B.BlockStore.step c.args.at.now.db c.args.key.now c.args.keyspace.now c.drop_sought.new.keyspace c.change_set.new.keyspace c.drop_sought.ensures.held
    c.change_set.ensures.held

pub returns-clause-world : goal.returns-clause-world
returns-clause-world g c =
    put_world g.B.BlockStore.blocks c.args.keyspace.now c.drop_sought.new.keyspace c.change_set.new.keyspace c.args.at.now c.args.key.now c.args.words.now _ c.drop_sought.ensures.world
    c.in_ok-add.ensures.changed

pub returns-clause-counted : goal.returns-clause-counted
returns-clause-counted g c =
    put_count g.B.BlockStore.blocks c.args.keyspace.now c.drop_sought.new.keyspace c.change_set.new.keyspace c.args.at.now c.args.key.now c.args.words.now _ c.drop_sought.ensures.world
    c.in_ok-add.ensures.changed

pub returns-clause-new : goal.returns-clause-new
returns-clause-new g c =
    put_form g.B.BlockStore.blocks c.args.keyspace.now c.drop_sought.new.keyspace c.change_set.new.keyspace c.args.at.now c.args.key.now c.args.words.now _ c.drop_sought.ensures.world
    c.in_ok-add.ensures.changed c.drop_sought.ensures.held.settings.limits
