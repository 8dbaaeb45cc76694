use Rattle.std.proofs.Common.{sym, ap, ◌∙◌}
use Rattle.plain_model.specs.ZsetSteps.{are_scores}
use Rattle.cmd_zsets.specs.Joined.{gathered}
use Rattle.cmd_zsets.proofs.Gathered.{entries_gathered, len_gathered}
use Rattle.cmd_zsets.proofs.Put.{put_world, put_form, held_anew}
use Rattle.cmd_zsets.proofs.storing.put_sums.Goals as goal

pub returns-in_err-change_zset-clause-held : goal.returns-in_err-change_zset-clause-held
returns-in_err-change_zset-clause-held g c =
    held_anew g.B.BlockStore.blocks g.B.BlockStore.step c.args.at.now.db c.args.key.now c.args.keyspace.now c.drop_sought.new.keyspace c.change_zset.new.keyspace c.drop_sought.ensures.held
    c.change_zset.ensures.held

pub returns-clause-held : goal.returns-clause-held
returns-clause-held g c =
    held_anew g.B.BlockStore.blocks g.B.BlockStore.step c.args.at.now.db c.args.key.now c.args.keyspace.now c.drop_sought.new.keyspace c.change_zset.new.keyspace c.drop_sought.ensures.held
    c.change_zset.ensures.held

pub returns-clause-world : goal.returns-clause-world
returns-clause-world g c =
    put_world g.B.BlockStore.blocks c.args.keyspace.now c.drop_sought.new.keyspace c.change_zset.new.keyspace c.args.at.now c.args.key.now (gathered c.args.sums)
    c.drop_sought.ensures.world c.in_ok-change_zset.ensures.changed

pub returns-clause-counted : goal.returns-clause-counted
returns-clause-counted g c = c.len-count.ensures.len ∙ sym (len_gathered c.args.sums c.len-count.ensures.ordered)

pub returns-clause-new : goal.returns-clause-new
returns-clause-new g c =
    put_form g.B.BlockStore.blocks c.args.keyspace.now c.drop_sought.new.keyspace c.change_zset.new.keyspace c.args.at.now c.args.key.now (gathered c.args.sums) c.drop_sought.ensures.world
    c.in_ok-change_zset.ensures.changed c.drop_sought.ensures.held.settings.limits

pub change_zset-requires-clause-takes : goal.change_zset-requires-clause-takes
change_zset-requires-clause-takes g c = λ before is. ap are_scores (sym (entries_gathered c.args.sums c.len-count.ensures.ordered)) ∙ c.requires.range
