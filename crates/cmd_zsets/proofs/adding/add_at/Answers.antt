use Rattle.std.proofs.Common.{ap, ◌∙◌}
use Rattle.plain_model.specs.ZsetSteps.{keep_zset}
use Rattle.keyspace.specs.Commands.{visible}
use Rattle.cmd_zsets.proofs.Telling.{formed_risen}
use Rattle.cmd_zsets.proofs.adding.add_at.Goals as goal

pub returns-clause-added : goal.returns-clause-added
returns-clause-added g c =
    let p = c.in_ok-add.ensures.changed in
    record {
      before = p.before;
      stands = p.stands;
      world = p.world ∙ ap (keep_zset (visible g.B.BlockStore.blocks c.args.keyspace.now c.args.at.now) c.args.key.now) p.made.is;
      counted = p.made.counted;
    }

pub returns-clause-forms : goal.returns-clause-forms
returns-clause-forms g c =
    let p = c.in_ok-add.ensures.changed in
    formed_risen _ g.B.BlockStore.blocks g.B.BlockStore.step c.args.keyspace.now c.change_zset.new.keyspace c.args.at.now c.args.key.now p c.change_zset.ensures.held c.args.rules
    c.args.pairs.now p.made.risen
