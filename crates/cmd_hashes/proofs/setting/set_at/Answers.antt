use Rattle.std.proofs.Common.{ap, ◌∙◌, ◌-◌}
use Rattle.std.specs.FinMap.{len}
use Rattle.plain_model.specs.HashSteps.{or_no_fields, keep_hash}
use Rattle.keyspace.specs.Commands.{visible}
use Rattle.cmd_hashes.proofs.Telling.{formed_risen}
use Rattle.cmd_hashes.proofs.setting.set_at.Goals as goal

pub returns-clause-set : goal.returns-clause-set
returns-clause-set g c =
    let p = c.in_ok-set.ensures.changed in
    record {
      before = p.before;
      stands = p.stands;
      world = p.world ∙ ap (keep_hash (visible g.B.BlockStore.blocks c.args.keyspace.now c.args.at.now) c.args.key.now) p.made.is;
      counted = p.made.counted ∙ ap (λ m. len m - len (or_no_fields p.before)) p.made.is;
    }

pub returns-clause-forms : goal.returns-clause-forms
returns-clause-forms g c =
    let p = c.in_ok-set.ensures.changed in
    formed_risen _ g.B.BlockStore.blocks g.B.BlockStore.step c.args.keyspace.now c.change_hash.new.keyspace c.args.at.now c.args.key.now p c.change_hash.ensures.held c.args.pairs.now p.made.risen
