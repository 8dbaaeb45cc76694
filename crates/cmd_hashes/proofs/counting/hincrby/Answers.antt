use Rattle.std.proofs.Common.{◌∙◌}
use Rattle.std.specs.Int.{w64}
use Rattle.std.proofs.lemmas.Int.{to_z-of_z}
use Rattle.plain_model.specs.declared.hash_command.HashCommand.TheVariants as hashes
use Rattle.keyspace.specs.Commands.{visible}
use Rattle.keyspace.specs.Forms.{hash_form}
use Rattle.keyspace.specs.Scopes.{one_key}
use Rattle.keyspace.proofs.Running.{unchanged}
use Rattle.keyspace.proofs.Forming.{unformed}
use Rattle.cmd_hashes.proofs.Counted.{no_number_told}
use Rattle.cmd_hashes.proofs.counting.hincrby.Goals as goal

pub returns-in-Other-clause-kept : goal.returns-in-Other-clause-kept
returns-in-Other-clause-kept g c = unchanged g.B.BlockStore.blocks g.B.BlockStore.step (one_key c.args.at.now.db c.args.key.now) c.args.keyspace.now _ c.requires.ready.sound

pub returns-in-None-clause-gives : goal.returns-in-None-clause-gives
returns-in-None-clause-gives g c =
    let f = c.number_there.ensures in
    no_number_told (visible g.B.BlockStore.blocks c.args.keyspace.now c.args.at.now) c.args.key.now c.args.field.now c.args.by f.0 f.1 (f.2 ∙ c.in-None.is) c.refused-in-None.result
    c.refused-in-None.ensures

pub returns-in-None-clause-kept : goal.returns-in-None-clause-kept
returns-in-None-clause-kept g c = unchanged g.B.BlockStore.blocks g.B.BlockStore.step (one_key c.args.at.now.db c.args.key.now) c.args.keyspace.now _ c.requires.ready.sound

pub returns-in-None-clause-forms : goal.returns-in-None-clause-forms
returns-in-None-clause-forms g c =
    unformed g.B.BlockStore.blocks (hash_form c.args.at.now.db (visible g.B.BlockStore.blocks c.args.keyspace.now c.args.at.now) (hashes.HIncrBy c.args.key.now c.args.field.now c.args.by))
    c.args.keyspace.now _

pub returns-in-Some-clause-forms : goal.returns-in-Some-clause-forms
returns-in-Some-clause-forms g c = rw (to_z-of_z w64 c.args.by c.ranges.by) at c.count_on.ensures.forms
