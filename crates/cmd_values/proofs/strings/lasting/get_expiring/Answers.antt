use Rattle.std.proofs.Common.{◌∙◌, rules}
use Rattle.std.specs.Prelude.{ℤ, [], ◌∷◌, FitsSigned}
use Rattle.std.specs.Int.{w64}
use Rattle.std.proofs.lemmas.Int.{to_z-of_z}
use Rattle.plain_world.specs.Worlds.{look}
use Rattle.plain_model.specs.Outcomes.{Outcome, leaves}
use Rattle.plain_model.specs.StringSteps.{on_string, or_null}
use Rattle.plain_model.specs.Deadlines.{expire}
use Rattle.keyspace.specs.Commands.{visible}
use Rattle.cmd_values.proofs.StringLemmas.{old_value_then, due_fits}
use Rattle.keyspace.proofs.Running.{unchanged, calm}
use Rattle.keyspace.specs.Scopes.{no_key}
use Rattle.cmd_values.proofs.strings.lasting.get_expiring.Goals as goal

pub returns-in_ok-expire_sought-in-Some-clause-gives : goal.returns-in_ok-expire_sought-in-Some-clause-gives
returns-in_ok-expire_sought-in-Some-clause-gives g c =
    old_value_then (visible g.B.BlockStore.blocks c.args.keyspace.now c.args.at.now) (visible g.B.BlockStore.blocks c.expire_sought.new.keyspace c.args.at.now) c.args.key.now c.in-Some.reply _
    (rw c.in-Some.is at c.in_ok-sought_value.ensures) (rw (to_z-of_z w64 c.args.due c.ranges.due) at c.in_ok-expire_sought-in-Some.ensures.world)

pub returns-in_ok-expire_sought-in-Some-clause-kept : goal.returns-in_ok-expire_sought-in-Some-clause-kept
returns-in_ok-expire_sought-in-Some-clause-kept g c =
    calm g.B.BlockStore.blocks g.B.BlockStore.step (no_key c.args.at.now.db) c.args.keyspace.now c.expire_sought.new.keyspace _ (search rules) c.expire_sought.ensures.held

pub returns-in_err-sought_value-clause-kept : goal.returns-in_err-sought_value-clause-kept
returns-in_err-sought_value-clause-kept g c =
    unchanged g.B.BlockStore.blocks g.B.BlockStore.step (no_key c.args.at.now.db) c.args.keyspace.now _ c.requires.ready.sound

pub returns-in-None-clause-kept : goal.returns-in-None-clause-kept
returns-in-None-clause-kept g c =
    unchanged g.B.BlockStore.blocks g.B.BlockStore.step (no_key c.args.at.now.db) c.args.keyspace.now _ c.requires.ready.sound
