use Rattle.keyspace.proofs.Running.{unchanged}
use Rattle.keyspace.specs.Scopes.{one_key}
use Rattle.keyspace.specs.Forms.{Whole}
use Rattle.keyspace.proofs.Forming.{unformed}
use Rattle.cmd_values.proofs.strings.writing.set.Goals as goal
use Rattle.std.specs.Prelude.{is_some}
use Rattle.plain_world.specs.Worlds.{look}
use Rattle.keyspace.specs.Commands.{visible}
use Rattle.plain_model.specs.StringSteps.{allows}
use Rattle.plain_world.specs.declared.refusal.Refusal.TheVariants.{InvalidExpireTime}
use Rattle.keyspace.specs.Forms.{placed_at, whole_where}
use Rattle.keyspace.proofs.Forming.{formed_refused}

pub returns-in-None-clause-kept : goal.returns-in-None-clause-kept
returns-in-None-clause-kept g c =
    unchanged g.B.BlockStore.blocks g.B.BlockStore.step (one_key c.args.at.now.db c.args.key.now) c.args.keyspace.now _ c.requires.ready.sound

pub returns-in-None-clause-forms : goal.returns-in-None-clause-forms
returns-in-None-clause-forms g c =
    let writes = allows c.args.options.condition (is_some (look (visible g.B.BlockStore.blocks c.args.keyspace.now c.args.at.now) c.args.key.now)) in
    formed_refused g.B.BlockStore.blocks (whole_where writes) (placed_at c.args.at.now.db c.args.key.now (whole_where writes)) c.args.keyspace.now InvalidExpireTime _ c.refused.ensures
