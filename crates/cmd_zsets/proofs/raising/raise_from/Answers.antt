use Rattle.std.proofs.Common.{sym, ◌∙◌}
use Rattle.std.specs.Int.{w64}
use Rattle.std.proofs.lemmas.Int.{to_z-of_z}
use Rattle.plain_model.specs.declared.zset_command.ZsetCommand.TheVariants as zsets
use Rattle.keyspace.specs.Commands.{visible}
use Rattle.keyspace.specs.Forms.{zset_form}
use Rattle.keyspace.specs.Scopes.{one_key}
use Rattle.keyspace.proofs.Running.{unchanged}
use Rattle.keyspace.proofs.Forming.{unformed}
use Rattle.cmd_zsets.proofs.Raised.{barred_told, large_told}
use Rattle.cmd_zsets.proofs.raising.raise_from.Goals as goal

pub returns-then-not-is_admitted-clause-gives : goal.returns-then-not-is_admitted-clause-gives
returns-then-not-is_admitted-clause-gives g c =
    barred_told (visible g.B.BlockStore.blocks c.args.keyspace.now c.args.at.now) c.args.key.now c.args.member.now c.args.rules c.args.by c.args.old c.requires.score
    (sym c.is_admitted.ensures ∙ c.if-not-is_admitted.true) c.null.result c.null.ensures

pub returns-then-not-is_admitted-clause-kept : goal.returns-then-not-is_admitted-clause-kept
returns-then-not-is_admitted-clause-kept g c = unchanged g.B.BlockStore.blocks g.B.BlockStore.step (one_key c.args.at.now.db c.args.key.now) c.args.keyspace.now c.null.result c.requires.ready.sound

pub returns-then-not-is_admitted-clause-forms : goal.returns-then-not-is_admitted-clause-forms
returns-then-not-is_admitted-clause-forms g c =
    unformed g.B.BlockStore.blocks
    (zset_form c.args.at.now.db (visible g.B.BlockStore.blocks c.args.keyspace.now c.args.at.now) (zsets.ZIncr c.args.key.now c.args.rules c.args.by c.args.member.now))
    c.args.keyspace.now c.null.result

pub returns-in-None-clause-gives : goal.returns-in-None-clause-gives
returns-in-None-clause-gives g c =
    large_told (visible g.B.BlockStore.blocks c.args.keyspace.now c.args.at.now) c.args.key.now c.args.member.now c.args.rules c.args.by c.args.old c.requires.score
    (sym c.is_admitted.ensures ∙ c.if-not-is_admitted.false) (rw (to_z-of_z w64 c.args.by c.ranges.by) at c.in-None.ensures) c.refused.result c.refused.ensures

pub returns-in-None-clause-kept : goal.returns-in-None-clause-kept
returns-in-None-clause-kept g c = unchanged g.B.BlockStore.blocks g.B.BlockStore.step (one_key c.args.at.now.db c.args.key.now) c.args.keyspace.now c.refused.result c.requires.ready.sound

pub returns-in-None-clause-forms : goal.returns-in-None-clause-forms
returns-in-None-clause-forms g c =
    unformed g.B.BlockStore.blocks
    (zset_form c.args.at.now.db (visible g.B.BlockStore.blocks c.args.keyspace.now c.args.at.now) (zsets.ZIncr c.args.key.now c.args.rules c.args.by c.args.member.now))
    c.args.keyspace.now c.refused.result

pub returns-in-Some-clause-forms : goal.returns-in-Some-clause-forms
returns-in-Some-clause-forms g c = rw (to_z-of_z w64 c.args.by c.ranges.by) at c.raise_to.ensures.forms
