use Rattle.std.proofs.Common.{◌∙◌, rules}
use Rattle.std.specs.Prelude.{ℤ, [], ◌∷◌, FitsSigned}
use Rattle.std.specs.Int.{w64}
use Rattle.std.proofs.lemmas.Int.{to_z-of_z}
use Rattle.plain_world.specs.Worlds.{look}
use Rattle.plain_model.specs.Outcomes.{Outcome, leaves}
use Rattle.plain_model.specs.StringSteps.{on_string, or_null}
use Rattle.plain_model.specs.Deadlines.{expire}
use Rattle.keyspace.specs.Commands.{visible}
use Rattle.cmd_values.proofs.StringLemmas.{given, old_value_then, due_fits}
use Rattle.keyspace.proofs.Running.{unchanged, calm}
use Rattle.keyspace.specs.Scopes.{no_key}
use Rattle.cmd_values.proofs.strings.lasting.get_until.Goals as goal

pub returns-in-Some-clause-gives : goal.returns-in-Some-clause-gives
returns-in-Some-clause-gives g c =
    let old = (visible g.B.BlockStore.blocks c.args.keyspace.now c.args.at.now) in
    let answer : ℤ → Outcome = λ deadline. on_string old (look old c.args.key.now)
    (λ before. leaves (or_null before ∷ []) (expire old c.args.at.now.moment c.args.key.now deadline (look old c.args.key.now))) in
    let typed = rw c.in-Some.is at c.due.type_inv in
    let fits : FitsSigned w64 c.in-Some.due = record { sfits = typed.1.1.1.1.0.1 } in
    given c.get_expiring.result (λ reply is. due_fits old c.args.at.now.moment c.args.time c.in-Some.due answer c.in-Some.ensures.some fits ∙ is)
    (rw (to_z-of_z w64 c.in-Some.due fits) at c.get_expiring.ensures.gives)

pub returns-in-None-clause-kept : goal.returns-in-None-clause-kept
returns-in-None-clause-kept g c =
    unchanged g.B.BlockStore.blocks g.B.BlockStore.step (no_key c.args.at.now.db) c.args.keyspace.now _ c.requires.ready.sound
