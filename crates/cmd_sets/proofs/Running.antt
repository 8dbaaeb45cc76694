-- A command on sets ran that moves no member.
use Rattle.std.proofs.Common.{◌≡◌, List, [], Result, IfOk}
use Rattle.blocks.specs.Blocks.{Blocks}
use Rattle.plain_world.specs.declared.reply.Part.{Part}
use Rattle.plain_model.specs.Steps.{may}
use Rattle.plain_model.specs.declared.ctx.Ctx.{Ctx}
use Rattle.plain_model.specs.declared.command.Command.{Command}
use Rattle.plain_model.specs.declared.command.Command.TheVariants.{Sets}
use Rattle.plain_model.specs.declared.set_command.SetCommand.{SetCommand}
use Rattle.keyspace.specs.Databases.{Keyspace}
use Rattle.keyspace.specs.Scopes.{scope_of}
use Rattle.keyspace.specs.Forms.{Formed, set_form, set_places}
use Rattle.keyspace.specs.Shown.{Shows}
use Rattle.keyspace.specs.Commands.{Ready, KeepsOrRefuses, Runs, visible}
use Rattle.keyspace.proofs.Running.{ran, unchanged}
use Rattle.keyspace.proofs.Forming.{unformed, formed_nowhere}

module _ {S E : Type 0} (blocks : S → Blocks) (step : S → S → Type 0) where
  pub ran_set : (old new : Keyspace S) (at : Ctx) (command : Command) (same : SetCommand) (result : Result (List Part) E) → command ≡ Sets same
      → IfOk result (λ reply. may old.bases.seed (visible blocks old at) at.moment (Sets same) reply (visible blocks new at))
      → KeepsOrRefuses blocks step (scope_of at.db (Sets same)) old new result → IfOk result (λ reply. Shows blocks old new at (Sets same) reply)
      → IfOk result (λ reply. Formed blocks (set_form at.db (visible blocks old at) same) old new) → set_places at.db (visible blocks old at) same ≡ []
      → Runs blocks step old new at command result
  ran_set old new at command same result is answers kept shows forms nowhere =
      ran blocks step old new at command (Sets same) result is answers kept shows
      (formed_nowhere blocks (set_form at.db (visible blocks old at) same) (set_places at.db (visible blocks old at) same) old new result forms nowhere)

  -- and only looked
  pub looked_set : (keyspace : Keyspace S) (at : Ctx) (command : Command) (same : SetCommand) (result : Result (List Part) E) → command ≡ Sets same
      → IfOk result (λ reply. may keyspace.bases.seed (visible blocks keyspace at) at.moment (Sets same) reply (visible blocks keyspace at))
      → IfOk result (λ reply. Shows blocks keyspace keyspace at (Sets same) reply) → Ready blocks keyspace at → set_places at.db (visible blocks keyspace at) same ≡ []
      → Runs blocks step keyspace keyspace at command result
  looked_set keyspace at command same result is answers shows ready nowhere =
      ran_set keyspace keyspace at command same result is answers (unchanged blocks step (scope_of at.db (Sets same)) keyspace result ready.sound) shows
      (unformed blocks (set_form at.db (visible blocks keyspace at) same) keyspace result) nowhere
