-- What a command promises that runs over a keyspace.
use Rattle.std.specs.Prelude.{◌≡◌, ◌<◌, List, Result, IfOk}
use Rattle.blocks.specs.Blocks.{Blocks, Served}
use Rattle.plain_world.specs.Worlds.{World, live}
use Rattle.plain_model.specs.Steps.{may}
use Rattle.plain_model.specs.Outcomes.{IsRefusal}
use Rattle.plain_model.specs.declared.command.Command.{Command}
use Rattle.plain_model.specs.declared.ctx.Ctx.{Ctx}
use Rattle.plain_world.specs.declared.reply.Part.{Part}
use Rattle.keyspace.specs.Databases.{Bases, Keyspace, means, SameSettings}
use Rattle.keyspace.specs.Sound.{Sound}
use Rattle.keyspace.specs.Scopes.{Scope, Within, scope_of}
use Rattle.keyspace.specs.Insides.{Insides}
use Rattle.keyspace.specs.Shown.{Shows}
use Rattle.keyspace.specs.Forms.{FormedBy}

-- the world that a command sees
abbrev pub seen : Ctx → Bases → Blocks → World
seen at bases blocks = live (means at.db bases blocks) at.moment

abbrev pub visible : {S : Type 0} → (S → Blocks) → Keyspace S → Ctx → World
visible blocks keyspace at = seen at keyspace.bases (blocks keyspace.store)

-- a command may run: it names one of the 16 databases, and they are sound
pub record Ready {S : Type 0} (blocks : S → Blocks) (keyspace : Keyspace S) (at : Ctx) : Type 0 where
  pub db : at.db < 16
  pub sound : Sound keyspace.bases (blocks keyspace.store)

-- The keyspace is sound afterwards, also for want of memory, the store was served placings, returns and writes alone,
-- nothing changed outside the scope, and the tables inside values come from those before.
pub record KeepsTo {S : Type 0} (blocks : S → Blocks) (step : S → S → Type 0) (scope : Scope) (old new : Keyspace S)
    : Type 0 where
  pub sound : Sound new.bases (blocks new.store)
  pub served : Served step old.store new.store
  pub settings : SameSettings old.bases new.bases
  pub within : Within scope old.bases new.bases (blocks old.store) (blocks new.store)
  pub insides : Insides scope old.bases new.bases (blocks old.store) (blocks new.store)

-- The same, and where the command is refused, keyspace and store stay as they are.
pub record KeepsOrRefuses {S E : Type 0} (blocks : S → Blocks) (step : S → S → Type 0) (scope : Scope) (old new : Keyspace S)
    (result : Result (List Part) E) : Type 0 where
  pub refusals : IfOk result (λ reply. IsRefusal reply → new ≡ old)
  pub held : KeepsTo blocks step scope old new

-- The command is a step of the model on what the keyspace means, before and after, and what it writes is encoded by its
-- rule.
pub record Runs {S E : Type 0} (blocks : S → Blocks) (step : S → S → Type 0) (old new : Keyspace S) (at : Ctx)
    (command : Command) (result : Result (List Part) E) : Type 0 where
  pub answers : IfOk result
      (λ reply. may old.bases.seed (visible blocks old at) at.moment command reply (visible blocks new at))
  pub kept : KeepsOrRefuses blocks step (scope_of at.db command) old new result
  pub shows : IfOk result (λ reply. Shows blocks old new at command reply)
  pub forms : IfOk result (λ reply. FormedBy blocks at.db (visible blocks old at) command reply old new)
