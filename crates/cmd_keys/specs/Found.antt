-- What a command on keys gives, and what it is told of deadlines.
use Rattle.std.specs.Prelude.{◌≡◌, ◌<◌, ◌≤◌, ◌^◌, ℕ, ℤ, List, pos, negsuc, Option, Result, Ok, Err, IfOk, IfSome}
use Rattle.blocks.specs.Blocks.{Blocks}
use Rattle.plain_world.specs.Worlds.{World, look}
use Rattle.plain_world.specs.declared.reply.Part.{Part}
use Rattle.plain_model.specs.Outcomes.{leaves, tells}
use Rattle.plain_model.specs.ConnectionSteps.{connection_outcome}
use Rattle.plain_model.specs.declared.connection.ConnectionCommand.{ConnectionCommand}
use Rattle.plain_model.specs.declared.connection.ConnectionCommand.TheVariants.{Select, MemorySlabs, DebugRehash, DebugDefrag}
use Rattle.plain_model.specs.KeySteps.{key_outcome, time_told}
use Rattle.plain_model.specs.declared.ctx.Ctx.{Ctx}
use Rattle.plain_model.specs.declared.keys.KeyCommand.{KeyCommand}
use Rattle.keyspace.specs.Databases.{Keyspace}
use Rattle.keyspace.specs.Commands.{visible}
use Rattle.cmd_keys.specs.declared.keys.look.Timeless.{Timeless}
use Rattle.cmd_keys.specs.declared.keys.look.Timeless.TheVariants.{NoKey, NoDeadline}

-- from the old world the command gives this reply, and leaves the new one
abbrev pub GivesIn : {E : Type 0} → ℕ → World → KeyCommand → World → Result (List Part) E → Type 0
GivesIn moment old command new result = IfOk result (λ reply. key_outcome moment old command ≡ leaves reply new)

-- from what the old keyspace means the command gives this reply, and leaves what the new one means
abbrev pub Gives : {S E : Type 0} → (S → Blocks) → Keyspace S → Keyspace S → Ctx → KeyCommand → Result (List Part) E
    → Type 0
Gives blocks old new at command result = GivesIn at.moment (visible blocks old at) command (visible blocks new at) result

-- the same of a command on the connection or the server
abbrev pub Serves : {S E : Type 0} → (S → Blocks) → Keyspace S → Keyspace S → Ctx → ConnectionCommand
    → Result (List Part) E → Type 0
Serves blocks old new at command result =
    IfOk result
    (λ reply. connection_outcome at.moment (visible blocks old at) command ≡ leaves reply (visible blocks new at))

-- whatever the world is, the command tells this, and leaves it
abbrev pub Tells : {E : Type 0} → ConnectionCommand → Result (List Part) E → Type 0
Tells command result =
    (moment : ℕ) (world : World) → IfOk result (λ reply. connection_outcome moment world command ≡ tells reply world)

-- what is told in place of a deadline
abbrev pub told_without : Timeless → ℤ
told_without NoKey = negsuc 1
told_without NoDeadline = negsuc 0

abbrev pub told_of : (ℕ → ℕ) → Result ℕ Timeless → ℤ
told_of tell (Ok deadline) = pos (tell deadline)
told_of tell (Err timeless) = told_without timeless

-- whatever is told of the key's deadline is told of this one, or in its place
abbrev pub IsDeadlineAt : World → List ℕ → Result ℕ Timeless → Type 0
IsDeadlineAt world key deadline = (tell : ℕ → ℕ) → time_told tell (look world key) ≡ told_of tell deadline

-- a deadline that is not past at the moment, and at most 2^63 - 1
pub record IsAhead (moment deadline : ℕ) : Type 0 where
  pub later : moment ≤ deadline
  pub latest : deadline < 2 ^ 63

-- a database of a command's words is one of 16
abbrev pub IsDatabase : Option ℕ → Type 0
IsDatabase db = IfSome db (λ number. number < 16)

-- what it may answer is one outcome in the world, over the keyspace alone: it selects no database, makes no steps of
-- its own, and tells nothing of slabs
abbrev pub IsCommon : ConnectionCommand → Type 0
IsCommon (Select number) = ⊥
IsCommon MemorySlabs = ⊥
IsCommon (DebugRehash n) = ⊥
IsCommon (DebugDefrag n) = ⊥
IsCommon other = Unit {0}
