-- The set at a key, and what a command on sets gives.
use Rattle.std.specs.Prelude.{◌≡◌, ℕ, List, map, Result, Option, Some, None, IfOk}
use Rattle.blocks.specs.Blocks.{Blocks}
use Rattle.set_object.specs.declared.members.Members as object
use Rattle.set_object.specs.Members.{IsMembers, members}
use Rattle.plain_world.specs.Worlds.{World, SetOf, Entry, look}
use Rattle.plain_world.specs.declared.reply.Part.{Part}
use Rattle.plain_world.specs.declared.reply.Part.TheVariants.{Number}
use Rattle.plain_model.specs.Outcomes.{leaves}
use Rattle.plain_model.specs.OfType.{set_in}
use Rattle.plain_model.specs.HashSteps.{one_if}
use Rattle.plain_model.specs.SetSteps.{Members, has, set_outcome}
use Rattle.plain_model.specs.declared.ctx.Ctx.{Ctx}
use Rattle.plain_model.specs.declared.set_command.SetCommand.{SetCommand}
use Rattle.keyspace.specs.Databases.{Keyspace}
use Rattle.keyspace.specs.Commands.{visible}

-- the set stands at the key, and is sound
pub record FoundSet (world : World) (blocks : Blocks) (key : List ℕ) (m : object.Members) : Type 0 where
  pub deadline : Option ℕ
  pub stands : look world key ≡ Some (record { value = SetOf (members blocks m); deadline = deadline })
  pub sound : IsMembers blocks m

-- a value of another type stands at the key
pub record FoundOther (world : World) (key : List ℕ) : Type 0 where
  pub entry : Entry
  pub stands : look world key ≡ Some entry
  pub other : set_in entry.value ≡ None

-- for each word whether it is a member
abbrev pub told_each : Members → List (List ℕ) → List Part
told_each members words = map (λ member. Number (one_if (has members member))) words

-- from what the old keyspace means the command gives this reply, and leaves what the new one means
abbrev pub Gives : {S E : Type 0} → (S → Blocks) → Keyspace S → Keyspace S → Ctx → SetCommand
    → Result (List Part) E → Type 0
Gives blocks old new at command result =
    IfOk result (λ reply. set_outcome (visible blocks old at) command ≡ leaves reply (visible blocks new at))
