-- The list at a key, and what a command on lists gives.
use Rattle.std.specs.Prelude.{◌≡◌, ℕ, List, Result, Option, Some, None, IfOk}
use Rattle.blocks.specs.Blocks.{Blocks}
use Rattle.quicklist.specs.Chain.{Chain, IsQuick, elements}
use Rattle.plain_world.specs.Worlds.{World, ListOf, Entry, look}
use Rattle.plain_world.specs.declared.reply.Part.{Part}
use Rattle.plain_model.specs.Outcomes.{leaves}
use Rattle.plain_model.specs.OfType.{list_in}
use Rattle.plain_model.specs.ListSteps.{list_outcome}
use Rattle.plain_model.specs.declared.ctx.Ctx.{Ctx}
use Rattle.plain_model.specs.declared.list_command.ListCommand.{ListCommand}
use Rattle.keyspace.specs.Databases.{Keyspace}
use Rattle.keyspace.specs.Commands.{visible}

-- the list stands at the key, and is sound
pub record FoundList (world : World) (blocks : Blocks) (key : List ℕ) (q : Chain) : Type 0 where
  pub deadline : Option ℕ
  pub stands : look world key ≡ Some (record { value = ListOf (elements blocks q); deadline = deadline })
  pub quick : IsQuick blocks q

-- a value of another type stands at the key
pub record FoundOther (world : World) (key : List ℕ) : Type 0 where
  pub entry : Entry
  pub stands : look world key ≡ Some entry
  pub other : list_in entry.value ≡ None

-- from what the old keyspace means the command gives this reply, and leaves what the new one means
abbrev pub Gives : {S E : Type 0} → (S → Blocks) → Keyspace S → Keyspace S → Ctx → ListCommand
    → Result (List Part) E → Type 0
Gives blocks old new at command result =
    IfOk result (λ reply. list_outcome (visible blocks old at) command ≡ leaves reply (visible blocks new at))
