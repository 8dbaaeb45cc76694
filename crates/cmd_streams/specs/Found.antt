-- The stream at a key, and what a command on streams gives.
use Rattle.std.specs.Prelude.{◌≡◌, ℕ, List, Result, Option, Some, None, IfOk}
use Rattle.blocks.specs.Blocks.{Blocks}
use Rattle.stream_object.specs.Streams as object
use Rattle.stream_object.specs.declared.stream.Stream as kept
use Rattle.plain_world.specs.Worlds.{World, StreamOf, Entry, look}
use Rattle.plain_world.specs.declared.reply.Part.{Part}
use Rattle.plain_model.specs.Outcomes.{leaves}
use Rattle.plain_model.specs.OfType.{stream_in}
use Rattle.plain_model.specs.GroupSteps.{stream_outcome}
use Rattle.plain_model.specs.declared.ctx.Ctx.{Ctx}
use Rattle.plain_model.specs.declared.stream_command.StreamCommand.{StreamCommand}
use Rattle.keyspace.specs.Databases.{Keyspace}
use Rattle.keyspace.specs.Commands.{visible}

-- the stream stands at the key, and is sound
pub record FoundStream (world : World) (blocks : Blocks) (key : List ℕ) (stream : kept.Stream) : Type 0 where
  pub deadline : Option ℕ
  pub stands : look world key ≡ Some (record { value = StreamOf (object.stream_of blocks stream); deadline = deadline })
  pub sound : object.IsStream blocks stream

-- a value of another type stands at the key
pub record FoundOther (world : World) (key : List ℕ) : Type 0 where
  pub entry : Entry
  pub stands : look world key ≡ Some entry
  pub other : stream_in entry.value ≡ None

-- from what the old keyspace means the command gives this reply, and leaves what the new one means
abbrev pub Gives : {S E : Type 0} → (S → Blocks) → Keyspace S → Keyspace S → Ctx → StreamCommand
    → Result (List Part) E → Type 0
Gives blocks old new at command result =
    IfOk result (λ reply. stream_outcome (visible blocks old at) at.moment command ≡ leaves reply (visible blocks new at))
