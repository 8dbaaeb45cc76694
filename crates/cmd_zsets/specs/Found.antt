-- The sorted set at a key, and what a command on sorted sets gives.
use Rattle.std.specs.Prelude.{◌≡◌, ℕ, List, Result, Option, Some, None, IfOk}
use Rattle.std.specs.Borrow.{Bor}
use Rattle.std.specs.FinMap.{empty}
use Rattle.blocks.specs.Blocks.{Blocks}
use Rattle.zset_object.specs.Scored as object
use Rattle.zset_object.specs.declared.scored.Scored as kept
use Rattle.plain_world.specs.Worlds.{World, SortedOf, Entry, look}
use Rattle.plain_world.specs.declared.reply.Part.{Part}
use Rattle.plain_model.specs.Outcomes.{leaves}
use Rattle.plain_model.specs.OfType.{zset_in}
use Rattle.plain_model.specs.ZsetSteps.{Scores, zset_outcome}
use Rattle.plain_model.specs.declared.ctx.Ctx.{Ctx}
use Rattle.plain_model.specs.declared.zset_command.ZsetCommand.{ZsetCommand}
use Rattle.keyspace.specs.Databases.{Keyspace}
use Rattle.keyspace.specs.Commands.{visible}

-- the sorted set stands at the key, and is sound
pub record FoundZset (world : World) (blocks : Blocks) (key : List ℕ) (zset : kept.Scored) : Type 0 where
  pub deadline : Option ℕ
  pub stands : look world key ≡ Some (record { value = SortedOf (object.scores blocks zset); deadline = deadline })
  pub sound : object.IsScored blocks zset

-- a value of another type stands at the key
pub record FoundOther (world : World) (key : List ℕ) : Type 0 where
  pub entry : Entry
  pub stands : look world key ≡ Some entry
  pub other : zset_in entry.value ≡ None

-- the scores of a sorted set, or none where there is no sorted set
abbrev pub scores_in : Blocks → Option (Bor kept.Scored) → Scores
scores_in blocks None = empty
scores_in blocks (Some zset) = object.scores blocks zset.now

-- from what the old keyspace means the command gives this reply, and leaves what the new one means
abbrev pub Gives : {S E : Type 0} → (S → Blocks) → Keyspace S → Keyspace S → Ctx → ZsetCommand
    → Result (List Part) E → Type 0
Gives blocks old new at command result =
    IfOk result (λ reply. zset_outcome (visible blocks old at) command ≡ leaves reply (visible blocks new at))
