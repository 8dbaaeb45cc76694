-- The hash at a key, and what a command on hashes gives.
use Rattle.std.specs.Prelude.{◌≡◌, ℕ, List, map, Result, Option, Some, None, IfOk}
use Rattle.std.specs.Borrow.{Bor}
use Rattle.std.specs.FinMap.{get, empty}
use Rattle.blocks.specs.Blocks.{Blocks}
use Rattle.listpack.specs.declared.encoding.Element.{Element}
use Rattle.listpack.specs.Element.{element_text}
use Rattle.hash_object.specs.Fields as object
use Rattle.hash_object.specs.declared.fields.Fields as kept
use Rattle.plain_world.specs.Worlds.{World, HashOf, Entry, look}
use Rattle.plain_world.specs.declared.reply.Part.{Part}
use Rattle.plain_model.specs.Outcomes.{leaves}
use Rattle.plain_model.specs.OfType.{hash_in}
use Rattle.plain_model.specs.HashSteps.{Fields, hash_outcome, value_or_null}
use Rattle.plain_model.specs.declared.ctx.Ctx.{Ctx}
use Rattle.plain_model.specs.declared.hash_command.HashCommand.{HashCommand}
use Rattle.keyspace.specs.Databases.{Keyspace}
use Rattle.keyspace.specs.Commands.{visible}

-- the hash stands at the key, and is sound
pub record FoundHash (world : World) (blocks : Blocks) (key : List ℕ) (hash : kept.Fields) : Type 0 where
  pub deadline : Option ℕ
  pub stands : look world key ≡ Some (record { value = HashOf (object.fields blocks hash); deadline = deadline })
  pub sound : object.IsFields blocks hash

-- a value of another type stands at the key
pub record FoundOther (world : World) (key : List ℕ) : Type 0 where
  pub entry : Entry
  pub stands : look world key ≡ Some entry
  pub other : hash_in entry.value ≡ None

-- the fields of a hash, or none where there is no hash
abbrev pub fields_in : Blocks → Option (Bor kept.Fields) → Fields
fields_in blocks None = empty
fields_in blocks (Some hash) = object.fields blocks hash.now

-- the text of an element, where there is one
abbrev pub text_of : Option Element → Option (List ℕ)
text_of None = None
text_of (Some element) = Some (element_text element)

-- the value of each field, or null
abbrev pub values_of : Fields → List (List ℕ) → List Part
values_of fields others = map (λ field. value_or_null (get fields field)) others

-- from what the old keyspace means the command gives this reply, and leaves what the new one means
abbrev pub Gives : {S E : Type 0} → (S → Blocks) → Keyspace S → Keyspace S → Ctx → HashCommand
    → Result (List Part) E → Type 0
Gives blocks old new at command result =
    IfOk result (λ reply. hash_outcome (visible blocks old at) command ≡ leaves reply (visible blocks new at))
