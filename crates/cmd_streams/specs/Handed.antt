-- What groups hand out of streams.
use Rattle.std.specs.Prelude.{◌≡◌, ℕ, Bool, List, [], ◌∷◌, ◌++◌, map, Option, None, Some, if◌then◌else◌}
use Rattle.std.specs.FinMap.{get}
use Rattle.blocks.specs.Blocks.{Blocks}
use Rattle.stream_groups.specs.Groups.{Id, changed}
use Rattle.stream_object.specs.Handing.{told}
use Rattle.stream_object.specs.Ranges.{taken}
use Rattle.stream_object.specs.declared.again.Again as object
use Rattle.plain_world.specs.Streams.{Stream}
use Rattle.plain_world.specs.declared.reply.Part.{Part}
use Rattle.plain_model.specs.declared.ctx.Ctx.{Ctx}
use Rattle.plain_model.specs.StreamSteps.{Asked, listed, of_key, some_listed}
use Rattle.plain_model.specs.GroupSteps.{Reader, hand_out, left_of, regrouped, told_in, waits_listed, waits_parts}
use Rattle.keyspace.specs.Databases.{Keyspace}
use Rattle.keyspace.specs.Commands.{visible}
use Rattle.cmd_streams.specs.declared.delivering.Asker.{Asker}
use Rattle.cmd_streams.specs.declared.delivering.Handed.{Handed}
use Rattle.cmd_streams.specs.declared.delivering.Handed.TheVariants.{Fresh, Again}
use Rattle.cmd_streams.specs.declared.delivering.KeyHanded.{KeyHanded}

-- who reads at a moment
abbrev pub reader : ℕ → Asker → Reader
reader moment who = record { moment = moment; group = who.group.now; consumer = who.consumer.now; limit = who.limit }

-- an id that is handed out once more, with the fields and values of its entry
abbrev pub again_parts : object.Again → List Part
again_parts again = waits_parts (told again).0 (told again).1

-- what is told of a key
abbrev pub parts_of : List ℕ → Handed → List Part
parts_of key (Fresh list) = of_key key (listed (map taken list.items))
parts_of key (Again list) = of_key key (waits_listed (map told list.items))

abbrev pub key_parts : KeyHanded → List Part
key_parts one = parts_of one.key.now one.handed

-- the same, where something is told
abbrev pub told_of_key : List ℕ → Option Handed → List (List Part)
told_of_key key None = []
told_of_key key (Some (Fresh list)) = some_listed key (map taken list.items)
told_of_key key (Some (Again list)) = of_key key (waits_listed (map told list.items)) ∷ []

-- whether something is told of a key
abbrev pub IsTold : Handed → Bool → Type 0
IsTold handed tells = (key : List ℕ) → told_of_key key (Some handed) ≡ (if tells then parts_of key handed ∷ [] else [])

-- A group of a stream handed this out, and became another one.
pub record Hands (who : Reader) (above : Option Id) (handed : Option Handed) (old new : Stream) : Type 0 where
  pub told : (key : List ℕ) → told_of_key key handed ≡ told_in who key above old (get old.groups who.group)
  pub is : new ≡ regrouped old (changed old.groups who.group (left_of who above old))

-- What is handed out of each key in turn came behind what was there.
pub record HandsOut {S : Type 0} (blocks : S → Blocks) (old new : Keyspace S) (at : Ctx) (who : Reader) (asked : List Asked)
    (first last : List (List Part)) : Type 0 where
  pub told : last ≡ first ++ (hand_out (visible blocks old at) who asked).0
  pub world : visible blocks new at ≡ (hand_out (visible blocks old at) who asked).1
