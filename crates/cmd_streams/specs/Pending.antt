-- What is told of what is pending.
use Rattle.std.specs.Prelude.{pos, List, [], ◌∷◌, length}
use Rattle.std.specs.List.{flat_map}
use Rattle.std.specs.Fmt.{decimal}
use Rattle.stream_groups.specs.declared.waiting.Owner.{Owner}
use Rattle.stream_groups.specs.declared.waiting.Waiting.{Waiting}
use Rattle.plain_world.specs.declared.reply.Part.{Part}
use Rattle.plain_world.specs.declared.reply.Part.TheVariants.{Number, Bulk, NullArray, Array}
use Rattle.plain_model.specs.GroupSteps.{id_or_null}

-- a consumer, and how many ids are pending for it
abbrev pub owner_told : Owner → List Part
owner_told owner = Array 2 ∷ Bulk owner.name ∷ Bulk (decimal owner.count) ∷ []

-- an array of them; without any the null array
abbrev pub owners_told : List Owner → List Part
owners_told [] = NullArray ∷ []
owners_told (one ∷ more) = Array (length (one ∷ more)) ∷ flat_map owner_told (one ∷ more)

-- how many ids are pending, the least, the greatest, and the consumers
abbrev pub waiting_told : Waiting → List Part
waiting_told w = Array 4 ∷ Number (pos w.count) ∷ id_or_null w.least ∷ id_or_null w.greatest ∷ owners_told w.owners.items
