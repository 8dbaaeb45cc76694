-- Members that were picked by chance.
use Rattle.std.specs.Prelude.{ℕ, pos, List, [], ◌∷◌, map, Option, None, Some}
use Rattle.plain_world.specs.declared.reply.Part.{Part}
use Rattle.plain_world.specs.declared.reply.Part.TheVariants.{Bulk, Null}
use Rattle.plain_model.specs.ZsetSteps.{Scored}

abbrev pub or_empty : Option Scored → Scored
or_empty None = (pos 0, [])
or_empty (Some pair) = pair

-- the scores and members of item numbers
abbrev pub pairs_of : (ℕ → Option Scored) → List ℕ → List Scored
pairs_of pair_at items = map (λ at. or_empty (pair_at at)) items

-- the first member, or null
abbrev pub first_told : List Scored → List Part
first_told [] = Null ∷ []
first_told (pair ∷ others) = Bulk pair.1 ∷ []
