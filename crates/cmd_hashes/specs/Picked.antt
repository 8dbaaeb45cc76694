-- Fields that were picked by chance.
use Rattle.std.specs.Prelude.{ℕ, List, [], ◌∷◌, map, Option, None, Some, Bool, true, false}
use Rattle.plain_world.specs.declared.reply.Part.{Part}
use Rattle.plain_world.specs.declared.reply.Part.TheVariants.{Bulk, Null}
use Rattle.cmd_hashes.specs.declared.listing.Told.{Told}
use Rattle.cmd_hashes.specs.declared.listing.Told.TheVariants.{OnlyFields, Both}

abbrev pub or_empty : Option (List ℕ × List ℕ) → List ℕ × List ℕ
or_empty None = ([], [])
or_empty (Some pair) = pair

-- the fields of item numbers, with their values
abbrev pub pairs_of : (ℕ → Option (List ℕ × List ℕ)) → List ℕ → List (List ℕ × List ℕ)
pairs_of pair_at items = map (λ at. or_empty (pair_at at)) items

-- the first field, or null
abbrev pub first_told : List (List ℕ × List ℕ) → List Part
first_told [] = Null ∷ []
first_told (pair ∷ others) = Bulk pair.0 ∷ []

-- what is told of fields, with their values where they are asked for
abbrev pub told_with : Bool → Told
told_with false = OnlyFields
told_with true = Both
