-- What is told of all fields of a hash.
use Rattle.std.specs.Prelude.{ℕ, ◌*◌, List, [], ◌∷◌}
use Rattle.plain_world.specs.declared.reply.Part.{Part}
use Rattle.plain_world.specs.declared.reply.Part.TheVariants.{Bulk}
use Rattle.plain_model.specs.Scans.{listed}
use Rattle.plain_model.specs.HashSteps.{Fields, values_listed, pairs_listed}
use Rattle.cmd_hashes.specs.declared.listing.Told.{Told}
use Rattle.cmd_hashes.specs.declared.listing.Told.TheVariants.{OnlyFields, OnlyValues, Both}

-- what is told of a field and its value
abbrev pub told_of : Told → List ℕ × List ℕ → List Part
told_of OnlyFields pair = Bulk pair.0 ∷ []
told_of OnlyValues pair = Bulk pair.1 ∷ []
told_of Both pair = Bulk pair.0 ∷ Bulk pair.1 ∷ []

-- how many replies that is for so many fields
abbrev pub replies_of : Told → ℕ → ℕ
replies_of OnlyFields n = n
replies_of OnlyValues n = n
replies_of Both n = 2 * n

-- what is told of these fields
abbrev pub telling : Told → Fields → List (List ℕ) → List Part
telling OnlyFields fields names = listed names
telling OnlyValues fields names = values_listed fields names
telling Both fields names = pairs_listed fields names
