-- Entries that are told in replies.
use Rattle.std.specs.Prelude.{List, [], ◌∷◌}
use Rattle.plain_world.specs.declared.reply.Part.{Part}
use Rattle.plain_world.specs.declared.reply.Part.TheVariants.{Bulk}
use Rattle.plain_model.specs.StreamSteps.{Pair}

-- a field and its value
abbrev pub both : Pair → List Part
both pair = Bulk pair.0 ∷ Bulk pair.1 ∷ []
