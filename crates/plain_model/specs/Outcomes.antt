-- What a command answers, and the world that it leaves.
use Rattle.std.specs.Prelude.{◌≡◌, List, [], ◌∷◌}
use Rattle.plain_world.specs.Worlds.{World}
use Rattle.plain_world.specs.declared.refusal.Refusal.{Refusal}
use Rattle.plain_world.specs.declared.reply.Part.{Part}
use Rattle.plain_world.specs.declared.reply.Part.TheVariants.{Refused}

pub record Outcome : Type 0 where
  pub reply : List Part
  pub world : World

-- the reply, and this world is left
abbrev pub leaves : List Part → World → Outcome
leaves reply world = record { reply = reply; world = world }

-- the reply, and the world stays
abbrev pub tells : List Part → World → Outcome
tells reply old = leaves reply old

-- the world refuses, and stays
abbrev pub refused : Refusal → World → Outcome
refused refusal old = leaves (Refused refusal ∷ []) old

abbrev pub IsOutcome : Outcome → List Part → World → Type 0
IsOutcome outcome reply new = (reply ≡ outcome.reply) × (new ≡ outcome.world)

-- the reply is an error
abbrev pub IsRefusal : List Part → Type 0
IsRefusal (Refused refusal ∷ parts) = Unit {0}
IsRefusal other = ⊥
