-- Ends of a range of scores.
use Rattle.std.proofs.Common.{◌≡◌, ◌≢◌, ℕ, List, [], ◌∷◌, get_or, refl, ap}
use Rattle.std.specs.Prelude.{Ok, if◌then◌else◌}
use Rattle.std.proofs.lemmas.Bool.{ne_eqb}
use Rattle.plain_world.specs.ScoreTexts.{score_of}
use Rattle.plain_model.specs.Shapes.{and_then, score, score_bound}
use Rattle.plain_model.specs.declared.zset_command.ScoreBound.TheVariants.{Excluding}
use Rattle.command_words.specs.Readings.{included}

-- an end of a range without a `(` in front
pub bound_included : (text : List ℕ) → get_or text 0 0 ≢ 40 → score_bound text ≡ included text
bound_included [] other = refl
bound_included (c ∷ text) other =
    ap (λ b. if b then and_then (score (score_of text)) (λ n. Ok (Excluding n)) else included (c ∷ text)) (ne_eqb c 40 other)
