-- Scores written one after the other.
use Rattle.std.proofs.Common.{◌≡◌, Bool, true, false, ℕ, ◌+◌, ◌-◌, ◌≤◌, List, ◌∷◌, ap, ◌∙◌, arith}
use Rattle.std.specs.Prelude.{◌&&◌, if◌then◌else◌}
use Rattle.std.specs.FinMap.{get, len}
use Rattle.plain_model.specs.ZsetSteps.{Scores, Scored, permits, differs, write_score, write_scores, changes}
use Rattle.plain_model.specs.declared.zset_command.ScoreRules.{ScoreRules}
use Rattle.cmd_zsets.specs.Written.{added_count}

-- what is counted of one more score
pub counts_on : (rules : ScoreRules) (now after : Scores) (pair : Scored) (others : List Scored) (changed : ℕ) (other : Bool) (one : ℕ) → after ≡ write_score rules now pair
    → other ≡ (permits rules (get now pair.1) pair.0 && differs (get now pair.1) pair.0) → one ≡ (if other then 1 else 0)
    → (changed + one) + changes rules after others ≡ changed + changes rules now (pair ∷ others)
counts_on rules now after pair others changed other one is counts told =
    let rest = ap (λ m. changes rules m others) is in
    let first = told ∙ ap (λ b. if b then 1 else 0) counts in
    omega (arith, rest, first)

-- what is counted in the end
pub added_is : (rules : ScoreRules) (ch : Bool) (pairs : List Scored) (old new : Scores) (count changed fresh : ℕ) → count ≡ (if ch then changed else fresh)
    → changed ≡ changes rules old pairs → fresh ≡ len new - len old → new ≡ write_scores rules old pairs → count ≡ added_count rules ch pairs old
added_is rules ch pairs old new count changed fresh is counted news written =
    is ∙ ap (λ n. if ch then n else fresh) counted ∙ ap (λ n. if ch then changes rules old pairs else n) (news ∙ ap (λ m. len m - len old) written)

-- one or none is counted of a score
pub one_most : (b : Bool) (n : ℕ) → n ≡ (if b then 1 else 0) → n ≤ 1
one_most true n is = omega (arith, is)
one_most false n is = omega (arith, is)
