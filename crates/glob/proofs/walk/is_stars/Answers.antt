use Rattle.std.proofs.Common.{rules, ◌≡◌, ◌↔◌, IsTrue, [], refl}
use Rattle.std.specs.Prelude.{EachIndex, slice_index}
use Rattle.glob.proofs.Stars.{stars_match, only_stars}
use Rattle.glob.proofs.walk.is_stars.Goals as goal

pub returns : goal.returns
returns c =
    let each : IsTrue c.all.result ↔ EachIndex c.args.pattern.now (λ k. slice_index c.args.pattern.now k ≡ 42) = search rules in
    (λ yes. stars_match c.args.pattern.now (each.0 yes), λ m. each.1 (only_stars c.args.pattern.now [] m refl))
