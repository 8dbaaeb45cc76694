use Rattle.std.proofs.Common.{codes, ◌∙◌}
use Rattle.clap.specs.Matches.{found_of}
use Rattle.clap.specs.Walk.{rows_of}
use Rattle.clap.proofs.WalkLemmas.{first_value-rows}
use Rattle.program_top.proofs.Readings.{options_are, lent}
use Rattle.program_top.proofs.words.read_options.Goals as goal

pub returns-clause-some : goal.returns-clause-some
returns-clause-some c =
    let rows = rows_of (found_of c.args.matches.now) in
    let count = c.in_ok-count.ensures.some in
    let seed = c.in_ok-seed.ensures.some in
    let effort = c.in_ok-effort.ensures.some in
    let most = c.in_ok-max_input.ensures.some in
    let limits = c.in_ok-limits.ensures.some in (
      rw (count.0, seed.0, effort.0, most.0) limits.0,
      count.1,
      options_are rows _ _ _ _ _
          (lent c.get_str.result ∙ c.get_str.ensures ∙ first_value-rows (found_of c.args.matches.now) (codes "load")) seed.1 effort.1 limits.1 most.1,
      (limits.2, most.2),
    )
