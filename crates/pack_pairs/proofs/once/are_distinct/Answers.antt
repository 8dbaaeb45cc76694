use Rattle.pack_pairs.proofs.Distinct.{distinct_moved, distinct_moved_back}
use Rattle.pack_pairs.proofs.once.are_distinct.Goals as goal

pub returns : goal.returns
returns c =
    let old = c.args.parts.now in
    let new = c.sort_unstable.new.self in
    let moved = c.sort_unstable.ensures.permutation in
    (λ yes. distinct_moved_back old new moved (c.neighbours_differ.ensures.0 yes), λ h. c.neighbours_differ.ensures.1 (distinct_moved old new moved h))
