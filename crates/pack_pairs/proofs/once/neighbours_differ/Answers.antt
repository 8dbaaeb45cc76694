use Rattle.std.proofs.Common.{◌-◌, refl, arith}
use Rattle.pack_pairs.proofs.Distinct.{distinct_from_places, differ_from_distinct, differ_from_sorted}
use Rattle.pack_pairs.proofs.once.neighbours_differ.Goals as goal

pub returns-then-eq : goal.returns-then-eq
returns-then-eq c = (λ never. absurd (cc), λ h. let differ = differ_from_distinct c.args.parts.now (c.loop-later.later - 1) c.loop-later.later h (omega arith) c.loop-later-test.true in grind arith)

pub returns : goal.returns
returns c = (λ _. distinct_from_places c.args.parts.now (differ_from_sorted c.args.parts.now c.requires (λ k h. c.loop-later.invariant k (omega arith))), λ _. refl)
