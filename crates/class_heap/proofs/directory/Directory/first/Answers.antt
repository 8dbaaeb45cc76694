use Rattle.std.proofs.Common.{arith, ◌-◌}
use Rattle.class_heap.proofs.Descent.{none_under, inner_node, one_down, to_left, to_right}
use Rattle.class_heap.proofs.directory.Directory.first.Goals as goal

pub returns-then-not-has-clause-none : goal.returns-then-not-has-clause-none
returns-then-not-has-clause-none c = (let d = c.args.self.now in none_under d.bound _ d.nodes.items d.sound c.args.label (c.has.ensures.no c.if-not-has.true))

pub has-requires-in-down-clause-inside : goal.has-requires-in-down-clause-inside
has-requires-in-down-clause-inside c =
    (let d = c.args.self.now in let k = inner_node d.bound d.nodes.items d.sound.mended c.args.label (c.down.level - 1) c.down.node
    (one_down d.bound d.nodes.items d.sound.mended c.args.label c.down.level c.down.node c.down-test.true c.down.invariant) in omega (arith, k))

pub down-preserved-then-not-has-2 : goal.down-preserved-then-not-has-2
down-preserved-then-not-has-2 c =
    (let d = c.args.self.now in to_right d.bound d.nodes.items d.sound.mended c.args.label (c.down.level - 1) c.down.node
    (one_down d.bound d.nodes.items d.sound.mended c.args.label c.down.level c.down.node c.down-test.true c.down.invariant) (c.has-in-down.ensures.no c.if-not-has-2.true))

pub down-preserved : goal.down-preserved
down-preserved c =
    (let d = c.args.self.now in to_left d.bound d.nodes.items d.sound.mended c.args.label (c.down.level - 1) c.down.node
    (one_down d.bound d.nodes.items d.sound.mended c.args.label c.down.level c.down.node c.down-test.true c.down.invariant)
    (λ z. let y = c.has-in-down.ensures.yes c.if-not-has-2.false in absurd (omega (arith, z, y))))
