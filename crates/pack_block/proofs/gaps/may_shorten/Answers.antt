use Rattle.std.proofs.Common.{ap}
use Rattle.blocks.specs.Blocks.{no_step}
use Rattle.blocks.proofs.Serve.{served_once}
use Rattle.pack_block.proofs.Blocks.{stretched_or_not}
use Rattle.pack_block.proofs.Lengths.{one_class, other_class}
use Rattle.pack_block.proofs.gaps.may_shorten.Goals as goal

pub returns-then-is_same_class-clause-rule : goal.returns-then-is_same_class-clause-rule
returns-then-is_same_class-clause-rule g c =
    let both = one_class (g.B.BlockStore.blocks c.args.store.now) (g.B.BlockStore.heap c.args.store.now) c.args.at c.bytes-old_len.result.now c.args.len c.is_same_class.result
    (g.met.B.BlockStore.sound c.args.store.now) c.bytes-old_len.ensures c.is_same_class.ensures c.if-is_same_class.true in
    (λ yes. both.0 (c.stretch.ensures.rule.0 yes), λ has. c.stretch.ensures.rule.1 (both.1 has))

pub returns-then-is_same_class-clause-blocks : goal.returns-then-is_same_class-clause-blocks
returns-then-is_same_class-clause-blocks g c =
    stretched_or_not (g.B.BlockStore.blocks c.args.store.now) (g.B.BlockStore.blocks c.stretch.new.self) c.args.at c.bytes-old_len.result.now c.stretch.result c.bytes-old_len.ensures
    c.stretch.ensures.stretched (λ no. ap g.B.BlockStore.blocks (c.stretch.ensures.stays no))

pub returns-then-is_same_class-clause-served : goal.returns-then-is_same_class-clause-served
returns-then-is_same_class-clause-served g c = served_once _ _ c.stretch.ensures.step

pub returns-else-is_same_class-clause-rule : goal.returns-else-is_same_class-clause-rule
returns-else-is_same_class-clause-rule g c =
    other_class (g.B.BlockStore.blocks c.args.store.now) (g.B.BlockStore.heap c.args.store.now) c.args.at c.bytes-old_len.result.now c.args.len c.is_same_class.result
    (g.met.B.BlockStore.sound c.args.store.now) c.bytes-old_len.ensures c.is_same_class.ensures c.if-is_same_class.false

pub returns-else-is_same_class-clause-served : goal.returns-else-is_same_class-clause-served
returns-else-is_same_class-clause-served g c = no_step
