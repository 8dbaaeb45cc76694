use Rattle.std.proofs.Common.{length, unwrap_or, [], ap}
use Rattle.blocks.proofs.Serve.{served_once, served_next}
use Rattle.pack_block.proofs.Blocks.{widened_gap}
use Rattle.pack_block.proofs.gaps.widen.Goals as goal

pub returns-then-not-stretch-clause-served : goal.returns-then-not-stretch-clause-served
returns-then-not-stretch-clause-served g c = served_once _ _ c.stretch.ensures.step

pub returns-clause-gap : goal.returns-clause-gap
returns-clause-gap g c = λ yes. widened_gap (g.B.BlockStore.blocks c.args.store.now) (g.B.BlockStore.blocks c.stretch.new.self) (g.B.BlockStore.blocks c.shift.new.self) c.args.at
    (length c.bytes-len.result.now) c.args.from c.args.size c.args.room (ap (λ o. length (unwrap_or o [])) c.bytes-len.ensures) c.requires.inside c.requires.wider
    (c.stretch.ensures.stretched c.if-not-stretch.false) c.shift.ensures.shifted

pub returns-clause-served : goal.returns-clause-served
returns-clause-served g c = served_next _ _ _ (served_once _ _ c.stretch.ensures.step) c.shift.ensures.step
