use Rattle.std.proofs.Common.{◌+◌, ◌-◌, length, unwrap_or, [], Some, ap, ◌∙◌}
use Rattle.blocks.specs.Blocks.{Blocks, with_block, shifted, bytes_at}
use Rattle.blocks.proofs.Serve.{served_next}
use Rattle.pack_block.proofs.Blocks.{narrowed_gap}
use Rattle.pack_block.proofs.gaps.narrow.Goals as goal

pub returns-clause-gap : goal.returns-clause-gap
returns-clause-gap g c = λ yes. (
    let len = length c.bytes-len.result.now in
    let from = c.args.from in
    let size = c.args.size in
    let room = c.args.room in
    narrowed_gap (g.B.BlockStore.blocks c.args.store.now) (g.B.BlockStore.blocks c.shift.new.self) (g.B.BlockStore.blocks c.stretch.new.self) c.args.at len from size room
    (ap (λ o. length (unwrap_or o [])) c.bytes-len.ensures) c.requires.inside c.requires.narrower
    (c.shift.ensures.shifted
    ∙ ap (λ (k : Blocks). with_block k c.args.at (Some (shifted (bytes_at k c.args.at) (from + size) (from + room) (len - from - size)))) c.may_shorten.ensures.blocks)
    (c.stretch.ensures.stretched yes))

pub returns-clause-served : goal.returns-clause-served
returns-clause-served g c = served_next _ _ _ (served_next _ _ _ c.may_shorten.ensures.served c.shift.ensures.step) c.stretch.ensures.step
