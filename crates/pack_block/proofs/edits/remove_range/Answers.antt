use Rattle.std.proofs.Common.{◌-◌, ℕ, List, length, ap, subst, arith}
use Rattle.blocks.specs.Blocks.{bytes_at}
use Rattle.listpack.specs.Pack.{IsPack, texts}
use Rattle.listpack.proofs.Offsets.{offset_rises}
use Rattle.listpack.proofs.Repacking.{told_enough, texts_taken_out}
use Rattle.pack_block.proofs.Edited.{if_ok, seen_is, block_taken_out}
use Rattle.pack_block.proofs.edits.remove_range.Goals as goal

pub overflow_sub-end : goal.overflow_sub-end
overflow_sub-end g c =
    let rises = offset_rises c.bytes-bytes.result.now c.args.from c.args.to c.requires.order in
    omega (arith, rises, c.offset_in-start.ensures.place, c.offset_in-end.ensures.place)

pub fewer_told-count-requires : goal.fewer_told-count-requires
fewer_told-count-requires g c =
    let same = seen_is (g.B.BlockStore.blocks c.args.store.now) c.args.at c.bytes-bytes.result.now c.bytes-bytes.ensures in
    let p : IsPack c.bytes-bytes.result.now = subst IsPack same c.requires.packed in
    told_enough c.bytes-bytes.result.now c.told_count.result (c.args.to - c.args.from) p c.told_count.ensures
    (omega (arith, c.requires.inside, ap (λ (b : List ℕ). length (texts b)) same))

pub returns-clause-entries : goal.returns-clause-entries
returns-clause-entries g c =
    let m = g.B.BlockStore.blocks c.args.store.now in
    let old = bytes_at m c.args.at in
    let same = seen_is m c.args.at c.bytes-bytes.result.now c.bytes-bytes.ensures in
    if_ok (λ new is. block_taken_out old _ c.bytes-bytes.result.now c.args.from c.args.to c.offset_in-start.result c.offset_in-end.result c.fewer_told-count.result c.told_count.result same
    c.requires.packed (omega (arith, c.offset_in-end.ensures.small, ap length same)) c.requires.order c.requires.inside c.offset_in-start.ensures.place c.offset_in-end.ensures.place c.told_count.ensures c.fewer_told-count.ensures
    (omega arith) is) c.cut.result c.cut.ensures.cut

pub returns-clause-list : goal.returns-clause-list
returns-clause-list g c =
    if_ok (λ new t. texts_taken_out (bytes_at (g.B.BlockStore.blocks c.args.store.now) c.args.at) _ c.args.from c.args.to _ t) c.cut.result (returns-clause-entries g c)
