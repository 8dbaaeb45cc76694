use Rattle.blocks.specs.Blocks.{bytes_at}
use Rattle.listpack.proofs.Repacking.{texts_inserted, element_fits}
use Rattle.pack_block.proofs.Edited.{if_ok, seen_is, block_put_in}
use Rattle.pack_block.proofs.edits.insert.Goals as goal

pub returns-clause-entries : goal.returns-clause-entries
returns-clause-entries g c =
    let m = g.B.BlockStore.blocks c.args.store.now in
    let old = bytes_at m c.args.at in
    let seen = c.bytes-bytes.result.now in
    if_ok
    (λ new put. block_put_in old _ seen c.args.element.now c.args.index c.offset_in-from.result c.told_count.result c.saturating_add-count.result
    (seen_is m c.args.at seen c.bytes-bytes.ensures) c.requires.packed c.requires.index c.offset_in-from.ensures.place c.told_count.ensures c.saturating_add-count.ensures c.requires.fits put)
    c.put.result c.put.ensures.put

pub returns-clause-list : goal.returns-clause-list
returns-clause-list g c =
    let old = bytes_at (g.B.BlockStore.blocks c.args.store.now) c.args.at in
    if_ok (λ new t. texts_inserted old _ c.args.element.now c.args.index _ t (element_fits old c.args.element.now c.requires.fits)) c.put.result (returns-clause-entries g c)
