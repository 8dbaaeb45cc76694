use Rattle.std.proofs.Common.{Some, ap, ◌∙◌}
use Rattle.std.specs.FinMap.{insert}
use Rattle.blocks.specs.Blocks.{no_step}
use Rattle.hash_object.specs.Fields.{fields}
use Rattle.hash_object.proofs.Placing.{put_whole, pack_changed}
use Rattle.hash_object.proofs.fields.Fields.put_pack.Goals as goal

pub returns-in_err-bytes-clause-served : goal.returns-in_err-bytes-clause-served
returns-in_err-bytes-clause-served g c = no_step

pub returns-clause-set : goal.returns-clause-set
returns-clause-set g c =
    let m = g.B.BlockStore.blocks c.args.store.now in
    let n = g.B.BlockStore.blocks c.put_bytes.new.store in
    let self = c.args.self.now in
    let r = c.requires in
    let bytes = c.in_ok-bytes.bytes.items in
    pack_changed m n self c.in_ok-at.at c.args.count bytes (insert (fields m self) c.args.field.now c.args.value.now) r.sound r.packed
    (c.in_ok-at.ensures.bytes ∙ ap Some c.deref.ensures.value) c.in_ok-at.ensures.changes
    (put_whole m self c.args.field.now c.args.value.now c.args.index c.args.count bytes r.sound r.packed r.index r.count r.few r.short c.in_ok-bytes.ensures.pack c.in_ok-bytes.ensures.list)
