use Rattle.std.proofs.Common.{Some, w64, ap, ◌∙◌}
use Rattle.std.proofs.lemmas.Int.{to_z-of_z}
use Rattle.std.specs.FinMap.{insert}
use Rattle.blocks.specs.Blocks.{no_step}
use Rattle.zset_object.specs.Scored.{scores}
use Rattle.zset_object.proofs.Placing.{pack_changed}
use Rattle.zset_object.proofs.scored.Scored.put_pack.Goals as goal

pub returns-in_err-bytes-clause-served : goal.returns-in_err-bytes-clause-served
returns-in_err-bytes-clause-served g c = no_step

pub returns-clause-set : goal.returns-clause-set
returns-clause-set g c =
    let m = g.B.BlockStore.blocks c.args.store.now in
    let n = g.B.BlockStore.blocks c.put_bytes.new.store in
    let self = c.args.self.now in
    let r = c.requires in
    pack_changed m n self c.in_ok-at.at c.args.count c.in_ok-bytes.bytes.items (insert (scores m self) c.args.member.now c.args.score) r.sound r.packed
    (c.in_ok-at.ensures.bytes ∙ ap Some c.deref.ensures.value) c.in_ok-at.ensures.changes
    c.in_ok-bytes.ensures.pack (c.in_ok-bytes.ensures.scores ∙ ap (insert (scores m self) c.args.member.now) (to_z-of_z w64 c.args.score c.ranges.score)) r.count r.few c.in_ok-bytes.ensures.short
