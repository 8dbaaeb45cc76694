use Rattle.std.proofs.Common.{Some, ap, ◌∙◌}
use Rattle.blocks.specs.Blocks.{no_step, with_block}
use Rattle.listpack.specs.Pack.{texts}
use Rattle.hash_object.proofs.Whole.{whole_placed}
use Rattle.hash_object.proofs.fields.Fields.place_anew.Goals as goal

pub returns-in_err-bytes-clause-served : goal.returns-in_err-bytes-clause-served
returns-in_err-bytes-clause-served g c = no_step

pub returns-in_ok-at-in-Some-clause-placed : goal.returns-in_ok-at-in-Some-clause-placed
returns-in_ok-at-in-Some-clause-placed g c =
    let m = g.B.BlockStore.blocks c.args.store.now in
    let n = g.B.BlockStore.blocks c.put_block.new.store in
    let xs = texts c.args.pack.now.bytes.now in
    let e = c.in_ok-at-in-Some.ensures in
    whole_placed m n c.args.self.now c.in_ok-at-in-Some.at c.args.count xs c.in-Some.bytes.items
    (e.placed ∙ ap (λ bytes. with_block m c.in_ok-at-in-Some.at (Some bytes)) c.deref.ensures.value) e.changes c.requires.count
    (rw c.in-Some.is at c.in_ok-bytes.ensures.pack) (rw c.in-Some.is at c.in_ok-bytes.ensures.list)

pub returns-in-None-clause-served : goal.returns-in-None-clause-served
returns-in-None-clause-served g c = no_step
