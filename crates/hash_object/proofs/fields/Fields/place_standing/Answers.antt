use Rattle.std.proofs.Common.{Some, refl, ap, ◌∙◌}
use Rattle.blocks.specs.Blocks.{with_block}
use Rattle.listpack.specs.Pack.{texts}
use Rattle.hash_object.proofs.Whole.{whole_placed}
use Rattle.hash_object.proofs.fields.Fields.place_standing.Goals as goal

pub returns-clause-placed : goal.returns-clause-placed
returns-clause-placed g c =
    let m = g.B.BlockStore.blocks c.args.store.now in
    let n = g.B.BlockStore.blocks c.put_block.new.store in
    let bytes = c.args.pack.now.bytes.now in
    let e = c.in_ok-at.ensures in
    whole_placed m n c.args.self.now c.in_ok-at.at c.args.count (texts bytes) bytes (e.placed ∙ ap (λ bytes. with_block m c.in_ok-at.at (Some bytes)) c.bytes.ensures.value) e.changes c.requires.count
    c.requires.pack refl
