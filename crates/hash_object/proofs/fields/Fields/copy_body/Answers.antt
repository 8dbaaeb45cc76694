use Rattle.blocks.specs.Blocks.{no_step}
use Rattle.hash_object.proofs.Copies.{empty_copied, pack_copied}
use Rattle.hash_object.proofs.fields.Fields.copy_body.Goals as goal

pub returns-in-Empty-clause-placed : goal.returns-in-Empty-clause-placed
returns-in-Empty-clause-placed g c = empty_copied (g.B.BlockStore.blocks c.args.store.now) c.args.self.now c.in-Empty.is

pub returns-in-Empty-clause-served : goal.returns-in-Empty-clause-served
returns-in-Empty-clause-served g c = no_step

pub returns-in_ok-at-in-Pack-clause-placed : goal.returns-in_ok-at-in-Pack-clause-placed
returns-in_ok-at-in-Pack-clause-placed g c =
    let m = g.B.BlockStore.blocks c.args.store.now in
    let n = g.B.BlockStore.blocks c.copy_block.new.store in
    pack_copied m n c.args.self.now c.in-Pack.packed c.in_ok-at-in-Pack.at c.requires c.in_ok-at-in-Pack.ensures.placed c.in_ok-at-in-Pack.ensures.changes c.in-Pack.is
