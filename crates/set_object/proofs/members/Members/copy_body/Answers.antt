use Rattle.std.proofs.Common.{ap}
use Rattle.blocks.specs.Blocks.{no_step}
use Rattle.set_object.specs.Members.{refs_of}
use Rattle.set_object.proofs.Copies.{empty_copied, numbers_copied, pack_copied}
use Rattle.collection_walk.proofs.Named.{packed_live}
use Rattle.set_object.proofs.members.Members.copy_body.Goals as goal

pub returns-in-Empty-clause-placed : goal.returns-in-Empty-clause-placed
returns-in-Empty-clause-placed g c = empty_copied (g.B.BlockStore.blocks c.args.store.now) c.args.self.now c.in-Empty.is

pub returns-in-Empty-clause-served : goal.returns-in-Empty-clause-served
returns-in-Empty-clause-served g c = no_step

pub returns-in_ok-at-in-Numbers-clause-placed : goal.returns-in_ok-at-in-Numbers-clause-placed
returns-in_ok-at-in-Numbers-clause-placed g c =
    let m = g.B.BlockStore.blocks c.args.store.now in
    let n = g.B.BlockStore.blocks c.copy_block.new.store in
    let self = c.args.self.now in
    let p = c.in-Numbers.packed in
    numbers_copied m n self p c.in_ok-at-in-Numbers.at c.requires c.in_ok-at-in-Numbers.ensures.placed c.in_ok-at-in-Numbers.ensures.changes c.in-Numbers.is
    (packed_live m (refs_of self.body) p.at (ap refs_of c.in-Numbers.is) c.requires.owned)

pub returns-in_ok-at-in-Pack-clause-placed : goal.returns-in_ok-at-in-Pack-clause-placed
returns-in_ok-at-in-Pack-clause-placed g c =
    let m = g.B.BlockStore.blocks c.args.store.now in
    let n = g.B.BlockStore.blocks c.copy_block-in-Pack.new.store in
    let self = c.args.self.now in
    let p = c.in-Pack.packed in
    pack_copied m n self p c.in_ok-at-in-Pack.at c.requires c.in_ok-at-in-Pack.ensures.placed c.in_ok-at-in-Pack.ensures.changes c.in-Pack.is
    (packed_live m (refs_of self.body) p.at (ap refs_of c.in-Pack.is) c.requires.owned)
