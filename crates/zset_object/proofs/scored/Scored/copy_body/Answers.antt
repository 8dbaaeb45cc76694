use Rattle.blocks.specs.Blocks.{no_step}
use Rattle.zset_object.proofs.Copies.{empty_copied, pack_copied, table_copied}
use Rattle.zset_object.proofs.scored.Scored.copy_body.Goals as goal

pub returns-in-Empty-clause-placed : goal.returns-in-Empty-clause-placed
returns-in-Empty-clause-placed g c =
    let self = c.args.self.now in
    empty_copied (g.B.BlockStore.blocks c.args.store.now) self.limits self.seed self.body c.in-Empty.is

pub returns-in-Empty-clause-served : goal.returns-in-Empty-clause-served
returns-in-Empty-clause-served g c = no_step

pub returns-in_ok-at-in-Pack-clause-placed : goal.returns-in_ok-at-in-Pack-clause-placed
returns-in_ok-at-in-Pack-clause-placed g c =
    let m = g.B.BlockStore.blocks c.args.store.now in
    let n = g.B.BlockStore.blocks c.copy_block.new.store in
    let self = c.args.self.now in
    pack_copied m n self.limits self.seed self.body c.in-Pack.packed c.in_ok-at-in-Pack.at c.requires.body c.in_ok-at-in-Pack.ensures.placed c.in_ok-at-in-Pack.ensures.changes c.in-Pack.is

pub returns-in_ok-copy-in-Table-clause-placed : goal.returns-in_ok-copy-in-Table-clause-placed
returns-in_ok-copy-in-Table-clause-placed g c =
    let m = g.B.BlockStore.blocks c.args.store.now in
    let n = g.B.BlockStore.blocks c.copy.new.store in
    let self = c.args.self.now in
    table_copied m n self.limits self.seed self.body c.in-Table.table _ c.in-Table.is c.in_ok-copy-in-Table.ensures.copied
