use Rattle.plain_world.specs.Worlds.{ListOf}
use Rattle.quicklist.specs.Chain.{elements}
use Rattle.rdb_reader.proofs.Noded.{container_fails, node_reads}
use Rattle.rdb_reader.proofs.nodes.read_node.Goals as goal

pub returns-in-Plain-clause-adds : goal.returns-in-Plain-clause-adds
returns-in-Plain-clause-adds g c =
    let made = ListOf (elements (g.B.BlockStore.blocks c.args.store.now) c.args.list.now) in
    let new = ListOf (elements (g.B.BlockStore.blocks c.push_element.new.store) c.push_element.new.list) in
    node_reads c.args.bytes.now c.args.at c.in-Ok.next 1 made new (rw c.in-Plain.is at c.in-Ok.ensures.container) c.push_element.result c.push_element.ensures.adds

pub returns-in-Packed-clause-adds : goal.returns-in-Packed-clause-adds
returns-in-Packed-clause-adds g c =
    let made = ListOf (elements (g.B.BlockStore.blocks c.args.store.now) c.args.list.now) in
    let new = ListOf (elements (g.B.BlockStore.blocks c.read_elements.new.store) c.read_elements.new.list) in
    node_reads c.args.bytes.now c.args.at c.in-Ok.next 2 made new (rw c.in-Packed.is at c.in-Ok.ensures.container) c.read_elements.result c.read_elements.ensures.fills

pub returns-in-Err-clause-adds : goal.returns-in-Err-clause-adds
returns-in-Err-clause-adds g c =
    let made = ListOf (elements (g.B.BlockStore.blocks c.args.store.now) c.args.list.now) in
    rw c.refused.ensures (container_fails c.args.bytes.now c.args.at made c.in-Err.fault.kind c.in-Err.fault.at c.in-Err.ensures.fault)
