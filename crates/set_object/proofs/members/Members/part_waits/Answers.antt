use Rattle.std.proofs.Common.{ap}
use Rattle.set_object.specs.Members.{refs_of}
use Rattle.set_object.specs.Relocation.{marks_in}
use Rattle.set_object.proofs.Moving.{waits_one, waits_table}
use Rattle.set_object.proofs.members.Members.part_waits.Goals as goal

pub returns-in-Numbers : goal.returns-in-Numbers
returns-in-Numbers g c =
    waits_one (g.B.BlockStore.heap c.args.store.now) c.args.self.now c.in-Numbers.packed.at c.args.part.start c.args.part.end c.packed_waits.result (ap marks_in c.in-Numbers.is)
    (ap refs_of c.in-Numbers.is) c.packed_waits.ensures

pub returns-in-Pack : goal.returns-in-Pack
returns-in-Pack g c =
    waits_one (g.B.BlockStore.heap c.args.store.now) c.args.self.now c.in-Pack.packed.at c.args.part.start c.args.part.end c.packed_waits-in-Pack.result (ap marks_in c.in-Pack.is)
    (ap refs_of c.in-Pack.is) c.packed_waits-in-Pack.ensures

pub returns-in-Table : goal.returns-in-Table
returns-in-Table g c =
    waits_table (g.B.BlockStore.heap c.args.store.now) c.args.self.now c.in-Table.table c.args.part.start c.args.part.end c.item_waits.result c.in-Table.is c.item_waits.ensures
