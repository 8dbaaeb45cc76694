use Rattle.std.proofs.Common.{w64, rules}
use Rattle.std.specs.Prelude.{FitsSigned}
use Rattle.std.proofs.lemmas.Int.{to_z-of_z}
use Rattle.score_table.proofs.Settling.{not_missed, carries, item_settled}
use Rattle.score_table.proofs.table.ScoreTable.move_item.Goals as goal

pub bytes-requires : goal.bytes-requires
bytes-requires g c = c.requires.sound.keyed.live c.args.item _ c.entry.ensures.found

pub unreachable-requires : goal.unreachable-requires
unreachable-requires g c =
    let fits : FitsSigned w64 c.entry.result.1.now = search rules in
    let misses = rw (to_z-of_z w64 c.entry.result.1.now fits) at c.in-None.ensures.none in
    not_missed (g.B.BlockStore.blocks c.args.store.now) c.args.self.now c.args.item c.entry.result.0 c.entry.result.1.now c.bytes.result.now c.requires.sound c.entry.ensures c.bytes.ensures misses

pub returns-clause-settled : goal.returns-clause-settled
returns-clause-settled g c =
    let m = g.B.BlockStore.blocks c.args.store.now in
    let n = g.B.BlockStore.blocks c.settle-new.new.store in
    let s = c.args.self.now in
    let fits : FitsSigned w64 c.entry.result.1.now = search rules in
    let found = rw (to_z-of_z w64 c.entry.result.1.now fits) at c.in-Some.ensures.found in
    let moved = c.settle-new.ensures in
    let list = c.swap_ref-in-Some.ensures in
    item_settled m n s c.swap_ref.new.self c.swap_ref-in-Some.new.self c.args.item c.in-Some.rank c.entry.result.0 c.settle-new.result c.entry.result.1.now c.bytes.result.now
    c.requires.sound c.entry.ensures c.bytes.ensures found.1 moved.bytes moved.changes c.swap_ref.ensures list.renamed
    (list.sorted m n c.requires.sound.sorted
    (carries m n s c.swap_ref.new.self c.swap_ref-in-Some.new.self c.args.item c.in-Some.rank c.entry.result.0 c.settle-new.result c.entry.result.1.now c.bytes.result.now c.requires.sound
    c.entry.ensures c.bytes.ensures found.1 moved.bytes moved.changes c.swap_ref.ensures list.renamed))
