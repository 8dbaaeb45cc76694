use Rattle.std.proofs.Common.{◌∙◌, sym, subst, ap}
use Rattle.score_table.specs.Scored.{refs}
use Rattle.zset_object.specs.Scored.{refs_of_body}
use Rattle.zset_object.specs.Relocation.{marks_in, vacant_in}
use Rattle.collection_walk.specs.Marks.{ArePassed, is_within, items_from, vacant_below}
use Rattle.collection_walk.proofs.Numbered.{same_marks, items_passed, vacant_same}
use Rattle.zset_object.proofs.scored.Scored.settle_part.Goals as goal

pub returns-in-Table-clause-marks : goal.returns-in-Table-clause-marks
returns-in-Table-clause-marks g c =
    same_marks (g.B.BlockStore.heap c.settle_items.new.store) c.in-Table.table.table c.settle_items.new.table.table c.args.part.start c.args.part.end
    c.settle_items.ensures.settled.same_items ∙ ap marks_in (sym c.in-Table.is)

pub returns-in-Table-clause-passed : goal.returns-in-Table-clause-passed
returns-in-Table-clause-passed g c =
    let heap = g.B.BlockStore.heap c.settle_items.new.store in
    let u = c.settle_items.new.table in
    subst (λ b. ArePassed heap (is_within c.args.part.start c.args.part.end) (items_from 0 u.table.items) (refs_of_body b) (refs u)) (sym c.in-Table.is)
    (items_passed heap c.in-Table.table.table u.table c.args.part.start c.args.part.end c.settle_items.ensures.settled.same_items c.settle_items.ensures.settled.others c.settle_items.ensures.calm)

pub returns-in-Table-clause-vacant : goal.returns-in-Table-clause-vacant
returns-in-Table-clause-vacant g c =
    ap (vacant_below c.settle_items.new.table.table) c.settle_items.ensures.settled.top
    ∙ vacant_same c.in-Table.table.table c.settle_items.new.table.table c.settle_items.ensures.settled.same_items c.in-Table.table.table.top ∙ ap vacant_in (sym c.in-Table.is)
