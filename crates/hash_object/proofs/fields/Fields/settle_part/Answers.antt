use Rattle.std.proofs.Common.{◌∙◌, sym, subst, ap}
use Rattle.hash_object.specs.Hashed.{blocks_of}
use Rattle.hash_object.specs.Fields.{refs_of_body}
use Rattle.hash_object.specs.Relocation.{vacant_below, vacant_in, marks_from, marks_in}
use Rattle.collection_walk.specs.Marks.{ArePassed, is_within}
use Rattle.hash_object.proofs.Moving.{same_marks, marks_passed, vacant_same}
use Rattle.hash_object.proofs.fields.Fields.settle_part.Goals as goal

pub returns-in-Table-clause-marks : goal.returns-in-Table-clause-marks
returns-in-Table-clause-marks g c =
    same_marks (g.B.BlockStore.heap c.settle_marks.new.store) c.in-Table.table c.settle_marks.new.table c.args.part.start c.args.part.end c.settle_marks.ensures.settled.same_items
    ∙ ap marks_in (sym c.in-Table.is)

pub returns-in-Table-clause-passed : goal.returns-in-Table-clause-passed
returns-in-Table-clause-passed g c =
    let heap = g.B.BlockStore.heap c.settle_marks.new.store in
    let u = c.settle_marks.new.table in
    subst (λ b. ArePassed heap (is_within c.args.part.start c.args.part.end) (marks_from 0 u.items) (refs_of_body b) (blocks_of u)) (sym c.in-Table.is)
    (marks_passed heap c.in-Table.table u c.args.part.start c.args.part.end c.settle_marks.ensures.settled.same_items c.settle_marks.ensures.settled.others c.settle_marks.ensures.calm)

pub returns-in-Table-clause-vacant : goal.returns-in-Table-clause-vacant
returns-in-Table-clause-vacant g c =
    ap (vacant_below c.settle_marks.new.table) c.settle_marks.ensures.settled.top
    ∙ vacant_same c.in-Table.table c.settle_marks.new.table c.settle_marks.ensures.settled.same_items c.in-Table.table.top ∙ ap vacant_in (sym c.in-Table.is)
