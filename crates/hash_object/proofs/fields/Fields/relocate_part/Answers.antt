use Rattle.std.proofs.Common.{◌∙◌, arith}
use Rattle.hash_object.proofs.Moving.{passes_part}
use Rattle.hash_object.proofs.fields.Fields.relocate_part.Goals as goal

pub returns-clause-passed : goal.returns-clause-passed
returns-clause-passed g c =
    let heap = g.B.BlockStore.heap c.settle_part.new.store in
    let part = c.part_from-part.ensures in
    let count = c.count_marks-count.ensures in
    passes_part (g.B.BlockStore.blocks c.args.store.now) heap c.args.self.now c.settle_part.new.self c.args.from c.args.room c.count_marks-count.result c.part_from-part.result.start
    c.part_from-part.result.end c.answer_at.result
    c.requires.sound count (omega (arith, part.start, count)) part.order c.requires.room
    c.answer_at.ensures.next (c.answer_at.ensures.used ∙ part.used) (omega (arith, c.answer_at.ensures.used, part.within)) (λ less. c.answer_at.ensures.used ∙ part.full (omega (arith, less, count)))
    c.settle_part.ensures.marks c.settle_part.ensures.vacant c.settle_part.ensures.passed
