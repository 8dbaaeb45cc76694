use Rattle.zset_object.proofs.Moving.{passes_part}
use Rattle.zset_object.proofs.scored.Scored.relocate_part.Goals as goal

pub returns-clause-passed : goal.returns-clause-passed
returns-clause-passed g c =
    let heap = g.B.BlockStore.heap c.settle_part.new.store in
    passes_part (g.B.BlockStore.blocks c.args.store.now) heap c.args.self.now c.settle_part.new.self c.args.from c.args.room c.count_marks-count.result c.part_from-part.result.start
    c.part_from-part.result.end c.answer_for.result
    c.requires.sound c.count_marks-count.ensures c.part_from-part.ensures.start c.part_from-part.ensures.end c.requires.room
    c.answer_for.ensures.next c.answer_for.ensures.used c.settle_part.ensures.marks c.settle_part.ensures.vacant c.settle_part.ensures.passed
