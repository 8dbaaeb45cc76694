use Rattle.std.proofs.Common.{refl, subst}
use Rattle.std.specs.Prelude.{MatchBool}
use Rattle.set_object.specs.Members.{refs}
use Rattle.set_object.specs.Relocation.{WantsMove, marks}
use Rattle.collection_walk.specs.Marks.{ArePassed, is_within}
use Rattle.set_object.proofs.Moving.{passes_part}
use Rattle.set_object.proofs.members.Members.passed.Goals as goal

pub returns-clause-some : goal.returns-clause-some
returns-clause-some g c =
    let heap = g.B.BlockStore.heap c.args.store.now in
    let self = c.args.self.now in
    let start = c.part_from-part.result.start in
    let end = c.part_from-part.result.end in
    passes_part (g.B.BlockStore.blocks c.args.store.now) heap self self c.args.from c.args.room c.count_marks-count.result start end c.answer_for.result c.requires.sound
    c.count_marks-count.ensures c.part_from-part.ensures.start c.part_from-part.ensures.end c.requires.room
    c.answer_for.ensures.next c.answer_for.ensures.used refl refl
    (subst (λ b. MatchBool b (WantsMove heap self start end) (ArePassed heap (is_within start end) (marks self) (refs self) (refs self))) c.if-part_waits.false c.part_waits.ensures)
