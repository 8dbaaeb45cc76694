use Rattle.std.proofs.Common.{List, ℕ, ◌<◌, ◌^◌, length, subst, ◌∙◌}
use Rattle.listpack.specs.Pack.{texts}
use Rattle.stream_node.specs.Entry.{number}
use Rattle.stream_node.specs.Marked.{AreMarks, Exchanges}
use Rattle.stream_node.proofs.Markings.{is_marked}
use Rattle.stream_node.proofs.marking.mark_deleted.Goals as goal

pub returns-clause-marked : goal.returns-clause-marked
returns-clause-marked c =
    let m = c.marks_of-marks.result in
    let here = c.deref.ensures.value in
    let copied = c.in_ok-copy.ensures.items ∙ c.deref-2.ensures.value in
    is_marked c.requires.entry.0 c.args.pack.now.items c.put_marks.new.pack.items c.args.index m c.requires.entry.1
    (subst (λ (x : List ℕ). length (texts x) < 2 ^ 32) here c.marks_of-marks.ensures.short)
    (subst (λ (x : List ℕ). AreMarks (texts x) c.args.index m) here c.marks_of-marks.ensures.marks)
    (subst (λ (x : List ℕ). Exchanges x c.put_marks.new.pack.items m.at (number m.live) (number m.deleted) (number m.flags)) copied c.in_ok-put_marks.ensures)
