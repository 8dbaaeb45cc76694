use Rattle.std.proofs.Common.{List, ℕ, subst, refl}
use Rattle.listpack.specs.Pack.{IsAt}
use Rattle.stream_node.proofs.Overs.{is_mark_over}
use Rattle.stream_node.proofs.marking.mark_over.Goals as goal

pub returns : goal.returns
returns c =
    let place = subst (λ (b : List ℕ). IsAt b c.marks_of-marks.result.at c.in_ok-at.at) c.known.ensures c.in_ok-at.ensures.place in
    is_mark_over c.requires.entry.0 c.args.pack.now c.args.index c.in_ok-at.at c.marks_of-marks.result _ c.requires.packed c.requires.entry.1 c.marks_of-marks.ensures.short
    c.marks_of-marks.ensures.marks place (c.takes_byte.ensures c.if-not-takes_byte.false) (c.takes_byte-2.ensures c.if-not-takes_byte-2.false)
    (c.takes_byte-3.ensures c.if-not-takes_byte-3.false) refl refl refl refl
