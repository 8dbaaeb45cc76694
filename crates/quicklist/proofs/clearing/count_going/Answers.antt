use Rattle.std.proofs.Common.{◌<◌, length, ap, ◌∙◌, sym, arith}
use Rattle.listpack.specs.Pack.{texts}
use Rattle.listpack.specs.Element.{element_text}
use Rattle.quicklist.proofs.Going.{next_at, next_next, going_yes, going_no}
use Rattle.quicklist.proofs.Rests.{next_some}
use Rattle.quicklist.proofs.clearing.count_going.Goals as goal
use Rattle.quicklist.proofs.clearing.count_going.Goals.{then-takes, else-takes}

pub loop-j-preserved : goal.loop-j-preserved
loop-j-preserved c =
    let bytes = c.known-pack.result.bytes.now in
    let xs = texts bytes in
    let j = c.loop-j.j in
    let x = element_text c.get.result in
    let inside : j < length xs = omega (arith, c.loop-j-test.true, c.requires.counted, ap (λ b. length (texts b)) c.known-pack.ensures) in
    let here' = next_at bytes j c.loop-j.place c.there-at.result c.loop-j.invariant.next c.there-at.ensures in
    let is = c.get.ensures.text j here' in
    let so_far = c.loop-j.invariant.counted in
    record {
      next = next_next bytes j c.next-place.result (c.next-place.ensures.place j here');
      counted = elim c.if-takes.branch [
        | then-takes w ↦ omega (arith, w.going-is, going_yes c.args.reach c.args.start xs j c.loop-j.going x inside is so_far (sym c.takes.ensures ∙ w.if-takes.true))
        | else-takes w ↦ omega (arith, w.going-is, going_no c.args.reach c.args.start xs j c.loop-j.going x inside is so_far (sym c.takes.ensures ∙ w.if-takes.false))
      ];
    }

pub there-at-requires : goal.there-at-requires
there-at-requires c =
    let bytes = c.known-pack.result.bytes.now in
    let inside : c.loop-j.j < length (texts bytes) = omega (arith, c.loop-j-test.true, c.requires.counted, ap (λ b. length (texts b)) c.known-pack.ensures) in
    next_some bytes c.loop-j.j c.loop-j.place c.loop-j.invariant.next inside

pub get-requires : goal.get-requires
get-requires c =
    let bytes = c.known-pack.result.bytes.now in
    (c.loop-j.j, next_at bytes c.loop-j.j c.loop-j.place c.there-at.result c.loop-j.invariant.next c.there-at.ensures)

pub next-place-requires : goal.next-place-requires
next-place-requires c =
    let bytes = c.known-pack.result.bytes.now in
    (c.loop-j.j, next_at bytes c.loop-j.j c.loop-j.place c.there-at.result c.loop-j.invariant.next c.there-at.ensures)
