use Rattle.std.proofs.Common.{◌+◌, ◌<◌, ◌≤◌, length, ap, ◌∙◌, sym, subst, arith}
use Rattle.listpack.specs.Pack.{texts}
use Rattle.listpack.specs.Element.{element_text}
use Rattle.quicklist.specs.Nodes.{pack_len}
use Rattle.quicklist.specs.Equal.{cleared}
use Rattle.quicklist.proofs.Going.{next_first, next_at, next_next}
use Rattle.quicklist.proofs.Clearings.{IsSoFar, none_so_far, so_far_room, so_far_gone, so_far_kept, so_far_all}
use Rattle.quicklist.proofs.Written.{packed_len}
use Rattle.quicklist.proofs.Rests.{next_some}
use Rattle.quicklist.proofs.clearing.cleared_pack.Goals as goal
use Rattle.quicklist.proofs.clearing.cleared_pack.Goals.{then-not-takes+in_ok-append_element, else-not-takes}

pub loop-j-init : goal.loop-j-init
loop-j-init c =
    let bytes = c.known-pack.result.bytes.now in
    record {
      next = next_first bytes c.first-place.result c.first-place.ensures.place;
      so_far = none_so_far c.args.reach c.args.start (texts bytes) c.in_ok-left.left.items c.in_ok-left.ensures
          (omega (arith, packed_len c.args.bytes.now c.requires.packed, c.requires.packed.short, ap (λ b. pack_len (texts b)) c.known-pack.ensures));
    }

pub append_element-requires-clause-packed : goal.append_element-requires-clause-packed
append_element-requires-clause-packed c = c.loop-j.invariant.so_far.packed

pub append_element-requires-clause-room : goal.append_element-requires-clause-room
append_element-requires-clause-room c =
    let bytes = c.known-pack.result.bytes.now in
    let j = c.loop-j.j in
    let inside : j < length (texts bytes) = omega (arith, c.loop-j-test.true, c.requires.counted, ap (λ b. length (texts b)) c.known-pack.ensures) in
    let here' = next_at bytes j c.loop-j.place c.there-at.result c.loop-j.invariant.next c.there-at.ensures in
    so_far_room c.args.reach c.args.start (texts bytes) j c.loop-j.left.items (element_text c.get-element.result) inside (c.get-element.ensures.text j here') c.loop-j.invariant.so_far

pub loop-j-preserved : goal.loop-j-preserved
loop-j-preserved c =
    let bytes = c.known-pack.result.bytes.now in
    let xs = texts bytes in
    let j = c.loop-j.j in
    let x = element_text c.get-element.result in
    let left = c.loop-j.left.items in
    let inside : j < length xs = omega (arith, c.loop-j-test.true, c.requires.counted, ap (λ b. length (texts b)) c.known-pack.ensures) in
    let here' = next_at bytes j c.loop-j.place c.there-at.result c.loop-j.invariant.next c.there-at.ensures in
    let is = c.get-element.ensures.text j here' in
    let s = c.loop-j.invariant.so_far in
    record {
      next = next_next bytes j c.next-place.result (c.next-place.ensures.place j here');
      so_far = elim c.if-not-takes.branch [
        | then-not-takes+in_ok-append_element w ↦ subst (λ v. IsSoFar c.args.reach c.args.start xs (j + 1) v.items) (sym w.left-is)
            (so_far_kept c.args.reach c.args.start xs j left w.append_element.new.pack.items x inside is (sym c.takes.ensures ∙ w.if-not-takes.true) s w.in_ok-append_element.ensures.packed
            w.in_ok-append_element.ensures.list)
        | else-not-takes w ↦ subst (λ v. IsSoFar c.args.reach c.args.start xs (j + 1) v.items) (sym w.left-is)
            (so_far_gone c.args.reach c.args.start xs j left x inside is (sym c.takes.ensures ∙ w.if-not-takes.false) s)
      ];
    }

pub returns-clause-packed : goal.returns-clause-packed
returns-clause-packed c = c.loop-j.invariant.so_far.packed

pub returns-clause-list : goal.returns-clause-list
returns-clause-list c =
    let bytes = c.known-pack.result.bytes.now in
    let long : length (texts bytes) ≤ c.loop-j.j = omega (arith, c.loop-j-test.false, c.requires.counted, ap (λ b. length (texts b)) c.known-pack.ensures) in
    so_far_all c.args.reach c.args.start (texts bytes) c.loop-j.j c.loop-j.left.items long c.loop-j.invariant.so_far ∙ ap (λ b. cleared c.args.reach c.args.start (texts b)) c.known-pack.ensures

pub there-at-requires : goal.there-at-requires
there-at-requires c =
    let bytes = c.known-pack.result.bytes.now in
    let inside : c.loop-j.j < length (texts bytes) = omega (arith, c.loop-j-test.true, c.requires.counted, ap (λ b. length (texts b)) c.known-pack.ensures) in
    next_some bytes c.loop-j.j c.loop-j.place c.loop-j.invariant.next inside

pub get-element-requires : goal.get-element-requires
get-element-requires c =
    let bytes = c.known-pack.result.bytes.now in
    (c.loop-j.j, next_at bytes c.loop-j.j c.loop-j.place c.there-at.result c.loop-j.invariant.next c.there-at.ensures)

pub next-place-requires : goal.next-place-requires
next-place-requires c =
    let bytes = c.known-pack.result.bytes.now in
    (c.loop-j.j, next_at bytes c.loop-j.j c.loop-j.place c.there-at.result c.loop-j.invariant.next c.there-at.ensures)
