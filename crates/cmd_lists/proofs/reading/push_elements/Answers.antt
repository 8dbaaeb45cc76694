use Rattle.std.proofs.Common.{◌+◌, ◌<◌, ◌∙◌, ap, [], length, get_or, arith}
use Rattle.quicklist.specs.Chain.{elements}
use Rattle.quicklist.proofs.Going.{match_as}
use Rattle.cmd_lists.proofs.Ranges.{one_more}
use Rattle.cmd_lists.proofs.reading.push_elements.Goals as goal

pub loop-index-preserved : goal.loop-index-preserved
loop-index-preserved g c =
    let m = g.B.BlockStore.blocks c.args.store.now in
    let xs = elements m c.args.list.now in
    let k = c.args.from + c.loop-index.index in
    let place = rw c.in-Some.is at c.loop-index.invariant.next in
    let inside : k < length xs = omega (arith, c.loop-index-test.true, c.requires.inside) in
    record {
      next = match_as c.next-place.result (λ h. omega (arith, h, place.1)) (λ cursor h. (h.0, omega (arith, h.1, place.1))) c.next-place.ensures;
      so_far = one_more xs c.args.from c.loop-index.index c.args.parts.now c.loop-index.parts c.push.new.self _ inside c.loop-index.invariant.so_far
          (c.in_ok-bytes-in-Some.ensures ∙ c.element.ensures ∙ ap (λ i. get_or xs i []) place.1) c.in_ok-push-in-Some.ensures.ok;
    }
