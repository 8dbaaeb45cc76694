use Rattle.std.proofs.Common.{◌≡◌, ◌+◌, ◌<◌, ◌∙◌, ap, sym, [], length, get_or, arith, rules}
use Rattle.quicklist.specs.Chain.{elements}
use Rattle.quicklist.proofs.Going.{match_as}
use Rattle.plain_model.specs.ListSteps.{from_end, index_from}
use Rattle.cmd_lists.proofs.Meeting.{index_none, met_at, met_length}
use Rattle.cmd_lists.proofs.Ranges.{one_more}
use Rattle.cmd_lists.proofs.popping.push_met.Goals as goal

pub loop-index-init : goal.loop-index-init
loop-index-init g c =
    let len = length (elements (g.B.BlockStore.blocks c.args.store.now) c.args.list.now) in
    let size : c.len.result ≡ len = omega (arith, c.len.ensures, c.requires.quick.counted) in
    let first = c.first_index.ensures ∙ ap (λ n. index_from c.args.end n 0) size in
    record {
      next = match_as c.seek-place.result (λ h. index_none c.args.end len (omega (arith, h, first))) (λ cursor h. (h.0, h.1 ∙ first)) c.seek-place.ensures;
      so_far = search rules;
    }

pub loop-index-preserved : goal.loop-index-preserved
loop-index-preserved g c =
    let m = g.B.BlockStore.blocks c.args.store.now in
    let xs = elements m c.args.list.now in
    let ys = from_end c.args.end xs in
    let k = c.loop-index.index in
    let place = rw c.in-Some.is at c.loop-index.invariant.next in
    let from_none : 0 + k ≡ k = omega arith in
    let inside : k < length xs = omega (arith, c.loop-index-test.true, c.requires.inside) in
    record {
      next = c.place_behind-place.ensures;
      so_far = one_more ys 0 k c.args.parts.now c.loop-index.parts c.push.new.self _ (omega (arith, inside, met_length c.args.end xs)) c.loop-index.invariant.so_far
          (c.in_ok-bytes-in-Some.ensures ∙ c.element.ensures ∙ ap (λ i. get_or xs i []) place.1 ∙ sym (met_at c.args.end xs k inside) ∙ ap (λ i. get_or ys i []) (sym from_none))
          c.in_ok-push-in-Some.ensures.ok;
    }
