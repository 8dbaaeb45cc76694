use Rattle.std.proofs.Common.{◌<◌, ◌≤◌, ◌∙◌, ap, [], length, get_or, arith}
use Rattle.hash_object.specs.Fields.{listed}
use Rattle.cmd_hashes.proofs.Listed.{match_as, count_is, one_more, all_told}
use Rattle.cmd_hashes.proofs.listing.push_fields.Goals as goal

pub loop-index-preserved : goal.loop-index-preserved
loop-index-preserved g c =
    let m = g.B.BlockStore.blocks c.args.store.now in
    let list = listed m c.args.hash.now in
    let k = c.loop-index.index in
    let place = rw c.in-Some.is at c.loop-index.invariant.next in
    let inside : k < length list = omega (arith, c.loop-index-test.true, count_is m c.args.hash.now c.requires.sound c.len-count.result (c.len-count.ensures m c.requires.sound)) in
    record {
      next = match_as c.next-place.result (λ h. omega (arith, h, place.1)) (λ cursor h. (h.0, omega (arith, h.1, place.1))) c.next-place.ensures;
      so_far = one_more c.args.told list k c.args.parts.now c.loop-index.parts c.push_told.new.parts _ inside c.loop-index.invariant.so_far
          (c.pair.ensures ∙ ap (λ i. get_or list i ([], [])) place.1) c.in_ok-push_told-in-Some.ensures;
    }

pub unreachable-requires : goal.unreachable-requires
unreachable-requires g c =
    let m = g.B.BlockStore.blocks c.args.store.now in
    let over : length (listed m c.args.hash.now) ≤ c.loop-index.index = rw c.in-None.is at c.loop-index.invariant.next in
    omega (arith, over, c.loop-index-test.true, count_is m c.args.hash.now c.requires.sound c.len-count.result (c.len-count.ensures m c.requires.sound))

pub returns : goal.returns
returns g c =
    let m = g.B.BlockStore.blocks c.args.store.now in
    let all = count_is m c.args.hash.now c.requires.sound c.len-count.result (c.len-count.ensures m c.requires.sound) in
    all_told c.args.told (listed m c.args.hash.now) c.loop-index.index c.args.parts.now c.loop-index.parts (omega (arith, all, c.loop-index-test.false)) c.loop-index.invariant.so_far
