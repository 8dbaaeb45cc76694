use Rattle.std.proofs.Common.{rules, ◌<◌, ◌≤◌, ◌∙◌, ap, [], length, get_or, subst, arith}
use Rattle.hash_object.specs.Fields.{listed}
use Rattle.quicklist.proofs.Going.{match_as}
use Rattle.rdb_parts.specs.Pens.{Adds}
use Rattle.rdb_writer.specs.Collections.{pair_word}
use Rattle.rdb_parts.proofs.Penned.{adds_nothing, lost_then}
use Rattle.rdb_writer.proofs.Pieces.{one_more, all_written}
use Rattle.rdb_writer.proofs.Pairs.{listed_count}
use Rattle.rdb_writer.proofs.hashes.write_pairs.Goals as goal

pub loop-index-init : goal.loop-index-init
loop-index-init g c = record {
  next = match_as c.first-place.result (λ h. omega (arith, h)) (λ cursor h. h) c.first-place.ensures;
  so_far = adds_nothing _ c.args.pen.now;
}

pub unreachable-requires : goal.unreachable-requires
unreachable-requires g c =
    let m = g.B.BlockStore.blocks c.args.store.now in
    let over : length (listed m c.args.hash.now) ≤ c.loop-index.index = rw c.in-None.is at c.loop-index.invariant.next in
    omega (arith, over, c.loop-index-test.true, listed_count m c.args.hash.now c.requires.sound, c.len-count.ensures m c.requires.sound)

pub returns-in_err-write_pair-in-Some : goal.returns-in_err-write_pair-in-Some
returns-in_err-write_pair-in-Some g c =
    let lost = lost_then _ _ _ c.args.pen.now c.loop-index.pen _ c.loop-index.invariant.so_far c.in_err-write_pair-in-Some.ensures in
    search (rules, lost)

pub loop-index-preserved : goal.loop-index-preserved
loop-index-preserved g c =
    let m = g.B.BlockStore.blocks c.args.store.now in
    let xs = listed m c.args.hash.now in
    let i = c.loop-index.index in
    let place = rw c.in-Some.is at c.loop-index.invariant.next in
    let inside : i < length xs = omega (arith, c.loop-index-test.true, listed_count m c.args.hash.now c.requires.sound, c.len-count.ensures m c.requires.sound) in
    let element = c.pair.ensures ∙ ap (λ k. get_or xs k ([], [])) place.1 in
    let one = subst (λ x. Adds (g.F.Shelf.seen c.loop-index.shelf) (g.F.Shelf.seen c.write_pair.new.shelf) c.loop-index.pen c.write_pair.new.pen (pair_word x)) element c.in_ok-write_pair-in-Some.ensures in
    record {
      next = match_as c.next-place.result (λ h. omega (arith, h, place.1)) (λ cursor h. (h.0, omega (arith, h.1, place.1))) c.next-place.ensures;
      so_far = one_more pair_word xs _ _ c.args.pen.now c.loop-index.pen ([], []) i _ c.write_pair.new.pen inside c.loop-index.invariant.so_far one;
    }

pub returns : goal.returns
returns g c =
    let m = g.B.BlockStore.blocks c.args.store.now in
    let xs = listed m c.args.hash.now in
    let past : length xs ≤ c.loop-index.index = omega (arith, c.loop-index-test.false, listed_count m c.args.hash.now c.requires.sound, c.len-count.ensures m c.requires.sound) in
    all_written pair_word xs _ _ c.args.pen.now c.loop-index.pen c.loop-index.index past c.loop-index.invariant.so_far
