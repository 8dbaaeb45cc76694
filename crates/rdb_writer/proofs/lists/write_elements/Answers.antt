use Rattle.std.proofs.Common.{rules, ◌<◌, ◌≤◌, ◌∙◌, ap, [], length, get_or, subst, arith}
use Rattle.quicklist.specs.Chain.{elements}
use Rattle.quicklist.proofs.Going.{match_as}
use Rattle.rdb_parts.specs.Pens.{Adds}
use Rattle.rdb_parts.specs.Words.{string_word}
use Rattle.rdb_parts.proofs.Penned.{adds_nothing, lost_then}
use Rattle.rdb_writer.proofs.Pieces.{one_more, all_written}
use Rattle.rdb_writer.proofs.lists.write_elements.Goals as goal

pub loop-index-init : goal.loop-index-init
loop-index-init g c = record { next = c.seek-place.ensures; so_far = adds_nothing _ c.args.pen.now }

pub unreachable-requires : goal.unreachable-requires
unreachable-requires g c =
    let over : length (elements (g.B.BlockStore.blocks c.args.store.now) c.args.list.now) ≤ c.loop-index.index = rw c.in-None.is at c.loop-index.invariant.next in
    omega (arith, over, c.loop-index-test.true, c.len-count.ensures, c.requires.sound.counted)

pub returns-in_err-write_element-in-Some : goal.returns-in_err-write_element-in-Some
returns-in_err-write_element-in-Some g c =
    let lost = lost_then _ _ _ c.args.pen.now c.loop-index.pen _ c.loop-index.invariant.so_far c.in_err-write_element-in-Some.ensures in
    search (rules, lost)

pub loop-index-preserved : goal.loop-index-preserved
loop-index-preserved g c =
    let xs = elements (g.B.BlockStore.blocks c.args.store.now) c.args.list.now in
    let i = c.loop-index.index in
    let place = rw c.in-Some.is at c.loop-index.invariant.next in
    let inside : i < length xs = omega (arith, c.loop-index-test.true, c.len-count.ensures, c.requires.sound.counted) in
    let text = c.element.ensures ∙ ap (λ k. get_or xs k []) place.1 in
    let one = subst (λ t. Adds (g.F.Shelf.seen c.loop-index.shelf) (g.F.Shelf.seen c.write_element.new.shelf) c.loop-index.pen c.write_element.new.pen (string_word t)) text c.in_ok-write_element-in-Some.ensures in
    record {
      next = match_as c.next-place.result (λ h. omega (arith, h, place.1)) (λ cursor h. (h.0, omega (arith, h.1, place.1))) c.next-place.ensures;
      so_far = one_more string_word xs _ _ c.args.pen.now c.loop-index.pen [] i _ c.write_element.new.pen inside c.loop-index.invariant.so_far one;
    }

pub returns : goal.returns
returns g c =
    let xs = elements (g.B.BlockStore.blocks c.args.store.now) c.args.list.now in
    let past : length xs ≤ c.loop-index.index = omega (arith, c.loop-index-test.false, c.len-count.ensures, c.requires.sound.counted) in
    all_written string_word xs _ _ c.args.pen.now c.loop-index.pen c.loop-index.index past c.loop-index.invariant.so_far
