use Rattle.std.proofs.Common.{rules, FitsSigned, ◌≡◌, ◌<◌, ◌≤◌, ◌∙◌, ap, sym, pos, [], length, Some, slice_get, subst, arith}
use Rattle.std.specs.Int.{w64}
use Rattle.std.specs.FinMap.{len}
use Rattle.std.proofs.lemmas.Int.{to_z-of_z}
use Rattle.std.proofs.lemmas.Option.{get_or_from_slice_get}
use Rattle.listpack.specs.Element.{element_text}
use Rattle.score_list.specs.Sorted.{Key}
use Rattle.zset_object.specs.Scored.{scores, ranked}
use Rattle.quicklist.proofs.Going.{match_as}
use Rattle.rdb_parts.specs.Pens.{Adds}
use Rattle.rdb_parts.proofs.Penned.{adds_nothing, lost_then}
use Rattle.rdb_writer.specs.Collections.{member_word}
use Rattle.rdb_writer.proofs.Pieces.{one_more, all_written}
use Rattle.rdb_writer.proofs.Ranked.{ranked_count, score_fit}
use Rattle.rdb_writer.proofs.sorted.write_ranked.Goals as goal

pub loop-index-init : goal.loop-index-init
loop-index-init g c = record { next = c.cursor-place.ensures; so_far = adds_nothing _ c.args.pen.now }

pub unreachable-requires : goal.unreachable-requires
unreachable-requires g c =
    let m = g.B.BlockStore.blocks c.args.store.now in
    let over : len (scores m c.args.scored.now) ≤ c.loop-index.index = rw c.in-None.is at c.loop-index.invariant.next in
    omega (arith, over, c.loop-index-test.true, c.len-count.ensures m c.requires.sound)

pub write_member-requires : goal.write_member-requires
write_member-requires g c =
    let fits : FitsSigned w64 c.pair-score.result.1 = search rules in
    rw (to_z-of_z w64 c.pair-score.result.1 fits) (score_fit (g.B.BlockStore.blocks c.args.store.now) c.args.scored.now c.requires.sound c.requires.fit _ _ _ c.pair-score.ensures)

pub returns-in_err-write_member-in-Some : goal.returns-in_err-write_member-in-Some
returns-in_err-write_member-in-Some g c =
    let lost = lost_then _ _ _ c.args.pen.now c.loop-index.pen _ c.loop-index.invariant.so_far c.in_err-write_member-in-Some.ensures in
    search (rules, lost)

pub loop-index-preserved : goal.loop-index-preserved
loop-index-preserved g c =
    let m = g.B.BlockStore.blocks c.args.store.now in
    let xs = ranked m c.args.scored.now in
    let i = c.loop-index.index in
    let place = rw c.in-Some.is at c.loop-index.invariant.next in
    let key : Key = (c.pair-score.result.1, element_text c.pair-score.result.0) in
    let none : Key = (pos 0, []) in
    let met : slice_get xs i ≡ Some key = ap (slice_get xs) (sym place.1) ∙ c.pair-score.ensures in
    let inside : i < length xs = omega (arith, c.loop-index-test.true, ranked_count m c.args.scored.now c.requires.sound, c.len-count.ensures m c.requires.sound) in
    let fits : FitsSigned w64 c.pair-score.result.1 = search rules in
    let written = rw (to_z-of_z w64 c.pair-score.result.1 fits) at c.in_ok-write_member-in-Some.ensures in
    let one = subst (λ k. Adds (g.F.Shelf.seen c.loop-index.shelf) (g.F.Shelf.seen c.write_member.new.shelf) c.loop-index.pen c.write_member.new.pen (member_word k))
    (sym (get_or_from_slice_get xs i key none met)) written in
    record {
      next = match_as c.next-place.result (λ h. omega (arith, h, place.1)) (λ cursor h. (h.0, omega (arith, h.1, place.1))) c.next-place.ensures;
      so_far = one_more member_word xs _ _ c.args.pen.now c.loop-index.pen none i _ c.write_member.new.pen inside c.loop-index.invariant.so_far one;
    }

pub returns : goal.returns
returns g c =
    let m = g.B.BlockStore.blocks c.args.store.now in
    let xs = ranked m c.args.scored.now in
    let past : length xs ≤ c.loop-index.index = omega (arith, c.loop-index-test.false, ranked_count m c.args.scored.now c.requires.sound, c.len-count.ensures m c.requires.sound) in
    all_written member_word xs _ _ c.args.pen.now c.loop-index.pen c.loop-index.index past c.loop-index.invariant.so_far
