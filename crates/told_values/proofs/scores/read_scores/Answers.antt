use Rattle.std.proofs.Common.{rules, ◌≡◌, ◌≤◌, ◌∙◌, ap, sym, ℕ, List, length, FitsSigned, Some, slice_get, arith}
use Rattle.std.specs.Int.{w64}
use Rattle.std.specs.FinMap.{empty, len}
use Rattle.std.proofs.lemmas.Int.{to_z-of_z}
use Rattle.std.proofs.lemmas.List.{take_all}
use Rattle.zset_object.specs.Scored.{scores, ranked}
use Rattle.zset_object.proofs.Depends.{scored_laws_hold}
use Rattle.quicklist.proofs.Going.{match_as}
use Rattle.told_values.proofs.Ranked.{gathered, all_gathered, scores_begun, scores_more}
use Rattle.told_values.proofs.scores.read_scores.Goals as goal

pub loop-index-init : goal.loop-index-init
loop-index-init g c = record {
  next = c.cursor-place.ensures;
  so_far = scores_begun (ranked (g.B.BlockStore.blocks c.args.store.now) c.args.scored.now) c.new-read.result.entries c.new-read.ensures.empty;
}

pub unreachable-requires : goal.unreachable-requires
unreachable-requires g c =
    let m = g.B.BlockStore.blocks c.args.store.now in
    let over : len (scores m c.args.scored.now) ≤ c.loop-index.index = rw c.in-None.is at c.loop-index.invariant.next in
    omega (arith, over, c.loop-index-test.true, c.len-count.ensures m c.requires.sound)

pub loop-index-preserved : goal.loop-index-preserved
loop-index-preserved g c =
    let m = g.B.BlockStore.blocks c.args.store.now in
    let xs = ranked m c.args.scored.now in
    let i = c.loop-index.index in
    let place = rw c.in-Some.is at c.loop-index.invariant.next in
    let score = c.pair-score.result.1 in
    let fits : FitsSigned w64 score = search rules in
    let met : slice_get xs i ≡ Some (score, c.in_ok-name-in-Some.name.items) =
    ap (slice_get xs) (sym place.1) ∙ c.pair-score.ensures ∙ ap (λ (text : List ℕ). Some (score, text)) (sym c.in_ok-name-in-Some.ensures) in
    record {
      next = match_as c.next-place.result (λ h. omega (arith, h, place.1)) (λ cursor h. (h.0, omega (arith, h.1, place.1))) c.next-place.ensures;
      so_far = scores_more xs i c.loop-index.read.entries c.insert.new.self.entries c.in_ok-name-in-Some.name score c.in_ok-insert-in-Some.ensures.was_ordered
          c.in_ok-insert-in-Some.ensures.ordered met (rw (to_z-of_z w64 score fits) at c.in_ok-insert-in-Some.ensures.entries) c.loop-index.invariant.so_far;
    }

pub returns : goal.returns
returns g c =
    let m = g.B.BlockStore.blocks c.args.store.now in
    let xs = ranked m c.args.scored.now in
    let all : length xs ≤ c.loop-index.index =
    omega (arith, c.loop-index-test.false, scored_laws_hold.counted m c.args.scored.now c.requires.sound, c.len-count.ensures m c.requires.sound) in
    c.loop-index.invariant.so_far ∙ ap (gathered empty) (take_all c.loop-index.index xs all)
    ∙ all_gathered (scores m c.args.scored.now) xs (scored_laws_hold.ranking m c.args.scored.now c.requires.sound)
