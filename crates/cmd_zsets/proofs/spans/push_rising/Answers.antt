use Rattle.std.proofs.Common.{rules, ◌≡◌, ◌++◌, ◌+◌, ◌≤◌, ℤ, FitsSigned, Some, slice_get, sym, ap, ◌∙◌, subst, arith}
use Rattle.std.specs.Int.{w64}
use Rattle.std.specs.FinMap.{len}
use Rattle.std.proofs.lemmas.Int.{to_z-of_z}
use Rattle.listpack.specs.Element.{element_text}
use Rattle.zset_object.specs.Scored.{scores}
use Rattle.zset_object.specs.Scored as object
use Rattle.zset_object.specs.Items.{IsCursor}
use Rattle.plain_model.specs.ZsetSteps.{ranked}
use Rattle.cmd_zsets.specs.Spans.{told}
use Rattle.cmd_zsets.proofs.Ranked.{ranked_is}
use Rattle.cmd_zsets.proofs.Told.{one_more, met_next}
use Rattle.cmd_zsets.proofs.spans.push_rising.Goals as goal

pub unreachable-requires : goal.unreachable-requires
unreachable-requires g c =
    let m = g.B.BlockStore.blocks c.args.store.now in
    let over : len (scores m c.args.zset.now) ≤ c.args.rank + c.loop-index.index = rw c.in-None.is at c.loop-index.invariant.next in
    omega (arith, over, c.loop-index-test.true, c.requires.inside)

pub loop-index-preserved : goal.loop-index-preserved
loop-index-preserved g c =
    let m = g.B.BlockStore.blocks c.args.store.now in
    let s = c.args.zset.now in
    let list = ranked (scores m s) in
    let k = c.loop-index.index in
    let start = c.args.rank in
    let place = rw c.in-Some.is at c.loop-index.invariant.next in
    let score = c.pair-score.result.1 in
    let text = element_text c.pair-score.result.0 in
    let fits : FitsSigned w64 score = search rules in
    let met : slice_get list (start + k) ≡ Some (score, text) =
    ap (λ (l : _). slice_get l (start + k)) (sym (ranked_is m s c.requires.sound)) ∙ ap (slice_get (object.ranked m s)) (sym place.1) ∙ c.pair-score.ensures in
    record {
      next = met_next (IsCursor m s) c.next-place.result c.in-Some.cursor.rank start k (len (scores m s)) (λ to. to.rank) place.1 c.next-place.ensures;
      so_far = one_more c.args.with_scores list start k c.args.parts.now c.loop-index.parts c.push_member.new.parts (score, text) met c.loop-index.invariant.so_far
          (subst (λ (n : ℤ). c.push_member.new.parts ≡ c.loop-index.parts ++ told c.args.with_scores (n, text)) (to_z-of_z w64 score fits) c.in_ok-push_member-in-Some.ensures);
    }
