use Rattle.std.proofs.Common.{◌≡◌, ◌+◌, FitsSigned, arith, rules, ap, sym, subst, ◌∙◌}
use Rattle.std.specs.Int.{w64}
use Rattle.std.proofs.lemmas.Int.{to_z-of_z}
use Rattle.listpack.specs.Element.{element_text}
use Rattle.zset_object.specs.Items.{pair_at, top_of}
use Rattle.zset_object.specs.Scored.{scores}
use Rattle.cmd_zsets.specs.Joined.{gathered}
use Rattle.cmd_zsets.proofs.Meeting.{IsSoFar, none_met, none_there, passes_on, goes_on, all_met, zset_numbers}
use Rattle.cmd_zsets.proofs.gathering.add_zset.Goals as goal
use Rattle.cmd_zsets.proofs.gathering.add_zset.Goals.{then-is_entry+in_ok-add_element, else-is_entry}

pub loop-item-init : goal.loop-item-init
loop-item-init g c =
    none_met c.args.meeting.join c.args.meeting.how (pair_at (g.B.BlockStore.blocks c.args.store.now) c.args.zset.now) c.args.meeting.weight (gathered c.args.before.now)
    (gathered c.args.now.now) c.requires.fresh

pub returns : goal.returns
returns g c =
    let m = g.B.BlockStore.blocks c.args.store.now in
    let zset = c.args.zset.now in
    let join = c.args.meeting.join in
    let how = c.args.meeting.how in
    let weight = c.args.meeting.weight in
    let before = gathered c.args.before.now in
    let first = gathered c.args.now.now in
    let ended : c.loop-item.item ≡ top_of zset = omega (arith, c.loop-item-test.false, c.loop-item.auto.item-end, c.top-item-end.ensures.value) in
    all_met join how (pair_at m zset) weight before first (top_of zset) (scores m zset) (zset_numbers m zset c.requires.sound) (gathered c.loop-item.now)
    (subst (IsSoFar join how (pair_at m zset) weight before first (gathered c.loop-item.now)) ended c.loop-item.invariant)

pub loop-item-preserved : goal.loop-item-preserved
loop-item-preserved g c =
    let m = g.B.BlockStore.blocks c.args.store.now in
    let zset = c.args.zset.now in
    let join = c.args.meeting.join in
    let how = c.args.meeting.how in
    let weight = c.args.meeting.weight in
    let before = gathered c.args.before.now in
    let first = gathered c.args.now.now in
    let item = c.loop-item.item in
    elim c.if-is_entry.branch [
      | then-is_entry+in_ok-add_element w ↦
          let score = w.at-score.result.1 in
          let fits : FitsSigned w64 score = search rules in
          goes_on join how (pair_at m zset) weight before first (top_of zset) (scores m zset) (zset_numbers m zset c.requires.sound) (gathered c.loop-item.now) (gathered c.if-is_entry.now)
          item score (element_text w.at-score.result.0) w.at-score.ensures
          (ap gathered w.now-is ∙ (rw (to_z-of_z w64 score fits) at w.in_ok-add_element.ensures)) c.loop-item.invariant
      | else-is_entry w ↦
          subst (λ s. IsSoFar join how (pair_at m zset) weight before first s (item + 1)) (sym (ap gathered w.now-is))
          (passes_on join how (pair_at m zset) weight before first (gathered c.loop-item.now) item (none_there (pair_at m zset item) (w.if-is_entry.ensures m c.requires.sound).1)
          c.loop-item.invariant)
    ]
