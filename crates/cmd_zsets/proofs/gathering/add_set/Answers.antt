use Rattle.std.proofs.Common.{◌≡◌, ◌+◌, pos, arith, ap, sym, subst, ◌∙◌}
use Rattle.listpack.specs.Element.{element_text}
use Rattle.set_object.specs.Items.{member_at, top_of}
use Rattle.set_object.specs.Members.{members}
use Rattle.plain_model.specs.ZsetSteps.{one_each}
use Rattle.cmd_zsets.specs.Joined.{gathered}
use Rattle.cmd_zsets.proofs.Meeting.{IsSoFar, with_one, one_at, none_met, none_there, passes_on, goes_on, all_met, set_numbers}
use Rattle.cmd_zsets.proofs.gathering.add_set.Goals as goal
use Rattle.cmd_zsets.proofs.gathering.add_set.Goals.{then-is_entry+in_ok-add_element, else-is_entry}

pub loop-item-init : goal.loop-item-init
loop-item-init g c =
    none_met c.args.meeting.join c.args.meeting.how (one_at (g.B.BlockStore.blocks c.args.store.now) c.args.set.now) c.args.meeting.weight (gathered c.args.before.now)
    (gathered c.args.now.now) c.requires.fresh

pub returns : goal.returns
returns g c =
    let m = g.B.BlockStore.blocks c.args.store.now in
    let set = c.args.set.now in
    let join = c.args.meeting.join in
    let how = c.args.meeting.how in
    let weight = c.args.meeting.weight in
    let before = gathered c.args.before.now in
    let first = gathered c.args.now.now in
    let ended : c.loop-item.item ≡ top_of set = omega (arith, c.loop-item-test.false, c.loop-item.auto.item-end, c.top-item-end.ensures.value) in
    all_met join how (one_at m set) weight before first (top_of set) (one_each (members m set)) (set_numbers m set c.requires.sound) (gathered c.loop-item.now)
    (subst (IsSoFar join how (one_at m set) weight before first (gathered c.loop-item.now)) ended c.loop-item.invariant)

pub loop-item-preserved : goal.loop-item-preserved
loop-item-preserved g c =
    let m = g.B.BlockStore.blocks c.args.store.now in
    let set = c.args.set.now in
    let join = c.args.meeting.join in
    let how = c.args.meeting.how in
    let weight = c.args.meeting.weight in
    let before = gathered c.args.before.now in
    let first = gathered c.args.now.now in
    let item = c.loop-item.item in
    elim c.if-is_entry.branch [
      | then-is_entry+in_ok-add_element w ↦
          goes_on join how (one_at m set) weight before first (top_of set) (one_each (members m set)) (set_numbers m set c.requires.sound) (gathered c.loop-item.now)
          (gathered c.if-is_entry.now) item (pos 1) (element_text w.at.result) (ap with_one w.at.ensures)
          (ap gathered w.now-is ∙ w.in_ok-add_element.ensures) c.loop-item.invariant
      | else-is_entry w ↦
          subst (λ s. IsSoFar join how (one_at m set) weight before first s (item + 1)) (sym (ap gathered w.now-is))
          (passes_on join how (one_at m set) weight before first (gathered c.loop-item.now) item
          (ap with_one (none_there (member_at m set item) (w.if-is_entry.ensures m c.requires.sound).1)) c.loop-item.invariant)
    ]
