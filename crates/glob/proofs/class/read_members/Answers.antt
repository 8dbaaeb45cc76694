use Rattle.std.proofs.Common.{◌≡◌, ◌||◌, sym, ap, ◌∙◌, arith}
use Rattle.glob.specs.Class.{is_within}
use Rattle.glob.proofs.ClassMembers.{takes_step, rest_loop_step}
use Rattle.glob.proofs.class.read_members.Goals as goal
use Rattle.glob.proofs.class.read_members.Goals.{then-holds, else-holds}

pub loop-at-preserved : goal.loop-at-preserved
loop-at-preserved c =
    let ms = c.args.members.now in
    let m = c.read_member-member.result in
    let now : c.if-holds.takes ≡ (is_within m c.args.byte || c.loop-at.takes) =
    elim c.if-holds.branch [
      | then-holds w ↦ (w.takes-is ∙ w.if-holds.true) ∙ ap (λ b. b || c.loop-at.takes) (sym w.if-holds.true ∙ c.holds.ensures)
      | else-holds w ↦ w.takes-is ∙ ap (λ b. b || c.loop-at.takes) (sym w.if-holds.false ∙ c.holds.ensures)
    ] in
    record {
      room = omega arith;
      takes = takes_step ms c.loop-at.at c.args.byte c.loop-at.takes c.if-holds.takes m c.loop-at-test.true c.if-members-at-eq93.false c.read_member-member.ensures.member
          c.read_member-member.ensures.some now ∙ c.loop-at.invariant.takes;
      rest = rest_loop_step ms c.loop-at.at m c.loop-at-test.true c.if-members-at-eq93.false c.read_member-member.ensures.member c.read_member-member.ensures.some ∙ c.loop-at.invariant.rest;
    }
