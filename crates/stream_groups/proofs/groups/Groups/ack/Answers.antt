use Rattle.std.proofs.Common.{ap, ◌∙◌}
use Rattle.stream_groups.specs.Groups.{Group, is_pending, without}
use Rattle.stream_groups.specs.Kept.{named}
use Rattle.stream_groups.proofs.Uses.{group_found}
use Rattle.stream_groups.proofs.Changing.{at_none_in_changing, at_some_in_changing}
use Rattle.stream_groups.proofs.groups.Groups.ack.Goals as goal
use Rattle.stream_groups.proofs.groups.Groups.ack.Goals.{in-None, in-Some}

pub returns-clause-value : goal.returns-clause-value
returns-clause-value c = elim c.match-get_mut.branch [
  | in-None w ↦ w.result-is ∙ ap (is_pending c.args.id) (w.in-None.ensures.value ∙ group_found c.self.inside.groups.entries c.args.self.now c.args.name.now c.self.invariant c.self.view_is)
  | in-Some w ↦ w.result-is ∙ w.ack.ensures.value ∙ ap (is_pending c.args.id)
      (w.in-Some.ensures.value ∙ group_found c.self.inside.groups.entries c.args.self.now c.args.name.now c.self.invariant c.self.view_is)
]

pub returns-clause-new : goal.returns-clause-new
returns-clause-new c = elim c.match-get_mut.branch [
  | in-None w ↦
      (ap (λ g. named (λ (x : Group). x) g.groups.entries) w.self-inside-is ∙ ap (λ m. named (λ (x : Group). x) m.entries) c.get_mut.follows.holds-at-none ∙ c.self.view_is
      ∙ at_none_in_changing c.self.inside.groups.entries c.args.self.now c.args.name.now c.self.invariant c.self.view_is (without c.args.id) w.in-None.ensures.value)
  | in-Some w ↦
      (ap (λ g. named (λ (x : Group). x) g.groups.entries) w.self-inside-is
      ∙ at_some_in_changing c.self.inside.groups.entries c.args.self.now c.args.name.now c.self.invariant c.self.view_is (c.get_mut.follows.lender w.ack.new.self).entries w.in-Some.group.now
      w.ack.new.self w.in-Some.ensures.value (c.get_mut.follows.holds w.ack.new.self).0 (c.get_mut.follows.holds w.ack.new.self).4 (without c.args.id) w.ack.ensures.new)
]
