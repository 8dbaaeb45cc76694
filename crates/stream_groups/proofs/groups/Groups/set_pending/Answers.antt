use Rattle.std.proofs.Common.{IfSome, IsTrue, is_some, sym, ap, subst, ◌∙◌}
use Rattle.stream_groups.specs.Groups.{Group, has_consumer, with_pending}
use Rattle.stream_groups.specs.Kept.{named}
use Rattle.stream_groups.proofs.Uses.{group_found}
use Rattle.stream_groups.proofs.Changing.{at_none_in_changing, at_some_in_changing, at_same_in_changing}
use Rattle.stream_groups.proofs.groups.Groups.set_pending.Goals as goal
use Rattle.stream_groups.proofs.groups.Groups.set_pending.Goals.{in-None, in-Some+in-Ok, in-Some+in-Err}

pub returns-clause-there : goal.returns-clause-there
returns-clause-there c = elim c.match-get_mut.branch [
  | in-None w ↦ rw w.result-is (ap is_some (w.in-None.ensures.value ∙ group_found c.self.inside.groups.entries c.args.self.now c.args.name.now c.self.invariant c.self.view_is))
  | in-Some+in-Ok w ↦ rw w.result-is (ap is_some (w.in-Some.ensures.value ∙ group_found c.self.inside.groups.entries c.args.self.now c.args.name.now c.self.invariant c.self.view_is))
  | in-Some+in-Err w ↦ rw w.result-is tt
]

pub returns-clause-ok : goal.returns-clause-ok
returns-clause-ok c = elim c.match-get_mut.branch [
  | in-None w ↦ rw w.result-is
      (ap (λ g. named (λ (x : Group). x) g.groups.entries) w.self-inside-is ∙ ap (λ m. named (λ (x : Group). x) m.entries) c.get_mut.follows.holds-at-none ∙ c.self.view_is
      ∙ at_none_in_changing c.self.inside.groups.entries c.args.self.now c.args.name.now c.self.invariant c.self.view_is
      (with_pending c.args.id (record { consumer = c.args.consumer.now; moment = c.args.moment; count = c.args.count })) w.in-None.ensures.value)
  | in-Some+in-Ok w ↦ rw w.result-is
      (ap (λ g. named (λ (x : Group). x) g.groups.entries) w.self-inside-is
      ∙ at_some_in_changing c.self.inside.groups.entries c.args.self.now c.args.name.now c.self.invariant c.self.view_is (c.get_mut.follows.lender w.set_pending.new.self).entries w.in-Some.group.now
      w.set_pending.new.self w.in-Some.ensures.value (c.get_mut.follows.holds w.set_pending.new.self).0 (c.get_mut.follows.holds w.set_pending.new.self).4
      (with_pending c.args.id (record { consumer = c.args.consumer.now; moment = c.args.moment; count = c.args.count })) w.in-Ok.ensures.ok)
  | in-Some+in-Err w ↦ rw w.result-is tt
]

pub returns-clause-err : goal.returns-clause-err
returns-clause-err c = elim c.match-get_mut.branch [
  | in-None w ↦ rw w.result-is tt
  | in-Some+in-Ok w ↦ rw w.result-is tt
  | in-Some+in-Err w ↦ rw w.result-is
      (ap (λ g. named (λ (x : Group). x) g.groups.entries) w.self-inside-is
      ∙ at_same_in_changing c.self.inside.groups.entries c.args.self.now c.args.name.now c.self.invariant c.self.view_is (c.get_mut.follows.lender w.set_pending.new.self).entries w.in-Some.group.now
      w.set_pending.new.self w.in-Some.ensures.value (c.get_mut.follows.holds w.set_pending.new.self).0 (c.get_mut.follows.holds w.set_pending.new.self).4 w.in-Err.ensures.err)
]

pub set_pending-requires : goal.set_pending-requires
set_pending-requires c = subst (λ o. IfSome o (λ group. IsTrue (has_consumer c.args.consumer.now group)))
    (sym (c.in-Some.ensures.value ∙ group_found c.self.inside.groups.entries c.args.self.now c.args.name.now c.self.invariant c.self.view_is)) c.requires
