use Rattle.std.proofs.Common.{◌≡◌, subst, sym, ap, ◌∙◌}
use Rattle.std.specs.FinMap as map
use Rattle.stream_groups.specs.Groups.{AreOwned, Id, Names, Group, Pendings}
use Rattle.stream_groups.proofs.Owned.{owned_added, owned_placed, added_there, added_known, dropped_added}
use Rattle.stream_groups.proofs.group.Group.deliver.Goals as goal

pub invariant_of-self-in-Ok : goal.invariant_of-self-in-Ok
invariant_of-self-in-Ok c =
    let added = map.insert c.self.inside.consumers c.args.consumer.now tt in
    let name : c.in_ok-name.name.value.items ≡ c.args.consumer.now = c.in_ok-name.ensures.same in
    subst (λ n. AreOwned n c.put_all.new.self) (sym c.in_ok-name.ensures.ok) (subst (AreOwned added) (sym c.in-Ok.ensures.ok)
    (owned_placed added c.self.inside.pending c.args.ids.now _ (owned_added c.self.inside.consumers c.self.inside.pending c.args.consumer.now c.self.invariant)
    (ap (map.contains_key added) name ∙ added_there c.self.inside.consumers c.args.consumer.now)))

-- pending entries stay of consumers where both are what they were
stays : (names after : Names) (pending left : Pendings) → after ≡ names → left ≡ pending → AreOwned names pending → AreOwned after left
stays names after pending left same kept owned = subst (λ n. AreOwned n left) (sym same) (subst (AreOwned names) (sym kept) owned)

-- the group of the same parts is the same
whole : (last : Id) (names after : Names) (pending left : Pendings) (group : Group) → after ≡ names → left ≡ pending
    → ◌≡◌ {A = Group} (record { last = last; consumers = names; pending = pending }) group → ◌≡◌ {A = Group} (record { last = last; consumers = after; pending = left }) group
whole last names after pending left group same kept is = (λ i. record { last = last; consumers = same i; pending = kept i }) ∙ is

pub invariant_of-self-then-known : goal.invariant_of-self-then-known
invariant_of-self-then-known c =
    stays c.self.inside.consumers c.add.new.self c.self.inside.pending c.put_all.new.self
    (c.in_ok-name.ensures.ok ∙ added_known c.self.inside.consumers c.args.consumer.now (sym c.contains-known.ensures ∙ c.if-known.true)) c.in-Err.ensures.err c.self.invariant

pub returns-then-known-clause-err : goal.returns-then-known-clause-err
returns-then-known-clause-err c =
    whole c.self.inside.last c.self.inside.consumers c.add.new.self c.self.inside.pending c.put_all.new.self c.args.self.now
    (c.in_ok-name.ensures.ok ∙ added_known c.self.inside.consumers c.args.consumer.now (sym c.contains-known.ensures ∙ c.if-known.true)) c.in-Err.ensures.err c.self.view_is

pub invariant_of-self-in-Err : goal.invariant_of-self-in-Err
invariant_of-self-in-Err c =
    stays c.self.inside.consumers c.drop_name.new.self c.self.inside.pending c.put_all.new.self
    (c.drop_name.ensures ∙ ap (λ n. map.remove n c.args.consumer.now) c.in_ok-name.ensures.ok
    ∙ dropped_added c.self.inside.consumers c.args.consumer.now (sym c.contains-known.ensures ∙ c.if-known.false)) c.in-Err.ensures.err c.self.invariant

pub returns-clause-err : goal.returns-clause-err
returns-clause-err c =
    whole c.self.inside.last c.self.inside.consumers c.drop_name.new.self c.self.inside.pending c.put_all.new.self c.args.self.now
    (c.drop_name.ensures ∙ ap (λ n. map.remove n c.args.consumer.now) c.in_ok-name.ensures.ok
    ∙ dropped_added c.self.inside.consumers c.args.consumer.now (sym c.contains-known.ensures ∙ c.if-known.false)) c.in-Err.ensures.err c.self.view_is
