use Rattle.std.proofs.Common.{◌≡◌, IfSome, true, subst, sym, ap, ◌∙◌}
use Rattle.std.specs.FinMap as map
use Rattle.stream_groups.specs.Groups.{AreOwned, Group}
use Rattle.stream_groups.proofs.Owned.{owned_put}
use Rattle.stream_groups.proofs.group.Group.set_pending.Goals as goal

pub invariant_of-self-2 : goal.invariant_of-self-2
invariant_of-self-2 c =
    let same : c.unwrap-name.result.now.value.items ≡ c.args.consumer.now = subst (λ o. IfSome o (λ known. known.now.value.items ≡ c.args.consumer.now)) c.unwrap-name.ensures c.get.ensures.same in
    let known : map.contains_key c.self.inside.consumers c.args.consumer.now ≡ true = ap (λ (g : Group). map.contains_key g.consumers c.args.consumer.now) c.self.view_is ∙ c.requires in
    subst (AreOwned c.self.inside.consumers) (sym c.in_ok-put.ensures.ok)
    (owned_put c.self.inside.consumers c.self.inside.pending c.args.id _ c.self.invariant (ap (map.contains_key c.self.inside.consumers) same ∙ known))
