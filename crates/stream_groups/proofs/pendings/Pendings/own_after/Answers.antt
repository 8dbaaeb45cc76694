use Rattle.std.proofs.Common.{sym, ap, ◌∙◌}
use Rattle.std.specs.Prelude.{slice_get}
use Rattle.stream_groups.specs.Groups.{own_ids}
use Rattle.stream_groups.proofs.Shares.{own_told}
use Rattle.stream_groups.proofs.pendings.Pendings.own_after.Goals as goal

pub returns : goal.returns
returns c = c.after.ensures ∙ ap (λ ids. slice_get ids 0) (sym (own_told c.self.inside.index c.self.inside.entries c.args.consumer.now c.self.invariant c.args.above))
    ∙ ap (λ p. slice_get (own_ids p c.args.consumer.now c.args.above) 0) c.self.view_is
