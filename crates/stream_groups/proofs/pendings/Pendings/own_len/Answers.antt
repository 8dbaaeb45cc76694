use Rattle.std.proofs.Common.{None, length, sym, ap, ◌∙◌}
use Rattle.stream_groups.specs.Groups.{own_ids}
use Rattle.stream_groups.proofs.Shares.{own_told}
use Rattle.stream_groups.proofs.pendings.Pendings.own_len.Goals as goal

pub returns : goal.returns
returns c = c.len.ensures ∙ ap length (sym (own_told c.self.inside.index c.self.inside.entries c.args.consumer.now c.self.invariant None))
    ∙ ap (λ p. length (own_ids p c.args.consumer.now None)) c.self.view_is
