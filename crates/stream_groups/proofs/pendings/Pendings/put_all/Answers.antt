use Rattle.std.proofs.Common.{rules, ◌≡◌, ap, ◌∙◌}
use Rattle.stream_groups.specs.Groups.{Pending}
use Rattle.stream_groups.specs.Kept.{logged}
use Rattle.stream_groups.proofs.Shares.{shares_handed}
use Rattle.stream_groups.proofs.pendings.Pendings.put_all.Goals as goal

pub invariant_of-self-in-Ok-1 : goal.invariant_of-self-in-Ok-1
invariant_of-self-in-Ok-1 c =
    let entry : Pending = record { consumer = c.args.consumer.now.value.items; moment = c.args.moment; count = 1 } in
    let name : c.as_slice.result.now ≡ entry.consumer = search rules in
    let former : c.as_slice-in-Ok.result.now ≡ entry.consumer = search rules in
    shares_handed c.self.inside.index c.add_all.new.self c.leave_all.new.self c.self.inside.entries c.put_all.new.self c.args.ids.now entry c.as_slice.result.now c.as_slice-in-Ok.result.now
    (logged c.deref-in-Ok.result.now) c.self.invariant name former (ap logged c.deref-in-Ok.ensures.value ∙ c.in_ok-log.ensures.log) c.in-Ok.ensures.ok c.leave_all.ensures c.in_ok-log.ensures.ok
