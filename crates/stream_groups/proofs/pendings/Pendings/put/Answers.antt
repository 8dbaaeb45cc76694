use Rattle.std.proofs.Common.{rules, ◌≡◌, [], ◌∷◌, sym, ap, subst, ◌∙◌}
use Rattle.std.specs.Option.{option_map}
use Rattle.stream_groups.specs.Groups.{Pending}
use Rattle.stream_groups.specs.Index.{Indexes}
use Rattle.stream_groups.specs.Kept.{pending_of, restored}
use Rattle.stream_groups.proofs.Shares.{shares_handed}
use Rattle.stream_groups.proofs.Undoing.{restored_put}
use Rattle.stream_groups.proofs.pendings.Pendings.put.Goals as goal

pub invariant_of-self-in-Ok : goal.invariant_of-self-in-Ok
invariant_of-self-in-Ok c =
    let entry : Pending = record { consumer = c.args.consumer.now.value.items; moment = c.args.moment; count = c.args.count } in
    let name : c.as_slice.result.now ≡ entry.consumer = search rules in
    let former : c.as_slice-in-Ok.result.now ≡ entry.consumer = search rules in
    shares_handed c.self.inside.index c.add.new.self c.leave.new.self c.self.inside.entries c.put.new.self (c.args.id ∷ []) entry c.as_slice.result.now c.as_slice-in-Ok.result.now
    (option_map pending_of c.in_ok-was.was' ∷ []) c.self.invariant name former (ap (λ o. o ∷ []) c.in_ok-was.ensures.was) c.in-Ok.ensures.ok c.leave.ensures c.in_ok-was.ensures.ok

pub invariant_of-self-in-Ok-2 : goal.invariant_of-self-in-Ok-2
invariant_of-self-in-Ok-2 c =
    let entry : Pending = record { consumer = c.args.consumer.now.value.items; moment = c.args.moment; count = c.args.count } in
    let name : c.as_slice.result.now ≡ entry.consumer = search rules in
    let former : c.as_slice-in-Ok.result.now ≡ entry.consumer = search rules in
    shares_handed c.self.inside.index c.add.new.self c.leave.new.self c.self.inside.entries c.put.new.self (c.args.id ∷ []) entry c.as_slice.result.now c.as_slice-in-Ok.result.now
    (option_map pending_of c.in_ok-was.was' ∷ []) c.self.invariant name former (ap (λ o. o ∷ []) c.in_ok-was.ensures.was) c.in-Ok.ensures.ok c.leave.ensures c.in_ok-was.ensures.ok

pub invariant_of-self-in-Err : goal.invariant_of-self-in-Err
invariant_of-self-in-Err c =
    let entry : Pending = record { consumer = c.args.consumer.now.value.items; moment = c.args.moment; count = c.args.count } in
    let back : c.restore.new.self ≡ c.self.inside.entries = c.restore.ensures ∙ ap (λ p. restored p c.args.id (option_map pending_of c.in_ok-was.was')) c.in_ok-was.ensures.ok
    ∙ restored_put c.self.inside.entries c.args.id entry (option_map pending_of c.in_ok-was.was') c.in_ok-was.ensures.was in
    subst (λ i. Indexes i c.restore.new.self) (sym c.in-Err.ensures.err) (subst (Indexes c.self.inside.index) (sym back) c.self.invariant)

pub returns-in-Err-clause-err : goal.returns-in-Err-clause-err
returns-in-Err-clause-err c =
    let entry : Pending = record { consumer = c.args.consumer.now.value.items; moment = c.args.moment; count = c.args.count } in
    c.restore.ensures ∙ ap (λ p. restored p c.args.id (option_map pending_of c.in_ok-was.was')) c.in_ok-was.ensures.ok
    ∙ restored_put c.self.inside.entries c.args.id entry (option_map pending_of c.in_ok-was.was') c.in_ok-was.ensures.was ∙ c.self.view_is
