use Rattle.std.proofs.Common.{refl, sym, ap, ◌∙◌}
use Rattle.std.specs.Prelude.{◌||◌}
use Rattle.set_object.specs.Members.{members}
use Rattle.plain_model.specs.SetSteps.{Members, has}
use Rattle.keyspace.specs.Commands.{visible}
use Rattle.cmd_sets.proofs.Gathered.{or_false, ok_as}
use Rattle.cmd_sets.proofs.Joined.{missing_lacks, other_lacks, all_names}
use Rattle.cmd_sets.proofs.Sifted.{added_all}
use Rattle.cmd_sets.proofs.joining.add_at.Goals as goal

pub returns-in-Missing-clause-members : goal.returns-in-Missing-clause-members
returns-in-Missing-clause-members g c = λ q.
    let world = visible g.B.BlockStore.blocks c.args.keyspace.now c.args.at.now in
    let old = has (members (g.C.BlockStore.blocks c.args.own.now) c.args.all.now) q in
    sym (ap (λ b. old || b) (missing_lacks world c.args.key.now q (rw c.in-Missing.is at c.set_at.ensures)) ∙ or_false old)

pub returns-in-Other-clause-members : goal.returns-in-Other-clause-members
returns-in-Other-clause-members g c = λ q.
    let world = visible g.B.BlockStore.blocks c.args.keyspace.now c.args.at.now in
    let old = has (members (g.C.BlockStore.blocks c.args.own.now) c.args.all.now) q in
    sym (ap (λ b. old || b) (other_lacks world c.args.key.now q c.in-Other.ensures) ∙ or_false old)

pub returns-in-There-clause-members : goal.returns-in-There-clause-members
returns-in-There-clause-members g c =
    let world = visible g.B.BlockStore.blocks c.args.keyspace.now c.args.at.now in
    let m = g.B.BlockStore.blocks c.args.keyspace.now.store in
    let old = members (g.C.BlockStore.blocks c.args.own.now) c.args.all.now in
    ok_as c.add_members.result
    (λ is q. ap (λ (s : Members). has s q) is ∙ added_all old _ q ∙ ap (λ (s : Members). has old q || has s q) (all_names world m c.args.key.now _ _ c.in-There.ensures refl))
    c.add_members.ensures.members
