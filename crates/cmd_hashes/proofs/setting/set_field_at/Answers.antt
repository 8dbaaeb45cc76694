use Rattle.std.proofs.Common.{[], ◌∷◌, subst}
use Rattle.keyspace.specs.Forms.{Formed, hash_to}
use Rattle.keyspace.specs.Commands.{visible}
use Rattle.cmd_hashes.proofs.setting.set_field_at.Goals as goal

pub returns-clause-forms : goal.returns-clause-forms
returns-clause-forms g c =
    let blocks = g.B.BlockStore.blocks in
    let from = c.args.keyspace.now in
    let to = c.set_at.new.keyspace in
    let world = visible blocks from c.args.at.now in
    subst (λ f. Formed blocks (hash_to c.args.at.now.db world c.args.key.now ((f, c.args.value.now) ∷ [])) from to) c.new.ensures
    (subst (λ v. Formed blocks (hash_to c.args.at.now.db world c.args.key.now ((c.new.result, v) ∷ [])) from to) c.new-2.ensures c.in_ok-set_at.ensures.forms)
