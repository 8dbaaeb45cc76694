use Rattle.std.proofs.Common.{◌≡◌, rules, [], ◌∷◌, subst}
use Rattle.int_text.specs.Decimal.{canonical}
use Rattle.keyspace.specs.Forms.{Formed, hash_to}
use Rattle.keyspace.specs.Commands.{visible}
use Rattle.cmd_hashes.proofs.Telling.{on_ok}
use Rattle.cmd_hashes.proofs.counting.write_number.Goals as goal

pub returns-clause-forms : goal.returns-clause-forms
returns-clause-forms g c =
    let blocks = g.B.BlockStore.blocks in
    let from = c.args.keyspace.now in
    let to = c.set_field_at.new.keyspace in
    let world = visible blocks from c.args.at.now in
    let text : c.as_bytes-text.result.now ≡ canonical c.args.n = search rules in
    on_ok c.number.result (subst (λ t. Formed blocks (hash_to c.args.at.now.db world c.args.key.now ((c.args.field.now, t) ∷ [])) from to) text c.in_ok-set_field_at.ensures.forms)
