use Rattle.std.proofs.Common.{List, ℕ, [], Option, Some, unwrap_or, ap, ◌∙◌}
use Rattle.hash_object.proofs.Tables.{fields_lacks, value_live, found_value}
use Rattle.hash_object.proofs.fields.value_of.Goals as goal

pub bytes-requires : goal.bytes-requires
bytes-requires g c = value_live (g.B.BlockStore.blocks c.args.store.now) c.args.table.now c.in-Some.at _ c.requires.owned c.entry.ensures.found

pub returns-in-Some : goal.returns-in-Some
returns-in-Some g c =
    found_value (g.B.BlockStore.blocks c.args.store.now) c.args.table.now c.requires.keyed c.in-Some.at c.args.field.now _ c.in-Some.ensures.found c.entry.ensures.found
    ∙ ap (λ (o : Option (List ℕ)). Some (unwrap_or o [])) c.bytes.ensures

pub returns-in-None : goal.returns-in-None
returns-in-None g c = fields_lacks (g.B.BlockStore.blocks c.args.store.now) c.args.table.now c.requires.keyed c.args.field.now c.in-None.ensures.none
