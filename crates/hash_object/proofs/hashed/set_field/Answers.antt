use Rattle.std.proofs.Common.{not, is_some, sym, ap}
use Rattle.hash_object.proofs.Tables.{fields_lacks, found_value}
use Rattle.hash_object.proofs.hashed.set_field.Goals as goal

pub returns-in_ok-put_value-in-Some-clause-there : goal.returns-in_ok-put_value-in-Some-clause-there
returns-in_ok-put_value-in-Some-clause-there g c =
    let s = c.in-Some.ensures.found in
    sym (ap (λ o. not (is_some o)) (found_value (g.B.BlockStore.blocks c.args.store.now) c.args.table.now c.requires.keyed c.in-Some.at c.args.field.now s.element s s.found))

pub returns-in_ok-hash_field-in-None-clause-there : goal.returns-in_ok-hash_field-in-None-clause-there
returns-in_ok-hash_field-in-None-clause-there g c =
    sym (ap (λ o. not (is_some o)) (fields_lacks (g.B.BlockStore.blocks c.args.store.now) c.args.table.now c.requires.keyed c.args.field.now c.in-None.ensures.none))
