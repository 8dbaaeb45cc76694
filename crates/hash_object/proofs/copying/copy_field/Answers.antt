use Rattle.std.proofs.Common.{List, ℕ, [], Option, unwrap_or, sym, ap, ◌∙◌, subst}
use Rattle.std.specs.FinMap.{insert}
use Rattle.blocks.specs.Blocks.{no_step}
use Rattle.rehash_dict.specs.Keyed.{Lacks}
use Rattle.hash_object.specs.Hashed.{IsHashed, fields_in}
use Rattle.hash_object.proofs.Tables.{value_live}
use Rattle.hash_object.proofs.Copies.{next_entry, read_entry, on_ok}
use Rattle.hash_object.proofs.copying.copy_field.Goals as goal

pub bytes-requires : goal.bytes-requires
bytes-requires g c = c.requires.source.live c.args.at _ c.entry.ensures.found

pub returns-in_err-field_bytes-clause-served : goal.returns-in_err-field_bytes-clause-served
returns-in_err-field_bytes-clause-served g c = no_step

pub bytes-requires-2 : goal.bytes-requires-2
bytes-requires-2 g c = value_live (g.B.BlockStore.blocks c.args.store.now) c.args.source.now c.args.at _ c.requires.source_owned c.entry.ensures.found

pub returns-in_err-value_bytes-clause-served : goal.returns-in_err-value_bytes-clause-served
returns-in_err-value_bytes-clause-served g c = no_step

pub hash_field-requires-clause-absent : goal.hash_field-requires-clause-absent
hash_field-requires-clause-absent g c =
    let m = g.B.BlockStore.blocks c.args.store.now in
    subst (λ (q : List ℕ). Lacks m c.args.table.now q)
    (ap (λ (o : Option (List ℕ)). unwrap_or o []) c.bytes.ensures ∙ sym c.in_ok-field_bytes.ensures.items ∙ sym c.deref.ensures.value)
    (c.requires.absent _ _ (next_entry m c.args.source.now c.args.at _ c.entry.ensures.found))

pub returns-clause-hashed : goal.returns-clause-hashed
returns-clause-hashed g c =
    let m = g.B.BlockStore.blocks c.args.store.now in
    let n = g.B.BlockStore.blocks c.hash_field.new.store in
    let t = c.args.table.now in
    on_ok c.hash_field.result _ _ (λ (h : IsHashed m n t c.hash_field.new.table (insert (fields_in m t) c.deref.result.now c.deref-2.result.now)) k v is.
    (let p = read_entry m _ _ c.bytes.result.now c.bytes-2.result.now k v c.entry.ensures.found c.bytes.ensures c.bytes-2.ensures is in
    subst (λ (x : List ℕ). IsHashed m n t c.hash_field.new.table (insert (fields_in m t) k x)) (c.deref-2.ensures.value ∙ c.in_ok-value_bytes.ensures.items ∙ p.1)
    (subst (λ (x : List ℕ). IsHashed m n t c.hash_field.new.table (insert (fields_in m t) x c.deref-2.result.now)) (c.deref.ensures.value ∙ c.in_ok-field_bytes.ensures.items ∙ p.0) h)))
    c.hash_field.ensures.hashed
