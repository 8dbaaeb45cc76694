use Rattle.std.proofs.Common.{◌≡◌, rules, refl, sym, ap, subst}
use Rattle.std.specs.FinMap.{len}
use Rattle.rehash_dict.specs.Grown.{Grown}
use Rattle.rehash_dict.specs.Keyed.{hash_of}
use Rattle.hash_object.specs.Fields.{fields, form_of, tables}
use Rattle.hash_object.specs.declared.fields.Fields.{Fields}
use Rattle.keyspace.specs.Values.{value_of, value_tables, encoding_of, IsSound}
use Rattle.keyspace.specs.Insides.{size, SettledBelow}
use Rattle.keyspace.specs.Edits.{limits_of}
use Rattle.cmd_hashes.proofs.edits.OnHashEdit.edit.Goals as goal

pub returns-clause-makes : goal.returns-clause-makes
returns-clause-makes g c =
    let m = g.B.BlockStore.blocks c.args.store.now in
    let after = g.B.BlockStore.blocks c.edit_hash.new.store in
    let was = c.in-Hash.hash.value in
    let new = c.edit_hash.new.hash in
    let same : c.deref_mut.result.now ≡ was = search rules in
    let counted : c.len-self.result ≡ len (fields after new) = search rules in
    record {
      limits = was.limits;
      fields = fields m was;
      from = form_of was;
      now = fields after new;
      form = form_of new;
      kept_by = ap limits_of c.in-Hash.is;
      was = ap (value_of m) c.in-Hash.is;
      was_form = ap encoding_of c.in-Hash.is;
      is = refl;
      is_form = refl;
      made = subst (λ (h : Fields). g.E.HashEdit.makes c.args.self.now.edit c.edit_hash.new.self h.limits (fields m h) (form_of h) (fields after new) (form_of new)) same
          c.in_ok-edit_hash-in-Hash.ensures.makes;
      counted = counted;
    }

-- the tables come from those that the hash had
pub returns-in_err-edit_hash-in-Hash-clause-grown : goal.returns-in_err-edit_hash-in-Hash-clause-grown
returns-in_err-edit_hash-in-Hash-clause-grown g c limits seed sound =
    let m = g.B.BlockStore.blocks c.args.store.now in
    let after = g.B.BlockStore.blocks c.edit_hash.new.store in
    let was = c.in-Hash.hash.value in
    let new = c.edit_hash.new.hash in
    let own : was.seed ≡ seed = (subst (IsSound limits seed m) c.in-Hash.is sound).2 in
    let same : c.deref_mut.result.now ≡ was = search rules in
    subst (λ v. Grown (hash_of seed) (value_tables m v) (tables after new)) (sym c.in-Hash.is)
    (subst (λ s. Grown (hash_of s) (tables m was) (tables after new)) own
    (subst (λ (h : Fields). Grown (hash_of h.seed) (tables m h) (tables after new)) same c.edit_hash.ensures.grown))

pub returns-clause-grown : goal.returns-clause-grown
returns-clause-grown g c limits seed sound =
    let m = g.B.BlockStore.blocks c.args.store.now in
    let after = g.B.BlockStore.blocks c.edit_hash.new.store in
    let was = c.in-Hash.hash.value in
    let new = c.edit_hash.new.hash in
    let own : was.seed ≡ seed = (subst (IsSound limits seed m) c.in-Hash.is sound).2 in
    let same : c.deref_mut.result.now ≡ was = search rules in
    subst (λ v. Grown (hash_of seed) (value_tables m v) (tables after new)) (sym c.in-Hash.is)
    (subst (λ s. Grown (hash_of s) (tables m was) (tables after new)) own
    (subst (λ (h : Fields). Grown (hash_of h.seed) (tables m h) (tables after new)) same c.edit_hash.ensures.grown))

-- they are settled where the hash has fewer fields
pub returns-clause-settled : goal.returns-clause-settled
returns-clause-settled g c =
    let m = g.B.BlockStore.blocks c.args.store.now in
    let after = g.B.BlockStore.blocks c.edit_hash.new.store in
    let was = c.in-Hash.hash.value in
    let new = c.edit_hash.new.hash in
    let same : c.deref_mut.result.now ≡ was = search rules in
    subst (λ v. SettledBelow (size (value_of m v)) (len (fields after new)) (tables after new)) (sym c.in-Hash.is)
    (subst (λ (h : Fields). SettledBelow (len (fields m h)) (len (fields after new)) (tables after new)) same c.in_ok-edit_hash-in-Hash.ensures.settled)
