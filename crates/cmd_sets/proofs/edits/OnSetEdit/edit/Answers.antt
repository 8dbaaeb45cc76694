use Rattle.std.proofs.Common.{◌≡◌, rules, sym, subst}
use Rattle.std.specs.FinMap.{len}
use Rattle.rehash_dict.specs.Grown.{Grown}
use Rattle.rehash_dict.specs.Keyed.{hash_of}
use Rattle.set_object.specs.declared.members.Members as object
use Rattle.set_object.specs.Members.{members, form_of, tables}
use Rattle.keyspace.specs.Values.{value_of, value_tables, IsSound}
use Rattle.keyspace.specs.Insides.{size, SettledBelow}
use Rattle.cmd_sets.proofs.edits.OnSetEdit.edit.Goals as goal

pub returns-clause-makes : goal.returns-clause-makes
returns-clause-makes g c =
    let set = c.deref_mut.result.now in
    let new = c.edit_counted.new.set in
    record {
      limits = set.limits;
      members = members (g.B.BlockStore.blocks c.args.store.now) set;
      from = form_of set;
      now = members (g.B.BlockStore.blocks c.edit_counted.new.store) new;
      form = form_of new;
      was = search rules;
      was_form = search rules;
      was_limits = search rules;
      is = search rules;
      is_form = search rules;
      made = search rules;
      counted = search rules;
    }

-- the tables come from those that the set had
pub returns-in_err-edit_counted-in-Set-clause-grown : goal.returns-in_err-edit_counted-in-Set-clause-grown
returns-in_err-edit_counted-in-Set-clause-grown g c limits seed sound =
    let m = g.B.BlockStore.blocks c.args.store.now in
    let after = g.B.BlockStore.blocks c.edit_counted.new.store in
    let was = c.in-Set.set.value in
    let new = c.edit_counted.new.set in
    let own : was.seed ≡ seed = (subst (IsSound limits seed m) c.in-Set.is sound).2 in
    let same : c.deref_mut.result.now ≡ was = search rules in
    subst (λ v. Grown (hash_of seed) (value_tables m v) (tables after new)) (sym c.in-Set.is)
    (subst (λ s. Grown (hash_of s) (tables m was) (tables after new)) own
    (subst (λ (x : object.Members). Grown (hash_of x.seed) (tables m x) (tables after new)) same c.edit_counted.ensures.grown))

pub returns-clause-grown : goal.returns-clause-grown
returns-clause-grown g c limits seed sound =
    let m = g.B.BlockStore.blocks c.args.store.now in
    let after = g.B.BlockStore.blocks c.edit_counted.new.store in
    let was = c.in-Set.set.value in
    let new = c.edit_counted.new.set in
    let own : was.seed ≡ seed = (subst (IsSound limits seed m) c.in-Set.is sound).2 in
    let same : c.deref_mut.result.now ≡ was = search rules in
    subst (λ v. Grown (hash_of seed) (value_tables m v) (tables after new)) (sym c.in-Set.is)
    (subst (λ s. Grown (hash_of s) (tables m was) (tables after new)) own
    (subst (λ (x : object.Members). Grown (hash_of x.seed) (tables m x) (tables after new)) same c.edit_counted.ensures.grown))

-- they are settled where the set has fewer members
pub returns-clause-settled : goal.returns-clause-settled
returns-clause-settled g c =
    let m = g.B.BlockStore.blocks c.args.store.now in
    let after = g.B.BlockStore.blocks c.edit_counted.new.store in
    let was = c.in-Set.set.value in
    let new = c.edit_counted.new.set in
    let same : c.deref_mut.result.now ≡ was = search rules in
    subst (λ v. SettledBelow (size (value_of m v)) (len (members after new)) (tables after new)) (sym c.in-Set.is)
    (subst (λ (x : object.Members). SettledBelow (len (members m x)) (len (members after new)) (tables after new)) same c.in_ok-edit_counted-in-Set.ensures.settled)
