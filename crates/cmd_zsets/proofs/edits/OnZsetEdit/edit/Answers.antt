use Rattle.std.proofs.Common.{◌≡◌, rules, refl, sym, ap, subst}
use Rattle.std.specs.FinMap.{len}
use Rattle.rehash_dict.specs.Grown.{Grown}
use Rattle.rehash_dict.specs.Keyed.{hash_of}
use Rattle.zset_object.specs.Scored.{scores, form_of, tables}
use Rattle.zset_object.specs.declared.scored.Scored.{Scored}
use Rattle.keyspace.specs.Values.{value_of, value_tables, encoding_of, IsSound}
use Rattle.keyspace.specs.Insides.{size, SettledBelow}
use Rattle.keyspace.specs.Edits.{limits_of}
use Rattle.cmd_zsets.proofs.edits.OnZsetEdit.edit.Goals as goal

pub returns-clause-makes : goal.returns-clause-makes
returns-clause-makes g c =
    let m = g.B.BlockStore.blocks c.args.store.now in
    let after = g.B.BlockStore.blocks c.edit_zset.new.store in
    let was = c.in-Zset.zset.value in
    let new = c.edit_zset.new.zset in
    let same : c.deref_mut.result.now ≡ was = search rules in
    let counted : c.len-self.result ≡ len (scores after new) = search rules in
    record {
      limits = was.limits;
      scores = scores m was;
      from = form_of was;
      now = scores after new;
      form = form_of new;
      kept_by = ap limits_of c.in-Zset.is;
      was = ap (value_of m) c.in-Zset.is;
      was_form = ap encoding_of c.in-Zset.is;
      is = refl;
      is_form = refl;
      made = subst (λ (h : Scored). g.E.ZsetEdit.makes c.args.self.now.edit c.edit_zset.new.self h.limits (scores m h) (form_of h) (scores after new) (form_of new)) same
          c.in_ok-edit_zset-in-Zset.ensures.makes;
      counted = counted;
    }

-- the tables come from those that the sorted set had
pub returns-in_err-edit_zset-in-Zset-clause-grown : goal.returns-in_err-edit_zset-in-Zset-clause-grown
returns-in_err-edit_zset-in-Zset-clause-grown g c limits seed sound =
    let m = g.B.BlockStore.blocks c.args.store.now in
    let after = g.B.BlockStore.blocks c.edit_zset.new.store in
    let was = c.in-Zset.zset.value in
    let new = c.edit_zset.new.zset in
    let own : was.seed ≡ seed = (subst (IsSound limits seed m) c.in-Zset.is sound).2 in
    let same : c.deref_mut.result.now ≡ was = search rules in
    subst (λ v. Grown (hash_of seed) (value_tables m v) (tables after new)) (sym c.in-Zset.is)
    (subst (λ s. Grown (hash_of s) (tables m was) (tables after new)) own
    (subst (λ (h : Scored). Grown (hash_of h.seed) (tables m h) (tables after new)) same c.edit_zset.ensures.grown))

pub returns-clause-grown : goal.returns-clause-grown
returns-clause-grown g c limits seed sound =
    let m = g.B.BlockStore.blocks c.args.store.now in
    let after = g.B.BlockStore.blocks c.edit_zset.new.store in
    let was = c.in-Zset.zset.value in
    let new = c.edit_zset.new.zset in
    let own : was.seed ≡ seed = (subst (IsSound limits seed m) c.in-Zset.is sound).2 in
    let same : c.deref_mut.result.now ≡ was = search rules in
    subst (λ v. Grown (hash_of seed) (value_tables m v) (tables after new)) (sym c.in-Zset.is)
    (subst (λ s. Grown (hash_of s) (tables m was) (tables after new)) own
    (subst (λ (h : Scored). Grown (hash_of h.seed) (tables m h) (tables after new)) same c.edit_zset.ensures.grown))

-- they are settled where the sorted set has fewer members
pub returns-clause-settled : goal.returns-clause-settled
returns-clause-settled g c =
    let m = g.B.BlockStore.blocks c.args.store.now in
    let after = g.B.BlockStore.blocks c.edit_zset.new.store in
    let was = c.in-Zset.zset.value in
    let new = c.edit_zset.new.zset in
    let same : c.deref_mut.result.now ≡ was = search rules in
    subst (λ v. SettledBelow (size (value_of m v)) (len (scores after new)) (tables after new)) (sym c.in-Zset.is)
    (subst (λ (h : Scored). SettledBelow (len (scores m h)) (len (scores after new)) (tables after new)) same c.in_ok-edit_zset-in-Zset.ensures.settled)
