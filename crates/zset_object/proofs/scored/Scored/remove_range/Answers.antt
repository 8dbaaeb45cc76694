use Rattle.std.proofs.Common.{◌≢◌, Result, Ok, Err, sym, ap, ◌∙◌, subst, arith}
use Rattle.std.specs.Prelude.{OnOk, OnErr, slice_range}
use Rattle.std.specs.FinMap.{len}
use Rattle.object_codec.specs.declared.form.Form.TheVariants.{Skiplist}
use Rattle.score_table.specs.Ranking.{without_each}
use Rattle.zset_object.specs.declared.scored.Body.TheVariants.{Table}
use Rattle.zset_object.specs.Scored.{IsChanged, scores_of, ranked_of, form_of_body}
use Rattle.zset_object.proofs.Bodies.{form_listpack, packed_form}
use Rattle.zset_object.proofs.Placing.{placed_settled}
use Rattle.zset_object.proofs.Ranges.{table_changed}
use Rattle.zset_object.proofs.scored.Scored.remove_range.Goals as goal

on_ok : {A E : Type 0} (r : Result A E) (P : Type 0) → P → OnOk r P
on_ok (Ok x) P p = p
on_ok (Err e) P p = tt

on_err : {A E : Type 0} (r : Result A E) (P : Type 0) → P → OnErr r P
on_err (Ok x) P p = tt
on_err (Err e) P p = p

-- what holds on an error does so under a condition too
err_where : {A E : Type 0} (r : Result A E) (P Q : Type 0) → OnErr r P → OnErr r (Q → P)
err_where (Ok x) P Q h = tt
err_where (Err e) P Q h = λ q. h

pub take_range-requires-clause-inside : goal.take_range-requires-clause-inside
take_range-requires-clause-inside g c = omega (arith, c.requires.inside, ap (λ b. len (scores_of (g.B.BlockStore.blocks c.args.store.now) b)) c.in-Table.is)

pub returns-in-Table : goal.returns-in-Table
returns-in-Table g c =
    let m = g.B.BlockStore.blocks c.args.store.now in
    let n = g.B.BlockStore.blocks c.take_range.new.store in
    let self = c.args.self.now in
    let p = table_changed m n self c.in-Table.table c.take_range.new.table _ c.requires.sound c.in-Table.is c.take_range.ensures.removed in
    let changed = subst (λ map. IsChanged m n self (record self { body = Table c.take_range.new.table }) map)
    (sym (ap (λ b. without_each (scores_of m b) (slice_range (ranked_of m b) c.args.from c.args.to)) c.in-Table.is)) p in
    record {
      removed = on_ok c.take_range.result _ changed;
      form = sym (ap form_of_body c.in-Table.is);
      settled = c.take_range.ensures.settled;
      served = c.take_range.ensures.served;
      err_scored = on_err c.take_range.result _ (λ packed. absurd (packed (ap form_of_body c.in-Table.is)));
      err_blocks = on_err c.take_range.result _ (λ packed. absurd (packed (ap form_of_body c.in-Table.is)));
      err_removed = on_err c.take_range.result _ (λ tabled. changed);
    }

pub cut_packed-requires-clause-packed : goal.cut_packed-requires-clause-packed
cut_packed-requires-clause-packed g c = packed_form c.args.self.now.body c.in_default.not-Table

pub returns : goal.returns
returns g c =
    let n = g.B.BlockStore.blocks c.cut_packed.new.store in
    let body = c.args.self.now.body in
    let packed : form_of_body body ≢ Skiplist = packed_form body c.in_default.not-Table in
    record {
      removed = c.cut_packed.ensures.removed;
      form = c.cut_packed.ensures.form;
      settled = on_ok c.cut_packed.result _ (placed_settled n c.cut_packed.new.self.body (c.cut_packed.ensures.form ∙ form_listpack body packed));
      served = c.cut_packed.ensures.served;
      err_scored = err_where c.cut_packed.result _ _ c.cut_packed.ensures.err_scored;
      err_blocks = err_where c.cut_packed.result _ _ c.cut_packed.ensures.err_blocks;
      err_removed = on_err c.cut_packed.result _ (λ tabled. absurd (packed tabled));
    }
