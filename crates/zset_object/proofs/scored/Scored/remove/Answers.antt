use Rattle.std.proofs.Common.{is_some, [], sym, ap, ◌∙◌, subst, refl}
use Rattle.std.specs.FinMap.{remove}
use Rattle.blocks.specs.Blocks.{Changes}
use Rattle.blocks.proofs.Serve.{served_then}
use Rattle.rehash_dict.specs.Tables.{IsSettled}
use Rattle.zset_object.specs.declared.scored.Body.{Body}
use Rattle.zset_object.specs.Scored.{IsChanged, scores, refs_of_body, form_of_body, tables_of}
use Rattle.zset_object.proofs.Bodies.{body_changed, packed_tables, packed_form, form_listpack}
use Rattle.zset_object.proofs.Placing.{placed_settled}
use Rattle.zset_object.proofs.scored.Scored.remove.Goals as goal

pub returns-in-Some : goal.returns-in-Some
returns-in-Some g c =
    let m = g.B.BlockStore.blocks c.args.store.now in
    let mid = g.B.BlockStore.blocks c.place_without.new.store in
    let n = g.B.BlockStore.blocks c.release.new.store in
    let self = c.args.self.now in
    let map = remove (scores m self) c.args.member.now in
    let p = rw c.in-Some.is at c.in_ok-body.ensures.placed in
    let form = rw c.in-Some.is at c.in_ok-body.ensures.form in
    let released : Changes mid n (refs_of_body self.body) [] = subst (λ (b : Body). Changes mid n (refs_of_body b) []) c.replace.ensures.value c.release.ensures.changes in
    record {
      there = sym (ap is_some c.in-Some.is) ∙ c.in_ok-body.ensures.there;
      removed = λ _. subst (λ (b : Body). IsChanged m n self (record self { body = b }) map) (sym c.replace.ensures.after)
          (body_changed m mid n self c.in-Some.body map c.requires p released (packed_tables m self.body c.in_default.not-Table));
      form = ap form_of_body c.replace.ensures.after ∙ form ∙ sym (form_listpack self.body (packed_form self.body c.in_default.not-Table));
      settled = λ _. subst (λ (b : Body). IsSettled (tables_of n b)) (sym c.replace.ensures.after) (placed_settled n c.in-Some.body form);
      served = served_then _ _ _ c.place_without.ensures.served c.release.ensures.served;
      same_scored = λ h. absurd cc;
      same_blocks = λ h. absurd cc;
      err_scored = tt;
      err_blocks = tt;
      err_removed = tt;
    }

pub returns-in-None : goal.returns-in-None
returns-in-None g c = record {
  there = sym (ap is_some c.in-None.is) ∙ c.in_ok-body.ensures.there;
  removed = λ h. absurd cc;
  form = refl;
  settled = λ h. absurd cc;
  served = c.place_without.ensures.served;
  same_scored = λ h. refl;
  same_blocks = λ h. rw c.in-None.is at c.in_ok-body.ensures.none_blocks;
  err_scored = tt;
  err_blocks = tt;
  err_removed = tt;
}
