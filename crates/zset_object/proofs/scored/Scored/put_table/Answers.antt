use Rattle.std.proofs.Common.{◌≡◌, ℤ, w64, [], sym, ap, subst}
use Rattle.std.proofs.lemmas.Int.{to_z-of_z}
use Rattle.std.specs.FinMap.{insert}
use Rattle.blocks.specs.Blocks.{Changes}
use Rattle.blocks.proofs.Serve.{served_then}
use Rattle.object_codec.specs.declared.form.Form.TheVariants.{Skiplist}
use Rattle.zset_object.specs.declared.scored.Body.{Body}
use Rattle.zset_object.specs.Scored.{IsChanged, IsPlacedBody, scores, refs_of_body, form_of_body}
use Rattle.zset_object.proofs.Bodies.{body_changed, packed_tables}
use Rattle.zset_object.proofs.scored.Scored.put_table.Goals as goal

pub returns-clause-set : goal.returns-clause-set
returns-clause-set g c =
    let m = g.B.BlockStore.blocks c.args.store.now in
    let mid = g.B.BlockStore.blocks c.place_table.new.store in
    let n = g.B.BlockStore.blocks c.release.new.store in
    let self = c.args.self.now in
    let k = c.args.member.now in
    let map = insert (scores m self) k c.args.score in
    let p = subst (λ (v : ℤ). IsPlacedBody m mid self.limits self.seed c.in_ok-body.body (insert (scores m self) k v)) (to_z-of_z w64 c.args.score c.ranges.score) c.in_ok-body.ensures.placed in
    let released : Changes mid n (refs_of_body self.body) [] = subst (λ (b : Body). Changes mid n (refs_of_body b) []) c.replace.ensures.value c.release.ensures.changes in
    subst (λ (b : Body). IsChanged m n self (record self { body = b }) map) (sym c.replace.ensures.after)
    (body_changed m mid n self c.in_ok-body.body map c.requires.sound p released (packed_tables m self.body (λ t is. c.requires.packed (ap form_of_body is))))

pub returns-clause-form : goal.returns-clause-form
returns-clause-form g c = subst (λ (b : Body). form_of_body b ≡ Skiplist) (sym c.replace.ensures.after) c.in_ok-body.ensures.form

pub returns-clause-served : goal.returns-clause-served
returns-clause-served g c = served_then _ _ _ c.place_table.ensures.served c.release.ensures.served
