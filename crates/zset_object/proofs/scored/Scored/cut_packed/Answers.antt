use Rattle.std.proofs.Common.{◌≡◌, [], sym, ap, ◌∙◌, subst, arith}
use Rattle.std.specs.Prelude.{slice_range}
use Rattle.blocks.specs.Blocks.{Changes, no_step}
use Rattle.blocks.proofs.Serve.{served_then}
use Rattle.object_codec.specs.declared.form.Form.TheVariants.{Listpack}
use Rattle.score_table.specs.Ranking.{without_each}
use Rattle.zset_object.specs.declared.scored.Body.{Body}
use Rattle.zset_object.specs.Scored.{IsChanged, scores, ranked, refs_of_body, form_of_body, tables_of}
use Rattle.zset_object.proofs.Bodies.{body_changed, form_listpack, pack_len}
use Rattle.zset_object.proofs.Ranges.{empty_range}
use Rattle.zset_object.proofs.scored.Scored.cut_packed.Goals as goal

pub returns-in_default-clause-removed : goal.returns-in_default-clause-removed
returns-in_default-clause-removed g c = empty_range (g.B.BlockStore.blocks c.args.store.now) c.args.self.now c.args.from c.args.to c.requires.sound c.in_default.not-Pack
    (λ t is. c.requires.packed (ap form_of_body is))

pub returns-in_default-clause-served : goal.returns-in_default-clause-served
returns-in_default-clause-served g c = no_step

pub place_outside-requires-clause-inside : goal.place_outside-requires-clause-inside
place_outside-requires-clause-inside g c =
    let self = c.args.self.now in
    omega (arith, c.requires.inside, pack_len (g.B.BlockStore.blocks c.args.store.now) self.limits self.seed self.body c.in-Pack.packed c.in-Pack.is c.requires.sound.body)

pub returns-clause-removed : goal.returns-clause-removed
returns-clause-removed g c =
    let m = g.B.BlockStore.blocks c.args.store.now in
    let mid = g.B.BlockStore.blocks c.place_outside.new.store in
    let n = g.B.BlockStore.blocks c.release.new.store in
    let self = c.args.self.now in
    let map = without_each (scores m self) (slice_range (ranked m self) c.args.from c.args.to) in
    let released : Changes mid n (refs_of_body self.body) [] = subst (λ (b : Body). Changes mid n (refs_of_body b) []) c.replace.ensures.value c.release.ensures.changes in
    subst (λ (b : Body). IsChanged m n self (record self { body = b }) map) (sym c.replace.ensures.after)
    (body_changed m mid n self c.in_ok-body.body map c.requires.sound c.in_ok-body.ensures.placed released (ap (tables_of m) c.in-Pack.is))

pub returns-clause-form : goal.returns-clause-form
returns-clause-form g c = subst (λ (b : Body). form_of_body b ≡ Listpack) (sym c.replace.ensures.after) c.in_ok-body.ensures.form ∙ sym (form_listpack c.args.self.now.body c.requires.packed)

pub returns-clause-served : goal.returns-clause-served
returns-clause-served g c = served_then _ _ _ c.place_outside.ensures.served c.release.ensures.served
