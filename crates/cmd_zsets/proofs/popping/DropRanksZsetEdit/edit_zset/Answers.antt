use Rattle.std.proofs.Common.{◌≡◌, rules, FitsSigned, refl, sym, ap, ◌∙◌, length, arith}
use Rattle.std.specs.Int.{w64}
use Rattle.std.proofs.lemmas.Int.{to_z-of_z}
use Rattle.std.specs.FinMap.{len}
use Rattle.zset_object.specs.Scored.{scores, ranked, form_of}
use Rattle.plain_model.specs.ZsetSteps as model
use Rattle.plain_model.specs.ListSteps.{list_range}
use Rattle.cmd_zsets.proofs.Ranked.{ranked_is, ranked_counted}
use Rattle.cmd_zsets.proofs.Popped.{part_gone, span_length}
use Rattle.cmd_zsets.proofs.popping.DropRanksZsetEdit.edit_zset.Goals as goal

pub returns-clause-makes : goal.returns-clause-makes
returns-clause-makes g c =
    let m = g.B.BlockStore.blocks c.args.store.now in
    let after = g.B.BlockStore.blocks c.take_span.new.store in
    let self = c.args.self.now in
    let zset = c.args.zset.now in
    let span = c.by_rank-span.result in
    let list = model.ranked (scores m zset) in
    let size : c.len.result ≡ length list = c.len.ensures m c.requires.sound ∙ sym (ranked_counted m zset c.requires.sound) in
    let a : FitsSigned w64 self.a = search rules in
    let b : FitsSigned w64 self.b = search rules in
    let range = rw (to_z-of_z w64 self.a a, to_z-of_z w64 self.b b) at c.by_rank-span.ensures.range list (sym size) in
    part_gone (scores m zset) (scores after c.take_span.new.zset) (form_of zset) (form_of c.take_span.new.zset) (ranked m zset) (ranked_is m zset c.requires.sound) c.take_span.ensures.form
    (λ l. list_range l self.a self.b) span.from span.start span.count _ refl
    (span_length span.from list (list_range list self.a self.b) span.start span.count (omega (arith, c.by_rank-span.ensures.inside, size)) range) range c.take_span.result
    c.take_span.ensures.is
