use Rattle.std.proofs.Common.{◌≡◌, refl, sym, ap, ◌∙◌, length, arith}
use Rattle.std.specs.FinMap.{len}
use Rattle.zset_object.specs.Scored.{scores, ranked, form_of}
use Rattle.plain_model.specs.ZsetSteps.{within}
use Rattle.plain_model.specs.ZsetSteps as model
use Rattle.cmd_zsets.proofs.Ranked.{ranked_is, ranked_counted}
use Rattle.cmd_zsets.proofs.Popped.{part_gone, span_length}
use Rattle.cmd_zsets.proofs.popping.DropScoresZsetEdit.edit_zset.Goals as goal

pub returns-clause-makes : goal.returns-clause-makes
returns-clause-makes g c =
    let m = g.B.BlockStore.blocks c.args.store.now in
    let after = g.B.BlockStore.blocks c.take_span.new.store in
    let self = c.args.self.now in
    let zset = c.args.zset.now in
    let span = c.by_score-span.result in
    let list = model.ranked (scores m zset) in
    let range = c.by_score-span.ensures.range in
    part_gone (scores m zset) (scores after c.take_span.new.zset) (form_of zset) (form_of c.take_span.new.zset) (ranked m zset) (ranked_is m zset c.requires.sound) c.take_span.ensures.form
    (within self.min self.max) span.from span.start span.count _ refl
    (span_length span.from list (within self.min self.max list) span.start span.count (omega (arith, c.by_score-span.ensures.inside, ranked_counted m zset c.requires.sound)) range)
    range c.take_span.result c.take_span.ensures.is
