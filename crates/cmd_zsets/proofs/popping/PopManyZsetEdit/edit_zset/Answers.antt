use Rattle.std.proofs.Common.{◌≡◌, refl, sym, ap, ◌∙◌, min, length, rules}
use Rattle.std.specs.FinMap.{len}
use Rattle.blocks.specs.Blocks.{no_step}
use Rattle.blocks.proofs.Change.{changes_same}
use Rattle.zset_object.specs.Scored.{scores, ranked, form_of}
use Rattle.zset_object.proofs.Depends.{scored_laws_hold}
use Rattle.cmd_zsets.proofs.Ranked.{ranked_is}
use Rattle.cmd_zsets.proofs.Popped.{many_popped}
use Rattle.cmd_zsets.proofs.popping.PopManyZsetEdit.edit_zset.Goals as goal

pub returns-clause-makes : goal.returns-clause-makes
returns-clause-makes g c =
    let m = g.B.BlockStore.blocks c.args.store.now in
    let after = g.B.BlockStore.blocks c.take_span.new.store in
    let self = c.args.self.now in
    let zset = c.args.zset.now in
    let size : c.len.result ≡ length (ranked m zset) = c.len.ensures m c.requires.sound ∙ sym (scored_laws_hold.counted m zset c.requires.sound) in
    many_popped (scores m zset) (scores after c.take_span.new.zset) (form_of zset) (form_of c.take_span.new.zset) (ranked m zset) (ranked_is m zset c.requires.sound) c.take_span.ensures.form
    self.from c.min.result self.most _ _ (c.min.ensures ∙ ap (λ n. min n self.most) size) refl c.in_ok-span_reply.ensures c.take_span.result c.take_span.ensures.is

pub returns-in_err-span_reply-clause-served : goal.returns-in_err-span_reply-clause-served
returns-in_err-span_reply-clause-served g c = no_step

pub returns-in_err-span_reply-clause-grown : goal.returns-in_err-span_reply-clause-grown
returns-in_err-span_reply-clause-grown g c = no_step
