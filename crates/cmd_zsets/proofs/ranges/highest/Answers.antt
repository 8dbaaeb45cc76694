use Rattle.std.proofs.Common.{rules, ◌+◌, ◌-◌, ◌≡◌, ℤ, FitsSigned, length, slice_get, sym, ap, subst, ◌∙◌, arith}
use Rattle.std.specs.Int.{w64}
use Rattle.std.proofs.lemmas.Int.{to_z-of_z}
use Rattle.cmd_zsets.specs.Spans.{EachUpTo}
use Rattle.listpack.specs.Element.{element_text}
use Rattle.zset_object.specs.Scored.{scores}
use Rattle.plain_model.specs.ZsetSteps.{ranked}
use Rattle.cmd_zsets.proofs.Ranked.{ranked_is, ranked_counted, model_ranking}
use Rattle.cmd_zsets.proofs.Told.{none_long}
use Rattle.cmd_zsets.proofs.Bounded.{highest_is}
use Rattle.cmd_zsets.proofs.ranges.highest.Goals as goal

pub returns-then-len-eq0 : goal.returns-then-len-eq0
returns-then-len-eq0 g c =
    let m = g.B.BlockStore.blocks c.args.store.now in
    let s = c.args.zset.now in
    none_long (ranked (scores m s)) (omega (arith, ranked_counted m s c.requires.sound, c.len-len.ensures m c.requires.sound, c.if-len-eq0.true))

pub returns : goal.returns
returns g c =
    let m = g.B.BlockStore.blocks c.args.store.now in
    let s = c.args.zset.now in
    let map = scores m s in
    let last = c.len-len.result - 1 in
    let long : last + 1 ≡ length (ranked map) = omega (arith, ranked_counted m s c.requires.sound, c.len-len.ensures m c.requires.sound, c.if-len-eq0.false) in
    let score = c.in-Some.score in
    let fits : FitsSigned w64 score = search rules in
    subst (λ (n : ℤ). EachUpTo n (ranked map)) (sym (to_z-of_z w64 score fits))
    (highest_is (ranked map) last (score, element_text c.in-Some.field-0-0) (model_ranking map).ordered long
    (ap (λ (l : _). slice_get l last) (sym (ranked_is m s c.requires.sound)) ∙ c.in-Some.ensures))
