use Rattle.std.proofs.Common.{rules, ◌≡◌, FitsSigned, int_lt, false, sym, ◌∙◌, arith}
use Rattle.std.specs.Int.{w64}
use Rattle.std.proofs.lemmas.Int.{ints}
use Rattle.zset_object.specs.Scored.{scores}
use Rattle.plain_model.specs.ZsetSteps.{ranked}
use Rattle.cmd_zsets.proofs.Ranked.{ranked_is, ranked_counted}
use Rattle.cmd_zsets.proofs.Bounded.{count_highest, count_next_in}
use Rattle.cmd_zsets.proofs.ranges.up_to.Goals as goal

pub returns-then-most-lt9223372036854775807 : goal.returns-then-most-lt9223372036854775807
returns-then-most-lt9223372036854775807 g c =
    let m = g.B.BlockStore.blocks c.args.store.now in
    let s = c.args.zset.now in
    count_next_in c.args.most _ _ (ranked (scores m s)) c.below.result (omega (arith, ints, c.ranges.most, c.if-most-lt9223372036854775807.true)) (ranked_is m s c.requires.sound) c.below.ensures

pub returns-in-Some : goal.returns-in-Some
returns-in-Some g c =
    let m = g.B.BlockStore.blocks c.args.store.now in
    let s = c.args.zset.now in
    let fits : FitsSigned w64 c.in-Some.field-0 = search rules in
    let le : int_lt c.args.most c.in-Some.field-0 ≡ false = grind (arith, ints, c.if-most-lt9223372036854775807.false, c.ranges.most, fits) in
    c.len.ensures m c.requires.sound ∙ sym (ranked_counted m s c.requires.sound) ∙ count_highest c.in-Some.field-0 c.args.most (ranked (scores m s)) le c.in-Some.ensures
