use Rattle.std.proofs.Common.{rules, ◌≡◌, ℤ, FitsSigned, int_lt, count_by, sym, subst, ◌∙◌}
use Rattle.std.specs.Int.{w64}
use mir.Val.{to_z, of_z}
use Rattle.std.proofs.lemmas.Int.{to_z-of_z}
use Rattle.zset_object.specs.Scored.{scores}
use Rattle.plain_model.specs.ZsetSteps.{Scored, ranked, is_below}
use Rattle.cmd_zsets.proofs.Ranked.{ranked_is, ranked_counted}
use Rattle.cmd_zsets.proofs.Bounded.{count_never, count_ever}
use Rattle.cmd_zsets.proofs.ranges.up_to_bound.Goals as goal

pub returns-in-Lowest : goal.returns-in-Lowest
returns-in-Lowest g c =
    let list = ranked (scores (g.B.BlockStore.blocks c.args.store.now) c.args.zset.now) in
    subst (λ b. 0 ≡ count_by (λ (x : Scored). is_below b x.0) list) (sym c.in-Lowest.is) (count_never list)

pub returns-in-Excluding : goal.returns-in-Excluding
returns-in-Excluding g c =
    let m = g.B.BlockStore.blocks c.args.store.now in
    let s = c.args.zset.now in
    let list = ranked (scores m s) in
    let above = c.in-Excluding.above in
    let fits : FitsSigned w64 above = search rules in
    let counted : c.below.result ≡ count_by (λ (x : Scored). int_lt x.0 above) list =
    subst (λ (n : ℤ). c.below.result ≡ count_by (λ (x : Scored). int_lt x.0 n) list) (to_z-of_z w64 above fits)
    (subst (λ l. c.below.result ≡ count_by (λ (x : Scored). int_lt x.0 (to_z w64 (of_z w64 above))) l) (ranked_is m s c.requires.sound) c.below.ensures) in
    subst (λ b. c.below.result ≡ count_by (λ (x : Scored). is_below b x.0) list) (sym c.in-Excluding.is) counted

pub returns-in-Highest : goal.returns-in-Highest
returns-in-Highest g c =
    let m = g.B.BlockStore.blocks c.args.store.now in
    let s = c.args.zset.now in
    let list = ranked (scores m s) in
    subst (λ b. c.len.result ≡ count_by (λ (x : Scored). is_below b x.0) list) (sym c.in-Highest.is)
    (c.len.ensures m c.requires.sound ∙ sym (ranked_counted m s c.requires.sound) ∙ count_ever list)
