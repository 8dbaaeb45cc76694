use Rattle.std.proofs.Common.{ℤ, ◌+◌, ◌<◌, refl, sym, ap, subst, arith, to_z, of_z, w64}
use Rattle.std.proofs.lemmas.Int.{to_z-of_z}
use Rattle.score_list.specs.Linked.{owner_on, RescoresLinks}
use Rattle.score_list.proofs.Rescoring.{links_kept, rescoring_begins, rescoring_on, all_rescored}
use Rattle.score_list.proofs.towers.Towers.rescore_links.Goals as goal

pub loop-level-init : goal.loop-level-init
loop-level-init c = rescoring_begins c.args.self.now c.args.path.now (to_z w64 (of_z w64 c.args.score))

pub link-link-requires : goal.link-link-requires
link-link-requires c =
    let low : c.loop-level.level < 16 = omega (arith, c.loop-level-test.true, c.min-high.ensures) in
    subst (λ n. c.loop-level.level < n) (sym (links_kept c.args.self.now c.loop-level.self c.loop-level.invariant.keeps (owner_on c.args.path.now c.loop-level.level)))
    (c.requires c.loop-level.level low)

pub set_link-requires : goal.set_link-requires
set_link-requires c =
    let low : c.loop-level.level < 16 = omega (arith, c.loop-level-test.true, c.min-high.ensures) in
    subst (λ n. c.loop-level.level < n) (sym (links_kept c.args.self.now c.loop-level.self c.loop-level.invariant.keeps (owner_on c.args.path.now c.loop-level.level)))
    (c.requires c.loop-level.level low)

pub loop-level-preserved : goal.loop-level-preserved
loop-level-preserved c =
    rescoring_on c.args.self.now c.loop-level.self c.set_link.new.self c.args.path.now (to_z w64 (of_z w64 c.args.score)) c.loop-level.level _ c.set_link.ensures c.loop-level.invariant
    (c.loop-level.level + 1) (omega arith) (ap (λ l. l.next) c.link-link.ensures) (ap (λ l. l.span) c.link-link.ensures) refl

pub returns : goal.returns
returns c = subst (λ (n : ℤ). RescoresLinks c.args.self.now c.loop-level.self c.args.key c.args.path.now n) (to_z-of_z w64 c.args.score c.ranges.score)
    (all_rescored c.args.self.now c.loop-level.self c.args.key c.args.path.now (to_z w64 (of_z w64 c.args.score)) c.loop-level.level c.loop-level.invariant
    (omega (arith, c.loop-level.auto.level-end, c.min-high.ensures, c.height-height.ensures)) (λ l high low. omega (arith, c.loop-level-test.false, c.min-high.ensures, c.height-height.ensures)))
