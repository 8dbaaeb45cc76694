use Rattle.std.proofs.Common.{◌≡◌, ℕ, suc, ◌+◌, ◌<◌, ◌≤◌, rules, ap, ◌∙◌, ltb-true, ltb-false, arith, w64}
use Rattle.std.specs.Prelude.{FitsSigned}
use Rattle.std.proofs.lemmas.Int.{to_z-of_z}
use Rattle.score_list.specs.declared.towers.Link.{Link}
use Rattle.score_list.specs.declared.towers.Towers.{Towers}
use Rattle.score_list.specs.Linked.{score_at, height_at, SetsLink, UnhangsScore}
use Rattle.score_list.proofs.towers.Towers.unhang.Goals as goal

-- the owner's link goes on as the tower's did
leaves_score : (t t' : Towers) (level key owner : ℕ) (past : Link) → SetsLink t t' level owner past → past.score ≡ score_at t level (suc key) → level < height_at t key
    → UnhangsScore t t' level key owner
leaves_score t t' level key owner past set kept high = record {
  others = λ p a. ap (λ l. l.score) (set.other_owners level p a);
  leaves = λ e. ap (λ l. l.score) set.set_here ∙ kept;
  low = λ e. absurd (omega (arith, ltb-false level (height_at t key) e, high));
}

-- a link passed over the tower
passed_score : (t t' : Towers) (level key owner : ℕ) (over : Link) → SetsLink t t' level owner over → over.score ≡ score_at t level owner → height_at t key ≤ level → UnhangsScore t t' level key owner
passed_score t t' level key owner over set kept low = record {
  others = λ p a. ap (λ l. l.score) (set.other_owners level p a);
  leaves = λ e. absurd (omega (arith, ltb-true level (height_at t key) e, low));
  low = λ e. ap (λ l. l.score) set.set_here ∙ kept;
}

pub returns-then-level-height-clause-score : goal.returns-then-level-height-clause-score
returns-then-level-height-clause-score c =
    let on : FitsSigned w64 c.link-on.result.score = search rules in
    let one : c.args.key + 1 ≡ suc c.args.key = omega arith in
    leaves_score c.args.self.now c.set_link.new.self c.args.level c.args.key c.args.owner _ c.set_link.ensures
    (to_z-of_z w64 c.link-on.result.score on ∙ ap (λ l. l.score) c.link-on.ensures ∙ ap (score_at c.args.self.now c.args.level) one) (omega (arith, c.height.ensures, c.if-level-height.true))

pub returns-else-level-height-clause-score : goal.returns-else-level-height-clause-score
returns-else-level-height-clause-score c =
    let link : FitsSigned w64 c.link-link.result.score = search rules in
    passed_score c.args.self.now c.set_link-else-level-height.new.self c.args.level c.args.key c.args.owner _ c.set_link-else-level-height.ensures
    (to_z-of_z w64 c.link-link.result.score link ∙ ap (λ l. l.score) c.link-link.ensures) (omega (arith, c.height.ensures, c.if-level-height.false))
