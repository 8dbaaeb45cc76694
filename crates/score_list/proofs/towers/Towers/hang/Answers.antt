use Rattle.std.proofs.Common.{◌≡◌, ◌≢◌, ℕ, suc, ◌+◌, ◌<◌, ◌≤◌, rules, sym, ap, ◌∙◌, subst, ltb-true, ltb-false, arith, w64}
use Rattle.std.specs.Prelude.{FitsSigned}
use Rattle.std.proofs.lemmas.Int.{to_z-of_z}
use Rattle.score_list.specs.declared.towers.Link.{Link}
use Rattle.score_list.specs.declared.towers.Towers.{Towers}
use Rattle.score_list.specs.Linked.{Element, link_at, score_at, score_of, height_at, SetsLink, HangsScore}
use Rattle.score_list.proofs.towers.Towers.hang.Goals as goal

-- the tower's link goes on as the owner's did, and the owner's leads to the tower
joins_score : (t m t' : Towers) (level key owner over : ℕ) (on to : Link) → SetsLink t m level over on → SetsLink m t' level owner to → over ≡ suc key → owner ≢ suc key
    → on.score ≡ score_at t level owner → to.score ≡ score_of t key → level < height_at t key → HangsScore t t' level key owner
joins_score t m t' level key owner over on to first second is apart kept own high = record {
  others = λ p a b. ap (λ (l : Link). l.score) (second.other_owners level p a ∙ first.other_owners level p (λ q. b (q ∙ is)));
  joins = λ e. (
    ap (λ l. l.score) second.set_here ∙ own,
    ap (λ (l : Link). l.score) (second.other_owners level (suc key) (λ q. apart (sym q)) ∙ subst (λ o. link_at m level o ≡ on) is first.set_here) ∙ kept,
  );
  low = λ e. absurd (omega (arith, ltb-false level (height_at t key) e, high));
}

-- a link passes over the tower
passes_score : (t t' : Towers) (level key owner : ℕ) (over : Link) → SetsLink t t' level owner over → over.score ≡ score_at t level owner → height_at t key ≤ level → HangsScore t t' level key owner
passes_score t t' level key owner over set kept low = record {
  others = λ p a b. ap (λ l. l.score) (set.other_owners level p a);
  joins = λ e. absurd (omega (arith, ltb-true level (height_at t key) e, low));
  low = λ e. ap (λ l. l.score) set.set_here ∙ kept;
}

pub returns-then-level-height-clause-score : goal.returns-then-level-height-clause-score
returns-then-level-height-clause-score c =
    let link : FitsSigned w64 c.link-link.result.score = search rules in
    let score : FitsSigned w64 c.element-score.result.0 = search rules in
    joins_score c.args.self.now c.set_link.new.self c.set_link-then-level-height.new.self c.args.level c.args.key c.args.owner (c.args.key + 1) _ _ c.set_link.ensures
    c.set_link-then-level-height.ensures (omega arith) c.requires.apart (to_z-of_z w64 c.link-link.result.score link ∙ ap (λ l. l.score) c.link-link.ensures)
    (to_z-of_z w64 c.element-score.result.0 score ∙ ap (λ (e : Element). e.0) c.element-score.ensures) (omega (arith, c.height.ensures, c.if-level-height.true))

pub returns-else-level-height-clause-score : goal.returns-else-level-height-clause-score
returns-else-level-height-clause-score c =
    let link : FitsSigned w64 c.link-link.result.score = search rules in
    passes_score c.args.self.now c.set_link-else-level-height.new.self c.args.level c.args.key c.args.owner _ c.set_link-else-level-height.ensures
    (to_z-of_z w64 c.link-link.result.score link ∙ ap (λ l. l.score) c.link-link.ensures) (omega (arith, c.height.ensures, c.if-level-height.false))
