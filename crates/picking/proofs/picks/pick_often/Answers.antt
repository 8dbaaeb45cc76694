use Rattle.std.proofs.Common.{◌≡◌, inl, inr, ℕ, ◌+◌, List, [], ◌∷◌, ◌++◌, ap, ◌∙◌, subst, length, length-append, arith}
use Rattle.std.specs.List.{Contains}
use Rattle.std.proofs.lemmas.List.Elements.{Contains-push_cases}
use Rattle.blocks.specs.Blocks.{Blocks}
use Rattle.picking.specs.Picks.{IsThere}
use Rattle.picking.proofs.picks.pick_often.Goals as goal

pub loop-preserved : goal.loop-preserved
loop-preserved g c =
    let sound : Blocks → Type 0 = λ m. g.P.Items.is_sound m c.args.items.now in
    let has : Blocks → ℕ → Type 0 = λ m item. g.P.Items.has_item m c.args.items.now item in
    let there : IsThere sound has c.in-Some.item = rw c.in-Some.is at c.in_ok-item.ensures in
    let pushed : c.push.new.self.items ≡ c.loop.drawn.items ++ c.in-Some.item ∷ [] = c.in_ok-push-in-Some.ensures.items in
    let more : length c.push.new.self.items ≡ length c.loop.drawn.items + 1 = ap length pushed ∙ length-append c.loop.drawn.items (c.in-Some.item ∷ []) in
    record {
      many = omega (arith, more, c.loop.invariant.many);
      real = λ at k. elim (Contains-push_cases c.loop.drawn.items c.in-Some.item at (subst (λ (l : List ℕ). Contains l at) pushed k)) [
        | inl before ↦ c.loop.invariant.real at before
        | inr same ↦ subst (λ (i : ℕ). IsThere sound has i) same there
      ];
    }
