use Rattle.std.proofs.Common.{◌≡◌, ◌-◌, ℤ, sym, ap, ◌∙◌, subst, rules, to_z, of_z, w64}
use Rattle.std.specs.Prelude.{FitsSigned}
use Rattle.std.proofs.lemmas.Int.{to_z-of_z}
use Rattle.score_list.specs.Linked.{Element, element_at}
use Rattle.score_list.proofs.towers.Towers.passes.Goals as goal

pub is_above-requires : goal.is_above-requires
is_above-requires g c = subst (g.P.Probe.compares c.args.probe.now) (sym c.element.ensures) c.requires.compares

pub returns-in-Some : goal.returns-in-Some
returns-in-Some g c =
    let e : Element = element_at c.args.self.now (c.args.link.next - 1) in
    let fits : FitsSigned w64 c.args.link.score = search rules in
    let same : to_z w64 (of_z w64 c.args.link.score) ≡ e.0 = to_z-of_z w64 c.args.link.score fits ∙ c.requires.score in
    sym (c.in-Some.ensures e.1) ∙ ap (λ (n : ℤ). g.P.Probe.above c.args.probe.now (n, e.1)) same

pub returns-in-None : goal.returns-in-None
returns-in-None g c = c.is_above.ensures ∙ ap (g.P.Probe.above c.args.probe.now) c.element.ensures
