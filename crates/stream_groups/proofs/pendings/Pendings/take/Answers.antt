use Rattle.std.proofs.Common.{rules, ◌≡◌, Some, [], ◌∷◌, false, sym, ap, subst, ◌∙◌}
use Rattle.std.specs.FinMap as map
use Rattle.std.specs.Option.{option_map}
use Rattle.stream_groups.specs.Index.{Indexes, Marks}
use Rattle.stream_groups.specs.Kept.{pending_of}
use Rattle.stream_groups.proofs.Shares.{shares_without, shares_without_none}
use Rattle.stream_groups.proofs.pendings.Pendings.take.Goals as goal

pub invariant_of-self : goal.invariant_of-self
invariant_of-self c = subst (Indexes c.self.inside.index) (sym c.take.ensures.new)
    (shares_without_none c.self.inside.index c.self.inside.entries c.args.id (sym c.take.ensures.was ∙ ap (option_map pending_of) c.in-None.is) c.self.invariant)

pub invariant_of-self-in-Some : goal.invariant_of-self-in-Some
invariant_of-self-in-Some c =
    let handed = c.in-Some.handed in
    let name : c.as_slice.result.now ≡ handed.consumer.value.items = search rules in
    let found : map.get c.self.inside.entries c.args.id ≡ Some (pending_of handed) = sym c.take.ensures.was ∙ ap (option_map pending_of) c.in-Some.is in
    subst (Indexes c.take-in-Some.new.self) (sym c.take.ensures.new)
    (shares_without c.self.inside.index c.take-in-Some.new.self c.self.inside.entries c.args.id (pending_of handed) found c.self.invariant
    (subst (λ n. Marks false n (c.args.id ∷ []) c.self.inside.index c.take-in-Some.new.self) name c.take-in-Some.ensures))
