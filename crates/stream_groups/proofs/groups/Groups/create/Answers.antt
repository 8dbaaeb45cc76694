use Rattle.std.proofs.Common.{not, is_some, sym, ap, ◌∙◌}
use Rattle.std.proofs.lemmas.Bool.{cond-true, cond-false}
use Rattle.std.specs.FinMap.{insert}
use Rattle.stream_groups.proofs.Uses.{group_found, named_insert}
use Rattle.stream_groups.proofs.groups.Groups.create.Goals as goal

pub returns-then-contains_key-clause-made : goal.returns-then-contains_key-clause-made
returns-then-contains_key-clause-made c = ap not
    (sym c.if-contains_key.true ∙ c.contains_key.ensures ∙ ap is_some (group_found c.self.inside.groups.entries c.args.self.now c.args.name.now c.self.invariant c.self.view_is))

pub returns-then-contains_key-clause-ok : goal.returns-then-contains_key-clause-ok
returns-then-contains_key-clause-ok c = sym
    (cond-true _ _ _
    (sym (ap is_some (group_found c.self.inside.groups.entries c.args.self.now c.args.name.now c.self.invariant c.self.view_is)) ∙ sym c.contains_key.ensures ∙ c.if-contains_key.true))

pub returns-clause-made : goal.returns-clause-made
returns-clause-made c = ap not
    (sym c.if-contains_key.false ∙ c.contains_key.ensures ∙ ap is_some (group_found c.self.inside.groups.entries c.args.self.now c.args.name.now c.self.invariant c.self.view_is))

pub returns-clause-ok : goal.returns-clause-ok
returns-clause-ok c =
    named_insert (λ g. g) c.self.inside.groups.entries c.self.invariant c.insert.new.self.entries c.insert.ensures.ordered c.in_ok-key.key c.new.result c.in_ok-insert.ensures.entries
    ∙ ap (λ m. insert m c.in_ok-key.key.items c.new.result) c.self.view_is
    ∙ ap (λ name. insert c.args.self.now name c.new.result) c.in_ok-key.ensures.items
    ∙ ap (insert c.args.self.now c.args.name.now) c.new.ensures
    ∙ sym
    (cond-false _ _ _
    (sym (ap is_some (group_found c.self.inside.groups.entries c.args.self.now c.args.name.now c.self.invariant c.self.view_is)) ∙ sym c.contains_key.ensures
    ∙ c.if-contains_key.false))
