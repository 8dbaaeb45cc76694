use Rattle.std.proofs.Common.{rules, ◌≡◌, [], ◌∷◌, false, sym, subst, ◌∙◌}
use Rattle.std.specs.Option.{option_map}
use Rattle.stream_groups.specs.Index.{Marks, Leaves}
use Rattle.stream_groups.specs.Kept.{pending_of}
use Rattle.stream_groups.proofs.Indexing.{former_left, former_kept}
use Rattle.stream_groups.proofs.index.Index.leave.Goals as goal

pub returns-then-not-is_named : goal.returns-then-not-is_named
returns-then-not-is_named c =
    let name : c.as_slice.result.now ≡ c.in-Some.former.consumer.value.items = search rules in
    subst (λ o. Leaves c.args.name.now (c.args.id ∷ []) (option_map pending_of o ∷ []) c.args.self.now c.take.new.self) (sym c.in-Some.is)
    (former_left c.args.name.now c.args.id (pending_of c.in-Some.former) c.args.self.now c.take.new.self (sym c.is_named.ensures ∙ c.if-not-is_named.true)
    (subst (λ n. Marks false n (c.args.id ∷ []) c.args.self.now c.take.new.self) name c.take.ensures))

pub returns-else-not-is_named : goal.returns-else-not-is_named
returns-else-not-is_named c =
    subst (λ o. Leaves c.args.name.now (c.args.id ∷ []) (option_map pending_of o ∷ []) c.args.self.now c.args.self.now) (sym c.in-Some.is)
    (former_kept c.args.name.now c.args.id (pending_of c.in-Some.former) c.args.self.now (sym c.is_named.ensures ∙ c.if-not-is_named.false))
