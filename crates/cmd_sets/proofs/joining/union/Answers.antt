use Rattle.std.proofs.Common.{List, ℕ, sym, ap, subst, ◌∙◌}
use Rattle.std.specs.Prelude.{◌||◌}
use Rattle.blocks.specs.Plain.{plain_blocks}
use Rattle.set_object.specs.Strings.{set_of, IsOnce}
use Rattle.set_object.proofs.Sets.{has_empty}
use Rattle.set_object.proofs.Listed.{arranged}
use Rattle.plain_model.specs.SetSteps.{Members, has, in_any}
use Rattle.keyspace.specs.Commands.{visible}
use Rattle.cmd_sets.specs.Joined.{sets_here}
use Rattle.cmd_sets.proofs.Gathered.{if_as}
use Rattle.cmd_sets.proofs.Joined.{union_is}
use Rattle.cmd_sets.proofs.joining.union.Goals as goal

pub add_each-requires-clause-all : goal.add_each-requires-clause-all
add_each-requires-clause-all g c = c.new-all.ensures.sound _

pub returns-clause-join : goal.returns-clause-join
returns-clause-join g c =
    let own = sets_here (visible g.B.BlockStore.blocks c.args.keyspace.now c.args.at.now) c.args.keys.now in
    let all = arranged _ c.add_each.new.all c.in_ok-add_each.ensures.sound in
    if_as c.names_of.result
    (λ names is. union_is own (set_of names.items) (λ q.
    ap (λ (l : List (List ℕ)). has (set_of l) q) is ∙ ap (λ (s : Members). has s q) all.listed_are ∙ c.in_ok-add_each.ensures.members q
    ∙ ap (λ (s : Members). has s q || in_any own q) (c.new-all.ensures.empty (plain_blocks c.new-own.result)) ∙ ap (λ b. b || in_any own q) (has_empty q)))
    c.names_of.ensures

pub returns-clause-once : goal.returns-clause-once
returns-clause-once g c =
    let all = arranged _ c.add_each.new.all c.in_ok-add_each.ensures.sound in
    if_as c.names_of.result (λ names is. subst IsOnce (sym is) all.once) c.names_of.ensures
