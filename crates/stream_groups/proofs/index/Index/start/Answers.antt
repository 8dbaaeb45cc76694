use Rattle.std.proofs.Common.{ap, ◌∙◌}
use Rattle.std.specs.FinMap as map
use Rattle.stream_groups.specs.Index.{IdSet}
use Rattle.stream_groups.proofs.Uses.{named_insert}
use Rattle.stream_groups.proofs.Indexing.{some_put, some_put_in}
use Rattle.stream_groups.proofs.index.Index.start.Goals as goal

pub returns-clause-ok : goal.returns-clause-ok
returns-clause-ok c =
    named_insert (λ (ids : IdSet). ids) c.self.inside.sets.entries c.self.invariant.0 c.insert.new.self.entries c.in_ok-insert.ensures.ordered c.in_ok-key.key c.add.new.self c.in_ok-insert.ensures.entries
    ∙ ap (λ m. map.insert m c.in_ok-key.key.items c.add.new.self) c.self.view_is
    ∙ ap (λ n. map.insert c.args.self.now n c.add.new.self) c.in_ok-key.ensures.items
    ∙ ap (map.insert c.args.self.now c.args.name.now) (c.in_ok-add.ensures.ok ∙ ap (λ m. map.insert m c.args.id tt) c.new-ids.ensures)

pub invariant_of-self-2 : goal.invariant_of-self-2
invariant_of-self-2 c = (
  c.in_ok-insert.ensures.ordered,
  some_put _ _ c.in_ok-key.key.items c.add.new.self c.self.invariant.1
      (named_insert (λ (ids : IdSet). ids) c.self.inside.sets.entries c.self.invariant.0 c.insert.new.self.entries c.in_ok-insert.ensures.ordered c.in_ok-key.key c.add.new.self c.in_ok-insert.ensures.entries)
      (some_put_in c.new-ids.result c.add.new.self c.args.id c.in_ok-add.ensures.ok),
)
