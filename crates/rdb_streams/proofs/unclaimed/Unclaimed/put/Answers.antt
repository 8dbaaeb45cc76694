use Rattle.std.proofs.Common.{ap, ◌∙◌}
use Rattle.std.specs.FinMap as map
use Rattle.rdb_grammar.specs.Views.{handed_of}
use Rattle.stream_groups.specs.Groups.{Id}
use Rattle.stream_groups.proofs.Uses.{numbered_insert}
use Rattle.rdb_streams.proofs.unclaimed.Unclaimed.put.Goals as goal

pub returns-clause-ok : goal.returns-clause-ok
returns-clause-ok c =
    numbered_insert handed_of c.self.inside.entries.entries c.self.invariant c.insert.new.self.entries c.in_ok-insert.ensures.ordered c.pair.result c.args.handed c.in_ok-insert.ensures.entries
    ∙ ap (λ m. map.insert m c.pair.result (handed_of c.args.handed)) c.self.view_is
    ∙ ap (λ (id : Id). map.insert c.args.self.now id (handed_of c.args.handed)) c.pair.ensures
