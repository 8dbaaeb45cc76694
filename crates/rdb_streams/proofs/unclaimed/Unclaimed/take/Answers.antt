use Rattle.std.proofs.Common.{ap, ◌∙◌}
use Rattle.std.specs.Option.{option_map}
use Rattle.std.specs.FinMap as map
use Rattle.rdb_grammar.specs.Views.{handed_of}
use Rattle.stream_groups.proofs.Uses.{numbered_remove}
use Rattle.rdb_streams.proofs.Claims.{claim_found}
use Rattle.rdb_streams.proofs.unclaimed.Unclaimed.take.Goals as goal

pub returns-clause-value : goal.returns-clause-value
returns-clause-value c =
    ap (option_map handed_of) c.remove.ensures.value ∙ claim_found c.self.inside.entries.entries c.args.self.now c.self.invariant c.self.view_is c.pair.result
    ∙ ap (map.get c.args.self.now) c.pair.ensures

pub returns-clause-new : goal.returns-clause-new
returns-clause-new c =
    numbered_remove handed_of c.self.inside.entries.entries c.self.invariant c.remove.new.self.entries c.remove.ensures.ordered c.pair.result c.remove.ensures.entries
    ∙ ap (λ m. map.remove m c.pair.result) c.self.view_is ∙ ap (map.remove c.args.self.now) c.pair.ensures
