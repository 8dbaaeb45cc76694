use Rattle.std.proofs.Common.{ap, ◌∙◌}
use Rattle.std.specs.FinMap.{contains_key}
use Rattle.stream_groups.specs.Groups.{Id}
use Rattle.rdb_streams.proofs.Claims.{claim_there}
use Rattle.rdb_streams.proofs.unclaimed.Unclaimed.contains.Goals as goal

pub returns : goal.returns
returns c =
    c.contains_key.ensures ∙ claim_there c.self.inside.entries.entries c.args.self.now c.self.invariant c.self.view_is c.pair.result
    ∙ ap (λ (id : Id). contains_key c.args.self.now id) c.pair.ensures
