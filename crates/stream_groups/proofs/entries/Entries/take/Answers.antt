use Rattle.std.proofs.Common.{ap, ◌∙◌}
use Rattle.std.specs.Option.{option_map}
use Rattle.std.specs.FinMap as map
use Rattle.stream_groups.specs.Kept.{pending_of}
use Rattle.stream_groups.proofs.Uses.{pending_found, numbered_remove}
use Rattle.stream_groups.proofs.entries.Entries.take.Goals as goal

pub returns-clause-was : goal.returns-clause-was
returns-clause-was c = ap (option_map pending_of) c.remove.ensures.value ∙ pending_found c.self.inside.entries.entries c.args.self.now c.args.id c.self.invariant c.self.view_is

pub returns-clause-new : goal.returns-clause-new
returns-clause-new c = numbered_remove pending_of c.self.inside.entries.entries c.self.invariant c.remove.new.self.entries c.remove.ensures.ordered c.args.id c.remove.ensures.entries
    ∙ ap (λ m. map.remove m c.args.id) c.self.view_is
