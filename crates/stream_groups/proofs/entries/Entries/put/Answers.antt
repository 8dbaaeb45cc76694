use Rattle.std.proofs.Common.{ap, ◌∙◌}
use Rattle.std.specs.Option.{option_map}
use Rattle.std.specs.FinMap as map
use Rattle.stream_groups.specs.declared.entries.Handed.{Handed}
use Rattle.stream_groups.specs.Kept.{pending_of}
use Rattle.stream_groups.proofs.Uses.{pending_found, numbered_insert}
use Rattle.stream_groups.proofs.entries.Entries.put.Goals as goal

pub returns-clause-was : goal.returns-clause-was
returns-clause-was c = ap (option_map pending_of) c.in_ok-insert.ensures.old ∙ pending_found c.self.inside.entries.entries c.args.self.now c.args.id c.self.invariant c.self.view_is

pub returns-clause-ok : goal.returns-clause-ok
returns-clause-ok c =
    let handed : Handed = record { consumer = c.in_ok-clone.field-0; moment = c.args.moment; count = c.args.count } in
    numbered_insert pending_of c.self.inside.entries.entries c.self.invariant c.insert.new.self.entries c.in_ok-insert.ensures.ordered c.args.id handed c.in_ok-insert.ensures.entries
    ∙ ap (λ m. map.insert m c.args.id (pending_of handed)) c.self.view_is
    ∙ ap (λ v. map.insert c.args.self.now c.args.id (record { consumer = v.items; moment = c.args.moment; count = c.args.count })) c.in_ok-clone.ensures.cases
