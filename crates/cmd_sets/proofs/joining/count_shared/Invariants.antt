use Rattle.std.proofs.Common.{◌≡◌, ◌<◌, ◌≤◌, ◌+◌, length}
use Rattle.std.specs.List.{filter}
use Rattle.plain_model.specs.SetSteps.{in_all}
use Rattle.keyspace.specs.Commands.{visible}
use Rattle.cmd_sets.specs.Joined.{sets_here}
use Rattle.cmd_sets.proofs.joining.count_shared.Given as goal

abbrev pub invariant-names : goal.invariant-names
invariant-names g l =
    let test = in_all (sets_here (visible g.B.BlockStore.blocks l.keyspace l.at) l.keys) in
    record {
      sum : l.count + length (filter test l.rest.items) ≡ length (filter test l.fn.names.items);
      below : 0 < l.limit → l.count < l.limit;
      most : l.count + length l.rest.items ≤ length l.fn.names.items;
    }

abbrev pub decreases-names : goal.decreases-names
decreases-names g l = length l.rest.items
