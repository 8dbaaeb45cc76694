use Rattle.std.proofs.Common.{◌≡◌, ℕ, List, drop, not}
use Rattle.std.specs.Prelude.{◌&&◌}
use Rattle.set_object.specs.Strings.{set_of, IsOnce}
use Rattle.plain_model.specs.SetSteps.{has, in_any}
use Rattle.keyspace.specs.Commands.{visible}
use Rattle.cmd_sets.specs.Joined.{sets_here}
use Rattle.cmd_sets.proofs.joining.drop_each.Given as goal

abbrev pub invariant-loop-key : goal.invariant-loop-key
invariant-loop-key g l =
    let world = visible g.B.BlockStore.blocks l.keyspace l.at in
    record {
      left : (name : List ℕ) → (has (set_of l.kept.items) name && not (in_any (sets_here world (drop l.key-index l.keys)) name)) ≡
          (has (set_of l.fn.names.items) name && not (in_any (sets_here world l.keys) name));
      once : IsOnce l.kept.items;
    }
