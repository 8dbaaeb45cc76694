use Rattle.std.proofs.Common.{◌≡◌, ℕ, List, [], true, drop, get_or}
use Rattle.std.specs.Prelude.{◌&&◌}
use Rattle.set_object.specs.Strings.{set_of, IsOnce}
use Rattle.plain_model.specs.SetSteps.{has, in_all}
use Rattle.keyspace.specs.Forms.{set_at}
use Rattle.keyspace.specs.Commands.{visible}
use Rattle.cmd_sets.specs.Joined.{sets_here}
use Rattle.cmd_sets.proofs.joining.share_names.Given as goal

abbrev pub invariant-loop-index : goal.invariant-loop-index
invariant-loop-index g l =
    let world = visible g.B.BlockStore.blocks l.keyspace l.at in
    record {
      all : (name : List ℕ) → (has (set_of l.kept.items) name && in_all (sets_here world (drop l.index l.keys)) name) ≡ in_all (sets_here world l.keys) name;
      own : (name : List ℕ) → has (set_of l.kept.items) name ≡ true → has (set_at world (get_or l.keys l.one [])) name ≡ true;
      once : IsOnce l.kept.items;
    }
