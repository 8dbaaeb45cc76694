use Rattle.std.proofs.Common.{◌≡◌, ℕ, List, drop}
use Rattle.std.specs.Prelude.{◌||◌}
use Rattle.set_object.specs.Members.{IsMembers, members}
use Rattle.plain_model.specs.SetSteps.{has, in_any}
use Rattle.keyspace.specs.Commands.{visible}
use Rattle.cmd_sets.specs.Joined.{sets_here}
use Rattle.cmd_sets.proofs.joining.add_each.Given as goal

abbrev pub invariant-loop-key : goal.invariant-loop-key
invariant-loop-key g l =
    let world = visible g.B.BlockStore.blocks l.keyspace l.at in
    let blocks = g.C.BlockStore.blocks in
    record {
      sound : IsMembers (blocks l.own) l.all;
      so_far : (name : List ℕ) → (has (members (blocks l.own) l.all) name || in_any (sets_here world (drop l.key-index l.keys)) name) ≡
          (has (members (blocks l.fn.own) l.fn.all) name || in_any (sets_here world l.keys) name);
    }
