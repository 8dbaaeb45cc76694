use Rattle.std.proofs.Common.{◌≡◌, ◌≤◌, ◌+◌, length}
use Rattle.std.specs.Prelude.{is_some}
use Rattle.std.specs.List.{count_by}
use Rattle.plain_world.specs.Worlds.{look}
use Rattle.keyspace.specs.Commands.{seen}
use Rattle.cmd_keys.proofs.keys.asking.count_there.Given as goal

abbrev pub invariant-keys : goal.invariant-keys
invariant-keys g l =
    let world = seen l.at l.keyspace.bases (g.B.BlockStore.blocks l.keyspace.store) in
    record {
      count : l.count + count_by (λ key. is_some (look world key)) l.rest ≡ count_by (λ key. is_some (look world key)) l.keys;
      few : l.count + length l.rest ≤ length l.keys;
    }

abbrev pub decreases-keys : goal.decreases-keys
decreases-keys g l = length l.rest
