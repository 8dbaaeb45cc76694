use Rattle.std.proofs.Common.{◌≡◌, ◌++◌, drop, map, flat_map}
use Rattle.std.specs.List.{list_any}
use Rattle.keyspace.specs.Commands.{visible}
use Rattle.cmd_streams.specs.Several.{read_parts, is_other_at, told_at}
use Rattle.cmd_streams.proofs.several.gather.Given as goal

abbrev pub invariant-loop-one : goal.invariant-loop-one
invariant-loop-one g l =
    let world = visible g.B.BlockStore.blocks l.keyspace l.at in
    record {
      none : list_any (is_other_at world) (drop l.one-index l.asked) ≡ list_any (is_other_at world) l.asked;
      so_far : map read_parts l.found.items ++ flat_map (told_at world l.limit) (drop l.one-index l.asked) ≡ map read_parts l.fn.found.items ++ flat_map (told_at world l.limit) l.asked;
    }
