use Rattle.std.proofs.Common.{◌≡◌, ◌≤◌, ◌++◌, length, map, take}
use Rattle.stream_object.specs.Ranges.{seen, taken, turned}
use Rattle.stream_object.proofs.picking.take_up.Given as goal

abbrev pub invariant-loop-index : goal.invariant-loop-index
invariant-loop-index l = record {
  found : map taken l.found.items ≡ map taken l.fn.found.items ++ take l.index (turned l.wanted.back (map seen l.picked));
  within : length l.found.items ≤ l.wanted.limit;
}
