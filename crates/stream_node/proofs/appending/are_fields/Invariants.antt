use Rattle.std.proofs.Common.{◌≡◌, ◌≤◌, take, drop, length}
use Rattle.stream_node.specs.Entry.{fields_of}
use Rattle.stream_node.specs.Rest.{rest_of}
use Rattle.stream_node.proofs.appending.are_fields.Given as goal

abbrev pub invariant-loop-index : goal.invariant-loop-index
invariant-loop-index l = (take l.index (rest_of l.list) ≡ fields_of (take l.index l.pairs)) × (rest_of l.rest ≡ drop l.index (rest_of l.list)) × (l.index ≤ length (rest_of l.list))
