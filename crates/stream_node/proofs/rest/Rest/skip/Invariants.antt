use Rattle.std.proofs.Common.{◌≡◌, drop}
use Rattle.stream_node.specs.Rest.{rest_of}
use Rattle.stream_node.proofs.rest.Rest.skip.Given as goal

abbrev pub invariant-loop : goal.invariant-loop
invariant-loop l = rest_of l.rest ≡ drop l.counter (rest_of l.self)
