use Rattle.std.proofs.Common.{◌≡◌, map, take}
use Rattle.stream_object.specs.declared.owned.Owned.{Owned}
use Rattle.stream_object.specs.Streams.{pair_of}
use Rattle.stream_object.proofs.delivering.ids_of.Given as goal

abbrev pub invariant-loop-entry : goal.invariant-loop-entry
invariant-loop-entry l = l.ids.items ≡ map (λ (o : Owned). pair_of o.id) (take l.entry-index l.given)
