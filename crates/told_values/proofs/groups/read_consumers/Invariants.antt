use Rattle.std.proofs.Common.{◌≡◌, ◌-◌, length, take}
use Rattle.std.specs.Prelude.{slice_get}
use Rattle.std.specs.FinMap.{values}
use Rattle.told_values.specs.Told.{texts_told}
use Rattle.told_values.specs.Reading.{consumers_in}
use Rattle.told_values.proofs.groups.read_consumers.Given as goal

abbrev pub invariant-consumers : goal.invariant-consumers
invariant-consumers l = texts_told l.names.items ≡ take (length l.names.items) (consumers_in (slice_get (values l.stream.groups) l.at))

abbrev pub decreases-consumers : goal.decreases-consumers
decreases-consumers l = length (consumers_in (slice_get (values l.stream.groups) l.at)) - length l.names.items
