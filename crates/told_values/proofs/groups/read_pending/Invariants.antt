use Rattle.std.proofs.Common.{◌≡◌, ◌-◌, length, map, take}
use Rattle.std.specs.Prelude.{slice_get}
use Rattle.std.specs.FinMap.{values}
use Rattle.told_values.specs.Told.{pending_told}
use Rattle.told_values.specs.Reading.{pending_in}
use Rattle.told_values.proofs.Grouped.{Comes}
use Rattle.told_values.proofs.groups.read_pending.Given as goal

abbrev pub invariant-entries : goal.invariant-entries
invariant-entries l =
    let found = slice_get (values l.stream.groups) l.at in
    record {
      next : Comes found (length l.told.items) l.next;
      so_far : map pending_told l.told.items ≡ take (length l.told.items) (pending_in found);
    }

abbrev pub decreases-entries : goal.decreases-entries
decreases-entries l = length (pending_in (slice_get (values l.stream.groups) l.at)) - length l.told.items
