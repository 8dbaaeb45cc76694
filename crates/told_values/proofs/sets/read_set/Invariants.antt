use Rattle.std.proofs.Common.{◌≡◌, ◌≤◌, length, take}
use Rattle.std.specs.Prelude.{MatchOption}
use Rattle.set_object.specs.Members.{listed}
use Rattle.set_object.specs.Items.{IsCursor}
use Rattle.set_object.specs.Strings.{set_of}
use Rattle.told_values.specs.Told.{set_told}
use Rattle.told_values.proofs.sets.read_set.Given as goal

abbrev pub invariant-loop-index : goal.invariant-loop-index
invariant-loop-index g l =
    let m = g.B.BlockStore.blocks l.store in
    record {
      next : MatchOption l.place (length (listed m l.set) ≤ l.index) (λ cursor. IsCursor m l.set cursor × (cursor.index ≡ l.index));
      so_far : set_told l.names.entries ≡ set_of (take l.index (listed m l.set));
    }
