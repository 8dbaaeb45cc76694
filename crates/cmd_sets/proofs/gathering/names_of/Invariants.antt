use Rattle.std.proofs.Common.{◌≡◌, ◌≤◌, length, take}
use Rattle.std.specs.Prelude.{MatchOption}
use Rattle.set_object.specs.Members.{listed}
use Rattle.set_object.specs.Items.{IsCursor}
use Rattle.cmd_sets.proofs.gathering.names_of.Given as goal

abbrev pub invariant-loop-index : goal.invariant-loop-index
invariant-loop-index g l =
    let m = g.B.BlockStore.blocks l.store in
    record {
      next : MatchOption l.place (length (listed m l.set) ≤ l.index) (λ cursor. IsCursor m l.set cursor × (cursor.index ≡ l.index));
      so_far : l.names.items ≡ take l.index (listed m l.set);
    }
