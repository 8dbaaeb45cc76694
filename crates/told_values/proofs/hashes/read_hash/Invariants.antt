use Rattle.std.proofs.Common.{◌≡◌, ◌≤◌, length, take}
use Rattle.std.specs.Prelude.{MatchOption}
use Rattle.hash_object.specs.Fields.{listed}
use Rattle.hash_object.specs.Items.{IsCursor}
use Rattle.pack_pairs.specs.Pairs.{map_of_pairs}
use Rattle.told_values.specs.Told.{hash_told}
use Rattle.told_values.proofs.hashes.read_hash.Given as goal

abbrev pub invariant-loop-index : goal.invariant-loop-index
invariant-loop-index g l =
    let m = g.B.BlockStore.blocks l.store in
    record {
      next : MatchOption l.place (length (listed m l.hash) ≤ l.index) (λ cursor. IsCursor m l.hash cursor × (cursor.index ≡ l.index));
      so_far : hash_told l.pairs.entries ≡ map_of_pairs (take l.index (listed m l.hash));
    }
