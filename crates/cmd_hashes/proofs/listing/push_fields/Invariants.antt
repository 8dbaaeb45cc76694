use Rattle.std.proofs.Common.{◌≡◌, ◌≤◌, ◌++◌, length, take, flat_map}
use Rattle.std.specs.Prelude.{MatchOption}
use Rattle.hash_object.specs.Fields.{listed}
use Rattle.hash_object.specs.Items.{IsCursor}
use Rattle.cmd_hashes.specs.Listed.{told_of}
use Rattle.cmd_hashes.proofs.listing.push_fields.Given as goal

abbrev pub invariant-loop-index : goal.invariant-loop-index
invariant-loop-index g l =
    let m = g.B.BlockStore.blocks l.store in
    record {
      next : MatchOption l.place (length (listed m l.hash) ≤ l.index) (λ cursor. IsCursor m l.hash cursor × (cursor.index ≡ l.index));
      so_far : l.parts ≡ l.fn.parts ++ flat_map (told_of l.told) (take l.index (listed m l.hash));
    }
