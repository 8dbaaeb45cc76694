use Rattle.std.proofs.Common.{length}
use Rattle.rehash_dict.specs.Tables.{bucket}
use Rattle.rehash_dict.proofs.Buckets.{IsPartWay}
use Rattle.rehash_dict.proofs.chains.Chains.move_bucket.Given as goal

abbrev pub invariant-loop : goal.invariant-loop
invariant-loop g l = IsPartWay l.initial.self l.self l.number

abbrev pub decreases-loop : goal.decreases-loop
decreases-loop g l = length (bucket l.self.older l.number)
