use Rattle.std.proofs.Common.{◌≡◌, ◌-◌, ◌%◌, ◌<◌, ℕ, bit_and, arith}
use Rattle.std.proofs.lemmas.Nat.{and_mask}
use Rattle.rehash_dict.specs.Placed.{IsSize}
use Rattle.rehash_dict.specs.Placed.IsSize.{no_table, power}
use Rattle.rehash_dict.proofs.chains.bucket_of.Goals as goal

by_size : (hash n : ℕ) → IsSize n → 0 < n → bit_and hash (n - 1) ≡ hash % n
by_size hash n (no_table e) some = absurd (omega arith)
by_size hash n (power bits e low high) some = rw e (and_mask hash bits)

pub returns : goal.returns
returns c = by_size c.args.hash c.args.buckets c.requires.size c.requires.table
