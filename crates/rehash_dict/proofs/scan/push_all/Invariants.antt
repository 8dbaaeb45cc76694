use Rattle.std.proofs.Common.{◌≡◌, ◌++◌}
use Rattle.rehash_dict.specs.Chains.{chain_left}
use Rattle.rehash_dict.specs.Scan.{Extends}
use Rattle.rehash_dict.proofs.scan.push_all.Given as goal

abbrev pub invariant-loop-at : goal.invariant-loop-at
invariant-loop-at g l = record {
  all : l.found.items ++ chain_left l.at-iterator ≡ l.initial.found.items ++ chain_left l.initial.at-iterator;
  kept : Extends l.initial.found.items l.found.items;
}
