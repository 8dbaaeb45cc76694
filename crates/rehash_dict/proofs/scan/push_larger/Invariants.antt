use Rattle.std.proofs.Common.{◌≡◌, ◌-◌, ◌++◌, length}
use Rattle.rehash_dict.specs.Scan.{bits_of, smaller_of, larger_of, walk, walked_over, Extends}
use Rattle.rehash_dict.proofs.scan.push_larger.Given as goal

abbrev pub invariant-loop : goal.invariant-loop
invariant-loop g l =
    let rest = walk (larger_of l.chains.older l.chains.newer) (bits_of (length (smaller_of l.chains.older l.chains.newer))) (bits_of (length (larger_of l.chains.older l.chains.newer)))
    (l.buckets - l.counter) l.next in
    record {
      all : l.found.items ++ rest.0 ≡ l.initial.found.items ++ (walked_over l.chains.older l.chains.newer l.cursor).0;
      end : rest.1 ≡ (walked_over l.chains.older l.chains.newer l.cursor).1;
      kept : Extends l.initial.found.items l.found.items;
    }
