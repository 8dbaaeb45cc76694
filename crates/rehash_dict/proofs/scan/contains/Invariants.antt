use Rattle.std.proofs.Common.{◌≡◌, ◌++◌}
use Rattle.rev_cursor.specs.Span.{times}
use Rattle.rehash_dict.specs.Chains.{chain_left}
use Rattle.rehash_dict.proofs.scan.contains.Given as goal

abbrev pub invariant-loop-other : goal.invariant-loop-other
invariant-loop-other g l = record {
  row : l.yielded ++ chain_left l.other-iterator ≡ chain_left l.initial.other-iterator;
  none : times l.at l.yielded ≡ 0;
}
