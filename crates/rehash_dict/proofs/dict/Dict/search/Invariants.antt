use Rattle.std.proofs.Common.{◌≡◌, ◌<◌, ◌++◌, ℕ}
use Rattle.rev_cursor.specs.Span.{times}
use Rattle.rehash_dict.specs.Chains.{chain_left}
use Rattle.rehash_dict.specs.Sides.{last_of}
use Rattle.rehash_dict.specs.Steps.{IsOther}
use Rattle.rehash_dict.proofs.dict.Dict.search.Given as goal

abbrev pub invariant-loop-at : goal.invariant-loop-at
invariant-loop-at g l = record {
  row : l.yielded ++ chain_left l.at-iterator ≡ chain_left l.initial.at-iterator;
  last : l.before ≡ last_of l.yielded;
  none : (at : ℕ) → 0 < times at l.yielded → IsOther (g.B.BlockStore.blocks l.store) l.self l.hash l.key at;
}
