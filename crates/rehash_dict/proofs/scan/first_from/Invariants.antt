use Rattle.std.proofs.Common.{◌≡◌, ◌-◌}
use Rattle.rehash_dict.specs.Scan.{turns_from, first_of}
use Rattle.rehash_dict.proofs.scan.first_from.Given as goal

abbrev pub invariant-loop-number : goal.invariant-loop-number
invariant-loop-number g l = first_of (turns_from l.chains.older l.chains.newer l.cursor (l.number-end - l.number) l.number) ≡ first_of
    (turns_from l.chains.older l.chains.newer l.cursor (l.number-end - l.from) l.from)
