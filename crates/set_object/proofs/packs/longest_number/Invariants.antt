use Rattle.std.proofs.Common.{◌≡◌, drop, map}
use Rattle.int_text.specs.Decimal.{canonical}
use Rattle.set_object.specs.Strings.{longest}
use Rattle.set_object.proofs.packs.longest_number.Given as goal

abbrev pub invariant-loop-index : goal.invariant-loop-index
invariant-loop-index l = l.most ≡ longest (map canonical (drop l.index l.numbers))
