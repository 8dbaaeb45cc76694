use Rattle.std.proofs.Common.{take, map}
use Rattle.int_text.specs.Decimal.{canonical}
use Rattle.set_object.specs.Members.{IsPackOf}
use Rattle.set_object.proofs.packs.pack_numbers.Given as goal

abbrev pub invariant-loop-index : goal.invariant-loop-index
invariant-loop-index l = IsPackOf (map canonical (take l.index l.numbers)) l.pack.items
