use Rattle.std.proofs.Common.{◌≡◌, ◌++◌, length, map}
use Rattle.std.specs.Prelude.{pos}
use Rattle.plain_world.specs.declared.reply.Part.TheVariants.{Number}
use Rattle.cmd_lists.proofs.positions.push_numbers.Given as goal

abbrev pub invariant-indexes : goal.invariant-indexes
invariant-indexes l = l.parts ++ map (λ index. Number (pos index)) l.rest ≡ l.fn.parts ++ map (λ index. Number (pos index)) l.indexes

abbrev pub decreases-indexes : goal.decreases-indexes
decreases-indexes l = length l.rest
