use Rattle.std.proofs.Common.{◌≡◌, ◌∷◌, ◌++◌, length, map}
use Rattle.plain_world.specs.declared.reply.Part.TheVariants.{Bulk, Array}
use Rattle.cmd_sets.proofs.random.push_names.Given as goal

abbrev pub invariant-loop-name : goal.invariant-loop-name
invariant-loop-name l = l.parts ≡ l.fn.parts ++ (Array (length l.fn.names.items) ∷ map Bulk l.yielded)
