use Rattle.std.proofs.Common.{◌≡◌, ◌∷◌, ◌++◌, length}
use Rattle.std.specs.List.{flat_map}
use Rattle.plain_world.specs.declared.reply.Part.TheVariants.{Array}
use Rattle.cmd_keys.proofs.Told.{use_parts}
use Rattle.cmd_keys.proofs.slabs.push_classes.Given as goal

abbrev pub invariant-loop-class : goal.invariant-loop-class
invariant-loop-class l = l.parts ≡ l.fn.parts ++ (Array (length l.fn.uses.items) ∷ flat_map use_parts l.yielded)
