use Rattle.std.proofs.Common.{◌≡◌, ◌*◌, List}
use Rattle.digests.specs.Crc.{crc_of}
use Rattle.outside.specs.Pacing.{following}
use Rattle.plain_world.specs.Spelling.{spelled}
use Rattle.plain_world.specs.declared.reply.Part.{Part}
use Rattle.generator.specs.Commands.{drawn, commands}
use Rattle.generator.specs.Generated.{way}
use Rattle.generator.proofs.running.run_commands.Given as goal

abbrev pub invariant-loop-past : goal.invariant-loop-past
invariant-loop-past g l = record {
  replies : List (List Part);
  went : way g.E.Server.executes g.E.Server.works 0
      (record { engine = l.initial.engine; pacers = following (λ b. (goal.Pacer-dyn g (b.vtable, b.value)).pacing b.value) l.initial.conductor }) (commands l.seed l.past) replies
      (record { engine = l.engine; pacers = following (λ b. (goal.Pacer-dyn g (b.vtable, b.value)).pacing b.value) l.conductor });
  dice : l.running.dice ≡ drawn l.seed (2 * l.past);
  sum : l.running.crc ≡ crc_of 0 (spelled replies);
}
