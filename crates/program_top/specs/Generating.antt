-- What a run of generated commands writes.
use Rattle.std.specs.Prelude.{◌≡◌, ℕ, List, [], ◌∷◌, map, pos}
use Rattle.std.specs.FinMap.{len}
use Rattle.class_heap.specs.Heap.{heap_blocks, heap_slabs, IsClassHeapStep}
use Rattle.digests.specs.Crc.{crc_of}
use Rattle.generator.specs.Generated.{Generates}
use Rattle.generator.specs.Laws.{generated}
use Rattle.generator.specs.Lines.{three_lines}
use Rattle.outside.specs.Pacing.{PacerSeen, tuned}
use Rattle.outside.specs.Streams.{SinkSeen}
use Rattle.plain_model.specs.Runs.{run, Turn, calls_of, replies_of}
use Rattle.plain_world.specs.Spelling.{spelled}
use Rattle.plain_world.specs.Worlds.{World, new_world, live_keys}
use Rattle.plain_world.specs.declared.reply.Part.{Part}
use Rattle.plain_world.specs.declared.reply.Part.TheVariants.{Number}
use Rattle.redis_core.specs.Engines.{Executes}
use Rattle.resp_frames.specs.Puts.{PutsAll, PutsFront}
use Rattle.program_top.specs.Engines.{Engine, works, Begun}
use Rattle.program_top.specs.Given.{Options, Outside}
use Rattle.program_top.specs.declared.ending.Ending.{Ending}
use Rattle.program_top.specs.declared.ending.Ending.TheVariants as endings

-- The lines of the first n commands of a seed on a plain map that begins without a key: n; how many keys database 0 has
-- at the moment n, without those that are gone; and the CRC of the bytes of the replies that it may give, one behind the
-- other.
pub record MayGenerate (seed n : ℕ) (lines : List ℕ) : Type 0 where
  pub turns : List Turn
  pub last : World
  pub asked : calls_of turns ≡ generated n seed
  pub ran : run seed new_world turns last
  pub are : lines ≡ three_lines n (len (live_keys (last.bases 0) n)) (crc_of 0 (spelled (replies_of turns)))

-- the same of a run with these options
abbrev pub may_generate : Options → ℕ → List PacerSeen → List ℕ → Type 0
may_generate options n pacers = MayGenerate options.seed n

-- the lines of so many commands of a seed are one text
abbrev pub LinesAreOne : Type 0
LinesAreOne =
    (seed n : ℕ) (lines others : List ℕ) → MayGenerate seed n lines → MayGenerate seed n others → lines ≡ others

-- a reply that is a number from 0 on
pub record IsCount (reply : List Part) : Type 0 where
  pub n : ℕ
  pub is : reply ≡ Number (pos n) ∷ []

-- The same lines of an engine: it begins without a key, with the options' seed and limits, and after each command does
-- what the pacers plan, each of which was tuned to the effort.
pub record GeneratesOn (options : Options) (n : ℕ) (pacers : List PacerSeen) (lines : List ℕ) : Type 0 where
  pub first : Engine
  pub begun : Begun options.seed options.limits first
  pub last : Engine
  pub keys : ℕ
  pub sum : ℕ
  pub generates : Generates (Executes heap_blocks heap_slabs IsClassHeapStep) works options.seed n
      (record { engine = first; pacers = map (λ p. tuned p options.effort) pacers }) last (Number (pos keys) ∷ []) sum
  pub are : lines ≡ three_lines n keys sum

-- such lines are put, or a front of them where the output failed; or memory wanted, and nothing is put
pub data Writes (Lines : List ℕ → Type 0) (old new : SinkSeen) (ending : Ending) : Type 0 where
  all : (lines : List ℕ) → Lines lines → PutsAll old new lines → ending ≡ endings.Whole → Writes Lines old new ending
  front : (lines : List ℕ) → Lines lines → PutsFront old new lines → ending ≡ endings.WriteFault
      → Writes Lines old new ending
  none : new ≡ old → ending ≡ endings.Memory → Writes Lines old new ending

-- nothing but the output, the notes and the pacers is touched: the lines are written
pub record WritesLines (Lines : List ℕ → Type 0) (before after : Outside) (ending : Ending) : Type 0 where
  pub wrote : Writes Lines before.output after.output ending
  pub others : after ≡ record before { output = after.output; notes = after.notes; pacers = after.pacers }
