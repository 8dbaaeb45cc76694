-- Statements of the laws.
use Rattle.std.specs.Prelude.{ℕ, List}
use Rattle.std.specs.List.{AllByRecursion}
use Rattle.class_heap.specs.Heap.{heap_blocks, heap_slabs, IsClassHeapStep}
use Rattle.fit_worlds.specs.Fit.{AreShort, IsFit}
use Rattle.object_codec.specs.declared.limits.Limits.{Limits}
use Rattle.outside.specs.Files.{Files}
use Rattle.outside.specs.declared.pacing.Plan.{Plan}
use Rattle.plain_world.specs.Words.{Words}
use Rattle.plain_world.specs.Worlds.{World}
use Rattle.plain_world.specs.declared.reply.Part.{Part}
use Rattle.program_top.specs.Engines.{Engine, world_of, works, Begun}
use Rattle.program_top.specs.Starting.{IsLoaded}
use Rattle.redis_core.specs.Engines.{Executes}
use Rattle.resp_frames.specs.Ends.{End, Frames}

-- each word of a request that stands in a stream has at most 512 MiB
abbrev pub FramesAreShort : Type 0
FramesAreShort = (bytes : List ℕ) (asked : List Words) (end : End) → Frames bytes asked end → AllByRecursion AreShort asked

-- What an engine holds can be written, from its begin or the file that it loaded on, as long as it answers such requests and
-- does what is planned.
pub record EnginesAreFit : Type 0 where
  pub begun : (seed : ℕ) (limits : Limits) (engine : Engine) → Begun seed limits engine → IsFit (world_of engine)
  pub loaded : (files : Files) (limit : ℕ) (name : List ℕ) (moment : ℕ) (world : World)
      → IsLoaded files limit name moment world → IsFit world
  pub answered : (moment : ℕ) (old : Engine) (words : Words) (reply : List Part) (new : Engine) → IsFit (world_of old)
      → AreShort words → Executes heap_blocks heap_slabs IsClassHeapStep moment old words reply new
      → IsFit (world_of new)
  pub worked : (moment : ℕ) (plan : Plan) (old new : Engine) → IsFit (world_of old) → works moment plan old new
      → IsFit (world_of new)
