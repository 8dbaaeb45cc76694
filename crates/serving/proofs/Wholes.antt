-- When an input is served to its end.
use Rattle.std.specs.Prelude.{◌≡◌, ◌<◌, ◌⊎◌, ℕ, List, length, Some, Bool}
use Rattle.outside.specs.Counts.{Rose}
use Rattle.outside.specs.Streams.{SourceSeen, SinkSeen}
use Rattle.plain_world.specs.Words.{Words}
use Rattle.plain_world.specs.declared.reply.Part.{Part}
use Rattle.resp_frames.specs.Ends.{End, Frames}
use Rattle.serving.specs.declared.ending.Ended.{Ended}
use Rattle.serving.specs.declared.ending.Ended.TheVariants as endings
use Rattle.serving.specs.Exactly.{NoReadFault, AllFit, EndsWell}

-- no put fails: whatever is answered fits, or no fault was counted
abbrev pub NoWriteFault : {E : Type 0} → (List Words → List (List Part) → E → Type 0) → (Words → Bool) → List Words
    → SinkSeen → SinkSeen → Type 0
NoWriteFault Allowed quits asked old new = AllFit Allowed quits asked old.room ⊎ (Rose old.faults new.faults → ⊥)

-- the end after whole requests, or by one that ends the run, unless memory wanted
pub data EndsWhole (ended : Ended) : Type 0 where
  whole : ended ≡ endings.Whole → EndsWhole ended
  quit : ended ≡ endings.Quit → EndsWhole ended
  no_memory : ended ≡ endings.Memory → EndsWhole ended

-- an input of fewer bytes than the limit that ends after a whole request, or holds one that ends the run before any
-- fault, is served to this end, where neither it nor the output fails
abbrev pub ServesWhole : {E : Type 0} → (List Words → List (List Part) → E → Type 0) → (Words → Bool) → ℕ → SourceSeen
    → SourceSeen → SinkSeen → SinkSeen → Ended → Type 0
ServesWhole Allowed quits limit input input' old new ended =
    (bytes : List ℕ) (asked : List Words) (end : End) → input.told ≡ Some bytes → Frames bytes asked end
    → EndsWell quits asked end → length bytes < limit → NoReadFault input input'
    → NoWriteFault Allowed quits asked old new → EndsWhole ended
