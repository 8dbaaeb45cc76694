-- When serving ends in which way.
use Rattle.std.specs.Prelude.{◌≡◌, ◌<◌, ◌⊎◌, ℕ, List, ◌∷◌, [], ◌++◌, length, Option, Some, Bool, true}
use Rattle.outside.specs.Counts.{Rose}
use Rattle.outside.specs.Streams.{SourceSeen, SinkSeen, Fits}
use Rattle.plain_world.specs.Words.{Words}
use Rattle.plain_world.specs.Spelling.{spelled}
use Rattle.plain_world.specs.declared.reply.Part.{Part}
use Rattle.resp_frames.specs.Ends.{End, Whole, Frames}
use Rattle.serving.specs.Path.{GoOn, GoOnToLast}
use Rattle.serving.specs.Served.{EndsBy}
use Rattle.serving.specs.declared.ending.Ended.{Ended}
use Rattle.serving.specs.declared.ending.Ended.TheVariants as endings

-- one of the requests ends the run, and it is the first that does
pub record HasQuit (quits : Words → Bool) (asked : List Words) : Type 0 where
  pub front : List Words
  pub quit : Words
  pub others : List Words
  pub split : asked ≡ (front ++ quit ∷ []) ++ others
  pub go_on : GoOn quits front
  pub ends_run : quits quit ≡ true

-- want of memory, a failed put, a request that ends the run, or none and then the end of what was taken
pub data EndsExactly (quits : Words → Bool) (limit : ℕ) (taken : List ℕ) (asked : List Words) (end : End)
    (left : Option (List ℕ)) (ended : Ended) : Type 0 where
  no_memory : ended ≡ endings.Memory → EndsExactly quits limit taken asked end left ended
  write_fault : ended ≡ endings.WriteFault → EndsExactly quits limit taken asked end left ended
  quit : HasQuit quits asked → ended ≡ endings.Quit → EndsExactly quits limit taken asked end left ended
  answered : GoOn quits asked → EndsBy limit taken end left ended → EndsExactly quits limit taken asked end left ended

-- where the input tells its bytes, the bytes taken and their frames say how the serving ends
abbrev pub ServesExactly : (Words → Bool) → ℕ → SourceSeen → SourceSeen → Ended → Type 0
ServesExactly quits limit input input' ended =
    (bytes rest taken : List ℕ) (asked : List Words) (end : End) → input.told ≡ Some bytes → input'.told ≡ Some rest
    → bytes ≡ taken ++ rest → Frames taken asked end
    → EndsExactly quits limit taken asked end (Some rest) ended

-- no take fails: none does that is sure, or none was counted
abbrev pub NoReadFault : SourceSeen → SourceSeen → Type 0
NoReadFault old new = (old.sure ≡ true) ⊎ (Rose old.faults new.faults → ⊥)

-- the replies to the first of the requests, of which only the last may end the run, surely fit, whichever are allowed
abbrev pub AllFit : {E : Type 0} → (List Words → List (List Part) → E → Type 0) → (Words → Bool) → List Words → Option ℕ
    → Type 0
AllFit Allowed quits asked room =
    (some others : List Words) (replies : List (List Part)) (last : _) → asked ≡ some ++ others → GoOnToLast quits some
    → Allowed some replies last → Fits room (length (spelled replies))

-- the bytes end after a whole request, or one of the requests in them ends the run
abbrev pub EndsWell : (Words → Bool) → List Words → End → Type 0
EndsWell quits asked end = (end ≡ Whole) ⊎ HasQuit quits asked
