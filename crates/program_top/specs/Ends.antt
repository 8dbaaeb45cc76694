-- How a program ends: by the words that it was given, or without any.
use Rattle.std.specs.Prelude.{◌≡◌, ◌⊎◌, ℕ, List, drop, map, string_bytes, String, Result, Ok, Err}
use Rattle.std.specs.Global.{Vec, Global}
use Rattle.outside.specs.Streams.{SinkSeen}
use Rattle.program_top.specs.Notes.{Notes, line_of}
use Rattle.program_top.specs.Statuses.{status_of}
use Rattle.program_top.specs.declared.ending.Ending.{Ending}
use Rattle.program_top.specs.declared.ending.Ending.TheVariants as endings

-- the status of an ending, whose line is put, or a front of it where the notes failed
pub record EndsBy (ending : Ending) (noted noted' : SinkSeen) (status : ℕ) : Type 0 where
  pub is : status ≡ status_of ending
  pub line : Notes noted noted' (line_of ending)

-- what the words behind a program's name come to, with the notes before and after and the status
module _ (ComesTo : List (List ℕ) → SinkSeen → SinkSeen → ℕ → Type 0) where
  -- the program ends so with the words behind its name; or memory wanted before that
  abbrev pub EndsWith : List (List ℕ) → SinkSeen → SinkSeen → ℕ → Type 0
  EndsWith words noted noted' status =
      ComesTo (drop 1 words) noted noted' status ⊎ EndsBy endings.Memory noted noted' status

  -- the same, or it has no words: they are no text, or memory wanted
  abbrev pub EndsAs : Result (Vec (String Global)) Ending → SinkSeen → SinkSeen → ℕ → Type 0
  EndsAs (Ok words) noted noted' status = EndsWith (map string_bytes words.items) noted noted' status
  EndsAs (Err ending) noted noted' status = EndsBy ending noted noted' status
