-- What serving answers: from bytes in to bytes out.
use Rattle.std.specs.Prelude.{◌≡◌, ◌≢◌, ◌≤◌, ◌⊎◌, ℕ, List, [], ◌∷◌, ◌++◌, length, Option, Bool, true}
use Rattle.std.specs.Io.KnownBytes.{Consumes, IsAtEnd}
use Rattle.outside.specs.Counts.{Rose}
use Rattle.outside.specs.Streams.{SourceSeen, SinkSeen}
use Rattle.plain_world.specs.Words.{Words}
use Rattle.plain_world.specs.Spelling.{spelled}
use Rattle.plain_world.specs.declared.reply.Part.{Part}
use Rattle.resp_frames.specs.Ends.{End, Whole, Cut, Fault, Frames}
use Rattle.resp_frames.specs.FaultLines.{fault_line}
use Rattle.resp_frames.specs.Puts.{PutsAll, PutsFront}
use Rattle.resp_frames.specs.declared.rule.Rule.{Rule}
use Rattle.serving.specs.Path.{GoOn, GoOnToLast}
use Rattle.serving.specs.declared.ending.Ended.{Ended}
use Rattle.serving.specs.declared.ending.Ended.TheVariants as endings

-- what stands behind the replies in the output: the line of a broken rule
abbrev pub tail_of : Ended → List ℕ
tail_of endings.Whole = []
tail_of endings.Quit = []
tail_of (endings.Protocol rule at) = fault_line rule at
tail_of endings.Cut = []
tail_of endings.ReadFault = []
tail_of endings.WriteFault = []
tail_of endings.Memory = []
tail_of endings.Limit = []

-- what ends a run in which all requests taken are answered and no rule is broken, in this order: the limit's number of
-- bytes was taken; a take fails; a take finds the end of the input
pub data EndsOpen (limit : ℕ) (taken : List ℕ) (left : Option (List ℕ)) (at_end ended : Ended) : Type 0 where
  at_limit : length taken ≡ limit → ended ≡ endings.Limit → EndsOpen limit taken left at_end ended
  take_fails : length taken ≢ limit → ended ≡ endings.ReadFault → EndsOpen limit taken left at_end ended
  finds_end : length taken ≢ limit → IsAtEnd left → ended ≡ at_end → EndsOpen limit taken left at_end ended

-- first of all a broken rule; the end of the input after a whole request, or inside one
abbrev pub EndsBy : ℕ → List ℕ → End → Option (List ℕ) → Ended → Type 0
EndsBy limit taken (Fault rule at) left ended = ended ≡ endings.Protocol rule at
EndsBy limit taken Whole left ended = EndsOpen limit taken left endings.Whole ended
EndsBy limit taken Cut left ended = EndsOpen limit taken left endings.Cut ended

-- the input's count of faults rose exactly where a take failed, as none does that is sure
abbrev pub CountsReads : SourceSeen → SourceSeen → Ended → Type 0
CountsReads old new endings.ReadFault = Rose old.faults new.faults × (old.sure ≡ true → ⊥)
CountsReads old new ended = new.faults ≡ old.faults

-- the output's count of faults rose exactly where a put failed
abbrev pub CountsWrites : SinkSeen → SinkSeen → Ended → Type 0
CountsWrites old new endings.WriteFault = Rose old.faults new.faults
CountsWrites old new ended = new.faults ≡ old.faults

-- Replies to some requests are allowed on the way from here to what is left, also where the last of them met a fault,
-- and end the run or don't. Unless memory was refused, what is left is where they lead.
module _ {E : Type 0} (Allowed AllowedCut : List Words → List (List Part) → E → Type 0) (quits : Words → Bool) where
  -- all of the requests are answered, none of which ends the run, and then the tail follows
  pub record AnswersAllOf (asked : List Words) (tail : List ℕ) (old new : SinkSeen) (last : E) : Type 0 where
    pub replies : List (List Part)
    pub may : Allowed asked replies last
    pub go_on : GoOn quits asked
    pub wrote : PutsAll old new (spelled replies ++ tail)

  -- the requests are answered up to the first one that ends the run
  pub record AnswersToQuit (asked : List Words) (old new : SinkSeen) (last : E) : Type 0 where
    pub front : List Words
    pub quit : Words
    pub others : List Words
    pub split : asked ≡ (front ++ quit ∷ []) ++ others
    pub go_on : GoOn quits front
    pub ends_run : quits quit ≡ true
    pub replies : List (List Part)
    pub may : Allowed (front ++ quit ∷ []) replies last
    pub wrote : PutsAll old new (spelled replies)

  -- the first of the requests are answered, each whole, and none of them ends the run
  pub record AnswersFirst (asked : List Words) (old new : SinkSeen) : Type 0 where
    pub some : List Words
    pub others : List Words
    pub split : asked ≡ some ++ others
    pub go_on : GoOn quits some
    pub replies : List (List Part)
    pub last : E
    pub may : Allowed some replies last
    pub wrote : PutsAll old new (spelled replies)

  -- a front of the bytes of replies to the first of the requests is written, or of all replies and the tail of the end,
  -- where none of the requests ends the run
  pub record AnswersPart (asked : List Words) (end : End) (old new : SinkSeen) (last : E) : Type 0 where
    pub some : List Words
    pub others : List Words
    pub split : asked ≡ some ++ others
    pub replies : List (List Part)
    pub may : AllowedCut some replies last
    pub go_on : GoOnToLast quits some
    pub tail : List ℕ
    pub behind : (tail ≡ [])
        ⊎ ((rule : Rule) × (at : ℕ) × (end ≡ Fault rule at) × (others ≡ []) × GoOn quits some
        × (tail ≡ fault_line rule at))
    pub wrote : PutsFront old new (spelled replies ++ tail)

  -- how the serving ends
  pub data Ends (limit : ℕ) (taken : List ℕ) (asked : List Words) (end : End) (left : Option (List ℕ))
      (old new : SinkSeen) (last : E) (ended : Ended) : Type 0 where
    answered : AnswersAllOf asked (tail_of ended) old new last → EndsBy limit taken end left ended
        → Ends limit taken asked end left old new last ended
    quit : AnswersToQuit asked old new last → ended ≡ endings.Quit → Ends limit taken asked end left old new last ended
    write_fault : AnswersPart asked end old new last → ended ≡ endings.WriteFault
        → Ends limit taken asked end left old new last ended
    no_memory : AnswersFirst asked old new → ended ≡ endings.Memory → Ends limit taken asked end left old new last ended

  -- the bytes answered are the spelling of replies that are allowed to the requests framed in the bytes taken
  pub record Served (limit : ℕ) (input input' : SourceSeen) (old new : SinkSeen) (last : E) (ended : Ended)
      : Type 0 where
    pub taken : List ℕ
    pub took : Consumes input.told input'.told taken
    pub few : length taken ≤ limit
    pub asked : List Words
    pub end : End
    pub frames : Frames taken asked end
    pub ends : Ends limit taken asked end input'.told old new last ended
    pub reads : CountsReads input input' ended
    pub writes : CountsWrites old new ended
