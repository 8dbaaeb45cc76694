-- What the answering of requests does.
use Rattle.std.specs.Prelude.{◌≡◌, ℕ, ◌+◌, List, [], ◌∷◌, ◌++◌, length, Bool, true, false, ◌⊎◌}
use Rattle.outside.specs.Streams.{SinkSeen}
use Rattle.plain_world.specs.Words.{Words}
use Rattle.plain_world.specs.Spelling.{spelling, spelled}
use Rattle.plain_world.specs.declared.reply.Part.{Part}
use Rattle.resp_frames.specs.Frames.{Item, requests, Framed}
use Rattle.resp_frames.specs.Faults.{RequestFault}
use Rattle.resp_frames.specs.Ends.{IsCut}
use Rattle.resp_frames.specs.Feeding.{Feeding, SameFed}
use Rattle.resp_frames.specs.Puts.{PutsAll, PutsFront}
use Rattle.resp_frames.specs.declared.rule.Rule.{Rule}
use Rattle.serving.specs.Path.{path, CutPath, GoOn, GoOnToLast}
use Rattle.serving.specs.Output.{Onward, WritesWhole}
use Rattle.serving.specs.declared.answering.Answer.{Answer}
use Rattle.serving.specs.declared.answering.Answer.TheVariants as one
use Rattle.serving.specs.declared.answering.Answered.{Answered}
use Rattle.serving.specs.declared.answering.Answered.TheVariants as all

-- a rule is broken in what is left of a stream, at the byte of this number
pub record IsBroken (feeder : Feeding) (rule : Rule) (at : ℕ) : Type 0 where
  pub from : List ℕ
  pub fault : RequestFault feeder.kept rule from
  pub place : at + length from ≡ feeder.gone + length feeder.kept

module _ {E : Type 0} (executes cut_off : E → Words → List Part → E → Type 0) (quits : Words → Bool) where
  -- a request is answered, and ends the run or doesn't
  pub record Replied (before after : E) (words : Words) (old new : SinkSeen) (pending pending' : List ℕ) (ends : Bool)
      : Type 0 where
    pub reply : List Part
    pub may : executes before words reply after
    pub ends_run : quits words ≡ ends
    pub wrote : WritesWhole old new pending pending' (spelling reply)

  -- a request is answered, and of its reply a front is written behind what was pending
  pub record RepliedPart (before after : E) (words : Words) (old new : SinkSeen) (pending : List ℕ) : Type 0 where
    pub reply : List Part
    pub may : cut_off before words reply after
    pub wrote : PutsFront old new (pending ++ spelling reply)

  -- what `answer_one` does
  abbrev pub AnswersOne : E → E → Words → SinkSeen → SinkSeen → List ℕ → List ℕ → Answer → Type 0
  AnswersOne before after words old new pending pending' one.Written =
      Replied before after words old new pending pending' false
  AnswersOne before after words old new pending pending' one.Quit =
      Replied before after words old new pending pending' true
  AnswersOne before after words old new pending pending' one.Fault = RepliedPart before after words old new pending
  AnswersOne before after words old new pending pending' one.Memory = new ≡ old

  -- The requests that stand before the rest of the bytes are answered by the engine on its way from one state to
  -- another, and none of them ends the run.
  pub record Serves (bytes rest : List ℕ) (before after : E) (old new : SinkSeen) (pending pending' : List ℕ)
      : Type 0 where
    pub items : List Item
    pub replies : List (List Part)
    pub framed : Framed bytes items rest
    pub went : path executes before (requests items) replies after
    pub go_on : GoOn quits (requests items)
    pub wrote : Onward old new pending pending' (spelled replies)

  -- the same, but of the replies only a front is written, to requests of which the last may end the run
  pub record Breaks (bytes : List ℕ) (before after : E) (old new : SinkSeen) (pending : List ℕ) : Type 0 where
    pub items : List Item
    pub replies : List (List Part)
    pub rest : List ℕ
    pub framed : Framed bytes items rest
    pub went : CutPath executes cut_off before (requests items) replies after
    pub go_on : GoOnToLast quits (requests items)
    pub wrote : PutsFront old new (pending ++ spelled replies)

  -- the requests are answered up to one that ends the run
  pub record Quits (bytes : List ℕ) (before after : E) (old new : SinkSeen) (pending pending' : List ℕ) : Type 0 where
    pub items : List Item
    pub replies : List (List Part)
    pub rest : List ℕ
    pub framed : Framed bytes items rest
    pub went : path executes before (requests items) replies after
    pub others : List Words
    pub last : Words
    pub are : requests items ≡ others ++ last ∷ []
    pub go_on : GoOn quits others
    pub ends_run : quits last ≡ true
    pub wrote : Onward old new pending pending' (spelled replies)

  -- what `answer_all` answers
  abbrev pub AnswersAll : Feeding → Feeding → E → E → SinkSeen → SinkSeen → Answered → Type 0
  AnswersAll fed fed' before after old new all.All =
      Serves fed.kept fed'.kept before after old new [] [] × ((fed'.kept ≡ []) ⊎ IsCut fed'.kept) × SameFed fed fed'
  AnswersAll fed fed' before after old new (all.Protocol rule at) =
      Serves fed.kept fed'.kept before after old new [] [] × IsBroken fed' rule at × SameFed fed fed'
  AnswersAll fed fed' before after old new all.Quit = Quits fed.kept before after old new [] []
  AnswersAll fed fed' before after old new all.Fault = Breaks fed.kept before after old new []
  AnswersAll fed fed' before after old new all.Memory =
      (rest : List ℕ) × (after' : E) × Serves fed.kept rest before after' old new [] []

-- nothing is pending where the run goes on
abbrev pub AllPut : List ℕ → Answered → Type 0
AllPut pending all.All = pending ≡ []
AllPut pending (all.Protocol rule at) = pending ≡ []
AllPut pending all.Quit = Unit {0}
AllPut pending all.Fault = Unit {0}
AllPut pending all.Memory = Unit {0}

-- what `finish` answers: what it was asked to, where all that was pending is put
pub data Finishes (old new : SinkSeen) (pending pending' : List ℕ) (wanted result : Answered) : Type 0 where
  HasPut : result ≡ wanted → PutsAll old new pending → pending' ≡ [] → Finishes old new pending pending' wanted result
  Failed : result ≡ all.Fault → PutsFront old new pending → Finishes old new pending pending' wanted result
