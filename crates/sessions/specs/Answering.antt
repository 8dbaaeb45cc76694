-- What the answering of one session's requests does.
use Rattle.std.specs.Prelude.{◌≡◌, ℕ, List, [], ◌∷◌, ◌++◌, map, true, false, ◌⊎◌}
use Rattle.outside.specs.Streams.{SinkSeen}
use Rattle.outside.specs.declared.pacing.Plan.{Plan}
use Rattle.plain_world.specs.Words.{Words}
use Rattle.plain_world.specs.declared.reply.Part.{Part}
use Rattle.plain_model.specs.Meant.{asks_to_quit}
use Rattle.plain_sessions.specs.Arrivals.{Asks, arrival}
use Rattle.resp_frames.specs.Ends.{IsCut}
use Rattle.resp_frames.specs.Feeding.{Feeding, SameFed}
use Rattle.resp_frames.specs.Frames.{Item, requests, Framed}
use Rattle.serving.specs.Answering.{IsBroken}
use Rattle.serving.specs.Timed.{Timed}
use Rattle.session_hub.specs.Hearing.{GoOn}
use Rattle.sessions.specs.declared.answering.Answer.{Answer}
use Rattle.sessions.specs.declared.answering.Answer.TheVariants as one
use Rattle.sessions.specs.declared.answering.Answered.{Answered}
use Rattle.sessions.specs.declared.answering.Answered.TheVariants as all
use Rattle.sessions.specs.Telling.{Tells, Fails}

module _ {E : Type 0} (turns : ℕ → E → E → Type 0) (executes : ℕ → E → Words → List Part → E → Type 0)
    (works : ℕ → Plan → E → E → Type 0) (session : ℕ) where
  -- what `answer_one` does
  abbrev pub AnswersOne : Timed E → Timed E → Words → SinkSeen → SinkSeen → List ℕ → List ℕ → Answer → Type 0
  AnswersOne before after words old new pending pending' one.Written =
      Tells turns executes works before after old new pending pending' (arrival session (Asks words) ∷ [])
      × (asks_to_quit words ≡ false)
  AnswersOne before after words old new pending pending' one.Quit =
      Tells turns executes works before after old new pending pending' (arrival session (Asks words) ∷ [])
      × (asks_to_quit words ≡ true)
  AnswersOne before after words old new pending pending' one.Fault =
      Fails turns executes works before after old new pending (arrival session (Asks words) ∷ [])
  AnswersOne before after words old new pending pending' one.Memory = (new ≡ old) × (pending' ≡ pending)

  -- the requests that stand before the rest of the bytes are answered, and none of them ends the session
  pub record Serves (bytes rest : List ℕ) (before after : Timed E) (old new : SinkSeen) (pending pending' : List ℕ)
      : Type 0 where
    pub items : List Item
    pub framed : Framed bytes items rest
    pub go_on : GoOn (requests items)
    pub tells : Tells turns executes works before after old new pending pending'
        (map (arrival session) (map Asks (requests items)))

  -- the requests are answered up to one that ends the session
  pub record Quits (bytes : List ℕ) (before after : Timed E) (old new : SinkSeen) (pending pending' : List ℕ) : Type 0 where
    pub items : List Item
    pub rest : List ℕ
    pub framed : Framed bytes items rest
    pub others : List Words
    pub last : Words
    pub are : requests items ≡ others ++ last ∷ []
    pub go_on : GoOn others
    pub ends : asks_to_quit last ≡ true
    pub tells : Tells turns executes works before after old new pending pending'
        (map (arrival session) (map Asks (others ++ last ∷ [])))

  -- the requests are answered up to one whose unit met a fault
  pub record BreaksOff (bytes : List ℕ) (before after : Timed E) (old new : SinkSeen) (pending : List ℕ) : Type 0 where
    pub items : List Item
    pub rest : List ℕ
    pub framed : Framed bytes items rest
    pub others : List Words
    pub last : Words
    pub are : requests items ≡ others ++ last ∷ []
    pub go_on : GoOn others
    pub fails : Fails turns executes works before after old new pending
        (map (arrival session) (map Asks (others ++ last ∷ [])))

  -- what `answer_all` answers; where memory wanted, the engine isn't what it was behind the answers
  abbrev pub AnswersAll : Feeding → Feeding → Timed E → Timed E → SinkSeen → SinkSeen → List ℕ → List ℕ → Answered → Type 0
  AnswersAll fed fed' before after old new pending pending' all.All =
      Serves fed.kept fed'.kept before after old new pending pending' × ((fed'.kept ≡ []) ⊎ IsCut fed'.kept)
      × SameFed fed fed'
  AnswersAll fed fed' before after old new pending pending' (all.Broken rule at) =
      Serves fed.kept fed'.kept before after old new pending pending' × IsBroken fed' rule at × SameFed fed fed'
  AnswersAll fed fed' before after old new pending pending' all.Quit =
      Quits fed.kept before after old new pending pending'
  AnswersAll fed fed' before after old new pending pending' all.Fault =
      BreaksOff fed.kept before after old new pending
  AnswersAll fed fed' before after old new pending pending' all.Memory =
      (rest : List ℕ) × (there : Timed E) × Serves fed.kept rest before there old new pending pending'
