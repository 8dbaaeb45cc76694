-- How a desk goes from request to request.
use Rattle.std.specs.Prelude.{◌≡◌, ℕ, List, max, Option, false}
use Rattle.outside.specs.declared.pacing.Plan.{Plan}
use Rattle.plain_world.specs.Words.{Words, IsRequest}
use Rattle.plain_world.specs.Worlds.{Entry}
use Rattle.plain_world.specs.declared.reply.Part.{Part}
use Rattle.plain_sessions.specs.Transactions.{asked_of}
use Rattle.session_desk.specs.Engines.{View, seen}
use Rattle.session_desk.specs.Kept.{Look, Kept, with_kept, session_at, DeskSeen}
use Rattle.session_desk.specs.Watching.{IsLooked, Reviews}
use Rattle.session_desk.specs.Answered.{Answers}

-- Between two states of what stands where a watched key was left out, as the same stands there; or it was looked at.
pub data Glances (before after : ℕ → List ℕ → Option Entry) (one new : Look) : Type 0 where
  left_out : after one.db one.key ≡ before one.db one.key → new ≡ one → Glances before after one new
  looked : IsLooked after one new → Glances before after one new

module _ {E : Type 0} (v : View E) (executes : ℕ → E → Words → List Part → E → Type 0) (moment : ℕ) (old new : E)
    (sessions sessions' : ℕ → Kept) (number : ℕ) (words : Words) (reply : List Part) where
  -- a request of the session of this number is answered
  pub record AnswersOf : Type 0 where
    pub request : IsRequest words
    pub kept : Kept
    pub answers : Answers v executes moment old (sessions number) (sessions number).queue words (asked_of words)
        (record { engine = new; reply = reply; kept = kept })
    pub are : (other : ℕ) → sessions' other ≡ with_kept sessions number kept other

  -- the same, and then watched keys of all sessions are looked at
  pub record Serves : Type 0 where
    pub request : IsRequest words
    pub kept : Kept
    pub answers : Answers v executes moment old (sessions number) (sessions number).queue words (asked_of words)
        (record { engine = new; reply = reply; kept = kept })
    pub reviews : (other : ℕ)
        → Reviews (Glances (seen v (max (v.last old) moment) old) (seen v (max (v.last new) moment) new))
        (with_kept sessions number kept other) (sessions' other)

module _ {E : Type 0} (v : View E) (executes : ℕ → E → Words → List Part → E → Type 0) where
  -- a request of the session whose turn it is is answered
  pub record DeskAnswers (moment : ℕ) (old : DeskSeen E) (words : Words) (reply : List Part) (new : DeskSeen E)
      : Type 0 where
    pub serves : Serves v executes moment old.engine new.engine (session_at old.sessions) (session_at new.sessions) old.current words reply
    pub current : new.current ≡ old.current
    pub alive : new.is_spent ≡ false

-- what is planned is the engine's own, and leaves the sessions
pub record DeskRests {E : Type 0} (work : ℕ → Plan → E → E → Type 0) (moment : ℕ) (plan : Plan) (old new : DeskSeen E)
    : Type 0 where
  pub works : work moment plan old.engine new.engine
  pub sessions : new.sessions ≡ old.sessions
  pub current : new.current ≡ old.current
  pub alive : new.is_spent ≡ old.is_spent
