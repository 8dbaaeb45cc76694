-- What a request brings its session at a desk (Redis documentation, "Transactions").
use Rattle.std.specs.Prelude.{◌≡◌, ℕ, List, [], ◌∷◌, ◌++◌, map, max, Option, None, Some, Bool, true, false}
use Rattle.plain_world.specs.Words.{Words}
use Rattle.plain_world.specs.Worlds.{Entry}
use Rattle.plain_world.specs.declared.refusal.Refusal.{Refusal}
use Rattle.plain_world.specs.declared.refusal.Refusal.TheVariants.{WrongNumberOfArguments, NestedMulti, ExecAbort, ExecWithoutMulti, DiscardWithoutMulti, WatchInsideMulti}
use Rattle.plain_world.specs.declared.reply.Part.{Part}
use Rattle.plain_model.specs.Meant.{meant, asks_to_quit}
use Rattle.plain_sessions.specs.Transactions.{Asked, Multi, Exec, Discard, Watch, Misnumbered, Common, ok, queued, null_array, refused, array_of, wrong_words}
use Rattle.resp_frames.specs.Frames.{request_bytes}
use Rattle.request_queue.specs.Queued.{AreQueued, RunsQueued}
use Rattle.serving.specs.Path.{path}
use Rattle.session_desk.specs.Engines.{View, seen}
use Rattle.session_desk.specs.Watching.{watch, HasMoved, IsStill}
use Rattle.session_desk.specs.Kept.{Kept, begun, closed, queueing, spoiling, at_db, watching}

-- what came of a request: the engine, the reply, and what is kept of its session
pub record Came (E : Type 0) : Type 0 where
  pub engine : E
  pub reply : List Part
  pub kept : Kept

-- by an engine at this moment, in this state, to a session of which this is kept
module _ {E : Type 0} (v : View E) (executes : ℕ → E → Words → List Part → E → Type 0) (moment : ℕ) (old : E) (s : Kept) where
  -- what stands where, at the moment or the last one used where that is later
  abbrev pub sees : ℕ → List ℕ → Option Entry
  sees db key = seen v (max (v.last old) moment) old db key

  -- nothing is run
  abbrev pub resting : List Part → Kept → Came E
  resting reply kept = record { engine = old; reply = reply; kept = kept }

  -- a command is run at once, in the session's database
  pub record RunsOne (words : Words) (came : Came E) : Type 0 where
    pub ran : executes moment (v.choose old s.db) words came.reply came.engine
    pub kept : came.kept ≡ at_db s (v.world came.engine).selected

  -- the queued ones are run in it, one behind the other with nothing between them; without any the engine stays
  abbrev pub RunsQueue : List (List ℕ) → Came E → Type 0
  RunsQueue [] came = came ≡ resting (array_of []) (closed s)
  RunsQueue (bytes ∷ queue) came =
      RunsQueued (executes moment) (v.choose old s.db) (bytes ∷ queue) came.reply came.engine
      × (came.kept ≡ at_db (closed s) (v.world came.engine).selected)

  -- EXEC inside MULTI
  pub data Executes (queue : List (List ℕ)) (came : Came E) : Type 0 where
    aborts : s.spoilt ≡ true → came ≡ resting (refused ExecAbort) (closed s) → Executes queue came
    changed : s.spoilt ≡ false → HasMoved sees s.watched → came ≡ resting null_array (closed s) → Executes queue came
    runs_queue : s.spoilt ≡ false → IsStill sees s.watched → RunsQueue queue came → Executes queue came

  -- a command is queued; one with a wrong name or number of words spoils what is queued
  abbrev pub queue_or_spoil : List (List ℕ) → Words → Option Refusal → Came E
  queue_or_spoil queue words None = resting queued (queueing s (queue ++ request_bytes words ∷ []))
  queue_or_spoil queue words (Some refusal) = resting (refused refusal) (spoiling s)

  -- inside MULTI QUIT alone is run at once
  abbrev pub Queues : List (List ℕ) → Words → Bool → Came E → Type 0
  Queues queue words true came = RunsOne words came
  Queues queue words false came = came ≡ queue_or_spoil queue words (wrong_words (meant words))

  -- what a request brings, outside MULTI and inside it behind these queued commands
  abbrev pub Answers : Option (List (List ℕ)) → Words → Asked → Came E → Type 0
  Answers None words Multi came = came ≡ resting ok (begun s)
  Answers None words Exec came = came ≡ resting (refused ExecWithoutMulti) s
  Answers None words Discard came = came ≡ resting (refused DiscardWithoutMulti) s
  Answers None words (Watch keys) came = came ≡ resting ok (watching s (s.watched ++ map (watch sees s.db) keys))
  Answers None words Misnumbered came = came ≡ resting (refused WrongNumberOfArguments) s
  Answers None words Common came = RunsOne words came
  Answers (Some queue) words Multi came = came ≡ resting (refused NestedMulti) s
  Answers (Some queue) words Exec came = Executes queue came
  Answers (Some queue) words Discard came = came ≡ resting ok (closed s)
  Answers (Some queue) words (Watch keys) came = came ≡ resting (refused WatchInsideMulti) s
  Answers (Some queue) words Misnumbered came = came ≡ resting (refused WrongNumberOfArguments) (spoiling s)
  Answers (Some queue) words Common came = Queues queue words (asks_to_quit words) came

-- requests whose bytes these are were run, one behind the other, in some database
pub record RanAll {E : Type 0} (v : View E) (executes : ℕ → E → Words → List Part → E → Type 0) (moment : ℕ) (old : E) (kept : List (List ℕ)) (new : E) : Type 0 where
  pub db : ℕ
  pub asked : List Words
  pub are : AreQueued kept asked
  pub replies : List (List Part)
  pub way : path (executes moment) (v.choose old db) asked replies new

abbrev pub RanQueue : {E : Type 0} → View E → (ℕ → E → Words → List Part → E → Type 0) → ℕ → E → Option (List (List ℕ)) → E → Type 0
RanQueue v executes moment old None new = ⊥
RanQueue v executes moment old (Some kept) new = RanAll v executes moment old kept new
