-- What an arrival does to its session, and which commands it runs (Redis documentation, "Transactions").
use Rattle.std.specs.Prelude.{◌≡◌, ◌≢◌, ℕ, ◌<◌, List, [], ◌∷◌, ◌++◌, map, flat_map, length, Option, None, Some, Bool, true, false}
use Rattle.std.specs.Prelude.{Result, Err, codes, bytes_eq, if◌then◌else◌}
use Rattle.std.specs.List.{Contains}
use Rattle.plain_world.specs.Words.{Words, in_lower_case}
use Rattle.plain_world.specs.Worlds.{World, Entry, live, look_in, selecting}
use Rattle.plain_world.specs.declared.refusal.Refusal.{Refusal}
use Rattle.plain_world.specs.declared.refusal.Refusal.TheVariants.{UnknownCommand, WrongNumberOfArguments, NestedMulti, ExecAbort, ExecWithoutMulti, DiscardWithoutMulti, WatchInsideMulti}
use Rattle.plain_world.specs.declared.reply.Part.{Part}
use Rattle.plain_world.specs.declared.reply.Part.TheVariants.{Simple, Refused, NullArray, Array}
use Rattle.plain_model.specs.Meant.{meant, asks_to_quit}
use Rattle.plain_model.specs.Runs.{Call, Turn, calls_of, replies_of, run}
use Rattle.plain_model.specs.declared.command.Command.{Command}

-- ---- what words ask of a session

-- MULTI, EXEC, DISCARD, WATCH with its keys, one of these with a wrong number of words, or any other command
pub data Asked : Type 0 where
  Multi : Asked
  Exec : Asked
  Discard : Asked
  Watch : List (List ℕ) → Asked
  Misnumbered : Asked
  Common : Asked

abbrev pub alone : Asked → Words → Asked
alone asked [] = asked
alone asked (word ∷ words) = Misnumbered

abbrev pub with_keys : Words → Asked
with_keys [] = Misnumbered
with_keys (key ∷ keys) = Watch (key ∷ keys)

abbrev pub asked_by : List ℕ → Words → Asked
asked_by name words =
    if bytes_eq name (codes "multi") then alone Multi words
    else (if bytes_eq name (codes "exec") then alone Exec words
    else (if bytes_eq name (codes "discard") then alone Discard words
    else (if bytes_eq name (codes "watch") then with_keys words else Common)))

-- the name is looked up, whatever its case
abbrev pub asked_of : Words → Asked
asked_of [] = Common
asked_of (name ∷ words) = asked_by (in_lower_case name) words

-- ---- what is kept of a session

-- a watched key ("Optimistic locking using check-and-set"): what stood there at the WATCH, and what stood there before
-- and after each arrival since
pub record Watched : Type 0 where
  pub db : ℕ
  pub key : List ℕ
  pub first : Option Entry
  pub since : List (Option Entry)

-- its database; inside MULTI the queued commands; whether these are spoilt; what it watches
pub record Session : Type 0 where
  pub db : ℕ
  pub queue : Option (List Words)
  pub spoilt : Bool
  pub watched : List Watched

abbrev pub new_session : Session
new_session = record { db = 0; queue = None; spoilt = false; watched = [] }

-- behind MULTI
abbrev pub begun : Session → Session
begun s = record { db = s.db; queue = Some []; spoilt = false; watched = s.watched }

-- behind EXEC and DISCARD: the queue is gone, and nothing is watched
abbrev pub closed : Session → Session
closed s = record { db = s.db; queue = None; spoilt = false; watched = [] }

-- with this queue
abbrev pub queueing : Session → List Words → Session
queueing s queue = record { db = s.db; queue = Some queue; spoilt = s.spoilt; watched = s.watched }

-- what is queued is spoilt
abbrev pub spoiling : Session → Session
spoiling s = record { db = s.db; queue = s.queue; spoilt = true; watched = s.watched }

-- a key of a database is watched from this live world on
abbrev pub watch : World → ℕ → List ℕ → Watched
watch world db key = record { db = db; key = key; first = look_in world db key; since = [] }

-- these keys of its database are watched too
abbrev pub watching : World → List (List ℕ) → Session → Session
watching world keys s =
    record {
      db = s.db;
      queue = s.queue;
      spoilt = s.spoilt;
      watched = map (watch world s.db) keys ++ s.watched;
    }

-- what stands at a watched key in a live world is noted
abbrev pub noting : World → Watched → Watched
noting world one =
    record { db = one.db; key = one.key; first = one.first; since = look_in world one.db one.key ∷ one.since }

-- what stands at each key that the session watches is noted
abbrev pub sees : World → Session → Session
sees world s =
    record { db = s.db; queue = s.queue; spoilt = s.spoilt; watched = map (noting world) s.watched }

-- at one of the watched keys another value, or the value with another deadline, stood before or after an arrival since
pub record HasChanged (watched : List Watched) : Type 0 where
  pub one : Watched
  pub is : Contains watched one
  pub entry : Option Entry
  pub seen : Contains one.since entry
  pub other : entry ≢ one.first

-- behind commands that it ran, its database is the one that they leave selected
abbrev pub selected_after : Session → List Turn → World → Session
selected_after s [] new = s
selected_after s (turn ∷ turns) new =
    record { db = new.selected; queue = s.queue; spoilt = s.spoilt; watched = s.watched }

-- ---- the replies

abbrev pub ok : List Part
ok = Simple (codes "OK") ∷ []

abbrev pub queued : List Part
queued = Simple (codes "QUEUED") ∷ []

abbrev pub null_array : List Part
null_array = NullArray ∷ []

abbrev pub refused : Refusal → List Part
refused refusal = Refused refusal ∷ []

-- these replies, as one array
abbrev pub array_of : List (List Part) → List Part
array_of replies = Array (length replies) ∷ flat_map (λ (reply : List Part). reply) replies

-- ---- what an arrival runs, answers and leaves

-- what came of an arrival: the commands that it ran, its reply, the world and its session as they are left
pub record Left : Type 0 where
  pub ran : List Turn
  pub reply : List Part
  pub world : World
  pub session : Session

-- nothing is run
abbrev pub without_turn : World → List Part → Session → Left
without_turn old reply s = record { ran = []; reply = reply; world = old; session = s }

-- a request, at this moment
abbrev pub called_at : ℕ → Words → Call
called_at moment words = record { words = words; moment = moment }

-- turns that follow one another from the world with this database selected; without any the world stays
abbrev pub run_in : ℕ → World → ℕ → List Turn → World → Type 0
run_in seed old db [] new = new ≡ old
run_in seed old db (turn ∷ turns) new = run seed (selecting old db) (turn ∷ turns) new

-- the name of the command, or the number of its words, is wrong
abbrev pub wrong_words : Result Command Refusal → Option Refusal
wrong_words (Err UnknownCommand) = Some UnknownCommand
wrong_words (Err WrongNumberOfArguments) = Some WrongNumberOfArguments
wrong_words other = None

-- under this seed of the hash, at this moment, from the old world on, of a session
module _ (seed moment : ℕ) (old : World) (s : Session) where
  -- these commands are run in the session's database, one of 16, one behind the other, all at this moment
  pub record Runs (asked : List Words) (behind : Session) (left : Left) : Type 0 where
    pub known : s.db < 16
    pub calls : calls_of left.ran ≡ map (called_at moment) asked
    pub ran : run_in seed old s.db left.ran left.world
    pub session : left.session ≡ selected_after behind left.ran left.world

  -- one command is run at once
  pub record RunsOne (words : Words) (left : Left) : Type 0 where
    pub runs : Runs (words ∷ []) s left
    pub reply : replies_of left.ran ≡ left.reply ∷ []

  -- EXEC inside MULTI ("Usage", "Errors inside a transaction", "Optimistic locking using check-and-set"): spoilt
  -- commands are given up; so are the others where a watched key has changed; else they are run at once
  pub data Executes (queue : List Words) (left : Left) : Type 0 where
    aborts : s.spoilt ≡ true → left ≡ without_turn old (refused ExecAbort) (closed s) → Executes queue left
    changed : s.spoilt ≡ false → HasChanged s.watched → left ≡ without_turn old null_array (closed s)
        → Executes queue left
    runs_queue : s.spoilt ≡ false → (HasChanged s.watched → ⊥) → Runs queue (closed s) left
        → left.reply ≡ array_of (replies_of left.ran) → Executes queue left

  -- a command is queued; one with a wrong name or number of words spoils what is queued
  abbrev pub queue_or_spoil : List Words → Words → Option Refusal → Left
  queue_or_spoil queue words None = without_turn old queued (queueing s (queue ++ words ∷ []))
  queue_or_spoil queue words (Some refusal) = without_turn old (refused refusal) (spoiling s)

  -- inside MULTI QUIT alone is run at once
  abbrev pub Queues : List Words → Words → Bool → Left → Type 0
  Queues queue words true left = RunsOne words left
  Queues queue words false left = left ≡ queue_or_spoil queue words (wrong_words (meant words))

  -- what a request brings, outside MULTI and inside it behind these queued commands ("Usage", "Errors inside a
  -- transaction", "Discarding the command queue")
  abbrev pub Answers : Option (List Words) → Words → Asked → Left → Type 0
  Answers None words Multi left = left ≡ without_turn old ok (begun s)
  Answers None words Exec left = left ≡ without_turn old (refused ExecWithoutMulti) s
  Answers None words Discard left = left ≡ without_turn old (refused DiscardWithoutMulti) s
  Answers None words (Watch keys) left = left ≡ without_turn old ok (watching (live old moment) keys s)
  Answers None words Misnumbered left = left ≡ without_turn old (refused WrongNumberOfArguments) s
  Answers None words Common left = RunsOne words left
  Answers (Some queue) words Multi left = left ≡ without_turn old (refused NestedMulti) s
  Answers (Some queue) words Exec left = Executes queue left
  Answers (Some queue) words Discard left = left ≡ without_turn old ok (closed s)
  Answers (Some queue) words (Watch keys) left = left ≡ without_turn old (refused WatchInsideMulti) s
  Answers (Some queue) words Misnumbered left =
      left ≡ without_turn old (refused WrongNumberOfArguments) (spoiling s)
  Answers (Some queue) words Common left = Queues queue words (asks_to_quit words) left
