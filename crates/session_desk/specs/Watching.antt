-- Watched keys, over what stands where (Redis documentation, "Transactions", "Optimistic locking using check-and-set").
use Rattle.std.specs.Prelude.{◌≡◌, ◌≢◌, ◌⊎◌, ℕ, ◌<◌, List, [], length, map, Option, None, Some, Bool, true, false, slice_index_or}
use Rattle.std.specs.List.{Contains, All}
use Rattle.std.specs.FinMap.{FinMap}
use Rattle.stream_groups.specs.Groups.{name_cmp}
use Rattle.key_marks.specs.Marked.{marks_at}
use Rattle.plain_world.specs.Words.{Words}
use Rattle.plain_world.specs.Worlds.{Entry}
use Rattle.request_queue.specs.Queued.{AreQueued}
use Rattle.session_desk.specs.Kept.{Look, no_look, Kept, session_at}
use Rattle.session_desk.specs.declared.session.Watch.{Watch}
use Rattle.session_desk.specs.declared.session.Session.{Session}

module _ (sees : ℕ → List ℕ → Option Entry) where
  -- a key of a database is watched
  abbrev pub watch : ℕ → List ℕ → Look
  watch db key = record { db = db; key = key; first = sees db key; changed = false }

  -- at a watched key something else was found, or stands now; or neither
  abbrev pub IsChange : Look → Bool → Type 0
  IsChange one true = (one.changed ≡ true) ⊎ (sees one.db one.key ≢ one.first)
  IsChange one false = (one.changed ≡ false) × (sees one.db one.key ≡ one.first)

  -- so it is at one of these
  pub record HasMoved (watched : List Look) : Type 0 where
    pub one : Look
    pub is : Contains watched one
    pub moved : IsChange one true

  -- at none of these
  abbrev pub IsStill : List Look → Type 0
  IsStill watched = All (λ one. IsChange one false) watched

  abbrev pub Moves : List Look → Bool → Type 0
  Moves watched true = HasMoved watched
  Moves watched false = IsStill watched

  -- a watched key was looked at
  pub record IsLooked (one new : Look) : Type 0 where
    pub is : new ≡ record { db = one.db; key = one.key; first = one.first; changed = new.changed }
    pub told : IsChange one new.changed

-- each element of a list is related to the one that stood in its place
pub record Each {A : Type 0} (none : A) (R : A → A → Type 0) (olds news : List A) : Type 0 where
  pub many : length news ≡ length olds
  pub each : (k : ℕ) → k < length olds → R (slice_index_or olds k none) (slice_index_or news k none)

-- so is each watched key of a session, and all else stays
pub record Reviews (R : Look → Look → Type 0) (s new : Kept) : Type 0 where
  pub db : new.db ≡ s.db
  pub queue : new.queue ≡ s.queue
  pub spoilt : new.spoilt ≡ s.spoilt
  pub many : length new.watched ≡ length s.watched
  pub each : (k : ℕ) → k < length s.watched → R (slice_index_or s.watched k no_look) (slice_index_or new.watched k no_look)

-- so it is with each session
abbrev pub AreReviewed : (Look → Look → Type 0) → List Kept → List Kept → Type 0
AreReviewed R olds news = (number : ℕ) → Reviews R (session_at olds number) (session_at news number)

-- the watched keys are of databases that there are
abbrev pub AreWithin : {T : Type 0} → List (Watch T) → Type 0
AreWithin watched = All (λ watch. watch.db < 16) watched

-- the keys that are watched
abbrev pub watched_keys : {T : Type 0} → List (Watch T) → List (List ℕ)
watched_keys watched = map (λ watch. watch.key.items) watched

-- each key of a list has its place among the marks
abbrev pub AreMarked : FinMap name_cmp (List ℕ) → List (List ℕ) → Type 0
AreMarked marks keys = (k : ℕ) → k < length keys → Contains (marks_at marks (slice_index_or keys k [])) k

-- what is queued are requests' bytes
abbrev pub IsQueued : Option (List (List ℕ)) → Type 0
IsQueued None = Unit {0}
IsQueued (Some kept) = (asked : List Words) × AreQueued kept asked

-- the session's database and those of its watched keys are, each of these keys is marked, and requests are queued
pub record IsWithin {T : Type 0} (s : Session T) : Type 0 where
  pub own : s.db < 16
  pub watched : AreWithin s.watched.items
  pub marked : AreMarked s.marks (watched_keys s.watched.items)
  pub queued : IsQueued s.queue

-- the session watches nothing
abbrev pub IsSilent : {T : Type 0} → Session T → Type 0
IsSilent s = s.watched.items ≡ []

-- unless it is told that some may watch, none does
abbrev pub NoneWatch : {T : Type 0} → List (Session T) → Bool → Type 0
NoneWatch sessions may_watch = may_watch ≡ false → All IsSilent sessions
