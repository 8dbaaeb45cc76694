-- What a desk keeps of its sessions.
use Rattle.std.specs.Prelude.{ℕ, List, [], map, Option, None, Some, Bool, true, false, ◌==◌, slice_index_or, if◌then◌else◌}
use Rattle.plain_world.specs.Worlds.{Entry}
use Rattle.session_desk.specs.declared.session.Watch.{Watch}
use Rattle.session_desk.specs.declared.session.Session.{Session}

-- a watched key: what stood there at the WATCH, and whether something else was found there since
pub record Look : Type 0 where
  pub db : ℕ
  pub key : List ℕ
  pub first : Option Entry
  pub changed : Bool

abbrev pub no_look : Look
no_look = record { db = 0; key = []; first = None; changed = false }

-- of a session its database; inside MULTI the bytes of the queued requests; whether these are spoilt; what it watches
pub record Kept : Type 0 where
  pub db : ℕ
  pub queue : Option (List (List ℕ))
  pub spoilt : Bool
  pub watched : List Look

-- of a session that said nothing yet
abbrev pub new_kept : Kept
new_kept = record { db = 0; queue = None; spoilt = false; watched = [] }

-- behind MULTI
abbrev pub begun : Kept → Kept
begun s = record { db = s.db; queue = Some []; spoilt = false; watched = s.watched }

-- behind EXEC and DISCARD
abbrev pub closed : Kept → Kept
closed s = record { db = s.db; queue = None; spoilt = false; watched = [] }

-- with this queue
abbrev pub queueing : Kept → List (List ℕ) → Kept
queueing s queue = record { db = s.db; queue = Some queue; spoilt = s.spoilt; watched = s.watched }

-- what is queued is spoilt
abbrev pub spoiling : Kept → Kept
spoiling s = record { db = s.db; queue = s.queue; spoilt = true; watched = s.watched }

-- in this database
abbrev pub at_db : Kept → ℕ → Kept
at_db s db = record { db = db; queue = s.queue; spoilt = s.spoilt; watched = s.watched }

-- with these watched keys
abbrev pub watching : Kept → List Look → Kept
watching s watched = record { db = s.db; queue = s.queue; spoilt = s.spoilt; watched = watched }

-- what is kept of the sessions, with this of one of them
abbrev pub with_kept : (ℕ → Kept) → ℕ → Kept → ℕ → Kept
with_kept sessions number s other = if other == number then s else sessions other

-- what is kept of the session of a number; one that isn't kept said nothing yet
abbrev pub session_at : List Kept → ℕ → Kept
session_at sessions number = slice_index_or sessions number new_kept

-- a desk: its engine, what is kept of the sessions, the one whose requests follow, and whether memory was refused
pub record DeskSeen (E : Type 0) : Type 0 where
  pub engine : E
  pub sessions : List Kept
  pub current : ℕ
  pub is_spent : Bool

-- a desk turns to a session
abbrev pub turned : {E : Type 0} → DeskSeen E → ℕ → DeskSeen E
turned desk session =
    record { engine = desk.engine; sessions = desk.sessions; current = session; is_spent = desk.is_spent }

-- what the code keeps, where it is known what is told of a key
module _ {T : Type 0} (told : T → Option Entry) where
  abbrev pub look_of : Watch T → Look
  look_of watch = record { db = watch.db; key = watch.key.items; first = told watch.first; changed = watch.has_changed }

  abbrev pub looks : List (Watch T) → List Look
  looks watched = map look_of watched

  abbrev pub kept_of : Session T → Kept
  kept_of s = record { db = s.db; queue = s.queue; spoilt = s.is_spoilt; watched = looks s.watched.items }

  abbrev pub all_kept : List (Session T) → List Kept
  all_kept sessions = map kept_of sessions
