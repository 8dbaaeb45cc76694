-- What a server may answer to the arrivals of its sessions (Redis documentation, "Transactions").
use Rattle.std.specs.Prelude.{◌≡◌, ℕ, ◌==◌, List, [], ◌∷◌, map, flat_map, Option, codes, if◌then◌else◌}
use Rattle.std.specs.Fmt.{decimal}
use Rattle.outside.specs.Clocks.{Answers as ClockAnswers, Tells}
use Rattle.plain_world.specs.Words.{Words}
use Rattle.plain_world.specs.Worlds.{World, live}
use Rattle.plain_model.specs.Runs.{Turn, moment_after}
use Rattle.plain_sessions.specs.Arrivals.{Said, Asks, Breaks, Arrival}
use Rattle.plain_sessions.specs.Transactions.{Session, new_session, sees, Left, without_turn, asked_of, Answers, called_at, ok}

-- the world, and what is kept of each session
pub record Room : Type 0 where
  pub world : World
  pub sessions : ℕ → Session

-- a room in which no session has said a word
abbrev pub room_of : World → Room
room_of world = record { world = world; sessions = λ number. new_session }

-- an arrival, its moment, the live world that it found, the database that its session had, and what came of it
pub record Deed : Type 0 where
  pub arrival : Arrival
  pub moment : ℕ
  pub found : World
  pub db : ℕ
  pub left : Left

-- what comes of what is said; a broken rule changes nothing
abbrev pub DoesSaid : ℕ → ℕ → World → Session → Said → Left → Type 0
DoesSaid seed moment old s (Asks words) left = Answers seed moment old s s.queue words (asked_of words) left
DoesSaid seed moment old s (Breaks rule at) left = left ≡ without_turn old [] s

-- every session notes what stands at the keys that it watches, in this live world
abbrev pub all_see : World → (ℕ → Session) → ℕ → Session
all_see world sessions number = sees world (sessions number)

-- the sessions, one of which is now this
abbrev pub with_session : (ℕ → Session) → ℕ → Session → ℕ → Session
with_session sessions number s other = if other == number then s else sessions other

-- the session that an arrival is of, behind the look before it
abbrev pub asking : Room → Deed → Session
asking old deed = sees deed.found (old.sessions deed.arrival.session)

-- one arrival: what is watched is noted before it and after it, at its moment
pub record Does (seed : ℕ) (old : Room) (deed : Deed) (new : Room) : Type 0 where
  pub found : deed.found ≡ live old.world deed.moment
  pub selected : deed.db ≡ (asking old deed).db
  pub does : DoesSaid seed deed.moment old.world (asking old deed) deed.arrival.said deed.left
  pub leaves : new ≡ record {
    world = deed.left.world;
    sessions = all_see (live deed.left.world deed.moment)
        (with_session (all_see deed.found old.sessions) deed.arrival.session deed.left.session);
  }

-- the arrivals follow one another from the old room on, and leave the new one
abbrev pub history : ℕ → Room → List Deed → Room → Type 0
history seed old [] new = new ≡ old
history seed old (deed ∷ deeds) new = (mid : Room) × Does seed old deed mid × history seed mid deeds new

abbrev pub arrivals_of : List Deed → List Arrival
arrivals_of deeds = map (λ deed. deed.arrival) deeds

-- ---- the moments

-- behind a last moment: the clock is read once for a request, whose moment is the greatest of the answers so far; a
-- broken rule has the last moment
abbrev pub Times : ℕ → Option ClockAnswers → Said → ℕ → Option ClockAnswers → Type 0
Times last clock (Asks words) moment clock' = (now : ℕ) × Tells clock now clock' × (moment ≡ moment_after last now)
Times last clock (Breaks rule at) moment clock' = (moment ≡ last) × (clock' ≡ clock)

-- from a last moment and the clock's answers that follow to those behind the arrivals
abbrev pub Timed : ℕ → Option ClockAnswers → List Deed → ℕ → Option ClockAnswers → Type 0
Timed last clock [] last' clock' = (last' ≡ last) × (clock' ≡ clock)
Timed last clock (deed ∷ deeds) last' clock' =
    (mid : Option ClockAnswers) × Times last clock deed.arrival.said deed.moment mid
    × Timed deed.moment mid deeds last' clock'

-- ---- the one list of commands

-- a database is selected at a moment in a live world, which is answered OK
abbrev pub select_words : ℕ → Words
select_words db = codes "SELECT" ∷ decimal db ∷ []

abbrev pub select_turn : World → ℕ → ℕ → Turn
select_turn found moment db =
    record {
      call = called_at moment (select_words db);
      seen = found;
      reply = ok;
    }

-- turns, with this one before the first
abbrev pub behind_select : Turn → List Turn → List Turn
behind_select first [] = []
behind_select first (turn ∷ turns) = first ∷ turn ∷ turns

-- the commands that an arrival ran, with the selection of its session's database before the first
abbrev pub turns_of : Deed → List Turn
turns_of deed = behind_select (select_turn deed.found deed.moment deed.db) deed.left.ran

abbrev pub one_list : List Deed → List Turn
one_list deeds = flat_map turns_of deeds
