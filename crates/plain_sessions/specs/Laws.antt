-- Statements of the laws.
use Rattle.std.specs.Prelude.{◌≡◌, ℕ, ◌<◌, ◌≤◌, ◌^◌, List, [], ◌∷◌, ◌++◌, map, flat_map, length, Option, None, Some, false}
use Rattle.std.specs.List.{AllByRecursion}
use Rattle.outside.specs.Clocks.{Answers as ClockAnswers}
use Rattle.plain_world.specs.Words.{Words}
use Rattle.plain_world.specs.Worlds.{World}
use Rattle.plain_model.specs.Coverage.{IsCovered}
use Rattle.plain_model.specs.Runs.{Call, Turn, calls_of, replies_of, run}
use Rattle.resp_frames.specs.Ends.{End, Frames}
use Rattle.plain_sessions.specs.Arrivals.{Sent, Arrival, Said, Asks, Breaks, Says, Arrive, arrival, said_by, bytes_of, sent_by, said_until_quit, broken}
use Rattle.plain_sessions.specs.Pieces.{Stop, Pieced, Brings}
use Rattle.plain_sessions.specs.Transactions.{asked_of, Exec, Common, Session, HasChanged, null_array, called_at}
use Rattle.plain_sessions.specs.Histories.{Room, Deed, asking, Does, history, one_list, Timed}
use Rattle.plain_sessions.specs.Units.{unit}

-- ---- pieces and arrivals

-- any bytes are pieces and a rest, however many sessions there are
abbrev pub PiecesAreThere : Type 0
PiecesAreThere = (sessions : ℕ) (bytes : List ℕ) → (sent : List Sent) × (stop : Stop) × Pieced sessions bytes sent stop

-- and in one way
abbrev pub PiecesAreOne : Type 0
PiecesAreOne =
    (sessions : ℕ) (bytes : List ℕ) (sent other : List Sent) (stop stop' : Stop) → Pieced sessions bytes sent stop
    → Pieced sessions bytes other stop' → (sent ≡ other) × (stop ≡ stop')

-- any bytes have arrivals
abbrev pub ArrivalsAreThere : Type 0
ArrivalsAreThere =
    (sessions : ℕ) (bytes : List ℕ) → (arrivals : List Arrival) × (stop : Stop) × Brings sessions bytes arrivals stop

-- and one list of them
abbrev pub ArrivalsAreOne : Type 0
ArrivalsAreOne =
    (sessions : ℕ) (bytes : List ℕ) (one other : List Arrival) (stop stop' : Stop) → Brings sessions bytes one stop
    → Brings sessions bytes other stop' → (one ≡ other) × (stop ≡ stop')

-- whatever bytes follow, the arrivals go on
abbrev pub ArrivalsOnlyGrow : Type 0
ArrivalsOnlyGrow =
    (sessions : ℕ) (front back : List ℕ) (some all : List Arrival) (stop stop' : Stop)
    → Brings sessions front some stop → Brings sessions (front ++ back) all stop'
    → (new : List Arrival) × (all ≡ some ++ new)

-- each session's arrivals are what its own bytes say, whatever the other sessions send between them
abbrev pub EachSessionIsAStream : Type 0
EachSessionIsAStream =
    (sent : List Sent) (arrivals : List Arrival) (number : ℕ) → Arrive [] sent arrivals
    → Says (bytes_of number sent) (said_by number arrivals)

-- where one session alone sends its bytes, their frames arrive: the requests up to the first QUIT, or all and the broken
-- rule
abbrev pub OneStreamIsASession : Type 0
OneStreamIsASession =
    (number : ℕ) (bytes : List ℕ) (asked : List Words) (end : End) → Frames bytes asked end
    → Arrive [] (sent_by number bytes) (map (arrival number) (said_until_quit asked (broken end)))

-- ---- units

-- units tell their sessions and what is told, whatever stands behind them
abbrev pub UnitsAreApart : Type 0
UnitsAreApart =
    (session session' : ℕ) (told told' behind behind' : List ℕ) → session < 2 ^ 16 → session' < 2 ^ 16
    → length told < 2 ^ 64 → length told' < 2 ^ 64
    → unit session told ++ behind ≡ unit session' told' ++ behind'
    → (session ≡ session') × (told ≡ told') × (behind ≡ behind')

-- ---- histories

-- moments never fall
abbrev pub MomentsNeverFall : Type 0
MomentsNeverFall =
    (last last' : ℕ) (clock clock' : Option ClockAnswers) (deeds : List Deed) → Timed last clock deeds last' clock'
    → (last ≤ last') × AllByRecursion (λ (deed : Deed). (last ≤ deed.moment) × (deed.moment ≤ last')) deeds

-- the commands that a history ran are one run, in which those of one EXEC are neighbours: before the first one of each
-- arrival its session's database is selected, which is answered OK at the same moment
abbrev pub HistoriesAreRuns : Type 0
HistoriesAreRuns =
    (seed : ℕ) (old : Room) (deeds : List Deed) (new : Room) → history seed old deeds new
    → run seed old.world (one_list deeds) new.world

-- each complete scan of a history, whichever session's, reports what stayed throughout it
abbrev pub HistoriesAreCovered : Type 0
HistoriesAreCovered =
    (seed : ℕ) (old : Room) (deeds : List Deed) (new : Room) → history seed old deeds new → IsCovered (one_list deeds)

-- EXEC is asked inside MULTI, and nothing spoilt the commands
pub record AsksExec (deed : Deed) (s : Session) : Type 0 where
  pub words : Words
  pub asks : deed.arrival.said ≡ Asks words
  pub exec : asked_of words ≡ Exec
  pub queue : List Words
  pub inside : s.queue ≡ Some queue
  pub fine : s.spoilt ≡ false

-- it is answered by the null array exactly where a watched key has changed
abbrev pub NullWhereChanged : Type 0
NullWhereChanged =
    (seed : ℕ) (old : Room) (deed : Deed) (new : Room) → Does seed old deed new → AsksExec deed (asking old deed)
    → (HasChanged (asking old deed).watched → deed.left.reply ≡ null_array)
    × (deed.left.reply ≡ null_array → HasChanged (asking old deed).watched)

-- ---- one session

-- a session asks for a command that is none of MULTI, EXEC, DISCARD and WATCH
pub record IsPlain (number : ℕ) (deed : Deed) : Type 0 where
  pub words : Words
  pub asks : deed.arrival ≡ arrival number (Asks words)
  pub common : asked_of words ≡ Common

-- a request, at its moment
abbrev pub call_said : ℕ → Said → List Call
call_said moment (Asks words) = called_at moment words ∷ []
call_said moment (Breaks rule at) = []

abbrev pub calls_said : List Deed → List Call
calls_said deeds = flat_map (λ deed. call_said deed.moment deed.arrival.said) deeds

-- the requests are answered one behind the other, as those of one stream
pub record IsOneStream (seed : ℕ) (old : World) (deeds : List Deed) (new : World) : Type 0 where
  pub turns : List Turn
  pub calls : calls_of turns ≡ calls_said deeds
  pub replies : map (λ deed. deed.left.reply) deeds ≡ replies_of turns
  pub ran : run seed old turns new

-- where one session alone asks, for plain commands, and its database is the selected one, what it is answered is what one
-- stream is answered
abbrev pub OneSessionIsARun : Type 0
OneSessionIsARun =
    (seed number : ℕ) (old : Room) (deeds : List Deed) (new : Room) → history seed old deeds new
    → (old.sessions number).queue ≡ None → (old.sessions number).db ≡ old.world.selected
    → AllByRecursion (IsPlain number) deeds → IsOneStream seed old.world deeds new.world
