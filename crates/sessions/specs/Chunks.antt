-- What the serving of the bytes taken at once does.
use Rattle.std.specs.Prelude.{◌≡◌, ⊤, ℕ, ◌+◌, ◌≤◌, ◌<◌, ◌≢◌, List, [], ◌++◌, length, get_or, take, Bool, true, false}
use Rattle.std.specs.Io.KnownBytes.{IsAtEnd}
use Rattle.outside.specs.Streams.{SourceSeen, SinkSeen, TakesAll, TakesNone}
use Rattle.outside.specs.declared.pacing.Plan.{Plan}
use Rattle.plain_world.specs.Words.{Words}
use Rattle.plain_world.specs.declared.reply.Part.{Part}
use Rattle.plain_sessions.specs.Arrivals.{Sent, Arrival, Arrive}
use Rattle.plain_sessions.specs.Pieces.{Stop, Inside, Unknown, Brings}
use Rattle.resp_frames.specs.Puts.{PutsAll, PutsFront}
use Rattle.serving.specs.declared.ending.Ended.{Ended}
use Rattle.serving.specs.declared.ending.Ended.TheVariants as plain
use Rattle.serving.specs.Timed.{Timed}
use Rattle.session_hub.specs.Standing.{Standing, stop_of, StandsAt}
use Rattle.session_hub.specs.Stepping.{Hubbed}
use Rattle.sessions.specs.declared.slot.Slot.{Slot}
use Rattle.sessions.specs.declared.slot.Slot.TheVariants as slots
use Rattle.sessions.specs.declared.hearing.Heard.{Heard}
use Rattle.sessions.specs.declared.hearing.Heard.TheVariants as heard
use Rattle.sessions.specs.declared.pieces.Taken.{Taken}
use Rattle.sessions.specs.declared.pieces.Taken.TheVariants as takes
use Rattle.sessions.specs.Slots.{fed_of, HasCut}
use Rattle.sessions.specs.Hearing.{HeardAs}
use Rattle.sessions.specs.Telling.{Tells, Fails}

-- each session is kept as what it sent wants it
abbrev pub AllHeard : List Sent → List Slot → Type 0
AllHeard sent all = (number : ℕ) → number < length all → HeardAs number sent (get_or all number slots.Ended)

-- no feeder was fed more bytes than these
abbrev pub FedAtMost : ℕ → List Slot → Type 0
FedAtMost n all = (number : ℕ) → number < length all → fed_of (get_or all number slots.Ended) ≤ n

-- these are the first of the arrivals in the bytes
pub record AreFirst (sessions : ℕ) (bytes : List ℕ) (some : List Arrival) : Type 0 where
  pub arrivals : List Arrival
  pub stop : Stop
  pub brings : Brings sessions bytes arrivals stop
  pub others : List Arrival
  pub split : arrivals ≡ some ++ others

module _ {E : Type 0} (turns : ℕ → E → E → Type 0) (executes : ℕ → E → Words → List Part → E → Type 0)
    (works : ℕ → Plan → E → E → Type 0) where
  -- all that the bytes taken brought is answered
  pub record Running (first now : Timed E) (o o1 : SinkSeen) (pending taken : List ℕ) (hub : Hubbed) (all : List Slot)
      : Type 0 where
    pub sent : List Sent
    pub stands : StandsAt hub.sessions taken sent hub.standing
    pub arrivals : List Arrival
    pub arrived : Arrive [] sent arrivals
    pub tells : Tells turns executes works first now o o1 [] pending arrivals
    pub many : length all ≡ hub.sessions
    pub heard : AllHeard sent all

  -- of the first of what the bytes taken brought only a front is written
  pub record StopsPart (sessions : ℕ) (first : Timed E) (o o1 : SinkSeen) (taken : List ℕ) : Type 0 where
    pub some : List Arrival
    pub are : AreFirst sessions taken some
    pub last : Timed E
    pub fails : Fails turns executes works first last o o1 [] some

  -- the first of it is answered
  pub record StopsFirst (sessions : ℕ) (first : Timed E) (o o1 : SinkSeen) (pending taken : List ℕ) : Type 0 where
    pub some : List Arrival
    pub are : AreFirst sessions taken some
    pub last : Timed E
    pub tells : Tells turns executes works first last o o1 [] pending some

  -- What `serve_chunk` answers, whatever was taken before. At first so many bytes were.
  abbrev pub ServesChunk : List ℕ → ℕ → Hubbed → Hubbed → List Slot → List Slot → Timed E → Timed E → SinkSeen → SinkSeen
      → List ℕ → List ℕ → Heard → Type 0
  ServesChunk bytes count hub hub' all all' before after old new pending pending' heard.On =
      ((first : Timed E) (o : SinkSeen) (taken : List ℕ) → Running first before o old pending taken hub all
      → Running first after o new pending' (taken ++ bytes) hub' all')
      × FedAtMost (count + length bytes) all'
  ServesChunk bytes count hub hub' all all' before after old new pending pending' heard.Fault =
      (first : Timed E) (o : SinkSeen) (taken : List ℕ) → Running first before o old pending taken hub all
      → StopsPart hub.sessions first o new (taken ++ bytes)
  ServesChunk bytes count hub hub' all all' before after old new pending pending' heard.Memory =
      (first : Timed E) (o : SinkSeen) (taken : List ℕ) → Running first before o old pending taken hub all
      → StopsFirst hub.sessions first o new pending' (taken ++ bytes)

-- bytes were taken, at most so many
pub record TakesBytes (old new : SourceSeen) (most count : ℕ) (into : List ℕ) : Type 0 where
  pub some : 0 < count
  pub few : count ≤ most
  pub long : most ≤ length into
  pub took : TakesAll old new (take count into)

-- what `take_bytes` answers
abbrev pub TakenIs : SourceSeen → SourceSeen → ℕ → List ℕ → Taken → Type 0
TakenIs old new most into (takes.Bytes count) = TakesBytes old new most count into
TakenIs old new most into takes.End = TakesAll old new [] × IsAtEnd new.told
TakenIs old new most into takes.Fault = TakesNone old new

-- nothing is pending where the run goes on
abbrev pub AllPut : List ℕ → Heard → Type 0
AllPut pending heard.On = pending ≡ []
AllPut pending heard.Fault = ⊤
AllPut pending heard.Memory = ⊤

-- what `finish` answers: what it was asked to, where all that was pending is put
pub data Finishes (old new : SinkSeen) (pending pending' : List ℕ) (wanted result : Heard) : Type 0 where
  HasPut : result ≡ wanted → PutsAll old new pending → pending' ≡ [] → Finishes old new pending pending' wanted result
  Failed : result ≡ heard.Fault → PutsFront old new pending → Finishes old new pending pending' wanted result

-- what `is_unknown` answers
abbrev pub IsUnknownNow : Standing → Bool → Type 0
IsUnknownNow standing true = stop_of standing ≡ Unknown
IsUnknownNow standing false = stop_of standing ≢ Unknown

-- what `ended_at_end` answers
pub data EndsThere (standing : Standing) (all : List Slot) (ended : Ended) : Type 0 where
  at_piece : stop_of standing ≡ Inside → ended ≡ plain.Cut → EndsThere standing all ended
  at_request : HasCut all true → ended ≡ plain.Cut → EndsThere standing all ended
  at_outside : stop_of standing ≢ Inside → HasCut all false → ended ≡ plain.Whole → EndsThere standing all ended
