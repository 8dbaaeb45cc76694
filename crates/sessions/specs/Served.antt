-- What the serving of sessions answers: from bytes in to bytes out.
use Rattle.std.specs.Prelude.{◌≡◌, ◌≢◌, ℕ, ◌<◌, ◌≤◌, List, [], ◌++◌, length, Option}
use Rattle.std.specs.Io.KnownBytes.{Consumes, IsAtEnd}
use Rattle.outside.specs.Streams.{SourceSeen, SinkSeen}
use Rattle.outside.specs.declared.pacing.Plan.{Plan}
use Rattle.plain_world.specs.Words.{Words}
use Rattle.plain_world.specs.declared.reply.Part.{Part}
use Rattle.plain_sessions.specs.Arrivals.{Sent, bytes_of, Arrival, Arrive}
use Rattle.plain_sessions.specs.Pieces.{Stop, Inside, Unknown, Pieced}
use Rattle.resp_frames.specs.Ends.{Cut, Frames}
use Rattle.resp_frames.specs.Puts.{PutsAll, PutsFront}
use Rattle.serving.specs.Served.{CountsReads, CountsWrites}
use Rattle.serving.specs.Timed.{Timed}
use Rattle.serving.specs.declared.ending.Ended.{Ended}
use Rattle.serving.specs.declared.ending.Ended.TheVariants as plain
use Rattle.session_hub.specs.Hearing.{GoOn}
use Rattle.sessions.specs.declared.ending.SessionsEnded.{SessionsEnded}
use Rattle.sessions.specs.declared.ending.SessionsEnded.TheVariants as endings
use Rattle.sessions.specs.Way.{Told, arrivals_in, units_told, way, CutWay}

-- ---- how it ends

-- a session that has not ended stops inside a request
pub record IsCutSession (number : ℕ) (sent : List Sent) : Type 0 where
  pub asked : List Words
  pub frames : Frames (bytes_of number sent) asked Cut
  pub go_on : GoOn asked

-- the input stops inside a piece, or one of the sessions inside a request
pub data IsCutInput (sessions : ℕ) (stop : Stop) (sent : List Sent) : Type 0 where
  in_piece : stop ≡ Inside → IsCutInput sessions stop sent
  in_request : (number : ℕ) → number < sessions → IsCutSession number sent → IsCutInput sessions stop sent

-- what the end of the input comes to
pub data EndsInput (sessions : ℕ) (stop : Stop) (sent : List Sent) (ended : Ended) : Type 0 where
  cut : IsCutInput sessions stop sent → ended ≡ plain.Cut → EndsInput sessions stop sent ended
  not_cut : (IsCutInput sessions stop sent → ⊥) → ended ≡ plain.Whole → EndsInput sessions stop sent ended

-- what ends a run whose arrivals are all answered, in this order: a number that no session has; the limit's number of bytes
-- was taken; a take fails; a take finds the end of the input
pub data EndsBy (sessions limit : ℕ) (taken : List ℕ) (stop : Stop) (sent : List Sent) (left : Option (List ℕ))
    (ended : SessionsEnded) : Type 0 where
  unknown : stop ≡ Unknown → ended ≡ endings.Unknown → EndsBy sessions limit taken stop sent left ended
  at_limit : stop ≢ Unknown → length taken ≡ limit → ended ≡ endings.Plain plain.Limit
      → EndsBy sessions limit taken stop sent left ended
  take_fails : stop ≢ Unknown → length taken ≢ limit → ended ≡ endings.Plain plain.ReadFault
      → EndsBy sessions limit taken stop sent left ended
  finds_end : stop ≢ Unknown → length taken ≢ limit → IsAtEnd left → (at_end : Ended)
      → EndsInput sessions stop sent at_end → ended ≡ endings.Plain at_end
      → EndsBy sessions limit taken stop sent left ended

-- the counts of faults rose exactly where a take or a put failed
abbrev pub Counts : SourceSeen → SourceSeen → SinkSeen → SinkSeen → SessionsEnded → Type 0
Counts input input' old new (endings.Plain ended) = CountsReads input input' ended × CountsWrites old new ended
Counts input input' old new endings.Unknown = (input'.faults ≡ input.faults) × (new.faults ≡ old.faults)

-- ---- what was answered

module _ {E : Type 0} (turns : ℕ → E → E → Type 0) (executes : ℕ → E → Words → List Part → E → Type 0)
    (works : ℕ → Plan → E → E → Type 0) where
  -- all of the arrivals are answered, and all units are written
  pub record TellsAllOf (arrivals : List Arrival) (first last : Timed E) (old new : SinkSeen) : Type 0 where
    pub tolds : List Told
    pub are : arrivals_in tolds ≡ arrivals
    pub went : way turns executes works first tolds last
    pub wrote : PutsAll old new (units_told tolds)

  -- the first of the arrivals are answered, and their units are written
  pub record TellsFirst (arrivals : List Arrival) (first : Timed E) (old new : SinkSeen) : Type 0 where
    pub tolds : List Told
    pub others : List Arrival
    pub split : arrivals ≡ arrivals_in tolds ++ others
    pub last : Timed E
    pub went : way turns executes works first tolds last
    pub wrote : PutsAll old new (units_told tolds)

  -- the first of the arrivals are answered, and of their units a front is written
  pub record TellsPart (arrivals : List Arrival) (first : Timed E) (old new : SinkSeen) : Type 0 where
    pub tolds : List Told
    pub others : List Arrival
    pub split : arrivals ≡ arrivals_in tolds ++ others
    pub last : Timed E
    pub went : CutWay turns executes works first tolds last
    pub wrote : PutsFront old new (units_told tolds)

  -- all, and then one of these endings; a failed put; want of memory
  pub data Ends (sessions limit : ℕ) (taken : List ℕ) (stop : Stop) (sent : List Sent) (arrivals : List Arrival)
      (left : Option (List ℕ)) (first last : Timed E) (old new : SinkSeen) (ended : SessionsEnded) : Type 0 where
    answered : TellsAllOf arrivals first last old new → EndsBy sessions limit taken stop sent left ended
        → Ends sessions limit taken stop sent arrivals left first last old new ended
    write_fault : TellsPart arrivals first old new → ended ≡ endings.Plain plain.WriteFault
        → Ends sessions limit taken stop sent arrivals left first last old new ended
    no_memory : TellsFirst arrivals first old new → ended ≡ endings.Plain plain.Memory
        → Ends sessions limit taken stop sent arrivals left first last old new ended

  -- The bytes taken are pieces, by which these arrivals come. The units written are those of these arrivals, in this
  -- order, each answered on the engine's way.
  pub record Served (sessions limit : ℕ) (input input' : SourceSeen) (old new : SinkSeen) (first last : Timed E)
      (ended : SessionsEnded) : Type 0 where
    pub taken : List ℕ
    pub took : Consumes input.told input'.told taken
    pub few : length taken ≤ limit
    pub sent : List Sent
    pub stop : Stop
    pub pieced : Pieced sessions taken sent stop
    pub arrivals : List Arrival
    pub arrive : Arrive [] sent arrivals
    pub ends : Ends sessions limit taken stop sent arrivals input'.told first last old new ended
    pub counts : Counts input input' old new ended
