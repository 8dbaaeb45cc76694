-- What a plain server may answer several sessions, and what serving them by it comes to.
use Rattle.std.specs.Prelude.{◌≡◌, ℕ, ◌≤◌, List, [], ◌++◌, length, Option}
use Rattle.std.specs.Io.KnownBytes.{Consumes}
use Rattle.outside.specs.Streams.{SourceSeen, SinkSeen}
use Rattle.plain_world.specs.Worlds.{live, selecting}
use Rattle.plain_model.specs.Coverage.{IsCovered}
use Rattle.plain_model.specs.Runs.{run}
use Rattle.plain_sessions.specs.Arrivals.{Sent, Arrival, Arrive}
use Rattle.plain_sessions.specs.Histories.{Room, room_of, Deed, history, arrivals_of, Timed, one_list}
use Rattle.plain_sessions.specs.Pieces.{Stop, Pieced}
use Rattle.plain_sessions.specs.Units.{units_of}
use Rattle.program_top.specs.Starting.{Standing}
use Rattle.resp_frames.specs.Puts.{PutsAll, PutsFront}
use Rattle.serving.specs.declared.ending.Ended.TheVariants as plain
use Rattle.sessions.specs.Served.{EndsBy, Counts}
use Rattle.sessions.specs.declared.ending.SessionsEnded.{SessionsEnded}
use Rattle.sessions.specs.declared.ending.SessionsEnded.TheVariants as endings

-- From here on a plain server whose sessions said nothing yet may answer the arrivals by these units. The commands that it
-- ran, with a SELECT of the session's database before the first one of each arrival, are one run, in which those of one
-- EXEC are neighbours, and each complete scan among them covers all that stayed throughout it.
pub record MayServe (seed : ℕ) (first : Standing) (arrivals : List Arrival) (units : List ℕ) (last : Standing) : Type 0 where
  pub deeds : List Deed
  pub are : arrivals_of deeds ≡ arrivals
  pub units_are : units ≡ units_of deeds
  pub timed : Timed first.last first.clock deeds last.last last.clock
  pub room : Room
  pub ran : history seed (room_of first.world) deeds room
  pub one_run : run seed first.world (one_list deeds) room.world
  pub covered : IsCovered (one_list deeds)
  -- the world that is left, but for which database is selected
  pub left : selecting last.world 0 ≡ live (selecting room.world 0) last.last

-- units that may answer arrivals, on the way to what is left
module _ {L : Type 0} (May : List Arrival → List ℕ → L → Type 0) where
  -- all arrivals are answered, and all units are written
  pub record ServesAll (arrivals : List Arrival) (old new : SinkSeen) (last : L) : Type 0 where
    pub units : List ℕ
    pub may : May arrivals units last
    pub wrote : PutsAll old new units

  -- the first of the arrivals are answered, and their units are written
  pub record ServesFirst (arrivals : List Arrival) (old new : SinkSeen) : Type 0 where
    pub some : List Arrival
    pub others : List Arrival
    pub split : arrivals ≡ some ++ others
    pub units : List ℕ
    pub there : L
    pub may : May some units there
    pub wrote : PutsAll old new units

  -- the first of the arrivals are answered, and of their units a front is written
  pub record ServesPart (arrivals : List Arrival) (old new : SinkSeen) : Type 0 where
    pub some : List Arrival
    pub others : List Arrival
    pub split : arrivals ≡ some ++ others
    pub units : List ℕ
    pub there : L
    pub may : May some units there
    pub wrote : PutsFront old new units

  -- all, and then one of these endings; a failed put; want of memory
  pub data ServesTo (sessions limit : ℕ) (taken : List ℕ) (stop : Stop) (sent : List Sent) (arrivals : List Arrival)
      (left : Option (List ℕ)) (old new : SinkSeen) (last : L) (ended : SessionsEnded) : Type 0 where
    all : ServesAll arrivals old new last → EndsBy sessions limit taken stop sent left ended
        → ServesTo sessions limit taken stop sent arrivals left old new last ended
    write_fault : ServesPart arrivals old new → ended ≡ endings.Plain plain.WriteFault
        → ServesTo sessions limit taken stop sent arrivals left old new last ended
    no_memory : ServesFirst arrivals old new → ended ≡ endings.Plain plain.Memory
        → ServesTo sessions limit taken stop sent arrivals left old new last ended

  -- The bytes taken are pieces, by which these arrivals come. The units written are those of these arrivals, in this order.
  pub record ServesSessions (sessions limit : ℕ) (input input' : SourceSeen) (old new : SinkSeen) (last : L)
      (ended : SessionsEnded) : Type 0 where
    pub taken : List ℕ
    pub took : Consumes input.told input'.told taken
    pub few : length taken ≤ limit
    pub sent : List Sent
    pub stop : Stop
    pub pieced : Pieced sessions taken sent stop
    pub arrivals : List Arrival
    pub arrive : Arrive [] sent arrivals
    pub ends : ServesTo sessions limit taken stop sent arrivals input'.told old new last ended
    pub counts : Counts input input' old new ended
