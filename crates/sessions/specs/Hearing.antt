-- What the hearing of one session's bytes does.
use Rattle.std.specs.Prelude.{◌≡◌, ℕ, ◌+◌, ◌≤◌, ◌⊎◌, List, [], ◌++◌, length}
use Rattle.outside.specs.Streams.{SinkSeen}
use Rattle.outside.specs.declared.pacing.Plan.{Plan}
use Rattle.plain_world.specs.Words.{Words}
use Rattle.plain_world.specs.declared.reply.Part.{Part}
use Rattle.plain_sessions.specs.Arrivals.{Sent, sent_by, bytes_of, Arrival, Arrive}
use Rattle.resp_frames.specs.Ends.{Cut, IsCut, Frames}
use Rattle.serving.specs.Timed.{Timed}
use Rattle.session_hub.specs.Hearing.{GoOn, IsHeard, HasEnded}
use Rattle.sessions.specs.declared.slot.Slot.{Slot}
use Rattle.sessions.specs.declared.slot.Slot.TheVariants as slots
use Rattle.sessions.specs.declared.hearing.Heard.{Heard}
use Rattle.sessions.specs.declared.hearing.Heard.TheVariants as heard
use Rattle.sessions.specs.Slots.{fed_of}
use Rattle.sessions.specs.Telling.{Tells, Fails}

-- the session has ended, and so it never stops inside a request that it began before it did
pub record IsOver (number : ℕ) (sent : List Sent) : Type 0 where
  pub ended : HasEnded number sent
  pub never_cut : (more : List ℕ) (asked : List Words) → Frames (bytes_of number sent ++ more) asked Cut → GoOn asked → ⊥

-- what is kept of a session: nothing, as it has sent nothing; its feeder; that it has ended
abbrev pub HeardAs : ℕ → List Sent → Slot → Type 0
HeardAs number sent slots.Idle = bytes_of number sent ≡ []
HeardAs number sent (slots.Open feeder) =
    IsHeard number sent feeder × ((feeder.kept ≡ []) ⊎ IsCut feeder.kept)
HeardAs number sent slots.Ended = IsOver number sent

module _ {E : Type 0} (turns : ℕ → E → E → Type 0) (executes : ℕ → E → Words → List Part → E → Type 0)
    (works : ℕ → Plan → E → E → Type 0) where
  -- Bytes of a session arrive behind what was sent: what they bring is answered.
  pub record HearsAll (session : ℕ) (bytes : List ℕ) (sent : List Sent) (slot' : Slot) (before after : Timed E)
      (old new : SinkSeen) (pending pending' : List ℕ) : Type 0 where
    pub arrivals : List Arrival
    pub arrive : Arrive sent (sent_by session bytes) arrivals
    pub tells : Tells turns executes works before after old new pending pending' arrivals
    pub heard : HeardAs session (sent ++ sent_by session bytes) slot'

  -- of the first of what they bring only a front is written
  pub record HearsPart (session : ℕ) (bytes : List ℕ) (sent : List Sent) (before after : Timed E) (old new : SinkSeen)
      (pending : List ℕ) : Type 0 where
    pub some : List Arrival
    pub others : List Arrival
    pub arrive : Arrive sent (sent_by session bytes) (some ++ others)
    pub fails : Fails turns executes works before after old new pending some

  -- the first of what they bring is answered
  pub record HearsFirst (session : ℕ) (bytes : List ℕ) (sent : List Sent) (before : Timed E) (old new : SinkSeen)
      (pending pending' : List ℕ) : Type 0 where
    pub some : List Arrival
    pub others : List Arrival
    pub there : Timed E
    pub arrive : Arrive sent (sent_by session bytes) (some ++ others)
    pub tells : Tells turns executes works before there old new pending pending' some

  -- what `hear` answers, whatever was sent before
  abbrev pub Hears : ℕ → List ℕ → Slot → Slot → Timed E → Timed E → SinkSeen → SinkSeen → List ℕ → List ℕ → Heard → Type 0
  Hears session bytes slot slot' before after old new pending pending' heard.On =
      ((sent : List Sent) → HeardAs session sent slot
      → HearsAll session bytes sent slot' before after old new pending pending')
      × (fed_of slot' ≤ fed_of slot + length bytes)
  Hears session bytes slot slot' before after old new pending pending' heard.Fault =
      (sent : List Sent) → HeardAs session sent slot → HearsPart session bytes sent before after old new pending
  Hears session bytes slot slot' before after old new pending pending' heard.Memory =
      (sent : List Sent) → HeardAs session sent slot → HearsFirst session bytes sent before old new pending pending'
