-- What is written of arrivals, and what is pending of it.
use Rattle.std.specs.Prelude.{◌≡◌, ℕ, List, ◌++◌}
use Rattle.outside.specs.Streams.{SinkSeen}
use Rattle.outside.specs.declared.pacing.Plan.{Plan}
use Rattle.plain_world.specs.Words.{Words}
use Rattle.plain_world.specs.declared.reply.Part.{Part}
use Rattle.plain_sessions.specs.Arrivals.{Arrival}
use Rattle.resp_frames.specs.Puts.{PutsFront}
use Rattle.serving.specs.Output.{Onward}
use Rattle.serving.specs.Timed.{Timed}
use Rattle.sessions.specs.Way.{Told, arrivals_in, units_told, way, CutWay}

module _ {E : Type 0} (turns : ℕ → E → E → Type 0) (executes : ℕ → E → Words → List Part → E → Type 0)
    (works : ℕ → Plan → E → E → Type 0) where
  -- the arrivals are answered on the engine's way from one state to another, and their units come behind what was pending
  pub record Tells (before after : Timed E) (old new : SinkSeen) (pending pending' : List ℕ) (arrivals : List Arrival)
      : Type 0 where
    pub tolds : List Told
    pub are : arrivals_in tolds ≡ arrivals
    pub went : way turns executes works before tolds after
    pub wrote : Onward old new pending pending' (units_told tolds)

  -- the same, but only a front of what was pending and of their units is written
  pub record Fails (before after : Timed E) (old new : SinkSeen) (pending : List ℕ) (arrivals : List Arrival) : Type 0 where
    pub tolds : List Told
    pub are : arrivals_in tolds ≡ arrivals
    pub went : CutWay turns executes works before tolds after
    pub wrote : PutsFront old new (pending ++ units_told tolds)
