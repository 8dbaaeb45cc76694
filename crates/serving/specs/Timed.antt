-- An engine with the clock and the pacers beside it.
use Rattle.std.specs.Prelude.{◌≡◌, ℕ, List, Option, Bool, true, false, min}
use Rattle.outside.specs.Clocks.{Answers, Tells}
use Rattle.outside.specs.Pacing.{PacerSeen, Conducts}
use Rattle.outside.specs.declared.pacing.Plan.{Plan}
use Rattle.plain_world.specs.Words.{Words}
use Rattle.plain_world.specs.declared.reply.Part.{Part}
use Rattle.plain_world.specs.Worlds.{latest}

-- an engine, the answers of the clock that follow, where they are told, and the pacers
pub record Timed (E : Type 0) : Type 0 where
  pub engine : E
  pub clock : Option Answers
  pub pacers : List PacerSeen

-- pacers are asked for a plan, and an engine does just that
pub record Works {E : Type 0} (works : ℕ → Plan → E → E → Type 0) (moment : ℕ) (old new : E)
    (pacers pacers' : List PacerSeen) : Type 0 where
  pub plan : Plan
  pub planned : Conducts pacers plan pacers'
  pub done : works moment plan old new

-- the clock is read once: the moment is its answer, cut at the greatest one
pub record ReadsMoment (clock clock' : Option Answers) (moment : ℕ) : Type 0 where
  pub now : ℕ
  pub read : Tells clock now clock'
  pub is : moment ≡ min now latest

module _ {E : Type 0} (executes : ℕ → E → Words → List Part → E → Type 0) (works : ℕ → Plan → E → E → Type 0)
    (quits : Words → Bool) where
  -- the clock is read, and the engine answers a request at that moment
  pub record TimedReply (moment : ℕ) (old : Timed E) (words : Words) (reply : List Part) (new : Timed E) : Type 0 where
    pub read : ReadsMoment old.clock new.clock moment
    pub answers : executes moment old.engine words reply new.engine
    pub pacers : new.pacers ≡ old.pacers

  -- what is planned is done at the same moment, unless the request ends the run
  abbrev pub Rests : Bool → ℕ → Timed E → Timed E → Type 0
  Rests true moment old new = new ≡ old
  Rests false moment old new = Works works moment old.engine new.engine old.pacers new.pacers × (new.clock ≡ old.clock)

  -- a request is answered, and then what is planned is done
  pub record TimedStep (old : Timed E) (words : Words) (reply : List Part) (new : Timed E) : Type 0 where
    pub moment : ℕ
    pub mid : Timed E
    pub answered : TimedReply moment old words reply mid
    pub rests : Rests (quits words) moment mid new

  -- a request is answered, and nothing comes after it, as its reply met a fault
  pub record TimedCut (old : Timed E) (words : Words) (reply : List Part) (new : Timed E) : Type 0 where
    pub moment : ℕ
    pub answered : TimedReply moment old words reply new
