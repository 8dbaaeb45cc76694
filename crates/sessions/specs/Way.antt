-- The way that an engine goes, from arrival to arrival of its sessions.
use Rattle.std.specs.Prelude.{◌≡◌, ℕ, List, [], ◌∷◌, ◌++◌, map, flat_map}
use Rattle.outside.specs.declared.pacing.Plan.{Plan}
use Rattle.plain_world.specs.Words.{Words}
use Rattle.plain_world.specs.declared.reply.Part.{Part}
use Rattle.plain_sessions.specs.Arrivals.{Said, Asks, Breaks, Arrival}
use Rattle.plain_sessions.specs.Units.{unit, told_of}
use Rattle.serving.specs.Timed.{Timed, ReadsMoment, Works}

-- an arrival, and the reply to it; a broken rule has none
pub record Told : Type 0 where
  pub arrival : Arrival
  pub reply : List Part

abbrev pub arrivals_in : List Told → List Arrival
arrivals_in tolds = map (λ told. told.arrival) tolds

-- what is written of it: the unit of its reply, or of the line of the broken rule
abbrev pub unit_told : Told → List ℕ
unit_told told = unit told.arrival.session (told_of told.arrival.said told.reply)

abbrev pub units_told : List Told → List ℕ
units_told tolds = flat_map unit_told tolds

-- an engine that turns to sessions, answers requests at moments, and does planned work
module _ {E : Type 0} (turns : ℕ → E → E → Type 0) (executes : ℕ → E → Words → List Part → E → Type 0)
    (works : ℕ → Plan → E → E → Type 0) where
  -- The clock is read once, the engine turns to the session and answers its request at that moment, and does what is
  -- planned then at the same moment.
  pub record Answers (session : ℕ) (words : Words) (old : Timed E) (reply : List Part) (new : Timed E) : Type 0 where
    pub moment : ℕ
    pub read : ReadsMoment old.clock new.clock moment
    pub turned : E
    pub turning : turns session old.engine turned
    pub behind : E
    pub answers : executes moment turned words reply behind
    pub rests : Works works moment behind new.engine old.pacers new.pacers

  -- the same, and nothing comes after the answer, as its unit met a fault
  pub record AnswersCut (session : ℕ) (words : Words) (old : Timed E) (reply : List Part) (new : Timed E) : Type 0 where
    pub moment : ℕ
    pub read : ReadsMoment old.clock new.clock moment
    pub turned : E
    pub turning : turns session old.engine turned
    pub answers : executes moment turned words reply new.engine
    pub pacers : new.pacers ≡ old.pacers

  -- a broken rule has no reply, and changes nothing: neither is the clock read nor anything planned
  abbrev pub DoesSaid : ℕ → Said → Timed E → List Part → Timed E → Type 0
  DoesSaid session (Asks words) old reply new = Answers session words old reply new
  DoesSaid session (Breaks rule at) old reply new = (reply ≡ []) × (new ≡ old)

  abbrev pub DoesCut : ℕ → Said → Timed E → List Part → Timed E → Type 0
  DoesCut session (Asks words) old reply new = AnswersCut session words old reply new
  DoesCut session (Breaks rule at) old reply new = (reply ≡ []) × (new ≡ old)

  -- the arrivals are answered in turn, from the old engine to the new one
  abbrev pub way : Timed E → List Told → Timed E → Type 0
  way old [] new = new ≡ old
  way old (told ∷ tolds) new =
      (mid : Timed E) × DoesSaid told.arrival.session told.arrival.said old told.reply mid × way mid tolds new

  -- the same, but the last of them may be cut off
  pub data CutWay (old : Timed E) (tolds : List Told) (new : Timed E) : Type 0 where
    whole : way old tolds new → CutWay old tolds new
    at_last : (front : List Told) (last : Told) (mid : Timed E) → tolds ≡ front ++ last ∷ [] → way old front mid
        → DoesCut last.arrival.session last.arrival.said mid last.reply new → CutWay old tolds new
