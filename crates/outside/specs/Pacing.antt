-- What is told of pacers and of a conductor over them.
use Rattle.std.specs.Prelude.{◌≡◌, ℕ, Bool, true, false, List, [], ◌∷◌, Option, Some, None, ⊤, min, not, map, drop}
use Rattle.std.specs.Global.{Global}
use Rattle.std.specs.declared.dyn_box.DynBox.{DynBox}
use Rattle.outside.specs.declared.pacing.Plan.{Plan}
use Rattle.outside.specs.declared.pacing.Conductor.{Conductor}

-- the plans that are left, and whether plans by the effort alone follow them
pub record Plans : Type 0 where
  pub left : List Plan
  pub goes_on : Bool

-- a pacer: its effort, and its plans, where they are told
pub record PacerSeen : Type 0 where
  pub effort : ℕ
  pub plans : Option Plans

-- nothing is planned
abbrev pub no_plan : Plan
no_plan = record { rehash = 0; defrag = 0; expire = 0 }

-- each number is the effort
abbrev pub steady : ℕ → Plan
steady effort = record { rehash = effort; defrag = effort; expire = effort }

-- the pacer with another effort
abbrev pub tuned : PacerSeen → ℕ → PacerSeen
tuned pacer effort = record { effort = effort; plans = pacer.plans }

-- no plan follows
abbrev pub is_spent : List Plan → Bool → Bool
is_spent [] goes_on = not goes_on
is_spent (plan ∷ left) goes_on = false

-- the next plan, three zeros of a spent pacer
abbrev pub next_plan : ℕ → List Plan → Bool → Plan
next_plan effort [] true = steady effort
next_plan effort [] false = no_plan
next_plan effort (plan ∷ left) goes_on = plan

-- those behind it
abbrev pub later_plans : List Plan → List Plan
later_plans [] = []
later_plans (plan ∷ left) = left

-- a pacer that tells its plans is spent exactly where none follows
abbrev pub SaysSpent : Option Plans → Bool → Type 0
SaysSpent None spent = ⊤
SaysSpent (Some plans) spent = spent ≡ is_spent plans.left plans.goes_on

-- a pacer that tells its plans gives the next one
abbrev pub GivesPlan : ℕ → Option Plans → Plan → Option Plans → Type 0
GivesPlan effort None plan new = ⊤
GivesPlan effort (Some plans) plan new = (plan ≡ next_plan effort plans.left plans.goes_on)
    × (new ≡ Some (record { left = later_plans plans.left; goes_on = plans.goes_on }))

-- a pacer is asked for its next plan
pub record Paces (old : PacerSeen) (plan : Plan) (new : PacerSeen) : Type 0 where
  pub effort : new.effort ≡ old.effort
  pub gives : GivesPlan old.effort old.plans plan new.plans

-- a plan with each number cut at 1,000
abbrev pub cut : Plan → Plan
cut plan = record { rehash = min plan.rehash 1000; defrag = min plan.defrag 1000; expire = min plan.expire 1000 }

-- A conductor over pacers is asked for the next plan: spent ones are dropped from the front, and the front one's plan
-- is cut; with none left it is three zeros.
pub data Conducts : List PacerSeen → Plan → List PacerSeen → Type 0 where
  Drops : (front : PacerSeen) (pacers new : List PacerSeen) (plan : Plan) → SaysSpent front.plans true
      → Conducts pacers plan new → Conducts (front ∷ pacers) plan new
  Asks : (front front' : PacerSeen) (pacers : List PacerSeen) (plan : Plan) → SaysSpent front.plans false
      → Paces front plan front' → Conducts (front ∷ pacers) (cut plan) (front' ∷ pacers)
  HasNone : Conducts [] no_plan []

-- the pacers of a conductor that follow
abbrev pub following : {X : Type 0} {F : X → Type 0} → (DynBox X Global F → PacerSeen) → Conductor X F → List PacerSeen
following pacing conductor = map pacing (drop conductor.front conductor.pacers.items)
