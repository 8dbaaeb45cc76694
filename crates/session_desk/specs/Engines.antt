-- What a desk asks of the engine below it.
use Rattle.std.specs.Prelude.{◌≡◌, ℕ, ◌<◌, ◌≤◌, List, Bool, max, Option}
use Rattle.outside.specs.declared.pacing.Plan.{Plan}
use Rattle.plain_world.specs.Words.{Words}
use Rattle.plain_world.specs.Worlds.{World, Entry, live, look_in, selecting}
use Rattle.plain_world.specs.declared.reply.Part.{Part}
use Rattle.plain_model.specs.Meant.{asks_to_quit}
use Rattle.plain_model.specs.Steps.{step}

-- what is told of an engine: the world that it holds at the last moment that it used, that moment, the seed of its
-- hashes, and what it is with a database selected
pub record View (E : Type 0) : Type 0 where
  pub world : E → World
  pub last : E → ℕ
  pub seed : E → ℕ
  pub choose : E → ℕ → E

module _ {E : Type 0} (v : View E) where
  -- what stands at a key of a database, at a moment
  abbrev pub seen : ℕ → E → ℕ → List ℕ → Option Entry
  seen moment engine db key = look_in (live (v.world engine) moment) db key

  -- a request is answered by a step of the model, at the moment or the last one used where that is later
  pub record IsStep (moment : ℕ) (old : E) (words : Words) (reply : List Part) (new : E) : Type 0 where
    pub at : v.last new ≡ max (v.last old) moment
    pub ran : step (v.seed old) (v.world old) (v.last new) words reply (v.world new)
    pub within : (v.world new).selected < 16
    pub same_seed : v.seed new ≡ v.seed old

  -- what is planned leaves all that is there at the moment, or the last one used where that is later
  pub record IsRest (moment : ℕ) (old new : E) : Type 0 where
    pub at : v.last new ≡ max (v.last old) moment
    pub stays : (later : ℕ) → v.last new ≤ later → live (v.world new) later ≡ live (v.world old) later
    pub same_seed : v.seed new ≡ v.seed old

  -- with another database selected all else stays
  pub record IsChosen (old : E) (db : ℕ) : Type 0 where
    pub is : v.world (v.choose old db) ≡ selecting (v.world old) db
    pub at : v.last (v.choose old db) ≡ v.last old
    pub same_seed : v.seed (v.choose old db) ≡ v.seed old

  -- an engine that runs the model
  pub record IsModelled (executes : ℕ → E → Words → List Part → E → Type 0) (works : ℕ → Plan → E → E → Type 0)
      (quits : Words → Bool) : Type 0 where
    pub steps : (moment : ℕ) (old : E) (words : Words) (reply : List Part) (new : E)
        → executes moment old words reply new → IsStep moment old words reply new
    pub rests : (moment : ℕ) (plan : Plan) (old new : E) → works moment plan old new → IsRest moment old new
    pub chooses : (old : E) (db : ℕ) → IsChosen old db
    pub quitting : (words : Words) → quits words ≡ asks_to_quit words
