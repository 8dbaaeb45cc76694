-- A run of the commands that a seed draws, on any engine.
use Rattle.std.specs.Prelude.{◌≡◌, ℕ, List, [], ◌∷◌, suc, codes}
use Rattle.digests.specs.Crc.{crc_of}
use Rattle.outside.specs.Pacing.{PacerSeen}
use Rattle.outside.specs.declared.pacing.Plan.{Plan}
use Rattle.plain_world.specs.Words.{Words}
use Rattle.plain_world.specs.Spelling.{spelled}
use Rattle.plain_world.specs.declared.reply.Part.{Part}
use Rattle.rand_pcg.specs.Lcg.{Lcg, advance}
use Rattle.rand_pcg.specs.Pcg.{multiplier_64, pcg32}
use Rattle.serving.specs.Timed.{Works}
use Rattle.generator.specs.Commands.{command_of, commands}

-- an engine, and the pacers
pub record Paced (E : Type 0) : Type 0 where
  pub engine : E
  pub pacers : List PacerSeen

-- the command that a generator's next two words say
abbrev pub drawn_words : Lcg → Words
drawn_words dice = command_of (pcg32 dice).0 (pcg32 (advance 64 multiplier_64 1 dice)).0

-- the requests that ask for the number of keys of database 0
abbrev pub selects_first : Words
selects_first = codes "SELECT" ∷ codes "0" ∷ []

abbrev pub asks_size : Words
asks_size = codes "DBSIZE" ∷ []

-- at this moment database 0 is selected, and its DBSIZE is answered so
pub record AsksSize {E : Type 0} (executes : ℕ → E → Words → List Part → E → Type 0) (moment : ℕ) (old new : E)
    (size : List Part) : Type 0 where
  pub mid : E
  pub chosen : List Part
  pub selects : executes moment old selects_first chosen mid
  pub asks : executes moment mid asks_size size new

module _ {E : Type 0} (executes : ℕ → E → Words → List Part → E → Type 0) (works : ℕ → Plan → E → E → Type 0) where
  -- at this moment the engine answers a request, and does what the pacers plan
  pub record Answers (moment : ℕ) (words : Words) (old new : Paced E) (reply : List Part) : Type 0 where
    pub mid : E
    pub answers : executes moment old.engine words reply mid
    pub rests : Works works moment mid new.engine old.pacers new.pacers

  -- the engine answers the commands by these replies in turn, each at the moment of its number, which come after so many
  -- others
  abbrev pub way : ℕ → Paced E → List Words → List (List Part) → Paced E → Type 0
  way before old [] [] new = new ≡ old
  way before old (words ∷ asked) (reply ∷ replies) new =
      (mid : Paced E) × Answers (suc before) words old mid reply × way (suc before) mid asked replies new
  way before old [] (reply ∷ replies) new = ⊥
  way before old (words ∷ asked) [] new = ⊥

  -- From this state on the engine answers the first n commands of a seed, and this is the CRC of all replies, one behind
  -- the other. Behind the last one, at the same moment, the number of keys of database 0 is asked for.
  pub record Generates (seed n : ℕ) (first : Paced E) (new : E) (size : List Part) (crc : ℕ) : Type 0 where
    pub replies : List (List Part)
    pub last : Paced E
    pub went : way 0 first (commands seed n) replies last
    pub asks : AsksSize executes n last.engine new size
    pub sum : crc ≡ crc_of 0 (spelled replies)
