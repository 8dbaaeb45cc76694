-- What arrives of several sessions, and in which order.
use Rattle.std.specs.Prelude.{◌≡◌, ℕ, ◌==◌, List, [], ◌∷◌, ◌++◌, map, if◌then◌else◌}
use Rattle.plain_world.specs.Words.{Words}
use Rattle.plain_model.specs.Meant.{asks_to_quit}
use Rattle.resp_frames.specs.Ends.{End, Whole, Cut, Fault, Frames}
use Rattle.resp_frames.specs.declared.rule.Rule.{Rule}

-- a byte, and the number of the session that sent it
pub record Sent : Type 0 where
  pub session : ℕ
  pub byte : ℕ

-- the bytes that a session sent
abbrev pub bytes_of : ℕ → List Sent → List ℕ
bytes_of number [] = []
bytes_of number (sent ∷ more) =
    if sent.session == number then sent.byte ∷ bytes_of number more else bytes_of number more

-- what a session says: a request, or what breaks this rule, at the byte of this number from its start
pub data Said : Type 0 where
  Asks : Words → Said
  Breaks : Rule → ℕ → Said

-- a broken rule is the last that is said
abbrev pub broken : End → List Said
broken Whole = []
broken Cut = []
broken (Fault rule at) = Breaks rule at ∷ []

-- the requests up to the first that ends the session; where none does, what stands behind them
abbrev pub said_until_quit : List Words → List Said → List Said
said_until_quit [] behind = behind
said_until_quit (words ∷ asked) behind =
    Asks words ∷ (if asks_to_quit words then [] else said_until_quit asked behind)

-- what a session says with these bytes
pub record Says (bytes : List ℕ) (said : List Said) : Type 0 where
  pub asked : List Words
  pub end : End
  pub frames : Frames bytes asked end
  pub is : said ≡ said_until_quit asked (broken end)

-- with one byte more a session says this more
pub record Adds (bytes : List ℕ) (byte : ℕ) (new : List Said) : Type 0 where
  pub before : List Said
  pub said : Says bytes before
  pub more : Says (bytes ++ byte ∷ []) (before ++ new)

-- what a session says, as a part of the input
pub record Arrival : Type 0 where
  pub session : ℕ
  pub said : Said

abbrev pub arrival : ℕ → Said → Arrival
arrival number said = record { session = number; said = said }

-- With each byte there arrives what its session says by it, and didn't say before. So the requests of all sessions come
-- in the order of their last bytes, and a broken rule with the first byte that breaks it.
abbrev pub Arrive : List Sent → List Sent → List Arrival → Type 0
Arrive before [] arrivals = arrivals ≡ []
Arrive before (sent ∷ more) arrivals =
    (new : List Said) × (others : List Arrival) × Adds (bytes_of sent.session before) sent.byte new
    × Arrive (before ++ sent ∷ []) more others × (arrivals ≡ map (arrival sent.session) new ++ others)

-- what one of the sessions says in a list of arrivals
abbrev pub said_by : ℕ → List Arrival → List Said
said_by number [] = []
said_by number (one ∷ arrivals) =
    if one.session == number then one.said ∷ said_by number arrivals else said_by number arrivals

-- bytes of one session
abbrev pub sent_from : ℕ → ℕ → Sent
sent_from number byte = record { session = number; byte = byte }

abbrev pub sent_by : ℕ → List ℕ → List Sent
sent_by number bytes = map (sent_from number) bytes
