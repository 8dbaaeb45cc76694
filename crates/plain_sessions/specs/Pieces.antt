-- The input of several sessions, in pieces (for each session RESP2, "Sending commands to a Redis server"; the head of a
-- piece is this project's own).
use Rattle.std.specs.Prelude.{◌≡◌, ℕ, ◌<◌, ◌≤◌, ◌+◌, List, [], ◌++◌, length, drop, flat_map}
use Rattle.std.specs.List.{AllByRecursion, concat}
use Rattle.byteorder.specs.Endian.{little_number}
use Rattle.plain_sessions.specs.Arrivals.{Sent, sent_by, Arrival, Arrive}

-- a piece begins with the number of its session in two bytes, and how many bytes it brings in four, the lowest first
abbrev pub number_in : List ℕ → ℕ
number_in piece = little_number 2 piece

abbrev pub length_in : List ℕ → ℕ
length_in piece = little_number 4 (drop 2 piece)

-- what a piece brings, or the front of one: the bytes behind these six, sent by its session
abbrev pub sent_in : List ℕ → List Sent
sent_in piece = sent_by (number_in piece) (drop 6 piece)

-- where an input of pieces stands at its end: outside a piece, inside one, or behind a number that no session has
pub data Stop : Type 0 where
  Outside : Stop
  Inside : Stop
  Unknown : Stop

-- what the bytes behind the whole pieces bring: from the number of no session on nothing
abbrev pub sent_behind : Stop → List ℕ → List Sent
sent_behind Outside rest = []
sent_behind Inside rest = sent_in rest
sent_behind Unknown rest = []

-- so many sessions have the numbers from 0 on
module _ (sessions : ℕ) where
  -- a whole piece
  pub record IsPiece (piece : List ℕ) : Type 0 where
    pub headed : 6 ≤ length piece
    pub known : number_in piece < sessions
    pub whole : length piece ≡ 6 + length_in piece

  -- the front of a piece, to which bytes are wanting
  pub record IsFront (rest : List ℕ) : Type 0 where
    pub some : 0 < length rest
    pub known : 2 ≤ length rest → number_in rest < sessions
    pub wanting : 6 ≤ length rest → length rest < 6 + length_in rest

  -- a number that no session has, and whatever stands behind it
  pub record IsUnknown (rest : List ℕ) : Type 0 where
    pub numbered : 2 ≤ length rest
    pub unknown : sessions ≤ number_in rest

  abbrev pub StopsAs : List ℕ → Stop → Type 0
  StopsAs rest Outside = rest ≡ []
  StopsAs rest Inside = IsFront rest
  StopsAs rest Unknown = IsUnknown rest

  -- the bytes are whole pieces and a rest, and bring what these bring
  pub record Pieced (bytes : List ℕ) (sent : List Sent) (stop : Stop) : Type 0 where
    pub pieces : List (List ℕ)
    pub rest : List ℕ
    pub each : AllByRecursion IsPiece pieces
    pub whole : bytes ≡ concat pieces ++ rest
    pub stands : StopsAs rest stop
    pub brings : sent ≡ flat_map sent_in pieces ++ sent_behind stop rest

  -- what arrives by the bytes, and where they stop
  pub record Brings (bytes : List ℕ) (arrivals : List Arrival) (stop : Stop) : Type 0 where
    pub sent : List Sent
    pub pieced : Pieced bytes sent stop
    pub arrive : Arrive [] sent arrivals
