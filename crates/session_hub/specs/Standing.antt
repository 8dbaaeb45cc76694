-- What of an input of pieces stands open behind its whole pieces.
use Rattle.std.specs.Prelude.{◌≡◌, ⊤, ℕ, ◌<◌, ◌≤◌, ◌+◌, List, [], ◌∷◌, length}
use Rattle.plain_sessions.specs.Arrivals.{Sent}
use Rattle.plain_sessions.specs.Pieces.{number_in, length_in, Stop, Outside, Inside, Unknown, Pieced}

-- so many bytes of a piece's head, or none of any piece; a whole head, and so many bytes of its session that are wanting
-- still; a number that no session has
pub data Standing : Type 0 where
  AtHead : List ℕ → Standing
  InPiece : ℕ → ℕ → Standing
  AtUnknown : Standing

-- where an input of pieces stops there
abbrev pub stop_of : Standing → Stop
stop_of (AtHead []) = Outside
stop_of (AtHead (byte ∷ head)) = Inside
stop_of (InPiece session left) = Inside
stop_of AtUnknown = Unknown

-- the rest behind the whole pieces is this head
pub record IsHeadOnly (rest head : List ℕ) : Type 0 where
  pub is : rest ≡ head
  pub short : length head < 6

-- the rest is a whole head of this session, and of the bytes behind it so many are wanting
pub record Wants (rest : List ℕ) (session left : ℕ) : Type 0 where
  pub headed : 6 ≤ length rest
  pub number : number_in rest ≡ session
  pub long : length rest + left ≡ 6 + length_in rest

abbrev pub RestIs : List ℕ → Standing → Type 0
RestIs rest (AtHead head) = IsHeadOnly rest head
RestIs rest (InPiece session left) = Wants rest session left
RestIs rest AtUnknown = ⊤

-- so many sessions have the numbers from 0 on
module _ (sessions : ℕ) where
  -- the bytes taken are whole pieces and what stands open, and bring this
  pub record StandsAt (taken : List ℕ) (sent : List Sent) (standing : Standing) : Type 0 where
    pub pieced : Pieced sessions taken sent (stop_of standing)
    pub rest : RestIs pieced.rest standing

  -- a head that isn't whole, and whose number a session has, as far as it is there
  pub record IsHead (head : List ℕ) : Type 0 where
    pub short : length head < 6
    pub known : 2 ≤ length head → number_in head < sessions

  -- what can stand open
  abbrev pub CanStand : Standing → Type 0
  CanStand (AtHead head) = IsHead head
  CanStand (InPiece session left) = (session < sessions) × (0 < left)
  CanStand AtUnknown = ⊤
