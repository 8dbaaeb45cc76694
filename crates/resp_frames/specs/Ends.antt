-- How a stream ends.
use Rattle.std.specs.Prelude.{◌≡◌, ◌≢◌, ℕ, ◌+◌, List, [], ◌++◌, length}
use Rattle.plain_world.specs.Words.{Words}
use Rattle.resp_frames.specs.Frames.{Item, item_bytes, IsItem, requests, Framed}
use Rattle.resp_frames.specs.Faults.{RequestFault}
use Rattle.resp_frames.specs.declared.rule.Rule.{Rule}

-- after a whole request, inside one, or where a rule is broken, and how many bytes stand before the one named
pub data End : Type 0 where
  Whole : End
  Cut : End
  Fault : Rule → ℕ → End

-- the bytes end inside a request, with no fault
pub record IsCut (rest : List ℕ) : Type 0 where
  pub some : rest ≢ []
  pub open_yet : (item : Item) (more : List ℕ) → IsItem item → rest ≡ item_bytes item ++ more → ⊥
  pub sound : (rule : Rule) (from : List ℕ) → RequestFault rest rule from → ⊥

-- a rule is broken in the rest of the bytes, at the byte of this number
abbrev pub BreaksAt : List ℕ → List ℕ → Rule → ℕ → Type 0
BreaksAt bytes rest rule at = (from : List ℕ) × RequestFault rest rule from × (at + length from ≡ length bytes)

abbrev pub EndsAs : List ℕ → List ℕ → End → Type 0
EndsAs bytes rest Whole = rest ≡ []
EndsAs bytes rest Cut = IsCut rest
EndsAs bytes rest (Fault rule at) = BreaksAt bytes rest rule at

-- the frames of the bytes: their requests, and how they end
pub record Frames (bytes : List ℕ) (asked : List Words) (end : End) : Type 0 where
  pub items : List Item
  pub rest : List ℕ
  pub framed : Framed bytes items rest
  pub are : requests items ≡ asked
  pub ends : EndsAs bytes rest end
