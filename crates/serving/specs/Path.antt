-- The way that an engine goes, from request to request.
use Rattle.std.specs.Prelude.{◌≡◌, List, [], ◌∷◌, ◌++◌, Bool, false}
use Rattle.std.specs.List.{AllByRecursion}
use Rattle.plain_world.specs.Words.{Words}
use Rattle.plain_world.specs.declared.reply.Part.{Part}

module _ {E : Type 0} (executes : E → Words → List Part → E → Type 0) where
  -- the engine answers the requests by these replies in turn, and is the new one then
  abbrev pub path : E → List Words → List (List Part) → E → Type 0
  path old [] [] new = new ≡ old
  path old (words ∷ asked) (reply ∷ replies) new = (mid : E) × executes old words reply mid × path mid asked replies new
  path old [] (reply ∷ replies) new = ⊥
  path old (words ∷ asked) [] new = ⊥

-- The same, but the last step may be one that was cut off: the reply to its request met a fault.
module _ {E : Type 0} (executes cut_off : E → Words → List Part → E → Type 0) where
  pub data CutPath (old : E) (asked : List Words) (replies : List (List Part)) (new : E) : Type 0 where
    whole : path executes old asked replies new → CutPath old asked replies new
    at_last : (others : List Words) (last : Words) (front : List (List Part)) (reply : List Part) (mid : E)
        → asked ≡ others ++ last ∷ [] → replies ≡ front ++ reply ∷ []
        → path executes old others front mid → cut_off mid last reply new → CutPath old asked replies new

-- none of the requests ends the run
abbrev pub GoOn : (Words → Bool) → List Words → Type 0
GoOn quits asked = AllByRecursion (λ words. quits words ≡ false) asked

-- none of the requests but the last one ends the run
abbrev pub GoOnToLast : (Words → Bool) → List Words → Type 0
GoOnToLast quits [] = Unit {0}
GoOnToLast quits (words ∷ []) = Unit {0}
GoOnToLast quits (words ∷ next ∷ asked) = (quits words ≡ false) × GoOnToLast quits (next ∷ asked)
