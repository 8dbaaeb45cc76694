-- Statements of the laws.
use Rattle.std.specs.Prelude.{◌≡◌, ℕ, List, ◌++◌}
use Rattle.plain_world.specs.Words.{Words}
use Rattle.resp_frames.specs.Ends.{End, Fault, Frames}
use Rattle.resp_frames.specs.declared.rule.Rule.{Rule}

-- all bytes have frames
abbrev pub FramesAreThere : Type 0
FramesAreThere = (bytes : List ℕ) → (asked : List Words) × (end : End) × Frames bytes asked end

-- bytes have one list of requests and one end, so that none of them is a matter of how they are read
abbrev pub FramesAreOne : Type 0
FramesAreOne = (bytes : List ℕ) (p q : List Words) (e f : End) → Frames bytes p e → Frames bytes q f → (p ≡ q) × (e ≡ f)

-- the requests of a front of the bytes are the first of all requests, whatever comes
abbrev pub RequestsOnlyGrow : Type 0
RequestsOnlyGrow =
    (front back : List ℕ) (p q : List Words) (e f : End) → Frames front p e → Frames (front ++ back) q f
    → (more : List Words) × (q ≡ p ++ more)

-- a fault stays where it is, whatever comes
abbrev pub FaultsStay : Type 0
FaultsStay =
    (front back : List ℕ) (p : List Words) (rule : Rule) (at : ℕ) → Frames front p (Fault rule at)
    → Frames (front ++ back) p (Fault rule at)
