-- Lines of the notes, piece by piece.
use Rattle.std.proofs.Common.{◌≡◌, ℕ, List, [], ◌∷◌, ◌++◌, Result, Ok, Err, sym, ap, subst, ◌∙◌, inl, inr}
use Rattle.std.specs.Prelude.{codes}
use Rattle.std.specs.Fmt.{decimal}
use Rattle.std.proofs.lemmas.List.{append_assoc}
use Rattle.outside.specs.Streams.{SinkSeen}
use Rattle.resp_frames.specs.Puts.{Puts, PutsAll, PutsFront}
use Rattle.resp_frames.proofs.Putting.{puts_then, fault_stops}
use Rattle.program_top.specs.Notes.{Notes, PutsLine, line_feed, numbered_fault_line, line_of}
use Rattle.program_top.specs.declared.ending.Ending.{Ending}

-- the place of a fault, and the line's end
abbrev place_text : ℕ → List ℕ
place_text at = codes " at byte " ++ decimal at ++ line_feed

regrouped : (a b c d : List ℕ) → a ++ (b ++ c ++ d) ≡ a ++ b ++ c ++ d
regrouped a b c d = sym (ap (λ l. l ++ d) (append_assoc a b c) ∙ append_assoc a (b ++ c) d)

-- a text and a number, and behind them the place
line_is : (text : List ℕ) (number at : ℕ) → (text ++ decimal number) ++ place_text at ≡ numbered_fault_line text number at
line_is text number at = regrouped (text ++ decimal number) (codes " at byte ") (decimal at) line_feed

pub number_then : {T E : Type 0} (o m n : SinkSeen) (text : List ℕ) (number at : ℕ) (r : Result T E) → PutsAll o m (text ++ decimal number) → Puts m n (place_text at) r
    → Puts o n (numbered_fault_line text number at) r
number_then o m n text number at r p q = let P : List ℕ → Type 0 = λ l. Puts o n l r in subst P (line_is text number at) (puts_then o m n (text ++ decimal number) (place_text at) r p q)

pub number_stops : (o m : SinkSeen) (text : List ℕ) (number at : ℕ) → PutsFront o m (text ++ decimal number) → PutsFront o m (numbered_fault_line text number at)
number_stops o m text number at p = let P : List ℕ → Type 0 = λ l. PutsFront o m l in subst P (line_is text number at) (fault_stops o m (text ++ decimal number) (place_text at) p)

-- the line of an ending is that of its variant, which isn't empty
pub line_as : {T E : Type 0} (o m : SinkSeen) (ending is : Ending) (byte : ℕ) (rest : List ℕ) (r : Result T E) → ending ≡ is → line_of is ≡ byte ∷ rest → Puts o m (line_of is) r
    → PutsLine o m (line_of ending) r
line_as o m ending is byte rest r e some p =
    let P : Ending → Type 0 = λ x. PutsLine o m (line_of x) r in
    let Q : List ℕ → Type 0 = λ l. PutsLine o m l r in
    subst P (sym e) (subst Q (sym some) (let R : List ℕ → Type 0 = λ l. Puts o m l r in subst R some p))

-- a line that was put, or a front of it, stands in the notes
pub notes_line : {T E : Type 0} (o m : SinkSeen) (line : List ℕ) (r : Result T E) → PutsLine o m line r → Notes o m line
notes_line o m [] r p = p
notes_line o m (byte ∷ line) (Ok x) p = inl p
notes_line o m (byte ∷ line) (Err e) p = inr p
