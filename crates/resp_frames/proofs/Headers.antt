-- A header is read.
use Rattle.std.proofs.Common.{◌≡◌, ℕ, ◌<◌, ◌≤◌, List, [], ◌∷◌, ◌++◌, length, ap, sym, ◌∙◌, refl, arith}
use Rattle.std.proofs.lemmas.List.{append_assoc}
use Rattle.plain_world.specs.Spelling.{line_end}
use Rattle.resp_frames.specs.Frames.{IsPlainText, IsText, header, longest_header}
use Rattle.resp_frames.specs.Faults.{LineFault, too_long, no_line_feed}
use Rattle.resp_frames.specs.Reading.{Read, Took, Open, Wrong, read_text, read_feed, read_header}
use Rattle.resp_frames.proofs.Choices.{on_other, by_equal}
use Rattle.resp_frames.proofs.Texts.{TextIs, text_again, text_open, text_long, text_is}
use Rattle.resp_frames.specs.declared.rule.Rule.{Rule}
use Rattle.resp_frames.specs.declared.rule.Rule.TheVariants as rules

-- a header, as it is cut
pub as_cut : (mark : ℕ) (t A : List ℕ) → header mark t ++ A ≡ mark ∷ (t ++ 13 ∷ 10 ∷ A)
as_cut mark t A = ap (λ l. mark ∷ l) (append_assoc t line_end A)

-- behind its mark
after_mark : (mark : ℕ) (bytes : List ℕ) (x : Read (List ℕ)) → read_text 13 longest_header bytes ≡ x → read_header (mark ∷ bytes) ≡ read_feed (mark ∷ bytes) x
unfolding read_header
after_mark mark bytes x e = ap (read_feed (mark ∷ bytes)) e

pub header_again : (mark : ℕ) (t rest : List ℕ) → IsText t → read_header (header mark t ++ rest) ≡ Took t rest
header_again mark t rest h =
    let short : length t < longest_header = h.short in
    ap read_header (as_cut mark t rest) ∙ after_mark mark (t ++ 13 ∷ 10 ∷ rest) (Took t (10 ∷ rest)) (text_again 13 longest_header t (10 ∷ rest) h.plain (omega arith))

-- a header that isn't whole
pub header_none : read_header [] ≡ Open
unfolding read_header
header_none = refl

pub header_begun : (mark : ℕ) (t : List ℕ) → IsText t → read_header (mark ∷ t) ≡ Open
header_begun mark t h = let short : length t < longest_header = h.short in after_mark mark t Open (text_open 13 longest_header t h.plain (omega arith))

pub header_returned : (mark : ℕ) (t : List ℕ) → IsText t → read_header (mark ∷ t ++ 13 ∷ []) ≡ Open
header_returned mark t h = let short : length t < longest_header = h.short in after_mark mark (t ++ 13 ∷ []) (Took t []) (text_again 13 longest_header t [] h.plain (omega arith))

long_first : (mark : ℕ) (t more : List ℕ) → IsPlainText t → length t ≡ longest_header → read_header (mark ∷ t ++ more) ≡ Wrong rules.LineTooLong (mark ∷ t ++ more)
long_first mark t more p h = after_mark mark (t ++ more) (Wrong rules.LineTooLong more) (text_long 13 longest_header t more p h)

feed_first : (mark b : ℕ) (t more : List ℕ) → IsText t → (b ≡ 10 → ⊥) → read_header (mark ∷ t ++ 13 ∷ b ∷ more) ≡ Wrong rules.ExpectedCrLf (b ∷ more)
feed_first mark b t more h ne =
    let short : length t < longest_header = h.short in
    after_mark mark (t ++ 13 ∷ b ∷ more) (Took t (b ∷ more)) (text_again 13 longest_header t (b ∷ more) h.plain (omega arith)) ∙ on_other b 10 (Took t more) (Wrong rules.ExpectedCrLf (b ∷ more)) ne

-- the same of other bytes, by equations
moved : (rule rule' : Rule) (bytes bytes' from from' : List ℕ) → bytes ≡ bytes' → rule ≡ rule' → from ≡ from' → read_header bytes' ≡ Wrong rule' from' → read_header bytes ≡ Wrong rule from
moved rule rule' bytes bytes' from from' e f g h = ap read_header e ∙ h ∙ sym (ap (λ r. Wrong r from) f ∙ ap (Wrong rule') g)

pub line_first : (mark : ℕ) (rule : Rule) (bytes from : List ℕ) → LineFault mark bytes rule from → read_header bytes ≡ Wrong rule from
line_first mark rule bytes from (too_long t more r f e p n) = moved rule rules.LineTooLong bytes (mark ∷ t ++ more) from (mark ∷ t ++ more) e r (f ∙ e) (long_first mark t more p n)
line_first mark rule bytes from (no_line_feed t more b r f e h ne) =
    moved rule rules.ExpectedCrLf bytes (mark ∷ t ++ 13 ∷ b ∷ more) from (b ∷ more) (e ∙ ap (λ l. mark ∷ t ++ 13 ∷ l) f) r f (feed_first mark b t more h ne)

-- it begins with its mark
pub line_begins : (mark : ℕ) (rule : Rule) (bytes from : List ℕ) → LineFault mark bytes rule from → (more : List ℕ) × (bytes ≡ mark ∷ more)
line_begins mark rule bytes from (too_long t more r f e p n) = (t ++ more, e)
line_begins mark rule bytes from (no_line_feed t more b r f e h ne) = (t ++ 13 ∷ from, e)

-- what the reading of a header tells
abbrev pub HeaderIs : ℕ → List ℕ → Read (List ℕ) → Type 0
HeaderIs mark bytes (Took t rest) = IsText t × (bytes ≡ header mark t ++ rest)
HeaderIs mark bytes Open = Unit {0}
HeaderIs mark bytes (Wrong rule from) = LineFault mark bytes rule from

text_short : (t : List ℕ) → IsPlainText t → length t < longest_header → IsText t
text_short t p h = record { plain = p; short = omega arith }

feed_is : (mark : ℕ) (bytes : List ℕ) (x : Read (List ℕ)) → TextIs 13 longest_header bytes x → HeaderIs mark (mark ∷ bytes) (read_feed (mark ∷ bytes) x)
feed_is mark bytes (Took t []) h = tt
feed_is mark bytes (Took t (b ∷ rest)) h =
    by_equal (HeaderIs mark (mark ∷ bytes)) b 10 (Took t rest) (Wrong rules.ExpectedCrLf (b ∷ rest))
    (λ e. (text_short t h.1 h.2, ap (λ l. mark ∷ l) (h.0 ∙ ap (λ c. t ++ 13 ∷ c ∷ rest) e) ∙ sym (as_cut mark t rest)))
    (λ ne. no_line_feed t rest b refl refl (ap (λ l. mark ∷ l) h.0) (text_short t h.1 h.2) ne)
feed_is mark bytes Open h = tt
feed_is mark bytes (Wrong rule from) h = too_long h.0 from refl refl (ap (λ l. mark ∷ l) h.1) h.2 h.3

pub header_is : (mark : ℕ) (bytes : List ℕ) → HeaderIs mark (mark ∷ bytes) (read_header (mark ∷ bytes))
unfolding read_header
header_is mark bytes = feed_is mark bytes (read_text 13 longest_header bytes) (text_is 13 longest_header bytes)
