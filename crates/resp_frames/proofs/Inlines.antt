-- Inline requests are read.
use Rattle.std.proofs.Common.{◌+◌, ◌≡◌, ℕ, ◌<◌, ◌≤◌, List, [], ◌∷◌, ◌++◌, true, false, length, ap, sym, subst, ◌∙◌, refl, arith, length-append}
use Rattle.std.proofs.lemmas.List.{append_assoc}
use Rattle.resp_frames.specs.Frames.{Item, Line, item_bytes, IsItem, IsInline, IsLine, is_quote, IsUnquoted, IsWithout, longest_line}
use Rattle.resp_frames.specs.Faults.{InlineFault, endless, quoted}
use Rattle.resp_frames.specs.Reading.{Read, Took, Open, Wrong, read_text, from_quote, read_quote, after_line, read_line, read_array, read_item}
use Rattle.resp_frames.proofs.Choices.{chosen, other, on_other, by_test}
use Rattle.resp_frames.proofs.Texts.{TextIs, text_again, text_open, text_long, text_is}
use Rattle.resp_frames.specs.declared.rule.Rule.{Rule}
use Rattle.resp_frames.specs.declared.rule.Rule.TheVariants as rules

-- ---- quotes

unquoted_again : (t : List ℕ) → IsUnquoted t → from_quote t ≡ []
unfolding from_quote
unquoted_again [] h = refl
unquoted_again (b ∷ t) h = other (is_quote b) (b ∷ t) (from_quote t) h.0 ∙ unquoted_again t h.1

quoted_again : (front back : List ℕ) (q : ℕ) → IsUnquoted front → is_quote q ≡ true → from_quote (front ++ q ∷ back) ≡ q ∷ back
unfolding from_quote
quoted_again [] back q h e = chosen (is_quote q) (q ∷ back) (from_quote back) e
quoted_again (b ∷ front) back q h e = other (is_quote b) (b ∷ front ++ q ∷ back) (from_quote (front ++ q ∷ back)) h.0 ∙ quoted_again front back q h.1 e

-- what a line from its first quote on tells
abbrev QuoteIs : List ℕ → List ℕ → Type 0
QuoteIs text [] = IsUnquoted text
QuoteIs text (q ∷ back) = (front : List ℕ) × (text ≡ front ++ q ∷ back) × IsUnquoted front × (is_quote q ≡ true)

quote_further : (b : ℕ) (text from : List ℕ) → is_quote b ≡ false → QuoteIs text from → QuoteIs (b ∷ text) from
quote_further b text [] e h = (e, h)
quote_further b text (q ∷ back) e h = (b ∷ h.0, ap (λ l. b ∷ l) h.1, (e, h.2), h.3)

quote_is : (text : List ℕ) → QuoteIs text (from_quote text)
unfolding from_quote
quote_is [] = tt
quote_is (b ∷ text) = by_test (QuoteIs (b ∷ text)) (is_quote b) (b ∷ text) (from_quote text) (λ e. ([], refl, tt, e)) (λ e. quote_further b text (from_quote text) e (quote_is text))

-- ---- the first byte

pub inline_read : (bytes : List ℕ) → IsInline bytes → 0 < length bytes → read_item bytes ≡ read_line bytes
unfolding read_item
inline_read [] h some = absurd (omega arith)
inline_read (b ∷ bytes) h some = on_other b 42 (read_array (b ∷ bytes)) (read_line (b ∷ bytes)) h

inline_ended : (text rest : List ℕ) → IsInline text → IsInline (text ++ 10 ∷ rest)
inline_ended [] rest h = λ e. absurd (omega (arith, e))
inline_ended (b ∷ text) rest h = h

inline_more : (text rest : List ℕ) → 0 < length text → IsInline text → IsInline (text ++ rest)
inline_more [] rest some h = absurd (omega arith)
inline_more (b ∷ text) rest some h = h

pub inline_front : (text rest : List ℕ) → IsInline (text ++ rest) → IsInline text
inline_front [] rest h = tt
inline_front (b ∷ text) rest h = h

-- ---- the line

after_feed : (text rest : List ℕ) → IsLine text → read_item (text ++ 10 ∷ rest) ≡ read_quote text (from_quote text) rest
unfolding read_line
after_feed text rest h =
    let short : length text ≤ longest_line = h.short in
    inline_read (text ++ 10 ∷ rest) (inline_ended text rest h.inline) (omega (arith, length-append text (10 ∷ rest)))
    ∙ ap (after_line (text ++ 10 ∷ rest)) (text_again 10 (longest_line + 1) text rest h.plain (omega arith))

pub line_again : (text rest : List ℕ) → IsLine text → IsUnquoted text → read_item ((text ++ 10 ∷ []) ++ rest) ≡ Took (Line text) rest
line_again text rest h u = ap read_item (append_assoc text (10 ∷ []) rest) ∙ after_feed text rest h ∙ ap (λ l. read_quote text l rest) (unquoted_again text u)

-- a line that isn't whole
pub line_open : (bytes : List ℕ) → IsInline bytes → 0 < length bytes → IsWithout 10 bytes → length bytes ≤ longest_line → read_item bytes ≡ Open
unfolding read_line
line_open bytes h some p short = inline_read bytes h some ∙ ap (after_line bytes) (text_open 10 (longest_line + 1) bytes p (omega arith))

endless_first : (text more : List ℕ) → IsInline text → IsWithout 10 text → length text ≡ longest_line + 1 → read_item (text ++ more) ≡ Wrong rules.LineTooLong (text ++ more)
unfolding read_line
endless_first text more h p n =
    inline_read (text ++ more) (inline_more text more (omega arith) h) (omega (arith, length-append text more))
    ∙ ap (after_line (text ++ more)) (text_long 10 (longest_line + 1) text more p n)

quoted_first : (front back more : List ℕ) (q : ℕ) → IsLine (front ++ q ∷ back) → IsUnquoted front → is_quote q ≡ true
    → read_item (front ++ (q ∷ back ++ 10 ∷ more)) ≡ Wrong rules.QuotedInline (q ∷ back ++ 10 ∷ more)
quoted_first front back more q h u e =
    ap read_item (sym (append_assoc front (q ∷ back) (10 ∷ more))) ∙ after_feed (front ++ q ∷ back) more h ∙ ap (λ l. read_quote (front ++ q ∷ back) l more) (quoted_again front back q u e)

-- the same of other bytes, by equations
moved : (rule rule' : Rule) (bytes bytes' from from' : List ℕ) → bytes ≡ bytes' → rule ≡ rule' → from ≡ from' → read_item bytes' ≡ Wrong rule' from' → read_item bytes ≡ Wrong rule from
moved rule rule' bytes bytes' from from' e f g h = ap read_item e ∙ h ∙ sym (ap (λ r. Wrong r from) f ∙ ap (Wrong rule') g)

pub inline_first : (bytes : List ℕ) (rule : Rule) (from : List ℕ) → InlineFault bytes rule from → read_item bytes ≡ Wrong rule from
inline_first bytes rule from (endless text more r f e h p n) = moved rule rules.LineTooLong bytes (text ++ more) from (text ++ more) e r (f ∙ e) (endless_first text more h p n)
inline_first bytes rule from (quoted front back more q r f e h u is) =
    moved rule rules.QuotedInline bytes (front ++ (q ∷ back ++ 10 ∷ more)) from (q ∷ back ++ 10 ∷ more) (e ∙ ap (λ l. front ++ l) f) r f (quoted_first front back more q h u is)

-- what the reading of an inline request tells
abbrev pub InlineIs : List ℕ → Read Item → Type 0
InlineIs bytes (Took x rest) = IsItem x × (bytes ≡ item_bytes x ++ rest)
InlineIs bytes Open = Unit {0}
InlineIs bytes (Wrong rule from) = InlineFault bytes rule from

then_quote : (bytes text rest : List ℕ) → IsLine text → bytes ≡ text ++ 10 ∷ rest → (from : List ℕ) → QuoteIs text from → InlineIs bytes (read_quote text from rest)
then_quote bytes text rest line e [] h = ((line, h), e ∙ sym (append_assoc text (10 ∷ []) rest))
then_quote bytes text rest line e (q ∷ back) h =
    quoted h.0 back rest q refl refl (e ∙ ap (λ l. l ++ 10 ∷ rest) h.1 ∙ append_assoc h.0 (q ∷ back) (10 ∷ rest)) (subst IsLine h.1 line) h.2 h.3

then_line : (bytes : List ℕ) → IsInline bytes → (x : Read (List ℕ)) → TextIs 10 (longest_line + 1) bytes x → InlineIs bytes (after_line bytes x)
then_line bytes h (Took text rest) t =
    let few : length text < longest_line + 1 = t.2 in
    then_quote bytes text rest (record { inline = inline_front text (10 ∷ rest) (subst IsInline t.0 h); plain = t.1; short = omega arith }) t.0 (from_quote text) (quote_is text)
then_line bytes h Open t = tt
then_line bytes h (Wrong rule from) t = endless t.0 from refl refl t.1 (inline_front t.0 from (subst IsInline t.1 h)) t.2 t.3

pub inline_is : (bytes : List ℕ) → IsInline bytes → InlineIs bytes (read_line bytes)
unfolding read_line
inline_is bytes h = then_line bytes h (read_text 10 (longest_line + 1) bytes) (text_is 10 (longest_line + 1) bytes)

-- ---- the place of a fault stands in the bytes, and the fault stays

pub inline_within : (bytes : List ℕ) (rule : Rule) (from : List ℕ) → InlineFault bytes rule from → length from ≤ length bytes
inline_within bytes rule from (endless text more r f e h p n) = omega (arith, ap length f)
inline_within bytes rule from (quoted front back more q r f e h u is) = omega (arith, ap length e, length-append front from)

pub inline_stays : (bytes : List ℕ) (rule : Rule) (from piece : List ℕ) → InlineFault bytes rule from → InlineFault (bytes ++ piece) rule (from ++ piece)
inline_stays bytes rule from piece (endless text more r f e h p n) = endless text (more ++ piece) r (ap (λ l. l ++ piece) f) (ap (λ l. l ++ piece) e ∙ append_assoc text more piece) h p n
inline_stays bytes rule from piece (quoted front back more q r f e h u is) =
    quoted front back (more ++ piece) q r (ap (λ l. l ++ piece) f ∙ append_assoc (q ∷ back) (10 ∷ more) piece) (ap (λ l. l ++ piece) e ∙ append_assoc front from piece) h u is
