-- How the code reads a request.
use Rattle.std.proofs.Common.{◌≡◌, ℕ, ◌+◌, ◌-◌, ◌<◌, ◌≤◌, List, ◌∷◌, ◌++◌, length, take, drop, sym, ap, subst, ◌∙◌, refl, inl, inr, arith, length-take, length-drop}
use Rattle.std.specs.Fmt.{decimal}
use Rattle.std.proofs.lemmas.List.{drop-drop, take_rest}
use Rattle.resp_frames.specs.Frames.{header}
use Rattle.resp_frames.specs.Faults.{LineFault, bad_number, other_mark, length_line, length_number, no_return, no_feed, count_line, count_number, in_word, IsCount}
use Rattle.resp_frames.specs.Reading.{read_body, read_bulk, Open}
use Rattle.resp_frames.specs.HeaderRead.{text_of, IsHeader, IsOpenHeader, IsOther, IsNoHeader}
use Rattle.resp_frames.specs.RequestRead.{words_at, StandsAtCount, StandsAtLength, StandsAtBody, IsNoBody, IsOpenRequest, IsBrokenAt}
use Rattle.resp_frames.specs.declared.span.Span.{Span}
use Rattle.resp_frames.specs.declared.request.Due.TheVariants as due
use Rattle.resp_frames.proofs.Bulks.{bulk_counting, after_length}
use Rattle.resp_frames.proofs.Items.{item_begun, item_counting}
use Rattle.resp_frames.specs.declared.rule.Rule.{Rule}
use Rattle.resp_frames.specs.declared.rule.Rule.TheVariants as rules
use Rattle.plain_world.specs.Words.{longest}

pub open_count : (bytes : List ℕ) (scanned n : ℕ) (spans : List Span) → StandsAtCount bytes 0 scanned spans → IsOpenHeader 42 bytes n
    → IsOpenRequest bytes (record { read = 0; due = due.Count n }) spans
open_count bytes scanned n spans s h = record { stands = record { start = refl; none = s.none; header = h.scanned }; more = item_counting bytes h.begun h.more }

pub broken_count : (bytes : List ℕ) (rule : Rule) (at : ℕ) → IsNoHeader 42 bytes rule at → IsBrokenAt bytes rule at
broken_count bytes rule at h = record { within = h.within; fault = count_line h.fault }

-- the text as the code cuts it
text_cut : (bytes : List ℕ) (n : ℕ) → take (n + 1 - 1) (drop 1 bytes) ≡ text_of bytes n
text_cut bytes n = ap (λ k. take k (drop 1 bytes)) (omega arith)

pub wrong_count : (bytes : List ℕ) (n : ℕ) → IsHeader 42 bytes n → (IsCount (take (n + 1 - 1) (drop 1 bytes)) → ⊥) → IsBrokenAt bytes rules.InvalidMultibulkLength 0
wrong_count bytes n h bad =
    let P : List ℕ → Type 0 = λ t. IsCount t → ⊥ in
    record { within = omega arith; fault = count_number (bad_number (text_of bytes n) (drop (n + 3) bytes) refl refl h.whole h.text (subst P (text_cut bytes n) bad)) }

pub open_length : (bytes : List ℕ) (read words scanned n : ℕ) (spans : List Span) → StandsAtLength bytes read words scanned spans → IsOpenHeader 36 (take (length bytes - read) (drop read bytes)) n →
    IsOpenRequest bytes (record { read = read; due = due.Length words n }) spans
open_length bytes read words scanned n spans s h =
    let P : List ℕ → Type 0 = λ l. IsOpenHeader 36 l n in
    let k = subst P (take_rest bytes read) h in
    record {
      stands = record { within = s.within; inside = s.inside; begun = s.begun; header = k.scanned };
      more = item_begun bytes words (words_at bytes spans) (drop read bytes) s.begun (bulk_counting (drop read bytes) k.begun k.more);
    }

-- a place in the rest of the bytes
place_within : (bytes : List ℕ) (read at : ℕ) → read ≤ length bytes → at ≤ length (drop read bytes) → read + at ≤ length bytes
place_within bytes read at low h = omega (arith, length-drop read bytes)

place_from : (bytes : List ℕ) (read at : ℕ) → drop at (drop read bytes) ≡ drop (read + at) bytes
place_from bytes read at = drop-drop at read bytes ∙ ap (λ k. drop k bytes) (omega arith)

pub broken_length : (bytes : List ℕ) (read words scanned : ℕ) (rule : Rule) (at : ℕ) (spans : List Span) → StandsAtLength bytes read words scanned spans
    → IsNoHeader 36 (take (length bytes - read) (drop read bytes)) rule at → IsBrokenAt bytes rule (read + at)
broken_length bytes read words scanned rule at spans s h =
    let P : List ℕ → Type 0 = λ l. IsNoHeader 36 l rule at in
    let k = subst P (take_rest bytes read) h in
    record {
      within = place_within bytes read at s.within k.within;
      fault = in_word words (words_at bytes spans) (drop read bytes) s.begun (length_line (subst (λ f. LineFault 36 (drop read bytes) rule f) (place_from bytes read at) k.fault));
    }

pub other_length : (bytes : List ℕ) (read words scanned : ℕ) (spans : List Span) → StandsAtLength bytes read words scanned spans → IsOther 36 (take (length bytes - read) (drop read bytes))
    → IsBrokenAt bytes rules.ExpectedDollar read
other_length bytes read words scanned spans s h =
    let k = subst (IsOther 36) (take_rest bytes read) h in
    record { within = s.within; fault = in_word words (words_at bytes spans) (drop read bytes) s.begun (other_mark k.b k.more refl refl k.first k.other) }

pub bad_length : (bytes : List ℕ) (read words scanned n : ℕ) (spans : List Span) → StandsAtLength bytes read words scanned spans → IsHeader 36 (take (length bytes - read) (drop read bytes)) n →
    ((m : ℕ) → m ≤ longest → take (n + 1 - 1) (drop 1 (take (length bytes - read) (drop read bytes))) ≡ decimal m → ⊥) → IsBrokenAt bytes rules.InvalidBulkLength read
bad_length bytes read words scanned n spans s h bad =
    let P : List ℕ → Type 0 = λ l. IsHeader 36 l n × ((m : ℕ) → m ≤ longest → take (n + 1 - 1) (drop 1 l) ≡ decimal m → ⊥) in
    let k = subst P (take_rest bytes read) (h, bad) in
    let rest = drop read bytes in
    record {
      within = s.within;
      fault = in_word words (words_at bytes spans) rest s.begun
          (length_number (bad_number (text_of rest n) (drop (n + 3) rest) refl refl k.0.whole k.0.text (λ l. k.1 l.0 l.1 (text_cut rest n ∙ l.2))));
    }

pub open_body : (bytes : List ℕ) (read words len : ℕ) (spans : List Span) → StandsAtBody bytes read words len spans → read_body len (take (length bytes - read) (drop read bytes)) ≡ Open →
    IsOpenRequest bytes (record { read = read; due = due.Body words len }) spans
open_body bytes read words len spans s e =
    let k : read_body len (drop read bytes) ≡ Open = ap (read_body len) (sym (take_rest bytes read)) ∙ e in
    record { stands = s; more = item_begun bytes words (words_at bytes spans) s.rest s.begun (ap read_bulk s.headed ∙ after_length len (drop read bytes) s.small ∙ k) }

pub broken_body : (bytes : List ℕ) (read words len at : ℕ) (spans : List Span) → StandsAtBody bytes read words len spans → IsNoBody (take (length bytes - read) (drop read bytes)) len at
    → IsBrokenAt bytes rules.ExpectedCrLf (read + at)
broken_body bytes read words len at spans s h =
    let P : List ℕ → Type 0 = λ l. IsNoBody l len at in
    let k = subst P (take_rest bytes read) h in
    let rest = drop read bytes in
    let within : at < length rest = k.within in
    let long : len ≤ length rest = k.long in
    let small : len ≤ longest = s.small in
    let n : length (take len rest) ≡ len = omega (arith, length-take len rest) in
    let headed : s.rest ≡ header 36 (decimal (length (take len rest))) ++ rest = s.headed ∙ ap (λ m. header 36 (decimal m) ++ rest) (sym n) in
    let head = header 36 (decimal (length (take len rest))) in
    let from : drop at rest ≡ drop (read + at) bytes = place_from bytes read at in
    let first : drop (read + at) bytes ≡ k.b ∷ k.more = sym from ∙ k.from in
    record {
      within = place_within bytes read at s.within (omega arith);
      fault = in_word words (words_at bytes spans) s.rest s.begun (elim k.either [
        | inl e ↦ no_return (take len rest) k.more k.b refl first (headed ∙ ap (λ l. head ++ l) (e.0 ∙ ap (λ l. take len rest ++ l) from)) (omega arith) e.1
        | inr e ↦ no_feed (take len rest) k.more k.b refl first (headed ∙ ap (λ l. head ++ l) (e.0 ∙ ap (λ l. take len rest ++ 13 ∷ l) from)) (omega arith) e.1
      ]);
    }
