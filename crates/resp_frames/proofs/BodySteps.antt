-- How the code goes on after a whole word, and passes over a header.
use Rattle.std.proofs.Common.{◌≡◌, ℕ, ◌+◌, ◌-◌, ◌<◌, ◌≤◌, List, [], ◌∷◌, ◌++◌, length, take, drop, sym, ap, subst, ◌∙◌, refl, arith, length-take, length-drop, length-append}
use Rattle.std.specs.Prelude.{flat_map}
use Rattle.std.specs.List.{AllByRecursion}
use Rattle.std.specs.Fmt.{decimal}
use Rattle.std.proofs.lemmas.List.{append_assoc, append-nil, drop-drop, take_rest, map-append, length-map}
use Rattle.std.proofs.lemmas.List.Concat.{flat_map-append}
use Rattle.plain_world.specs.Words.{IsWord, IsRequest, longest}
use Rattle.plain_world.specs.Spelling.{line_end}
use Rattle.resp_frames.specs.Frames.{header, bulk, Asked, Passed, IsNoCount, most_words}
use Rattle.resp_frames.specs.HeaderRead.{text_of, IsHeader}
use Rattle.resp_frames.specs.LineRead.{word_at, words_at, AreWithin}
use Rattle.resp_frames.specs.RequestRead.{StandsAtCount, StandsAtBody, IsWholeBody, IsRequestAt, IsPassedAt, GoesOn, ReadsStep, step_after}
use Rattle.resp_frames.specs.declared.span.Span.{Span}
use Rattle.resp_frames.specs.declared.request.Due.TheVariants as due
use Rattle.resp_frames.specs.declared.request.Step.{Step}
use Rattle.resp_frames.specs.declared.request.Step.TheVariants as step
use Rattle.resp_frames.proofs.Choices.{by_equal}
use Rattle.resp_frames.proofs.Bulks.{as_bulk}
use Rattle.resp_frames.proofs.Giving.{all_append}
use Rattle.resp_frames.proofs.Parts.{within_one}

-- so many words are whole, the last of which ends there
pub record Longer (bytes : List ℕ) (read end words : ℕ) (spans : List Span) : Type 0 where
  pub within : end ≤ length bytes
  pub further : read < end
  pub few : words ≤ most_words
  pub at_most : length spans ≤ words
  pub some : 0 < length spans
  pub inside : AreWithin bytes spans
  pub each : AllByRecursion IsWord (words_at bytes spans)
  pub whole : bytes ≡ header 42 (decimal words) ++ (flat_map bulk (words_at bytes spans) ++ drop end bytes)

pub longer : (bytes : List ℕ) (read words len : ℕ) (spans : List Span) → StandsAtBody bytes read words len spans → IsWholeBody (drop read bytes) len
    → Longer bytes read (read + len + 2) words (spans ++ record { start = read; len = len } ∷ [])
longer bytes read words len spans s w =
    let one : Span = record { start = read; len = len } in
    let rest = drop read bytes in
    let word = take len rest in
    let ws = words_at bytes spans in
    let end = read + len + 2 in
    let low : read ≤ length bytes = s.within in
    let long : len + 2 ≤ length rest = w.within in
    let small : len ≤ longest = s.small in
    let due_ : length ws < words = s.begun.due in
    let many : length ws ≡ length spans = length-map spans (word_at bytes) in
    let more : length (spans ++ one ∷ []) ≡ length spans + 1 = length-append spans (one ∷ []) in
    let n : length word ≡ len = omega (arith, length-take len rest) in
    let after : drop (len + 2) rest ≡ drop end bytes = drop-drop (len + 2) read bytes ∙ ap (λ k. drop k bytes) (omega arith) in
    let are : words_at bytes (spans ++ one ∷ []) ≡ ws ++ word ∷ [] = map-append (word_at bytes) spans (one ∷ []) in
    let spelled : flat_map bulk (ws ++ word ∷ []) ≡ flat_map bulk ws ++ bulk word = flat_map-append bulk ws (word ∷ []) ∙ ap (λ l. flat_map bulk ws ++ l) (append-nil (bulk word)) in
    let head = header 42 (decimal words) in
    let length_head = header 36 (decimal (length word)) in
    let as_word : s.rest ≡ bulk word ++ drop end bytes =
    s.headed ∙ ap (λ m. header 36 (decimal m) ++ rest) (sym n) ∙ ap (λ l. length_head ++ l) (w.whole ∙ append_assoc word line_end (drop (len + 2) rest))
    ∙ ap (λ l. length_head ++ (word ++ 13 ∷ 10 ∷ l)) after ∙ sym (as_bulk word (drop end bytes)) in
    let fits : read + len ≤ length bytes = omega (arith, length-drop read bytes) in
    record {
      within = omega (arith, length-drop read bytes);
      further = omega arith;
      few = s.begun.few;
      at_most = omega arith;
      some = omega arith;
      inside = within_one bytes spans one s.inside fits;
      each = subst (AllByRecursion IsWord) (sym are) (all_append IsWord ws (word ∷ []) s.begun.each (omega arith, tt));
      whole = s.begun.whole ∙ ap (λ l. head ++ (flat_map bulk ws ++ l)) as_word ∙ ap (λ l. head ++ l) (sym (append_assoc (flat_map bulk ws) (bulk word) (drop end bytes)))
          ∙ ap (λ l. head ++ (l ++ drop end bytes)) (sym spelled) ∙ ap (λ l. head ++ (flat_map bulk l ++ drop end bytes)) (sym are);
    }

pub all_words : (bytes : List ℕ) (read end words : ℕ) (spans : List Span) → Longer bytes read end words spans → length spans ≡ words → IsRequestAt bytes end spans
all_words bytes read end words spans h is =
    let ws = words_at bytes spans in
    let many : length ws ≡ length spans = length-map spans (word_at bytes) in
    let count : words ≡ length ws = sym (many ∙ is) in
    let few : words ≤ most_words = h.few in
    let some : 0 < length spans = h.some in
    let further : read < end = h.further in
    let sound : IsRequest ws = record { some = omega arith; few = omega arith; each = h.each } in
    record {
      some = omega arith;
      within = h.within;
      inside = h.inside;
      sound = sound;
      item = Asked ws;
      good = sound;
      asks = refl;
      whole = h.whole ∙ ap (λ k. header 42 (decimal k) ++ (flat_map bulk ws ++ drop end bytes)) count ∙ sym (append_assoc (header 42 (decimal (length ws))) (flat_map bulk ws) (drop end bytes));
    }

pub more_words : (bytes : List ℕ) (read end words : ℕ) (spans : List Span) → Longer bytes read end words spans → (length spans ≡ words → ⊥)
    → GoesOn bytes read (record { read = end; due = due.Length words 0 }) spans
more_words bytes read end words spans h not =
    let many : length (words_at bytes spans) ≡ length spans = length-map spans (word_at bytes) in
    let at_most : length spans ≤ words = h.at_most in
    let fewer : length spans < words = omega (arith, not) in
    record {
      stands = record {
        within = h.within;
        inside = h.inside;
        begun = record { whole = h.whole; few = h.few; due = omega arith; each = h.each };
        header = record { within = omega arith; few = omega arith; plain = tt };
      };
      further = h.further;
      within = h.within;
    }

pub body_done : (bytes : List ℕ) (read words len many : ℕ) (spans new : List Span) (r : Step) → StandsAtBody bytes read words len spans
    → IsWholeBody (take (length bytes - read) (drop read bytes)) len →
    new ≡ spans ++ record { start = read; len = len } ∷ [] → many ≡ length new → r ≡ step_after (read + len + 2) words many → ReadsStep bytes read new r
body_done bytes read words len many spans new r s w is count e =
    let W : List ℕ → Type 0 = λ l. IsWholeBody l len in
    let end = read + len + 2 in
    let L : List Span → Type 0 = Longer bytes read end words in
    let h = subst L (sym is) (longer bytes read words len spans s (subst W (take_rest bytes read) w)) in
    let P : Step → Type 0 = ReadsStep bytes read new in
    subst P (sym e) (by_equal P many words (step.Request end) (step.On (record { read = end; due = due.Length words 0 }))
    (λ same. all_words bytes read end words new h (sym count ∙ same))
    (λ not. more_words bytes read end words new h (λ same. not (count ∙ same))))

-- a header that is passed over
pub passed_header : (bytes : List ℕ) (scanned n : ℕ) (spans : List Span) → StandsAtCount bytes 0 scanned spans → IsHeader 42 bytes n → IsNoCount (take (n + 1 - 1) (drop 1 bytes))
    → IsPassedAt bytes (n + 3) spans
passed_header bytes scanned n spans s h count =
    let cut : take (n + 1 - 1) (drop 1 bytes) ≡ text_of bytes n = ap (λ k. take k (drop 1 bytes)) (omega arith) in
    record {
      some = omega arith;
      within = h.within;
      none = s.none;
      item = Passed (text_of bytes n);
      good = (subst IsNoCount cut count, h.text);
      asks = refl;
      whole = h.whole;
    }
