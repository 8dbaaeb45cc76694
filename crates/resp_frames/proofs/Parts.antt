-- A line is split into words.
use Rattle.std.proofs.Common.{◌≡◌, ℕ, zero, suc, ◌+◌, ◌-◌, ◌<◌, ◌≤◌, List, [], ◌∷◌, ◌++◌, true, Bool, length, take, drop, get_or, ap, sym, subst, ◌∙◌, refl, arith, length-append}
use Rattle.std.proofs.Common.{length-take, length-drop}
use Rattle.std.specs.Prelude.{filter}
use Rattle.std.specs.List.{AllByRecursion}
use Rattle.std.specs.Io.BufRead.{strip_last, ends_with_byte}
use Rattle.std.proofs.lemmas.List.{append_assoc, append-nil, map-append, take-append-drop, drop-append-le, take-append-le, drop-drop, drop_more, drop_all, take_rest}
use Rattle.plain_world.specs.Words.{Words, IsWord, IsRequest}
use Rattle.resp_frames.specs.Frames.{is_blank, with_byte, parts_of, has_bytes, words_of, line_words, longest_line}
use Rattle.resp_frames.specs.LineRead.{word_at, words_at, AreWithin, IsWithoutBlank, AreWords}
use Rattle.resp_frames.specs.declared.span.Span.{Span}
use Rattle.resp_frames.proofs.Choices.{chosen, other, by_test}

-- ---- words in their places stay, when more bytes come

-- a word at its span within the bytes is the same when more bytes come
word_stays : (bytes piece : List ℕ) (s : Span) → s.start + s.len ≤ length bytes → word_at (bytes ++ piece) s ≡ word_at bytes s
word_stays bytes piece s h =
    ap (take s.len) (drop-append-le s.start bytes piece (omega arith)) ∙ take-append-le s.len (drop s.start bytes) piece (omega (arith, length-drop s.start bytes))

-- the words at spans within the bytes are the same when more bytes come
pub words_stay : (bytes piece : List ℕ) (spans : List Span) → AreWithin bytes spans → words_at (bytes ++ piece) spans ≡ words_at bytes spans
words_stay bytes piece [] h = refl
words_stay bytes piece (s ∷ spans) h = ap (λ w. w ∷ words_at (bytes ++ piece) spans) (word_stays bytes piece s h.0) ∙ ap (λ ws. word_at bytes s ∷ ws) (words_stay bytes piece spans h.1)

-- spans within the bytes are within them when more bytes come
pub within_stays : (bytes piece : List ℕ) (spans : List Span) → AreWithin bytes spans → AreWithin (bytes ++ piece) spans
within_stays bytes piece [] h = tt
within_stays bytes piece (s ∷ spans) h = (let w : s.start + s.len ≤ length bytes = h.0 in omega (arith, length-append bytes piece), within_stays bytes piece spans h.1)

-- spans within the bytes are so with one more at their end that is within them
pub within_one : (bytes : List ℕ) (spans : List Span) (s : Span) → AreWithin bytes spans → s.start + s.len ≤ length bytes → AreWithin bytes (spans ++ s ∷ [])
within_one bytes [] s h e = (e, tt)
within_one bytes (x ∷ spans) s h e = (h.0, within_one bytes spans s h.1 e)

-- ---- the words of a line, from the front

-- a blank at the front of a line makes an empty first part
blank_first : (b : ℕ) (line : List ℕ) → is_blank b ≡ true → parts_of (b ∷ line) ≡ [] ∷ parts_of line
unfolding parts_of
blank_first b line e = chosen (is_blank b) ([] ∷ parts_of line) (with_byte b (parts_of line)) e

-- a line has the same words with a blank in front of it
words_after_blank : (b : ℕ) (line : List ℕ) → is_blank b ≡ true → words_of (b ∷ line) ≡ words_of line
words_after_blank b line e = ap (filter has_bytes) (blank_first b line e)

-- bytes without a blank in front of a line lengthen its first part
part_longer : (w line part : List ℕ) (parts : Words) → IsWithoutBlank w → parts_of line ≡ part ∷ parts → parts_of (w ++ line) ≡ (w ++ part) ∷ parts
unfolding parts_of
part_longer [] line part parts h e = e
part_longer (b ∷ w) line part parts h e = other (is_blank b) ([] ∷ parts_of (w ++ line)) (with_byte b (parts_of (w ++ line))) h.0 ∙ ap (with_byte b) (part_longer w line part parts h.1 e)

-- a line without bytes has one part, an empty one
parts_of_none : parts_of [] ≡ [] ∷ []
unfolding parts_of
parts_of_none = refl

-- a line without bytes has no word
pub words_of_none : words_of [] ≡ []
words_of_none = ap (filter has_bytes) parts_of_none

-- nothing follows, or a blank
abbrev StartsBlank : List ℕ → Type 0
StartsBlank [] = Unit {0}
StartsBlank (b ∷ line) = is_blank b ≡ true

-- some bytes without a blank, before a blank or the end, are the first word of a line
words_after_word : (w line : List ℕ) → IsWithoutBlank w → 0 < length w → StartsBlank line → words_of (w ++ line) ≡ w ∷ words_of line
words_after_word [] line h some e = absurd (omega arith)
words_after_word (x ∷ w) [] h some e =
    ap (filter has_bytes) (part_longer (x ∷ w) [] [] [] h parts_of_none) ∙ ap (λ l. l ∷ []) (append-nil (x ∷ w)) ∙ ap (λ ws. (x ∷ w) ∷ ws) (sym words_of_none)
words_after_word (x ∷ w) (b ∷ line) h some e =
    ap (filter has_bytes) (part_longer (x ∷ w) (b ∷ line) [] (parts_of line) h (blank_first b line e)) ∙ ap (λ l. l ∷ words_of line) (append-nil (x ∷ w))
    ∙ ap (λ ws. (x ∷ w) ∷ ws) (sym (words_after_blank b line e))

-- ---- the loop over a line

-- the words of the line, of which these are found before a place
pub record FoundTo (line : List ℕ) (spans : List Span) (at : ℕ) : Type 0 where
  pub within : at ≤ length line
  pub inside : AreWithin line spans
  pub words : words_at line spans ++ words_of (drop at line) ≡ words_of line

-- at the front of a line no word is found yet
pub found_none : (line : List ℕ) (spans : List Span) → spans ≡ [] → FoundTo line spans 0
found_none line spans e = record { within = omega arith; inside = subst (AreWithin line) (sym e) tt; words = ap (λ s. words_at line s ++ words_of line) e }

-- the words found before a blank are those found behind it
pub found_blank : (line : List ℕ) (spans : List Span) (at : ℕ) → FoundTo line spans at → at < length line → is_blank (get_or (drop at line) 0 0) ≡ true → FoundTo line spans (at + 1)
found_blank line spans at f lt e =
    let first : drop at line ≡ get_or line at 0 ∷ drop (at + 1) line = drop_more line at 0 lt in
    let blank : is_blank (get_or line at 0) ≡ true = ap (λ l. is_blank (get_or l 0 0)) (sym first) ∙ e in
    record {
      within = omega arith;
      inside = f.inside;
      words = ap (λ ws. words_at line spans ++ ws) (sym (ap words_of first ∙ words_after_blank (get_or line at 0) (drop (at + 1) line) blank)) ∙ f.words;
    }

-- from the end of a line, or from a place where a blank stands, the rest is empty or starts with a blank
starts_blank : (line : List ℕ) (len : ℕ) → len ≤ length line → (len < length line → is_blank (get_or line len 0) ≡ true) → StartsBlank (drop len line)
starts_blank [] zero le e = tt
starts_blank [] (suc len) le e = absurd (omega arith)
starts_blank (b ∷ line) zero le e = e (omega arith)
starts_blank (b ∷ line) (suc len) le e = starts_blank line len (omega arith) (λ lt. e (omega arith))

-- some bytes without a blank, up to a blank or the end, are one word more that is found
pub found_word : (line : List ℕ) (spans : List Span) (s : Span) → FoundTo line spans s.start → 0 < s.len → s.len ≤ length (drop s.start line) → IsWithoutBlank (take s.len (drop s.start line)) →
    (s.len < length (drop s.start line) → is_blank (get_or (drop s.start line) s.len 0) ≡ true) → FoundTo line (spans ++ s ∷ []) (s.start + s.len)
found_word line spans s f some le plain e =
    let rest = drop s.start line in
    let low : s.start ≤ length line = f.within in
    let fits : s.start + s.len ≤ length line = omega (arith, length-drop s.start line) in
    let word = take s.len rest in
    let next : drop s.len rest ≡ drop (s.start + s.len) line = drop-drop s.len s.start line ∙ ap (λ k. drop k line) (omega arith) in
    let split : words_of rest ≡ word ∷ words_of (drop s.len rest) =
    ap words_of (sym (take-append-drop s.len rest)) ∙ words_after_word word (drop s.len rest) plain (omega (arith, length-take s.len rest)) (starts_blank rest s.len le e) in
    record {
      within = fits;
      inside = within_one line spans s f.inside fits;
      words = ap (λ ws. ws ++ words_of (drop (s.start + s.len) line)) (map-append (word_at line) spans (s ∷ []))
          ∙ append_assoc (words_at line spans) (word ∷ []) (words_of (drop (s.start + s.len) line))
          ∙ ap (λ l. words_at line spans ++ word ∷ words_of l) (sym next) ∙ ap (λ ws. words_at line spans ++ ws) (sym split) ∙ f.words;
    }

-- the same of the part that the code lent

-- where no byte stands before the next blank of the lent part, behind that blank the same words are found
pub lent_blank : (line : List ℕ) (spans : List Span) (at len : ℕ) → FoundTo line spans at → at < length line →
    (len < length (take (length line - at) (drop at line)) → is_blank (get_or (take (length line - at) (drop at line)) len 0) ≡ true) → len ≡ 0 → FoundTo line spans (at + 1)
lent_blank line spans at len f lt found none =
    let P : List ℕ → Type 0 = λ l. len < length l → is_blank (get_or l len 0) ≡ true in
    let k = subst P (take_rest line at) found in
    let Q : ℕ → Type 0 = λ m. is_blank (get_or (drop at line) m 0) ≡ true in
    found_blank line spans at f lt (subst Q none (k (omega (arith, length-drop at line))))

-- behind the bytes of the lent part up to its next blank, if there are any, one word more is found
pub lent_word : (line : List ℕ) (spans new : List Span) (at len : ℕ) → FoundTo line spans at → len ≤ length (take (length line - at) (drop at line))
    → IsWithoutBlank (take len (take (length line - at) (drop at line))) →
    (len < length (take (length line - at) (drop at line)) → is_blank (get_or (take (length line - at) (drop at line)) len 0) ≡ true) → (len ≡ 0 → ⊥) → new ≡ spans
    ++ record { start = at; len = len } ∷ [] → FoundTo line new (at + len)
lent_word line spans new at len f within plain found some is =
    let P : List ℕ → Type 0 = λ l. (len ≤ length l) × (IsWithoutBlank (take len l)) × (len < length l → is_blank (get_or l len 0) ≡ true) in
    let k = subst P (take_rest line at) (within, plain, found) in
    let one : Span = record { start = at; len = len } in
    let Q : List Span → Type 0 = λ l. FoundTo line l (at + len) in
    subst Q (sym is) (found_word line spans one f (omega (arith, some)) k.0 k.1 k.2)

-- the words that are found before the end of a line are all its words
pub found_all : (line : List ℕ) (spans : List Span) (at : ℕ) → FoundTo line spans at → length line ≤ at → AreWords line spans
found_all line spans at f le = record {
  inside = f.inside;
  words = sym (append-nil (words_at line spans)) ∙ ap (λ ws. words_at line spans ++ ws) (sym (ap words_of (drop_all at line le) ∙ words_of_none)) ∙ f.words;
}

-- ---- without one CR

-- a text without one CR at its end is a front of that text
without_return_front : (text : List ℕ) → (tail : List ℕ) × (text ≡ strip_last 13 text ++ tail)
without_return_front text =
    by_test (λ l. (tail : List ℕ) × (text ≡ l ++ tail)) (ends_with_byte 13 text) (take (length text - 1) text) text
    (λ e. (drop (length text - 1) text, sym (take-append-drop (length text - 1) text)))
    (λ e. ([], sym (append-nil text)))

-- the words of a line stand in it, its line end among its bytes
pub line_inside : (text : List ℕ) (spans : List Span) → AreWords (strip_last 13 text) spans → AreWithin text spans
line_inside text spans h = let front = without_return_front text in subst (λ l. AreWithin l spans) (sym front.1) (within_stays (strip_last 13 text) front.0 spans h.inside)

-- where spans are those of the words of a line without one CR at its end, the line has its words there
pub line_words_at : (text : List ℕ) (spans : List Span) → AreWords (strip_last 13 text) spans → words_at text spans ≡ line_words text
line_words_at text spans h = let front = without_return_front text in ap (λ l. words_at l spans) front.1 ∙ words_stay (strip_last 13 text) front.0 spans h.inside ∙ h.words

-- ---- the words of a line are a request

module _ {X : Type 0} (test : X → Bool) where
  -- a filter leaves no more elements than there are
  filter_few : (xs : List X) → length (filter test xs) ≤ length xs
  filter_few [] = omega arith
  filter_few (x ∷ xs) = by_test (λ l. length l ≤ suc (length xs)) (test x) (x ∷ filter test xs) (filter test xs) (λ e. let few = filter_few xs in omega (arith, few))
      (λ e. let few = filter_few xs in omega (arith, few))

  -- what holds of each element holds of each that a filter leaves
  filter_each : (P : X → Type 0) (xs : List X) → AllByRecursion P xs → AllByRecursion P (filter test xs)
  filter_each P [] h = tt
  filter_each P (x ∷ xs) h = by_test (AllByRecursion P) (test x) (x ∷ filter test xs) (filter test xs) (λ e. (h.0, filter_each P xs h.1)) (λ e. filter_each P xs h.1)

-- with a byte in front of their first part, parts are still no more than a number above 0 that bounds them
byte_few : (b n : ℕ) (parts : Words) → length parts ≤ suc n → length (with_byte b parts) ≤ suc n
byte_few b n [] h = omega arith
byte_few b n (part ∷ parts) h = h

-- a line has at most one part more than bytes
parts_few : (line : List ℕ) → length (parts_of line) ≤ suc (length line)
unfolding parts_of
parts_few [] = omega arith
parts_few (b ∷ line) =
    let few : length (parts_of line) ≤ suc (length line) = parts_few line in
    by_test (λ l. length l ≤ suc (suc (length line))) (is_blank b) ([] ∷ parts_of line) (with_byte b (parts_of line)) (λ e. omega (arith, few))
    (λ e. byte_few b (suc (length line)) (parts_of line) (omega (arith, few)))

-- each part has at most so many bytes
abbrev AreShort : ℕ → Words → Type 0
AreShort n parts = AllByRecursion (λ part. length part ≤ n) parts

-- parts of at most so many bytes have at most one more
short_more : (n : ℕ) (parts : Words) → AreShort n parts → AreShort (suc n) parts
short_more n [] h = tt
short_more n (part ∷ parts) h = (let k : length part ≤ n = h.0 in omega arith, short_more n parts h.1)

-- with a byte in front of their first part, parts of at most so many bytes have at most one more
byte_short : (b n : ℕ) (parts : Words) → AreShort n parts → AreShort (suc n) (with_byte b parts)
byte_short b n [] h = (omega arith, tt)
byte_short b n (part ∷ parts) h = (let k : length part ≤ n = h.0 in omega arith, short_more n parts h.1)

-- no part of a line has more bytes than the line
parts_short : (line : List ℕ) → AreShort (length line) (parts_of line)
unfolding parts_of
parts_short [] = (omega arith, tt)
parts_short (b ∷ line) =
    by_test (AreShort (suc (length line))) (is_blank b) ([] ∷ parts_of line) (with_byte b (parts_of line)) (λ e. (omega arith, short_more (length line) (parts_of line) (parts_short line)))
    (λ e. byte_short b (length line) (parts_of line) (parts_short line))

-- parts within the greatest length of a line are words
are_words : (n : ℕ) (parts : Words) → n ≤ longest_line → AreShort n parts → AllByRecursion IsWord parts
are_words n [] le h = tt
are_words n (part ∷ parts) le h = (let k : length part ≤ n = h.0 in omega arith, are_words n parts le h.1)

-- a text without one CR at its end is no longer than that text
return_less : (text : List ℕ) → length (strip_last 13 text) ≤ length text
return_less text = by_test (λ l. length l ≤ length text) (ends_with_byte 13 text) (take (length text - 1) text) text (λ e. omega (arith, length-take (length text - 1) text)) (λ e. omega arith)

-- the words of a line that isn't too long are a request, if there are any
pub line_request : (text : List ℕ) → length text ≤ longest_line → 0 < length (line_words text) → IsRequest (line_words text)
line_request text short some =
    let line = strip_last 13 text in
    let less : length line ≤ length text = return_less text in
    let few : length (parts_of line) ≤ suc (length line) = parts_few line in
    record {
      some = some;
      few = omega (arith, filter_few has_bytes (parts_of line), few, less);
      each = filter_each has_bytes IsWord (parts_of line) (are_words (length line) (parts_of line) (omega arith) (parts_short line));
    }
