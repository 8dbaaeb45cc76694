-- How the code reads an inline request.
use Rattle.std.proofs.Common.{◌≡◌, ℕ, ◌+◌, ◌<◌, ◌≤◌, List, [], ◌∷◌, ◌++◌, length, take, drop, get_or, ap, sym, subst, ◌∙◌, refl, arith, inl, inr, length-take}
use Rattle.std.specs.Io.BufRead.{strip_last}
use Rattle.std.proofs.lemmas.List.{append_assoc, take-append-drop, take_all, drop_more, drop-append-le, length-map}
use Rattle.plain_world.specs.Words.{Words, IsRequest}
use Rattle.resp_frames.specs.Frames.{Line, IsInline, IsLine, IsWithout, line_words, asked_inline, longest_line}
use Rattle.resp_frames.specs.Faults.{InlineFault, endless, quoted, in_line}
use Rattle.resp_frames.specs.HeaderRead.{IsOther}
use Rattle.resp_frames.specs.LineRead.{word_at, words_at, AreWithin, IsOpenLine, IsLineOf, IsWholeLine, IsEndlessLine, IsQuotedLine, ReadsLine, AreWords}
use Rattle.resp_frames.specs.RequestRead.{StandsAtLine, IsOpenRequest, IsRequestAt, IsPassedAt, IsBrokenAt}
use Rattle.resp_frames.specs.declared.span.Span.{Span}
use Rattle.resp_frames.specs.declared.line.Inline.TheVariants as lines
use Rattle.resp_frames.specs.declared.request.Due.TheVariants as due
use Rattle.resp_frames.proofs.Inlines.{inline_front, line_open}
use Rattle.resp_frames.proofs.Parts.{words_stay, within_stays, line_inside, line_words_at, line_request}
use Rattle.resp_frames.specs.declared.rule.Rule.{Rule}
use Rattle.resp_frames.specs.declared.rule.Rule.TheVariants as rules

-- it begins as an inline request does
is_inline : (bytes : List ℕ) → IsOther 42 bytes → IsInline bytes
is_inline bytes h = subst IsInline (sym h.first) h.other

begun_some : (bytes : List ℕ) → IsOther 42 bytes → 0 < length bytes
begun_some bytes h = omega (arith, ap length h.first)

inline_take : (bytes : List ℕ) (n : ℕ) → IsInline bytes → IsInline (take n bytes)
inline_take bytes n h = inline_front (take n bytes) (drop n bytes) (subst IsInline (sym (take-append-drop n bytes)) h)

pub open_line : (bytes : List ℕ) (scanned n : ℕ) (spans : List Span) → StandsAtLine bytes 0 scanned spans → IsOpenLine bytes n → IsOpenRequest bytes (record { read = 0; due = due.Line n }) spans
open_line bytes scanned n spans s h =
    let all : n ≡ length bytes = h.all in
    let few : n ≤ longest_line = h.few in
    record {
      stands = record {
        start = refl;
        none = s.none;
        begun = s.begun;
        line = record { within = omega arith; few = omega arith; plain = subst (IsWithout 10) (sym (take_all n bytes (omega arith))) h.plain };
      };
      more = line_open bytes (is_inline bytes s.begun) (begun_some bytes s.begun) h.plain (omega arith);
    }

pub endless_line : (bytes : List ℕ) (n : ℕ) → n ≤ length bytes → n ≤ longest_line + 1 → IsWithout 10 (take n bytes) → longest_line < n → IsEndlessLine bytes
endless_line bytes n within few plain many =
    let is : n ≡ longest_line + 1 = omega arith in
    let P : ℕ → Type 0 = λ m. IsWithout 10 (take m bytes) in
    record { within = omega arith; plain = subst P is plain }

-- the bytes, cut at the LF
line_cut : (bytes : List ℕ) (n : ℕ) → IsLineOf bytes n → bytes ≡ take n bytes ++ 10 ∷ drop (n + 1) bytes
line_cut bytes n h = sym (take-append-drop n bytes) ∙ ap (λ l. take n bytes ++ l) (drop_more bytes n 0 h.within ∙ ap (λ b. b ∷ drop (n + 1) bytes) h.end)

line_sound : (bytes : List ℕ) (n : ℕ) → IsInline bytes → IsLineOf bytes n → IsLine (take n bytes)
line_sound bytes n i h = let few : n ≤ longest_line = h.few in record { inline = inline_take bytes n i; plain = h.plain; short = omega (arith, length-take n bytes) }

quoted_line : (bytes : List ℕ) (at : ℕ) → IsInline bytes → IsQuotedLine bytes at → InlineFault bytes rules.QuotedInline (drop at bytes)
quoted_line bytes at i h =
    let text = take h.len bytes in
    let more = drop (h.len + 1) bytes in
    let q = get_or text at 0 in
    let lt : at < length text = h.quoted.within in
    let rest : drop at text ≡ q ∷ drop (at + 1) text = drop_more text at 0 lt in
    let split : text ≡ take at text ++ q ∷ drop (at + 1) text = sym (take-append-drop at text) ∙ ap (λ l. take at text ++ l) rest in
    let cut = line_cut bytes h.len h.line in
    let from : drop at bytes ≡ q ∷ drop (at + 1) text ++ 10 ∷ more = ap (drop at) cut ∙ drop-append-le at text (10 ∷ more) (omega arith) ∙ ap (λ l. l ++ 10 ∷ more) rest in
    let whole : bytes ≡ take at text ++ drop at bytes =
    cut ∙ ap (λ l. l ++ 10 ∷ more) split ∙ append_assoc (take at text) (q ∷ drop (at + 1) text) (10 ∷ more) ∙ ap (λ l. take at text ++ l) (sym from) in
    quoted (take at text) (drop (at + 1) text) more q refl from whole (subst IsLine split (line_sound bytes h.len i h.line)) h.quoted.before h.quoted.quoted

quoted_within : (bytes : List ℕ) (at : ℕ) → IsQuotedLine bytes at → at ≤ length bytes
quoted_within bytes at h =
    let lt : at < length (take h.len bytes) = h.quoted.within in
    omega (arith, length-take h.len bytes)

pub broken_line : (bytes : List ℕ) (scanned : ℕ) (rule : Rule) (at : ℕ) (spans : List Span) → StandsAtLine bytes 0 scanned spans → ReadsLine bytes (lines.Broken rule at) → IsBrokenAt bytes rule at
broken_line bytes scanned rule at spans s h =
    let i = is_inline bytes s.begun in
    elim h [
      | inl p ↦
          let w : longest_line + 1 ≤ length bytes = p.2.within in
          let whole : bytes ≡ take (longest_line + 1) bytes ++ drop (longest_line + 1) bytes = sym (take-append-drop (longest_line + 1) bytes) in
          record {
            within = omega (arith, p.1);
            fault = in_line
                (endless (take (longest_line + 1) bytes) (drop (longest_line + 1) bytes) p.0 (ap (λ k. drop k bytes) p.1) whole (inline_take bytes (longest_line + 1) i) p.2.plain
                (omega (arith, length-take (longest_line + 1) bytes)));
          }
      | inr p ↦ record {
        within = quoted_within bytes at p.1;
        fault = in_line (subst (λ r. InlineFault bytes r (drop at bytes)) (sym p.0) (quoted_line bytes at i p.1));
      }
    ]

-- ---- a whole line

asked_some : (ws : Words) → 0 < length ws → asked_inline ws ≡ ws ∷ []
asked_some [] h = absurd (omega arith)
asked_some (w ∷ ws) h = refl

asked_none : (ws : Words) → ws ≡ [] → asked_inline ws ≡ []
asked_none ws e = ap asked_inline e

line_whole : (bytes : List ℕ) (n : ℕ) → IsLineOf bytes n → bytes ≡ (take n bytes ++ 10 ∷ []) ++ drop (n + 1) bytes
line_whole bytes n h = line_cut bytes n h ∙ sym (append_assoc (take n bytes) (10 ∷ []) (drop (n + 1) bytes))

end_within : (bytes : List ℕ) (n : ℕ) → IsLineOf bytes n → n + 1 ≤ length bytes
end_within bytes n h = let lt : n < length bytes = h.within in omega arith

bytes_words_at : (bytes : List ℕ) (n : ℕ) (spans : List Span) → IsLineOf bytes n → AreWords (strip_last 13 (take n bytes)) spans → words_at bytes spans ≡ line_words (take n bytes)
bytes_words_at bytes n spans h w =
    ap (λ l. words_at l spans) (line_cut bytes n h) ∙ words_stay (take n bytes) (10 ∷ drop (n + 1) bytes) spans (line_inside (take n bytes) spans w) ∙ line_words_at (take n bytes) spans w

words_many : (bytes : List ℕ) (spans : List Span) → length (words_at bytes spans) ≡ length spans
words_many bytes spans = length-map spans (word_at bytes)

pub request_line : (bytes : List ℕ) (scanned n : ℕ) (old spans : List Span) → StandsAtLine bytes 0 scanned old → IsWholeLine bytes n → AreWords (strip_last 13 (take n bytes)) spans
    → 0 < length spans → IsRequestAt bytes (n + 1) spans
request_line bytes scanned n old spans s h w some =
    let text = take n bytes in
    let are = bytes_words_at bytes n spans h.line w in
    let few : n ≤ longest_line = h.line.few in
    let P : Words → Type 0 = λ ws. 0 < length ws in
    let words : 0 < length (line_words text) = subst P are (omega (arith, words_many bytes spans)) in
    record {
      some = omega arith;
      within = end_within bytes n h.line;
      inside = subst (λ l. AreWithin l spans) (sym (line_cut bytes n h.line)) (within_stays text (10 ∷ drop (n + 1) bytes) spans (line_inside text spans w));
      sound = subst IsRequest (sym are) (line_request text (omega (arith, length-take n bytes)) words);
      item = Line text;
      good = (line_sound bytes n (is_inline bytes s.begun) h.line, h.unquoted);
      asks = asked_some (line_words text) words ∙ ap (λ ws. ws ∷ []) (sym are);
      whole = line_whole bytes n h.line;
    }

no_spans : (spans : List Span) → length spans ≡ 0 → spans ≡ []
no_spans [] e = refl
no_spans (s ∷ spans) e = absurd (omega arith)

pub passed_line : (bytes : List ℕ) (scanned n : ℕ) (old spans : List Span) → StandsAtLine bytes 0 scanned old → IsWholeLine bytes n → AreWords (strip_last 13 (take n bytes)) spans
    → length spans ≡ 0 → IsPassedAt bytes (n + 1) spans
passed_line bytes scanned n old spans s h w none =
    let text = take n bytes in
    let empty = no_spans spans none in
    record {
      some = omega arith;
      within = end_within bytes n h.line;
      none = empty;
      item = Line text;
      good = (line_sound bytes n (is_inline bytes s.begun) h.line, h.unquoted);
      asks = asked_none (line_words text) (sym (line_words_at text spans w) ∙ ap (words_at text) empty);
      whole = line_whole bytes n h.line;
    }
