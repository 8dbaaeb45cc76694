-- What the reading of an inline request's line tells.
use Rattle.std.specs.Prelude.{◌≡◌, ℕ, ◌+◌, ◌≤◌, ◌<◌, ◌⊎◌, List, length, take, drop, map, true, false, slice_index}
use Rattle.std.specs.List.{AllByRecursion}
use Rattle.plain_world.specs.Words.{Words}
use Rattle.resp_frames.specs.Frames.{IsWithout, is_quote, IsUnquoted, is_blank, words_of, longest_line}
use Rattle.resp_frames.specs.declared.span.Span.{Span}
use Rattle.resp_frames.specs.declared.line.Inline.{Inline}
use Rattle.resp_frames.specs.declared.line.Inline.TheVariants as lines
use Rattle.resp_frames.specs.declared.rule.Rule.TheVariants as rules

-- the word in its place
abbrev pub word_at : List ℕ → Span → List ℕ
word_at bytes s = take s.len (drop s.start bytes)

abbrev pub words_at : List ℕ → List Span → Words
words_at bytes spans = map (word_at bytes) spans

-- the words stand within the bytes
abbrev pub AreWithin : List ℕ → List Span → Type 0
AreWithin bytes spans = AllByRecursion (λ s. s.start + s.len ≤ length bytes) spans

-- so many bytes are there, and hold no LF
pub record IsLineScanned (bytes : List ℕ) (scanned : ℕ) : Type 0 where
  pub within : scanned ≤ length bytes
  pub few : scanned ≤ longest_line + 1
  pub plain : IsWithout 10 (take scanned bytes)

-- neither a space nor a tab
abbrev pub IsWithoutBlank : List ℕ → Type 0
IsWithoutBlank bytes = AllByRecursion (λ b. is_blank b ≡ false) bytes

-- the first quote stands there
pub record IsQuotedAt (text : List ℕ) (at : ℕ) : Type 0 where
  pub within : at < length text
  pub before : IsUnquoted (take at text)
  pub quoted : is_quote (slice_index text at) ≡ true

-- all bytes, without LF
pub record IsOpenLine (bytes : List ℕ) (n : ℕ) : Type 0 where
  pub all : n ≡ length bytes
  pub few : n ≤ longest_line
  pub plain : IsWithout 10 bytes

-- the bytes before the LF
pub record IsLineOf (bytes : List ℕ) (n : ℕ) : Type 0 where
  pub within : n < length bytes
  pub few : n ≤ longest_line
  pub plain : IsWithout 10 (take n bytes)
  pub end : slice_index bytes n ≡ 10

-- a whole line without quotes
pub record IsWholeLine (bytes : List ℕ) (n : ℕ) : Type 0 where
  pub line : IsLineOf bytes n
  pub unquoted : IsUnquoted (take n bytes)

-- too many bytes hold no LF
pub record IsEndlessLine (bytes : List ℕ) : Type 0 where
  pub within : longest_line + 1 ≤ length bytes
  pub plain : IsWithout 10 (take (longest_line + 1) bytes)

-- a whole line whose first quote stands there
pub record IsQuotedLine (bytes : List ℕ) (at : ℕ) : Type 0 where
  pub len : ℕ
  pub line : IsLineOf bytes len
  pub quoted : IsQuotedAt (take len bytes) at

abbrev pub ReadsLine : List ℕ → Inline → Type 0
ReadsLine bytes (lines.Open n) = IsOpenLine bytes n
ReadsLine bytes (lines.Text n) = IsWholeLine bytes n
ReadsLine bytes (lines.Broken rule at) =
    ((rule ≡ rules.LineTooLong) × (at ≡ 0) × IsEndlessLine bytes)
    ⊎ ((rule ≡ rules.QuotedInline) × IsQuotedLine bytes at)

-- where the words of a line stand, which has no line end
pub record AreWords (line : List ℕ) (spans : List Span) : Type 0 where
  pub inside : AreWithin line spans
  pub words : words_at line spans ≡ words_of line
