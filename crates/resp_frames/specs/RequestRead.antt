-- What the reading of a request tells.
use Rattle.std.specs.Prelude.{◌≡◌, ◌≢◌, ◌==◌, ℕ, ◌+◌, ◌≤◌, ◌<◌, ◌⊎◌, List, [], ◌∷◌, ◌++◌, length, take, drop}
use Rattle.std.specs.Prelude.{if◌then◌else◌}
use Rattle.std.specs.Fmt.{decimal}
use Rattle.plain_world.specs.Words.{longest}
use Rattle.plain_world.specs.Spelling.{line_end}
use Rattle.resp_frames.specs.Frames.{header, IsRequest, Item, item_bytes, IsItem, asked}
use Rattle.resp_frames.specs.Faults.{Begun, RequestFault}
use Rattle.resp_frames.specs.Reading.{read_item, read_body, Open}
use Rattle.resp_frames.specs.HeaderRead.{IsScanned, IsOther}
use Rattle.resp_frames.specs.LineRead.{IsLineScanned}
pub use Rattle.resp_frames.specs.LineRead.{word_at, words_at, AreWithin}
use Rattle.resp_frames.specs.declared.rule.Rule.{Rule}
use Rattle.resp_frames.specs.declared.span.Span.{Span}
use Rattle.resp_frames.specs.declared.request.Due.{Due}
use Rattle.resp_frames.specs.declared.request.Due.TheVariants as due
use Rattle.resp_frames.specs.declared.request.Progress.{Progress}
use Rattle.resp_frames.specs.declared.request.Body.{Body}
use Rattle.resp_frames.specs.declared.request.Body.TheVariants as body
use Rattle.resp_frames.specs.declared.request.Step.{Step}
use Rattle.resp_frames.specs.declared.request.Step.TheVariants as step
use Rattle.resp_frames.specs.declared.request.Found.{Found}
use Rattle.resp_frames.specs.declared.request.Found.TheVariants as found

-- the number of words is due
pub record StandsAtCount (bytes : List ℕ) (read scanned : ℕ) (spans : List Span) : Type 0 where
  pub start : read ≡ 0
  pub none : spans ≡ []
  pub header : IsScanned bytes scanned

-- the end of an inline request's line is due
pub record StandsAtLine (bytes : List ℕ) (read scanned : ℕ) (spans : List Span) : Type 0 where
  pub start : read ≡ 0
  pub none : spans ≡ []
  pub begun : IsOther 42 bytes
  pub line : IsLineScanned bytes scanned

-- the length of a word is due
pub record StandsAtLength (bytes : List ℕ) (read words scanned : ℕ) (spans : List Span) : Type 0 where
  pub within : read ≤ length bytes
  pub inside : AreWithin bytes spans
  pub begun : Begun bytes words (words_at bytes spans) (drop read bytes)
  pub header : IsScanned (drop read bytes) scanned

-- the bytes of a word are due
pub record StandsAtBody (bytes : List ℕ) (read words len : ℕ) (spans : List Span) : Type 0 where
  pub within : read ≤ length bytes
  pub inside : AreWithin bytes spans
  pub small : len ≤ longest
  pub rest : List ℕ
  pub begun : Begun bytes words (words_at bytes spans) rest
  pub headed : rest ≡ header 36 (decimal len) ++ drop read bytes

-- so far is a request read
abbrev pub Stands : List ℕ → ℕ → List Span → Due → Type 0
Stands bytes read spans (due.Count scanned) = StandsAtCount bytes read scanned spans
Stands bytes read spans (due.Line scanned) = StandsAtLine bytes read scanned spans
Stands bytes read spans (due.Length words scanned) = StandsAtLength bytes read words scanned spans
Stands bytes read spans (due.Body words len) = StandsAtBody bytes read words len spans

-- a word and its CR LF
pub record IsWholeBody (bytes : List ℕ) (len : ℕ) : Type 0 where
  pub within : len + 2 ≤ length bytes
  pub whole : bytes ≡ take len bytes ++ line_end ++ drop (len + 2) bytes

-- behind the word stands another byte than CR, or behind its CR another than LF
pub record IsNoBody (bytes : List ℕ) (len at : ℕ) : Type 0 where
  pub b : ℕ
  pub more : List ℕ
  pub within : at < length bytes
  pub long : len ≤ length bytes
  pub from : drop at bytes ≡ b ∷ more
  pub either : ((bytes ≡ take len bytes ++ drop at bytes) × (b ≢ 13))
      ⊎ ((bytes ≡ take len bytes ++ 13 ∷ drop at bytes) × (b ≢ 10))

abbrev pub ReadsBody : List ℕ → ℕ → Body → Type 0
ReadsBody bytes len body.Open = read_body len bytes ≡ Open
ReadsBody bytes len body.Whole = IsWholeBody bytes len
ReadsBody bytes len (body.Broken at) = IsNoBody bytes len at

-- more bytes are due, and so far it is read
pub record IsOpenRequest (bytes : List ℕ) (p : Progress) (spans : List Span) : Type 0 where
  pub stands : Stands bytes p.read spans p.due
  pub more : read_item bytes ≡ Open

-- a whole request, and where its words stand
pub record IsRequestAt (bytes : List ℕ) (end : ℕ) (spans : List Span) : Type 0 where
  pub some : 0 < end
  pub within : end ≤ length bytes
  pub inside : AreWithin bytes spans
  pub sound : IsRequest (words_at bytes spans)
  pub item : Item
  pub good : IsItem item
  pub asks : asked item ≡ words_at bytes spans ∷ []
  pub whole : bytes ≡ item_bytes item ++ drop end bytes

-- a header or a line that is passed over
pub record IsPassedAt (bytes : List ℕ) (end : ℕ) (spans : List Span) : Type 0 where
  pub some : 0 < end
  pub within : end ≤ length bytes
  pub none : spans ≡ []
  pub item : Item
  pub good : IsItem item
  pub asks : asked item ≡ []
  pub whole : bytes ≡ item_bytes item ++ drop end bytes

-- a rule is broken at this byte
pub record IsBrokenAt (bytes : List ℕ) (rule : Rule) (at : ℕ) : Type 0 where
  pub within : at ≤ length bytes
  pub fault : RequestFault bytes rule (drop at bytes)

-- it is read further
pub record GoesOn (bytes : List ℕ) (read : ℕ) (p : Progress) (spans : List Span) : Type 0 where
  pub stands : Stands bytes p.read spans p.due
  pub further : read < p.read
  pub within : p.read ≤ length bytes

abbrev pub ReadsStep : List ℕ → ℕ → List Span → Step → Type 0
ReadsStep bytes read spans (step.On p) = GoesOn bytes read p spans
ReadsStep bytes read spans (step.Open p) = IsOpenRequest bytes p spans
ReadsStep bytes read spans (step.Request end) = IsRequestAt bytes end spans
ReadsStep bytes read spans (step.Passed end) = IsPassedAt bytes end spans
ReadsStep bytes read spans (step.Broken rule at) = IsBrokenAt bytes rule at

abbrev pub ReadsRequest : List ℕ → List Span → Found → Type 0
ReadsRequest bytes spans (found.Open p) = IsOpenRequest bytes p spans
ReadsRequest bytes spans (found.Request end) = IsRequestAt bytes end spans
ReadsRequest bytes spans (found.Passed end) = IsPassedAt bytes end spans
ReadsRequest bytes spans (found.Broken rule at) = IsBrokenAt bytes rule at

-- what is due after so many whole words, the last of which ends there
abbrev pub step_after : ℕ → ℕ → ℕ → Step
step_after end words whole =
    if whole == words then step.Request end else step.On (record { read = end; due = due.Length words 0 })
