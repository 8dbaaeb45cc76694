-- What the reading of a header tells.
use Rattle.std.specs.Prelude.{◌≡◌, ◌≢◌, ℕ, ◌+◌, ◌≤◌, ◌⊎◌, List, [], ◌∷◌, ◌++◌, length, take, drop}
use Rattle.plain_world.specs.Spelling.{line_end}
use Rattle.resp_frames.specs.Frames.{IsPlainText, IsText, header, longest_header}
use Rattle.resp_frames.specs.Faults.{LineFault}
use Rattle.resp_frames.specs.Reading.{read_header, Open}
use Rattle.resp_frames.specs.declared.header.Header.{Header}
use Rattle.resp_frames.specs.declared.header.Header.TheVariants as headers
use Rattle.resp_frames.specs.declared.rule.Rule.{Rule}
use Rattle.resp_frames.specs.declared.rule.Rule.TheVariants as rules

-- so many bytes behind the mark are there, and hold no CR
pub record IsScanned (bytes : List ℕ) (scanned : ℕ) : Type 0 where
  pub within : scanned ≤ length (drop 1 bytes)
  pub few : scanned ≤ longest_header
  pub plain : IsPlainText (take scanned (drop 1 bytes))

-- of the bytes after the mark: the header isn't whole
pub record IsOpenText (bytes : List ℕ) (n : ℕ) : Type 0 where
  pub text : IsText (take n bytes)
  pub within : n ≤ length bytes
  pub whole : (bytes ≡ take n bytes) ⊎ (bytes ≡ take n bytes ++ 13 ∷ [])

-- of the bytes after the mark: the header is whole
pub record IsWholeText (bytes : List ℕ) (n : ℕ) : Type 0 where
  pub text : IsText (take n bytes)
  pub within : n + 2 ≤ length bytes
  pub whole : bytes ≡ take n bytes ++ line_end ++ drop (n + 2) bytes

-- of the bytes after the mark: too many of them hold no CR
pub record IsEndless (bytes : List ℕ) : Type 0 where
  pub within : longest_header ≤ length bytes
  pub plain : IsPlainText (take longest_header bytes)

-- of the bytes after the mark: their CR isn't followed by LF, but by the byte before this place
pub record IsNoLine (bytes : List ℕ) (at : ℕ) : Type 0 where
  pub text : List ℕ
  pub b : ℕ
  pub within : at ≤ length bytes
  pub whole : bytes ≡ text ++ 13 ∷ b ∷ drop at bytes
  pub long : length text + 2 ≡ at
  pub good : IsText text
  pub other : b ≢ 10

abbrev pub ReadsText : List ℕ → Header → Type 0
ReadsText bytes headers.Other = ⊥
ReadsText bytes (headers.Open n) = IsOpenText bytes n
ReadsText bytes (headers.Text n) = IsWholeText bytes n
ReadsText bytes (headers.Broken rule at) =
    ((rule ≡ rules.LineTooLong) × (at ≡ 0) × IsEndless bytes) ⊎ ((rule ≡ rules.ExpectedCrLf) × IsNoLine bytes at)

-- the text of n bytes after the mark
abbrev pub text_of : List ℕ → ℕ → List ℕ
text_of bytes n = take n (drop 1 bytes)

-- a whole header
pub record IsHeader (mark : ℕ) (bytes : List ℕ) (n : ℕ) : Type 0 where
  pub text : IsText (text_of bytes n)
  pub within : n + 3 ≤ length bytes
  pub whole : bytes ≡ header mark (text_of bytes n) ++ drop (n + 3) bytes

-- nothing, or a header that isn't whole
pub record IsOpenHeader (mark : ℕ) (bytes : List ℕ) (n : ℕ) : Type 0 where
  pub scanned : IsScanned bytes n
  pub begun : (bytes ≡ []) ⊎ (bytes ≡ mark ∷ drop 1 bytes)
  pub more : read_header bytes ≡ Open

-- another byte than the mark
pub record IsOther (mark : ℕ) (bytes : List ℕ) : Type 0 where
  pub b : ℕ
  pub more : List ℕ
  pub first : bytes ≡ b ∷ more
  pub other : b ≢ mark

-- a header that is no line
pub record IsNoHeader (mark : ℕ) (bytes : List ℕ) (rule : Rule) (at : ℕ) : Type 0 where
  pub within : at ≤ length bytes
  pub fault : LineFault mark bytes rule (drop at bytes)

abbrev pub ReadsHeader : ℕ → List ℕ → Header → Type 0
ReadsHeader mark bytes headers.Other = IsOther mark bytes
ReadsHeader mark bytes (headers.Open n) = IsOpenHeader mark bytes n
ReadsHeader mark bytes (headers.Text n) = IsHeader mark bytes n
ReadsHeader mark bytes (headers.Broken rule at) = IsNoHeader mark bytes rule at
