-- The rules that a stream can break. A fault is the rule, and the bytes from the place named on.
-- The number of words isn't canonical, or is above 1,048,576. Another byte stands where `$` is due. A length isn't
-- canonical, is below 0 or above 536,870,912. 65,537 bytes of a header hold no CR, or of an inline request no LF. CR
-- isn't followed by LF, or a word by CR LF. A whole inline request holds a quote.
use Rattle.std.specs.Prelude.{◌≡◌, ◌≢◌, ℕ, ◌+◌, ◌<◌, ◌≤◌, ◌⊎◌, List, ◌∷◌, ◌++◌, length, flat_map, true}
use Rattle.std.specs.List.{AllByRecursion}
use Rattle.std.specs.Fmt.{decimal}
use Rattle.plain_world.specs.Words.{Words, longest}
use Rattle.resp_frames.specs.Frames.{header, bulk, IsWord, IsWithout, IsPlainText, IsText, IsNoCount, IsInline}
use Rattle.resp_frames.specs.Frames.{IsLine, is_quote, IsUnquoted, most_words, longest_header, longest_line}
use Rattle.resp_frames.specs.declared.rule.Rule.{Rule}
use Rattle.resp_frames.specs.declared.rule.Rule.TheVariants as rules

-- the number of a request's header: 0 or less, or so many words
abbrev pub IsCount : List ℕ → Type 0
IsCount text = IsNoCount text ⊎ ((n : ℕ) × (n ≤ most_words) × (text ≡ decimal n))

-- the number of a bulk string's header
abbrev pub IsLength : List ℕ → Type 0
IsLength text = (n : ℕ) × (n ≤ longest) × (text ≡ decimal n)

-- a header at the front of the bytes that is no line behind this mark
pub data LineFault (mark : ℕ) (bytes : List ℕ) (rule : Rule) (from : List ℕ) : Type 0 where
  too_long : (text more : List ℕ) → rule ≡ rules.LineTooLong → from ≡ bytes → bytes ≡ mark ∷ text ++ more
      → IsPlainText text → length text ≡ longest_header → LineFault mark bytes rule from
  no_line_feed : (text more : List ℕ) (b : ℕ) → rule ≡ rules.ExpectedCrLf → from ≡ b ∷ more
      → bytes ≡ mark ∷ text ++ 13 ∷ from → IsText text → b ≢ 10 → LineFault mark bytes rule from

-- a header at the front of the bytes whose number isn't one of these: `wrong` is the rule on its number
pub data NumberFault (mark : ℕ) (wrong : Rule) (IsGood : List ℕ → Type 0) (bytes : List ℕ) (rule : Rule)
    (from : List ℕ) : Type 0 where
  bad_number : (text more : List ℕ) → rule ≡ wrong → from ≡ bytes → bytes ≡ header mark text ++ more → IsText text
      → (IsGood text → ⊥) → NumberFault mark wrong IsGood bytes rule from

-- a fault in the bulk string at the front of the bytes
pub data BulkFault (bytes : List ℕ) (rule : Rule) (from : List ℕ) : Type 0 where
  other_mark : (b : ℕ) (more : List ℕ) → rule ≡ rules.ExpectedDollar → from ≡ bytes → bytes ≡ b ∷ more → b ≢ 36
      → BulkFault bytes rule from
  length_line : LineFault 36 bytes rule from → BulkFault bytes rule from
  length_number : NumberFault 36 rules.InvalidBulkLength IsLength bytes rule from → BulkFault bytes rule from
  no_return : (word more : List ℕ) (b : ℕ) → rule ≡ rules.ExpectedCrLf → from ≡ b ∷ more
      → bytes ≡ header 36 (decimal (length word)) ++ (word ++ from) → IsWord word → b ≢ 13 → BulkFault bytes rule from
  no_feed : (word more : List ℕ) (b : ℕ) → rule ≡ rules.ExpectedCrLf → from ≡ b ∷ more
      → bytes ≡ header 36 (decimal (length word)) ++ (word ++ 13 ∷ from) → IsWord word → b ≢ 10
      → BulkFault bytes rule from

-- the bytes begin a request of n words, of which these are whole
pub record Begun (bytes : List ℕ) (n : ℕ) (words : Words) (rest : List ℕ) : Type 0 where
  pub whole : bytes ≡ header 42 (decimal n) ++ (flat_map bulk words ++ rest)
  pub few : n ≤ most_words
  pub due : length words < n
  pub each : AllByRecursion IsWord words

-- a fault in the inline request at the front of the bytes
pub data InlineFault (bytes : List ℕ) (rule : Rule) (from : List ℕ) : Type 0 where
  endless : (text more : List ℕ) → rule ≡ rules.LineTooLong → from ≡ bytes → bytes ≡ text ++ more → IsInline text
      → IsWithout 10 text → length text ≡ longest_line + 1 → InlineFault bytes rule from
  quoted : (front back more : List ℕ) (quote_ : ℕ) → rule ≡ rules.QuotedInline → from ≡ quote_ ∷ back ++ 10 ∷ more
      → bytes ≡ front ++ from → IsLine (front ++ quote_ ∷ back) → IsUnquoted front → is_quote quote_ ≡ true
      → InlineFault bytes rule from

-- a fault in the request at the front of the bytes
pub data RequestFault (bytes : List ℕ) (rule : Rule) (from : List ℕ) : Type 0 where
  count_line : LineFault 42 bytes rule from → RequestFault bytes rule from
  count_number : NumberFault 42 rules.InvalidMultibulkLength IsCount bytes rule from → RequestFault bytes rule from
  in_word : (n : ℕ) (words : Words) (rest : List ℕ) → Begun bytes n words rest → BulkFault rest rule from
      → RequestFault bytes rule from
  in_line : InlineFault bytes rule from → RequestFault bytes rule from
