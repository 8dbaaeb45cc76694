-- A reading of the frames from the front, by which their laws are shown. No public contract cites it.
use Rattle.std.specs.Prelude.{ℕ, ◌+◌, zero, suc, ◌==◌, List, [], ◌∷◌, ◌++◌, take, drop, Option, Some, None, ◌&&◌}
use Rattle.std.specs.Prelude.{nat_le, bytes_eq, if◌then◌else◌}
use Rattle.std.specs.Fmt.{decimal}
use Rattle.std.specs.Str.Parse.{digits_value}
use Rattle.plain_world.specs.Words.{Words, longest}
use Rattle.resp_frames.specs.Frames.{Item, Asked, Passed, Line, is_quote, is_negative, most_words, longest_header}
use Rattle.resp_frames.specs.Frames.{longest_line}
use Rattle.resp_frames.specs.declared.rule.Rule.{Rule}
use Rattle.resp_frames.specs.declared.rule.Rule.TheVariants as rules

-- what stands at the front of the bytes and what follows it; or that more bytes are due; or the fault
pub data Read (A : Type 0) : Type 0 where
  Took : A → List ℕ → Read A
  Open : Read A
  Wrong : Rule → List ℕ → Read A

abbrev pub read_on : {A B : Type 0} → Read A → (A → List ℕ → Read B) → Read B
read_on (Took x rest) next = next x rest
read_on Open next = Open
read_on (Wrong rule from) next = Wrong rule from

-- the text up to the first byte of this sort, of fewer than so many bytes
abbrev pub with_front : ℕ → Read (List ℕ) → Read (List ℕ)
with_front b (Took text rest) = Took (b ∷ text) rest
with_front b Open = Open
with_front b (Wrong rule from) = Wrong rule from

unfoldable pub read_text : ℕ → ℕ → List ℕ → Read (List ℕ)
read_text end zero bytes = Wrong rules.LineTooLong bytes
read_text end (suc k) [] = Open
read_text end (suc k) (b ∷ bytes) = if b == end then Took [] bytes else with_front b (read_text end k bytes)

-- a header
abbrev pub read_feed : List ℕ → Read (List ℕ) → Read (List ℕ)
read_feed all (Took text []) = Open
read_feed all (Took text (b ∷ rest)) = if b == 10 then Took text rest else Wrong rules.ExpectedCrLf (b ∷ rest)
read_feed all Open = Open
read_feed all (Wrong rule from) = Wrong rules.LineTooLong all

-- (its mark isn't looked at)
unfoldable pub read_header : List ℕ → Read (List ℕ)
read_header [] = Open
read_header (mark ∷ bytes) = read_feed (mark ∷ bytes) (read_text 13 longest_header bytes)

-- a canonical number up to a limit
unfoldable pub read_number : ℕ → List ℕ → Option ℕ
read_number most text =
    if bytes_eq text (decimal (digits_value 10 text)) && nat_le (digits_value 10 text) most
    then Some (digits_value 10 text) else None

-- a number of words
unfoldable pub read_count : List ℕ → Option ℕ
read_count text = if is_negative text then Some 0 else read_number most_words text

-- a word of a known length, and CR LF
abbrev pub after_return : List ℕ → List ℕ → Read (List ℕ)
after_return word [] = Open
after_return word (b ∷ rest) = if b == 10 then Took word rest else Wrong rules.ExpectedCrLf (b ∷ rest)

abbrev pub after_word : List ℕ → List ℕ → Read (List ℕ)
after_word word [] = Open
after_word word (b ∷ rest) = if b == 13 then after_return word rest else Wrong rules.ExpectedCrLf (b ∷ rest)

unfoldable pub read_body : ℕ → List ℕ → Read (List ℕ)
read_body len bytes = after_word (take len bytes) (drop len bytes)

-- a bulk string
abbrev pub read_word : List ℕ → Option ℕ → List ℕ → Read (List ℕ)
read_word all None rest = Wrong rules.InvalidBulkLength all
read_word all (Some len) rest = read_body len rest

abbrev pub read_marked : List ℕ → Read (List ℕ)
read_marked bytes = read_on (read_header bytes) (λ text rest. read_word bytes (read_number longest text) rest)

unfoldable pub read_bulk : List ℕ → Read (List ℕ)
read_bulk [] = Open
read_bulk (b ∷ bytes) = if b == 36 then read_marked (b ∷ bytes) else Wrong rules.ExpectedDollar (b ∷ bytes)

-- so many bulk strings
unfoldable pub read_bulks : ℕ → List ℕ → Read Words
read_bulks zero bytes = Took [] bytes
read_bulks (suc n) bytes =
    read_on (read_bulk bytes) (λ word rest. read_on (read_bulks n rest) (λ words end. Took (word ∷ words) end))

-- a request of bulk strings
abbrev pub read_words : List ℕ → List ℕ → Option ℕ → List ℕ → Read Item
read_words all text None rest = Wrong rules.InvalidMultibulkLength all
read_words all text (Some zero) rest = Took (Passed text) rest
read_words all text (Some (suc n)) rest = read_on (read_bulks (suc n) rest) (λ words end. Took (Asked words) end)

abbrev pub read_array : List ℕ → Read Item
read_array bytes = read_on (read_header bytes) (λ text rest. read_words bytes text (read_count text) rest)

-- a line from its first quote on
unfoldable pub from_quote : List ℕ → List ℕ
from_quote [] = []
from_quote (b ∷ text) = if is_quote b then b ∷ text else from_quote text

-- an inline request
abbrev pub read_quote : List ℕ → List ℕ → List ℕ → Read Item
read_quote text [] rest = Took (Line text) rest
read_quote text (b ∷ back) rest = Wrong rules.QuotedInline (b ∷ back ++ 10 ∷ rest)

abbrev pub after_line : List ℕ → Read (List ℕ) → Read Item
after_line all (Took text rest) = read_quote text (from_quote text) rest
after_line all Open = Open
after_line all (Wrong rule from) = Wrong rules.LineTooLong all

unfoldable pub read_line : List ℕ → Read Item
read_line bytes = after_line bytes (read_text 10 (longest_line + 1) bytes)

-- an item
unfoldable pub read_item : List ℕ → Read Item
read_item [] = Open
read_item (b ∷ bytes) = if b == 42 then read_array (b ∷ bytes) else read_line (b ∷ bytes)
