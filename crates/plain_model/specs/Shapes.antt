-- How the words behind a command's name are read (Redis command reference, the syntax of each command).
--
-- First their number is looked at, then they are read from left to right, and each is refused where it stands. What
-- words break together comes last. A command is a row: the kinds of its first words, and what may follow them.
use Rattle.std.specs.Prelude.{ℕ, zero, suc, ◌-◌, ◌%◌, ◌==◌, List, [], ◌∷◌, length, take, drop, ℤ, pos, negsuc, int_le, Option, Some, None, Bool, true, false, ◌&&◌, ◌||◌, ◌^◌, nat_le}
use Rattle.std.specs.Prelude.{nat_lt, int_lt, neg_ℤ, bytes_eq, codes, Result, Ok, Err, if◌then◌else◌}
use Rattle.std.specs.Str.{all_ascii_digits}
use Rattle.std.specs.Str.Parse.{digits_value}
use Rattle.plain_world.specs.Words.{Words, in_lower_case}
use Rattle.int_text.specs.Decimal.{is_i64, number_of}
use Rattle.plain_model.specs.declared.list_command.Side.{Side}
use Rattle.plain_model.specs.declared.list_command.Side.TheVariants.{Before, After}
use Rattle.plain_model.specs.declared.list_command.ListEnd.{ListEnd}
use Rattle.plain_model.specs.declared.list_command.ListEnd.TheVariants.{Head, Tail}
use Rattle.int_text.specs.declared.score.ScoreFault.{ScoreFault}
use Rattle.int_text.specs.declared.score.ScoreFault.TheVariants.{Malformed, NotWhole, TooLarge}
use Rattle.plain_world.specs.ScoreTexts.{score_of}
use Rattle.stream_groups.specs.Groups.{Id}
use Rattle.plain_model.specs.IdTexts.{entry_id, id_or, new_id, range_end, first_in, last_in}
use Rattle.plain_model.specs.declared.stream_command.NewId.{NewId}
use Rattle.plain_model.specs.declared.zset_command.ScoreBound.{ScoreBound}
use Rattle.plain_model.specs.declared.zset_command.ScoreBound.TheVariants.{Lowest, Including, Excluding, Highest}
use Rattle.plain_model.specs.declared.zset_command.Aggregate.{Aggregate}
use Rattle.plain_model.specs.declared.zset_command.Aggregate.TheVariants.{Sum, Min, Max}
use Rattle.plain_world.specs.declared.refusal.Refusal.{Refusal}
use Rattle.plain_world.specs.declared.refusal.Refusal.TheVariants.{WrongNumberOfArguments, Syntax, NotAnInteger, NotAScore, NotAWholeScore, IndexOutOfRange, InvalidExpireTime}
use Rattle.plain_world.specs.declared.refusal.Refusal.TheVariants.{InvalidCursor, DatabaseOutOfRange, ValueOutOfRange}

-- the first one's refusal, or what the rest makes of what it told
abbrev pub and_then : {A B : Type 0} → Result A Refusal → (A → Result B Refusal) → Result B Refusal
and_then (Ok a) rest = rest a
and_then (Err refusal) rest = Err refusal

-- what a word has to be
pub data Kind : Type 0 where
  -- any bytes
  Plain : Kind
  -- a whole number of 64 bits with a sign
  Whole : Kind
  -- such a number from 0 on
  Offset : Kind
  -- such a number above 0, as a time
  Span : Kind
  -- such a number from 0 to 15, as a database
  Database : Kind
  -- such a number from 1 on, as how many are to be met
  Count : Kind
  -- such a number from 0 to 1,000,000, as how many steps are to be made
  Steps : Kind
  -- decimal digits of a number of 64 bits, as a cursor
  Cursor : Kind
  -- a whole number from 0 on, as how many are asked for
  Amount : Kind
  -- a whole number that has an opposite one and isn't 0, as which match is meant
  Rank : Kind
  -- BEFORE or AFTER, whatever the case
  OnSide : Kind
  -- LEFT or RIGHT, whatever the case
  AtEnd : Kind
  -- a score text
  Score : Kind
  -- an infinity whatever the case, a score text, or `(` and a score text, as an end of a range
  Bound : Kind
  -- a whole number from -1,048,576 on, as how many are picked
  Picks : Kind
  -- a whole number from 1 on, as how many keys stand behind it
  Keys : Kind
  -- SUM, MIN or MAX, whatever the case
  Aggregated : Kind
  -- the id of an entry
  EntryId : Kind
  -- the same, or this sign that stands for one
  IdOr : List ℕ → Kind
  -- `*`, an id, or milliseconds with `-*` behind them, as the id of a new entry
  ForEntry : Kind
  -- an id, `-` or `+`, and with `(` before it the next one, as the start of a range; 0 where the second number is missing
  FirstId : Kind
  -- the same as the end of a range; `(` tells the id before, and 2^64 - 1 stands where the second number is missing
  LastId : Kind

-- what a word of this kind tells
abbrev pub Told : Kind → Type 0
Told Plain = List ℕ
Told Whole = ℤ
Told Offset = ℕ
Told Span = ℤ
Told Database = ℕ
Told Count = ℕ
Told Steps = ℕ
Told Cursor = ℕ
Told Amount = ℕ
Told Rank = ℤ
Told OnSide = Side
Told AtEnd = ListEnd
Told Score = ℤ
Told Bound = ScoreBound
Told Picks = ℤ
Told Keys = ℕ
Told Aggregated = Aggregate
Told EntryId = Id
Told (IdOr sign) = Option Id
Told ForEntry = NewId
Told FirstId = Id
Told LastId = Id

abbrev pub whole : Option ℤ → Result ℤ Refusal
whole None = Err NotAnInteger
whole (Some n) = Ok n

abbrev pub offset : ℤ → Result ℕ Refusal
offset (pos n) = Ok n
offset (negsuc n) = Err IndexOutOfRange

abbrev pub span : ℤ → Result ℤ Refusal
span n = if int_lt (pos 0) n then Ok n else Err InvalidExpireTime

abbrev pub database : ℤ → Result ℕ Refusal
database (pos n) = if nat_lt n 16 then Ok n else Err DatabaseOutOfRange
database (negsuc n) = Err DatabaseOutOfRange

abbrev pub count : ℤ → Result ℕ Refusal
count (pos n) = if nat_lt 0 n then Ok n else Err Syntax
count (negsuc n) = Err Syntax

abbrev pub steps : ℤ → Result ℕ Refusal
steps (pos n) = if nat_le n 1000000 then Ok n else Err ValueOutOfRange
steps (negsuc n) = Err ValueOutOfRange

abbrev pub amount : ℤ → Result ℕ Refusal
amount (pos n) = Ok n
amount (negsuc n) = Err ValueOutOfRange

abbrev pub rank : ℤ → Result ℤ Refusal
rank (pos n) = if nat_lt 0 n then Ok (pos n) else Err ValueOutOfRange
rank (negsuc n) = if is_i64 (pos (suc n)) then Ok (negsuc n) else Err ValueOutOfRange

abbrev pub side : List ℕ → Result Side Refusal
side word =
    if bytes_eq word (codes "before") then Ok Before
    else (if bytes_eq word (codes "after") then Ok After else Err Syntax)

abbrev pub end : List ℕ → Result ListEnd Refusal
end word =
    if bytes_eq word (codes "left") then Ok Head
    else (if bytes_eq word (codes "right") then Ok Tail else Err Syntax)

-- a score, or why a word is none
abbrev pub score : Result ℤ ScoreFault → Result ℤ Refusal
score (Ok n) = Ok n
score (Err Malformed) = Err NotAScore
score (Err NotWhole) = Err NotAWholeScore
score (Err TooLarge) = Err NotAWholeScore

-- behind `(` a score that is left out of a range, and else one that is in it
abbrev pub score_bound : List ℕ → Result ScoreBound Refusal
score_bound [] = Err NotAScore
score_bound (byte ∷ text) =
    if byte == 40 then and_then (score (score_of text)) (λ n. Ok (Excluding n))
    else and_then (score (score_of (byte ∷ text))) (λ n. Ok (Including n))

abbrev pub bound : List ℕ → Result ScoreBound Refusal
bound word =
    if bytes_eq (in_lower_case word) (codes "-inf") then Ok Lowest
    else (if bytes_eq (in_lower_case word) (codes "inf") || bytes_eq (in_lower_case word) (codes "+inf") then Ok Highest
    else score_bound word)

abbrev pub picks : ℤ → Result ℤ Refusal
picks n = if int_le (neg_ℤ (pos 1048576)) n then Ok n else Err ValueOutOfRange

abbrev pub keys : ℤ → Result ℕ Refusal
keys (pos n) = if nat_lt 0 n then Ok n else Err ValueOutOfRange
keys (negsuc n) = Err ValueOutOfRange

abbrev pub aggregate : List ℕ → Result Aggregate Refusal
aggregate word =
    if bytes_eq word (codes "sum") then Ok Sum
    else (if bytes_eq word (codes "min") then Ok Min
    else (if bytes_eq word (codes "max") then Ok Max else Err Syntax))

-- one digit or more, and nothing else
abbrev pub are_digits : List ℕ → Bool
are_digits word = nat_lt 0 (length word) && all_ascii_digits word

abbrev pub cursor : List ℕ → Result ℕ Refusal
cursor word =
    if are_digits word && nat_lt (digits_value 10 word) (2 ^ 64) then Ok (digits_value 10 word) else Err InvalidCursor

-- a word of this kind
abbrev pub told : (kind : Kind) → List ℕ → Result (Told kind) Refusal
told Plain word = Ok word
told Whole word = whole (number_of word)
told Offset word = and_then (whole (number_of word)) offset
told Span word = and_then (whole (number_of word)) span
told Database word = and_then (whole (number_of word)) database
told Count word = and_then (whole (number_of word)) count
told Steps word = and_then (whole (number_of word)) steps
told Cursor word = cursor word
told Amount word = and_then (whole (number_of word)) amount
told Rank word = and_then (whole (number_of word)) rank
told OnSide word = side (in_lower_case word)
told AtEnd word = end (in_lower_case word)
told Score word = score (score_of word)
told Bound word = bound word
told Picks word = and_then (whole (number_of word)) picks
told Keys word = and_then (whole (number_of word)) keys
told Aggregated word = aggregate (in_lower_case word)
told EntryId word = entry_id word
told (IdOr sign) word = id_or sign word
told ForEntry word = new_id word
told FirstId word = range_end first_in word
told LastId word = range_end last_in word

-- what words of these kinds tell
abbrev pub AllTold : List Kind → Type 0
AllTold [] = Unit {0}
AllTold (kind ∷ kinds) = Told kind × AllTold kinds

-- the first words, of these kinds
abbrev pub all_told : (kinds : List Kind) → Words → Result (AllTold kinds) Refusal
all_told [] words = Ok tt
all_told (kind ∷ kinds) [] = Err WrongNumberOfArguments
all_told (kind ∷ kinds) (word ∷ words) =
    and_then (told kind word) (λ a. and_then (all_told kinds words) (λ rest. Ok (a, rest)))

-- a command's name in lower case, and how the words behind it are read
pub record Row (A : Type 0) : Type 0 where
  pub name : List ℕ
  pub read : Words → Result A Refusal

-- a row of one word, and a number from 0 on or none
abbrev pub with_amount : {A : Type 0} → (List ℕ → Option ℕ → A) → Words → Result A Refusal
with_amount make [] = Err WrongNumberOfArguments
with_amount make (word ∷ []) = Ok (make word None)
with_amount make (word ∷ n ∷ []) = and_then (told Amount n) (λ a. Ok (make word (Some a)))
with_amount make (word ∷ n ∷ more ∷ words) = Err WrongNumberOfArguments

-- a row of just these words
abbrev pub fixed : {A : Type 0} (kinds : List Kind) → (AllTold kinds → Result A Refusal) → Words → Result A Refusal
fixed kinds make words =
    if length words == length kinds then and_then (all_told kinds words) make else Err WrongNumberOfArguments

-- the row of the second word, whatever its case; a word that no row has breaks the syntax
abbrev pub second_read : {A : Type 0} → List (Row A) → List ℕ → Words → Result A Refusal
second_read [] second words = Err Syntax
second_read (row ∷ rows) second words =
    if bytes_eq (in_lower_case second) row.name then row.read words else second_read rows second words

-- Rows that differ in their second word, the shortest of which has so many words with it. Fewer are a wrong number; else
-- the row of the second word reads those behind it.
abbrev pub by_second : {A : Type 0} → ℕ → List (Row A) → Words → Result A Refusal
by_second least rows [] = Err WrongNumberOfArguments
by_second least rows (second ∷ words) =
    if nat_le least (length (second ∷ words)) then second_read rows second words else Err WrongNumberOfArguments

-- a row of these words, and then one or more groups of so many words
abbrev pub repeated : {A : Type 0} (kinds : List Kind) (size : ℕ) → (AllTold kinds → Words → Result A Refusal) → Words
    → Result A Refusal
repeated kinds size make words =
    let behind = length words - length kinds in
    if nat_lt (length kinds) (length words) && (behind % size == 0)
    then and_then (all_told kinds words) (λ first. make first (drop (length kinds) words))
    else Err WrongNumberOfArguments

-- an option: its name in lower case, its own words, and what it sets
pub record NamedOption (A : Type 0) : Type 0 where
  pub name : List ℕ
  pub kinds : List Kind
  pub sets : AllTold kinds → A → A

module _ {A : Type 0} where
  -- the option of this name
  abbrev pub option_of : List (NamedOption A) → List ℕ → Option (NamedOption A)
  option_of [] name = None
  option_of (option ∷ named) name = if bytes_eq name option.name then Some option else option_of named name

  -- an option is read: what is set then, and how many words are its own
  abbrev pub read_option : A → Option (NamedOption A) → Words → Result (A × ℕ) Refusal
  read_option before None words = Err Syntax
  read_option before (Some option) words =
      if nat_le (length option.kinds) (length words)
      then and_then (all_told option.kinds words) (λ own. Ok (option.sets own before, length option.kinds))
      else Err Syntax

  -- Options in any order, where so many words are still those of the one before. Of a repeated one the last counts; an
  -- unknown one, and one without all its words, breaks the syntax.
  abbrev pub options_read : List (NamedOption A) → A → ℕ → Words → Result A Refusal
  options_read named before skip [] = Ok before
  options_read named before (suc skip) (word ∷ words) = options_read named before skip words
  options_read named before zero (word ∷ words) =
      and_then (read_option before (option_of named (in_lower_case word)) words)
      (λ read. options_read named read.0 read.1 words)

  -- a row of these words, and then options
  abbrev pub with_options : {B : Type 0} (kinds : List Kind) → List (NamedOption A) → A
      → (AllTold kinds → A → Result B Refusal) → Words → Result B Refusal
  with_options kinds named none make words =
      if nat_le (length kinds) (length words)
      then and_then (all_told kinds words)
      (λ first. and_then (options_read named none 0 (drop (length kinds) words)) (make first))
      else Err WrongNumberOfArguments

-- a row of one word, and then a number of picks or none
abbrev pub with_picks : {A : Type 0} → (List ℕ → Option ℤ → A) → Words → Result A Refusal
with_picks make [] = Err WrongNumberOfArguments
with_picks make (word ∷ []) = Ok (make word None)
with_picks make (word ∷ n ∷ []) = and_then (told Picks n) (λ a. Ok (make word (Some a)))
with_picks make (word ∷ n ∷ more ∷ words) = Err WrongNumberOfArguments

-- the same with an option of this name behind the number
abbrev pub with_picked : {A : Type 0} → List ℕ → (List ℕ → Option ℤ → Bool → A) → Words → Result A Refusal
with_picked name make [] = Err WrongNumberOfArguments
with_picked name make (word ∷ []) = Ok (make word None false)
with_picked name make (word ∷ n ∷ words) =
    with_options (Plain ∷ Picks ∷ []) (record { name = name; kinds = []; sets = λ own o. true } ∷ []) false
    (λ a option. Ok (make a.0 (Some a.1.0) option)) (word ∷ n ∷ words)

-- so many keys, and what stands behind them
abbrev pub counted : {A : Type 0} → (Words → Words → Result A Refusal) → ℕ → Words → Result A Refusal
counted make n words = if nat_le n (length words) then make (take n words) (drop n words) else Err Syntax
