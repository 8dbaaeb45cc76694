-- What each kind of word tells is in its range, and so is what rows make of it.
use Rattle.std.proofs.Common.{◌≡◌, ℕ, ◌<◌, ◌≤◌, ◌==◌, ◌%◌, ◌-◌, ◌^◌, List, [], ◌∷◌, length, drop, Bool, true, false, Result, Ok, Err, Option, Some, None, refl, subst}
use Rattle.std.specs.Prelude.{◌&&◌, bytes_eq, nat_le, nat_lt, int_lt, ℤ, pos, negsuc, zero, suc, if◌then◌else◌}
use Rattle.std.specs.List.{AllByRecursion}
use Rattle.std.specs.Str.Parse.{digits_value}
use Rattle.std.proofs.lemmas.Bool.{leb-true, ltb-true}
use Rattle.plain_world.specs.Words.{Words, in_lower_case}
use Rattle.plain_model.specs.Shapes.{Kind, Plain, Whole, Offset, Span, Database, Count, Steps, Cursor, Amount, Rank, OnSide, AtEnd, Score, Bound, EntryId, IdOr, ForEntry, FirstId, LastId}
use Rattle.plain_model.specs.Shapes.{Picks, Aggregated, Told, told, AllTold, and_then, whole, span, database, count, steps, are_digits, cursor, all_told, Row, fixed, second_read}
use Rattle.plain_model.specs.Shapes.{by_second, repeated, NamedOption, option_of, read_option, options_read, with_options}
use Rattle.plain_model.specs.Shapes as shapes
use Rattle.int_text.specs.Decimal.{number_of}
use Rattle.plain_world.specs.declared.refusal.Refusal.{Refusal}
use Rattle.plain_world.specs.declared.refusal.Refusal.TheVariants.{WrongNumberOfArguments, Syntax, ValueOutOfRange, InvalidExpireTime, InvalidCursor, DatabaseOutOfRange}

-- what is made after something was told holds, if it holds of whatever is told
module _ {A B : Type 0} (P : B → Type 0) where
  -- what is made of a first answer has a property, if whatever is made of each answer that is told has it
  pub then_told : (first : Result A Refusal) (make : A → Result B Refusal) → ((a : A) → first ≡ Ok a → (b : B) → make a ≡ Ok b → P b) → (b : B) → and_then first make ≡ Ok b → P b
  then_told (Ok a) make h b e = h a refl b e
  then_told (Err refusal) make h b e = cc

-- what a test picks of two answers has a property, if what either of them makes has it
pub if_has : {B : Type 0} (P : B → Type 0) (test : Bool) (r s : Result B Refusal) → ((b : B) → r ≡ Ok b → P b) → ((b : B) → s ≡ Ok b → P b) → (b : B) → (if test then r else s) ≡ Ok b → P b
if_has P true r s h k b e = h b e
if_has P false r s h k b e = k b e

-- the same, where the test held
pub if_true : {B : Type 0} (P : B → Type 0) (test : Bool) (r : Result B Refusal) (refusal : Refusal) → (test ≡ true → (b : B) → r ≡ Ok b → P b) → (b : B)
    → (if test then r else Err refusal) ≡ Ok b → P b
if_true P true r refusal h b e = h refl b e
if_true P false r refusal h b e = cc

-- a refusal makes nothing, so all that it makes has any property
pub never : {B : Type 0} (P : B → Type 0) (refusal : Refusal) (b : B) → Err refusal ≡ Ok b → P b
never P refusal b e = cc

-- a thing as an answer that isn't refused
abbrev ok : {B : Type 0} → B → Result B Refusal
ok b = Ok b

-- what is made is this one
pub made : {B : Type 0} (P : B → Type 0) (x b : B) → P x → ok x ≡ ok b → P b
made P x b h e = let same : x ≡ b = cc in subst P same h

-- what a word of this kind keeps
abbrev pub Keeps : (kind : Kind) → Told kind → Type 0
Keeps Plain word = Unit {0}
Keeps Whole n = Unit {0}
Keeps Offset n = Unit {0}
Keeps Span n = int_lt (pos 0) n ≡ true
Keeps Database n = n < 16
Keeps Count n = 0 < n
Keeps Steps n = n ≤ 1000000
Keeps Cursor n = n < 2 ^ 64
Keeps Amount n = Unit {0}
Keeps Rank n = Unit {0}
Keeps OnSide side = Unit {0}
Keeps AtEnd end = Unit {0}
Keeps Score n = Unit {0}
Keeps Bound bound = Unit {0}
Keeps Picks n = Unit {0}
Keeps shapes.Keys n = Unit {0}
Keeps Aggregated how = Unit {0}
Keeps EntryId id = Unit {0}
Keeps (IdOr sign) id = Unit {0}
Keeps ForEntry id = Unit {0}
Keeps FirstId id = Unit {0}
Keeps LastId id = Unit {0}

-- what words of these kinds keep, each by its own kind
abbrev pub AllKeep : (kinds : List Kind) → AllTold kinds → Type 0
AllKeep [] a = Unit {0}
AllKeep (kind ∷ kinds) a = Keeps kind a.0 × AllKeep kinds a.1

-- a number that is told as a time is above 0
span_keeps : (n a : ℤ) → span n ≡ Ok a → Keeps Span a
span_keeps n a e = if_true (Keeps Span) (int_lt (pos 0) n) (Ok n) InvalidExpireTime (λ above b f. made (Keeps Span) n b above f) a e

-- a number that is told as a database is below 16
database_keeps : (n : ℤ) (a : ℕ) → database n ≡ Ok a → Keeps Database a
database_keeps (pos n) a e = if_true (Keeps Database) (nat_lt n 16) (Ok n) DatabaseOutOfRange (λ below b f. made (Keeps Database) n b (ltb-true n 16 below) f) a e
database_keeps (negsuc n) a e = cc

-- a number that is told as how many are to be met is above 0
count_keeps : (n : ℤ) (a : ℕ) → count n ≡ Ok a → Keeps Count a
count_keeps (pos n) a e = if_true (Keeps Count) (nat_lt 0 n) (Ok n) Syntax (λ above b f. made (Keeps Count) n b (ltb-true 0 n above) f) a e
count_keeps (negsuc n) a e = cc

-- a number that is told as how many steps are to be made is at most 1,000,000
steps_keep : (n : ℤ) (a : ℕ) → steps n ≡ Ok a → Keeps Steps a
steps_keep (pos n) a e = if_true (Keeps Steps) (nat_le n 1000000) (Ok n) ValueOutOfRange (λ within b f. made (Keeps Steps) n b (leb-true n 1000000 within) f) a e
steps_keep (negsuc n) a e = cc

-- where two tests hold together the second one holds
both : (a b : Bool) → (a && b) ≡ true → b ≡ true
both true b e = e
both false b e = cc

-- digits that are told as a cursor are a number below 2^64
cursor_keeps : (word : List ℕ) (a : ℕ) → cursor word ≡ Ok a → Keeps Cursor a
cursor_keeps word a e =
    let n = digits_value 10 word in
    if_true (Keeps Cursor) (are_digits word && nat_lt n (2 ^ 64)) (Ok n) InvalidCursor
    (λ holds b f. made (Keeps Cursor) n b (ltb-true n (2 ^ 64) (both (are_digits word) (nat_lt n (2 ^ 64)) holds)) f) a e

-- what a word tells is in the range of its kind
told_keeps : (kind : Kind) (word : List ℕ) (a : Told kind) → told kind word ≡ Ok a → Keeps kind a
told_keeps Plain word a e = tt
told_keeps Whole word a e = tt
told_keeps Offset word a e = tt
told_keeps Span word a e = then_told (Keeps Span) (whole (number_of word)) span (λ n is b f. span_keeps n b f) a e
told_keeps Database word a e = then_told (Keeps Database) (whole (number_of word)) database (λ n is b f. database_keeps n b f) a e
told_keeps Count word a e = then_told (Keeps Count) (whole (number_of word)) count (λ n is b f. count_keeps n b f) a e
told_keeps Steps word a e = then_told (Keeps Steps) (whole (number_of word)) steps (λ n is b f. steps_keep n b f) a e
told_keeps Cursor word a e = cursor_keeps word a e
told_keeps Amount word a e = tt
told_keeps Rank word a e = tt
told_keeps OnSide word a e = tt
told_keeps AtEnd word a e = tt
told_keeps Score word a e = tt
told_keeps Bound word a e = tt
told_keeps Picks word a e = tt
told_keeps shapes.Keys word a e = tt
told_keeps Aggregated word a e = tt
told_keeps EntryId word a e = tt
told_keeps (IdOr sign) word a e = tt
told_keeps ForEntry word a e = tt
told_keeps FirstId word a e = tt
told_keeps LastId word a e = tt

-- what several words tell is in the range of each one's kind
all_told_keep : (kinds : List Kind) (words : Words) (a : AllTold kinds) → all_told kinds words ≡ Ok a → AllKeep kinds a
all_told_keep [] words a e = tt
all_told_keep (kind ∷ kinds) [] a e = cc
all_told_keep (kind ∷ kinds) (word ∷ words) a e =
    then_told (AllKeep (kind ∷ kinds)) (told kind word) (λ x. and_then (all_told kinds words) (λ rest. Ok (x, rest))) (λ x is.
    then_told (AllKeep (kind ∷ kinds)) (all_told kinds words) (λ rest. Ok (x, rest)) (λ rest are b f.
    made (AllKeep (kind ∷ kinds)) (x, rest) b (told_keeps kind word x is, all_told_keep kinds words rest are) f)) a e

-- the options keep what each of them keeps
module _ {A : Type 0} (Q : A → Type 0) where
  -- each of these options keeps a property of what is set, if its own words are in range
  abbrev pub EachKeeps : List (NamedOption A) → Type 0
  EachKeeps named = AllByRecursion (λ (option : NamedOption A). (own : AllTold option.kinds) (a : A) → AllKeep option.kinds own → Q a → Q (option.sets own a)) named

  -- the option, where there is one, keeps a property of what is set, if its own words are in range
  abbrev OptionKeeps : Option (NamedOption A) → Type 0
  OptionKeeps None = Unit {0}
  OptionKeeps (Some option) = (own : AllTold option.kinds) (a : A) → AllKeep option.kinds own → Q a → Q (option.sets own a)

  -- the option of a name keeps the property, if each of the options does
  option_keeps : (named : List (NamedOption A)) (name : List ℕ) → EachKeeps named → OptionKeeps (option_of named name)
  option_keeps [] name h = tt
  option_keeps (option ∷ named) name h =
      elim (bytes_eq name option.name) as (λ b. OptionKeeps (if b then Some option else option_of named name)) [
        | true ↦ h.0
        | false ↦ option_keeps named name h.1
      ]

  -- what is set after an option is read has the property, if the option keeps it and it held before
  read_option_keeps : (before : A) (option : Option (NamedOption A)) (words : Words) → OptionKeeps option → Q before → (a : A × ℕ) → read_option before option words ≡ Ok a → Q a.0
  read_option_keeps before None words h q a e = cc
  read_option_keeps before (Some option) words h q a e =
      if_has (λ r. Q r.0) (nat_le (length option.kinds) (length words)) (and_then (all_told option.kinds words) (λ own. Ok (option.sets own before, length option.kinds))) (Err Syntax)
      (then_told (λ r. Q r.0) (all_told option.kinds words) (λ own. Ok (option.sets own before, length option.kinds)) (λ own are b f.
      made (λ r. Q r.0) (option.sets own before, length option.kinds) b (h own before (all_told_keep option.kinds words own are) q) f)) (never (λ r. Q r.0) Syntax) a e

  -- what is set after all options are read has the property, if each keeps it and it held before
  options_read_keep : (named : List (NamedOption A)) → EachKeeps named → (before : A) → Q before → (skip : ℕ) (words : Words) (a : A) → options_read named before skip words ≡ Ok a → Q a
  options_read_keep named h before q skip [] a e = made Q before a q e
  options_read_keep named h before q (suc skip) (word ∷ words) a e = options_read_keep named h before q skip words a e
  options_read_keep named h before q zero (word ∷ words) a e =
      then_told Q (read_option before (option_of named (in_lower_case word)) words) (λ read. options_read named read.0 read.1 words)
      (λ read is b f. options_read_keep named h read.0 (read_option_keeps before (option_of named (in_lower_case word)) words (option_keeps named (in_lower_case word) h) q read is) read.1
      words b f) a e

-- what a row makes of words keeps what it makes of what they tell
module _ {B : Type 0} (P : B → Type 0) where
  -- whatever this reading makes of words has the property
  abbrev RowKeeps : (Words → Result B Refusal) → Type 0
  RowKeeps read = (words : Words) (c : B) → read words ≡ Ok c → P c

  -- what a row of just these words makes has the property, if all that is made of words in range has it
  pub fixed_fits : (kinds : List Kind) (make : AllTold kinds → Result B Refusal) → ((a : AllTold kinds) → AllKeep kinds a → (c : B) → make a ≡ Ok c → P c) → RowKeeps (fixed kinds make)
  fixed_fits kinds make h words c e =
      if_has P (length words == length kinds) (and_then (all_told kinds words) make) (Err WrongNumberOfArguments)
      (then_told P (all_told kinds words) make (λ a is. h a (all_told_keep kinds words a is))) (never P WrongNumberOfArguments) c e

  -- what rows of second words make has the property, if what each of them makes has it
  second_fits : (rows : List (Row B)) → AllByRecursion (λ row. RowKeeps row.read) rows → (second : List ℕ) (words : Words) (c : B) → second_read rows second words ≡ Ok c → P c
  second_fits [] h second words c e = cc
  second_fits (row ∷ rows) h second words c e = if_has P (bytes_eq (in_lower_case second) row.name) (row.read words) (second_read rows second words) (h.0 words) (second_fits rows h.1 second words) c e

  pub by_second_fits : (least : ℕ) (rows : List (Row B)) → AllByRecursion (λ row. RowKeeps row.read) rows → RowKeeps (by_second least rows)
  by_second_fits least rows h [] c e = cc
  by_second_fits least rows h (second ∷ words) c e = if_has P (nat_le least (length (second ∷ words))) (second_read rows second words) (Err WrongNumberOfArguments)
      (second_fits rows h second words) (never P WrongNumberOfArguments) c e

  -- what a row with repeated groups of words makes has the property, if all that is made of any words has it
  pub repeated_fits : (kinds : List Kind) (size : ℕ) (make : AllTold kinds → Words → Result B Refusal) → ((a : AllTold kinds) (rest : Words) (c : B) → make a rest ≡ Ok c → P c)
      → RowKeeps (repeated kinds size make)
  repeated_fits kinds size make h words c e =
      if_has P (nat_lt (length kinds) (length words) && ((length words - length kinds) % size == 0)) (and_then (all_told kinds words) (λ first. make first (drop (length kinds) words)))
      (Err WrongNumberOfArguments)
      (then_told P (all_told kinds words) (λ first. make first (drop (length kinds) words)) (λ a is b. h a (drop (length kinds) words) b)) (never P WrongNumberOfArguments) c e

  -- what a row with options makes has the property, if all that is made of words and options in range has it
  pub with_options_fits : {A : Type 0} (kinds : List Kind) (named : List (NamedOption A)) (start : A) (make : AllTold kinds → A → Result B Refusal) (Q : A → Type 0) → EachKeeps Q named
      × Q start → ((a : AllTold kinds) → AllKeep kinds a → (o : A) → Q o → (c : B) → make a o ≡ Ok c → P c) → RowKeeps (with_options kinds named start make)
  with_options_fits kinds named start make Q keep h words c e =
      if_has P (nat_le (length kinds) (length words)) (and_then (all_told kinds words) (λ first. and_then (options_read named start 0 (drop (length kinds) words)) (make first)))
      (Err WrongNumberOfArguments)
      (then_told P (all_told kinds words) (λ first. and_then (options_read named start 0 (drop (length kinds) words)) (make first)) (λ a is.
      then_told P (options_read named start 0 (drop (length kinds) words)) (make a)
      (λ o are. h a (all_told_keep kinds words a is) o (options_read_keep Q named keep.0 start keep.1 0 (drop (length kinds) words) o are)))) (never P WrongNumberOfArguments) c e
