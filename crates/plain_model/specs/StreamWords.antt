-- What the words of commands on streams mean (Redis command reference, "Commands operating on streams").
use Rattle.std.specs.Prelude.{ℕ, suc, zero, ◌+◌, ◌/◌, ◌%◌, ◌==◌, List, [], ◌∷◌, length, drop, sum_by, ℤ, pos, negsuc, Option, None, Some, Bool, true, false, ◌&&◌, ◌||◌, nat_le, bytes_eq}
use Rattle.std.specs.Prelude.{Ok, Err, codes, Result, if◌then◌else◌}
use Rattle.plain_world.specs.Words.{Words, in_lower_case}
use Rattle.stream_groups.specs.Groups.{Id}
use Rattle.plain_model.specs.Shapes.{Kind, Plain, Whole, Amount, EntryId, IdOr, ForEntry, FirstId, LastId, Told, told, and_then, Row, fixed, by_second, repeated, NamedOption, with_options}
use Rattle.plain_model.specs.StringWords.{pairs_of}
use Rattle.plain_model.specs.declared.zset_command.Direction.TheVariants.{Rising, Falling}
use Rattle.plain_model.specs.declared.stream_command.StreamCommand.{StreamCommand}
use Rattle.plain_model.specs.declared.stream_command.StreamCommand.TheVariants as streams
use Rattle.plain_model.specs.declared.stream_command.Trim.{Trim}
use Rattle.plain_model.specs.declared.stream_command.Trim.TheVariants.{MaxLen, MinId}
use Rattle.plain_model.specs.declared.stream_command.NewId.{NewId}
use Rattle.plain_model.specs.declared.stream_command.AppendOptions.{AppendOptions}
use Rattle.plain_world.specs.declared.refusal.Refusal.{Refusal}
use Rattle.plain_world.specs.declared.refusal.Refusal.TheVariants.{WrongNumberOfArguments, Syntax, ValueOutOfRange}

abbrev pub Read : Type 0
Read = Result StreamCommand Refusal

-- ---- what goes from the front

-- `=` or `~`, which mean the same
abbrev pub is_mark : List ℕ → Bool
is_mark word = bytes_eq word (codes "=") || bytes_eq word (codes "~")

-- how many words MAXLEN or MINID has behind it: a bound, and a mark that may stand before it
abbrev pub own_words : Words → ℕ
own_words [] = 1
own_words (word ∷ words) = if is_mark word then 2 else 1

abbrev pub unmarked : Words → Words
unmarked [] = []
unmarked (word ∷ words) = if is_mark word then words else word ∷ words

-- the first word is of this kind; where there is none the syntax is broken
abbrev pub first_told : (kind : Kind) → Words → Result (Told kind) Refusal
first_told kind [] = Err Syntax
first_told kind (word ∷ words) = told kind word

-- MAXLEN or MINID, by its name in lower case, with the words behind it
abbrev pub trim_of : List ℕ → Words → Result Trim Refusal
trim_of name words =
    if bytes_eq name (codes "maxlen") then and_then (first_told Amount (unmarked words)) (λ n. Ok (MaxLen n))
    else (if bytes_eq name (codes "minid") then and_then (first_told EntryId (unmarked words)) (λ id. Ok (MinId id))
    else Err Syntax)

-- behind the bound stands nothing more
abbrev pub trim_to : List ℕ → Words → Trim → Read
trim_to key words trim = if length words == own_words words then Ok (streams.XTrim key trim) else Err Syntax

-- a key, MAXLEN or MINID, and one or two words
abbrev pub trim_words : Words → Read
trim_words [] = Err WrongNumberOfArguments
trim_words (key ∷ []) = Err WrongNumberOfArguments
trim_words (key ∷ name ∷ words) =
    if nat_le 1 (length words) && nat_le (length words) 2
    then and_then (trim_of (in_lower_case name) words) (trim_to key words) else Err WrongNumberOfArguments

-- ---- XADD

abbrev pub no_append_options : AppendOptions
no_append_options = record { only_there = false; trim = None }

abbrev pub is_trim : List ℕ → Bool
is_trim word = bytes_eq (in_lower_case word) (codes "maxlen") || bytes_eq (in_lower_case word) (codes "minid")

abbrev pub is_option : List ℕ → Bool
is_option word = is_trim word || bytes_eq (in_lower_case word) (codes "nomkstream")

-- how many words are an option's own, which are the first ones of these
abbrev pub own_of : List ℕ → Words → ℕ
own_of option words = if is_trim option then own_words words else 0

-- what stands behind options in front, where so many words are still those of the one before
abbrev pub behind_options : ℕ → Words → Words
behind_options skip [] = []
behind_options (suc skip) (word ∷ words) = behind_options skip words
behind_options zero (word ∷ words) =
    if is_option word then behind_options (own_of word words) words else word ∷ words

-- what is said with one option more
abbrev pub append_option : AppendOptions → List ℕ → Words → Result AppendOptions Refusal
append_option before option words =
    if is_trim option
    then and_then (trim_of (in_lower_case option) words)
    (λ trim. Ok (record { only_there = before.only_there; trim = Some trim }))
    else Ok (record { only_there = true; trim = before.trim })

-- what the options in front say; of a repeated option the last counts
abbrev pub append_options : AppendOptions → ℕ → Words → Result AppendOptions Refusal
append_options before skip [] = Ok before
append_options before (suc skip) (word ∷ words) = append_options before skip words
append_options before zero (word ∷ words) =
    if is_option word
    then and_then (append_option before word words) (λ after. append_options after (own_of word words) words)
    else Ok before

-- the greatest length of the fields and values of an entry together, in bytes
abbrev pub longest_entry : ℕ
longest_entry = 524288000

abbrev pub pairs_len : List (List ℕ × List ℕ) → ℕ
pairs_len pairs = sum_by (λ (pair : List ℕ × List ℕ). length pair.0 + length pair.1) pairs

abbrev pub entry_of : List ℕ → AppendOptions → List (List ℕ × List ℕ) → NewId → Read
entry_of key options pairs id =
    if nat_le (pairs_len pairs) longest_entry then Ok (streams.XAdd key options id pairs) else Err ValueOutOfRange

-- an id, and fields with their values behind it
abbrev pub entry_words : List ℕ → Words → AppendOptions → Read
entry_words key [] options = Err WrongNumberOfArguments
entry_words key (id ∷ words) options = and_then (told ForEntry id) (entry_of key options (pairs_of words))

-- an id, and one pair of words or more
abbrev pub is_entry : Words → Bool
is_entry words = nat_le 3 (length words) && (length words % 2 == 1)

-- a key, options in front, an id, and fields with their values
abbrev pub append_words : Words → Read
append_words [] = Err WrongNumberOfArguments
append_words (key ∷ words) =
    let behind = behind_options 0 words in
    if is_entry behind then and_then (append_options no_append_options 0 words) (entry_words key behind)
    else Err WrongNumberOfArguments

-- ---- ranges

-- COUNT, by what a number says
abbrev pub count_option : (ℤ → Option ℕ) → NamedOption (Option ℕ)
count_option says = record { name = codes "count"; kinds = Whole ∷ []; sets = λ own before. says own.0 }

-- so many entries at most, none for a number below 0
abbrev pub at_most : ℤ → Option ℕ
at_most (pos n) = Some n
at_most (negsuc n) = Some 0

-- so many at most, and no limit for 0 or a number below it
abbrev pub at_most_or_all : ℤ → Option ℕ
at_most_or_all (pos n) = if n == 0 then None else Some n
at_most_or_all (negsuc n) = None

-- ---- ids

-- words of one kind
abbrev pub each_told : (kind : Kind) → Words → Result (List (Told kind)) Refusal
each_told kind [] = Ok []
each_told kind (word ∷ words) = and_then (told kind word) (λ a. and_then (each_told kind words) (λ rest. Ok (a ∷ rest)))

-- ids, or a sign that stands for one, each with the key that stands at its place among other words
abbrev pub keyed : List ℕ → Words → Words → Result (List (List ℕ × Option Id)) Refusal
keyed sign keys [] = Ok []
keyed sign [] (word ∷ words) = Ok []
keyed sign (key ∷ keys) (word ∷ words) =
    and_then (told (IdOr sign) word) (λ id. and_then (keyed sign keys words) (λ rest. Ok ((key, id) ∷ rest)))

-- keys, and as many ids behind them
abbrev pub keys_and_ids : List ℕ → Words → Result (List (List ℕ × Option Id)) Refusal
keys_and_ids sign words =
    if length words % 2 == 0 then keyed sign words (drop (length words / 2) words) else Err Syntax

-- COUNT, then STREAMS with keys and ids behind it; of a repeated COUNT the last one says how many
abbrev pub streams_read : List ℕ → Option ℕ → Words → Result (Option ℕ × List (List ℕ × Option Id)) Refusal
streams_read sign limit [] = Err Syntax
streams_read sign limit (word ∷ []) = Err Syntax
streams_read sign limit (word ∷ next ∷ words) =
    if bytes_eq (in_lower_case word) (codes "streams")
    then and_then (keys_and_ids sign (next ∷ words)) (λ list. Ok (limit, list))
    else (if bytes_eq (in_lower_case word) (codes "count")
    then and_then (told Whole next) (λ n. streams_read sign (at_most_or_all n) words) else Err Syntax)

abbrev pub read_words : Words → Read
read_words words =
    if nat_le 3 (length words)
    then and_then (streams_read (codes "$") None words) (λ read. Ok (streams.XRead read.0 read.1))
    else Err WrongNumberOfArguments

-- ---- groups

-- GROUP, a group and a consumer, and what XREAD has
abbrev pub group_read : Words → Read
group_read [] = Err Syntax
group_read (word ∷ []) = Err Syntax
group_read (word ∷ group ∷ []) = Err Syntax
group_read (word ∷ group ∷ consumer ∷ words) =
    if bytes_eq (in_lower_case word) (codes "group")
    then and_then (streams_read (codes ">") None words) (λ read. Ok (streams.XReadGroup group consumer read.0 read.1))
    else Err Syntax

abbrev pub read_group_words : Words → Read
read_group_words words = if nat_le 6 (length words) then group_read words else Err WrongNumberOfArguments

-- the options of XGROUP CREATE: MKSTREAM
abbrev pub create_options : List (NamedOption Bool)
create_options =
    record {
      name = codes "mkstream";
      kinds = [];
      sets = λ own o. true;
    }
    ∷ []

-- XPENDING has no options
abbrev pub no_options : List (NamedOption (Unit {0}))
no_options = []

-- the second words of XGROUP
abbrev pub group_rows : List (Row StreamCommand)
group_rows =
    record {
      name = codes "create";
      read = with_options (Plain ∷ Plain ∷ IdOr (codes "$") ∷ []) create_options false
          (λ a o. Ok (streams.XGroupCreate a.0 a.1.0 a.1.1.0 o));
    }
    ∷ record { name = codes "destroy"; read = fixed (Plain ∷ Plain ∷ []) (λ a. Ok (streams.XGroupDestroy a.0 a.1.0)) }
    ∷ []

-- ---- each command

abbrev pub stream_rows : List (Row StreamCommand)
stream_rows =
    record { name = codes "xadd"; read = append_words }
    ∷ record { name = codes "xlen"; read = fixed (Plain ∷ []) (λ a. Ok (streams.XLen a.0)) }
    ∷ record {
      name = codes "xrange";
      read = with_options (Plain ∷ FirstId ∷ LastId ∷ []) (count_option at_most ∷ []) None
          (λ a o. Ok (streams.XRange a.0 a.1.0 a.1.1.0 Rising o));
    }
    ∷ record {
      name = codes "xrevrange";
      read = with_options (Plain ∷ LastId ∷ FirstId ∷ []) (count_option at_most ∷ []) None
          (λ a o. Ok (streams.XRange a.0 a.1.1.0 a.1.0 Falling o));
    }
    ∷ record {
      name = codes "xdel";
      read = repeated (Plain ∷ []) 1
          (λ a own. and_then (each_told EntryId own) (λ ids. Ok (streams.XDel a.0 ids)));
    }
    ∷ record { name = codes "xtrim"; read = trim_words }
    ∷ record { name = codes "xread"; read = read_words }
    ∷ record { name = codes "xgroup"; read = by_second 3 group_rows }
    ∷ record { name = codes "xreadgroup"; read = read_group_words }
    ∷ record {
      name = codes "xack";
      read = repeated (Plain ∷ Plain ∷ []) 1
          (λ a own. and_then (each_told EntryId own) (λ ids. Ok (streams.XAck a.0 a.1.0 ids)));
    }
    ∷ record {
      name = codes "xpending";
      read = with_options (Plain ∷ Plain ∷ []) no_options tt (λ a o. Ok (streams.XPending a.0 a.1.0));
    }
    ∷ []
