-- What is read of words.
use Rattle.std.specs.Prelude.{◌≡◌, ℕ, List, [], ◌∷◌, ◌++◌, length, take, drop, ℤ, slice_index_or, codes, nat_le, Option, Bool, true, false}
use Rattle.std.specs.Prelude.{Some, None, Result, Ok, Err, if◌then◌else◌}
use Rattle.std.specs.Result.{IsOkAnd}
use Rattle.plain_world.specs.Words.{Words, in_lower_case}
use Rattle.plain_model.specs.Shapes.{Kind, Plain, Whole, Span, Amount, Picks, Told, told, score, AllTold, all_told, and_then, fixed, repeated, with_options, with_picks, NamedOption}
use Rattle.plain_model.specs.Shapes.{option_of, options_read}
use Rattle.plain_model.specs.Meant.{meant}
use Rattle.plain_model.specs.StringWords.{pairs_of, time_options, set_options, getex_options}
use Rattle.plain_model.specs.declared.command.Command.{Command}
use Rattle.plain_model.specs.declared.command.Command.TheVariants.{Strings, Lists, Sets, Hashes, Zsets, Streams, Keys}
use Rattle.plain_model.specs.declared.set_command.SetCommand.{SetCommand}
use Rattle.plain_model.specs.declared.set_command.SetCommand.TheVariants as sets
use Rattle.plain_model.specs.declared.hash_command.HashCommand.TheVariants as hashes
use Rattle.plain_model.specs.declared.zset_command.ZsetCommand.TheVariants as zsets
use Rattle.plain_model.specs.declared.stream_command.StreamCommand.{StreamCommand}
use Rattle.plain_model.specs.declared.stream_command.StreamCommand.TheVariants as streams
use Rattle.plain_model.specs.declared.list_command.ListCommand.TheVariants as lists
use Rattle.plain_model.specs.declared.command.StringCommand.TheVariants as strings
use Rattle.plain_model.specs.declared.keys.KeyCommand.TheVariants as keys
use Rattle.plain_model.specs.KeyWords.{expire_options, no_expire_options, clash}
use Rattle.plain_model.specs.declared.keys.ExpireOptions.{ExpireOptions}
use Rattle.plain_world.specs.ScoreTexts.{score_of}
use Rattle.plain_model.specs.declared.zset_command.ScoreBound.{ScoreBound}
use Rattle.plain_model.specs.declared.zset_command.ScoreBound.TheVariants.{Including}
use Rattle.plain_model.specs.declared.zset_command.Limit.{Limit}
use Rattle.plain_model.specs.declared.zset_command.ZsetCommand.{ZsetCommand}
use Rattle.plain_model.specs.declared.zset_command.AddOptions.{AddOptions}
use Rattle.plain_model.specs.ZsetWords.{add_options, no_add_options, options_in_front, scores_read, add_of}
use Rattle.plain_model.specs.declared.times.Time.{Time}
use Rattle.plain_model.specs.declared.times.TimeUnit.{TimeUnit}
use Rattle.plain_model.specs.declared.times.TimeUnit.TheVariants.{Seconds, Milliseconds}
use Rattle.plain_model.specs.declared.times.TimeOrigin.{TimeOrigin}
use Rattle.plain_model.specs.declared.times.TimeOrigin.TheVariants.{Now, Epoch}
use Rattle.plain_world.specs.declared.refusal.Refusal.{Refusal}
use Rattle.plain_world.specs.declared.refusal.Refusal.TheVariants.{WrongNumberOfArguments, Syntax}
use Rattle.command_words.specs.declared.times.SetOption.{SetOption}
use Rattle.command_words.specs.declared.times.SetOption.TheVariants as set
use Rattle.command_words.specs.declared.times.GetExOption.{GetExOption}
use Rattle.command_words.specs.declared.times.GetExOption.TheVariants as getex
use Rattle.command_words.specs.declared.fault.ReadingFault.{ReadingFault}
use Rattle.command_words.specs.declared.fault.ReadingFault.TheVariants.{Refused, Memory}

-- the word at this place
abbrev pub word_at : Words → ℕ → List ℕ
word_at words i = slice_index_or words i []

-- The answer is what the words mean, as the caller wraps it: a refusal is that of the words. No memory is asked for.
abbrev pub TellsAs : {A B : Type 0} → (A → B) → Result B Refusal → Result A ReadingFault → Type 0
TellsAs wrap means (Ok a) = means ≡ Ok (wrap a)
TellsAs wrap means (Err (Refused refusal)) = means ≡ Err refusal
TellsAs wrap means (Err Memory) = ⊥

abbrev pub Tells : {A : Type 0} → Result A Refusal → Result A ReadingFault → Type 0
Tells {A} means answer = TellsAs (λ (a : A). a) means answer

-- The answer is the list that the words mean, or their refusal; want of memory comes only where they aren't refused.
abbrev pub Gathers : {A : Type 0} → Result A Refusal → Result A ReadingFault → Type 0
Gathers means (Ok list) = means ≡ Ok list
Gathers means (Err (Refused refusal)) = means ≡ Err refusal
Gathers {A} means (Err Memory) = (list : A) × (means ≡ Ok list)

-- what just these words behind the name tell
abbrev pub just : (kinds : List Kind) → Words → Result (AllTold kinds) Refusal
just kinds words = fixed kinds (λ a. Ok a) (drop 1 words)

-- what these words behind the name and the options behind them tell
abbrev pub and_options : {C : Type 0} (kinds : List Kind) → List (NamedOption C) → C → Words
    → Result (AllTold kinds × C) Refusal
and_options kinds named none words = with_options kinds named none (λ a c. Ok (a, c)) (drop 1 words)

-- a word and one or more words behind it
abbrev pub one_and_some : Words → Result (List ℕ × Words) Refusal
one_and_some words = repeated (Plain ∷ []) 1 (λ a own. Ok (a.0, own)) (drop 1 words)

-- a word and one or more pairs behind it
abbrev pub one_and_pairs : Words → Result (List ℕ × List (List ℕ × List ℕ)) Refusal
one_and_pairs words = repeated (Plain ∷ []) 2 (λ a own. Ok (a.0, pairs_of own)) (drop 1 words)

-- a word, and a number from 0 on or none
abbrev pub one_and_amount : Words → Result (List ℕ × Option ℕ) Refusal
one_and_amount [] = Err WrongNumberOfArguments
one_and_amount (word ∷ []) = Ok (word, None)
one_and_amount (word ∷ n ∷ []) = and_then (told Amount n) (λ a. Ok (word, Some a))
one_and_amount (word ∷ n ∷ more ∷ words) = Err WrongNumberOfArguments

-- a word, and a number of picks or none
abbrev pub one_and_picks : Words → Result (List ℕ × Option ℤ) Refusal
one_and_picks = with_picks (λ word n. (word, n))

-- a word, and a number of picks with options behind it, or none
abbrev pub one_and_picked : {C : Type 0} → List (NamedOption C) → C → Words → Result (List ℕ × Option ℤ × C) Refusal
one_and_picked named none [] = Err WrongNumberOfArguments
one_and_picked named none (word ∷ []) = Ok (word, None, none)
one_and_picked named none (word ∷ n ∷ words) =
    with_options (Plain ∷ Picks ∷ []) named none (λ a c. Ok (a.0, Some a.1.0, c)) (word ∷ n ∷ words)

-- one or more words behind the name, and one or more pairs
abbrev pub some_words : Words → Result Words Refusal
some_words words = repeated [] 1 (λ a own. Ok own) (drop 1 words)

abbrev pub some_pairs : Words → Result (List (List ℕ × List ℕ)) Refusal
some_pairs words = repeated [] 2 (λ a own. Ok (pairs_of own)) (drop 1 words)

-- the one word of an option, which stands first
abbrev pub own_word : (kind : Kind) → Words → Result (Told kind) Refusal
own_word kind words =
    if nat_le 1 (length words) then and_then (all_told (kind ∷ []) words) (λ own. Ok own.0) else Err Syntax

-- a text as a score that is in a range
abbrev pub included : List ℕ → Result ScoreBound Refusal
included text = and_then (score (score_of text)) (λ n. Ok (Including n))

-- the two numbers of LIMIT, which stand first
abbrev pub own_limit : Words → Result Limit Refusal
own_limit words =
    if nat_le 2 (length words)
    then and_then (all_told (Whole ∷ Whole ∷ []) words) (λ own. Ok (record { offset = own.0; count = own.1.0 }))
    else Err Syntax

-- the time of an option
abbrev pub own_time : TimeUnit → TimeOrigin → Words → Result Time Refusal
own_time unit from words = and_then (own_word Span words) (λ n. Ok (record { unit = unit; from = from; n = n }))

-- the name of the option whose time is counted so
abbrev pub time_name : TimeUnit → TimeOrigin → List ℕ
time_name Seconds Now = codes "ex"
time_name Milliseconds Now = codes "px"
time_name Seconds Epoch = codes "exat"
time_name Milliseconds Epoch = codes "pxat"

-- the option that gives a time, which a word names
abbrev pub IsTimeOption : List ℕ → Option (TimeUnit × TimeOrigin) → Type 0
IsTimeOption word (Some option) = in_lower_case word ≡ time_name option.0 option.1
IsTimeOption word None = option_of (time_options (λ time (before : Time). time)) (in_lower_case word) ≡ None

-- the option of SET that a word names
abbrev pub IsSetOption : List ℕ → Option SetOption → Type 0
IsSetOption word (Some set.Nx) = in_lower_case word ≡ codes "nx"
IsSetOption word (Some set.Xx) = in_lower_case word ≡ codes "xx"
IsSetOption word (Some set.Get) = in_lower_case word ≡ codes "get"
IsSetOption word (Some set.KeepTtl) = in_lower_case word ≡ codes "keepttl"
IsSetOption word (Some (set.Until unit from)) = in_lower_case word ≡ time_name unit from
IsSetOption word None = option_of set_options (in_lower_case word) ≡ None

-- the option of GETEX that a word names
abbrev pub IsGetExOption : List ℕ → Option GetExOption → Type 0
IsGetExOption word (Some getex.Persist) = in_lower_case word ≡ codes "persist"
IsGetExOption word (Some (getex.Until unit from)) = in_lower_case word ≡ time_name unit from
IsGetExOption word None = option_of getex_options (in_lower_case word) ≡ None

-- the key, the number and the options of EXPIRE and its like, of which none forbids another
abbrev pub expire_parts : Words → Result (AllTold (Plain ∷ Whole ∷ []) × ExpireOptions) Refusal
expire_parts words =
    with_options (Plain ∷ Whole ∷ []) expire_options no_expire_options
    (λ a options. if clash options then Err Syntax else Ok (a, options)) (drop 1 words)

-- the command keeps a list
abbrev pub keeps_list : Command → Bool
keeps_list (Strings (strings.MGet words)) = true
keeps_list (Strings (strings.MSet pairs)) = true
keeps_list (Strings (strings.MSetNx pairs)) = true
keeps_list (Lists (lists.LPush key elements)) = true
keeps_list (Lists (lists.RPush key elements)) = true
keeps_list (Lists (lists.LPushX key elements)) = true
keeps_list (Lists (lists.RPushX key elements)) = true
keeps_list (Sets (sets.SAdd key own)) = true
keeps_list (Sets (sets.SRem key own)) = true
keeps_list (Sets (sets.SMIsMember key own)) = true
keeps_list (Sets (sets.SJoin how keys)) = true
keeps_list (Sets (sets.SJoinStore how to keys)) = true
keeps_list (Sets (sets.SInterCard keys limit)) = true
keeps_list (Hashes (hashes.HSet key own)) = true
keeps_list (Hashes (hashes.HMSet key own)) = true
keeps_list (Hashes (hashes.HMGet key own)) = true
keeps_list (Hashes (hashes.HDel key own)) = true
keeps_list (Zsets (zsets.ZAdd key rules ch own)) = true
keeps_list (Zsets (zsets.ZRem key own)) = true
keeps_list (Zsets (zsets.ZMScore key own)) = true
keeps_list (Zsets (zsets.ZJoinStore join to keys aggregate)) = true
keeps_list (Streams (streams.XAdd key options id own)) = true
keeps_list (Streams (streams.XDel key own)) = true
keeps_list (Streams (streams.XRead limit own)) = true
keeps_list (Streams (streams.XReadGroup name consumer limit own)) = true
keeps_list (Streams (streams.XAck key name own)) = true
keeps_list (Keys (keys.Del words)) = true
keeps_list (Keys (keys.Unlink words)) = true
keeps_list (Keys (keys.Exists words)) = true
keeps_list (Keys (keys.Touch words)) = true
keeps_list other = false

-- The answer is a family's command that words mean, or their refusal. Want of memory comes only where the command keeps a
-- list of words.
abbrev pub ReadsAs : {A : Type 0} → (A → Command) → Result Command Refusal → Result A ReadingFault → Type 0
ReadsAs family means (Ok command) = means ≡ Ok (family command)
ReadsAs family means (Err (Refused refusal)) = means ≡ Err refusal
ReadsAs family means (Err Memory) = IsOkAnd means (λ command. keeps_list command ≡ true)

-- the same of a command of any family, by all words of the request
abbrev pub ReadsCommand : Words → Result Command ReadingFault → Type 0
ReadsCommand words answer = ReadsAs (λ command. command) (meant words) answer

-- what is read of a command on sets, and of one on sorted sets, among all commands
abbrev pub ReadsSet : Result SetCommand Refusal → Result SetCommand ReadingFault → Type 0
ReadsSet means answer = ReadsAs Sets (and_then means (λ command. Ok (Sets command))) answer

abbrev pub ReadsZset : Result ZsetCommand Refusal → Result ZsetCommand ReadingFault → Type 0
ReadsZset means answer = ReadsAs Zsets (and_then means (λ command. Ok (Zsets command))) answer

-- the same of a command on streams
abbrev pub ReadsStream : Result StreamCommand Refusal → Result StreamCommand ReadingFault → Type 0
ReadsStream means answer = ReadsAs Streams (and_then means (λ command. Ok (Streams command))) answer

-- a list that is kept has one more behind the others
abbrev pub HasMore : {A E : Type 0} → Result (List A) E → A → Result (List A) E → Type 0
HasMore list a (Ok more) = IsOkAnd list (λ before. more ≡ before ++ a ∷ [])
HasMore list a (Err fault) = Unit {0}

-- Words mean a list, which isn't kept; or they are refused.
abbrev pub Passes : {A : Type 0} → Result A Refusal → Result Unit ReadingFault → Type 0
Passes {A} means (Ok done) = (list : A) × (means ≡ Ok list)
Passes means (Err (Refused refusal)) = means ≡ Err refusal
Passes means (Err Memory) = ⊥

-- what the options of ZADD in front of these words say
abbrev pub front_options : Words → Result AddOptions Refusal
front_options words = options_read add_options no_add_options 0 (take (options_in_front words) words)

-- what a key, these options and the scores with their members in these words are
abbrev pub scored : List ℕ → AddOptions → Words → Result ZsetCommand Refusal
scored key options words = and_then (scores_read words) (add_of key options)

-- one option without words of its own
abbrev pub flag : List ℕ → List (NamedOption Bool)
flag name =
    record {
      name = name;
      kinds = [];
      sets = λ own o. true;
    }
    ∷ []

-- the options of ZRANK: WITHSCORE
abbrev pub rank_options : List (NamedOption Bool)
rank_options = flag (codes "withscore")
