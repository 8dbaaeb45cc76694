-- What the words of commands on sorted sets mean (Redis command reference, "Commands operating on sorted sets").
use Rattle.std.specs.Prelude.{ℕ, zero, suc, pos, List, [], ◌∷◌, length, take, drop, ℤ, None, Some, is_some, Bool, true, false, ◌&&◌, ◌||◌, nat_le, nat_lt, bytes_eq, Ok, Err, codes, Result}
use Rattle.std.specs.Prelude.{if◌then◌else◌}
use Rattle.std.specs.List.{list_any}
use Rattle.plain_world.specs.Words.{Words, in_lower_case}
use Rattle.plain_model.specs.KeyWords.{page_words}
use Rattle.plain_model.specs.Shapes.{Kind, Plain, Whole, Score, Bound, Keys, Aggregated, AllTold, told, and_then, counted, Row, fixed, with_amount, with_picked, repeated, NamedOption}
use Rattle.plain_model.specs.Shapes.{option_of, options_read, with_options}
use Rattle.plain_model.specs.declared.zset_command.ZsetCommand.{ZsetCommand}
use Rattle.plain_model.specs.declared.zset_command.ZsetCommand.TheVariants as zsets
use Rattle.plain_model.specs.declared.zset_command.Direction.{Direction}
use Rattle.plain_model.specs.declared.zset_command.Direction.TheVariants.{Rising, Falling}
use Rattle.plain_model.specs.declared.zset_command.ScoreBound.{ScoreBound}
use Rattle.plain_model.specs.declared.zset_command.ScoreJoin.{ScoreJoin}
use Rattle.plain_model.specs.declared.zset_command.ScoreJoin.TheVariants.{Inter, Union}
use Rattle.plain_model.specs.declared.zset_command.Aggregate.{Aggregate}
use Rattle.plain_model.specs.declared.zset_command.Aggregate.TheVariants.{Sum}
use Rattle.plain_model.specs.declared.zset_command.ScoreRules.{ScoreRules}
use Rattle.plain_model.specs.declared.zset_command.AddOptions.{AddOptions}
use Rattle.plain_model.specs.declared.zset_command.RangeOptions.{RangeOptions}
use Rattle.plain_world.specs.declared.refusal.Refusal.{Refusal}
use Rattle.plain_world.specs.declared.refusal.Refusal.TheVariants.{WrongNumberOfArguments, Syntax}

abbrev pub Read : Type 0
Read = Result ZsetCommand Refusal

-- ---- ZADD

-- every score is written
abbrev pub no_rules : ScoreRules
no_rules = record { nx = false; xx = false; gt = false; lt = false }

abbrev pub no_add_options : AddOptions
no_add_options = record { rules = no_rules; ch = false; incr = false }

-- an option of ZADD, which has no word of its own
abbrev pub add_option : List ℕ → (AddOptions → AddOptions) → NamedOption AddOptions
add_option name sets = record { name = name; kinds = []; sets = λ own o. sets o }

-- an option that sets a rule
abbrev pub rule_option : List ℕ → (ScoreRules → ScoreRules) → NamedOption AddOptions
rule_option name sets = add_option name (λ o. record { rules = sets o.rules; ch = o.ch; incr = o.incr })

abbrev pub add_options : List (NamedOption AddOptions)
add_options =
    rule_option (codes "nx") (λ r. record { nx = true; xx = r.xx; gt = r.gt; lt = r.lt })
    ∷ rule_option (codes "xx") (λ r. record { nx = r.nx; xx = true; gt = r.gt; lt = r.lt })
    ∷ rule_option (codes "gt") (λ r. record { nx = r.nx; xx = r.xx; gt = true; lt = r.lt })
    ∷ rule_option (codes "lt") (λ r. record { nx = r.nx; xx = r.xx; gt = r.gt; lt = true })
    ∷ add_option (codes "ch") (λ o. record { rules = o.rules; ch = true; incr = o.incr })
    ∷ add_option (codes "incr") (λ o. record { rules = o.rules; ch = o.ch; incr = true })
    ∷ []

-- rules that forbid each other: NX beside another one, GT with LT
abbrev pub clash : ScoreRules → Bool
clash rules = (rules.nx && (rules.xx || (rules.gt || rules.lt))) || (rules.gt && rules.lt)

-- how many words in front are options
abbrev pub options_in_front : Words → ℕ
options_in_front [] = 0
options_in_front (word ∷ words) =
    if is_some (option_of add_options (in_lower_case word)) then suc (options_in_front words) else 0

-- scores with their members, in turn; behind a last score without a member the syntax is broken
abbrev pub scores_read : Words → Result (List (ℤ × List ℕ)) Refusal
scores_read [] = Ok []
scores_read (word ∷ []) = and_then (told Score word) (λ score. Err Syntax)
scores_read (word ∷ member ∷ words) =
    and_then (told Score word) (λ score. and_then (scores_read words) (λ pairs. Ok ((score, member) ∷ pairs)))

-- rules that forbid each other, and INCR with more than one pair, break the syntax
abbrev pub add_breaks : AddOptions → List (ℤ × List ℕ) → Bool
add_breaks options pairs = clash options.rules || (options.incr && nat_lt 0 (length pairs))

-- one pair at least has to stand
abbrev pub add_of : List ℕ → AddOptions → List (ℤ × List ℕ) → Read
add_of key options [] = Err Syntax
add_of key options (pair ∷ pairs) =
    if add_breaks options pairs then Err Syntax
    else (if options.incr then Ok (zsets.ZIncr key options.rules pair.0 pair.1)
    else Ok (zsets.ZAdd key options.rules options.ch (pair ∷ pairs)))

-- a key, options in front, then scores with their members
abbrev pub add_words : Words → Read
add_words [] = Err WrongNumberOfArguments
add_words (key ∷ words) =
    if nat_le 2 (length words)
    then and_then (options_read add_options no_add_options 0 (take (options_in_front words) words))
    (λ options. and_then (scores_read (drop (options_in_front words) words)) (add_of key options))
    else Err WrongNumberOfArguments

-- ---- ranges

abbrev pub direction : Bool → Direction
direction false = Rising
direction true = Falling

abbrev pub with_scores_option : NamedOption RangeOptions
with_scores_option =
    record {
      name = codes "withscores";
      kinds = [];
      sets = λ own o. record { by_score = o.by_score; rev = o.rev; limit = o.limit; with_scores = true };
    }

abbrev pub limit_option : NamedOption RangeOptions
limit_option =
    record {
      name = codes "limit";
      kinds = Whole
          ∷ Whole
          ∷ [];
      sets = λ own o. record {
        by_score = o.by_score;
        rev = o.rev;
        limit = Some (record { offset = own.0; count = own.1.0 });
        with_scores = o.with_scores;
      };
    }

abbrev pub range_options : List (NamedOption RangeOptions)
range_options =
    record {
      name = codes "byscore";
      kinds = [];
      sets = λ own o. record { by_score = true; rev = o.rev; limit = o.limit; with_scores = o.with_scores };
    }
    ∷ record {
      name = codes "rev";
      kinds = [];
      sets = λ own o. record { by_score = o.by_score; rev = true; limit = o.limit; with_scores = o.with_scores };
    }
    ∷ limit_option ∷ with_scores_option ∷ []

abbrev pub no_range_options : RangeOptions
no_range_options = record { by_score = false; rev = false; limit = None; with_scores = false }

-- LIMIT needs a range of scores
abbrev pub rank_range_of : List ℕ → ℤ → ℤ → RangeOptions → Read
rank_range_of key a b options =
    if is_some options.limit then Err Syntax
    else Ok (zsets.ZRange key a b (direction options.rev) options.with_scores)

-- from the highest score on the greater bound stands first
abbrev pub score_range_of : List ℕ → ScoreBound → ScoreBound → Bool → RangeOptions → ZsetCommand
score_range_of key a b false options = zsets.ZRangeByScore key a b Rising options.limit options.with_scores
score_range_of key a b true options = zsets.ZRangeByScore key b a Falling options.limit options.with_scores

-- BYSCORE stands among the words
abbrev pub asks_scores : Words → Bool
asks_scores words = list_any (λ word. bytes_eq (in_lower_case word) (codes "byscore")) words

-- two ranks, or two bounds where BYSCORE stands behind them, and options
abbrev pub range_words : Words → Read
range_words words =
    if asks_scores (drop 3 words)
    then with_options (Plain ∷ Bound ∷ Bound ∷ []) range_options no_range_options
    (λ a o. Ok (score_range_of a.0 a.1.0 a.1.1.0 o.rev o)) words
    else with_options (Plain ∷ Whole ∷ Whole ∷ []) range_options no_range_options
    (λ a o. rank_range_of a.0 a.1.0 a.1.1.0 o) words

-- two bounds, WITHSCORES and LIMIT
abbrev pub score_range_words : Bool → Words → Read
score_range_words rev =
    with_options (Plain ∷ Bound ∷ Bound ∷ []) (with_scores_option ∷ limit_option ∷ []) no_range_options
    (λ a o. Ok (score_range_of a.0 a.1.0 a.1.1.0 rev o))

-- a member, and WITHSCORE
abbrev pub rank_words : Direction → Words → Read
rank_words from =
    with_options (Plain ∷ Plain ∷ [])
    (record {
      name = codes "withscore";
      kinds = [];
      sets = λ own o. true;
    }
    ∷ []) false (λ a o. Ok (zsets.ZRank a.0 a.1.0 from o))

-- ---- joins

-- so many scores
abbrev pub score_kinds : ℕ → List Kind
score_kinds zero = []
score_kinds (suc n) = Score ∷ score_kinds n

abbrev pub scores_told : (n : ℕ) → AllTold (score_kinds n) → List ℤ
scores_told zero own = []
scores_told (suc n) own = own.0 ∷ scores_told n own.1

-- so many times 1
abbrev pub ones : ℕ → List ℤ
ones zero = []
ones (suc n) = pos 1 ∷ ones n

-- the weights of so many keys, and the aggregate
abbrev pub join_options : ℕ → List (NamedOption (List ℤ × Aggregate))
join_options n =
    record { name = codes "weights"; kinds = score_kinds n; sets = λ own o. (scores_told n own, o.1) }
    ∷ record { name = codes "aggregate"; kinds = Aggregated ∷ []; sets = λ own o. (o.0, own.0) } ∷ []

-- without options each weight is 1, and scores are added
abbrev pub no_join_options : ℕ → List ℤ × Aggregate
no_join_options n = (ones n, Sum)

-- each key with its weight
abbrev pub weighed : List ℤ → Words → List (ℤ × List ℕ)
weighed [] keys = []
weighed (weight ∷ weights) [] = []
weighed (weight ∷ weights) (key ∷ keys) = (weight, key) ∷ weighed weights keys

-- keys, and options behind them
abbrev pub join_of : ScoreJoin → List ℕ → ℕ → Words → Words → Read
join_of join to n keys words =
    and_then (options_read (join_options n) (no_join_options n) 0 words)
    (λ read. Ok (zsets.ZJoinStore join to (weighed read.0 keys) read.1))

-- where the join is to stand, how many keys there are, the keys, and options
abbrev pub join_words : ScoreJoin → Words → Read
join_words join [] = Err WrongNumberOfArguments
join_words join (to ∷ []) = Err WrongNumberOfArguments
join_words join (to ∷ n ∷ words) =
    if nat_le 1 (length words) then and_then (told Keys n) (λ count. counted (join_of join to count) count words)
    else Err WrongNumberOfArguments

-- ---- each command

abbrev pub zset_rows : List (Row ZsetCommand)
zset_rows =
    record { name = codes "zadd"; read = add_words }
    ∷ record {
      name = codes "zincrby";
      read = fixed (Plain ∷ Score ∷ Plain ∷ []) (λ a. Ok (zsets.ZIncr a.0 no_rules a.1.0 a.1.1.0));
    }
    ∷ record { name = codes "zrem"; read = repeated (Plain ∷ []) 1 (λ a own. Ok (zsets.ZRem a.0 own)) }
    ∷ record { name = codes "zscore"; read = fixed (Plain ∷ Plain ∷ []) (λ a. Ok (zsets.ZScore a.0 a.1.0)) }
    ∷ record { name = codes "zmscore"; read = repeated (Plain ∷ []) 1 (λ a own. Ok (zsets.ZMScore a.0 own)) }
    ∷ record { name = codes "zcard"; read = fixed (Plain ∷ []) (λ a. Ok (zsets.ZCard a.0)) }
    ∷ record {
      name = codes "zcount";
      read = fixed (Plain ∷ Bound ∷ Bound ∷ []) (λ a. Ok (zsets.ZCount a.0 a.1.0 a.1.1.0));
    }
    ∷ record { name = codes "zrank"; read = rank_words Rising }
    ∷ record { name = codes "zrevrank"; read = rank_words Falling }
    ∷ record { name = codes "zrange"; read = range_words }
    ∷ record {
      name = codes "zrevrange";
      read = with_options (Plain ∷ Whole ∷ Whole ∷ []) (with_scores_option ∷ []) no_range_options
          (λ a o. Ok (zsets.ZRange a.0 a.1.0 a.1.1.0 Falling o.with_scores));
    }
    ∷ record { name = codes "zrangebyscore"; read = score_range_words false }
    ∷ record { name = codes "zrevrangebyscore"; read = score_range_words true }
    ∷ record {
      name = codes "zremrangebyrank";
      read = fixed (Plain ∷ Whole ∷ Whole ∷ []) (λ a. Ok (zsets.ZRemRangeByRank a.0 a.1.0 a.1.1.0));
    }
    ∷ record {
      name = codes "zremrangebyscore";
      read = fixed (Plain ∷ Bound ∷ Bound ∷ []) (λ a. Ok (zsets.ZRemRangeByScore a.0 a.1.0 a.1.1.0));
    }
    ∷ record { name = codes "zpopmin"; read = with_amount (λ key n. zsets.ZPop key Rising n) }
    ∷ record { name = codes "zpopmax"; read = with_amount (λ key n. zsets.ZPop key Falling n) }
    ∷ record { name = codes "zrandmember"; read = with_picked (codes "withscores") zsets.ZRandMember }
    ∷ record { name = codes "zunionstore"; read = join_words Union }
    ∷ record { name = codes "zinterstore"; read = join_words Inter }
    ∷ record { name = codes "zscan"; read = page_words zsets.ZScan }
    ∷ []
