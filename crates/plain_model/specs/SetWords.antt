-- What the words of commands on sets mean (Redis command reference, "Commands operating on sets").
use Rattle.std.specs.Prelude.{ℕ, List, [], ◌∷◌, length, nat_le, Result, Ok, Err, codes, if◌then◌else◌}
use Rattle.plain_world.specs.Words.{Words}
use Rattle.plain_world.specs.declared.refusal.Refusal.{Refusal}
use Rattle.plain_world.specs.declared.refusal.Refusal.TheVariants.{WrongNumberOfArguments}
use Rattle.plain_model.specs.Shapes.{Plain, Amount, Keys, told, and_then, counted, Row, fixed, repeated, with_amount, with_picks, NamedOption, options_read}
use Rattle.plain_model.specs.KeyWords.{page_words}
use Rattle.plain_model.specs.declared.set_command.SetJoin.{SetJoin}
use Rattle.plain_model.specs.declared.set_command.SetJoin.TheVariants.{Inter, Union, Diff}
use Rattle.plain_model.specs.declared.set_command.SetCommand.{SetCommand}
use Rattle.plain_model.specs.declared.set_command.SetCommand.TheVariants as sets

abbrev pub Read : Type 0
Read = Result SetCommand Refusal

-- one key or more
abbrev pub join_words : SetJoin → Words → Read
join_words how = repeated [] 1 (λ a keys. Ok (sets.SJoin how keys))

-- where the join is to stand, and one key or more
abbrev pub join_store_words : SetJoin → Words → Read
join_store_words how = repeated (Plain ∷ []) 1 (λ a keys. Ok (sets.SJoinStore how a.0 keys))

abbrev pub limit_options : List (NamedOption ℕ)
limit_options = record { name = codes "limit"; kinds = Amount ∷ []; sets = λ own o. own.0 } ∷ []

-- keys, and LIMIT behind them
abbrev pub inter_card_of : Words → Words → Read
inter_card_of keys words =
    and_then (options_read limit_options 0 0 words) (λ limit. Ok (sets.SInterCard keys limit))

-- how many keys there are, the keys, and options
abbrev pub inter_card_words : Words → Read
inter_card_words [] = Err WrongNumberOfArguments
inter_card_words (n ∷ words) =
    if nat_le 1 (length words) then and_then (told Keys n) (λ count. counted inter_card_of count words)
    else Err WrongNumberOfArguments

abbrev pub set_rows : List (Row SetCommand)
set_rows =
    record { name = codes "sadd"; read = repeated (Plain ∷ []) 1 (λ a own. Ok (sets.SAdd a.0 own)) }
    ∷ record { name = codes "srem"; read = repeated (Plain ∷ []) 1 (λ a own. Ok (sets.SRem a.0 own)) }
    ∷ record { name = codes "sismember"; read = fixed (Plain ∷ Plain ∷ []) (λ a. Ok (sets.SIsMember a.0 a.1.0)) }
    ∷ record { name = codes "smismember"; read = repeated (Plain ∷ []) 1 (λ a own. Ok (sets.SMIsMember a.0 own)) }
    ∷ record { name = codes "smembers"; read = fixed (Plain ∷ []) (λ a. Ok (sets.SMembers a.0)) }
    ∷ record { name = codes "scard"; read = fixed (Plain ∷ []) (λ a. Ok (sets.SCard a.0)) }
    ∷ record { name = codes "smove"; read = fixed (Plain ∷ Plain ∷ Plain ∷ []) (λ a. Ok (sets.SMove a.0 a.1.0 a.1.1.0)) }
    ∷ record { name = codes "spop"; read = with_amount sets.SPop }
    ∷ record { name = codes "srandmember"; read = with_picks sets.SRandMember }
    ∷ record { name = codes "sinter"; read = join_words Inter }
    ∷ record { name = codes "sunion"; read = join_words Union }
    ∷ record { name = codes "sdiff"; read = join_words Diff }
    ∷ record { name = codes "sinterstore"; read = join_store_words Inter }
    ∷ record { name = codes "sunionstore"; read = join_store_words Union }
    ∷ record { name = codes "sdiffstore"; read = join_store_words Diff }
    ∷ record { name = codes "sintercard"; read = inter_card_words }
    ∷ record { name = codes "sscan"; read = page_words sets.SScan }
    ∷ []
