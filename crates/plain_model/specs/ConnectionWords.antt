-- What the words of commands on the connection and the server mean (Redis command reference, "Connection management",
-- "Server management").
use Rattle.std.specs.Prelude.{List, [], ◌∷◌, None, Some, Result, Ok, Err, codes}
use Rattle.plain_world.specs.Words.{Words}
use Rattle.plain_model.specs.Shapes.{Plain, Database, Steps, Row, fixed, by_second, NamedOption, with_options}
use Rattle.plain_model.specs.declared.connection.ConnectionCommand.{ConnectionCommand}
use Rattle.plain_model.specs.declared.connection.ConnectionCommand.TheVariants as connection
use Rattle.plain_world.specs.declared.refusal.Refusal.{Refusal}
use Rattle.plain_world.specs.declared.refusal.Refusal.TheVariants.{WrongNumberOfArguments}

abbrev pub Read : Type 0
Read = Result ConnectionCommand Refusal

-- one word or none
abbrev pub ping_words : Words → Read
ping_words [] = Ok (connection.Ping None)
ping_words (text ∷ []) = Ok (connection.Ping (Some text))
ping_words (text ∷ more ∷ words) = Err WrongNumberOfArguments

-- ASYNC and SYNC set nothing
abbrev pub flush_options : List (NamedOption (Unit {0}))
flush_options = record { name = codes "async"; kinds = []; sets = λ own c. c }
    ∷ record { name = codes "sync"; kinds = []; sets = λ own c. c } ∷ []

abbrev pub flush_words : ConnectionCommand → Words → Read
flush_words command = with_options [] flush_options tt (λ a c. Ok command)

-- the second words of MEMORY
abbrev pub memory_rows : List (Row ConnectionCommand)
memory_rows = record { name = codes "slabs"; read = fixed [] (λ a. Ok connection.MemorySlabs) } ∷ []

-- the second words of DEBUG, each with a number of steps behind it
abbrev pub debug_rows : List (Row ConnectionCommand)
debug_rows =
    record { name = codes "rehash"; read = fixed (Steps ∷ []) (λ a. Ok (connection.DebugRehash a.0)) }
    ∷ record { name = codes "defrag"; read = fixed (Steps ∷ []) (λ a. Ok (connection.DebugDefrag a.0)) }
    ∷ []

abbrev pub connection_rows : List (Row ConnectionCommand)
connection_rows =
    record { name = codes "ping"; read = ping_words }
    ∷ record { name = codes "echo"; read = fixed (Plain ∷ []) (λ a. Ok (connection.Echo a.0)) }
    ∷ record { name = codes "quit"; read = λ words. Ok connection.Quit }
    ∷ record { name = codes "select"; read = fixed (Database ∷ []) (λ a. Ok (connection.Select a.0)) }
    ∷ record { name = codes "dbsize"; read = fixed [] (λ a. Ok connection.DbSize) }
    ∷ record { name = codes "flushdb"; read = flush_words connection.FlushDb }
    ∷ record { name = codes "flushall"; read = flush_words connection.FlushAll }
    ∷ record { name = codes "memory"; read = by_second 1 memory_rows }
    ∷ record { name = codes "debug"; read = by_second 2 debug_rows }
    ∷ []
