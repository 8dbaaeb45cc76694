-- What the words of a request mean: a command, or why they are refused.
use Rattle.std.specs.Prelude.{◌≡◌, ℕ, List, [], ◌∷◌, ◌++◌, map, Bool, true, false, Result, Ok, Err, bytes_eq, if◌then◌else◌}
use Rattle.plain_world.specs.Words.{Words, IsRequest, in_lower_case}
use Rattle.plain_model.specs.Shapes.{and_then, Row}
use Rattle.plain_model.specs.StringWords.{string_rows}
use Rattle.plain_model.specs.KeyWords.{key_rows}
use Rattle.plain_model.specs.ListWords.{list_rows}
use Rattle.plain_model.specs.SetWords.{set_rows}
use Rattle.plain_model.specs.HashWords.{hash_rows}
use Rattle.plain_model.specs.ZsetWords.{zset_rows}
use Rattle.plain_model.specs.StreamWords.{stream_rows}
use Rattle.plain_model.specs.ConnectionWords.{connection_rows}
use Rattle.plain_model.specs.declared.command.Command.{Command}
use Rattle.plain_model.specs.declared.command.Command.TheVariants.{Strings, Lists, Sets, Hashes, Zsets, Streams, Keys, Connection}
use Rattle.plain_model.specs.declared.connection.ConnectionCommand.TheVariants.{Quit}
use Rattle.plain_world.specs.declared.refusal.Refusal.{Refusal}
use Rattle.plain_world.specs.declared.refusal.Refusal.TheVariants.{UnknownCommand}

-- a family's row among all rows
abbrev pub of_family : {A : Type 0} → (A → Command) → Row A → Row Command
of_family family row =
    record { name = row.name; read = λ words. and_then (row.read words) (λ command. Ok (family command)) }

-- the rows of all commands
abbrev pub rows : List (Row Command)
rows = map (of_family Strings) string_rows ++ map (of_family Lists) list_rows
    ++ map (of_family Sets) set_rows ++ map (of_family Hashes) hash_rows
    ++ map (of_family Zsets) zset_rows ++ map (of_family Streams) stream_rows
    ++ map (of_family Keys) key_rows ++ map (of_family Connection) connection_rows

-- the row of this name, in lower case, reads the words
abbrev pub read_by : List (Row Command) → List ℕ → Words → Result Command Refusal
read_by [] name words = Err UnknownCommand
read_by (row ∷ rows) name words = if bytes_eq name row.name then row.read words else read_by rows name words

-- what the words of a request mean: the name is looked up, whatever its case, and the words behind it are read by its
-- row
abbrev pub meant : Words → Result Command Refusal
meant [] = Err UnknownCommand
meant (name ∷ words) = read_by rows (in_lower_case name) words

-- the command is what the words of some request mean
pub record IsAsked (command : Command) : Type 0 where
  pub words : Words
  pub request : IsRequest words
  pub means : meant words ≡ Ok command

-- QUIT ends the run (Redis command reference, "QUIT")
abbrev pub is_quit : Command → Bool
is_quit (Connection Quit) = true
is_quit other = false

-- what was asked is QUIT
abbrev pub quits : Result Command Refusal → Bool
quits (Ok command) = is_quit command
quits (Err refusal) = false

-- the words of a request mean QUIT
abbrev pub asks_to_quit : Words → Bool
asks_to_quit words = quits (meant words)
