-- What words mean behind a name, by the rows of the name's family alone.
use Rattle.std.specs.Prelude.{Result}
use Rattle.plain_world.specs.Words.{Words}
use Rattle.plain_world.specs.declared.refusal.Refusal.{Refusal}
use Rattle.plain_model.specs.StringWords.{string_rows}
use Rattle.plain_model.specs.ListWords.{list_rows}
use Rattle.plain_model.specs.SetWords.{set_rows}
use Rattle.plain_model.specs.HashWords.{hash_rows}
use Rattle.plain_model.specs.ZsetWords.{zset_rows}
use Rattle.plain_model.specs.StreamWords.{stream_rows}
use Rattle.plain_model.specs.KeyWords.{key_rows}
use Rattle.plain_model.specs.ConnectionWords.{connection_rows}
use Rattle.plain_model.specs.declared.command.Command.{Command}
use Rattle.plain_model.specs.declared.command.Command.TheVariants as commands
use Rattle.command_table.specs.declared.table.Name.{Name}
use Rattle.command_table.specs.declared.table.Name.TheVariants.{Strings, Lists, Sets, Hashes, Zsets, Streams, Keys, Connection}
use Rattle.command_table.specs.Rows.{by_own, string_name, list_name, set_name, hash_name, zset_name, stream_name, key_name, connection_name}

abbrev pub by_family : Name → Words → Result Command Refusal
by_family (Strings name) words = by_own commands.Strings string_rows (string_name name) words
by_family (Lists name) words = by_own commands.Lists list_rows (list_name name) words
by_family (Sets name) words = by_own commands.Sets set_rows (set_name name) words
by_family (Hashes name) words = by_own commands.Hashes hash_rows (hash_name name) words
by_family (Zsets name) words = by_own commands.Zsets zset_rows (zset_name name) words
by_family (Streams name) words = by_own commands.Streams stream_rows (stream_name name) words
by_family (Keys name) words = by_own commands.Keys key_rows (key_name name) words
by_family (Connection name) words = by_own commands.Connection connection_rows (connection_name name) words
