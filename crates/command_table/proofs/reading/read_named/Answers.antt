use Rattle.std.proofs.Common.{rules}
use Rattle.plain_model.specs.declared.command.Command.TheVariants.{Strings, Lists, Sets, Hashes, Zsets, Streams, Keys, Connection}
use Rattle.command_table.proofs.Families.{of_family}
use Rattle.command_table.proofs.reading.read_named.Goals as goal

pub returns-in-Strings : goal.returns-in-Strings
returns-in-Strings c = rw c.in-Strings.is (of_family Strings _ c.read_string.result _ c.read_string.ensures (search rules))

pub returns-in-Lists : goal.returns-in-Lists
returns-in-Lists c = rw c.in-Lists.is (of_family Lists _ c.read_list.result _ c.read_list.ensures (search rules))

pub returns-in-Sets : goal.returns-in-Sets
returns-in-Sets c = rw c.in-Sets.is (of_family Sets _ c.read_set.result _ c.read_set.ensures (search rules))

pub returns-in-Hashes : goal.returns-in-Hashes
returns-in-Hashes c = rw c.in-Hashes.is (of_family Hashes _ c.read_hash.result _ c.read_hash.ensures (search rules))

pub returns-in-Zsets : goal.returns-in-Zsets
returns-in-Zsets c = rw c.in-Zsets.is (of_family Zsets _ c.read_zset.result _ c.read_zset.ensures (search rules))

pub returns-in-Streams : goal.returns-in-Streams
returns-in-Streams c = rw c.in-Streams.is (of_family Streams _ c.read_stream.result _ c.read_stream.ensures (search rules))

pub returns-in-Keys : goal.returns-in-Keys
returns-in-Keys c = rw c.in-Keys.is (of_family Keys _ c.read_key.result _ c.read_key.ensures (search rules))

pub returns-in-Connection : goal.returns-in-Connection
returns-in-Connection c = rw c.in-Connection.is (of_family Connection _ c.read_connection.result _ c.read_connection.ensures (search rules))
