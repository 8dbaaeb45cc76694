-- What each command may change of the databases.
use Rattle.std.specs.Prelude.{ℕ, List, map, Option, Some, None}
use Rattle.blocks.specs.Blocks.{Blocks}
use Rattle.held.specs.Scopes as held
use Rattle.plain_model.specs.declared.command.Command.{Command}
use Rattle.plain_model.specs.declared.command.Command.TheVariants.{Strings, Lists, Sets, Hashes, Zsets, Streams, Keys, Connection}
use Rattle.plain_model.specs.declared.command.StringCommand.{StringCommand}
use Rattle.plain_model.specs.declared.command.StringCommand.TheVariants as strings
use Rattle.plain_model.specs.declared.list_command.ListCommand.{ListCommand}
use Rattle.plain_model.specs.declared.list_command.ListCommand.TheVariants as lists
use Rattle.plain_model.specs.declared.set_command.SetCommand.{SetCommand}
use Rattle.plain_model.specs.declared.set_command.SetCommand.TheVariants as sets
use Rattle.plain_model.specs.declared.hash_command.HashCommand.{HashCommand}
use Rattle.plain_model.specs.declared.hash_command.HashCommand.TheVariants as hashes
use Rattle.plain_model.specs.declared.zset_command.ZsetCommand.{ZsetCommand}
use Rattle.plain_model.specs.declared.zset_command.ZsetCommand.TheVariants as zsets
use Rattle.plain_model.specs.declared.stream_command.StreamCommand.{StreamCommand}
use Rattle.plain_model.specs.declared.stream_command.StreamCommand.TheVariants as streams
use Rattle.plain_model.specs.StreamSteps.{Asked}
use Rattle.plain_model.specs.declared.keys.KeyCommand.{KeyCommand}
use Rattle.plain_model.specs.declared.keys.KeyCommand.TheVariants as keys
use Rattle.plain_model.specs.declared.connection.ConnectionCommand.{ConnectionCommand}
use Rattle.plain_model.specs.declared.connection.ConnectionCommand.TheVariants as connection
use Rattle.keyspace.specs.Databases.{Bases}
use Rattle.keyspace.specs.Values.{value_refs}
pub use Rattle.held.specs.Scopes.{Scope, untouched, one_key, some_keys, no_key, two_keys, all_keys, everything, anything, AreGrown, AreSettled}

-- The databases come from those before within a scope.
abbrev pub Within : Scope → Bases → Bases → Blocks → Blocks → Type 0
Within scope old new m after = held.Within value_refs scope old new m after

-- the database of this number, or else the selected one
abbrev pub number_or : ℕ → Option ℕ → ℕ
number_or db None = db
number_or db (Some number) = number

-- What a command may change in the database that is selected: nothing; keys that may leave it and deadlines, and no value;
-- the value at a key too, or at some keys, or at two.
pub data Reach : Type 0 where
  Nothing : Reach
  NoKey : Reach
  OneKey : List ℕ → Reach
  SomeKeys : List (List ℕ) → Reach
  TwoKeys : List ℕ → List ℕ → Reach

-- What it may change in all: so much in the selected database; the value at a key there, and at one in the database of this
-- number, or else there too; all that the selected one holds; all that any holds.
pub data WholeReach : Type 0 where
  Here : Reach → WholeReach
  Across : List ℕ → Option ℕ → List ℕ → WholeReach
  AllKeys : WholeReach
  Everything : WholeReach

abbrev pub scope_here : ℕ → Reach → Scope
scope_here db Nothing = untouched
scope_here db NoKey = no_key db
scope_here db (OneKey key) = one_key db key
scope_here db (SomeKeys keys) = some_keys db keys
scope_here db (TwoKeys key other) = two_keys db key db other

abbrev pub scope : ℕ → WholeReach → Scope
scope db (Here own) = scope_here db own
scope db (Across key number other) = two_keys db key (number_or db number) other
scope db AllKeys = all_keys db
scope db Everything = everything

-- ---- each command: one that only looks has no line

-- the first words of pairs
abbrev pub first_words : List (List ℕ × List ℕ) → List (List ℕ)
first_words pairs = map (λ pair. pair.0) pairs

abbrev pub string_reach : StringCommand → Reach
string_reach (strings.Set key value options) = OneKey key
string_reach (strings.SetNx key value) = OneKey key
string_reach (strings.SetEx key n value) = OneKey key
string_reach (strings.PSetEx key n value) = OneKey key
string_reach (strings.GetEx key renewal) = NoKey
string_reach (strings.GetSet key value) = OneKey key
string_reach (strings.GetDel key) = NoKey
string_reach (strings.MSet pairs) = SomeKeys (first_words pairs)
string_reach (strings.MSetNx pairs) = SomeKeys (first_words pairs)
string_reach (strings.Append key tail) = OneKey key
string_reach (strings.SetRange key at piece) = OneKey key
string_reach (strings.Incr key) = OneKey key
string_reach (strings.Decr key) = OneKey key
string_reach (strings.IncrBy key n) = OneKey key
string_reach (strings.DecrBy key n) = OneKey key
string_reach other = Nothing

abbrev pub string_scope : ℕ → StringCommand → Scope
string_scope db command = scope_here db (string_reach command)

abbrev pub list_reach : ListCommand → Reach
list_reach (lists.LPush key elements) = OneKey key
list_reach (lists.RPush key elements) = OneKey key
list_reach (lists.LPushX key elements) = OneKey key
list_reach (lists.RPushX key elements) = OneKey key
list_reach (lists.LPop key n) = OneKey key
list_reach (lists.RPop key n) = OneKey key
list_reach (lists.LSet key index element) = OneKey key
list_reach (lists.LTrim key a b) = OneKey key
list_reach (lists.LInsert key side pivot element) = OneKey key
list_reach (lists.LRem key n element) = OneKey key
list_reach (lists.LMove from to end other) = TwoKeys from to
list_reach (lists.RPopLPush from to) = TwoKeys from to
list_reach other = Nothing

abbrev pub list_scope : ℕ → ListCommand → Scope
list_scope db command = scope_here db (list_reach command)

abbrev pub set_reach : SetCommand → Reach
set_reach (sets.SAdd key others) = OneKey key
set_reach (sets.SRem key others) = OneKey key
set_reach (sets.SMove from to member) = TwoKeys from to
set_reach (sets.SPop key n) = OneKey key
set_reach (sets.SJoinStore how to keys) = OneKey to
set_reach other = Nothing

abbrev pub set_scope : ℕ → SetCommand → Scope
set_scope db command = scope_here db (set_reach command)

abbrev pub hash_reach : HashCommand → Reach
hash_reach (hashes.HSet key pairs) = OneKey key
hash_reach (hashes.HMSet key pairs) = OneKey key
hash_reach (hashes.HSetNx key field value) = OneKey key
hash_reach (hashes.HDel key others) = OneKey key
hash_reach (hashes.HIncrBy key field n) = OneKey key
hash_reach other = Nothing

abbrev pub hash_scope : ℕ → HashCommand → Scope
hash_scope db command = scope_here db (hash_reach command)

abbrev pub zset_reach : ZsetCommand → Reach
zset_reach (zsets.ZAdd key rules ch pairs) = OneKey key
zset_reach (zsets.ZIncr key rules by member) = OneKey key
zset_reach (zsets.ZRem key members) = OneKey key
zset_reach (zsets.ZRemRangeByRank key a b) = OneKey key
zset_reach (zsets.ZRemRangeByScore key min max) = OneKey key
zset_reach (zsets.ZPop key from n) = OneKey key
zset_reach (zsets.ZJoinStore join to keys how) = OneKey to
zset_reach other = Nothing

abbrev pub zset_scope : ℕ → ZsetCommand → Scope
zset_scope db command = scope_here db (zset_reach command)

-- the keys that are asked for
abbrev pub asked_keys : List Asked → List (List ℕ)
asked_keys asked = map (λ (one : Asked). one.0) asked

abbrev pub stream_reach : StreamCommand → Reach
stream_reach (streams.XAdd key options id pairs) = OneKey key
stream_reach (streams.XDel key ids) = OneKey key
stream_reach (streams.XTrim key trim) = OneKey key
stream_reach (streams.XGroupCreate key name id make) = OneKey key
stream_reach (streams.XGroupDestroy key name) = OneKey key
stream_reach (streams.XReadGroup name consumer limit asked) = SomeKeys (asked_keys asked)
stream_reach (streams.XAck key name ids) = OneKey key
stream_reach other = Nothing

abbrev pub stream_scope : ℕ → StreamCommand → Scope
stream_scope db command = scope_here db (stream_reach command)

abbrev pub key_reach : KeyCommand → WholeReach
key_reach (keys.Del names) = Here NoKey
key_reach (keys.Unlink names) = Here NoKey
key_reach (keys.Expire key n options) = Here NoKey
key_reach (keys.PExpire key n options) = Here NoKey
key_reach (keys.ExpireAt key n options) = Here NoKey
key_reach (keys.PExpireAt key n options) = Here NoKey
key_reach (keys.Persist key) = Here NoKey
key_reach (keys.Rename from to) = Here (TwoKeys from to)
key_reach (keys.RenameNx from to) = Here (TwoKeys from to)
key_reach (keys.Copy from to options) = Across from options.db to
key_reach (keys.MoveKey key number) = Across key (Some number) key
key_reach other = Here Nothing

abbrev pub key_scope : ℕ → KeyCommand → Scope
key_scope db command = scope db (key_reach command)

abbrev pub connection_reach : ConnectionCommand → WholeReach
connection_reach connection.DbSize = Here NoKey
connection_reach connection.FlushDb = AllKeys
connection_reach connection.FlushAll = Everything
connection_reach other = Here Nothing

abbrev pub connection_scope : ℕ → ConnectionCommand → Scope
connection_scope db command = scope db (connection_reach command)

-- What a command but DEBUG may change. A key that it removes, or whose deadline it changes, it doesn't write.
abbrev pub reach_of : Command → WholeReach
reach_of (Strings command) = Here (string_reach command)
reach_of (Lists command) = Here (list_reach command)
reach_of (Sets command) = Here (set_reach command)
reach_of (Hashes command) = Here (hash_reach command)
reach_of (Zsets command) = Here (zset_reach command)
reach_of (Streams command) = Here (stream_reach command)
reach_of (Keys command) = key_reach command
reach_of (Connection command) = connection_reach command

abbrev pub scope_of : ℕ → Command → Scope
scope_of db command = scope db (reach_of command)
