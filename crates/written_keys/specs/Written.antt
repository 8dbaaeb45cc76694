-- Which places a command may write (Redis command reference): a place is a key of a database.
use Rattle.std.specs.Prelude.{◌≡◌, ◌⊎◌, ℕ, List, [], ◌∷◌, map, Option, None, Some}
use Rattle.std.specs.List.{Contains}
use Rattle.plain_world.specs.Words.{Words}
use Rattle.plain_model.specs.StreamSteps.{Asked}
use Rattle.plain_model.specs.declared.command.Command.{Command}
use Rattle.plain_model.specs.declared.command.Command.TheVariants.{Strings, Lists, Sets, Hashes, Zsets, Streams, Keys, Connection}
use Rattle.plain_model.specs.declared.command.StringCommand.{StringCommand}
use Rattle.plain_model.specs.declared.command.StringCommand.TheVariants as strings
use Rattle.plain_model.specs.declared.list_command.ListCommand.{ListCommand}
use Rattle.plain_model.specs.declared.list_command.ListCommand.TheVariants as lists
use Rattle.plain_model.specs.declared.set_command.SetCommand.{SetCommand}
use Rattle.plain_model.specs.declared.set_command.SetCommand.TheVariants as sets
use Rattle.plain_model.specs.declared.hash_command.HashCommand.{HashCommand}
use Rattle.plain_model.specs.declared.hash_command.HashCommand.TheVariants as hashes
use Rattle.plain_model.specs.declared.zset_command.ZsetCommand.{ZsetCommand}
use Rattle.plain_model.specs.declared.zset_command.ZsetCommand.TheVariants as zsets
use Rattle.plain_model.specs.declared.stream_command.StreamCommand.{StreamCommand}
use Rattle.plain_model.specs.declared.stream_command.StreamCommand.TheVariants as streams
use Rattle.plain_model.specs.declared.keys.KeyCommand.{KeyCommand}
use Rattle.plain_model.specs.declared.keys.KeyCommand.TheVariants as keys
use Rattle.plain_model.specs.declared.connection.ConnectionCommand.{ConnectionCommand}
use Rattle.plain_model.specs.declared.connection.ConnectionCommand.TheVariants as connection
use Rattle.written_keys.specs.declared.emptying.Emptied.{Emptied}
use Rattle.written_keys.specs.declared.emptying.Emptied.TheVariants.{Nothing, Selected, All}

-- a database and a key of it
abbrev pub Place : Type 0
Place = ℕ × List ℕ

-- a key of a database
abbrev pub at : ℕ → List ℕ → Place
at db key = (db, key)

-- the key of a place
abbrev pub key_of : Place → List ℕ
key_of place = place.1

-- these keys of a database
abbrev pub each_at : ℕ → Words → List Place
each_at db words = map (at db) words

-- the first words of pairs
abbrev pub firsts_at : ℕ → List (List ℕ × List ℕ) → List Place
firsts_at db pairs = map (λ (pair : List ℕ × List ℕ). at db pair.0) pairs

-- the keys that are asked for
abbrev pub asked_at : ℕ → List Asked → List Place
asked_at db asked = map (λ (one : Asked). at db one.0) asked

-- ---- each command, where a database is selected: one that only looks has no line

abbrev pub string_places : ℕ → StringCommand → List Place
string_places db (strings.Set key value options) = at db key ∷ []
string_places db (strings.SetNx key value) = at db key ∷ []
string_places db (strings.SetEx key n value) = at db key ∷ []
string_places db (strings.PSetEx key n value) = at db key ∷ []
string_places db (strings.GetEx key renewal) = at db key ∷ []
string_places db (strings.GetSet key value) = at db key ∷ []
string_places db (strings.GetDel key) = at db key ∷ []
string_places db (strings.MSet pairs) = firsts_at db pairs
string_places db (strings.MSetNx pairs) = firsts_at db pairs
string_places db (strings.Append key tail) = at db key ∷ []
string_places db (strings.SetRange key from piece) = at db key ∷ []
string_places db (strings.Incr key) = at db key ∷ []
string_places db (strings.Decr key) = at db key ∷ []
string_places db (strings.IncrBy key n) = at db key ∷ []
string_places db (strings.DecrBy key n) = at db key ∷ []
string_places db other = []

abbrev pub list_places : ℕ → ListCommand → List Place
list_places db (lists.LPush key elements) = at db key ∷ []
list_places db (lists.RPush key elements) = at db key ∷ []
list_places db (lists.LPushX key elements) = at db key ∷ []
list_places db (lists.RPushX key elements) = at db key ∷ []
list_places db (lists.LPop key n) = at db key ∷ []
list_places db (lists.RPop key n) = at db key ∷ []
list_places db (lists.LSet key index element) = at db key ∷ []
list_places db (lists.LTrim key a b) = at db key ∷ []
list_places db (lists.LInsert key side pivot element) = at db key ∷ []
list_places db (lists.LRem key n element) = at db key ∷ []
list_places db (lists.LMove from to end other) = at db from ∷ at db to ∷ []
list_places db (lists.RPopLPush from to) = at db from ∷ at db to ∷ []
list_places db other = []

abbrev pub set_places : ℕ → SetCommand → List Place
set_places db (sets.SAdd key others) = at db key ∷ []
set_places db (sets.SRem key others) = at db key ∷ []
set_places db (sets.SMove from to member) = at db from ∷ at db to ∷ []
set_places db (sets.SPop key n) = at db key ∷ []
set_places db (sets.SJoinStore how to keys) = at db to ∷ []
set_places db other = []

abbrev pub hash_places : ℕ → HashCommand → List Place
hash_places db (hashes.HSet key pairs) = at db key ∷ []
hash_places db (hashes.HMSet key pairs) = at db key ∷ []
hash_places db (hashes.HSetNx key field value) = at db key ∷ []
hash_places db (hashes.HDel key others) = at db key ∷ []
hash_places db (hashes.HIncrBy key field n) = at db key ∷ []
hash_places db other = []

abbrev pub zset_places : ℕ → ZsetCommand → List Place
zset_places db (zsets.ZAdd key rules ch pairs) = at db key ∷ []
zset_places db (zsets.ZIncr key rules by member) = at db key ∷ []
zset_places db (zsets.ZRem key members) = at db key ∷ []
zset_places db (zsets.ZRemRangeByRank key a b) = at db key ∷ []
zset_places db (zsets.ZRemRangeByScore key min max) = at db key ∷ []
zset_places db (zsets.ZPop key from n) = at db key ∷ []
zset_places db (zsets.ZJoinStore join to keys how) = at db to ∷ []
zset_places db other = []

abbrev pub stream_places : ℕ → StreamCommand → List Place
stream_places db (streams.XAdd key options id pairs) = at db key ∷ []
stream_places db (streams.XDel key ids) = at db key ∷ []
stream_places db (streams.XTrim key trim) = at db key ∷ []
stream_places db (streams.XGroupCreate key name id make) = at db key ∷ []
stream_places db (streams.XGroupDestroy key name) = at db key ∷ []
stream_places db (streams.XReadGroup name consumer limit asked) = asked_at db asked
stream_places db (streams.XAck key name ids) = at db key ∷ []
stream_places db other = []

-- the database of an option, or else the selected one
abbrev pub number_or : ℕ → Option ℕ → ℕ
number_or db None = db
number_or db (Some number) = number

abbrev pub key_places : ℕ → KeyCommand → List Place
key_places db (keys.Del words) = each_at db words
key_places db (keys.Unlink words) = each_at db words
key_places db (keys.Expire key n options) = at db key ∷ []
key_places db (keys.PExpire key n options) = at db key ∷ []
key_places db (keys.ExpireAt key n options) = at db key ∷ []
key_places db (keys.PExpireAt key n options) = at db key ∷ []
key_places db (keys.Persist key) = at db key ∷ []
key_places db (keys.Rename from to) = at db from ∷ at db to ∷ []
key_places db (keys.RenameNx from to) = at db from ∷ at db to ∷ []
key_places db (keys.Copy from to options) = at (number_or db options.db) to ∷ []
key_places db (keys.MoveKey key number) = at db key ∷ at number key ∷ []
key_places db other = []

-- the places that a command writes by their keys
abbrev pub places : ℕ → Command → List Place
places db (Strings command) = string_places db command
places db (Lists command) = list_places db command
places db (Sets command) = set_places db command
places db (Hashes command) = hash_places db command
places db (Zsets command) = zset_places db command
places db (Streams command) = stream_places db command
places db (Keys command) = key_places db command
places db (Connection command) = []

-- which databases a command empties
abbrev pub emptied_here : ConnectionCommand → Emptied
emptied_here connection.FlushDb = Selected
emptied_here connection.FlushAll = All
emptied_here other = Nothing

abbrev pub emptied : Command → Emptied
emptied (Connection command) = emptied_here command
emptied other = Nothing

-- the database is one of these, where a database is selected
abbrev pub IsEmptied : Emptied → ℕ → ℕ → Type 0
IsEmptied Nothing selected db = ⊥
IsEmptied Selected selected db = db ≡ selected
IsEmptied All selected db = Unit {0}

-- a command may write a place, where a database is selected
abbrev pub IsWritten : ℕ → Command → ℕ → List ℕ → Type 0
IsWritten selected command db key =
    Contains (places selected command) (at db key) ⊎ IsEmptied (emptied command) selected db
