-- The names of commands, and the code's table of them.
use Rattle.std.specs.Prelude.{◌≡◌, ℕ, ◌==◌, List, [], ◌∷◌, length, map, Bool, true, false, ◌||◌, ◌&&◌}
use Rattle.std.specs.Prelude.{if◌then◌else◌, bytes_eq, Option, Some, None, Result, codes, Err}
use Rattle.plain_world.specs.Words.{Words, in_lower_case}
use Rattle.plain_model.specs.Shapes.{Row as Definition}
use Rattle.plain_model.specs.Meant.{of_family, read_by, rows, meant}
use Rattle.plain_model.specs.declared.command.Command.{Command}
use Rattle.plain_world.specs.declared.refusal.Refusal.{Refusal}
use Rattle.plain_world.specs.declared.refusal.Refusal.TheVariants.{UnknownCommand}
use Rattle.command_table.specs.declared.table.StringName.{StringName}
use Rattle.command_table.specs.declared.table.StringName.TheVariants as string
use Rattle.command_table.specs.declared.table.ListName.{ListName}
use Rattle.command_table.specs.declared.table.ListName.TheVariants as list
use Rattle.command_table.specs.declared.table.SetName.{SetName}
use Rattle.command_table.specs.declared.table.SetName.TheVariants as set
use Rattle.command_table.specs.declared.table.HashName.{HashName}
use Rattle.command_table.specs.declared.table.HashName.TheVariants as hash
use Rattle.command_table.specs.declared.table.ZsetName.{ZsetName}
use Rattle.command_table.specs.declared.table.ZsetName.TheVariants as zset
use Rattle.command_table.specs.declared.table.StreamName.{StreamName}
use Rattle.command_table.specs.declared.table.StreamName.TheVariants as stream
use Rattle.command_table.specs.declared.table.KeyName.{KeyName}
use Rattle.command_table.specs.declared.table.KeyName.TheVariants as key
use Rattle.command_table.specs.declared.table.ConnectionName.{ConnectionName}
use Rattle.command_table.specs.declared.table.ConnectionName.TheVariants as connection
use Rattle.command_table.specs.declared.table.Row.{Row}
use Rattle.command_table.specs.declared.table.Name.{Name}
use Rattle.command_table.specs.declared.table.Name.TheVariants.{Strings, Lists, Sets, Hashes, Zsets, Streams, Keys, Connection}

-- the name in lower case
abbrev pub string_name : StringName → List ℕ
string_name string.Get = codes "get"
string_name string.Set = codes "set"
string_name string.SetNx = codes "setnx"
string_name string.SetEx = codes "setex"
string_name string.PSetEx = codes "psetex"
string_name string.GetSet = codes "getset"
string_name string.GetDel = codes "getdel"
string_name string.GetEx = codes "getex"
string_name string.MGet = codes "mget"
string_name string.MSet = codes "mset"
string_name string.MSetNx = codes "msetnx"
string_name string.Append = codes "append"
string_name string.StrLen = codes "strlen"
string_name string.GetRange = codes "getrange"
string_name string.SetRange = codes "setrange"
string_name string.Incr = codes "incr"
string_name string.Decr = codes "decr"
string_name string.IncrBy = codes "incrby"
string_name string.DecrBy = codes "decrby"

abbrev pub list_name : ListName → List ℕ
list_name list.LPush = codes "lpush"
list_name list.RPush = codes "rpush"
list_name list.LPushX = codes "lpushx"
list_name list.RPushX = codes "rpushx"
list_name list.LPop = codes "lpop"
list_name list.RPop = codes "rpop"
list_name list.LLen = codes "llen"
list_name list.LIndex = codes "lindex"
list_name list.LSet = codes "lset"
list_name list.LRange = codes "lrange"
list_name list.LTrim = codes "ltrim"
list_name list.LInsert = codes "linsert"
list_name list.LRem = codes "lrem"
list_name list.LPos = codes "lpos"
list_name list.LMove = codes "lmove"
list_name list.RPopLPush = codes "rpoplpush"

abbrev pub set_name : SetName → List ℕ
set_name set.SAdd = codes "sadd"
set_name set.SRem = codes "srem"
set_name set.SIsMember = codes "sismember"
set_name set.SMIsMember = codes "smismember"
set_name set.SMembers = codes "smembers"
set_name set.SCard = codes "scard"
set_name set.SMove = codes "smove"
set_name set.SPop = codes "spop"
set_name set.SRandMember = codes "srandmember"
set_name set.SInter = codes "sinter"
set_name set.SUnion = codes "sunion"
set_name set.SDiff = codes "sdiff"
set_name set.SInterStore = codes "sinterstore"
set_name set.SUnionStore = codes "sunionstore"
set_name set.SDiffStore = codes "sdiffstore"
set_name set.SInterCard = codes "sintercard"
set_name set.SScan = codes "sscan"

abbrev pub hash_name : HashName → List ℕ
hash_name hash.HSet = codes "hset"
hash_name hash.HMSet = codes "hmset"
hash_name hash.HSetNx = codes "hsetnx"
hash_name hash.HGet = codes "hget"
hash_name hash.HMGet = codes "hmget"
hash_name hash.HDel = codes "hdel"
hash_name hash.HExists = codes "hexists"
hash_name hash.HLen = codes "hlen"
hash_name hash.HStrLen = codes "hstrlen"
hash_name hash.HKeys = codes "hkeys"
hash_name hash.HVals = codes "hvals"
hash_name hash.HGetAll = codes "hgetall"
hash_name hash.HIncrBy = codes "hincrby"
hash_name hash.HRandField = codes "hrandfield"
hash_name hash.HScan = codes "hscan"

abbrev pub zset_name : ZsetName → List ℕ
zset_name zset.ZAdd = codes "zadd"
zset_name zset.ZIncrBy = codes "zincrby"
zset_name zset.ZRem = codes "zrem"
zset_name zset.ZScore = codes "zscore"
zset_name zset.ZMScore = codes "zmscore"
zset_name zset.ZCard = codes "zcard"
zset_name zset.ZCount = codes "zcount"
zset_name zset.ZRank = codes "zrank"
zset_name zset.ZRevRank = codes "zrevrank"
zset_name zset.ZRange = codes "zrange"
zset_name zset.ZRevRange = codes "zrevrange"
zset_name zset.ZRangeByScore = codes "zrangebyscore"
zset_name zset.ZRevRangeByScore = codes "zrevrangebyscore"
zset_name zset.ZRemRangeByRank = codes "zremrangebyrank"
zset_name zset.ZRemRangeByScore = codes "zremrangebyscore"
zset_name zset.ZPopMin = codes "zpopmin"
zset_name zset.ZPopMax = codes "zpopmax"
zset_name zset.ZRandMember = codes "zrandmember"
zset_name zset.ZUnionStore = codes "zunionstore"
zset_name zset.ZInterStore = codes "zinterstore"
zset_name zset.ZScan = codes "zscan"

abbrev pub stream_name : StreamName → List ℕ
stream_name stream.XAdd = codes "xadd"
stream_name stream.XLen = codes "xlen"
stream_name stream.XRange = codes "xrange"
stream_name stream.XRevRange = codes "xrevrange"
stream_name stream.XDel = codes "xdel"
stream_name stream.XTrim = codes "xtrim"
stream_name stream.XRead = codes "xread"
stream_name stream.XGroup = codes "xgroup"
stream_name stream.XReadGroup = codes "xreadgroup"
stream_name stream.XAck = codes "xack"
stream_name stream.XPending = codes "xpending"

abbrev pub key_name : KeyName → List ℕ
key_name key.Del = codes "del"
key_name key.Unlink = codes "unlink"
key_name key.Exists = codes "exists"
key_name key.Touch = codes "touch"
key_name key.TypeOf = codes "type"
key_name key.Expire = codes "expire"
key_name key.PExpire = codes "pexpire"
key_name key.ExpireAt = codes "expireat"
key_name key.PExpireAt = codes "pexpireat"
key_name key.Ttl = codes "ttl"
key_name key.PTtl = codes "pttl"
key_name key.ExpireTime = codes "expiretime"
key_name key.PExpireTime = codes "pexpiretime"
key_name key.Persist = codes "persist"
key_name key.Rename = codes "rename"
key_name key.RenameNx = codes "renamenx"
key_name key.CopyKey = codes "copy"
key_name key.MoveKey = codes "move"
key_name key.RandomKey = codes "randomkey"
key_name key.Object = codes "object"
key_name key.KeysLike = codes "keys"
key_name key.Scan = codes "scan"

abbrev pub connection_name : ConnectionName → List ℕ
connection_name connection.Ping = codes "ping"
connection_name connection.Echo = codes "echo"
connection_name connection.Quit = codes "quit"
connection_name connection.Select = codes "select"
connection_name connection.DbSize = codes "dbsize"
connection_name connection.FlushDb = codes "flushdb"
connection_name connection.FlushAll = codes "flushall"
connection_name connection.Memory = codes "memory"
connection_name connection.Debug = codes "debug"

abbrev pub name_of : Name → List ℕ
name_of (Strings name) = string_name name
name_of (Lists name) = list_name name
name_of (Sets name) = set_name name
name_of (Hashes name) = hash_name name
name_of (Zsets name) = zset_name name
name_of (Streams name) = stream_name name
name_of (Keys name) = key_name name
name_of (Connection name) = connection_name name

-- what the words behind a name mean by the rows of its family alone
abbrev pub by_own : {A : Type 0} → (A → Command) → List (Definition A) → List ℕ → Words → Result Command Refusal
by_own family own name words = read_by (map (of_family family) own) name words

-- the names that the definition knows
abbrev pub names : List (List ℕ)
names = map (λ row. row.name) rows

-- the name is one of these
abbrev pub is_among : List (List ℕ) → List ℕ → Bool
is_among [] name = false
is_among (n ∷ ns) name = bytes_eq name n || is_among ns name

-- of these names, those of this length are among the others
abbrev pub covered : ℕ → List (List ℕ) → List (List ℕ) → Bool
covered len [] others = true
covered len (n ∷ ns) others = (if length n == len then is_among others n else true) && covered len ns others

-- these rows are right, and have each name of this length that the definition knows
pub record IsTable (table : List Row) (len : ℕ) : Type 0 where
  pub right : map (λ row. in_lower_case row.0.now) table ≡ map (λ row. name_of row.1) table
  pub whole : covered len names (map (λ row. in_lower_case row.0.now) table) ≡ true

-- the first of these rows with this name, whatever the case of either
abbrev pub found_in : List Row → List ℕ → Option Name
found_in [] word = None
found_in (row ∷ behind) word =
    if bytes_eq (in_lower_case word) (in_lower_case row.0.now) then Some row.1 else found_in behind word

-- what the look-up of a word answers: the command of that name; or it names no command
abbrev pub Finds : List ℕ → Option Name → Type 0
Finds word None = (words : Words) → meant (word ∷ words) ≡ Err UnknownCommand
Finds word (Some name) = in_lower_case word ≡ name_of name
