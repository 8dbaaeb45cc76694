-- What the words behind a name mean, by the rows of its family alone.
use Rattle.std.proofs.Common.{◌≡◌, ◌∷◌, Result, Ok, Err, refl, sym, ap, subst, ◌∙◌}
use Rattle.std.specs.Result.{MatchResult, IsOkAnd}
use Rattle.plain_world.specs.Words.{Words}
use Rattle.plain_world.specs.declared.refusal.Refusal.{Refusal}
use Rattle.plain_model.specs.Meant.{meant}
use Rattle.plain_model.specs.StringWords.{string_rows}
use Rattle.plain_model.specs.ListWords.{list_rows}
use Rattle.plain_model.specs.SetWords.{set_rows}
use Rattle.plain_model.specs.HashWords.{hash_rows}
use Rattle.plain_model.specs.ZsetWords.{zset_rows}
use Rattle.plain_model.specs.StreamWords.{stream_rows}
use Rattle.plain_model.specs.KeyWords.{key_rows}
use Rattle.plain_model.specs.ConnectionWords.{connection_rows}
use Rattle.plain_model.specs.declared.command.Command.{Command}
use Rattle.plain_model.specs.declared.command.Command.TheVariants.{Strings, Lists, Sets, Hashes, Zsets, Streams, Keys, Connection}
use Rattle.command_words.specs.declared.fault.ReadingFault.{ReadingFault}
use Rattle.command_words.specs.declared.fault.ReadingFault.TheVariants.{Refused, Memory}
use Rattle.command_words.specs.Readings.{ReadsAs}
use Rattle.command_table.specs.declared.table.StringName.{StringName}
use Rattle.command_table.specs.declared.table.StringName.TheVariants as string
use Rattle.command_table.specs.declared.table.ListName.{ListName}
use Rattle.command_table.specs.declared.table.ListName.TheVariants as list
use Rattle.command_table.specs.declared.table.SetName.{SetName}
use Rattle.command_table.specs.declared.table.SetName.TheVariants as set
use Rattle.command_table.specs.declared.table.HashName.{HashName}
use Rattle.command_table.specs.declared.table.HashName.TheVariants as hash
use Rattle.command_table.specs.declared.table.ZsetName.{ZsetName}
use Rattle.command_table.specs.declared.table.ZsetName.TheVariants as zset
use Rattle.command_table.specs.declared.table.StreamName.{StreamName}
use Rattle.command_table.specs.declared.table.StreamName.TheVariants as stream
use Rattle.command_table.specs.declared.table.KeyName.{KeyName}
use Rattle.command_table.specs.declared.table.KeyName.TheVariants as key
use Rattle.command_table.specs.declared.table.ConnectionName.{ConnectionName}
use Rattle.command_table.specs.declared.table.ConnectionName.TheVariants as connection
use Rattle.command_table.specs.declared.table.Name.{Name}
use Rattle.command_table.specs.declared.table.Name.TheVariants as names
use Rattle.command_table.specs.Families.{by_family}
use Rattle.command_table.specs.Rows.{by_own, name_of, string_name, list_name, set_name, hash_name, zset_name, stream_name, key_name, connection_name}

string_means : (name : StringName) (words : Words) → meant (string_name name ∷ words) ≡ by_own Strings string_rows (string_name name) words
string_means string.Get words = refl
string_means string.Set words = refl
string_means string.SetNx words = refl
string_means string.SetEx words = refl
string_means string.PSetEx words = refl
string_means string.GetSet words = refl
string_means string.GetDel words = refl
string_means string.GetEx words = refl
string_means string.MGet words = refl
string_means string.MSet words = refl
string_means string.MSetNx words = refl
string_means string.Append words = refl
string_means string.StrLen words = refl
string_means string.GetRange words = refl
string_means string.SetRange words = refl
string_means string.Incr words = refl
string_means string.Decr words = refl
string_means string.IncrBy words = refl
string_means string.DecrBy words = refl

list_means : (name : ListName) (words : Words) → meant (list_name name ∷ words) ≡ by_own Lists list_rows (list_name name) words
list_means list.LPush words = refl
list_means list.RPush words = refl
list_means list.LPushX words = refl
list_means list.RPushX words = refl
list_means list.LPop words = refl
list_means list.RPop words = refl
list_means list.LLen words = refl
list_means list.LIndex words = refl
list_means list.LSet words = refl
list_means list.LRange words = refl
list_means list.LTrim words = refl
list_means list.LInsert words = refl
list_means list.LRem words = refl
list_means list.LPos words = refl
list_means list.LMove words = refl
list_means list.RPopLPush words = refl

set_means : (name : SetName) (words : Words) → meant (set_name name ∷ words) ≡ by_own Sets set_rows (set_name name) words
set_means set.SAdd words = refl
set_means set.SRem words = refl
set_means set.SIsMember words = refl
set_means set.SMIsMember words = refl
set_means set.SMembers words = refl
set_means set.SCard words = refl
set_means set.SMove words = refl
set_means set.SPop words = refl
set_means set.SRandMember words = refl
set_means set.SInter words = refl
set_means set.SUnion words = refl
set_means set.SDiff words = refl
set_means set.SInterStore words = refl
set_means set.SUnionStore words = refl
set_means set.SDiffStore words = refl
set_means set.SInterCard words = refl
set_means set.SScan words = refl

hash_means : (name : HashName) (words : Words) → meant (hash_name name ∷ words) ≡ by_own Hashes hash_rows (hash_name name) words
hash_means hash.HSet words = refl
hash_means hash.HMSet words = refl
hash_means hash.HSetNx words = refl
hash_means hash.HGet words = refl
hash_means hash.HMGet words = refl
hash_means hash.HDel words = refl
hash_means hash.HExists words = refl
hash_means hash.HLen words = refl
hash_means hash.HStrLen words = refl
hash_means hash.HKeys words = refl
hash_means hash.HVals words = refl
hash_means hash.HGetAll words = refl
hash_means hash.HIncrBy words = refl
hash_means hash.HRandField words = refl
hash_means hash.HScan words = refl

zset_means : (name : ZsetName) (words : Words) → meant (zset_name name ∷ words) ≡ by_own Zsets zset_rows (zset_name name) words
zset_means zset.ZAdd words = refl
zset_means zset.ZIncrBy words = refl
zset_means zset.ZRem words = refl
zset_means zset.ZScore words = refl
zset_means zset.ZMScore words = refl
zset_means zset.ZCard words = refl
zset_means zset.ZCount words = refl
zset_means zset.ZRank words = refl
zset_means zset.ZRevRank words = refl
zset_means zset.ZRange words = refl
zset_means zset.ZRevRange words = refl
zset_means zset.ZRangeByScore words = refl
zset_means zset.ZRevRangeByScore words = refl
zset_means zset.ZRemRangeByRank words = refl
zset_means zset.ZRemRangeByScore words = refl
zset_means zset.ZPopMin words = refl
zset_means zset.ZPopMax words = refl
zset_means zset.ZRandMember words = refl
zset_means zset.ZUnionStore words = refl
zset_means zset.ZInterStore words = refl
zset_means zset.ZScan words = refl

stream_means : (name : StreamName) (words : Words) → meant (stream_name name ∷ words) ≡ by_own Streams stream_rows (stream_name name) words
stream_means stream.XAdd words = refl
stream_means stream.XLen words = refl
stream_means stream.XRange words = refl
stream_means stream.XRevRange words = refl
stream_means stream.XDel words = refl
stream_means stream.XTrim words = refl
stream_means stream.XRead words = refl
stream_means stream.XGroup words = refl
stream_means stream.XReadGroup words = refl
stream_means stream.XAck words = refl
stream_means stream.XPending words = refl

key_means : (name : KeyName) (words : Words) → meant (key_name name ∷ words) ≡ by_own Keys key_rows (key_name name) words
key_means key.Del words = refl
key_means key.Unlink words = refl
key_means key.Exists words = refl
key_means key.Touch words = refl
key_means key.TypeOf words = refl
key_means key.Expire words = refl
key_means key.PExpire words = refl
key_means key.ExpireAt words = refl
key_means key.PExpireAt words = refl
key_means key.Ttl words = refl
key_means key.PTtl words = refl
key_means key.ExpireTime words = refl
key_means key.PExpireTime words = refl
key_means key.Persist words = refl
key_means key.Rename words = refl
key_means key.RenameNx words = refl
key_means key.CopyKey words = refl
key_means key.MoveKey words = refl
key_means key.RandomKey words = refl
key_means key.Object words = refl
key_means key.KeysLike words = refl
key_means key.Scan words = refl

connection_means : (name : ConnectionName) (words : Words) → meant (connection_name name ∷ words) ≡ by_own Connection connection_rows (connection_name name) words
connection_means connection.Ping words = refl
connection_means connection.Echo words = refl
connection_means connection.Quit words = refl
connection_means connection.Select words = refl
connection_means connection.DbSize words = refl
connection_means connection.FlushDb words = refl
connection_means connection.FlushAll words = refl
connection_means connection.Memory words = refl
connection_means connection.Debug words = refl

pub family_means : (name : Name) (words : Words) → meant (name_of name ∷ words) ≡ by_family name words
family_means (names.Strings name) words = string_means name words
family_means (names.Lists name) words = list_means name words
family_means (names.Sets name) words = set_means name words
family_means (names.Hashes name) words = hash_means name words
family_means (names.Zsets name) words = zset_means name words
family_means (names.Streams name) words = stream_means name words
family_means (names.Keys name) words = key_means name words
family_means (names.Connection name) words = connection_means name words

-- a family's command among all commands
pub of_family : {C : Type 0} (family : C → Command) (means : Result Command Refusal) (first : Result C ReadingFault) (answer : Result Command ReadingFault) → ReadsAs family means first
    → MatchResult first (λ a. IsOkAnd answer (λ b. b ≡ family a)) (λ e. answer ≡ Err e) → ReadsAs (λ command. command) means answer
of_family family means (Ok c) (Ok command) h m = h ∙ ap Ok (sym m)
of_family family means (Ok c) (Err fault) h m = absurd m
of_family family means (Err (Refused refusal)) answer h m = subst (ReadsAs (λ command. command) means) (sym m) h
of_family family means (Err Memory) answer h m = subst (ReadsAs (λ command. command) means) (sym m) h
