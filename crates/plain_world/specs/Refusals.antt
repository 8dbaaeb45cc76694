-- The texts of error replies (RESP2, "Simple errors").
use Rattle.std.specs.Prelude.{ℕ, List, codes}
use Rattle.plain_world.specs.declared.refusal.Refusal.{Refusal}
use Rattle.plain_world.specs.declared.refusal.Refusal.TheVariants as refusals

abbrev pub refusal_text : Refusal → List ℕ
refusal_text refusals.UnknownCommand = codes "-ERR unknown command"
refusal_text refusals.WrongNumberOfArguments = codes "-ERR wrong number of arguments"
refusal_text refusals.Syntax = codes "-ERR syntax error"
refusal_text refusals.WrongType = codes "-WRONGTYPE Operation against a key holding the wrong kind of value"
refusal_text refusals.NotAnInteger = codes "-ERR value is not an integer or out of range"
refusal_text refusals.Overflow = codes "-ERR increment or decrement would overflow"
refusal_text refusals.NotAScore = codes "-ERR score is not a number"
refusal_text refusals.NotAWholeScore = codes "-ERR score is not a whole number within 2^53"
refusal_text refusals.NoSuchKey = codes "-ERR no such key"
refusal_text refusals.IndexOutOfRange = codes "-ERR index out of range"
refusal_text refusals.InvalidExpireTime = codes "-ERR invalid expire time"
refusal_text refusals.InvalidCursor = codes "-ERR invalid cursor"
refusal_text refusals.InvalidStreamId = codes "-ERR invalid stream ID"
refusal_text refusals.StreamIdNotGreater = codes "-ERR stream ID is not greater than the last ID"
refusal_text refusals.NoGreaterStreamId = codes "-ERR stream has no greater ID"
refusal_text refusals.DatabaseOutOfRange = codes "-ERR DB index is out of range"
refusal_text refusals.ValueOutOfRange = codes "-ERR value is out of range"
refusal_text refusals.SameSourceAndDestination = codes "-ERR source and destination are the same"
refusal_text refusals.GroupExists = codes "-BUSYGROUP consumer group name already exists"
refusal_text refusals.NoSuchGroup = codes "-NOGROUP no such key or consumer group"
refusal_text refusals.NestedMulti = codes "-ERR MULTI calls can not be nested"
refusal_text refusals.ExecAbort = codes "-EXECABORT transaction discarded because of previous errors"
refusal_text refusals.ExecWithoutMulti = codes "-ERR EXEC without MULTI"
refusal_text refusals.DiscardWithoutMulti = codes "-ERR DISCARD without MULTI"
refusal_text refusals.WatchInsideMulti = codes "-ERR WATCH inside MULTI is not allowed"
