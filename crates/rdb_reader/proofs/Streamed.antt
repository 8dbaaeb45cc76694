-- Streams, read whole.
use Rattle.std.proofs.Common.{◌≡◌, ℕ, List, Err, ap}
use Rattle.plain_world.specs.Streams.{Stream}
use Rattle.plain_world.specs.Worlds.{Value, StreamOf}
use Rattle.rdb_grammar.specs.declared.fault.ItemFault.{ItemFault}
use Rattle.rdb_grammar.specs.declared.fault.ItemFault.TheVariants as items
use Rattle.rdb_grammar.specs.declared.values.StreamType.{StreamType}
use Rattle.rdb_grammar.specs.StreamParts.{stream}
use Rattle.rdb_streams.specs.Reading.{Reads as StreamReads}
use Rattle.rdb_reader.specs.Building.{Reads}
use Rattle.rdb_reader.specs.Loads.{load_fault}

abbrev stream_in : Stream → Value → Stream
stream_in other (StreamOf s) = s
stream_in other value = other

-- two values that are the same stream
pub same_stream : (a b : Stream) → StreamOf a ≡ StreamOf b → a ≡ b
same_stream a b e = ap (stream_in b) e

-- its fault is that of loading
pub stream_fails : (type : StreamType) (bytes : List ℕ) (at : ℕ) (value : Value) (fault : ItemFault) → StreamReads (stream type) bytes at value (Err fault)
    → Reads (stream type) bytes at value (Err (load_fault fault))
stream_fails type bytes at value (items.Refused which place) f = f
stream_fails type bytes at value items.Memory f = f
