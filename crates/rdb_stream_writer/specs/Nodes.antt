-- The bytes of a stream's nodes (`rdb.c` of Redis 7.2: what `rdbSaveObject` writes of a stream's nodes).
use Rattle.std.specs.Prelude.{ℕ, Bool, List, ◌++◌, Option, Some, None, nat_lt}
use Rattle.std.specs.List.{filter}
use Rattle.stream_node.specs.declared.id.Id.{Id}
use Rattle.stream_node.specs.Ids.{id_number, id_key}
use Rattle.stream_object.specs.Parts.{Part}
use Rattle.rdb_parts.specs.Words.{string_word}

-- a node: its key, a string of sixteen bytes, and a string of its bytes as they stand
abbrev pub node_word : Part → List ℕ
node_word p = string_word (id_key p.key) ++ string_word p.bytes

-- what is told of a node: its key and its bytes
abbrev pub told : Part → Id × List ℕ
told p = (p.key, p.bytes)

-- whether a node's key is above another one
abbrev pub is_behind : Id → Part → Bool
is_behind key p = nat_lt (id_number key) (id_number p.key)

-- the nodes behind one of a key, or all
abbrev pub behind : Option Id → List Part → List Part
behind None ps = ps
behind (Some key) ps = filter (is_behind key) ps
