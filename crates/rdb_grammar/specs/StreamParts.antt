-- Streams of a file, part by part (RDB_TYPE_STREAM_LISTPACKS and its two later versions in `rdb.c` of Redis 7.2: what
-- `rdbSaveObject` writes of a stream, `rdbSaveStreamPEL` of pending entries, `rdbSaveStreamConsumers` of consumers).
use Rattle.std.specs.Prelude.{ℕ, Bool, true, false, not, List, [], ◌∷◌, ◌++◌, length, map, Result, Ok, Err, Option, Some, None, is_none, nat_le, ◌==◌, if◌then◌else◌}
use Rattle.std.specs.Int.{w64}
use Rattle.std.specs.List.{filter, list_all}
use Rattle.std.specs.Ordering.{is_lt}
use Rattle.std.specs.FinMap as map
use Rattle.std.specs.FinMap.{FinMap, get, insert, remove}
use Rattle.stream_node.specs.declared.id.Id.{Id as NodeId}
use Rattle.stream_node.specs.Entry.{Stored}
use Rattle.stream_node.specs.Ids.{key_id}
use Rattle.stream_groups.specs.Groups.{Id, Group, Groups, id_cmp, new_group, has_consumer, with_pending, with_consumer as with_name}
use Rattle.plain_world.specs.Streams.{StreamEntry}
use Rattle.plain_world.specs.Worlds.{Value, StreamOf}
use Rattle.rdb_grammar.specs.declared.fault.LoadKind.{LoadKind}
use Rattle.rdb_grammar.specs.declared.fault.LoadKind.TheVariants as kinds
use Rattle.rdb_grammar.specs.declared.values.StreamType.{StreamType}
use Rattle.rdb_grammar.specs.declared.values.StreamType.TheVariants as types
use Rattle.rdb_grammar.specs.Format.{Format, Payload, give, some_bytes, followed, checked, in_turn, told, refined, inside}
use Rattle.rdb_grammar.specs.Lengths.{number, number_le, a_length}
use Rattle.rdb_grammar.specs.Strings.{Head, Len, Num, head, body, string}
use Rattle.rdb_grammar.specs.Payloads.{texts_in}
use Rattle.rdb_grammar.specs.StreamNodes.{node_in}

-- ---- what parts are made of

-- an id: milliseconds and sequence number as two lengths, or each in eight bytes, the highest first
abbrev pub two_lengths : Format Id
two_lengths = followed a_length λ ms. followed a_length λ seq. give (ms, seq)

abbrev pub sixteen_bytes : Format Id
sixteen_bytes = followed (number w64) λ ms. followed (number w64) λ seq. give (ms, seq)

-- a length, and so many parts one behind the other
abbrev pub counted : {S : Type 0} → (S → Format S) → S → Format S
counted one made = followed a_length λ n. in_turn one n made

-- a part that isn't used, where it is there
abbrev pub unused : {A : Type 0} → Bool → Format A → Format (Unit {0})
unused true one = followed one λ x. give tt
unused false one = give tt

-- the second type has more marks than the first, and the third when a consumer was active
abbrev pub has_marks : StreamType → Bool
has_marks types.First = false
has_marks types.Second = true
has_marks types.Third = true

abbrev pub has_active : StreamType → Bool
has_active types.First = false
has_active types.Second = false
has_active types.Third = true

-- ---- nodes

-- what nodes hold: the entries that aren't marked deleted, and the id of the last one, marked or not
pub record Nodes : Type 0 where
  pub entries : List StreamEntry
  pub last : Option NodeId

abbrev pub no_nodes : Nodes
no_nodes = record { entries = []; last = None }

-- a node's key: a string of sixteen bytes
abbrev pub node_key : Format NodeId
node_key = followed (checked kinds.StreamShape 0 (λ text. length text == 16) string) λ text. give (key_id text)

-- the greatest length of a node, in bytes
abbrev pub longest_node : ℕ
longest_node = 536870000

-- the string of a node has the greatest length of one at most
abbrev pub is_node_short : Head → Bool
is_node_short (Len n) = nat_le n longest_node
is_node_short (Num w) = true

abbrev pub node_head : Format Head
node_head = checked kinds.TooLong 0 is_node_short head

abbrev pub node_string : Format (List ℕ)
node_string = followed node_head body

-- the entries of a string that is a stream node's listpack
abbrev pub stored_in : NodeId → Payload (List ℕ) (List Stored)
stored_in key = refined texts_in (node_in key)

-- an entry as it is seen from outside
abbrev pub plain : Stored → StreamEntry
plain e = record { id = (e.id.ms, e.id.seq); pairs = e.pairs }

-- those of these entries that aren't marked deleted
abbrev pub live_of : List Stored → List StreamEntry
live_of es = map plain (filter (λ (e : Stored). not e.deleted) es)

-- the id of the last of these entries, or the one before them
abbrev pub last_of : Option NodeId → List Stored → Option NodeId
last_of before [] = before
last_of before (e ∷ es) = last_of (Some e.id) es

-- the first of these entries has an id above the one before it; as ids rise inside a node, each of them has
abbrev pub is_above : Option NodeId → List Stored → Bool
is_above None es = true
is_above (Some last) [] = true
is_above (Some last) (e ∷ es) = is_lt (id_cmp (last.ms, last.seq) (e.id.ms, e.id.seq))

-- the entries of one node more
abbrev pub more_entries : Nodes → List Stored → Nodes
more_entries made es = record { entries = made.entries ++ live_of es; last = last_of made.last es }

abbrev pub with_entries : Nodes → List Stored → Result Nodes LoadKind
with_entries made es = if is_above made.last es then Ok (more_entries made es) else Err kinds.StreamShape

-- what a string is behind other nodes, as the node of a key
abbrev pub node_on : NodeId → Nodes → Payload (List ℕ) Nodes
node_on key made = refined (stored_in key) (told (with_entries made))

abbrev pub with_node : Nodes → Format Nodes
with_node made = followed node_key λ key. inside node_string (node_on key made)

-- ---- marks

-- the last id, the greatest deleted one, and how many entries were added
pub record Marks : Type 0 where
  pub last : Id
  pub deleted : Id
  pub added : ℕ

-- how many entries there are: so many
abbrev pub entry_count : ℕ → Format ℕ
entry_count live = checked kinds.StreamShape 0 (λ n. n == live) a_length

-- the last id, which passes a test; a fault of it stands at its first length, and both are read before
abbrev pub last_id : (Id → Bool) → Format Id
last_id test = checked kinds.StreamShape 0 test two_lengths

-- no entry is above the id
abbrev pub is_upto : List StreamEntry → Id → Bool
is_upto entries last = list_all (λ (e : StreamEntry). not (is_lt (id_cmp last e.id))) entries

-- the id isn't below another one, where there is one
abbrev pub is_from : Option NodeId → Id → Bool
is_from None last = true
is_from (Some id) last = not (is_lt (id_cmp last (id.ms, id.seq)))

-- The first id, which isn't used, the greatest deleted one, and the number added. Where they aren't there, none was deleted,
-- and all that are there were added.
abbrev pub marks_behind : Bool → ℕ → Id → Format Marks
marks_behind false count last = give (record { last = last; deleted = (0, 0); added = count })
marks_behind true count last =
    followed two_lengths λ first. followed two_lengths λ deleted. followed a_length λ added.
    give (record { last = last; deleted = deleted; added = added })

-- the marks of a stream with so many entries and such a last id
abbrev pub marks_with : StreamType → ℕ → (Id → Bool) → Format Marks
marks_with type live test =
    followed (entry_count live) λ count. followed (last_id test) λ last. marks_behind (has_marks type) count last

-- the marks of a stream: its number of entries is that of those which aren't deleted, and none of them is above its last id
abbrev pub marks : StreamType → List StreamEntry → Format Marks
marks type entries = marks_with type (length entries) (is_upto entries)

-- ---- groups

-- A group as it is read: its consumers so far, with what is pending for them; and what is pending for none yet, each id with
-- its moment and its count.
pub record Begun : Type 0 where
  pub group : Group
  pub unclaimed : FinMap id_cmp (ℕ × ℕ)

-- a group's name, which no group before it has
abbrev pub group_name : Groups → Format (List ℕ)
group_name groups = checked kinds.Group 0 (λ name. is_none (get groups name)) string

-- the last id that it handed out, and how many entries it read, which isn't used
abbrev pub group_last : StreamType → Format Id
group_last type = followed two_lengths λ last. followed (unused (has_marks type) a_length) λ read. give last

-- a group without a consumer, and with nothing pending
abbrev pub begun : Id → Begun
begun last = record { group = new_group last; unclaimed = map.empty }

-- at which moment a pending entry was handed out, lowest byte first, and how often
abbrev pub handed : Format (ℕ × ℕ)
handed = followed (number_le w64) λ moment. followed a_length λ count. give (moment, count)

-- the id of a pending entry, which none before it has
abbrev pub pending_id : Begun → Format Id
pending_id made = checked kinds.Group 0 (λ id. is_none (get made.unclaimed id)) sixteen_bytes

-- one pending entry more
abbrev pub with_unclaimed : Begun → Format Begun
with_unclaimed made =
    followed (pending_id made) λ id. followed handed λ how.
    give (record { group = made.group; unclaimed = insert made.unclaimed id how })

-- what is pending for a consumer now, where it was for none
abbrev pub claimed : List ℕ → Begun → Id → Option (ℕ × ℕ) → Begun
claimed consumer made id None = made
claimed consumer made id (Some handed) = record {
  group = with_pending id (record { consumer = consumer; moment = handed.0; count = handed.1 }) made.group;
  unclaimed = remove made.unclaimed id;
}

-- the id of an entry that is pending, and for no consumer yet
abbrev pub claimed_id : Begun → Format Id
claimed_id made = checked kinds.Group 0 (λ id. not (is_none (get made.unclaimed id))) sixteen_bytes

-- one id more that is pending for a consumer
abbrev pub with_claim : List ℕ → Begun → Format Begun
with_claim consumer made =
    followed (claimed_id made) λ id. give (claimed consumer made id (get made.unclaimed id))

-- a consumer's name, which none before it in the group has
abbrev pub consumer_name : Group → Format (List ℕ)
consumer_name group = checked kinds.Group 0 (λ name. not (has_consumer name group)) string

-- when a consumer was seen, and when it was active, which isn't used
abbrev pub times : StreamType → Format (Unit {0})
times type = followed (some_bytes 8) λ seen. unused (has_active type) (some_bytes 8)

-- one consumer more, with the ids that are pending for it
abbrev pub with_consumer : StreamType → Begun → Format Begun
with_consumer type made =
    followed (consumer_name made.group) λ name. followed (times type) λ seen.
    counted (with_claim name) (record { group = with_name name made.group; unclaimed = made.unclaimed })

-- a group with its name
abbrev pub named_group : StreamType → Groups → Format (List ℕ × Begun)
named_group type groups =
    followed (group_name groups) λ name. followed (group_last type) λ last.
    followed (counted with_unclaimed (begun last)) λ pending. followed (counted (with_consumer type) pending) λ made.
    give (name, made)

-- each pending entry is pending for a consumer
abbrev pub is_claimed : List ℕ × Begun → Bool
is_claimed g = map.len g.1.unclaimed == 0

-- one group more; where a pending entry has no consumer, the fault stands at the group's name
abbrev pub with_group : StreamType → Groups → Format Groups
with_group type groups =
    followed (checked kinds.Group 0 is_claimed (named_group type groups)) λ g. give (insert groups g.0 g.1.group)

-- ---- the stream

abbrev pub stream : StreamType → Format Value
stream type =
    followed (counted with_node no_nodes) λ nodes. followed (marks type nodes.entries) λ marks.
    followed (counted (with_group type) map.empty) λ groups.
    give (StreamOf (record {
      entries = nodes.entries;
      last = marks.last;
      deleted = marks.deleted;
      added = marks.added;
      groups = groups;
    }))
