-- The nodes of a stream as they stand in blocks. (Redis, t_stream.c: a radix tree from ids to listpacks of entries.)
use Rattle.std.specs.Prelude.{◌≡◌, ℕ, Bool, ◌<◌, ◌≤◌, not, List, [], ◌∷◌, ◌++◌, length, map}
use Rattle.std.specs.List.{filter, flat_map, AllByRecursion}
use Rattle.blocks.specs.declared.BlockRef.{BlockRef}
use Rattle.blocks.specs.Blocks.{Blocks, Owned, bytes_at}
use Rattle.listpack.specs.Pack.{IsPack, texts}
use Rattle.stream_node.specs.declared.id.Id.{Id}
use Rattle.stream_node.specs.Entry.{Stored}
use Rattle.stream_node.specs.Entries.{IsNode, entries_of}
use Rattle.stream_node.specs.Ids.{IsId, id_number, id_key, key_id}
use Rattle.rax_packed.specs.declared.tree.PackedTree.{PackedTree}
use Rattle.rax_packed.specs.Trees.{Entry}
use Rattle.rax_packed.specs.Maps as rax
use Rattle.plain_world.specs.Streams.{StreamEntry}
use Rattle.stream_object.specs.Block.{Holds}

-- a node: its key, the block that it stands in, and its bytes
pub record Part : Type 0 where
  pub key : Id
  pub at : BlockRef
  pub bytes : List ℕ

abbrev pub part : Id → BlockRef → List ℕ → Part
part key at bytes = record { key = key; at = at; bytes = bytes }

-- the entries of a node, those that are marked deleted among them
abbrev pub stored_in : Part → List Stored
stored_in p = entries_of p.key (texts p.bytes)

abbrev pub is_live : Stored → Bool
is_live e = not e.deleted

-- an entry as it is seen from outside
abbrev pub plain : Stored → StreamEntry
plain e = record { id = (e.id.ms, e.id.seq); pairs = e.pairs }

-- those of these entries that aren't marked deleted
abbrev pub live_of : List Stored → List StreamEntry
live_of es = map plain (filter is_live es)

abbrev pub live_in : Part → List StreamEntry
live_in p = live_of (stored_in p)

-- the entries of some nodes
abbrev pub entries_in : List Part → List StreamEntry
entries_in ps = flat_map live_in ps

-- The bytes are a stream node of this key that has an entry which isn't deleted, and at most 100 entries, each spelled in any
-- way. No node is longer than 536,870,000 bytes.
pub record IsNodeOf (key : Id) (bytes : List ℕ) : Type 0 where
  pub pack : IsPack bytes
  pub node : IsNode key (texts bytes)
  pub some : 0 < length (live_of (entries_of key (texts bytes)))
  pub few : length (entries_of key (texts bytes)) ≤ 100
  pub short : length bytes ≤ 536870000
  pub from : AllByRecursion (λ e. id_number key ≤ id_number e.id) (entries_of key (texts bytes))

-- The node stands in its block, which has exactly its bytes.
pub record IsPart (m : Blocks) (p : Part) : Type 0 where
  pub id : IsId p.key
  pub block : Holds m p.at p.bytes
  pub is_node : IsNodeOf p.key p.bytes

-- all entries of a node are below a later node's key
abbrev pub EndsBefore : Part → Part → Type 0
EndsBefore p q = AllByRecursion (λ e. id_number e.id < id_number q.key) (stored_in p)

-- ids rise across the nodes
abbrev pub Rising : List Part → Type 0
Rising [] = Unit {0}
Rising (p ∷ ps) = AllByRecursion (EndsBefore p) ps × Rising ps

-- how the tree names a node, and what it is then
abbrev pub entry_of : Part → Entry
entry_of p = record { key = id_key p.key; value = p.at }

abbrev pub part_of : Blocks → Entry → Part
part_of m e = record { key = key_id e.key; at = e.value; bytes = bytes_at m e.value }

abbrev pub refs_of : List Part → List BlockRef
refs_of ps = map (λ (p : Part). p.at) ps

-- the nodes that a tree names
unfoldable pub parts_of : Blocks → PackedTree → List Part
parts_of m tree = map (part_of m) (rax.entries_of m tree)

-- the references of a tree's own nodes and of the nodes that it names
unfoldable pub all_refs : Blocks → PackedTree → List BlockRef
all_refs m tree = rax.refs_of m tree ++ map (λ (e : Entry). e.value) (rax.entries_of m tree)

-- A tree of these nodes stands in the blocks, each in a block of its own.
pub record HasParts (m : Blocks) (tree : PackedTree) (ps : List Part) : Type 0 where
  pub stands : rax.IsSound m tree
  pub named : rax.entries_of m tree ≡ map entry_of ps
  pub each : AllByRecursion (IsPart m) ps
  pub rising : Rising ps
  pub owned : Owned (rax.refs_of m tree ++ refs_of ps) m
