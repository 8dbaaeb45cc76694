-- What contracts see of a stream over a store.
use Rattle.std.specs.Prelude.{◌≡◌, ℕ, Bool, not, ◌+◌, ◌*◌, ◌%◌, ◌^◌, ◌<◌, ◌≤◌, List, [], ◌∷◌, ◌++◌, length, drop, map, sum_by, if◌then◌else◌}
use Rattle.std.specs.List.{AllByRecursion, filter, list_any}
use Rattle.std.specs.Ordering.{is_lt, is_eq}
use Rattle.stream_groups.specs.Groups.{id_cmp}
use Rattle.listpack.specs.Pack.{texts}
use Rattle.stream_node.specs.Entries.{entries_of}
use Rattle.blocks.specs.declared.BlockRef.{BlockRef}
use Rattle.blocks.specs.Blocks.{Blocks, Changes}
use Rattle.stream_node.specs.declared.id.Id.{Id}
use Rattle.stream_node.specs.Entry.{Pair, Stored, IsBelow}
use Rattle.stream_node.specs.Ids.{IsId, id_number, key_id}
use Rattle.rax_packed.specs.Trees.{Entry, Mark}
use Rattle.rax_packed.specs.Maps as rax
use Rattle.rax_packed.specs.declared.tree.PackedTree.{PackedTree}
use Rattle.plain_world.specs.Streams.{Stream, StreamEntry}
use Rattle.stream_object.specs.declared.stream.Stream.{Stream as Log}
use Rattle.stream_object.specs.declared.fault.AddFault.{AddFault}
use Rattle.stream_object.specs.declared.fault.AddFault.TheVariants as faults
use Rattle.stream_object.specs.Parts.{Part, stored_in, plain, live_of, entries_in, parts_of, all_refs, HasParts}
use Rattle.stream_object.specs.Found.{Stands, Exchanges}
use Rattle.stream_object.specs.Node.{put, IsAt}
use Rattle.stream_object.specs.declared.tail.Tail.{Tail}
use Rattle.stream_object.specs.Tail.{IsTail, IsKept}

abbrev pub nodes : Blocks → Log → List Part
nodes m s = parts_of m s.tree

-- the entries that are seen, by rising ids
abbrev pub entries : Blocks → Log → List StreamEntry
entries m s = entries_in (nodes m s)

-- the references that the stream owns: those of its tree's nodes, and of its own
abbrev pub refs : Blocks → Log → List BlockRef
refs m s = all_refs m s.tree

-- a mark for each of them: for a node of the tree the least key below it, for another its own key, as a number
abbrev pub marks : Blocks → Log → List ℕ
marks m s =
    map (λ (n : Mark). id_number (key_id n.least)) (rax.marks_of m s.tree)
    ++ map (λ (e : Entry). id_number (key_id e.key)) (rax.entries_of m s.tree)

-- its value (Redis command reference, data type Streams)
abbrev pub stream_of : Blocks → Log → Stream
stream_of m s = record {
  entries = entries m s;
  last = (s.last.ms, s.last.seq);
  deleted = (s.deleted.ms, s.deleted.seq);
  added = s.added;
  groups = s.groups;
}

-- all entries of the nodes, deleted ones among them, have ids up to this one
abbrev pub AreUpto : Id → List Part → Type 0
AreUpto id ps = AllByRecursion (λ p. AllByRecursion (λ e. id_number e.id ≤ id_number id) (stored_in p)) ps

-- the same, and below it
abbrev pub AreBelow : Id → List Part → Type 0
AreBelow id ps = AllByRecursion (λ p. AllByRecursion (λ e. id_number e.id < id_number id) (stored_in p)) ps

-- The stream owns its blocks, which hold its nodes, and has so many entries as it counts. The last node that it keeps is that.
pub record IsStream (m : Blocks) (s : Log) : Type 0 where
  pub parts : HasParts m s.tree (nodes m s)
  pub counted : s.len ≡ length (entries m s)
  pub fits : IsId s.last
  pub upto : AreUpto s.last (nodes m s)
  pub kept : IsKept (nodes m s) s.tail

-- The stream has this value now, over the blocks that it owns.
pub record IsChanged (m after : Blocks) (old new : Log) (value : Stream) : Type 0 where
  pub is_stream : IsStream after new
  pub value_is : stream_of after new ≡ value
  pub changes : Changes m after (refs m old) (refs after new)

-- the value with one entry more, as the last one
abbrev pub appended : Stream → Id → List Pair → Stream
appended s id pairs = record {
  entries = s.entries ++ plain (put id pairs) ∷ [];
  last = (id.ms, id.seq);
  deleted = s.deleted;
  added = s.added;
  groups = s.groups;
}

-- the same for an entry that is added, and so counted
abbrev pub added : Stream → Id → List Pair → Stream
added s id pairs = record (appended s id pairs) { added = (s.added + 1) % 2 ^ 64 }

-- an id as a pair of numbers
abbrev pub pair_of : Id → ℕ × ℕ
pair_of id = (id.ms, id.seq)

-- whether an entry has an id
abbrev pub has_id : ℕ × ℕ → StreamEntry → Bool
has_id id e = is_eq (id_cmp e.id id)

-- the greater of two ids
abbrev pub greater : ℕ × ℕ → ℕ × ℕ → ℕ × ℕ
greater a b = if is_lt (id_cmp a b) then b else a

-- the value without the entry of an id, where there is one
abbrev pub without : Stream → Id → Stream
without s id =
    if list_any (has_id (pair_of id)) s.entries
    then record s {
      entries = filter (λ e. not (has_id (pair_of id) e)) s.entries;
      deleted = greater s.deleted (pair_of id);
    }
    else s

-- the value without its first entries
abbrev pub dropping : Stream → ℕ → Stream
dropping s n = record s { entries = drop n s.entries }

-- as many fields and values, of as many bytes, as an entry may have that is added
pub record IsAddable (pairs : List Pair) : Type 0 where
  pub some : 0 < length pairs
  pub few : 2 * length pairs ≤ 1048576
  pub short : sum_by (λ (p : Pair). length p.0 + length p.1) pairs ≤ 524288000

-- why an entry isn't added: its id isn't above the last one; or, where it is, for want of memory alone
abbrev pub Refuses : Id → Id → AddFault → Type 0
Refuses last id (faults.NotAbove told) = (told ≡ last) × (IsBelow last id → ⊥)
Refuses last id faults.Memory = IsBelow last id

-- The nodes of a tree have one entry more, behind all others, and this is the last of them.
pub record Grows (m after : Blocks) (old new : PackedTree) (id : Id) (pairs : List Pair) (tail : Tail) : Type 0 where
  pub parts : List Part
  pub exchanges : Exchanges m after old new parts
  pub entries_are : entries_in parts ≡ entries_in (parts_of m old) ++ plain (put id pairs) ∷ []
  pub upto : AreUpto id parts
  pub ends : IsTail parts tail

-- The nodes of a tree have lost what stood among them, but for these entries. Those behind stay as they are.
pub record TakesOut (m after : Blocks) (old new : PackedTree) (before behind : List Part) (left : List StreamEntry)
    : Type 0 where
  pub parts : List Part
  pub exchanges : Exchanges m after old new parts
  pub entries_are : entries_in parts ≡ entries_in before ++ (left ++ entries_in behind)
  pub upto : (id : Id) → AreUpto id (parts_of m old) → AreUpto id parts
  pub front : List Part
  pub stays : parts ≡ front ++ behind

-- An entry of the node that stands there has gone.
abbrev pub Loses : Blocks → Blocks → PackedTree → PackedTree → Id → BlockRef → ℕ → Type 0
Loses m after old new key at index =
    (s : Stands (parts_of m old) key at) (e : Stored) (place : IsAt (entries_of key (texts s.bytes)) index e)
    → TakesOut m after old new s.before s.after (live_of (place.before ++ place.after))
