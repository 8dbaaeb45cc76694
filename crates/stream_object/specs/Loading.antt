-- Nodes of a file, put behind a stream's entries. (RDB: per node a key, which is an id, and a listpack of entries.)
use Rattle.std.specs.Prelude.{◌≡◌, false, ℕ, ◌≤◌, List, [], ◌∷◌, ◌++◌, length}
use Rattle.std.specs.List.{AllByRecursion}
use Rattle.listpack.specs.Pack.{IsPack, texts}
use Rattle.stream_node.specs.declared.id.Id.{Id}
use Rattle.stream_node.specs.Entry.{Stored}
use Rattle.stream_node.specs.Entries.{IsNode}
use Rattle.stream_node.specs.Ids.{id_number}
use Rattle.plain_world.specs.Streams.{Stream}
use Rattle.stream_object.specs.Parts.{Part, live_of}
use Rattle.stream_object.specs.Streams.{AreBelow, pair_of}

-- The bytes are a stream node of this key, with any number of entries, each spelled in any way. No node of a file is
-- longer than 536,870,000 bytes.
pub record IsFileNode (key : Id) (bytes : List ℕ) : Type 0 where
  pub pack : IsPack bytes
  pub node : IsNode key (texts bytes)
  pub short : length bytes ≤ 536870000

-- the id of the last of these entries, marked deleted or not; where there is none, this one
abbrev pub last_of : ℕ × ℕ → List Stored → ℕ × ℕ
last_of last [] = last
last_of last (e ∷ es) = last_of (pair_of e.id) es

-- the value with these entries behind its own, but for those that are marked deleted. As ids rise, its last id is the
-- greatest of them all.
abbrev pub loaded : Stream → List Stored → Stream
loaded s es = record s { entries = s.entries ++ live_of es; last = last_of s.last es }

-- each of these entries is above all entries of the nodes
abbrev pub AreAbove : List Part → List Stored → Type 0
AreAbove ps es = AllByRecursion (λ e. AreBelow e.id ps) es

-- those of these entries that aren't marked deleted have ids up to this one
abbrev pub AreLiveUpto : Id → List Stored → Type 0
AreLiveUpto id es = AllByRecursion (λ e. e.deleted ≡ false → id_number e.id ≤ id_number id) es
