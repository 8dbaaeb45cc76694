-- Nodes of a file that may stand in a stream as they are.
use Rattle.std.specs.Prelude.{◌≡◌, ℕ, ◌≤◌, false, List}
use Rattle.std.specs.List.{AllByRecursion}
use Rattle.listpack.specs.Pack.{texts}
use Rattle.stream_node.specs.declared.id.Id.{Id}
use Rattle.stream_node.specs.Entry.{Stored}
use Rattle.stream_node.specs.Entries.{entries_of}
use Rattle.stream_node.specs.Ids.{id_number}
use Rattle.stream_object.specs.Loading.{last_of}
use Rattle.stream_object.specs.Parts.{IsNodeOf}
use Rattle.stream_object.specs.Streams.{pair_of}

-- an entry isn't marked deleted, and isn't below its node's key
abbrev pub MayStand : Id → Stored → Type 0
MayStand key e = (e.deleted ≡ false) × (id_number key ≤ id_number e.id)

-- The bytes are a node of this key as the stream has them, no entry of which is marked deleted, and this is the id of the
-- last one.
pub record MayStandWhole (key : Id) (bytes : List ℕ) (last : Id) : Type 0 where
  pub is_node : IsNodeOf key bytes
  pub live : AllByRecursion (λ e. e.deleted ≡ false) (entries_of key (texts bytes))
  pub last_is : pair_of last ≡ last_of (pair_of key) (entries_of key (texts bytes))
