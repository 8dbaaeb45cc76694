-- What the reading of a stream's parts leads to.
use Rattle.std.specs.Prelude.{◌≡◌, ℕ, List, [], Result, Ok, Err, Option, Some, None}
use Rattle.blocks.specs.Blocks.{Blocks}
use Rattle.stream_node.specs.declared.id.Id.{Id}
use Rattle.plain_world.specs.Streams.{StreamEntry}
use Rattle.stream_object.specs.declared.stream.Stream.{Stream as Log}
use Rattle.stream_object.specs.Parts.{Part}
use Rattle.stream_object.specs.Streams.{AreUpto, IsStream, entries, nodes}
use Rattle.rdb_grammar.specs.declared.fault.ItemFault.{ItemFault}
use Rattle.rdb_grammar.specs.declared.fault.ItemFault.TheVariants as faults
use Rattle.rdb_grammar.specs.Format.{Format}
use Rattle.rdb_grammar.specs.Places.{Stands, Fails}
use Rattle.rdb_grammar.specs.StreamParts.{Nodes, counted, with_node, no_nodes, is_upto, is_from}

-- A part was read at a place, and says this, up to the next place; or it has its first fault there. Memory alone is wanted
-- freely, and what was made then is not said.
abbrev pub Reads : {A : Type 0} → Format A → List ℕ → ℕ → A → Result ℕ ItemFault → Type 0
Reads one bytes at made (Ok next) = Stands one made bytes at next
Reads one bytes at made (Err (faults.Refused what place)) = Fails one bytes at what place
Reads one bytes at made (Err faults.Memory) = Unit {0}

-- no entry of the nodes is above the id; and without one there is no node
abbrev pub Covers : Option Id → List Part → Type 0
Covers None ps = ps ≡ []
Covers (Some id) ps = AreUpto id ps

-- an id is above none of the entries exactly where it isn't below this one
abbrev pub IsGreatest : List StreamEntry → Option Id → Type 0
IsGreatest entries greatest = (last : ℕ × ℕ) → is_upto entries last ≡ is_from greatest last

-- What stands of nodes so far: the id of the last entry, marked deleted or not, and the greatest one of those that aren't.
pub record HasSeen (m : Blocks) (s : Log) (before greatest : Option Id) : Type 0 where
  pub is_stream : IsStream m s
  pub behind : Covers before (nodes m s)
  pub covered : Covers greatest (nodes m s)
  pub is_greatest : IsGreatest (entries m s) greatest

-- the nodes of a stream, so far
abbrev pub so_far : Blocks → Log → Option Id → Nodes
so_far m s before = record { entries = entries m s; last = before }

-- The nodes of a stream were read at a place, up to the next one, and what they hold is seen.
abbrev pub ReadsNodes : List ℕ → ℕ → Blocks → Log → Result (ℕ × Option Id) ItemFault → Type 0
ReadsNodes bytes at m s (Ok x) =
    (before : Option Id) × Stands (counted with_node no_nodes) (so_far m s before) bytes at x.0 × HasSeen m s before x.1
ReadsNodes bytes at m s (Err (faults.Refused what place)) = Fails (counted with_node no_nodes) bytes at what place
ReadsNodes bytes at m s (Err faults.Memory) = Unit {0}
