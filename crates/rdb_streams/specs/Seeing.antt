-- What is seen of a stream's nodes while they are read.
use Rattle.std.specs.Prelude.{◌≡◌, ℕ, List, [], ◌∷◌, Result, Ok, Err, Option, Some, None, if◌then◌else◌}
use Rattle.blocks.specs.Blocks.{Blocks}
use Rattle.stream_node.specs.declared.id.Id.{Id}
use Rattle.stream_node.specs.Entry.{Stored}
use Rattle.stream_node.specs.Ids.{IsId}
use Rattle.stream_object.specs.declared.stream.Stream.{Stream as Log}
use Rattle.rdb_grammar.specs.declared.fault.ItemFault.{ItemFault}
use Rattle.rdb_grammar.specs.declared.fault.ItemFault.TheVariants as faults
use Rattle.rdb_grammar.specs.declared.fault.LoadKind.{LoadKind}
use Rattle.rdb_grammar.specs.Format.{Format}
use Rattle.rdb_grammar.specs.Places.{Stands, Fails}
use Rattle.rdb_grammar.specs.StreamParts.{Nodes}
use Rattle.rdb_streams.specs.declared.nodes.Seen.{Seen}
use Rattle.rdb_streams.specs.Reading.{HasSeen, so_far}

-- what is seen behind one entry more
abbrev pub seen_more : Seen → Stored → Seen
seen_more seen e = record { before = Some e.id; greatest = if e.deleted then seen.greatest else Some e.id }

-- and behind these
abbrev pub seen_behind : Seen → List Stored → Seen
seen_behind seen [] = seen
seen_behind seen (e ∷ es) = seen_behind (seen_more seen e) es

-- the id, where there is one, is one that code can hold
abbrev pub IsAnId : Option Id → Type 0
IsAnId None = Unit {0}
IsAnId (Some id) = IsId id

-- What is seen is what stands of the nodes so far.
pub record Sees (m : Blocks) (s : Log) (seen : Seen) : Type 0 where
  pub has : HasSeen m s seen.before seen.greatest
  pub fits : IsAnId seen.before

-- A payload was put behind the nodes as a node, as is told; or it is refused as is told, at a place.
abbrev pub PutsNode : Result Nodes LoadKind → ℕ → Blocks → Log → Result Seen ItemFault → Type 0
PutsNode told at m s (Ok seen) = (told ≡ Ok (so_far m s seen.before)) × Sees m s seen
PutsNode told at m s (Err (faults.Refused what place)) = (told ≡ Err what) × (place ≡ at)
PutsNode told at m s (Err faults.Memory) = Unit {0}

-- Nodes were read at a place, up to the next one, and are seen; or they have their first fault there.
abbrev pub ReadsOn : Format Nodes → List ℕ → ℕ → Blocks → Log → Result (ℕ × Seen) ItemFault → Type 0
ReadsOn some bytes at m s (Ok x) = Stands some (so_far m s x.1.before) bytes at x.0 × Sees m s x.1
ReadsOn some bytes at m s (Err (faults.Refused what place)) = Fails some bytes at what place
ReadsOn some bytes at m s (Err faults.Memory) = Unit {0}
