-- Why a list does not begin with the next entry.
use Rattle.std.specs.Prelude.{ℕ, List, Option}
use Rattle.stream_node.specs.declared.id.Id.{Id}
use Rattle.stream_node.specs.declared.fault.NodeFault.{NodeFault}
use Rattle.stream_node.specs.declared.fault.NodeFault.TheVariants as faults
use Rattle.stream_node.specs.Node.{IsBack, LacksEntry}

-- The fault of an entry that is due behind an id: an id that is not above that one stands before whatever is wrong
-- behind it.
abbrev pub IsEntryFault : Id → List (List ℕ) → Option Id → List (List ℕ) → NodeFault → Type 0
IsEntryFault key master before list faults.Shape = LacksEntry key master list × (IsBack key before list → ⊥)
IsEntryFault key master before list faults.Count = ⊥
IsEntryFault key master before list faults.Order = IsBack key before list
