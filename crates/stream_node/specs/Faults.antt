-- The numbers of the faults.
use Rattle.std.specs.Prelude.{ℕ}
use Rattle.stream_node.specs.declared.fault.NodeFault.{NodeFault}
use Rattle.stream_node.specs.declared.fault.NodeFault.TheVariants as faults

abbrev pub fault_number : NodeFault → ℕ
fault_number faults.Shape = 1
fault_number faults.Count = 2
fault_number faults.Order = 3
