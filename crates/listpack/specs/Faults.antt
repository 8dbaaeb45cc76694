-- The numbers of the faults.
use Rattle.std.specs.Prelude.{ℕ}
use Rattle.listpack.specs.declared.fault.PackFault.{PackFault}
use Rattle.listpack.specs.declared.fault.PackFault.TheVariants as faults

abbrev pub fault_number : PackFault → ℕ
fault_number faults.Short = 1
fault_number faults.Total = 2
fault_number faults.Entry = 3
fault_number faults.BackLength = 4
fault_number faults.Count = 5
fault_number faults.End = 6
