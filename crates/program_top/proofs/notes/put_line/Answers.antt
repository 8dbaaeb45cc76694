use Rattle.std.proofs.Common.{refl}
use Rattle.program_top.proofs.Lines.{line_as}
use Rattle.program_top.proofs.notes.put_line.Goals as goal

pub returns-in-Cut : goal.returns-in-Cut
returns-in-Cut g c = line_as _ _ c.args.ending _ _ _ c.put_all-in-Cut.result c.in-Cut.is refl c.put_all-in-Cut.ensures

pub returns-in-ReadFault : goal.returns-in-ReadFault
returns-in-ReadFault g c = line_as _ _ c.args.ending _ _ _ c.put_all-in-ReadFault.result c.in-ReadFault.is refl c.put_all-in-ReadFault.ensures

pub returns-in-WriteFault : goal.returns-in-WriteFault
returns-in-WriteFault g c = line_as _ _ c.args.ending _ _ _ c.put_all-in-WriteFault.result c.in-WriteFault.is refl c.put_all-in-WriteFault.ensures

pub returns-in-Host : goal.returns-in-Host
returns-in-Host g c = line_as _ _ c.args.ending _ _ _ c.put_all-in-Host.result c.in-Host.is refl c.put_all-in-Host.ensures

pub returns-in-Memory : goal.returns-in-Memory
returns-in-Memory g c = line_as _ _ c.args.ending _ _ _ c.put_all-in-Memory.result c.in-Memory.is refl c.put_all-in-Memory.ensures

pub returns-in-Limit : goal.returns-in-Limit
returns-in-Limit g c = line_as _ _ c.args.ending _ _ _ c.put_all-in-Limit.result c.in-Limit.is refl c.put_all-in-Limit.ensures

pub returns-in-Protocol : goal.returns-in-Protocol
returns-in-Protocol g c = line_as _ _ c.args.ending _ _ _ c.put_numbered_fault.result c.in-Protocol.is refl (rw c.number.ensures at c.put_numbered_fault.ensures)

pub returns-in-Refused : goal.returns-in-Refused
returns-in-Refused g c = line_as _ _ c.args.ending _ _ _ c.put_numbered_fault-in-Refused.result c.in-Refused.is refl (rw c.number-in-Refused.ensures at c.put_numbered_fault-in-Refused.ensures)
