use Rattle.std.proofs.Common.{◌-◌, ◌<◌, length, arith}
use Rattle.listpack.specs.Pack.{texts}
use Rattle.listpack.proofs.Offsets.{length_texts, offset_end, is_some}
use Rattle.listpack.proofs.walks.Pack.last.Goals as goal

pub before-requires : goal.before-requires
before-requires c =
    let bytes = c.args.self.now.bytes.now in
    let n = length (texts bytes) in
    let some : 0 < n = is_some c.is_empty.result n c.is_empty.ensures.1 c.if-is_empty.false in
    let far = offset_end bytes n c.args.self.now.packed (omega (arith, length_texts bytes)) in
    (n, some, omega arith, omega (arith, far))

pub returns-else-is_empty-clause-place : goal.returns-else-is_empty-clause-place
returns-else-is_empty-clause-place c =
    let bytes = c.args.self.now.bytes.now in
    let n = length (texts bytes) in
    let some : 0 < n = is_some c.is_empty.result n c.is_empty.ensures.1 c.if-is_empty.false in
    let far = offset_end bytes n c.args.self.now.packed (omega (arith, length_texts bytes)) in
    (omega (arith, some), c.before-else-is_empty.ensures n some (omega arith) (omega (arith, far)))

pub returns-else-is_empty-clause-offset : goal.returns-else-is_empty-clause-offset
returns-else-is_empty-clause-offset c = (length (texts c.args.self.now.bytes.now) - 1, returns-else-is_empty-clause-place c)
