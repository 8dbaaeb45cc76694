use Rattle.std.proofs.Common.{length, sym, ap, subst, arith}
use Rattle.listpack.specs.Pack.{texts}
use Rattle.quicklist.specs.Nodes.{IsPacked}
use Rattle.quicklist.proofs.taking.standing.Goals as goal

pub returns-then-size-gt-PACKED_BYTES-clause-none : goal.returns-then-size-gt-PACKED_BYTES-clause-none
returns-then-size-gt-PACKED_BYTES-clause-none c = λ p. omega (arith, p.short, c.if-size-gt-PACKED_BYTES.true, ap length c.bytes-bytes.ensures.value)

pub returns-then-is_written-clause-packed : goal.returns-then-is_written-clause-packed
returns-then-is_written-clause-packed c =
    let same = c.bytes-bytes.ensures.value in
    let whole : IsPacked c.args.pack.now.bytes.now = record {
      pack = c.args.pack.now.packed;
      written = c.is_written.ensures.0 c.if-is_written.true;
      short = omega (arith, c.if-size-gt-PACKED_BYTES.false, ap length same);
    } in
    subst IsPacked (sym same) whole

pub returns-then-is_written-clause-list : goal.returns-then-is_written-clause-list
returns-then-is_written-clause-list c = ap texts c.bytes-bytes.ensures.value

pub returns-else-is_written-clause-none : goal.returns-else-is_written-clause-none
returns-else-is_written-clause-none c = λ p. let t = c.is_written.ensures.1 p.written in let f = c.if-is_written.false in let never : ⊥ = cc in never
