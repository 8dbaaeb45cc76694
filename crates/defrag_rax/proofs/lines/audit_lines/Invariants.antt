use Rattle.std.proofs.Common.{◌≡◌, take, flat_map}
use Rattle.defrag_rax.specs.Lines.{row_line}
use Rattle.defrag_rax.proofs.lines.audit_lines.Given as goal

abbrev pub invariant-loop-row : goal.invariant-loop-row
invariant-loop-row l = l.text.items ≡ flat_map row_line (take l.row-index l.rows)
