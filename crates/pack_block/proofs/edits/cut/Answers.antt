use Rattle.std.proofs.Common.{arith}
use Rattle.blocks.proofs.Serve.{served_then}
use Rattle.pack_block.proofs.Edited.{cut_bytes, headed_changes, length_gap, live_gap}
use Rattle.pack_block.proofs.edits.cut.Goals as goal

pub write_header-requires-clause-live : goal.write_header-requires-clause-live
write_header-requires-clause-live g c = live_gap _ _ _ _ _ _ c.in_ok-new.ensures.gap

pub write_header-requires-clause-long : goal.write_header-requires-clause-long
write_header-requires-clause-long g c = omega (arith, c.requires.long, length_gap _ _ _ _ _ _ c.in_ok-new.ensures.gap c.requires.inside)

pub write_header-requires-clause-small : goal.write_header-requires-clause-small
write_header-requires-clause-small g c = omega (arith, c.requires.small, length_gap _ _ _ _ _ _ c.in_ok-new.ensures.gap c.requires.inside)

pub returns-clause-cut : goal.returns-clause-cut
returns-clause-cut g c = cut_bytes _ _ _ _ _ _ _ c.in_ok-new.ensures.gap c.write_header.ensures.written

pub returns-clause-changes : goal.returns-clause-changes
returns-clause-changes g c = headed_changes _ _ _ _ _ _ c.in_ok-new.ensures.changes (live_gap _ _ _ _ _ _ c.in_ok-new.ensures.gap) c.write_header.ensures.written

pub returns-clause-served : goal.returns-clause-served
returns-clause-served g c = served_then _ _ _ c.gap.ensures.served c.write_header.ensures.served
