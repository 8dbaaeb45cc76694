use Rattle.std.proofs.Common.{◌≡◌, ◌++◌, take}
use Rattle.plain_world.specs.Spelling.{spelling}
use Rattle.serving.specs.Output.{pending_bytes}
use Rattle.serving.proofs.writing.gather_reply.Given as goal

abbrev pub invariant-loop-part : goal.invariant-loop-part
invariant-loop-part l = pending_bytes l.pending ≡ pending_bytes l.fn.pending ++ spelling (take l.part-index l.part-items)
