use Rattle.std.proofs.Common.{◌≡◌, ◌%◌, ◌^◌, length, take}
use Rattle.plain_world.specs.Spelling.{spelling}
use Rattle.resp_frames.proofs.lengths.spelled_len.Given as goal

abbrev pub invariant-loop-part : goal.invariant-loop-part
invariant-loop-part l = l.len ≡ length (spelling (take l.part-index l.part-items)) % 2 ^ 64
