use Rattle.std.proofs.Common.{◌≡◌, ◌++◌, take, length, flat_map}
use Rattle.std.specs.Fmt.{decimal}
use Rattle.resp_frames.specs.Frames.{header, bulk}
use Rattle.request_queue.proofs.spelled.spell_request.Given as goal

abbrev pub invariant-loop-index : goal.invariant-loop-index
invariant-loop-index l = l.bytes.items ≡ header 42 (decimal (length l.request)) ++ flat_map bulk (take l.index l.request)
