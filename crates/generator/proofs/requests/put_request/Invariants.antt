use Rattle.std.proofs.Common.{◌≡◌, ◌++◌, take, map, length, flat_map}
use Rattle.std.specs.Fmt.{decimal}
use Rattle.resp_frames.specs.Frames.{header, bulk}
use Rattle.generator.specs.Requests.{word_bytes}
use Rattle.generator.proofs.requests.put_request.Given as goal

abbrev pub invariant-loop-word : goal.invariant-loop-word
invariant-loop-word l = l.bytes.items ≡ header 42 (decimal (length l.words)) ++ flat_map bulk (map word_bytes (take l.word-index l.words))
