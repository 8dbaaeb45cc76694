use Rattle.std.proofs.Common.{arith, ◌<◌, get_or}
use Rattle.std.proofs.lemmas.Grind.{common_steps}
use Rattle.std.proofs.Math.Seq.{take-length}
use Rattle.std.proofs.lemmas.Str.{lead_after_ascii}
use Rattle.row_words.proofs.bytes_of.Goals as goal

pub range_from-requires : goal.range_from-requires
range_from-requires c = λ below.
    let word = c.args.word.now in
    let star : get_or word 1 0 < 128 = grind (arith, common_steps) in
    rw (take-length word) (omega (arith, c.as_bytes-bytes.ensures.len), λ within high. lead_after_ascii word 1 c.utf8.word star within high)
