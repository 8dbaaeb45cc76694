use Rattle.std.proofs.Common.{◌≡◌, Ok}
use Rattle.std.proofs.lemmas.Fmt.{parse-decimal}
use Rattle.row_text.proofs.number.Goals as goal

pub returns : goal.returns
returns c = λ n h e.
    let read : c.parse.result ≡ Ok n = parse-decimal 64 n c.args.word.now c.parse.result h h e c.parse.ensures.value.0 in
    cc (read, c.unwrap_or.ensures)
