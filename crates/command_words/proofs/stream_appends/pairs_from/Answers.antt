use Rattle.std.proofs.Common.{◌+◌, ◌*◌, ◌++◌, Ok, ap, sym, ◌∙◌, append-nil, drop, length-drop, arith}
use Rattle.command_words.proofs.Told.{no_pairs}
use Rattle.command_words.proofs.stream_appends.pairs_from.Goals as goal

pub returns : goal.returns
returns c =
    let words = c.args.request.now in
    let place = c.args.from + 2 * c.loop-index.index in
    let none = no_pairs (drop place words) (omega (arith, c.loop-index-test.false, c.len.ensures.len, length-drop place words)) in
    ap Ok (sym c.loop-index.invariant ∙ ap (λ l. c.loop-index.list ++ l) none ∙ append-nil c.loop-index.list)
