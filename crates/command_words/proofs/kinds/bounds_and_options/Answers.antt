use Rattle.std.proofs.Common.{◌≤◌, length, arith}
use Rattle.plain_model.specs.Shapes.{Bound}
use Rattle.command_words.proofs.TwoAndOptions.{all_told}
use Rattle.command_words.proofs.kinds.bounds_and_options.Goals as goal

pub returns : goal.returns
returns g c =
    let words = c.args.request.now in
    let many : 4 ≤ length words = omega (arith, c.if-len-lt4.false, c.len.ensures.len) in
    rw c.plain.ensures
    (all_told Bound Bound g.O.Options.named c.args.none words many c.in_ok-a.a c.in_ok-b.b c.in_ok-options.options c.in_ok-a.ensures c.in_ok-b.ensures c.in_ok-options.ensures)
