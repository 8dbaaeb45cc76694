use Rattle.std.proofs.Common.{◌+◌, ◌<◌, length, ◌∙◌, sym, arith, length-drop}
use Rattle.command_words.proofs.OptionWords.{options_read_on, own_within}
use Rattle.command_words.proofs.options.read_options.Goals as goal

pub loop-index-preserved : goal.loop-index-preserved
loop-index-preserved g c =
    let words = c.args.request.now in
    let i = c.loop-index.index in
    let within : i < length words = omega (arith, c.loop-index-test.true, c.len.ensures.len) in
    let own = own_within g.O.Options.named c.loop-index.options c.in_ok-next.next c.in_ok-next.own words i c.in_ok-next.ensures in (
      sym (options_read_on g.O.Options.named c.loop-index.options c.in_ok-next.next c.in_ok-next.own words i within c.in_ok-next.ensures) ∙ c.loop-index.invariant.0,
      omega (arith, own, within, length-drop (i + 1) words),
    )
