use Rattle.std.proofs.Common.{◌++◌, ap, ◌∙◌, arith}
use Rattle.cmd_streams.proofs.Told.{entry_told, all_told, taken_told}
use Rattle.cmd_streams.proofs.telling.push_all.Goals as goal

pub returns : goal.returns
returns c =
    all_told entry_told c.args.entries.now c.loop-entry.entry-index c.args.parts.now c.loop-entry.parts (omega (arith, c.loop-entry-test.false)) c.loop-entry.invariant
    ∙ ap (λ l. c.args.parts.now ++ l) (taken_told c.args.entries.now)
