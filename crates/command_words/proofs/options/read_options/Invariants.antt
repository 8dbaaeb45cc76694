use Rattle.std.proofs.Common.{◌≡◌, ◌≤◌, ◌-◌, length, drop}
use Rattle.plain_model.specs.Shapes.{options_read}
use Rattle.command_words.proofs.options.read_options.Given as goal

-- the options so far, and then the words that are left, say what all of them do
abbrev pub invariant-loop-index : goal.invariant-loop-index
invariant-loop-index g l = (options_read g.O.Options.named l.options 0 (drop l.index l.request) ≡ options_read g.O.Options.named l.fn.none 0 (drop l.from l.request)) × (l.index ≤ length l.request)

abbrev pub decreases-loop-index : goal.decreases-loop-index
decreases-loop-index g l = length l.request - l.index
