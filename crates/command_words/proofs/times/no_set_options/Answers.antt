use Rattle.std.proofs.Common.{refl}
use Rattle.command_words.proofs.times.no_set_options.Goals as goal

pub returns : goal.returns
returns c = refl
