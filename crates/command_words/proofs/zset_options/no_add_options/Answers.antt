use Rattle.std.proofs.Common.{refl}
use Rattle.command_words.proofs.zset_options.no_add_options.Goals as goal

pub returns : goal.returns
returns c = refl
