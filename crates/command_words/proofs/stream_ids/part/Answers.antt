use Rattle.command_words.proofs.Told.{part_is}
use Rattle.command_words.proofs.stream_ids.part.Goals as goal

pub returns : goal.returns
returns c = part_is c.args.text.now c.read_u64.result c.read_u64.ensures
