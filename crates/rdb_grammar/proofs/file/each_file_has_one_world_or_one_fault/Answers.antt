use Rattle.rdb_grammar.proofs.OneWorld.{exactly_one}
use Rattle.rdb_grammar.proofs.file.each_file_has_one_world_or_one_fault.Goals as goal

pub returns : goal.returns
returns c = exactly_one
