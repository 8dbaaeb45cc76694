use Rattle.listpack.proofs.Laws.{exactly_one}
use Rattle.listpack.proofs.checking.exactly_one.Goals as goal

pub returns : goal.returns
returns c = exactly_one
