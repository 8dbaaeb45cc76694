use Rattle.listpack.proofs.ReadBack.{spelled}
use Rattle.listpack.proofs.spelling.spelling_is_read_back.Goals as goal

pub returns : goal.returns
returns c = spelled
