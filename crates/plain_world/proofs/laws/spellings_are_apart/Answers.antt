use Rattle.plain_world.proofs.Apart.{spellings_apart}
use Rattle.plain_world.proofs.laws.spellings_are_apart.Goals as goal

pub returns : goal.returns
returns c = spellings_apart
