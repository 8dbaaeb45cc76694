use Rattle.slab_counts.proofs.Counted.{laws_hold}
use Rattle.slab_counts.proofs.laws.slab_count_laws.Goals as goal

pub returns : goal.returns
returns c = laws_hold
