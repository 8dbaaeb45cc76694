use Rattle.blocks.specs.Slabs.{sizes}
use Rattle.blocks.proofs.PlainLemmas.{one_value}
use Rattle.blocks.proofs.plain.PlainStoreBlockStore.use_of.Goals as goal

pub returns-clause-size : goal.returns-clause-size
returns-clause-size c = one_value sizes c.args.class 0 65536 c.requires
