use Rattle.blocks.proofs.Sweeps.{calmer_moved}
use Rattle.blocks.proofs.laws.settle.Goals as goal

pub returns-in-Some-clause-calmer : goal.returns-in-Some-clause-calmer
returns-in-Some-clause-calmer g c =
    let moves = c.in-Some.ensures.slabs in
    calmer_moved _ _ c.args.at c.in-Some.new moves ((g.met.B.BlockStore.sound c.args.store.now).filled c.args.at.slab moves.from moves.from_at moves.from_other)
