use Rattle.blocks.proofs.Serve.{served_then}
use Rattle.stream_object.proofs.Clears.{all_released}
use Rattle.stream_object.proofs.stream.Stream.release.Goals as goal

pub release-requires : goal.release-requires
release-requires g c = c.clear.ensures.cleared.parts.stands

pub returns-clause-changes : goal.returns-clause-changes
returns-clause-changes g c =
    all_released (g.B.BlockStore.blocks c.args.store.now) (g.B.BlockStore.blocks c.clear.new.store) (g.B.BlockStore.blocks c.release.new.store) c.args.self.tree c.clear.new.tree
    c.clear.ensures.cleared c.release.ensures.changes

pub returns-clause-served : goal.returns-clause-served
returns-clause-served g c = served_then _ _ _ c.clear.ensures.served c.release.ensures.served
