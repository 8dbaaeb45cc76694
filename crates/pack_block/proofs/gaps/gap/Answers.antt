use Rattle.blocks.specs.Blocks.{no_step}
use Rattle.blocks.proofs.Serve.{served_then}
use Rattle.pack_block.proofs.Blocks.{gap_there}
use Rattle.pack_block.proofs.gaps.gap.Goals as goal

pub returns-then-size-room-clause-gap : goal.returns-then-size-room-clause-gap
returns-then-size-room-clause-gap g c =
    gap_there (g.B.BlockStore.blocks c.args.store.now) c.args.at c.args.from c.args.size c.args.room c.requires.live c.requires.inside c.if-size-room.true

pub returns-then-size-room-clause-served : goal.returns-then-size-room-clause-served
returns-then-size-room-clause-served g c = no_step

pub returns-clause-served : goal.returns-clause-served
returns-clause-served g c = served_then _ _ _ c.make_in_place.ensures.served c.make_anew.ensures.served
