use Rattle.std.proofs.Common.{length, unwrap_or, [], ap}
use Rattle.blocks.proofs.Serve.{served_once, served_next, served_then}
use Rattle.pack_block.proofs.Blocks.{gap_anew}
use Rattle.pack_block.proofs.gaps.make_anew.Goals as goal

pub returns-in_err-new-clause-served : goal.returns-in_err-new-clause-served
returns-in_err-new-clause-served g c = served_once _ _ c.place.ensures.step

pub returns-clause-gap : goal.returns-clause-gap
returns-clause-gap g c =
    (gap_anew (g.B.BlockStore.blocks c.args.store.now) (g.B.BlockStore.blocks c.place.new.self) (g.B.BlockStore.blocks c.copy_part.new.store) (g.B.BlockStore.blocks c.copy_part-2.new.store)
    (g.B.BlockStore.blocks c.give_back.new.self) c.args.at c.in_ok-new.new (length c.bytes-len.result.now) c.args.from c.args.size c.args.room c.requires.live c.in_ok-new.ensures.fresh
    (ap (λ o. length (unwrap_or o [])) c.bytes-len.ensures) c.requires.inside c.in_ok-new.ensures.placed c.copy_part.ensures.copied c.copy_part-2.ensures.copied c.give_back.ensures.ended).0

pub returns-clause-changes : goal.returns-clause-changes
returns-clause-changes g c =
    (gap_anew (g.B.BlockStore.blocks c.args.store.now) (g.B.BlockStore.blocks c.place.new.self) (g.B.BlockStore.blocks c.copy_part.new.store) (g.B.BlockStore.blocks c.copy_part-2.new.store)
    (g.B.BlockStore.blocks c.give_back.new.self) c.args.at c.in_ok-new.new (length c.bytes-len.result.now) c.args.from c.args.size c.args.room c.requires.live c.in_ok-new.ensures.fresh
    (ap (λ o. length (unwrap_or o [])) c.bytes-len.ensures) c.requires.inside c.in_ok-new.ensures.placed c.copy_part.ensures.copied c.copy_part-2.ensures.copied c.give_back.ensures.ended).1

pub returns-clause-served : goal.returns-clause-served
returns-clause-served g c =
    served_next _ _ _ (served_then _ _ _ (served_then _ _ _ (served_once _ _ c.place.ensures.step) c.copy_part.ensures.served) c.copy_part-2.ensures.served) c.give_back.ensures.step
