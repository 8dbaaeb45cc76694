use Rattle.blocks.proofs.Copies.{piece_put}
use Rattle.blocks.proofs.store.piece_from.Goals as goal

pub returns : goal.returns
returns c = piece_put c.args.bytes.now c.copy_from_slice.new.self _ c.args.start c.min-count.result 512 c.min-count.ensures c.copy_from_slice.ensures.after
