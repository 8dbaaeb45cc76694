use Rattle.std.proofs.Common.{◌+◌, ◌∷◌, []}
use Rattle.blocks.specs.Blocks.{no_step}
use Rattle.quicklist.proofs.Rising.{written_pieces, one_piece}
use Rattle.quicklist.proofs.quick.Quick.place_alone.Goals as goal

pub returns-in_err-pack-clause-served : goal.returns-in_err-pack-clause-served
returns-in_err-pack-clause-served g c = no_step

pub returns-clause-written : goal.returns-clause-written
returns-clause-written g c =
    written_pieces c.exchange.result (g.B.BlockStore.blocks c.args.store.now) (g.B.BlockStore.blocks c.exchange.new.store) c.args.self.now c.exchange.new.self (c.args.element.now ∷ [])
    c.args.k (c.args.k + c.args.gone) c.args.len _
    (one_piece c.piece_of.result (c.args.element.now ∷ []) c.piece_of.ensures.list) c.requires.quick.formed c.requires.overfull c.exchange.ensures.ok c.exchange.ensures.len c.exchange.ensures.form
