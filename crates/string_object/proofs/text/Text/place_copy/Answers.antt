use Rattle.blocks.proofs.Serve.{served_once, served_then}
use Rattle.string_object.specs.Text.{text_bytes}
use Rattle.blocks.proofs.Copies.{placed_over}
use Rattle.string_object.proofs.Texts.{text_beside}
use Rattle.string_object.proofs.text.Text.place_copy.Goals as goal

pub returns-in_err-at-clause-served : goal.returns-in_err-at-clause-served
returns-in_err-at-clause-served g c = served_once _ _ c.place.ensures.step

pub returns-clause-placed : goal.returns-clause-placed
returns-clause-placed g c =
    let m = g.B.BlockStore.blocks c.args.store.now in
    let mid = g.B.BlockStore.blocks c.place.new.self in
    placed_over m mid (g.B.BlockStore.blocks c.copy_to.new.store) c.in_ok-at.at c.args.len (text_bytes mid c.args.self.now) (text_bytes m c.args.self.now)
    c.in_ok-at.ensures.placed c.copy_to.ensures.copied
    (text_beside m mid c.in_ok-at.at _ c.args.self.now c.requires.owned c.in_ok-at.ensures.fresh c.in_ok-at.ensures.placed)
    c.requires.room

pub returns-clause-served : goal.returns-clause-served
returns-clause-served g c = served_then _ _ _ (served_once _ _ c.place.ensures.step) c.copy_to.ensures.served
