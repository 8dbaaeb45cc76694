use Rattle.std.proofs.Common.{[], ◌∷◌, is_some, ap, subst}
use Rattle.blocks.specs.Blocks.{Changes}
use Rattle.blocks.proofs.Serve.{served_then}
use Rattle.stream_object.specs.Block.{IsPut}
use Rattle.stream_object.specs.Parts.{parts_of}
use Rattle.stream_object.proofs.Exchanging.{stands_block, rewritten}
use Rattle.stream_object.proofs.nodes.replace.Goals as goal

pub write_whole-requires : goal.write_whole-requires
write_whole-requires g c =
    let m = g.B.BlockStore.blocks c.args.store.now in
    ap is_some (stands_block m c.args.tree.now (parts_of m c.args.tree.now) c.args.key c.args.was c.requires.parts c.requires.stands)

pub returns-then-write_whole-clause-replaced : goal.returns-then-write_whole-clause-replaced
returns-then-write_whole-clause-replaced g c =
    let m = g.B.BlockStore.blocks c.args.store.now in
    let after = g.B.BlockStore.blocks c.write_whole.new.store in
    λ s is rising. rewritten m c.args.tree.now (parts_of m c.args.tree.now) c.args.key c.args.was c.requires.parts s after c.args.bytes.now
    (c.write_whole.ensures.put c.if-write_whole.true) is rising

pub returns-clause-replaced : goal.returns-clause-replaced
returns-clause-replaced g c =
    let m = g.B.BlockStore.blocks c.args.store.now in
    let mid = g.B.BlockStore.blocks c.put_block.new.store in
    let at = c.in_ok-at.at in
    let same = c.write_whole.ensures.stays c.if-write_whole.false in
    let bytes = c.args.bytes.now in
    λ s is rising. c.exchange.ensures.replaced m bytes (record {
      parts = c.requires.parts;
      stands = c.requires.stands;
      put = subst (λ k. IsPut (g.B.BlockStore.blocks k) mid at bytes) same c.in_ok-at.ensures.placed;
      changes = subst (λ k. Changes (g.B.BlockStore.blocks k) mid [] (at ∷ [])) same c.in_ok-at.ensures.changes;
    }) s is rising

pub returns-clause-served : goal.returns-clause-served
returns-clause-served g c = served_then _ _ _ (served_then _ _ _ c.write_whole.ensures.served c.put_block.ensures.served) c.exchange.ensures.served
