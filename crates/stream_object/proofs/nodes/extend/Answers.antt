use Rattle.std.proofs.Common.{[], ◌∷◌, drop, subst}
use Rattle.blocks.specs.Blocks.{Changes, bytes_at}
use Rattle.blocks.proofs.Serve.{served_then}
use Rattle.stream_node.specs.Appended.{written_over}
use Rattle.stream_object.specs.Block.{IsPut}
use Rattle.stream_object.specs.Parts.{parts_of}
use Rattle.stream_object.proofs.Exchanging.{rewritten}
use Rattle.stream_object.proofs.nodes.extend.Goals as goal

pub returns-then-write_behind-clause-extended : goal.returns-then-write_behind-clause-extended
returns-then-write_behind-clause-extended g c =
    let m = g.B.BlockStore.blocks c.args.store.now in
    let after = g.B.BlockStore.blocks c.write_behind.new.store in
    let bytes = written_over (bytes_at m c.args.was) c.args.behind.now.head (drop 6 c.args.behind.now.entry.items) in
    λ s is rising. rewritten m c.args.tree.now (parts_of m c.args.tree.now) c.args.key c.args.was c.requires.parts s after bytes
    (c.write_behind.ensures.put c.if-write_behind.true) is rising

pub returns-clause-extended : goal.returns-clause-extended
returns-clause-extended g c =
    let m = g.B.BlockStore.blocks c.args.store.now in
    let mid = g.B.BlockStore.blocks c.place_behind.new.store in
    let at = c.in_ok-at.at in
    let same = c.write_behind.ensures.stays c.if-write_behind.false in
    let head = c.args.behind.now.head in
    let tail = drop 6 c.args.behind.now.entry.items in
    λ s is rising. c.exchange.ensures.replaced m (written_over (bytes_at m c.args.was) head tail) (record {
      parts = c.requires.parts;
      stands = c.requires.stands;
      put = subst (λ k. IsPut (g.B.BlockStore.blocks k) mid at (written_over (bytes_at (g.B.BlockStore.blocks k) c.args.was) head tail)) same c.in_ok-at.ensures.put;
      changes = subst (λ k. Changes (g.B.BlockStore.blocks k) mid [] (at ∷ [])) same c.in_ok-at.ensures.changes;
    }) s is rising

pub returns-clause-served : goal.returns-clause-served
returns-clause-served g c = served_then _ _ _ (served_then _ _ _ c.write_behind.ensures.served c.place_behind.ensures.served) c.exchange.ensures.served
