use Rattle.std.proofs.Common.{◌≡◌, List, ℕ, length, is_some, sym, ap, subst, arith}
use Rattle.listpack.specs.Pack.{texts}
use Rattle.stream_node.specs.Entries.{entries_of}
use Rattle.stream_object.specs.Parts.{IsNodeOf, live_of, parts_of}
use Rattle.stream_object.proofs.Exchanging.{stands_block, stands_node}
use Rattle.stream_object.proofs.Losing.{goes_whole, stands_bytes}
use Rattle.stream_object.proofs.removing.take_out.Goals as goal

pub bytes-bytes-requires : goal.bytes-bytes-requires
bytes-bytes-requires g c =
    let m = g.B.BlockStore.blocks c.args.store.now in
    ap is_some (stands_block m c.args.tree.now (parts_of m c.args.tree.now) c.args.key c.args.at c.requires.parts c.requires.stands.0)

pub live_count-requires : goal.live_count-requires
live_count-requires g c =
    let m = g.B.BlockStore.blocks c.args.store.now in
    let s = c.requires.stands.0 in (
      c.args.key,
      subst (IsNodeOf c.args.key) (sym (stands_bytes m c.args.tree.now c.args.key c.args.at s c.requires.parts c.bytes-bytes.result.now c.bytes-bytes.ensures))
          (stands_node m c.args.tree.now (parts_of m c.args.tree.now) c.args.key c.args.at c.requires.parts s),
    )

pub drop_node-requires-clause-stands : goal.drop_node-requires-clause-stands
drop_node-requires-clause-stands g c = c.requires.stands.0

pub returns-then-live_count-eq1-clause-loses : goal.returns-then-live_count-eq1-clause-loses
returns-then-live_count-eq1-clause-loses g c =
    let m = g.B.BlockStore.blocks c.args.store.now in
    let after = g.B.BlockStore.blocks c.drop_node.new.store in
    λ s e a. (let same = stands_bytes m c.args.tree.now c.args.key c.args.at s c.requires.parts c.bytes-bytes.result.now c.bytes-bytes.ensures in
    let is_node = subst (IsNodeOf c.args.key) (sym same) (stands_node m c.args.tree.now (parts_of m c.args.tree.now) c.args.key c.args.at c.requires.parts s) in
    let one : length (live_of (entries_of c.args.key (texts s.bytes))) ≡ 1 =
    omega (arith, c.live_count.ensures c.args.key is_node, ap (λ (b : List ℕ). length (live_of (entries_of c.args.key (texts b)))) same, c.if-live_count-eq1.true) in
    goes_whole m after c.args.tree.now c.drop_node.new.tree c.args.key c.args.at s c.args.index e a one (c.drop_node.ensures.dropped s))

pub mark_out-requires-clause-others : goal.mark_out-requires-clause-others
mark_out-requires-clause-others g c =
    let m = g.B.BlockStore.blocks c.args.store.now in
    λ s. (let same = stands_bytes m c.args.tree.now c.args.key c.args.at s c.requires.parts c.bytes-bytes.result.now c.bytes-bytes.ensures in
    let is_node = stands_node m c.args.tree.now (parts_of m c.args.tree.now) c.args.key c.args.at c.requires.parts s in
    omega (
      arith,
      is_node.some,
      c.live_count.ensures c.args.key (subst (IsNodeOf c.args.key) (sym same) is_node),
      ap (λ (b : List ℕ). length (live_of (entries_of c.args.key (texts b)))) same,
      c.if-live_count-eq1.false,
    ))
