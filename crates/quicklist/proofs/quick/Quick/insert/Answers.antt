use Rattle.std.proofs.Common.{◌≡◌, ◌+◌, ◌<◌, length, get_or, ap, ◌∙◌, subst, arith}
use Rattle.std.specs.Prelude.{OnOk}
use Rattle.std.specs.List.{insert}
use Rattle.std.proofs.lemmas.List.Edits.{length-insert}
use Rattle.blocks.specs.Blocks.{no_step}
use Rattle.quicklist.specs.declared.node.Node.{Node}
use Rattle.quicklist.specs.Nodes.{HasSpace, pack_len, node_at, node_list, bytes_of, count_of}
use Rattle.quicklist.specs.Chain.{elements, IsWritten}
use Rattle.quicklist.proofs.Chains.{node_read}
use Rattle.quicklist.proofs.Elements.{len_is, node_is, node_of, overfull_insert, at_front, at_back, insert_node_is}
use Rattle.quicklist.proofs.Rests.{many_packed}
use Rattle.quicklist.proofs.quick.Quick.insert.Goals as goal

pub returns-in_default-clause-served : goal.returns-in_default-clause-served
returns-in_default-clause-served g c = no_step

pub gap-k-requires-clause-len : goal.gap-k-requires-clause-len
gap-k-requires-clause-len g c = len_is (g.B.BlockStore.blocks c.args.store.now) c.args.self.now c.requires.quick

pub gap-k-requires-clause-index : goal.gap-k-requires-clause-index
gap-k-requires-clause-index g c = omega (arith, c.requires.quick.counted, c.requires.index)

pub has_space-requires : goal.has_space-requires
has_space-requires g c =
    node_read (g.B.BlockStore.blocks c.args.store.now) c.args.self.now.nodes c.gap-k.result.0 c.index-node.result.now c.gap-k.ensures.inside
    (c.index-node.ensures ∙ ap (λ v. get_or v.nodes c.gap-k.result.0 c.index-node.result.now) c.self.view_is) c.requires.quick.chain

pub put_in-requires-clause-quick : goal.put_in-requires-clause-quick
put_in-requires-clause-quick g c = c.requires.quick

pub put_in-requires-clause-inside : goal.put_in-requires-clause-inside
put_in-requires-clause-inside g c = c.gap-k.ensures.inside

pub put_in-requires-clause-index : goal.put_in-requires-clause-index
put_in-requires-clause-index g c =
    omega (
      arith,
      c.gap-k.ensures.among,
      (node_of (g.B.BlockStore.blocks c.args.store.now) c.args.self.now.nodes c.gap-k.result.0 c.requires.quick.chain.each c.gap-k.ensures.inside).counted,
    )

pub put_in-requires-clause-space : goal.put_in-requires-clause-space
put_in-requires-clause-space g c =
    let q = c.args.self.now in
    let k = c.gap-k.result.0 in
    let node = c.index-node.result.now in
    let is = node_is q.nodes k node c.gap-k.ensures.inside (c.index-node.ensures ∙ ap (λ v. get_or v.nodes k node) c.self.view_is) in
    subst (λ (n : Node). HasSpace (g.B.BlockStore.blocks c.args.store.now) n c.args.element.now) is (c.has_space.ensures.space c.if-has_space.true)

pub put_in-requires-clause-len : goal.put_in-requires-clause-len
put_in-requires-clause-len g c =
    let m = g.B.BlockStore.blocks c.args.store.now in
    let q = c.args.self.now in
    let x = c.args.element.now in
    let more : c.in-Some.len ≡ q.len + 1 = omega (arith, c.in-Some.ensures.1, ap (λ v. v.len) c.self.view_is) in
    let whole = insert_node_is m q c.args.index c.gap-k.result.0 c.gap-k.result.1 x c.requires.quick c.gap-k.ensures in
    omega (arith, more, c.requires.quick.counted, ap length whole, length-insert (elements m q) c.args.index x c.requires.index)

pub returns-then-has_space-clause-written : goal.returns-then-has_space-clause-written
returns-then-has_space-clause-written g c =
    let m = g.B.BlockStore.blocks c.args.store.now in
    let q = c.args.self.now in
    subst (λ xs. OnOk c.put_in.result (IsWritten m (g.B.BlockStore.blocks c.put_in.new.store) q c.put_in.new.self xs))
    (insert_node_is m q c.args.index c.gap-k.result.0 c.gap-k.result.1 c.args.element.now c.requires.quick c.gap-k.ensures) c.put_in.ensures.written

pub place_alone-requires-clause-quick : goal.place_alone-requires-clause-quick
place_alone-requires-clause-quick g c = c.requires.quick

pub place_alone-requires-clause-inside : goal.place_alone-requires-clause-inside
place_alone-requires-clause-inside g c = omega (arith, c.gap-k.ensures.inside)

pub place_alone-requires-clause-overfull : goal.place_alone-requires-clause-overfull
place_alone-requires-clause-overfull g c =
    let m = g.B.BlockStore.blocks c.args.store.now in
    let q = c.args.self.now in
    let k = c.gap-k.result.0 in
    let j = c.gap-k.result.1 in
    let x = c.args.element.now in
    let node = c.index-node.result.now in
    let gap = c.gap-k.ensures in
    let is = node_is q.nodes k node gap.inside (c.index-node.ensures ∙ ap (λ v. get_or v.nodes k node) c.self.view_is) in
    let more : c.in-Some.len ≡ q.len + 1 = omega (arith, c.in-Some.ensures.1, ap (λ v. v.len) c.self.view_is) in
    let long : 8192 < pack_len (insert (node_list m (node_at q.nodes k)) j x) =
    subst (λ (n : Node). 8192 < pack_len (insert (node_list m n) j x)) is (c.has_space.ensures.none c.if-has_space.false j) in
    overfull_insert m q c.args.index k j c.in-Some.len x _ c.requires.quick gap long c.requires.index more (at_front m q c.args.index k j x c.requires.quick gap c.if-j-eq0.true)

pub returns-then-j-eq0-clause-written : goal.returns-then-j-eq0-clause-written
returns-then-j-eq0-clause-written g c =
    let m = g.B.BlockStore.blocks c.args.store.now in
    let q = c.args.self.now in
    subst (λ xs. OnOk c.place_alone.result (IsWritten m (g.B.BlockStore.blocks c.place_alone.new.store) q c.place_alone.new.self xs))
    (at_front m q c.args.index c.gap-k.result.0 c.gap-k.result.1 c.args.element.now c.requires.quick c.gap-k.ensures c.if-j-eq0.true) c.place_alone.ensures.written

pub place_alone-requires-then-j-node-clause-quick : goal.place_alone-requires-then-j-node-clause-quick
place_alone-requires-then-j-node-clause-quick g c = c.requires.quick

pub place_alone-requires-then-j-node-clause-inside : goal.place_alone-requires-then-j-node-clause-inside
place_alone-requires-then-j-node-clause-inside g c = omega (arith, c.gap-k.ensures.inside)

pub place_alone-requires-then-j-node-clause-overfull : goal.place_alone-requires-then-j-node-clause-overfull
place_alone-requires-then-j-node-clause-overfull g c =
    let m = g.B.BlockStore.blocks c.args.store.now in
    let q = c.args.self.now in
    let k = c.gap-k.result.0 in
    let j = c.gap-k.result.1 in
    let x = c.args.element.now in
    let node = c.index-node.result.now in
    let gap = c.gap-k.ensures in
    let is = node_is q.nodes k node gap.inside (c.index-node.ensures ∙ ap (λ v. get_or v.nodes k node) c.self.view_is) in
    let more : c.in-Some.len ≡ q.len + 1 = omega (arith, c.in-Some.ensures.1, ap (λ v. v.len) c.self.view_is) in
    let long : 8192 < pack_len (insert (node_list m (node_at q.nodes k)) j x) =
    subst (λ (n : Node). 8192 < pack_len (insert (node_list m n) j x)) is (c.has_space.ensures.none c.if-has_space.false j) in
    overfull_insert m q c.args.index k j c.in-Some.len x _ c.requires.quick gap long c.requires.index more
    (at_back m q c.args.index k j x c.requires.quick gap (c.if-j-node.true ∙ ap (λ n. n.count) is))

pub returns-then-j-node-clause-written : goal.returns-then-j-node-clause-written
returns-then-j-node-clause-written g c =
    let m = g.B.BlockStore.blocks c.args.store.now in
    let q = c.args.self.now in
    let k = c.gap-k.result.0 in
    let node = c.index-node.result.now in
    let is = node_is q.nodes k node c.gap-k.ensures.inside (c.index-node.ensures ∙ ap (λ v. get_or v.nodes k node) c.self.view_is) in
    subst (λ xs. OnOk c.place_alone-then-j-node.result (IsWritten m (g.B.BlockStore.blocks c.place_alone-then-j-node.new.store) q c.place_alone-then-j-node.new.self xs))
    (at_back m q c.args.index k c.gap-k.result.1 c.args.element.now c.requires.quick c.gap-k.ensures (c.if-j-node.true ∙ ap (λ n. n.count) is)) c.place_alone-then-j-node.ensures.written

pub split-requires-clause-quick : goal.split-requires-clause-quick
split-requires-clause-quick g c = c.requires.quick

pub split-requires-clause-inside : goal.split-requires-clause-inside
split-requires-clause-inside g c = c.gap-k.ensures.inside

pub split-requires-clause-bound : goal.split-requires-clause-bound
split-requires-clause-bound g c = c.gap-k.ensures.among

pub split-requires-clause-packed : goal.split-requires-clause-packed
split-requires-clause-packed g c =
    let m = g.B.BlockStore.blocks c.args.store.now in
    let q = c.args.self.now in
    let k = c.gap-k.result.0 in
    let node = c.index-node.result.now in
    let gap = c.gap-k.ensures in
    let is = node_is q.nodes k node gap.inside (c.index-node.ensures ∙ ap (λ v. get_or v.nodes k node) c.self.view_is) in
    let there = node_at q.nodes k in
    let many : there.count ≡ 1 → ⊥ = λ one. absurd (omega (arith, one, gap.among, ap count_of is, c.if-j-eq0.false, c.if-j-node.false)) in
    many_packed there.container (bytes_of m there) there.count (node_of m q.nodes k c.requires.quick.chain.each gap.inside).counted many

pub split-requires-clause-overfull : goal.split-requires-clause-overfull
split-requires-clause-overfull g c =
    let m = g.B.BlockStore.blocks c.args.store.now in
    let q = c.args.self.now in
    let k = c.gap-k.result.0 in
    let j = c.gap-k.result.1 in
    let x = c.args.element.now in
    let node = c.index-node.result.now in
    let gap = c.gap-k.ensures in
    let is = node_is q.nodes k node gap.inside (c.index-node.ensures ∙ ap (λ v. get_or v.nodes k node) c.self.view_is) in
    let more : c.in-Some.len ≡ q.len + 1 = omega (arith, c.in-Some.ensures.1, ap (λ v. v.len) c.self.view_is) in
    let long : 8192 < pack_len (insert (node_list m (node_at q.nodes k)) j x) =
    subst (λ (n : Node). 8192 < pack_len (insert (node_list m n) j x)) is (c.has_space.ensures.none c.if-has_space.false j) in
    overfull_insert m q c.args.index k j c.in-Some.len x _ c.requires.quick gap long c.requires.index more (insert_node_is m q c.args.index k j x c.requires.quick gap)

pub returns-clause-written : goal.returns-clause-written
returns-clause-written g c =
    let m = g.B.BlockStore.blocks c.args.store.now in
    let q = c.args.self.now in
    subst (λ xs. OnOk c.split.result (IsWritten m (g.B.BlockStore.blocks c.split.new.store) q c.split.new.self xs))
    (insert_node_is m q c.args.index c.gap-k.result.0 c.gap-k.result.1 c.args.element.now c.requires.quick c.gap-k.ensures) c.split.ensures.written
