use Rattle.std.proofs.Common.{◌≡◌, ◌+◌, ◌-◌, ◌<◌, length, get_or, ap, ◌∙◌, sym, subst, refl, arith}
use Rattle.std.specs.Prelude.{OnOk}
use Rattle.blocks.specs.Blocks.{no_step}
use Rattle.quicklist.specs.Nodes.{left_list, rest_list, count_of}
use Rattle.quicklist.specs.Chain.{IsChanged}
use Rattle.quicklist.proofs.Chains.{node_read}
use Rattle.quicklist.proofs.Elements.{node_is, node_of, across_is}
use Rattle.quicklist.proofs.Rests.{copied_list, copied_rest}
use Rattle.quicklist.proofs.quick.Quick.remove_across.Goals as goal

pub node_rest-requires-clause-readable : goal.node_rest-requires-clause-readable
node_rest-requires-clause-readable g c =
    node_read (g.B.BlockStore.blocks c.args.store.now) c.args.self.now.nodes c.args.first c.index.result.now (omega (arith, c.requires.order, c.requires.inside))
    (c.index.ensures ∙ ap (λ v. get_or v.nodes c.args.first c.index.result.now) c.self.view_is) c.requires.quick.chain

pub node_rest-requires-clause-order : goal.node_rest-requires-clause-order
node_rest-requires-clause-order g c =
    let m = g.B.BlockStore.blocks c.args.store.now in
    let nodes = c.args.self.now.nodes in
    let head = c.index.result.now in
    let inside : c.args.first < length nodes = omega (arith, c.requires.order, c.requires.inside) in
    let is = node_is nodes c.args.first head inside (c.index.ensures ∙ ap (λ v. get_or v.nodes c.args.first head) c.self.view_is) in
    omega (arith, c.requires.from, (node_of m nodes c.args.first c.requires.quick.chain.each inside).counted, ap count_of is)

pub returns-in_err-before-clause-served : goal.returns-in_err-before-clause-served
returns-in_err-before-clause-served g c = no_step

pub node_rest-requires-2-clause-readable : goal.node_rest-requires-2-clause-readable
node_rest-requires-2-clause-readable g c =
    node_read (g.B.BlockStore.blocks c.args.store.now) c.args.self.now.nodes c.args.last c.index-2.result.now c.requires.inside
    (c.index-2.ensures ∙ ap (λ v. get_or v.nodes c.args.last c.index-2.result.now) c.self.view_is) c.requires.quick.chain

pub node_rest-requires-2-clause-inside : goal.node_rest-requires-2-clause-inside
node_rest-requires-2-clause-inside g c =
    let m = g.B.BlockStore.blocks c.args.store.now in
    let nodes = c.args.self.now.nodes in
    let tail = c.index-2.result.now in
    let is = node_is nodes c.args.last tail c.requires.inside (c.index-2.ensures ∙ ap (λ v. get_or v.nodes c.args.last tail) c.self.view_is) in
    omega (arith, c.requires.to, (node_of m nodes c.args.last c.requires.quick.chain.each c.requires.inside).counted, ap count_of is)

pub returns-in_err-behind-clause-served : goal.returns-in_err-behind-clause-served
returns-in_err-behind-clause-served g c = no_step

pub overflow_sub-left : goal.overflow_sub-left
overflow_sub-left g c =
    let m = g.B.BlockStore.blocks c.args.store.now in
    let nodes = c.args.self.now.nodes in
    let tail = c.index-2.result.now in
    let is = node_is nodes c.args.last tail c.requires.inside (c.index-2.ensures ∙ ap (λ v. get_or v.nodes c.args.last tail) c.self.view_is) in
    omega (arith, c.requires.to, (node_of m nodes c.args.last c.requires.quick.chain.each c.requires.inside).counted, ap count_of is)

pub place_rests-requires-clause-before : goal.place_rests-requires-clause-before
place_rests-requires-clause-before g c =
    let m = g.B.BlockStore.blocks c.args.store.now in
    let nodes = c.args.self.now.nodes in
    let head = c.index.result.now in
    let inside : c.args.first < length nodes = omega (arith, c.requires.order, c.requires.inside) in
    let is = node_is nodes c.args.first head inside (c.index.ensures ∙ ap (λ v. get_or v.nodes c.args.first head) c.self.view_is) in
    let same : head.count - (head.count - c.args.i) ≡ c.args.i = omega (arith, c.requires.from, (node_of m nodes c.args.first c.requires.quick.chain.each inside).counted, ap count_of is) in
    copied_rest c.as_ref.result c.in_ok-before.before _ c.args.i c.as_ref.ensures.value same c.in_ok-before.ensures.rest

pub place_rests-requires-clause-behind : goal.place_rests-requires-clause-behind
place_rests-requires-clause-behind g c =
    let tail = c.index-2.result.now in
    let same : tail.count - (c.args.j - 0) ≡ tail.count - c.args.j = omega arith in
    copied_rest c.as_ref-2.result c.in_ok-behind.behind _ (tail.count - c.args.j) c.as_ref-2.ensures.value same c.in_ok-behind.ensures.rest

pub place_rests-requires-clause-len : goal.place_rests-requires-clause-len
place_rests-requires-clause-len g c =
    let m = g.B.BlockStore.blocks c.args.store.now in
    let q = c.args.self.now in
    let first = c.args.first in
    let last = c.args.last in
    let inside : first < length q.nodes = omega (arith, c.requires.order, c.requires.inside) in
    let head = c.index.result.now in
    let tail = c.index-2.result.now in
    let is_head = node_is q.nodes first head inside (c.index.ensures ∙ ap (λ v. get_or v.nodes first head) c.self.view_is) in
    let is_tail = node_is q.nodes last tail c.requires.inside (c.index-2.ensures ∙ ap (λ v. get_or v.nodes last tail) c.self.view_is) in
    let one = copied_list c.as_ref.result ∙ ap left_list c.as_ref.ensures.value ∙ c.in_ok-before.ensures.list in
    let two = copied_list c.as_ref-2.result ∙ ap left_list c.as_ref-2.ensures.value ∙ c.in_ok-behind.ensures.list in
    let all = across_is m q first last c.args.i c.args.j (last + 1 - first) head tail _ _ (rest_list c.as_ref.result) (rest_list c.as_ref-2.result) c.requires.quick.chain.each inside
    (omega (arith, c.requires.order)) is_head is_tail refl refl refl one two in
    c.requires.len ∙ ap length (sym all)

pub returns-clause-changed : goal.returns-clause-changed
returns-clause-changed g c =
    let m = g.B.BlockStore.blocks c.args.store.now in
    let q = c.args.self.now in
    let first = c.args.first in
    let last = c.args.last in
    let inside : first < length q.nodes = omega (arith, c.requires.order, c.requires.inside) in
    let head = c.index.result.now in
    let tail = c.index-2.result.now in
    let is_head = node_is q.nodes first head inside (c.index.ensures ∙ ap (λ v. get_or v.nodes first head) c.self.view_is) in
    let is_tail = node_is q.nodes last tail c.requires.inside (c.index-2.ensures ∙ ap (λ v. get_or v.nodes last tail) c.self.view_is) in
    let one = copied_list c.as_ref.result ∙ ap left_list c.as_ref.ensures.value ∙ c.in_ok-before.ensures.list in
    let two = copied_list c.as_ref-2.result ∙ ap left_list c.as_ref-2.ensures.value ∙ c.in_ok-behind.ensures.list in
    let all = across_is m q first last c.args.i c.args.j (last + 1 - first) head tail _ _ (rest_list c.as_ref.result) (rest_list c.as_ref-2.result) c.requires.quick.chain.each inside
    (omega (arith, c.requires.order)) is_head is_tail refl refl refl one two in
    subst (λ xs. OnOk c.place_rests.result (IsChanged m (g.B.BlockStore.blocks c.place_rests.new.store) q c.place_rests.new.self xs)) all c.place_rests.ensures.changed
