use Rattle.std.proofs.Common.{◌≡◌, ◌++◌, List, length, map, get_or, ap, ◌∙◌, sym, subst, arith, rules, deque_len}
use Rattle.listpack.specs.Pack.{texts}
use Rattle.object_codec.specs.declared.form.Form.{Form}
use Rattle.quicklist.specs.declared.node.Node.{Node}
use Rattle.quicklist.specs.Nodes.{container_of, elements_of, pack_len}
use Rattle.quicklist.specs.Chain.{IsRisen, elements}
use Rattle.quicklist.proofs.Behind.{none_by, some_by, joined_long}
use Rattle.quicklist.proofs.Chains.{node_read}
use Rattle.quicklist.proofs.Elements.{node_is}
use Rattle.quicklist.proofs.Rising.{stays, rises}
use Rattle.quicklist.proofs.Written.{packed_len}
use Rattle.quicklist.proofs.quick.Quick.form_with.Goals as goal

pub returns-then-is_empty-clause-risen : goal.returns-then-is_empty-clause-risen
returns-then-is_empty-clause-risen g c =
    let m = g.B.BlockStore.blocks c.args.store.now in
    let q = c.args.self.now in
    let all : deque_len c.self.inside.nodes ≡ length c.self.inside.nodes.items = search rules in
    let none = none_by (deque_len c.self.inside.nodes) q.nodes (sym c.is_empty.ensures ∙ c.if-is_empty.true) (all ∙ ap (λ v. length v.nodes) c.self.view_is) in
    let list = elements m q ++ texts c.args.bytes.now in
    let alone : list ≡ texts c.args.bytes.now = ap (λ (nodes : List Node). elements_of m nodes ++ texts c.args.bytes.now) none in
    subst (λ (f : Form). IsRisen q.form list f) (sym (ap (λ v. v.form) c.self.view_is))
    (stays q.form list (map container_of q.nodes) c.requires.quick.formed (λ is. omega (arith, ap pack_len alone, packed_len c.args.bytes.now c.requires.packed, c.requires.packed.short)))

pub bytes-requires : goal.bytes-requires
bytes-requires g c =
    let q = c.args.self.now in
    let node = c.index-node.result.now in
    let all : deque_len c.self.inside.nodes ≡ length c.self.inside.nodes.items = search rules in
    let some = some_by (deque_len c.self.inside.nodes) q.nodes (sym c.is_empty.ensures ∙ c.if-is_empty.false) (all ∙ ap (λ v. length v.nodes) c.self.view_is) in
    node_read (g.B.BlockStore.blocks c.args.store.now) q.nodes 0 node some (c.index-node.ensures ∙ ap (λ v. get_or v.nodes 0 node) c.self.view_is) c.requires.quick.chain

pub returns-then-bytes-clause-risen : goal.returns-then-bytes-clause-risen
returns-then-bytes-clause-risen g c =
    let m = g.B.BlockStore.blocks c.args.store.now in
    let q = c.args.self.now in
    let node = c.index-node.result.now in
    let all : deque_len c.self.inside.nodes ≡ length c.self.inside.nodes.items = search rules in
    let some = some_by (deque_len c.self.inside.nodes) q.nodes (sym c.is_empty.ensures ∙ c.if-is_empty.false) (all ∙ ap (λ v. length v.nodes) c.self.view_is) in
    let is = node_is q.nodes 0 node some (c.index-node.ensures ∙ ap (λ v. get_or v.nodes 0 node) c.self.view_is) in
    rises q.form (elements m q ++ texts c.args.bytes.now) (map container_of q.nodes) c.requires.quick.formed
    (λ listpack. joined_long m q node c.bytes.result.now c.args.bytes.now c.requires.quick listpack some is c.bytes.ensures c.requires.packed (omega (arith, c.if-bytes.true)))
