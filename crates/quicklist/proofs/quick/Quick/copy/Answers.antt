use Rattle.std.proofs.Common.{List, length, map, ap, ◌∙◌, sym, subst, arith}
use Rattle.std.proofs.lemmas.List.{length-map}
use Rattle.object_codec.specs.declared.form.Form.{Form}
use Rattle.quicklist.specs.declared.node.Container.{Container}
use Rattle.quicklist.specs.declared.node.Node.{Node}
use Rattle.quicklist.specs.Nodes.{IsChain, container_of}
use Rattle.quicklist.specs.Chain.{Chain, IsFormed, IsCopied}
use Rattle.quicklist.proofs.quick.Quick.copy.Goals as goal

pub copy_nodes-requires : goal.copy_nodes-requires
copy_nodes-requires g c = subst (λ (v : Chain). IsChain (g.B.BlockStore.blocks c.args.store.now) v.nodes) (sym c.self.view_is) c.requires.chain

pub returns-clause-quick : goal.returns-clause-quick
returns-clause-quick g c =
    let m = g.B.BlockStore.blocks c.args.store.now in
    let n = g.B.BlockStore.blocks c.copy_nodes.new.store in
    let x = subst (λ (v : Chain). IsCopied m n v.nodes c.in_ok-nodes.nodes.items) c.self.view_is c.in_ok-nodes.ensures.copied in
    let q = c.args.self.now in
    let formed = subst (λ (cs : List Container). IsFormed q.form cs) (sym x.containers) c.requires.formed in
    record {
      chain = x.chain;
      counted = ap (λ v. v.len) c.self.view_is ∙ c.requires.counted ∙ ap length (sym x.list_is);
      formed = subst (λ (f : Form). IsFormed f (map container_of c.in_ok-nodes.nodes.items)) (sym (ap (λ v. v.form) c.self.view_is)) formed;
    }

pub returns-clause-list : goal.returns-clause-list
returns-clause-list g c =
    let m = g.B.BlockStore.blocks c.args.store.now in
    let n = g.B.BlockStore.blocks c.copy_nodes.new.store in
    let x = subst (λ (v : Chain). IsCopied m n v.nodes c.in_ok-nodes.nodes.items) c.self.view_is c.in_ok-nodes.ensures.copied in
    x.list_is

pub returns-clause-form : goal.returns-clause-form
returns-clause-form g c = ap (λ v. v.form) c.self.view_is

pub returns-clause-nodes : goal.returns-clause-nodes
returns-clause-nodes g c =
    let m = g.B.BlockStore.blocks c.args.store.now in
    let n = g.B.BlockStore.blocks c.copy_nodes.new.store in
    let x = subst (λ (v : Chain). IsCopied m n v.nodes c.in_ok-nodes.nodes.items) c.self.view_is c.in_ok-nodes.ensures.copied in
    let fresh = c.in_ok-nodes.nodes.items in
    let nodes = c.args.self.now.nodes in
    omega (
      arith,
      ap length x.containers,
      length-map fresh container_of,
      length-map nodes container_of,
      length-map fresh (λ (node : Node). node.at),
      length-map nodes (λ (node : Node). node.at),
    )

pub returns-clause-changes : goal.returns-clause-changes
returns-clause-changes g c =
    let m = g.B.BlockStore.blocks c.args.store.now in
    let n = g.B.BlockStore.blocks c.copy_nodes.new.store in
    let x = subst (λ (v : Chain). IsCopied m n v.nodes c.in_ok-nodes.nodes.items) c.self.view_is c.in_ok-nodes.ensures.copied in
    x.changes

pub returns-clause-served : goal.returns-clause-served
returns-clause-served g c = c.copy_nodes.ensures.served
