use Rattle.std.proofs.Common.{◌≡◌, length, ap, sym, subst, inl, inr, arith, false}
use Rattle.std.proofs.lemmas.Bool.{cases_eq}
use Rattle.std.proofs.lemmas.List.{length-map}
use Rattle.blocks.specs.Slabs.{wants}
use Rattle.blocks.proofs.Sweeps.{calmer_next}
use Rattle.quicklist.specs.Nodes.{container_of, node_at}
use Rattle.quicklist.specs.Chain.{IsOutside}
use Rattle.quicklist.proofs.Moving.{more_settled}
use Rattle.quicklist.proofs.copies.settle_nodes.Goals as goal

pub loop-k-preserved : goal.loop-k-preserved
loop-k-preserved g c =
    let m = g.B.BlockStore.blocks c.args.store.now in
    let mid = g.B.BlockStore.blocks c.loop-k.store in
    let n = g.B.BlockStore.blocks c.settle_node.new.store in
    let inv = c.loop-k.invariant in
    record {
      settled = more_settled m mid n c.args.nodes.now.items c.loop-k.nodes.items c.settle_node.new.nodes.items c.args.start c.loop-k.k (omega arith) inv.settled c.settle_node.ensures.settled;
      calm = λ i low high. elim (cases_eq i c.loop-k.k) [
        | inl here' ↦ subst (λ j. wants (g.B.BlockStore.heap c.settle_node.new.store) (node_at c.settle_node.new.nodes.items j).at ≡ false) (sym here') c.settle_node.ensures.calm
        | inr before' ↦ subst (λ node. wants (g.B.BlockStore.heap c.settle_node.new.store) node.at ≡ false) (sym (c.settle_node.ensures.settled.others i before'))
            (c.settle_node.ensures.calmer.calm (node_at c.loop-k.nodes.items i).at (inv.calm i low (omega (arith, high, before'))))
      ];
      calmer = calmer_next (g.B.BlockStore.heap c.args.store.now) (g.B.BlockStore.heap c.loop-k.store) (g.B.BlockStore.heap c.settle_node.new.store) inv.calmer c.settle_node.ensures.calmer;
    }

pub settle_node-requires-clause-inside : goal.settle_node-requires-clause-inside
settle_node-requires-clause-inside g c =
    omega (
      arith,
      ap length c.loop-k.invariant.settled.containers,
      length-map c.loop-k.nodes.items container_of,
      length-map c.args.nodes.now.items container_of,
      c.requires.inside,
      c.loop-k-test.true,
    )

pub settle_node-requires-clause-chain : goal.settle_node-requires-clause-chain
settle_node-requires-clause-chain g c = c.loop-k.invariant.settled.chain

pub returns-clause-settled : goal.returns-clause-settled
returns-clause-settled g c =
    let s = c.loop-k.invariant.settled in
    let end : c.args.end ≡ c.loop-k.k = omega (arith, c.loop-k-test.false, c.loop-k.auto.k-end, c.requires.order) in
    record {
      chain = s.chain;
      list_is = s.list_is;
      changes = s.changes;
      containers = s.containers;
      others = λ i out. s.others i (subst (λ e. IsOutside c.args.start e i) end out);
    }

pub returns-clause-calm : goal.returns-clause-calm
returns-clause-calm g c =
    let end : c.args.end ≡ c.loop-k.k = omega (arith, c.loop-k-test.false, c.loop-k.auto.k-end, c.requires.order) in
    λ i low high. c.loop-k.invariant.calm i low (omega (arith, high, end))

pub returns-clause-calmer : goal.returns-clause-calmer
returns-clause-calmer g c = c.loop-k.invariant.calmer
