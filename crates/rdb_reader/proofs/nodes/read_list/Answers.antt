use Rattle.std.proofs.Common.{◌≡◌, ℕ, suc, ◌-◌, ◌+◌, sym, ap, subst, ◌∙◌, drop, arith}
use Rattle.blocks.specs.Blocks.{no_step}
use Rattle.blocks.proofs.Change.{changes_same, changes_then}
use Rattle.blocks.proofs.Serve.{served_then}
use Rattle.plain_world.specs.Worlds.{ListOf}
use Rattle.quicklist.specs.Chain.{elements}
use Rattle.rdb_grammar.specs.Format.{in_turn}
use Rattle.rdb_grammar.specs.Layouts.{with_node}
use Rattle.rdb_grammar.proofs.PartsExact.{with_node_exact}
use Rattle.rdb_grammar.proofs.Turns.{GoesOn, one_on, all_stand}
use Rattle.rdb_reader.proofs.Elements.{fails_on}
use Rattle.rdb_reader.proofs.nodes.read_list.Goals as goal

pub nodes-init : goal.nodes-init
nodes-init g c =
    let none : c.args.count - 0 ≡ c.args.count = omega arith in
    record {
      turns = ap (λ (n : ℕ). (in_turn with_node n (ListOf (elements (g.B.BlockStore.blocks c.args.store.now) c.args.list.now))).read (drop c.args.at c.args.bytes.now)) (sym none);
      inside = c.requires.at;
      sound = c.requires.sound;
      form = λ least. least;
      changes = changes_same _ _ c.requires.sound.chain.owned;
      served = no_step;
    }

pub nodes-preserved : goal.nodes-preserved
nodes-preserved g c =
    let blocks = g.B.BlockStore.blocks in
    let inv = c.nodes.invariant in
    let first = ListOf (elements (blocks c.args.store.now) c.args.list.now) in
    let made = ListOf (elements (blocks c.nodes.store) c.nodes.list) in
    let more = ListOf (elements (blocks c.read_node.new.store) c.read_node.new.list) in
    let rest = c.args.count - (c.nodes.counter + 1) in
    let left : c.args.count - c.nodes.counter ≡ suc rest = omega (arith, c.nodes-test.true) in
    let turns = subst (λ (n : ℕ). GoesOn with_node c.args.bytes.now c.args.at c.args.count first c.nodes.next n made) left inv.turns in
    record {
      turns = turns ∙ one_on with_node with_node_exact c.args.bytes.now c.nodes.next rest made c.in-Ok.behind more c.in-Ok.ensures.adds;
      inside = c.in-Ok.ensures.adds.inside;
      sound = c.read_node.ensures.sound;
      form = λ least. c.in-Ok.ensures.form (inv.form least);
      changes = changes_then _ _ _ _ _ _ inv.changes c.read_node.ensures.changes;
      served = served_then _ _ _ inv.served c.read_node.ensures.served;
    }

pub returns-in-Err-clause-fills : goal.returns-in-Err-clause-fills
returns-in-Err-clause-fills g c =
    let blocks = g.B.BlockStore.blocks in
    let first = ListOf (elements (blocks c.args.store.now) c.args.list.now) in
    let made = ListOf (elements (blocks c.nodes.store) c.nodes.list) in
    let more = ListOf (elements (blocks c.read_node.new.store) c.read_node.new.list) in
    let rest = c.args.count - (c.nodes.counter + 1) in
    let left : c.args.count - c.nodes.counter ≡ suc rest = omega (arith, c.nodes-test.true) in
    let turns = subst (λ (n : ℕ). GoesOn with_node c.args.bytes.now c.args.at c.args.count first c.nodes.next n made) left c.nodes.invariant.turns in
    fails_on with_node with_node_exact c.args.bytes.now c.args.at c.args.count first c.nodes.next rest made more c.requires.at turns c.in-Err.fault c.in-Err.ensures.adds

pub returns-in-Err-clause-changes : goal.returns-in-Err-clause-changes
returns-in-Err-clause-changes g c = changes_then _ _ _ _ _ _ c.nodes.invariant.changes c.read_node.ensures.changes

pub returns-clause-fills : goal.returns-clause-fills
returns-clause-fills g c =
    let blocks = g.B.BlockStore.blocks in
    let first = ListOf (elements (blocks c.args.store.now) c.args.list.now) in
    let made = ListOf (elements (blocks c.nodes.store) c.nodes.list) in
    let none : c.args.count - c.nodes.counter ≡ 0 = omega (arith, c.nodes-test.false) in
    all_stand with_node with_node_exact c.args.bytes.now c.args.at c.args.count first c.nodes.next made c.requires.at c.nodes.invariant.inside
    (subst (λ (n : ℕ). GoesOn with_node c.args.bytes.now c.args.at c.args.count first c.nodes.next n made) none c.nodes.invariant.turns)
