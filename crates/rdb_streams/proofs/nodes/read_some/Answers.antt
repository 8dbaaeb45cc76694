use Rattle.std.proofs.Common.{◌≡◌, ℕ, suc, ◌-◌, ◌+◌, sym, ap, subst, ◌∙◌, refl, drop, arith}
use Rattle.blocks.specs.Blocks.{no_step}
use Rattle.blocks.proofs.Change.{changes_then}
use Rattle.blocks.proofs.Serve.{served_then}
use Rattle.rdb_grammar.specs.Format.{in_turn}
use Rattle.rdb_grammar.specs.StreamParts.{Nodes, with_node, no_nodes}
use Rattle.rdb_grammar.proofs.StreamsExact.{with_node_exact}
use Rattle.rdb_grammar.proofs.Turns.{GoesOn, all_stand}
use Rattle.rdb_streams.specs.Reading.{so_far}
use Rattle.rdb_streams.proofs.NodeParts.{nodes_on, nodes_fail}
use Rattle.rdb_streams.proofs.Sights.{none_far, none_seen, still_owned}
use Rattle.rdb_streams.proofs.nodes.read_some.Goals as goal

pub nodes-init : goal.nodes-init
nodes-init g c =
    let m = g.B.BlockStore.blocks c.args.store.now in
    let s = c.args.stream.now in
    let rest = drop c.args.at c.args.bytes.now in
    let none : c.args.count - 0 ≡ c.args.count = omega arith in
    record {
      turns = ap (λ (n : ℕ). (in_turn with_node n no_nodes).read rest) (sym none)
          ∙ ap (λ (made : Nodes). (in_turn with_node (c.args.count - 0) made).read rest) (sym (none_far m s c.requires.none));
      inside = c.requires.at;
      sees = none_seen m s c.requires.is_stream c.requires.none;
      groups = refl;
      changes = still_owned m s c.requires.is_stream;
      served = no_step;
    }

pub nodes-preserved : goal.nodes-preserved
nodes-preserved g c =
    let blocks = g.B.BlockStore.blocks in
    let inv = c.nodes.invariant in
    let made = so_far (blocks c.nodes.store) c.nodes.stream c.nodes.seen.before in
    let more = so_far (blocks c.read_node.new.store) c.read_node.new.stream c.in-Ok.more.before in
    let rest = c.args.count - (c.nodes.counter + 1) in
    let left : c.args.count - c.nodes.counter ≡ suc rest = omega (arith, c.nodes-test.true) in
    let turns = subst (λ (n : ℕ). GoesOn with_node c.args.bytes.now c.args.at c.args.count no_nodes c.nodes.next n made) left inv.turns in
    record {
      turns = nodes_on c.args.bytes.now c.args.at c.args.count no_nodes c.nodes.next rest made c.in-Ok.behind more turns c.in-Ok.ensures.reads.0;
      inside = c.in-Ok.ensures.reads.0.inside;
      sees = c.in-Ok.ensures.reads.1;
      groups = c.read_node.ensures.groups ∙ inv.groups;
      changes = changes_then _ _ _ _ _ _ inv.changes c.read_node.ensures.changes;
      served = served_then _ _ _ inv.served c.read_node.ensures.served;
    }

pub read_node-requires-clause-sees : goal.read_node-requires-clause-sees
read_node-requires-clause-sees g c = c.nodes.invariant.sees

pub read_node-requires-clause-at : goal.read_node-requires-clause-at
read_node-requires-clause-at g c = c.nodes.invariant.inside

pub returns-in-Err-clause-reads : goal.returns-in-Err-clause-reads
returns-in-Err-clause-reads g c =
    let blocks = g.B.BlockStore.blocks in
    let made = so_far (blocks c.nodes.store) c.nodes.stream c.nodes.seen.before in
    let rest = c.args.count - (c.nodes.counter + 1) in
    let left : c.args.count - c.nodes.counter ≡ suc rest = omega (arith, c.nodes-test.true) in
    let turns = subst (λ (n : ℕ). GoesOn with_node c.args.bytes.now c.args.at c.args.count no_nodes c.nodes.next n made) left c.nodes.invariant.turns in
    nodes_fail c.args.bytes.now c.args.at c.args.count no_nodes c.nodes.next rest made (blocks c.read_node.new.store) c.read_node.new.stream c.requires.at turns c.in-Err.fault c.in-Err.ensures.reads

pub returns-in-Err-clause-groups : goal.returns-in-Err-clause-groups
returns-in-Err-clause-groups g c = c.read_node.ensures.groups ∙ c.nodes.invariant.groups

pub returns-in-Err-clause-changes : goal.returns-in-Err-clause-changes
returns-in-Err-clause-changes g c = changes_then _ _ _ _ _ _ c.nodes.invariant.changes c.read_node.ensures.changes

pub returns-in-Err-clause-served : goal.returns-in-Err-clause-served
returns-in-Err-clause-served g c = served_then _ _ _ c.nodes.invariant.served c.read_node.ensures.served

pub returns-clause-reads : goal.returns-clause-reads
returns-clause-reads g c =
    let blocks = g.B.BlockStore.blocks in
    let made = so_far (blocks c.nodes.store) c.nodes.stream c.nodes.seen.before in
    let none : c.args.count - c.nodes.counter ≡ 0 = omega (arith, c.nodes-test.false) in (
      all_stand with_node with_node_exact c.args.bytes.now c.args.at c.args.count no_nodes c.nodes.next made c.requires.at c.nodes.invariant.inside
          (subst (λ (n : ℕ). GoesOn with_node c.args.bytes.now c.args.at c.args.count no_nodes c.nodes.next n made) none c.nodes.invariant.turns),
      c.nodes.invariant.sees,
    )
