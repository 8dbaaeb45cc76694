use Rattle.std.proofs.Common.{◌≤◌, List, ℕ, length, sym, subst}
use Rattle.blocks.specs.Blocks.{no_step}
use Rattle.rdb_grammar.specs.Places.{Stands}
use Rattle.rdb_grammar.specs.StreamParts.{longest_node, node_string}
use Rattle.rdb_grammar.specs.Views.{text_of}
use Rattle.rdb_grammar.proofs.NodeLength.{node_short}
use Rattle.rdb_streams.specs.Reading.{so_far}
use Rattle.rdb_streams.proofs.NodeParts.{no_key, no_string, node_put, node_not_put}
use Rattle.rdb_streams.proofs.Sights.{still_owned}
use Rattle.rdb_streams.proofs.nodes.read_node.Goals as goal

pub returns-in-Err-clause-reads : goal.returns-in-Err-clause-reads
returns-in-Err-clause-reads g c =
    let made = so_far (g.B.BlockStore.blocks c.args.store.now) c.args.stream.now c.args.seen.before in
    rw c.refused.ensures (no_key c.args.bytes.now c.args.at made c.in-Err.fault.kind c.in-Err.fault.at c.requires.at c.in-Err.ensures.fault)

pub returns-in-Err-clause-changes : goal.returns-in-Err-clause-changes
returns-in-Err-clause-changes g c = still_owned (g.B.BlockStore.blocks c.args.store.now) c.args.stream.now c.requires.sees.has.is_stream

pub returns-in-Err-clause-served : goal.returns-in-Err-clause-served
returns-in-Err-clause-served g c = no_step

pub returns-in-Err-next_node-clause-reads : goal.returns-in-Err-next_node-clause-reads
returns-in-Err-next_node-clause-reads g c =
    let made = so_far (g.B.BlockStore.blocks c.args.store.now) c.args.stream.now c.args.seen.before in
    let fault = c.in-Err-next_node.fault in
    rw c.refused-in-Err-next_node.ensures (no_string c.args.bytes.now c.args.at made c.in-Ok.read.1 c.in-Ok.read.0 c.in-Ok.ensures.key fault.kind fault.at c.in-Err-next_node.ensures.fault)

pub returns-in-Err-next_node-clause-changes : goal.returns-in-Err-next_node-clause-changes
returns-in-Err-next_node-clause-changes g c = still_owned (g.B.BlockStore.blocks c.args.store.now) c.args.stream.now c.requires.sees.has.is_stream

pub returns-in-Err-next_node-clause-served : goal.returns-in-Err-next_node-clause-served
returns-in-Err-next_node-clause-served g c = no_step

pub put_node-requires-clause-short : goal.put_node-requires-clause-short
put_node-requires-clause-short g c =
    subst (λ (t : List ℕ). length t ≤ longest_node) (sym c.text.ensures)
    (node_short (text_of c.in-Ok-next_node.read.0) c.args.bytes.now c.in-Ok.read.1 c.in-Ok-next_node.read.1 c.in-Ok-next_node.ensures.string)

pub returns-in-Ok-put_node-clause-reads : goal.returns-in-Ok-put_node-clause-reads
returns-in-Ok-put_node-clause-reads g c =
    let blocks = g.B.BlockStore.blocks in
    let made = so_far (blocks c.args.store.now) c.args.stream.now c.args.seen.before in
    let bytes = c.args.bytes.now in
    let place = c.in-Ok.read.1 in
    let next = c.in-Ok-next_node.read.1 in
    let payload = c.text.result.now in
    let stands = subst (λ (t : List ℕ). Stands node_string t bytes place next) (sym c.text.ensures) c.in-Ok-next_node.ensures.string in
    node_put bytes c.args.at made place c.in-Ok.read.0 c.in-Ok.ensures.key next payload stands (blocks c.put_node.new.store) c.put_node.new.stream c.in-Ok-put_node.more c.in-Ok-put_node.ensures.puts

pub returns-in-Err-put_node-clause-reads : goal.returns-in-Err-put_node-clause-reads
returns-in-Err-put_node-clause-reads g c =
    let blocks = g.B.BlockStore.blocks in
    let made = so_far (blocks c.args.store.now) c.args.stream.now c.args.seen.before in
    let bytes = c.args.bytes.now in
    let place = c.in-Ok.read.1 in
    let next = c.in-Ok-next_node.read.1 in
    let payload = c.text.result.now in
    let stands = subst (λ (t : List ℕ). Stands node_string t bytes place next) (sym c.text.ensures) c.in-Ok-next_node.ensures.string in
    node_not_put bytes c.args.at made place c.in-Ok.read.0 c.in-Ok.ensures.key next payload stands (blocks c.put_node.new.store) c.put_node.new.stream c.in-Err-put_node.fault
    c.in-Err-put_node.ensures.puts
