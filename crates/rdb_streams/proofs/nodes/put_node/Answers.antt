use Rattle.std.proofs.Common.{◌∙◌, Ok, refl, sym, ap, subst}
use Rattle.blocks.specs.Blocks.{no_step}
use Rattle.listpack.specs.Pack.{texts}
use Rattle.stream_node.specs.Entries.{entries_of}
use Rattle.stream_node.specs.Views.{entries}
use Rattle.stream_object.specs.Streams.{nodes}
use Rattle.rdb_grammar.specs.StreamParts.{more_entries, node_on}
use Rattle.rdb_streams.specs.declared.nodes.Seen.{Seen}
use Rattle.rdb_streams.specs.Reading.{so_far}
use Rattle.rdb_streams.specs.Seeing.{seen_behind, PutsNode}
use Rattle.rdb_streams.proofs.Ordered.{found_above}
use Rattle.rdb_streams.proofs.Sights.{now_sees, now_far, still_owned, told_far}
use Rattle.rdb_streams.proofs.nodes.put_node.Goals as goal

pub returns-in-Err-clause-changes : goal.returns-in-Err-clause-changes
returns-in-Err-clause-changes g c = still_owned (g.B.BlockStore.blocks c.args.store.now) c.args.stream.now c.requires.sees.has.is_stream

pub returns-in-Err-clause-served : goal.returns-in-Err-clause-served
returns-in-Err-clause-served g c = no_step

pub behind_payload-more-requires-clause-pack : goal.behind_payload-more-requires-clause-pack
behind_payload-more-requires-clause-pack g c = c.in-Ok.ensures.pack

pub behind_payload-more-requires-clause-is_node : goal.behind_payload-more-requires-clause-is_node
behind_payload-more-requires-clause-is_node g c = c.in-Ok.ensures.is_node

pub behind_payload-more-requires-clause-entries : goal.behind_payload-more-requires-clause-entries
behind_payload-more-requires-clause-entries g c = c.in-Ok.ensures.entries

pub load_node-requires-clause-above : goal.load_node-requires-clause-above
load_node-requires-clause-above g c =
    let m = g.B.BlockStore.blocks c.args.store.now in
    let made = so_far m c.args.stream.now c.args.seen.before in
    let found = c.in-Ok.ensures.found made refl in
    found_above made c.args.key c.args.payload.now (nodes m c.args.stream.now) (more_entries made (entries c.in-Ok.node))
    c.in-Ok.ensures.pack c.in-Ok.ensures.is_node found c.requires.sees.fits c.requires.sees.has.behind

pub returns-in-Ok-load_node-clause-puts : goal.returns-in-Ok-load_node-clause-puts
returns-in-Ok-load_node-clause-puts g c =
    let m = g.B.BlockStore.blocks c.args.store.now in
    let after = g.B.BlockStore.blocks c.load_node.new.store in
    let old = c.args.stream.now in
    let new = c.load_node.new.self in
    let key = c.args.key in
    let list = texts c.args.payload.now in
    let seen = c.args.seen in
    let made = so_far m old seen.before in
    let found = c.in-Ok.ensures.found made refl in
    let above = found_above made key c.args.payload.now (nodes m old) (more_entries made (entries c.in-Ok.node))
    c.in-Ok.ensures.pack c.in-Ok.ensures.is_node found c.requires.sees.fits c.requires.sees.has.behind in
    let changed = c.in-Ok-load_node.ensures.loaded in
    let is = c.behind_payload-more.ensures ∙ ap (seen_behind seen) c.in-Ok.ensures.entries in
    let told = told_far ((node_on key made).found c.args.payload.now) made (entries c.in-Ok.node) (entries_of key list) (so_far after new (seen_behind seen (entries_of key list)).before)
    found c.in-Ok.ensures.entries (now_far m after old new key list seen c.requires.sees c.in-Ok.ensures.is_node above changed) in
    let sees = now_sees m after old new key list seen c.requires.sees c.in-Ok.ensures.is_node above changed c.in-Ok-load_node.ensures.upto in
    subst (λ (s : Seen). PutsNode ((node_on key made).found c.args.payload.now) c.args.at after new (Ok s)) (sym is) (told, sees)
