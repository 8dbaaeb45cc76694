use Rattle.blocks.specs.Blocks.{no_step}
use Rattle.rdb_streams.specs.Reading.{so_far}
use Rattle.rdb_streams.proofs.NodeParts.{counted_stand, counted_fail}
use Rattle.rdb_streams.proofs.Sights.{still_owned}
use Rattle.rdb_streams.proofs.nodes.read_nodes.Goals as goal

pub returns-in-Err-clause-changes : goal.returns-in-Err-clause-changes
returns-in-Err-clause-changes g c = still_owned (g.B.BlockStore.blocks c.args.store.now) c.args.stream.now c.requires.is_stream

pub returns-in-Err-clause-served : goal.returns-in-Err-clause-served
returns-in-Err-clause-served g c = no_step

pub returns-in-Ok-read_some-clause-reads : goal.returns-in-Ok-read_some-clause-reads
returns-in-Ok-read_some-clause-reads g c =
    let m = g.B.BlockStore.blocks c.read_some.new.store in
    let s = c.read_some.new.stream in
    let seen = c.in-Ok-read_some.seen in
    let reads = c.in-Ok-read_some.ensures.reads in
    (seen.before, counted_stand c.args.bytes.now c.args.at c.in-Ok.read.1 c.in-Ok.read.0 c.in-Ok.ensures.number c.in-Ok-read_some.behind (so_far m s seen.before) reads.0, reads.1.has)

pub returns-in-Err-read_some-clause-reads : goal.returns-in-Err-read_some-clause-reads
returns-in-Err-read_some-clause-reads g c =
    let m = g.B.BlockStore.blocks c.read_some.new.store in
    counted_fail c.args.bytes.now c.args.at c.in-Ok.read.1 c.in-Ok.read.0 c.in-Ok.ensures.number m c.read_some.new.stream c.in-Err-read_some.fault c.in-Err-read_some.ensures.reads
