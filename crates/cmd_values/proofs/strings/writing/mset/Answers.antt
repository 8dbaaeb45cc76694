use Rattle.keyspace.specs.Forms.{Whole}
use Rattle.keyspace.proofs.Forming.{formed_ok}
use Rattle.cmd_values.proofs.strings.writing.mset.Goals as goal
use Rattle.keyspace.specs.Forms.{places_whole}
use Rattle.keyspace.proofs.Forming.{formed_both, placed_ok}

pub returns-clause-forms : goal.returns-clause-forms
returns-clause-forms g c =
    formed_both g.B.BlockStore.blocks Whole (places_whole c.args.at.now.db c.args.pairs.now) c.args.keyspace.now c.put_pairs.new.keyspace c.simple.result
    (formed_ok g.B.BlockStore.blocks Whole c.args.keyspace.now c.put_pairs.new.keyspace c.simple.result c.in_ok-put_pairs.ensures.forms)
    (placed_ok g.B.BlockStore.blocks (places_whole c.args.at.now.db c.args.pairs.now) c.args.keyspace.now c.put_pairs.new.keyspace c.simple.result c.in_ok-put_pairs.ensures.whole)
