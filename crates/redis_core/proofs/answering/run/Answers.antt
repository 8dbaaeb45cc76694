use Rattle.std.proofs.Common.{Ok, sym, subst}
use Rattle.redis_core.specs.Engines.{Answers}
use Rattle.redis_core.proofs.Steps.{select_answers, slabs_answers, rehash_answers, defrag_answers, ok_told}
use Rattle.redis_core.proofs.answering.run.Goals as goal

pub returns-in-Some-Select-clause-answers : goal.returns-in-Some-Select-clause-answers
returns-in-Some-Select-clause-answers g c =
    subst
    (Answers g.B.BlockStore.blocks g.B.BlockStore.heap g.B.BlockStore.step c.args.keyspace.now c.args.keyspace.now c.args.walk.now c.args.walk.now c.args.at.now
    (Ok c.args.command.now)) (sym c.replied.ensures)
    (select_answers g.B.BlockStore.blocks g.B.BlockStore.heap g.B.BlockStore.step c.args.at.now c.args.walk.now c.args.keyspace.now c.args.command.now _ c.simple.result c.requires.ready
    c.requires.asked (rw c.in-Some-Select.field-0-is at c.in-Some-Select.ensures.some) (ok_told c.simple.result _ c.ok.ensures c.simple.ensures))

pub returns-in-Some-Rehash-clause-answers : goal.returns-in-Some-Rehash-clause-answers
returns-in-Some-Rehash-clause-answers g c =
    subst
    (Answers g.B.BlockStore.blocks g.B.BlockStore.heap g.B.BlockStore.step c.args.keyspace.now c.debug_rehash.new.keyspace c.args.walk.now c.args.walk.now c.args.at.now
    (Ok c.args.command.now)) (sym c.replied-in-Some-Rehash.ensures)
    (rehash_answers g.B.BlockStore.blocks g.B.BlockStore.heap g.B.BlockStore.step c.args.at.now c.args.walk.now c.args.keyspace.now c.debug_rehash.new.keyspace c.args.command.now _
    c.requires.ready c.debug_rehash.ensures.means c.debug_rehash.ensures.sound c.debug_rehash.ensures.settings c.debug_rehash.result
    (rw c.in-Some-Rehash.field-0-is at c.in-Some-Rehash.ensures.some) c.debug_rehash.ensures.store c.debug_rehash.ensures.shows)

pub returns-in-Some-Defrag-clause-answers : goal.returns-in-Some-Defrag-clause-answers
returns-in-Some-Defrag-clause-answers g c =
    let d = c.debug_defrag.ensures in
    subst
    (Answers g.B.BlockStore.blocks g.B.BlockStore.heap g.B.BlockStore.step c.args.keyspace.now c.debug_defrag.new.keyspace c.args.walk.now c.debug_defrag.new.walk c.args.at.now
    (Ok c.args.command.now)) (sym c.replied-in-Some-Defrag.ensures)
    (defrag_answers g.B.BlockStore.blocks g.B.BlockStore.heap g.B.BlockStore.step c.args.at.now c.args.walk.now c.args.keyspace.now c.debug_defrag.new.keyspace c.args.command.now _
    c.requires.ready d.means d.sound d.settings c.debug_defrag.new.walk c.debug_defrag.result (rw c.in-Some-Defrag.field-0-is at c.in-Some-Defrag.ensures.some) d.defragged d.err)

pub returns-in-Some-Slabs-clause-answers : goal.returns-in-Some-Slabs-clause-answers
returns-in-Some-Slabs-clause-answers g c =
    subst
    (Answers g.B.BlockStore.blocks g.B.BlockStore.heap g.B.BlockStore.step c.args.keyspace.now c.args.keyspace.now c.args.walk.now c.args.walk.now c.args.at.now
    (Ok c.args.command.now)) (sym c.replied-in-Some-Slabs.ensures)
    (slabs_answers g.B.BlockStore.blocks g.B.BlockStore.heap g.B.BlockStore.step c.args.at.now c.args.walk.now c.args.keyspace.now c.args.command.now c.memory_slabs.result c.requires.ready
    (rw c.in-Some-Slabs.field-0-is at c.in-Some-Slabs.ensures.some) c.memory_slabs.ensures)
