use Rattle.std.proofs.Common.{w64, rules}
use Rattle.std.specs.Prelude.{FitsSigned}
use Rattle.std.proofs.lemmas.Int.{to_z-of_z}
use Rattle.blocks.specs.Blocks.{no_step}
use Rattle.blocks.proofs.Serve.{served_once}
use Rattle.score_table.proofs.Edits.{taken}
use Rattle.score_table.proofs.table.ScoreTable.take_out.Goals as goal

pub returns-in-Some-clause-removed : goal.returns-in-Some-clause-removed
returns-in-Some-clause-removed g c =
    let m = g.B.BlockStore.blocks c.args.store.now in
    let e = c.in-Some.ensures in
    let fits : FitsSigned w64 c.in-Some.score = search rules in
    let removes = rw (to_z-of_z w64 c.in-Some.score fits) at c.remove-there.ensures.removes in
    taken m (g.B.BlockStore.blocks c.give_back.new.self) c.args.self.now c.remove.new.self c.remove-there.new.self c.args.member.now c.in-Some.taken c.in-Some.score c.requires e.removed
    c.give_back.ensures.ended
    e.keyed c.remove-there.ensures.sorted c.remove-there.result removes e.map e.grown

pub returns-in-Some-clause-served : goal.returns-in-Some-clause-served
returns-in-Some-clause-served g c = served_once _ _ c.give_back.ensures.step

pub returns-in-None-clause-served : goal.returns-in-None-clause-served
returns-in-None-clause-served g c = no_step
