use Rattle.std.proofs.Common.{ℕ, List, inl, inr, subst}
use Rattle.outside.specs.Streams.{SinkSeen}
use Rattle.program_top.specs.declared.ending.Ending.TheVariants as endings
use Rattle.program_top.specs.Ends.{EndsBy}
use Rattle.program_top.proofs.process.run_behind.Goals as goal

pub returns-in-Ok : goal.returns-in-Ok
returns-in-Ok g c =
    let P : List (List ℕ) → Type 0 = λ words. g.P.Program.comes_to words (g.N.Sink.seen c.args.notes.now) (g.N.Sink.seen c.run.new.notes) c.in-Ok.status in
    inl (subst P c.behind.ensures c.in-Ok.ensures.status)

pub returns-in-Err : goal.returns-in-Err
returns-in-Err g c =
    let P : SinkSeen → Type 0 = λ noted. EndsBy endings.Memory noted (g.N.Sink.seen c.not_begun.new.notes) c.not_begun.result in
    inr (subst P c.in-Err.ensures.untouched c.not_begun.ensures)
