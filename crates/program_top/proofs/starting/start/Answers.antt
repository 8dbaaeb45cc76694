use Rattle.std.proofs.Common.{refl, ap, false}
use Rattle.program_top.specs.WordsRead.{options_read}
use Rattle.program_top.proofs.Starts.{fresh_starts, uses_named, unused_memory}
use Rattle.program_top.proofs.starting.start.Goals as goal

pub returns-in-None-clause-starts : goal.returns-in-None-clause-starts
returns-in-None-clause-starts g c =
    let b = c.in-Ok.ensures.begun in
    fresh_starts _ c.args.options c.args.moment _ c.in-Ok.engine c.background-done.new.self c.background-done.result refl refl refl c.in-None.is b (c.background-done.ensures.rests b.new.alive)

pub returns-in-Err-clause-host : goal.returns-in-Err-clause-host
returns-in-Err-clause-host g c = unused_memory c.args.options.max_input _ _ c.in-Err.ending c.in-Err.ensures.memory

pub returns-in-Ok-load_file-clause-host : goal.returns-in-Ok-load_file-clause-host
returns-in-Ok-load_file-clause-host g c = uses_named c.args.options.max_input _ _ (g.H.Host.seen c.args.host.now) _ false
    (ap (λ file. (options_read (record c.args.options { file = file })).file) c.in-Some.is) c.in-Ok-load_file.ensures.host c.in-Ok-load_file.ensures.few

pub returns-in-Err-load_file-clause-host : goal.returns-in-Err-load_file-clause-host
returns-in-Err-load_file-clause-host g c = uses_named c.args.options.max_input _ _ (g.H.Host.seen c.args.host.now) _ _
    (ap (λ file. (options_read (record c.args.options { file = file })).file) c.in-Some.is) c.in-Err-load_file.ensures.host c.in-Err-load_file.ensures.few
