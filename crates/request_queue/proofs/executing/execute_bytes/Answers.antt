use Rattle.std.proofs.Common.{ap, subst}
use Rattle.plain_world.specs.Words.{Words}
use Rattle.request_queue.proofs.Given.{lent_is}
use Rattle.request_queue.proofs.executing.execute_bytes.Goals as goal

pub returns-in-Ok-clause-executes : goal.returns-in-Ok-clause-executes
returns-in-Ok-clause-executes g c = λ words r same.
    let E : Words → Type 0 = λ w. g.E.Server.executes c.args.moment c.args.engine.now w c.in-Ok.done.reply c.execute.new.self in
    subst E
    (lent_is words c.current.result c.args.bytes.now c.new-feeder.result c.feed.new.self c.next_request.new.self c.in-Ok-true.field-0 (ap (λ f. f.kept) c.new-feeder.ensures)
    c.in_ok-feed.ensures.ok c.in-Ok-true.field-0-test c.in-Ok-true.ensures.next c.current.ensures r same) c.in-Ok.ensures.executes
