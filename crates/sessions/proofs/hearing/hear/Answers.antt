use Rattle.std.proofs.Common.{[]}
use Rattle.sessions.proofs.Hearings.{hears_ended, hears_nothing, hears_all, hears_quit, hears_fault, hears_memory, hears_broken, hears_unwritten}
use Rattle.sessions.proofs.hearing.hear.Goals as goal

pub returns-in-None : goal.returns-in-None
returns-in-None g c = hears_ended g.E.Sessions.turns g.E.Server.executes g.E.Server.works c.args.session c.args.bytes.now c.args.slot.now _ _ _ _ c.in-None.ensures.opened c.in-None.ensures.left

pub returns-in-Err : goal.returns-in-Err
returns-in-Err g c = hears_nothing g.E.Sessions.turns g.E.Server.executes g.E.Server.works c.args.session c.args.bytes.now c.args.slot.now _ _ _

pub returns-in-All : goal.returns-in-All
returns-in-All g c =
    let a = c.in-All.ensures in
    hears_all g.E.Sessions.turns g.E.Server.executes g.E.Server.works c.args.session c.args.bytes.now c.args.slot.now _ _ c.in-Some.ensures.opened c.in-Ok.ensures.ok _ _ _ _ _ _ _ a.0 a.1 a.2

pub returns-in-Ok-write_fault : goal.returns-in-Ok-write_fault
returns-in-Ok-write_fault g c =
    let a = c.in-Broken.ensures in
    hears_broken g.E.Sessions.turns g.E.Server.executes g.E.Server.works c.args.session c.args.bytes.now c.args.slot.now _ _ c.in-Some.ensures.opened c.in-Ok.ensures.ok _ _ _ _ _ _ _ a.0
    c.in-Broken.rule c.in-Broken.at a.1 a.2 _ _ _ c.in-Some.ensures.left c.in-Ok-write_fault.ensures

pub returns-in-Broken : goal.returns-in-Broken
returns-in-Broken g c =
    let a = c.in-Broken.ensures in
    hears_unwritten g.E.Sessions.turns g.E.Server.executes g.E.Server.works c.args.session c.args.bytes.now c.args.slot.now _ _ c.in-Some.ensures.opened c.in-Ok.ensures.ok _ _ _ _ _ _ _ a.0
    c.in-Broken.rule c.in-Broken.at a.1 a.2 _ c.in-Err-write_fault.ensures

pub returns-in-Quit : goal.returns-in-Quit
returns-in-Quit g c =
    hears_quit g.E.Sessions.turns g.E.Server.executes g.E.Server.works c.args.session c.args.bytes.now c.args.slot.now _ _ c.in-Some.ensures.opened c.in-Ok.ensures.ok _ _ _ _ _ _ _
    c.in-Some.ensures.left c.in-Quit.ensures

pub returns-in-Fault : goal.returns-in-Fault
returns-in-Fault g c =
    hears_fault g.E.Sessions.turns g.E.Server.executes g.E.Server.works c.args.session c.args.bytes.now c.args.slot.now _ _ c.in-Some.ensures.opened c.in-Ok.ensures.ok _ _ _ _ _ [] c.in-Fault.ensures

pub returns : goal.returns
returns g c =
    let a = c.in-Memory.ensures in
    hears_memory g.E.Sessions.turns g.E.Server.executes g.E.Server.works c.args.session c.args.bytes.now c.args.slot.now _ _ c.in-Some.ensures.opened c.in-Ok.ensures.ok _ _ _ _ _ _ a.0 a.2
