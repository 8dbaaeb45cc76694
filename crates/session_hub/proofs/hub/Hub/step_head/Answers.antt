use Rattle.std.proofs.Common.{arith}
use Rattle.session_hub.proofs.Stepped.{head_step_on, head_step_unknown, head_step_ends, head_step_alone}
use Rattle.session_hub.proofs.hub.Hub.step_head.Goals as goal

pub returns-in-Open : goal.returns-in-Open
returns-in-Open c =
    head_step_on c.self.inside.sessions c.self.inside.place c.args.self.now c.args.chunk.now c.self.inside.head.items c.push.new.self.items c.deref.result.now c.self.view_is c.requires.head
    c.requires.some c.push.ensures.items c.deref.ensures.0 c.in-Open.ensures

pub returns-in-Unknown : goal.returns-in-Unknown
returns-in-Unknown c =
    head_step_unknown c.self.inside.sessions c.self.inside.place c.args.self.now c.args.chunk.now c.self.inside.head.items c.push.new.self.items c.deref.result.now c.self.view_is
    c.requires.head c.requires.some c.push.ensures.items c.deref.ensures.0 c.in-Unknown.ensures

pub returns-then-long-gt0 : goal.returns-then-long-gt0
returns-then-long-gt0 c =
    head_step_ends c.self.inside.sessions c.self.inside.place c.args.self.now c.args.chunk.now c.self.inside.head.items c.push.new.self.items c.deref.result.now c.self.view_is
    c.requires.head c.requires.some c.push.ensures.items c.deref.ensures.0 c.in-Whole.session c.in-Whole.long c.in-Whole.ensures c.if-long-gt0.true

pub returns-else-long-gt0 : goal.returns-else-long-gt0
returns-else-long-gt0 c =
    let none = c.if-long-gt0.false in
    head_step_alone c.self.inside.sessions c.self.inside.place c.args.self.now c.args.chunk.now c.self.inside.head.items c.push.new.self.items c.deref.result.now c.self.view_is
    c.requires.head c.requires.some c.push.ensures.items c.deref.ensures.0 c.in-Whole.session c.in-Whole.long c.clear.new.self.items c.in-Whole.ensures (omega (arith, none))
    c.clear.ensures
