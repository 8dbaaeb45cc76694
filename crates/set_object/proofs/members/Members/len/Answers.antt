use Rattle.std.proofs.Common.{sym, ◌∙◌, ap}
use Rattle.set_object.proofs.Bodies.{len_of, body_len}
use Rattle.set_object.proofs.members.Members.len.Goals as goal

pub returns-in-Empty : goal.returns-in-Empty
returns-in-Empty c = λ m s. ap body_len (sym c.in-Empty.is) ∙ len_of m c.args.self.now.limits c.args.self.now.seed c.args.self.now.body s.body

pub returns-in-Numbers : goal.returns-in-Numbers
returns-in-Numbers c = λ m s. ap body_len (sym c.in-Numbers.is) ∙ len_of m c.args.self.now.limits c.args.self.now.seed c.args.self.now.body s.body

pub returns-in-Pack : goal.returns-in-Pack
returns-in-Pack c = λ m s. ap body_len (sym c.in-Pack.is) ∙ len_of m c.args.self.now.limits c.args.self.now.seed c.args.self.now.body s.body

pub returns-in-Table : goal.returns-in-Table
returns-in-Table c = λ m s. c.len.ensures.value ∙ ap body_len (sym c.in-Table.is) ∙ len_of m c.args.self.now.limits c.args.self.now.seed c.args.self.now.body s.body
