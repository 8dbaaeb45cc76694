use Rattle.std.proofs.Common.{sym, ◌∙◌, ap}
use Rattle.hash_object.proofs.Bodies.{len_of, body_len}
use Rattle.hash_object.proofs.fields.Fields.len.Goals as goal

pub returns-in-Empty : goal.returns-in-Empty
returns-in-Empty c = λ m s. ap body_len (sym c.in-Empty.is) ∙ len_of m c.args.self.now.limits c.args.self.now.seed c.args.self.now.body s.body

pub returns-in-Pack : goal.returns-in-Pack
returns-in-Pack c = λ m s. ap body_len (sym c.in-Pack.is) ∙ len_of m c.args.self.now.limits c.args.self.now.seed c.args.self.now.body s.body

pub returns-in-Table : goal.returns-in-Table
returns-in-Table c = λ m s. c.len.ensures.value ∙ ap body_len (sym c.in-Table.is) ∙ len_of m c.args.self.now.limits c.args.self.now.seed c.args.self.now.body s.body
