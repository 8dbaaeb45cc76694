use Rattle.std.proofs.Common.{Some, None}
use Rattle.std.specs.Int.{w64}
use Rattle.std.proofs.lemmas.Int.{to_z-of_z}
use Rattle.cmd_values.proofs.StringLemmas.{number_read, number_none}
use Rattle.cmd_values.proofs.strings.counting.number_at.Goals as goal

pub returns-in-Missing : goal.returns-in-Missing
returns-in-Missing g c = number_none _ c.args.key.now c.in-Missing.ensures

pub returns-in-Some : goal.returns-in-Some
returns-in-Some g c =
    let typed = rw c.in-Some.is at c.number.type_inv in
    rw (to_z-of_z w64 c.in-Some.n (record { sfits = typed.1.1.1.1.0.1 }))
    (number_read _ _ c.args.key.now c.in-There.text.now (Some c.in-Some.n) c.in-There.ensures ((record { sfits = typed.1.1.1.1.0.1 }, c.in-Some.ensures.number), tt))

pub returns-in-None : goal.returns-in-None
returns-in-None g c = number_read _ _ c.args.key.now c.in-There.text.now None c.in-There.ensures (tt, c.in-None.ensures.none)
