use Rattle.program_top.proofs.Worlds.{lent}
use Rattle.program_top.proofs.lent.serve.Goals as goal

pub returns : goal.returns
returns g c =
    let n = c.serve_noted.ensures in
    lent c.args.limit _ _ _ _ c.serve_noted.result n.goes c.served_to.result _ n.line c.requires.alive c.served_to.ensures c.status.ensures
