use Rattle.std.proofs.Common.{refl, subst, Some}
use Rattle.rax_packed.specs.Turns.{IsChosen}
use Rattle.rax_packed.proofs.Turnings.{turned}
use Rattle.rax_packed.proofs.seek.next_turn.Goals as goal

pub returns-clause-some : goal.returns-clause-some
returns-clause-some c =
    let at = c.read_sections-node.ensures in
    turned c.args.up c.args.bytes.now c.args.place c.in_ok-at.at c.args.depth c.args.path.now c.read_sections-node.result.prefix.now c.read_sections-node.result.edges.now
    c.read_sections-node.result.refs.now _ c.requires.inner
    (subst (λ n. IsChosen c.args.up n c.args.place (Some c.in_ok-at.at)) at.count c.in_ok-at.ensures) at.prefix at.edges at.refs c.link.ensures refl c.stepped.ensures
