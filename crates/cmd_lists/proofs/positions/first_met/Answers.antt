use Rattle.std.proofs.Common.{◌≡◌, ◌-◌, length, arith}
use Rattle.quicklist.specs.Chain.{elements}
use Rattle.cmd_lists.proofs.Places.{first_head, first_tail}
use Rattle.cmd_lists.proofs.positions.first_met.Goals as goal

pub returns-in-Head : goal.returns-in-Head
returns-in-Head g c = rw c.in-Head.is (first_head _ _ c.seek.result c.requires c.seek.ensures)

pub returns-in-Tail : goal.returns-in-Tail
returns-in-Tail g c =
    let last : c.saturating_sub.result ≡ length (elements (g.B.BlockStore.blocks c.args.store.now) c.args.list.now) - 1 = omega (arith, c.saturating_sub.ensures, c.len.ensures, c.requires.counted) in
    rw c.in-Tail.is (first_tail _ _ c.saturating_sub.result c.seek-in-Tail.result c.requires last c.seek-in-Tail.ensures)
