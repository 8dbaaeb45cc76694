use Rattle.cmd_lists.proofs.Places.{behind_head, behind_tail}
use Rattle.cmd_lists.proofs.positions.met_behind.Goals as goal

pub returns-in-Head : goal.returns-in-Head
returns-in-Head g c k meets = rw c.in-Head.is (behind_head _ _ k c.args.cursor c.next.result c.requires.quick (rw c.in-Head.is at meets) c.next.ensures)

pub returns-in-Tail : goal.returns-in-Tail
returns-in-Tail g c k meets = rw c.in-Tail.is (behind_tail _ _ k c.args.cursor c.prev.result c.requires.quick (rw c.in-Tail.is at meets) c.prev.ensures)
