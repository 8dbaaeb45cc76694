use Rattle.listpack.proofs.walks.Pack.seek_from_front.Goals as goal

pub next-requires : goal.next-requires
next-requires c = (c.loop.counter, c.loop.invariant)
