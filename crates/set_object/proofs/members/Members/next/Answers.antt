use Rattle.std.proofs.Common.{arith}
use Rattle.set_object.proofs.Ranks.{place_inside, listed_len}
use Rattle.set_object.proofs.members.Members.next.Goals as goal

pub overflow_sub-left : goal.overflow_sub-left
overflow_sub-left g c =
    let m = g.B.BlockStore.blocks c.args.store.now in
    let self = c.args.self.now in
    let n = c.len.ensures m c.requires.sound in
    omega (
      arith,
      n,
      listed_len m self.limits self.seed self.body c.requires.sound.body,
      place_inside m self.limits self.seed self.body c.args.cursor.index c.args.cursor.place
          c.requires.sound.body c.requires.cursor,
    )

pub returns-then-left-eq1 : goal.returns-then-left-eq1
returns-then-left-eq1 g c =
    let m = g.B.BlockStore.blocks c.args.store.now in
    let self = c.args.self.now in
    let n = c.len.ensures m c.requires.sound in
    omega (
      arith,
      n,
      c.if-left-eq1.true,
      listed_len m self.limits self.seed self.body c.requires.sound.body,
      place_inside m self.limits self.seed self.body c.args.cursor.index
          c.args.cursor.place c.requires.sound.body c.requires.cursor,
    )
