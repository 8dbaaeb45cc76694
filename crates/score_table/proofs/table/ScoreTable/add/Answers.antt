use Rattle.score_table.proofs.Edits.{lacks_member}
use Rattle.score_table.proofs.table.ScoreTable.add.Goals as goal

pub add_hashed-requires-clause-absent : goal.add_hashed-requires-clause-absent
add_hashed-requires-clause-absent g c = lacks_member (g.B.BlockStore.blocks c.args.store.now) c.args.self.now.table c.args.member.now c.requires.sound.keyed c.requires.absent
