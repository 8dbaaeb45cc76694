use Rattle.std.proofs.Common.{w64}
use Rattle.std.proofs.lemmas.Int.{to_z-of_z}
use Rattle.blocks.proofs.Serve.{served_next}
use Rattle.score_table.proofs.Edits.{put_sound, put_lacks, put_joined}
use Rattle.score_table.proofs.table.ScoreTable.add_hashed.Goals as goal

pub join-requires-clause-sound : goal.join-requires-clause-sound
join-requires-clause-sound g c =
    let e = c.in_ok-at.ensures in
    put_sound (g.B.BlockStore.blocks c.args.store.now) (g.B.BlockStore.blocks c.put_block.new.store) c.args.self.now c.in_ok-at.at c.args.member.now c.requires.sound e.placed e.changes

pub join-requires-clause-absent : goal.join-requires-clause-absent
join-requires-clause-absent g c =
    let e = c.in_ok-at.ensures in
    put_lacks (g.B.BlockStore.blocks c.args.store.now) (g.B.BlockStore.blocks c.put_block.new.store) c.args.self.now c.in_ok-at.at c.args.member.now c.requires.sound e.placed e.changes
    c.requires.absent

pub returns-in-Ok-clause-added : goal.returns-in-Ok-clause-added
returns-in-Ok-clause-added g c =
    let e = c.in_ok-at.ensures in
    put_joined (g.B.BlockStore.blocks c.args.store.now) (g.B.BlockStore.blocks c.put_block.new.store) c.args.self.now c.in_ok-at.at c.args.member.now c.requires.sound e.placed e.changes
    c.join.new.self c.args.score (rw (to_z-of_z w64 c.args.score c.ranges.score) at c.in-Ok.ensures.joined)

pub returns-in-Err-clause-served : goal.returns-in-Err-clause-served
returns-in-Err-clause-served g c = served_next _ _ _ c.put_block.ensures.served c.give_back.ensures.step
