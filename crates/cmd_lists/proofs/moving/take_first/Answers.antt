use Rattle.std.proofs.Common.{Some}
use Rattle.cmd_lists.proofs.Telling.{before_is, like_there, like_placed}
use Rattle.cmd_lists.proofs.moving.take_first.Goals as goal

pub change_at-requires-clause-no_other : goal.change_at-requires-clause-no_other
change_at-requires-clause-no_other g c = record { before = Some c.requires.there.0; stands = c.requires.there.1 }

pub returns-clause-forms : goal.returns-clause-forms
returns-clause-forms g c =
    let p = c.in_ok-change_at.ensures.changed in
    like_there _ g.B.BlockStore.blocks g.B.BlockStore.step c.args.keyspace.now c.change_at.new.keyspace c.args.at.now c.args.key.now p c.change_at.ensures.held c.requires.there.0
    (before_is _ c.args.key.now p.before c.requires.there.0 p.stands c.requires.there.1) p.made.form_is

pub returns-clause-placed : goal.returns-clause-placed
returns-clause-placed g c =
    let p = c.in_ok-change_at.ensures.changed in
    like_placed _ g.B.BlockStore.blocks g.B.BlockStore.step c.args.keyspace.now c.change_at.new.keyspace c.args.at.now c.args.key.now p c.change_at.ensures.held c.requires.there.0
    (before_is _ c.args.key.now p.before c.requires.there.0 p.stands c.requires.there.1) p.made.form_is
