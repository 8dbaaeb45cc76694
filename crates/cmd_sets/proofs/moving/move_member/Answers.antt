use Rattle.std.proofs.Common.{◌≡◌, [], ◌∷◌, Some, Ok, sym, ap, subst}
use Rattle.plain_world.specs.Worlds.{look}
use Rattle.plain_model.specs.SetSteps.{or_no_members}
use Rattle.keyspace.specs.Forms.{RisesWith}
use Rattle.keyspace.specs.Scopes.{one_key}
use Rattle.keyspace.specs.Insides.{size_of}
use Rattle.keyspace.specs.Commands.{visible}
use Rattle.keyspace.proofs.Settles.{settles_on}
use Rattle.cmd_sets.proofs.Telling.{before_is, formed_as, formed_risen, like_placed, risen_placed}
use Rattle.cmd_sets.proofs.Going.{differ, look_kept, before_stays, sought_item, held_from, held_both, moved_is, formed_both, placed_both}
use Rattle.cmd_sets.proofs.moving.move_member.Goals as goal

pub change_set-requires-clause-there : goal.change_set-requires-clause-there
change_set-requires-clause-there g c =
    let move = c.requires.moves in
    sought_item g.B.BlockStore.blocks c.args.keyspace.now c.args.at.now c.args.from.now c.seek-found.result (Some move.members) c.seek-found.ensures move.stands

pub change_set-requires-2-clause-there : goal.change_set-requires-2-clause-there
change_set-requires-2-clause-there g c =
    let blocks = g.B.BlockStore.blocks in
    let move = c.requires.moves in
    let old = visible blocks c.args.keyspace.now c.args.at.now in
    let mid = visible blocks c.change_set.new.keyspace c.args.at.now in
    let p = c.in_ok-change_set.ensures.changed in
    let same : look mid c.args.to.now ≡ look old c.args.to.now = look_kept old mid c.args.from.now c.args.to.now p.now (differ c.args.from.now c.args.to.now move.apart) p.world in
    sought_item blocks c.change_set.new.keyspace c.args.at.now c.args.to.now c.seek-found-2.result move.before c.seek-found-2.ensures (before_stays old mid c.args.to.now move.before same move.target)

pub returns-in_err-change_set-clause-held : goal.returns-in_err-change_set-clause-held
returns-in_err-change_set-clause-held g c = held_from g.B.BlockStore.blocks g.B.BlockStore.step c.args.at.now.db c.args.from.now c.args.to.now c.args.keyspace.now c.change_set.new.keyspace
    c.change_set.ensures.held

pub returns-in_err-change_set-2-clause-held : goal.returns-in_err-change_set-2-clause-held
returns-in_err-change_set-2-clause-held g c = held_both g.B.BlockStore.blocks g.B.BlockStore.step c.args.at.now.db c.args.from.now c.args.to.now c.args.keyspace.now
    c.change_set.new.keyspace c.change_set-2.new.keyspace c.change_set.ensures.held c.change_set-2.ensures.held

pub returns-clause-held : goal.returns-clause-held
returns-clause-held g c = held_both g.B.BlockStore.blocks g.B.BlockStore.step c.args.at.now.db c.args.from.now c.args.to.now c.args.keyspace.now c.change_set.new.keyspace
    c.change_set-2.new.keyspace c.change_set.ensures.held c.change_set-2.ensures.held

pub returns-clause-moved : goal.returns-clause-moved
returns-clause-moved g c =
    let blocks = g.B.BlockStore.blocks in
    let p = c.in_ok-change_set.ensures.changed in
    let q = c.in_ok-change_set-2.ensures.changed in
    moved_is _ (visible blocks c.args.keyspace.now c.args.at.now) (visible blocks c.change_set.new.keyspace c.args.at.now) (visible blocks c.change_set-2.new.keyspace c.args.at.now)
    c.args.from.now c.args.to.now c.args.member.now c.requires.moves c.new.result c.new.ensures
    p.before p.from p.form _ p.now p.stands p.made p.world q.before q.from q.form _ q.now q.stands q.made q.world

pub returns-clause-forms : goal.returns-clause-forms
returns-clause-forms g c =
    let blocks = g.B.BlockStore.blocks in
    let step = g.B.BlockStore.step in
    let move = c.requires.moves in
    let at = c.args.at.now in
    let from = c.args.from.now in
    let to = c.args.to.now in
    let old = visible blocks c.args.keyspace.now at in
    let mid = visible blocks c.change_set.new.keyspace at in
    let p = c.in_ok-change_set.ensures.changed in
    let q = c.in_ok-change_set-2.ensures.changed in
    let apart = differ from to move.apart in
    formed_both blocks step c.args.keyspace.now c.change_set.new.keyspace c.change_set-2.new.keyspace at from to c.args.member.now c.change_set.ensures.held c.change_set-2.ensures.held
    apart (look_kept old mid from to p.now apart p.world)
    (formed_as _ blocks step c.args.keyspace.now c.change_set.new.keyspace at from p c.change_set.ensures.held move.members (before_is old from p.before move.members p.stands move.stands)
    p.made.form_is {A = Unit {0}} {X = Unit {0}} (Ok tt))
    (formed_risen _ blocks step c.change_set.new.keyspace c.change_set-2.new.keyspace at to q c.change_set-2.ensures.held (c.args.member.now ∷ [])
    (subst (λ w. RisesWith c.change_set.new.keyspace.bases.limits q.from (or_no_members q.before) (w ∷ []) q.form) c.new.ensures q.made.risen) {A = Unit {0}} {X = Unit {0}} (Ok tt))

pub returns-clause-placed : goal.returns-clause-placed
returns-clause-placed g c =
    let blocks = g.B.BlockStore.blocks in
    let step = g.B.BlockStore.step in
    let move = c.requires.moves in
    let at = c.args.at.now in
    let from = c.args.from.now in
    let to = c.args.to.now in
    let old = visible blocks c.args.keyspace.now at in
    let mid = visible blocks c.change_set.new.keyspace at in
    let p = c.in_ok-change_set.ensures.changed in
    let q = c.in_ok-change_set-2.ensures.changed in
    let apart = differ from to move.apart in
    placed_both blocks step c.args.keyspace.now c.change_set.new.keyspace c.change_set-2.new.keyspace at from to c.args.member.now c.change_set.ensures.held c.change_set-2.ensures.held
    apart (look_kept old mid from to p.now apart p.world) move.apart
    (like_placed _ blocks step c.args.keyspace.now c.change_set.new.keyspace at from p c.change_set.ensures.held move.members (before_is old from p.before move.members p.stands move.stands)
    p.made.form_is)
    (risen_placed _ blocks step c.change_set.new.keyspace c.change_set-2.new.keyspace at to q c.change_set-2.ensures.held (c.args.member.now ∷ [])
    (subst (λ w. RisesWith c.change_set.new.keyspace.bases.limits q.from (or_no_members q.before) (w ∷ []) q.form) c.new.ensures q.made.risen))

pub returns-clause-settles : goal.returns-clause-settles
returns-clause-settles g c =
    let blocks = g.B.BlockStore.blocks in
    let at = c.args.at.now in
    let from = c.args.from.now in
    let to = c.args.to.now in
    let mid = visible blocks c.change_set.new.keyspace at in
    let new = visible blocks c.change_set-2.new.keyspace at in
    let q = c.in_ok-change_set-2.ensures.changed in
    let apart = differ from to c.requires.moves.apart in
    settles_on blocks at from (one_key at.db to) (λ named. apart (sym named.1)) c.args.keyspace.now c.change_set.new.keyspace c.change_set-2.new.keyspace
    c.change_set.ensures.held.sound.arranged c.change_set-2.ensures.held.insides (ap size_of (look_kept mid new to from q.now (λ same. apart (sym same)) q.world))
    c.in_ok-change_set.ensures.settles
