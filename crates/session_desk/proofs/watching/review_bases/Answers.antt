use Rattle.std.proofs.Common.{◌≡◌, sym, subst}
use Rattle.session_desk.specs.Watching.{AreMarked, AreWithin, watched_keys}
use Rattle.session_desk.proofs.Lists.{ok_both}
use Rattle.session_desk.proofs.watching.review_bases.Goals as goal

pub returns-clause-within : goal.returns-clause-within
returns-clause-within g c =
    ok_both c.review_emptied.result (λ (w : AreWithin c.review_emptied.new.watched.items) (k : watched_keys c.review_emptied.new.watched.items ≡ watched_keys c.args.session.now.watched.items).
    record { own = c.requires.within.own; watched = w; marked = subst (AreMarked c.args.session.now.marks) (sym k) c.requires.within.marked; queued = c.requires.within.queued })
    c.review_emptied.ensures.within c.review_emptied.ensures.keys
