use Rattle.std.proofs.Common.{◌≡◌, ◌<◌, ◌++◌, [], ◌∷◌, length, false, sym, ap, subst, ◌∙◌, arith}
use Rattle.std.specs.List.{All}
use Rattle.std.specs.FinMap.{insert}
use Rattle.std.proofs.lemmas.List.{map-append, length-map}
use Rattle.std.proofs.lemmas.List.Elements.{All-push}
use Rattle.key_marks.specs.Marked.{marks_at}
use Rattle.session_desk.specs.declared.session.Watch.{Watch}
use Rattle.session_desk.specs.Watching.{AreMarked, watched_keys}
use Rattle.session_desk.proofs.Marking.{marked_more}
use Rattle.session_desk.proofs.watching.watch_key.Goals as goal

pub returns-clause-within : goal.returns-clause-within
returns-clause-within g c =
    let items = c.args.session.now.watched.items in
    let marks = c.args.session.now.marks in
    let keys = watched_keys items in
    let key = c.args.key.now in
    let one : Watch g.row.E-Told.Denot = record { db = c.args.session.now.db; key = c.in_ok-key.key; first = c.in_ok-first.first; has_changed = false } in
    let long = length-map items (λ (w : Watch g.row.E-Told.Denot). w.key.items) in
    let many : c.len.result ≡ length keys = search (arith, long) in
    let marks_are = c.in_ok-add.ensures ∙ ap (λ n. insert marks key (marks_at marks key ++ n ∷ [])) many in
    let keys_are : watched_keys c.push.new.self.items ≡ keys ++ key ∷ [] =
    ap watched_keys c.in_ok-push.ensures.items ∙ map-append (λ (w : Watch g.row.E-Told.Denot). w.key.items) items (one ∷ []) ∙ ap (λ k. keys ++ k ∷ []) c.in_ok-key.ensures.items in
    record {
      own = c.requires.within.own;
      watched = subst (All (λ w. w.db < 16)) (sym c.in_ok-push.ensures.items) (All-push (λ (w : Watch g.row.E-Told.Denot). w.db < 16) items one c.requires.within.watched c.requires.within.own);
      marked = subst (λ l. AreMarked c.add.new.self l) (sym keys_are) (subst (λ m. AreMarked m (keys ++ key ∷ [])) (sym marks_are) (marked_more marks keys key c.requires.within.marked));
      queued = c.requires.within.queued;
    }
