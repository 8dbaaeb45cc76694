use Rattle.std.proofs.Common.{◌≡◌, ℕ, ◌<◌, [], length, slice_index_or, refl, sym, subst, ◌∙◌, arith}
use Rattle.std.specs.List.{Contains}
use Rattle.key_marks.specs.Marked.{marks_at}
use Rattle.session_desk.specs.Engines.{seen}
use Rattle.session_desk.specs.Kept.{Look, no_look, looks}
use Rattle.session_desk.specs.Watching.{AreMarked, AreWithin, watched_keys}
use Rattle.session_desk.specs.Passing.{IsOf, EachPassed}
use Rattle.session_desk.proofs.Lists.{ok_so, ok_both}
use Rattle.session_desk.proofs.Marking.{many_keys, key_at}
use Rattle.session_desk.proofs.Passing.{each_weaker}
use Rattle.session_desk.proofs.watching.review_key.Goals as goal

pub returns-clause-passed : goal.returns-clause-passed
returns-clause-passed g c =
    let told = g.E.DeskEngine.told in
    let sees = seen g.E.DeskEngine.model c.args.moment c.args.engine.now in
    let items = c.args.session.now.watched.items in
    let marks = c.args.session.now.marks in
    let key = c.args.key.now in
    let places = c.at-places.result.now in
    let olds = looks told items in
    let news = looks told c.review_marked.new.watched.items in
    let N : ℕ → Look → Type 0 = λ k one. Contains places k × IsOf c.args.db one.db in
    let M : ℕ → Look → Type 0 = λ k one. (key ≡ one.key) × IsOf c.args.db one.db in
    let marked : (k : ℕ) (one : Look) → k < length olds → one.key ≡ (slice_index_or olds k no_look).key → M k one → N k one =
    (λ k one below is m.
    let many = many_keys told items in
    let same : slice_index_or (watched_keys items) k [] ≡ key = sym (key_at told items k) ∙ sym is ∙ sym m.0 in
    (subst (λ l. Contains l k) (sym c.at-places.ensures) (subst (λ q. Contains (marks_at marks q) k) same (c.requires.within.marked k (omega (arith, below, many)))), m.1)) in
    ok_so c.review_marked.result (λ (e : EachPassed N sees olds news). each_weaker sees N M olds news (λ k below m. marked k (slice_index_or olds k no_look) below refl m) e) c.review_marked.ensures.passed

pub returns-clause-within : goal.returns-clause-within
returns-clause-within g c =
    ok_both c.review_marked.result (λ (w : AreWithin c.review_marked.new.watched.items) (k : watched_keys c.review_marked.new.watched.items ≡ watched_keys c.args.session.now.watched.items).
    record { own = c.requires.within.own; watched = w; marked = subst (AreMarked c.args.session.now.marks) (sym k) c.requires.within.marked; queued = c.requires.within.queued })
    c.review_marked.ensures.within c.review_marked.ensures.keys
