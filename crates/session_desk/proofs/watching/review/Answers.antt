use Rattle.std.proofs.Common.{◌≡◌, ℕ, sym, ap, ◌∙◌, subst}
use Rattle.std.specs.Prelude.{◌⊎◌}
use Rattle.std.specs.List.{Contains}
use Rattle.written_keys.specs.Written.{at, IsEmptied}
use Rattle.session_desk.specs.Engines.{seen}
use Rattle.session_desk.specs.Kept.{Look, Kept, looks, kept_of, watching}
use Rattle.session_desk.specs.Passing.{Passed, EachPassed}
use Rattle.session_desk.specs.Writing.{texts_of, IsAmong}
use Rattle.session_desk.proofs.Lists.{ok_both}
use Rattle.session_desk.proofs.Passing.{each_twice}
use Rattle.session_desk.proofs.Serving.{reviewed_watched}
use Rattle.session_desk.proofs.watching.review.Goals as goal

pub returns-clause-passed : goal.returns-clause-passed
returns-clause-passed g c =
    let told = g.E.DeskEngine.told in
    let sees = seen g.E.DeskEngine.model c.args.moment c.args.engine.now in
    let written = c.args.written.now in
    let olds = looks told c.args.session.now.watched.items in
    let firsts = looks told c.review_keys.new.session.watched.items in
    let seconds = looks told c.review_bases.new.session.watched.items in
    let new = c.review_names.new.session in
    let news = looks told new.watched.items in
    let E : ℕ → Type 0 = IsEmptied written.emptied written.selected in
    let N : ℕ → Look → Type 0 = λ k one. Contains written.places.items (at one.db one.key) in
    let M : ℕ → Look → Type 0 = λ k one. E one.db in
    let L : ℕ → Look → Type 0 = λ k one. Contains (texts_of written.names.items) one.key in
    let first : EachPassed N sees olds firsts =
    subst (λ l. EachPassed (λ k one. Contains l (at one.db one.key)) sees olds firsts) c.deref.ensures.value c.in_ok-review_keys.ensures.passed in
    let second = each_twice sees N M olds firsts seconds (λ k x y same_db same_key m. subst E (sym same_db) m) first c.in_ok-review_bases.ensures.passed in
    let kept = ap (λ (s : Kept). watching s news) (c.in_ok-review_bases.ensures.kept ∙ ap (λ (s : Kept). watching s seconds) c.in_ok-review_keys.ensures.kept) in
    ok_both c.review_names.result
    (λ (e : EachPassed (λ k one. Contains (texts_of c.deref-2.result.now) one.key) sees seconds news) (k : kept_of told new ≡ watching (kept_of told c.review_bases.new.session) news).
    let third : EachPassed L sees seconds news = subst (λ l. EachPassed (λ k one. Contains (texts_of l) one.key) sees seconds news) c.deref-2.ensures.value e in
    let all = each_twice sees (λ k one. N k one ⊎ M k one) L olds seconds news (λ k x y same_db same_key m. subst (Contains (texts_of written.names.items)) (sym same_key) m) second third in
    reviewed_watched (λ one one'. Passed (IsAmong written one.db one.key) sees one one') (kept_of told c.args.session.now) (kept_of told new) (k ∙ kept) all.many all.each)
    c.review_names.ensures.passed c.review_names.ensures.kept
