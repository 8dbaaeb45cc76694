use Rattle.std.proofs.Common.{◌≡◌, inl, inr, ℕ, ◌+◌, take, get_or, sym, ◌∙◌, subst, arith}
use Rattle.std.specs.Prelude.{◌⊎◌}
use Rattle.std.specs.List.{Contains}
use Rattle.std.proofs.lemmas.List.{take_all, get_or_default}
use Rattle.session_desk.specs.Engines.{seen}
use Rattle.session_desk.specs.Kept.{Look, looks}
use Rattle.session_desk.specs.Passing.{IsOf, EachPassed}
use Rattle.session_desk.proofs.Passing.{contains_more, each_weaker, each_twice}
use Rattle.session_desk.proofs.watching.review_marked.Goals as goal

pub loop-place-preserved : goal.loop-place-preserved
loop-place-preserved g c =
    let told = g.E.DeskEngine.told in
    let sees = seen g.E.DeskEngine.model c.args.moment c.args.engine.now in
    let i = c.loop-place.place-index in
    let places = c.args.places.now in
    let place = get_or places i 0 in
    let is : place ≡ get_or places i place = get_or_default places i 0 place c.loop-place-test.true in
    let db = c.args.db in
    let olds = looks told c.args.watched.now.items in
    let mids = looks told c.loop-place.watched.items in
    let news = looks told c.review_place.new.watched.items in
    let N : ℕ → Look → Type 0 = λ k one. Contains (take i places) k × IsOf db one.db in
    let M : ℕ → Look → Type 0 = λ k one. (place ≡ k) × IsOf db one.db in
    record {
      passed = each_weaker sees (λ k one. N k one ⊎ M k one) (λ k one. Contains (take (i + 1) places) k × IsOf db one.db) olds news
          (λ k below n. elim (contains_more places i place k c.loop-place-test.true is n.0) [
            | inl before ↦ inl (before, n.1)
            | inr now ↦ inr (now, n.1)
          ])
          (each_twice sees N M olds mids news (λ k x y same_db same_key m. (m.0, subst (IsOf db) (sym same_db) m.1)) c.loop-place.invariant.passed c.in_ok-review_place.ensures.passed);
      within = c.in_ok-review_place.ensures.within;
      keys = c.in_ok-review_place.ensures.keys ∙ c.loop-place.invariant.keys;
    }

pub returns-clause-passed : goal.returns-clause-passed
returns-clause-passed g c =
    let told = g.E.DeskEngine.told in
    let sees = seen g.E.DeskEngine.model c.args.moment c.args.engine.now in
    subst (λ l. EachPassed (λ k one. Contains l k × IsOf c.args.db one.db) sees (looks told c.args.watched.now.items) (looks told c.loop-place.watched.items))
    (take_all c.loop-place.place-index c.args.places.now (omega arith)) c.loop-place.invariant.passed
