use Rattle.std.proofs.Common.{◌≡◌, ℕ, ◌+◌, take, refl, sym, ap, ◌∙◌, subst, arith}
use Rattle.std.specs.Prelude.{◌⊎◌, Some}
use Rattle.std.specs.List.{Contains}
use Rattle.std.proofs.lemmas.List.{take_all}
use Rattle.written_keys.specs.Written.{Place, at}
use Rattle.session_desk.specs.Engines.{seen}
use Rattle.session_desk.specs.Kept.{Look, Kept, looks, watching}
use Rattle.session_desk.specs.Passing.{IsOf, EachPassed}
use Rattle.session_desk.proofs.Passing.{contains_more, each_left, each_weaker, each_twice}
use Rattle.session_desk.proofs.watching.review_keys.Goals as goal

pub loop-place-init : goal.loop-place-init
loop-place-init g c =
    let told = g.E.DeskEngine.told in
    let sees = seen g.E.DeskEngine.model c.args.moment c.args.engine.now in
    record {
      passed = each_left sees (λ k one. Contains (take 0 c.args.places.now) (at one.db one.key)) (looks told c.args.session.now.watched.items) (λ k below n. let no = n.1 in omega (arith, no));
      kept = refl;
      within = c.requires.within;
    }

pub loop-place-preserved : goal.loop-place-preserved
loop-place-preserved g c =
    let told = g.E.DeskEngine.told in
    let sees = seen g.E.DeskEngine.model c.args.moment c.args.engine.now in
    let i = c.loop-place.place-index in
    let places = c.args.places.now in
    let place : Place = c.place-item.result in
    let olds = looks told c.args.session.now.watched.items in
    let mids = looks told c.loop-place.session.watched.items in
    let news = looks told c.review_key.new.session.watched.items in
    let N : ℕ → Look → Type 0 = λ k one. Contains (take i places) (at one.db one.key) in
    let M : ℕ → Look → Type 0 = λ k one. place ≡ at one.db one.key in
    let R : ℕ → Look → Type 0 = λ k one. (c.as_slice.result.now ≡ one.key) × IsOf (Some place.0) one.db in
    let passed : EachPassed M sees mids news =
    each_weaker sees R M mids news (λ k below m. (c.as_slice.ensures ∙ ap (λ (p : Place). p.1) m, sym (ap (λ (p : Place). p.0) m))) c.in_ok-review_key.ensures.passed in
    record {
      passed = each_weaker sees (λ k one. N k one ⊎ M k one) (λ k one. Contains (take (i + 1) places) (at one.db one.key)) olds news
          (λ k below n. contains_more places i place _ c.loop-place-test.true c.place-item.is n)
          (each_twice sees N M olds mids news (λ k x y same_db same_key m. m ∙ ap (λ d. at d x.key) (sym same_db) ∙ ap (at y.db) (sym same_key)) c.loop-place.invariant.passed
          passed);
      kept = c.in_ok-review_key.ensures.kept ∙ ap (λ (k : Kept). watching k news) c.loop-place.invariant.kept;
      within = c.in_ok-review_key.ensures.within;
    }

pub returns : goal.returns
returns g c =
    let told = g.E.DeskEngine.told in
    let sees = seen g.E.DeskEngine.model c.args.moment c.args.engine.now in
    record {
      passed = subst (λ l. EachPassed (λ k one. Contains l (at one.db one.key)) sees (looks told c.args.session.now.watched.items) (looks told c.loop-place.session.watched.items))
          (take_all c.loop-place.place-index c.args.places.now (omega arith)) c.loop-place.invariant.passed;
      kept = c.loop-place.invariant.kept;
      within = c.loop-place.invariant.within;
    }
