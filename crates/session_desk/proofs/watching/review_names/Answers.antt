use Rattle.std.proofs.Common.{◌≡◌, ℕ, ◌+◌, take, ap, sym, ◌∙◌, subst, arith}
use Rattle.std.specs.Prelude.{◌⊎◌}
use Rattle.std.specs.List.{Contains}
use Rattle.std.proofs.lemmas.List.{take_all}
use Rattle.stream_groups.specs.Kept.{Name, bytes_of}
use Rattle.session_desk.specs.Engines.{seen}
use Rattle.session_desk.specs.Kept.{Look, Kept, looks, watching}
use Rattle.session_desk.specs.Passing.{EachPassed}
use Rattle.session_desk.specs.Writing.{texts_of}
use Rattle.session_desk.proofs.Passing.{mapped_cases, each_weaker, each_twice}
use Rattle.session_desk.proofs.watching.review_names.Goals as goal

pub loop-name-preserved : goal.loop-name-preserved
loop-name-preserved g c =
    let told = g.E.DeskEngine.told in
    let sees = seen g.E.DeskEngine.model c.args.moment c.args.engine.now in
    let i = c.loop-name.name-index in
    let names = c.args.names.now in
    let name : Name = c.name-item.result in
    let olds = looks told c.args.session.now.watched.items in
    let mids = looks told c.loop-name.session.watched.items in
    let news = looks told c.review_key.new.session.watched.items in
    let N : ℕ → Look → Type 0 = λ k one. Contains (texts_of (take i names)) one.key in
    let M : ℕ → Look → Type 0 = λ k one. name.items ≡ one.key in
    let R : ℕ → Look → Type 0 = λ k one. (c.deref.result.now ≡ one.key) × Unit {0} in
    let passed : EachPassed M sees mids news = each_weaker sees R M mids news (λ k below m. (c.deref.ensures.value ∙ m, tt)) c.in_ok-review_key.ensures.passed in
    record {
      passed = each_weaker sees (λ k one. N k one ⊎ M k one) (λ k one. Contains (texts_of (take (i + 1) names)) one.key) olds news
          (λ k below n. mapped_cases bytes_of names i name _ c.loop-name-test.true c.name-item.is n)
          (each_twice sees N M olds mids news (λ k x y same_db same_key m. m ∙ sym same_key) c.loop-name.invariant.passed passed);
      kept = c.in_ok-review_key.ensures.kept ∙ ap (λ (k : Kept). watching k news) c.loop-name.invariant.kept;
      within = c.in_ok-review_key.ensures.within;
    }

pub returns-clause-passed : goal.returns-clause-passed
returns-clause-passed g c =
    let told = g.E.DeskEngine.told in
    let sees = seen g.E.DeskEngine.model c.args.moment c.args.engine.now in
    subst (λ l. EachPassed (λ k one. Contains (texts_of l) one.key) sees (looks told c.args.session.now.watched.items) (looks told c.loop-name.session.watched.items))
    (take_all c.loop-name.name-index c.args.names.now (omega arith)) c.loop-name.invariant.passed
