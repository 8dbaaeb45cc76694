use Rattle.std.proofs.Common.{◌≡◌, inl, inr, ℕ, ◌+◌, ◌<◌, length, get_or, set, refl, sym, ap, ◌∙◌, subst, arith}
use Rattle.std.specs.Prelude.{◌⊎◌}
use Rattle.std.proofs.lemmas.Bool.{cases_eq}
use Rattle.std.proofs.lemmas.List.{length-map, get_or-map, map-set}
use Rattle.std.proofs.lemmas.List.Elements.{All-set}
use Rattle.written_keys.specs.Written.{IsEmptied}
use Rattle.session_desk.specs.Engines.{seen}
use Rattle.session_desk.specs.Kept.{Look, no_look, look_of, looks}
use Rattle.session_desk.specs.Passing.{Passed, EachPassed}
use Rattle.session_desk.proofs.Marking.{same_keys}
use Rattle.session_desk.proofs.Passing.{passed_weaker, each_left, each_weaker, each_twice, each_one}
use Rattle.session_desk.proofs.watching.review_emptied.Goals as goal

pub loop-index-init : goal.loop-index-init
loop-index-init g c =
    let told = g.E.DeskEngine.told in
    let sees = seen g.E.DeskEngine.model c.args.moment c.args.engine.now in
    record {
      passed = each_left sees (λ k one. (k < 0) × IsEmptied c.args.emptied c.args.selected one.db) (looks told c.args.watched.now.items) (λ k below n. let no = n.0 in omega (arith, no));
      within = c.requires.within;
      keys = refl;
    }

pub loop-index-preserved : goal.loop-index-preserved
loop-index-preserved g c =
    let told = g.E.DeskEngine.told in
    let sees = seen g.E.DeskEngine.model c.args.moment c.args.engine.now in
    let i = c.loop-index.index in
    let items = c.loop-index.watched.items in
    let x = c.index_mut.result.now in
    let y = c.review_in.new.watch in
    let E : ℕ → Type 0 = IsEmptied c.args.emptied c.args.selected in
    let olds = looks told c.args.watched.now.items in
    let mids = looks told items in
    let here : i < length items = search arith in
    let long = length-map items (look_of told) in
    let inside : i < length mids = omega (arith, here, long) in
    let at : get_or mids i no_look ≡ look_of told x = get_or-map (look_of told) items i x no_look here ∙ ap (look_of told) (sym c.index_mut.ensures.value) in
    let N : ℕ → Look → Type 0 = λ k one. (k < i) × E one.db in
    let M : ℕ → Look → Type 0 = λ k one. (k ≡ i) × E one.db in
    let one : Passed (M i (get_or mids i no_look)) sees (get_or mids i no_look) (look_of told y) =
    subst (λ (z : Look). Passed (M i z) sees z (look_of told y)) (sym at) (passed_weaker sees (E x.db) (M i (look_of told x)) (look_of told x) (look_of told y) (λ m. m.1) c.in_ok-review_in.ensures.passed) in
    let news : EachPassed M sees mids (looks told (set items i y)) =
    subst (EachPassed M sees mids) (sym (map-set (look_of told) items i y)) (each_one sees M mids i (look_of told y) inside one (λ k other m. other m.0)) in
    let db : y.db < 16 = subst (λ n. n < 16) (sym c.review_in.ensures.db) (subst (λ n. n < 16) (sym (ap (λ w. w.db) c.index_mut.ensures.value)) (c.loop-index.invariant.within i x here)) in
    record {
      passed = each_weaker sees (λ k one. N k one ⊎ M k one) (λ k one. (k < i + 1) × E one.db) olds (looks told (set items i y))
          (λ k below n. elim (cases_eq k i) [
            | inl same ↦ inr (same, n.1)
            | inr other ↦ (let small = n.0 in inl (omega (arith, other, small), n.1))
          ])
          (each_twice sees N M olds mids (looks told (set items i y)) (λ k a b same_db same_key m. (m.0, subst E (sym same_db) m.1)) c.loop-index.invariant.passed news);
      within = All-set (λ w. w.db < 16) items i y db c.loop-index.invariant.within;
      keys = same_keys items i x y here c.index_mut.ensures.value c.review_in.ensures.key ∙ c.loop-index.invariant.keys;
    }

pub returns : goal.returns
returns g c =
    let told = g.E.DeskEngine.told in
    let sees = seen g.E.DeskEngine.model c.args.moment c.args.engine.now in
    let olds = looks told c.args.watched.now.items in
    let E : ℕ → Type 0 = IsEmptied c.args.emptied c.args.selected in
    record {
      passed = each_weaker sees (λ k one. (k < c.loop-index.index) × E one.db) (λ k one. E one.db) olds (looks told c.loop-index.watched.items)
          (λ k below n. let long = length-map c.args.watched.now.items (look_of told) in (search (arith, below, long), n)) c.loop-index.invariant.passed;
      within = c.loop-index.invariant.within;
      keys = c.loop-index.invariant.keys;
    }
