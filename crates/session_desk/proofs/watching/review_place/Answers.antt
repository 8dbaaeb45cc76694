use Rattle.std.proofs.Common.{◌≡◌, ℕ, ◌<◌, length, get_or, sym, ap, subst, ◌∙◌, arith}
use Rattle.std.proofs.lemmas.List.{length-map, get_or-map, map-set}
use Rattle.session_desk.specs.Engines.{seen}
use Rattle.session_desk.specs.Kept.{Look, no_look, look_of, looks}
use Rattle.session_desk.specs.Watching.{IsLooked}
use Rattle.session_desk.specs.Passing.{IsOf, Passed, EachPassed, seen as was_seen}
use Rattle.session_desk.proofs.Lists.{ok_so}
use Rattle.session_desk.proofs.Marking.{same_keys}
use Rattle.session_desk.proofs.Passing.{each_one}
use Rattle.session_desk.proofs.watching.review_place.Goals as goal

pub returns-clause-passed : goal.returns-clause-passed
returns-clause-passed g c =
    let told = g.E.DeskEngine.told in
    let sees = seen g.E.DeskEngine.model c.args.moment c.args.engine.now in
    let items = c.args.watched.now.items in
    let place = c.args.place in
    let x = c.index_mut.result.now in
    let y = c.review_one.new.watch in
    let here : place < length items = search arith in
    let long = length-map items (look_of told) in
    let inside : place < length (looks told items) = omega (arith, here, long) in
    let at : get_or (looks told items) place no_look ≡ look_of told x = get_or-map (look_of told) items place x no_look here ∙ ap (look_of told) (sym c.index_mut.ensures.value) in
    let N : ℕ → Look → Type 0 = λ k one. (place ≡ k) × IsOf c.args.db one.db in
    ok_so c.review_one.result
    (λ (l : IsLooked sees (look_of told x) (look_of told y)).
    subst (EachPassed N sees (looks told items)) (sym (map-set (look_of told) items place y))
    (each_one sees N (looks told items) place (look_of told y) inside
    (subst (λ (z : Look). Passed (N place z) sees z (look_of told y)) (sym at) (was_seen l)) (λ k other n. other (sym n.0))))
    c.review_one.ensures.looked

pub returns-clause-keys : goal.returns-clause-keys
returns-clause-keys g c =
    let items = c.args.watched.now.items in
    let here : c.args.place < length items = search arith in
    ok_so c.review_one.result (λ l. same_keys items c.args.place c.index_mut.result.now c.review_one.new.watch here c.index_mut.ensures.value c.review_one.ensures.key) c.review_one.ensures.looked
