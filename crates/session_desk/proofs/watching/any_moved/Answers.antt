use Rattle.std.proofs.Common.{map, take, false, subst, arith}
use Rattle.std.specs.List.{All}
use Rattle.std.proofs.lemmas.List.{take_all}
use Rattle.std.proofs.lemmas.List.Elements.{All-push}
use Rattle.session_desk.specs.Engines.{seen}
use Rattle.session_desk.specs.Kept.{Look, look_of}
use Rattle.session_desk.specs.Watching.{IsChange}
use Rattle.session_desk.proofs.Lists.{mapped_more, contains_mapped}
use Rattle.session_desk.proofs.watching.any_moved.Goals as goal

pub returns-then-branch : goal.returns-then-branch
returns-then-branch g c =
    let look = look_of g.E.DeskEngine.told in
    let sees = seen g.E.DeskEngine.model c.args.moment c.args.engine.now in
    record {
      one = look c.watch-item.result;
      is = contains_mapped look c.args.watched.now c.loop-watch.watch-index c.watch-item.result c.loop-watch-test.true c.watch-item.is;
      moved = subst (IsChange sees (look c.watch-item.result)) c.if-branch.true c.in_ok-has_moved.ensures;
    }

pub loop-watch-preserved : goal.loop-watch-preserved
loop-watch-preserved g c =
    let look = look_of g.E.DeskEngine.told in
    let sees = seen g.E.DeskEngine.model c.args.moment c.args.engine.now in
    let P : Look → Type 0 = λ one. IsChange sees one false in
    subst (All P) (mapped_more look c.args.watched.now c.loop-watch.watch-index c.watch-item.result c.loop-watch-test.true c.watch-item.is)
    (All-push P (map look (take c.loop-watch.watch-index c.args.watched.now)) (look c.watch-item.result) c.loop-watch.invariant
    (subst (IsChange sees (look c.watch-item.result)) c.if-branch.false c.in_ok-has_moved.ensures))

pub returns : goal.returns
returns g c =
    let look = look_of g.E.DeskEngine.told in
    let sees = seen g.E.DeskEngine.model c.args.moment c.args.engine.now in
    let P : Look → Type 0 = λ one. IsChange sees one false in
    subst (λ l. All P (map look l)) (take_all c.loop-watch.watch-index c.args.watched.now (omega arith)) c.loop-watch.invariant
