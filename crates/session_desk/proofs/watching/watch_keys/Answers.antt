use Rattle.std.proofs.Common.{◌<◌, ◌-◌, ◌++◌, [], ◌∷◌, map, take, drop, length, ap, ◌∙◌, arith}
use Rattle.std.proofs.lemmas.List.{append_assoc}
use Rattle.session_desk.specs.Engines.{seen}
use Rattle.session_desk.specs.Kept.{Kept, looks, kept_of, watching}
use Rattle.session_desk.specs.Watching.{watch}
use Rattle.session_desk.proofs.Lists.{mapped_next}
use Rattle.session_desk.proofs.watching.watch_keys.Goals as goal

pub loop-index-preserved : goal.loop-index-preserved
loop-index-preserved g c =
    let told = g.E.DeskEngine.told in
    let first = c.args.session.now in
    let olds = looks told first.watched.items in
    let sees = seen g.E.DeskEngine.model c.args.moment c.args.engine.now in
    let W = watch sees first.db in
    let words = c.args.request.now in
    let i = c.loop-index.index in
    let here : i < length words = search arith in
    record {
      low = omega arith;
      kept = c.in_ok-watch_key.ensures.kept ∙ ap (λ (k : Kept). watching k (k.watched ++ watch sees k.db c.word.result.now ∷ [])) c.loop-index.invariant.kept
          ∙ ap (watching (kept_of told first)) (append_assoc olds (map W (take (i - 1) (drop 1 words))) (W c.word.result.now ∷ [])
          ∙ ap (λ l. olds ++ l) (mapped_next W words i [] c.word.result.now c.loop-index.invariant.low here c.word.ensures));
      within = c.in_ok-watch_key.ensures.within;
    }
