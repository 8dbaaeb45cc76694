use Rattle.std.proofs.Common.{◌<◌, length, arith}
use Rattle.std.proofs.lemmas.List.Elements.{All-set}
use Rattle.session_desk.specs.Engines.{seen}
use Rattle.session_desk.specs.Kept.{new_kept, kept_of, all_kept}
use Rattle.session_desk.specs.Watching.{Reviews, IsWithin}
use Rattle.session_desk.specs.Passing.{Passed}
use Rattle.session_desk.specs.Writing.{IsAmong}
use Rattle.session_desk.proofs.Lists.{mapped_upto}
use Rattle.session_desk.proofs.watching.review_all.Goals as goal

pub loop-index-preserved : goal.loop-index-preserved
loop-index-preserved g c =
    let told = g.E.DeskEngine.told in
    let items = c.loop-index.sessions.items in
    let i = c.loop-index.index in
    let here : i < length items = search arith in
    record {
      upto = mapped_upto (kept_of told) new_kept (Reviews (λ one new. Passed (IsAmong c.args.written.now one.db one.key) (seen g.E.DeskEngine.model c.args.moment c.args.engine.now) one new)) i
          (all_kept told c.args.sessions.now.items) items c.index_mut.result.now c.review.new.session here c.index_mut.ensures.value c.in_ok-review.ensures.passed c.loop-index.invariant.upto;
      within = All-set IsWithin items i c.review.new.session c.in_ok-review.ensures.within c.loop-index.invariant.within;
    }
