use Rattle.std.proofs.Common.{◌≡◌, ◌++◌, ◌-◌, List, take, drop, reverse, length, OnOk, sym, ap, ◌∙◌, subst, arith}
use Rattle.zset_object.specs.Scored.{scores}
use Rattle.plain_model.specs.ZsetSteps.{Scored, met, ranked}
use Rattle.plain_model.specs.declared.zset_command.Direction.{Direction}
use Rattle.cmd_zsets.specs.Spans.{told_all}
use Rattle.cmd_zsets.proofs.Ranked.{ranked_counted}
use Rattle.cmd_zsets.proofs.Told.{met_back}
use Rattle.cmd_zsets.proofs.spans.push_span.Goals as goal

pub returns-in-Rising : goal.returns-in-Rising
returns-in-Rising g c =
    let list = ranked (scores (g.B.BlockStore.blocks c.args.store.now) c.args.zset.now) in
    subst
    (λ (from : Direction). OnOk c.push_rising.result
    (c.push_rising.new.parts ≡ c.args.parts.now ++ told_all c.args.with_scores (take c.args.span.count (drop c.args.span.start (met from list))))) (sym c.in-Rising.is)
    c.push_rising.ensures

pub overflow_sub-lowest-in-Falling : goal.overflow_sub-lowest-in-Falling
overflow_sub-lowest-in-Falling g c =
    let m = g.B.BlockStore.blocks c.args.store.now in
    omega (arith, c.len.ensures m c.requires.sound, c.requires.inside)

pub walk-requires-clause-inside : goal.walk-requires-clause-inside
walk-requires-clause-inside g c =
    let m = g.B.BlockStore.blocks c.args.store.now in
    omega (arith, c.len.ensures m c.requires.sound, c.requires.inside)

pub returns-in_ok-met-in-Falling : goal.returns-in_ok-met-in-Falling
returns-in_ok-met-in-Falling g c =
    let m = g.B.BlockStore.blocks c.args.store.now in
    let s = c.args.zset.now in
    let span = c.args.span in
    let list = ranked (scores m s) in
    let long = ranked_counted m s c.requires.sound in
    let size : c.len.result ≡ length list = c.len.ensures m c.requires.sound ∙ sym long in
    let back : reverse c.in_ok-met-in-Falling.met.items ≡ take span.count (drop span.start (met span.from list)) =
    ap reverse (c.in_ok-met-in-Falling.ensures ∙ ap (λ n. take span.count (drop (n - span.start - span.count) list)) size)
    ∙ sym (met_back list span.start span.count (omega (arith, long, c.requires.inside)))
    ∙ ap (λ (from : Direction). take span.count (drop span.start (met from list))) (sym c.in-Falling.is) in
    subst (λ (l : List Scored). OnOk c.push_back.result (c.push_back.new.parts ≡ c.args.parts.now ++ told_all c.args.with_scores l)) back c.push_back.ensures
