use Rattle.std.proofs.Common.{rules, List, ◌≡◌, ◌+◌, ◌∷◌, ap, ◌∙◌, sym, drop, true, false, is_some}
use Rattle.std.specs.FinMap.{empty}
use Rattle.plain_world.specs.Worlds.{look}
use Rattle.plain_model.specs.OfType.{source}
use Rattle.plain_model.specs.ZsetSteps.{Scored, scores_in}
use Rattle.keyspace.specs.Commands.{visible}
use Rattle.cmd_zsets.proofs.Rests.{rest_from}
use Rattle.cmd_zsets.proofs.Joins.{source_passes, other_stops}
use Rattle.cmd_zsets.proofs.joining.are_sources.Goals as goal

pub loop-key-preserved : goal.loop-key-preserved
loop-key-preserved g c =
    let world = visible g.B.BlockStore.blocks c.args.keyspace.now c.args.at.now in
    let key = c.key-item.result in
    let others : List Scored = drop (c.loop-key.key-index + 1) c.args.keys.now in
    let rest : drop c.loop-key.key-index c.args.keys.now ≡ key ∷ others = rest_from c.args.keys.now c.loop-key.key-index key (search rules) c.key-item.is in
    source_passes world (drop c.loop-key.key-index c.args.keys.now) others key rest
    (ap (λ k. is_some (source scores_in empty (look world k))) (sym c.as_slice.ensures) ∙ sym c.is_source.ensures ∙ c.if-not-is_source.false) ∙ c.loop-key.invariant

pub returns-then-not-is_source : goal.returns-then-not-is_source
returns-then-not-is_source g c =
    let world = visible g.B.BlockStore.blocks c.args.keyspace.now c.args.at.now in
    let key = c.key-item.result in
    let others : List Scored = drop (c.loop-key.key-index + 1) c.args.keys.now in
    let rest : drop c.loop-key.key-index c.args.keys.now ≡ key ∷ others = rest_from c.args.keys.now c.loop-key.key-index key (search rules) c.key-item.is in
    sym (sym c.loop-key.invariant ∙ other_stops world (drop c.loop-key.key-index c.args.keys.now) others key rest
    (ap (λ k. is_some (source scores_in empty (look world k))) (sym c.as_slice.ensures) ∙ sym c.is_source.ensures ∙ c.if-not-is_source.true))
