use Rattle.std.proofs.Common.{ℕ, List, ◌≡◌, ◌+◌, ◌∷◌, sym, ap, ◌∙◌, drop, rules}
use Rattle.plain_model.specs.SetSteps.{has}
use Rattle.keyspace.specs.Forms.{set_at}
use Rattle.keyspace.specs.Commands.{visible}
use Rattle.cmd_sets.proofs.Growing.{rest_from}
use Rattle.cmd_sets.proofs.Joined.{here, lacking}
use Rattle.cmd_sets.proofs.joining.in_each.Goals as goal

pub loop-key-preserved : goal.loop-key-preserved
loop-key-preserved g c =
    let world = visible g.B.BlockStore.blocks c.args.keyspace.now c.args.at.now in
    let key = c.key-item.result in
    let others : List (List ℕ) = drop (c.loop-key.key-index + 1) c.args.keys.now in
    let rest : drop c.loop-key.key-index c.args.keys.now ≡ key ∷ others = rest_from c.args.keys.now c.loop-key.key-index key (search rules) c.key-item.is in
    let same : c.as_slice.result.now ≡ key = c.as_slice.ensures in
    here world (drop c.loop-key.key-index c.args.keys.now) others key c.args.name.now rest (ap (λ k. has (set_at world k) c.args.name.now) (sym same) ∙ sym c.if-not-has_at.ensures)
    ∙ c.loop-key.invariant

pub returns-then-not-has_at : goal.returns-then-not-has_at
returns-then-not-has_at g c =
    let world = visible g.B.BlockStore.blocks c.args.keyspace.now c.args.at.now in
    let key = c.key-item.result in
    let others : List (List ℕ) = drop (c.loop-key.key-index + 1) c.args.keys.now in
    let rest : drop c.loop-key.key-index c.args.keys.now ≡ key ∷ others = rest_from c.args.keys.now c.loop-key.key-index key (search rules) c.key-item.is in
    let same : c.as_slice.result.now ≡ key = c.as_slice.ensures in
    sym
    (sym c.loop-key.invariant ∙ lacking world (drop c.loop-key.key-index c.args.keys.now) others key c.args.name.now rest
    (ap (λ k. has (set_at world k) c.args.name.now) (sym same) ∙ sym c.if-not-has_at.ensures))
