use Rattle.std.proofs.Common.{ℕ, List, ◌≡◌, ◌+◌, [], ◌∷◌, false, arith, ap, ◌∙◌, drop, rules}
use Rattle.std.proofs.lemmas.List.{drop_all}
use Rattle.set_object.specs.Strings.{set_of}
use Rattle.keyspace.specs.Forms.{set_at}
use Rattle.keyspace.specs.Commands.{visible}
use Rattle.cmd_sets.proofs.Growing.{rest_from}
use Rattle.cmd_sets.proofs.Joined.{dropped_key, dropped_keys}
use Rattle.cmd_sets.proofs.Sifted.{sifted_has, sifted_once}
use Rattle.cmd_sets.proofs.joining.drop_each.Goals as goal

pub loop-key-preserved : goal.loop-key-preserved
loop-key-preserved g c =
    let world = visible g.B.BlockStore.blocks c.args.keyspace.now c.args.at.now in
    let key = c.key-item.result in
    let others : List (List ℕ) = drop (c.loop-key.key-index + 1) c.args.keys.now in
    let rest : drop c.loop-key.key-index c.args.keys.now ≡ key ∷ others = rest_from c.args.keys.now c.loop-key.key-index key (search rules) c.key-item.is in
    let same : c.as_slice.result.now ≡ key = c.as_slice.ensures in
    let old = c.loop-key.kept.items in
    let new = c.in_ok-kept.kept.items in
    let set = set_at world c.as_slice.result.now in
    record {
      left = λ q. dropped_key world (drop c.loop-key.key-index c.args.keys.now) others key (set_of old) (set_of new) set rest (ap (set_at world) same)
          (sifted_has false set old new c.in_ok-kept.ensures) q ∙ c.loop-key.invariant.left q;
      once = sifted_once false set old new c.in_ok-kept.ensures c.loop-key.invariant.once;
    }

pub returns-clause-left : goal.returns-clause-left
returns-clause-left g c =
    let world = visible g.B.BlockStore.blocks c.args.keyspace.now c.args.at.now in
    let none : drop c.loop-key.key-index c.args.keys.now ≡ [] = drop_all c.loop-key.key-index c.args.keys.now (omega (arith, c.loop-key-test.false)) in
    λ q. dropped_keys world (drop c.loop-key.key-index c.args.keys.now) (set_of c.loop-key.kept.items) none q ∙ c.loop-key.invariant.left q
