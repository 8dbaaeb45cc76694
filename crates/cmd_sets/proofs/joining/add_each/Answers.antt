use Rattle.std.proofs.Common.{ℕ, List, ◌≡◌, ◌+◌, [], ◌∷◌, arith, ap, ◌∙◌, drop, rules}
use Rattle.std.proofs.lemmas.List.{drop_all}
use Rattle.set_object.specs.Members.{members}
use Rattle.keyspace.specs.Forms.{set_at}
use Rattle.keyspace.specs.Commands.{visible}
use Rattle.cmd_sets.proofs.Growing.{rest_from}
use Rattle.cmd_sets.proofs.Joined.{added_key, added_keys}
use Rattle.cmd_sets.proofs.joining.add_each.Goals as goal

pub loop-key-preserved : goal.loop-key-preserved
loop-key-preserved g c =
    let world = visible g.B.BlockStore.blocks c.args.keyspace.now c.args.at.now in
    let blocks = g.C.BlockStore.blocks in
    let key = c.key-item.result in
    let others : List (List ℕ) = drop (c.loop-key.key-index + 1) c.args.keys.now in
    let rest : drop c.loop-key.key-index c.args.keys.now ≡ key ∷ others = rest_from c.args.keys.now c.loop-key.key-index key (search rules) c.key-item.is in
    let same : c.as_slice.result.now ≡ key = c.as_slice.ensures in
    record {
      sound = c.in_ok-add_at.ensures.sound;
      so_far = λ q. added_key world (drop c.loop-key.key-index c.args.keys.now) others key (members (blocks c.loop-key.own) c.loop-key.all)
          (members (blocks c.add_at.new.own) c.add_at.new.all) (set_at world c.as_slice.result.now) rest (ap (set_at world) same) c.in_ok-add_at.ensures.members q
          ∙ c.loop-key.invariant.so_far q;
    }

pub returns-clause-members : goal.returns-clause-members
returns-clause-members g c =
    let world = visible g.B.BlockStore.blocks c.args.keyspace.now c.args.at.now in
    let none : drop c.loop-key.key-index c.args.keys.now ≡ [] = drop_all c.loop-key.key-index c.args.keys.now (omega (arith, c.loop-key-test.false)) in
    λ q. added_keys world (drop c.loop-key.key-index c.args.keys.now) (members (g.C.BlockStore.blocks c.loop-key.own) c.loop-key.all) none q ∙ c.loop-key.invariant.so_far q
