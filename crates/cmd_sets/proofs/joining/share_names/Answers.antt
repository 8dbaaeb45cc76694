use Rattle.std.proofs.Common.{ℕ, List, ◌≡◌, [], true, drop, get_or, sym, ap, ◌∙◌, subst, rules}
use Rattle.std.specs.Prelude.{◌&&◌}
use Rattle.std.proofs.lemmas.List.{drop_all}
use Rattle.set_object.specs.Strings.{set_of}
use Rattle.plain_model.specs.SetSteps.{has}
use Rattle.keyspace.specs.Forms.{set_at}
use Rattle.keyspace.specs.Commands.{visible}
use Rattle.cmd_sets.proofs.Sifted.{sifted_has, sifted_once, all_begin, own_begin, all_more, own_more, all_passed, all_asked}
use Rattle.cmd_sets.proofs.joining.share_names.Goals as goal

pub loop-index-init : goal.loop-index-init
loop-index-init g c =
    let world = visible g.B.BlockStore.blocks c.args.keyspace.now c.args.at.now in
    let keys = c.args.keys.now in
    let names = set_of c.in_ok-kept.kept.items in
    let same : names ≡ set_at world c.index-keys-one.result = c.in_ok-kept.ensures.members ∙ ap (set_at world) c.as_slice.ensures in
    record {
      all = all_begin world keys c.args.one c.index-keys-one.result names c.requires.inside c.index-keys-one.is same;
      own = own_begin world keys c.args.one c.index-keys-one.result names c.requires.inside c.index-keys-one.is same;
      once = c.in_ok-kept.ensures.once;
    }

pub loop-index-preserved : goal.loop-index-preserved
loop-index-preserved g c =
    let world = visible g.B.BlockStore.blocks c.args.keyspace.now c.args.at.now in
    let keys = c.args.keys.now in
    let key = c.index-keys-index.result in
    let before = c.loop-index.kept.items in
    let after = c.in_ok-kept-2.kept.items in
    let old = set_of before in
    let new = set_of after in
    let set = set_at world c.as_slice-in-loop-index.result.now in
    let asked : (q : List ℕ) → has new q ≡ (has old q && has (set_at world key) q) = λ q. sifted_has true set before after c.in_ok-kept-2.ensures q
    ∙ ap (λ k. has old q && has (set_at world k) q) c.as_slice-in-loop-index.ensures in
    record {
      all = λ q. all_more world keys c.loop-index.index key old new (search rules) c.index-keys-index.is asked q ∙ c.loop-index.invariant.all q;
      own = own_more world keys (get_or keys c.args.one []) key old new asked c.loop-index.invariant.own;
      once = sifted_once true set before after c.in_ok-kept-2.ensures c.loop-index.invariant.once;
    }

pub loop-index-preserved-then-index-one : goal.loop-index-preserved-then-index-one
loop-index-preserved-then-index-one g c =
    let world = visible g.B.BlockStore.blocks c.args.keyspace.now c.args.at.now in
    let keys = c.args.keys.now in
    let old = set_of c.loop-index.kept.items in
    let one : c.args.one ≡ c.loop-index.index = sym c.if-index-one.true in
    let own : (q : List ℕ) → has old q ≡ true → has (set_at world (get_or keys c.loop-index.index [])) q ≡ true =
    subst (λ (i : ℕ). (q : List ℕ) → has old q ≡ true → has (set_at world (get_or keys i [])) q ≡ true) one c.loop-index.invariant.own in
    record {
      all = λ q. all_passed world keys c.loop-index.index old (search rules) own q ∙ c.loop-index.invariant.all q;
      own = c.loop-index.invariant.own;
      once = c.loop-index.invariant.once;
    }

pub returns-clause-shared : goal.returns-clause-shared
returns-clause-shared g c =
    let world = visible g.B.BlockStore.blocks c.args.keyspace.now c.args.at.now in
    let none : drop c.loop-index.index c.args.keys.now ≡ [] = drop_all c.loop-index.index c.args.keys.now (search rules) in
    λ q. all_asked world c.args.keys.now c.loop-index.index (set_of c.loop-index.kept.items) none q ∙ c.loop-index.invariant.all q
