use Rattle.std.proofs.Common.{ℕ, List, ◌≡◌, ◌+◌, [], ◌∷◌, arith, refl, sym, rules, ap, ◌∙◌, drop}
use Rattle.std.proofs.lemmas.List.{drop_all as drop_whole}
use Rattle.std.specs.FinMap.{remove, len}
use Rattle.blocks.specs.Blocks.{Served}
use Rattle.blocks.proofs.Change.{changes_same, changes_then}
use Rattle.blocks.proofs.Serve.{served_then}
use Rattle.keyspace.proofs.Insides.{grown_on}
use Rattle.set_object.specs.Members.{members}
use Rattle.plain_model.specs.SetSteps.{drop_all}
use Rattle.cmd_sets.proofs.Growing.{rest_from, one_less}
use Rattle.cmd_sets.proofs.removing.drop_words.Goals as goal

pub loop-word-init : goal.loop-word-init
loop-word-init g c = record {
  sound = c.requires;
  settings = record { limits = refl; seed = refl };
  is = refl;
  kept = λ some. refl;
  changes = changes_same _ _ c.requires.owned;
  grown = Served.no_step;
  settles = λ most first. first;
  served = Served.no_step;
}

pub returns-in_err-drop_one-clause-served : goal.returns-in_err-drop_one-clause-served
returns-in_err-drop_one-clause-served g c = served_then _ _ _ c.loop-word.invariant.served c.drop_one.ensures.served

pub returns-in_err-drop_one-clause-grown : goal.returns-in_err-drop_one-clause-grown
returns-in_err-drop_one-clause-grown g c =
    grown_on c.args.set.now.seed c.loop-word.set.seed _ _ _ c.loop-word.invariant.settings.seed c.loop-word.invariant.grown c.drop_one.ensures.grown

pub loop-word-preserved : goal.loop-word-preserved
loop-word-preserved g c =
    let set = members (g.B.BlockStore.blocks c.loop-word.store) c.loop-word.set in
    let word = c.word-item.result in
    let others : List (List ℕ) = drop (c.loop-word.word-index + 1) c.args.words.now in
    let rest : drop c.loop-word.word-index c.args.words.now ≡ word ∷ others = rest_from c.args.words.now c.loop-word.word-index word (search rules) c.word-item.is in
    let same : c.as_slice.result.now ≡ word = c.as_slice.ensures in
    let now = members (g.B.BlockStore.blocks c.drop_one.new.store) c.drop_one.new.set in
    let one : now ≡ remove set word = c.in_ok-drop_one.ensures.members ∙ ap (remove set) same in
    let inv = c.loop-word.invariant in
    record {
      sound = c.drop_one.ensures.sound;
      settings = record { limits = c.drop_one.ensures.settings.limits ∙ inv.settings.limits; seed = c.drop_one.ensures.settings.seed ∙ inv.settings.seed };
      is = ap (λ s. drop_all s others) one ∙ ap (drop_all set) (sym rest) ∙ inv.is;
      kept = λ some. c.in_ok-drop_one.ensures.form (omega (arith, some, ap len c.in_ok-drop_one.ensures.members)) ∙ inv.kept (omega (arith, some, ap len one, one_less set word));
      changes = changes_then _ _ _ _ _ _ inv.changes c.drop_one.ensures.changes;
      grown = grown_on c.args.set.now.seed c.loop-word.set.seed _ _ _ inv.settings.seed inv.grown c.drop_one.ensures.grown;
      settles = λ most first. c.in_ok-drop_one.ensures.settles most (inv.settles most first);
      served = served_then _ _ _ inv.served c.drop_one.ensures.served;
    }

pub returns-clause-members : goal.returns-clause-members
returns-clause-members g c =
    let none : drop c.loop-word.word-index c.args.words.now ≡ [] = drop_whole c.loop-word.word-index c.args.words.now (omega (arith, c.loop-word-test.false)) in
    ap (drop_all (members (g.B.BlockStore.blocks c.loop-word.store) c.loop-word.set)) (sym none) ∙ c.loop-word.invariant.is

pub returns-clause-grown : goal.returns-clause-grown
returns-clause-grown g c = c.loop-word.invariant.grown

pub returns-clause-settles : goal.returns-clause-settles
returns-clause-settles g c = c.loop-word.invariant.settles
