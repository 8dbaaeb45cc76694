use Rattle.std.proofs.Common.{ℕ, List, ◌≡◌, ◌+◌, [], ◌∷◌, arith, refl, sym, rules, ap, subst, ◌∙◌, drop}
use Rattle.std.proofs.lemmas.List.{drop_all}
use Rattle.std.specs.FinMap.{insert}
use Rattle.blocks.specs.Blocks.{Served}
use Rattle.blocks.proofs.Change.{changes_same, changes_then}
use Rattle.blocks.proofs.Serve.{served_then}
use Rattle.keyspace.proofs.Insides.{grown_on}
use Rattle.set_object.specs.Members.{members, form_of}
use Rattle.plain_model.specs.SetSteps.{add_all}
use Rattle.keyspace.specs.Forms.{RisesTo, RisesWith}
use Rattle.cmd_sets.proofs.Growing.{rest_from}
use Rattle.cmd_sets.proofs.adding.add_words.Goals as goal

pub loop-word-init : goal.loop-word-init
loop-word-init g c = record {
  sound = c.requires;
  settings = record { limits = refl; seed = refl };
  is = refl;
  risen = λ form rises. rises;
  changes = changes_same _ _ c.requires.owned;
  grown = Served.no_step;
  served = Served.no_step;
}

pub returns-in_err-add_one-clause-served : goal.returns-in_err-add_one-clause-served
returns-in_err-add_one-clause-served g c = served_then _ _ _ c.loop-word.invariant.served c.add_one.ensures.served

pub returns-in_err-add_one-clause-grown : goal.returns-in_err-add_one-clause-grown
returns-in_err-add_one-clause-grown g c =
    grown_on c.args.set.now.seed c.loop-word.set.seed _ _ _ c.loop-word.invariant.settings.seed c.loop-word.invariant.grown c.add_one.ensures.grown

pub loop-word-preserved : goal.loop-word-preserved
loop-word-preserved g c =
    let limits = c.args.set.now.limits in
    let set = members (g.B.BlockStore.blocks c.loop-word.store) c.loop-word.set in
    let now = members (g.B.BlockStore.blocks c.add_one.new.store) c.add_one.new.set in
    let word = c.word-item.result in
    let others : List (List ℕ) = drop (c.loop-word.word-index + 1) c.args.words.now in
    let rest : drop c.loop-word.word-index c.args.words.now ≡ word ∷ others = rest_from c.args.words.now c.loop-word.word-index word (search rules) c.word-item.is in
    let same : c.as_slice.result.now ≡ word = c.as_slice.ensures in
    let from = form_of c.loop-word.set in
    let form = form_of c.add_one.new.set in
    let one : now ≡ insert set word tt = c.in_ok-add_one.ensures.members ∙ ap (λ w. insert set w tt) same in
    let inv = c.loop-word.invariant in
    record {
      sound = c.add_one.ensures.sound;
      settings = record { limits = c.add_one.ensures.settings.limits ∙ inv.settings.limits; seed = c.add_one.ensures.settings.seed ∙ inv.settings.seed };
      is = ap (λ s. add_all s others) one ∙ ap (add_all set) (sym rest) ∙ inv.is;
      risen = λ last rises. inv.risen last (subst (λ l. RisesWith limits from set l last) (sym rest) (
        form,
        subst (λ w. RisesTo limits from set w form) same (subst (λ l. RisesTo l from set c.as_slice.result.now form) inv.settings.limits c.in_ok-add_one.ensures.form),
        subst (λ s. RisesWith limits form s others last) one rises,
      ));
      changes = changes_then _ _ _ _ _ _ inv.changes c.add_one.ensures.changes;
      grown = grown_on c.args.set.now.seed c.loop-word.set.seed _ _ _ inv.settings.seed inv.grown c.add_one.ensures.grown;
      served = served_then _ _ _ inv.served c.add_one.ensures.served;
    }

pub returns-clause-members : goal.returns-clause-members
returns-clause-members g c =
    let none : drop c.loop-word.word-index c.args.words.now ≡ [] = drop_all c.loop-word.word-index c.args.words.now (omega (arith, c.loop-word-test.false)) in
    ap (add_all (members (g.B.BlockStore.blocks c.loop-word.store) c.loop-word.set)) (sym none) ∙ c.loop-word.invariant.is

pub returns-clause-form : goal.returns-clause-form
returns-clause-form g c =
    let none : drop c.loop-word.word-index c.args.words.now ≡ [] = drop_all c.loop-word.word-index c.args.words.now (omega (arith, c.loop-word-test.false)) in
    c.loop-word.invariant.risen (form_of c.loop-word.set)
    (subst (λ l. RisesWith c.args.set.now.limits (form_of c.loop-word.set) (members (g.B.BlockStore.blocks c.loop-word.store) c.loop-word.set) l (form_of c.loop-word.set)) (sym none)
    refl)

pub returns-clause-grown : goal.returns-clause-grown
returns-clause-grown g c = c.loop-word.invariant.grown
