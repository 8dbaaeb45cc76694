use Rattle.std.proofs.Common.{◌≡◌, rules, refl, sym, ap, ◌∙◌, arith, drop, ◌+◌, [], ◌∷◌}
use Rattle.std.proofs.lemmas.List.{drop_all}
use Rattle.std.specs.FinMap.{remove}
use Rattle.blocks.specs.Blocks.{Served}
use Rattle.blocks.proofs.Change.{changes_same, changes_then}
use Rattle.blocks.proofs.Serve.{served_then}
use Rattle.keyspace.proofs.Insides.{grown_on}
use Rattle.hash_object.specs.Fields.{fields}
use Rattle.plain_model.specs.HashSteps.{unset_all}
use Rattle.cmd_hashes.proofs.Rests.{settings_then, rest_from}
use Rattle.cmd_hashes.proofs.deleting.unset_each.Goals as goal

pub loop-name-init : goal.loop-name-init
loop-name-init g c = record {
  sound = c.requires;
  settings = record { limits = refl; seed = refl };
  is = refl;
  form = refl;
  changes = changes_same _ _ c.requires.owned;
  grown = Served.no_step;
  settles = λ most first. first;
  served = Served.no_step;
}

pub returns-in_err-unset_one-clause-settings : goal.returns-in_err-unset_one-clause-settings
returns-in_err-unset_one-clause-settings g c = settings_then _ _ _ c.loop-name.invariant.settings c.unset_one.ensures.settings

pub returns-in_err-unset_one-clause-form : goal.returns-in_err-unset_one-clause-form
returns-in_err-unset_one-clause-form g c = c.unset_one.ensures.form ∙ c.loop-name.invariant.form

pub returns-in_err-unset_one-clause-changes : goal.returns-in_err-unset_one-clause-changes
returns-in_err-unset_one-clause-changes g c = changes_then _ _ _ _ _ _ c.loop-name.invariant.changes c.unset_one.ensures.changes

pub returns-in_err-unset_one-clause-served : goal.returns-in_err-unset_one-clause-served
returns-in_err-unset_one-clause-served g c = served_then _ _ _ c.loop-name.invariant.served c.unset_one.ensures.served

pub returns-in_err-unset_one-clause-grown : goal.returns-in_err-unset_one-clause-grown
returns-in_err-unset_one-clause-grown g c = grown_on c.args.hash.now.seed c.loop-name.hash.seed _ _ _ c.loop-name.invariant.settings.seed c.loop-name.invariant.grown c.unset_one.ensures.grown

pub loop-name-preserved : goal.loop-name-preserved
loop-name-preserved g c =
    let now = fields (g.B.BlockStore.blocks c.loop-name.store) c.loop-name.hash in
    let then = fields (g.B.BlockStore.blocks c.unset_one.new.store) c.unset_one.new.hash in
    let name = c.name-item.result in
    let others = drop (c.loop-name.name-index + 1) c.args.names.now in
    let rest : drop c.loop-name.name-index c.args.names.now ≡ name ∷ others = rest_from c.args.names.now c.loop-name.name-index name (search rules) c.name-item.is in
    let is : then ≡ remove now name = search rules in
    record {
      sound = c.unset_one.ensures.sound;
      settings = settings_then _ _ _ c.loop-name.invariant.settings c.unset_one.ensures.settings;
      is = ap (λ m. unset_all m others) is ∙ ap (unset_all now) (sym rest) ∙ c.loop-name.invariant.is;
      form = c.unset_one.ensures.form ∙ c.loop-name.invariant.form;
      changes = changes_then _ _ _ _ _ _ c.loop-name.invariant.changes c.unset_one.ensures.changes;
      grown = grown_on c.args.hash.now.seed c.loop-name.hash.seed _ _ _ c.loop-name.invariant.settings.seed c.loop-name.invariant.grown c.unset_one.ensures.grown;
      settles = λ most first. c.in_ok-unset_one.ensures.settles most (c.loop-name.invariant.settles most first);
      served = served_then _ _ _ c.loop-name.invariant.served c.unset_one.ensures.served;
    }

pub returns-clause-is : goal.returns-clause-is
returns-clause-is g c =
    let now = fields (g.B.BlockStore.blocks c.loop-name.store) c.loop-name.hash in
    let none : drop c.loop-name.name-index c.args.names.now ≡ [] = drop_all c.loop-name.name-index c.args.names.now (omega (arith, c.loop-name-test.false)) in
    ap (unset_all now) (sym none) ∙ c.loop-name.invariant.is

pub returns-clause-grown : goal.returns-clause-grown
returns-clause-grown g c = c.loop-name.invariant.grown

pub returns-clause-settles : goal.returns-clause-settles
returns-clause-settles g c = c.loop-name.invariant.settles
