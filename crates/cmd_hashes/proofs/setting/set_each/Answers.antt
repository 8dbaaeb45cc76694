use Rattle.std.proofs.Common.{◌≡◌, rules, refl, sym, ap, subst, ◌∙◌, arith, drop, ◌+◌, [], ◌∷◌}
use Rattle.std.proofs.lemmas.List.{drop_all}
use Rattle.std.specs.FinMap.{insert}
use Rattle.blocks.specs.Blocks.{Served}
use Rattle.blocks.proofs.Change.{changes_same, changes_then}
use Rattle.blocks.proofs.Serve.{served_then}
use Rattle.keyspace.proofs.Insides.{grown_on}
use Rattle.object_codec.specs.Forms.{IsLeastFrom}
use Rattle.hash_object.specs.Maps.{FitsFields}
use Rattle.hash_object.specs.Fields.{fields, form_of}
use Rattle.plain_model.specs.HashSteps.{set_all}
use Rattle.keyspace.specs.Forms.{RisesBy}
use Rattle.cmd_hashes.proofs.Rests.{settings_then, rest_from}
use Rattle.cmd_hashes.proofs.setting.set_each.Goals as goal

pub loop-pair-init : goal.loop-pair-init
loop-pair-init g c = record {
  sound = c.requires;
  settings = record { limits = refl; seed = refl };
  is = refl;
  risen = λ form p. p;
  changes = changes_same _ _ c.requires.owned;
  grown = Served.no_step;
  served = Served.no_step;
}

pub returns-in_err-set_one-clause-settings : goal.returns-in_err-set_one-clause-settings
returns-in_err-set_one-clause-settings g c = settings_then _ _ _ c.loop-pair.invariant.settings c.set_one.ensures.settings

pub returns-in_err-set_one-clause-changes : goal.returns-in_err-set_one-clause-changes
returns-in_err-set_one-clause-changes g c = changes_then _ _ _ _ _ _ c.loop-pair.invariant.changes c.set_one.ensures.changes

pub returns-in_err-set_one-clause-served : goal.returns-in_err-set_one-clause-served
returns-in_err-set_one-clause-served g c = served_then _ _ _ c.loop-pair.invariant.served c.set_one.ensures.served

pub returns-in_err-set_one-clause-grown : goal.returns-in_err-set_one-clause-grown
returns-in_err-set_one-clause-grown g c = grown_on c.args.hash.now.seed c.loop-pair.hash.seed _ _ _ c.loop-pair.invariant.settings.seed c.loop-pair.invariant.grown c.set_one.ensures.grown

pub loop-pair-preserved : goal.loop-pair-preserved
loop-pair-preserved g c =
    let now = fields (g.B.BlockStore.blocks c.loop-pair.store) c.loop-pair.hash in
    let then = fields (g.B.BlockStore.blocks c.set_one.new.store) c.set_one.new.hash in
    let limits = c.args.hash.now.limits in
    let pair = c.pair-item.result in
    let others = drop (c.loop-pair.pair-index + 1) c.args.pairs.now in
    let rest : drop c.loop-pair.pair-index c.args.pairs.now ≡ pair ∷ others = rest_from c.args.pairs.now c.loop-pair.pair-index pair (search rules) c.pair-item.is in
    let is : then ≡ insert now pair.0 pair.1 = search rules in
    let risen : IsLeastFrom (form_of c.loop-pair.hash) (FitsFields c.loop-pair.hash.limits (insert now pair.0 pair.1)) (form_of c.set_one.new.hash) = search rules in
    record {
      sound = c.set_one.ensures.sound;
      settings = settings_then _ _ _ c.loop-pair.invariant.settings c.set_one.ensures.settings;
      is = ap (λ m. set_all m others) is ∙ ap (set_all now) (sym rest) ∙ c.loop-pair.invariant.is;
      risen = λ form p.
          c.loop-pair.invariant.risen form
          (subst (λ l. RisesBy limits (form_of c.loop-pair.hash) now l form) (sym rest) (
            form_of c.set_one.new.hash,
            subst (λ n. IsLeastFrom (form_of c.loop-pair.hash) (FitsFields n (insert now pair.0 pair.1)) (form_of c.set_one.new.hash)) c.loop-pair.invariant.settings.limits risen,
            subst (λ m. RisesBy limits (form_of c.set_one.new.hash) m others form) is p,
          ));
      changes = changes_then _ _ _ _ _ _ c.loop-pair.invariant.changes c.set_one.ensures.changes;
      grown = grown_on c.args.hash.now.seed c.loop-pair.hash.seed _ _ _ c.loop-pair.invariant.settings.seed c.loop-pair.invariant.grown c.set_one.ensures.grown;
      served = served_then _ _ _ c.loop-pair.invariant.served c.set_one.ensures.served;
    }

pub returns-clause-is : goal.returns-clause-is
returns-clause-is g c =
    let now = fields (g.B.BlockStore.blocks c.loop-pair.store) c.loop-pair.hash in
    let none : drop c.loop-pair.pair-index c.args.pairs.now ≡ [] = drop_all c.loop-pair.pair-index c.args.pairs.now (omega (arith, c.loop-pair-test.false)) in
    ap (set_all now) (sym none) ∙ c.loop-pair.invariant.is

pub returns-clause-risen : goal.returns-clause-risen
returns-clause-risen g c =
    let now = fields (g.B.BlockStore.blocks c.loop-pair.store) c.loop-pair.hash in
    let none : drop c.loop-pair.pair-index c.args.pairs.now ≡ [] = drop_all c.loop-pair.pair-index c.args.pairs.now (omega (arith, c.loop-pair-test.false)) in
    c.loop-pair.invariant.risen (form_of c.loop-pair.hash) (subst (λ l. RisesBy c.args.hash.now.limits (form_of c.loop-pair.hash) now l (form_of c.loop-pair.hash)) (sym none) refl)

pub returns-clause-grown : goal.returns-clause-grown
returns-clause-grown g c = c.loop-pair.invariant.grown
