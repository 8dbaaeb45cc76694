use Rattle.std.proofs.Common.{◌≡◌, rules, refl, sym, ap, subst, ◌∙◌, arith, drop, ◌+◌, [], ◌∷◌}
use Rattle.std.specs.Prelude.{◌&&◌, if◌then◌else◌}
use Rattle.std.specs.FinMap.{get}
use Rattle.std.proofs.lemmas.List.{drop_all}
use Rattle.blocks.specs.Blocks.{Served}
use Rattle.blocks.proofs.Change.{changes_same, changes_then}
use Rattle.blocks.proofs.Serve.{served_then}
use Rattle.keyspace.proofs.Insides.{grown_on}
use Rattle.zset_object.specs.Scored.{scores, form_of}
use Rattle.plain_model.specs.ZsetSteps.{permits, differs, write_score, write_scores}
use Rattle.plain_model.specs.ZsetSteps as model
use Rattle.keyspace.specs.Forms.{RisesScored, RisesUnder}
use Rattle.cmd_zsets.proofs.Rests.{settings_then, rest_from}
use Rattle.cmd_zsets.proofs.Counting.{counts_on, one_most}
use Rattle.cmd_zsets.proofs.adding.write_each.Goals as goal

pub loop-pair-init : goal.loop-pair-init
loop-pair-init g c = record {
  sound = c.requires;
  settings = record { limits = refl; seed = refl };
  is = refl;
  few = omega arith;
  counted = omega arith;
  risen = λ form p. p;
  changes = changes_same _ _ c.requires.owned;
  grown = Served.no_step;
  served = Served.no_step;
}

pub returns-in_err-other-clause-settings : goal.returns-in_err-other-clause-settings
returns-in_err-other-clause-settings g c = settings_then _ _ _ c.loop-pair.invariant.settings c.write_one.ensures.settings

pub returns-in_err-other-clause-changes : goal.returns-in_err-other-clause-changes
returns-in_err-other-clause-changes g c = changes_then _ _ _ _ _ _ c.loop-pair.invariant.changes c.write_one.ensures.changes

pub returns-in_err-other-clause-served : goal.returns-in_err-other-clause-served
returns-in_err-other-clause-served g c = served_then _ _ _ c.loop-pair.invariant.served c.write_one.ensures.served

pub returns-in_err-other-clause-grown : goal.returns-in_err-other-clause-grown
returns-in_err-other-clause-grown g c = grown_on c.args.zset.now.seed c.loop-pair.zset.seed _ _ _ c.loop-pair.invariant.settings.seed c.loop-pair.invariant.grown c.write_one.ensures.grown

pub loop-pair-preserved : goal.loop-pair-preserved
loop-pair-preserved g c =
    let now = scores (g.B.BlockStore.blocks c.loop-pair.store) c.loop-pair.zset in
    let after = scores (g.B.BlockStore.blocks c.write_one.new.store) c.write_one.new.zset in
    let limits = c.args.zset.now.limits in
    let score_rules = c.args.rules in
    let pair = c.pair-item.result in
    let others = drop (c.loop-pair.pair-index + 1) c.args.pairs.now in
    let rest : drop c.loop-pair.pair-index c.args.pairs.now ≡ pair ∷ others = rest_from c.args.pairs.now c.loop-pair.pair-index pair (search rules) c.pair-item.is in
    let is : after ≡ write_score score_rules now pair = search rules in
    let risen : RisesScored score_rules c.loop-pair.zset.limits (form_of c.loop-pair.zset) now pair (form_of c.write_one.new.zset) = search rules in
    let counts : c.in_ok-other.other ≡ (permits score_rules (get now pair.1) pair.0 && differs (get now pair.1) pair.0) = search rules in
    let one : c.from-changed.result ≡ (if c.in_ok-other.other then 1 else 0) = search rules in
    record {
      sound = c.write_one.ensures.sound;
      settings = settings_then _ _ _ c.loop-pair.invariant.settings c.write_one.ensures.settings;
      is = ap (λ m. write_scores score_rules m others) is ∙ ap (write_scores score_rules now) (sym rest) ∙ c.loop-pair.invariant.is;
      few = omega (arith, c.loop-pair.invariant.few, one_most c.in_ok-other.other c.from-changed.result one);
      counted = counts_on score_rules now after pair others c.loop-pair.changed c.in_ok-other.other c.from-changed.result is counts one
          ∙ ap (λ l. c.loop-pair.changed + model.changes score_rules now l) (sym rest) ∙ c.loop-pair.invariant.counted;
      risen = λ form p.
          c.loop-pair.invariant.risen form
          (subst (λ l. RisesUnder score_rules limits (form_of c.loop-pair.zset) now l form) (sym rest) (
            form_of c.write_one.new.zset,
            subst (λ n. RisesScored score_rules n (form_of c.loop-pair.zset) now pair (form_of c.write_one.new.zset)) c.loop-pair.invariant.settings.limits risen,
            subst (λ m. RisesUnder score_rules limits (form_of c.write_one.new.zset) m others form) is p,
          ));
      changes = changes_then _ _ _ _ _ _ c.loop-pair.invariant.changes c.write_one.ensures.changes;
      grown = grown_on c.args.zset.now.seed c.loop-pair.zset.seed _ _ _ c.loop-pair.invariant.settings.seed c.loop-pair.invariant.grown c.write_one.ensures.grown;
      served = served_then _ _ _ c.loop-pair.invariant.served c.write_one.ensures.served;
    }

pub returns-clause-is : goal.returns-clause-is
returns-clause-is g c =
    let now = scores (g.B.BlockStore.blocks c.loop-pair.store) c.loop-pair.zset in
    let none : drop c.loop-pair.pair-index c.args.pairs.now ≡ [] = drop_all c.loop-pair.pair-index c.args.pairs.now (omega (arith, c.loop-pair-test.false)) in
    ap (write_scores c.args.rules now) (sym none) ∙ c.loop-pair.invariant.is

pub returns-clause-changed : goal.returns-clause-changed
returns-clause-changed g c =
    let now = scores (g.B.BlockStore.blocks c.loop-pair.store) c.loop-pair.zset in
    let none : drop c.loop-pair.pair-index c.args.pairs.now ≡ [] = drop_all c.loop-pair.pair-index c.args.pairs.now (omega (arith, c.loop-pair-test.false)) in
    let all : c.loop-pair.changed + model.changes c.args.rules now [] ≡ _ = ap (λ l. c.loop-pair.changed + model.changes c.args.rules now l) (sym none) ∙ c.loop-pair.invariant.counted in
    omega (arith, all)

pub returns-clause-risen : goal.returns-clause-risen
returns-clause-risen g c =
    let now = scores (g.B.BlockStore.blocks c.loop-pair.store) c.loop-pair.zset in
    let none : drop c.loop-pair.pair-index c.args.pairs.now ≡ [] = drop_all c.loop-pair.pair-index c.args.pairs.now (omega (arith, c.loop-pair-test.false)) in
    c.loop-pair.invariant.risen (form_of c.loop-pair.zset) (subst (λ l. RisesUnder c.args.rules c.args.zset.now.limits (form_of c.loop-pair.zset) now l (form_of c.loop-pair.zset)) (sym none) refl)

pub returns-clause-grown : goal.returns-clause-grown
returns-clause-grown g c = c.loop-pair.invariant.grown
