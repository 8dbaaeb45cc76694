use Rattle.std.proofs.Common.{◌≡◌, rules, refl, sym, ap, ◌∙◌, arith, drop, ◌+◌, [], ◌∷◌}
use Rattle.std.proofs.lemmas.List.{drop_all}
use Rattle.std.specs.FinMap.{remove}
use Rattle.blocks.specs.Blocks.{Served}
use Rattle.blocks.proofs.Change.{changes_same, changes_then}
use Rattle.blocks.proofs.Serve.{served_then}
use Rattle.keyspace.proofs.Insides.{grown_on}
use Rattle.zset_object.specs.Scored.{scores}
use Rattle.plain_model.specs.ZsetSteps.{without_members}
use Rattle.cmd_zsets.proofs.Rests.{settings_then, rest_from}
use Rattle.cmd_zsets.proofs.removing.take_each.Goals as goal

pub loop-member-init : goal.loop-member-init
loop-member-init g c = record {
  sound = c.requires;
  settings = record { limits = refl; seed = refl };
  is = refl;
  form = refl;
  changes = changes_same _ _ c.requires.owned;
  grown = Served.no_step;
  settles = λ most first. first;
  served = Served.no_step;
}

pub returns-in_err-take_out-clause-settings : goal.returns-in_err-take_out-clause-settings
returns-in_err-take_out-clause-settings g c = settings_then _ _ _ c.loop-member.invariant.settings c.take_out.ensures.settings

pub returns-in_err-take_out-clause-form : goal.returns-in_err-take_out-clause-form
returns-in_err-take_out-clause-form g c = c.take_out.ensures.form ∙ c.loop-member.invariant.form

pub returns-in_err-take_out-clause-changes : goal.returns-in_err-take_out-clause-changes
returns-in_err-take_out-clause-changes g c = changes_then _ _ _ _ _ _ c.loop-member.invariant.changes c.take_out.ensures.changes

pub returns-in_err-take_out-clause-served : goal.returns-in_err-take_out-clause-served
returns-in_err-take_out-clause-served g c = served_then _ _ _ c.loop-member.invariant.served c.take_out.ensures.served

pub returns-in_err-take_out-clause-grown : goal.returns-in_err-take_out-clause-grown
returns-in_err-take_out-clause-grown g c = grown_on c.args.zset.now.seed c.loop-member.zset.seed _ _ _ c.loop-member.invariant.settings.seed c.loop-member.invariant.grown c.take_out.ensures.grown

pub loop-member-preserved : goal.loop-member-preserved
loop-member-preserved g c =
    let now = scores (g.B.BlockStore.blocks c.loop-member.store) c.loop-member.zset in
    let then = scores (g.B.BlockStore.blocks c.take_out.new.store) c.take_out.new.zset in
    let member = c.member-item.result in
    let others = drop (c.loop-member.member-index + 1) c.args.members.now in
    let rest : drop c.loop-member.member-index c.args.members.now ≡ member ∷ others = rest_from c.args.members.now c.loop-member.member-index member (search rules) c.member-item.is in
    let is : then ≡ remove now member = search rules in
    record {
      sound = c.take_out.ensures.sound;
      settings = settings_then _ _ _ c.loop-member.invariant.settings c.take_out.ensures.settings;
      is = ap (λ m. without_members m others) is ∙ ap (without_members now) (sym rest) ∙ c.loop-member.invariant.is;
      form = c.take_out.ensures.form ∙ c.loop-member.invariant.form;
      changes = changes_then _ _ _ _ _ _ c.loop-member.invariant.changes c.take_out.ensures.changes;
      grown = grown_on c.args.zset.now.seed c.loop-member.zset.seed _ _ _ c.loop-member.invariant.settings.seed c.loop-member.invariant.grown c.take_out.ensures.grown;
      settles = λ most first. c.in_ok-take_out.ensures.settles most (c.loop-member.invariant.settles most first);
      served = served_then _ _ _ c.loop-member.invariant.served c.take_out.ensures.served;
    }

pub returns-clause-is : goal.returns-clause-is
returns-clause-is g c =
    let now = scores (g.B.BlockStore.blocks c.loop-member.store) c.loop-member.zset in
    let none : drop c.loop-member.member-index c.args.members.now ≡ [] = drop_all c.loop-member.member-index c.args.members.now (omega (arith, c.loop-member-test.false)) in
    ap (without_members now) (sym none) ∙ c.loop-member.invariant.is

pub returns-clause-grown : goal.returns-clause-grown
returns-clause-grown g c = c.loop-member.invariant.grown

pub returns-clause-settles : goal.returns-clause-settles
returns-clause-settles g c = c.loop-member.invariant.settles
