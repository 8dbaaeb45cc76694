use Rattle.std.proofs.Common.{◌≡◌, refl, sym, ap, subst, ◌∙◌, true, map, length, rules, arith, FitsSigned, to_z, of_z}
use Rattle.std.specs.Int.{w64, w128}
use Rattle.std.proofs.lemmas.Int.{to_z-of_z}
use Rattle.std.specs.FinMap.{get, insert, len}
use Rattle.std.proofs.lemmas.Bool.{and_parts}
use Rattle.blocks.specs.Blocks.{Served}
use Rattle.blocks.proofs.Change.{changes_same, changes_then}
use Rattle.blocks.proofs.Serve.{served_then}
use Rattle.keyspace.proofs.Insides.{grown_on}
use Rattle.keyspace.proofs.Settles.{one_more}
use Rattle.object_codec.specs.Forms.{IsLeast}
use Rattle.zset_object.specs.Orders.{FitsScored, IsRisen}
use Rattle.zset_object.specs.Scored.{scores, form_of}
use Rattle.plain_model.specs.ZsetSteps.{are_scores, is_score}
use Rattle.cmd_zsets.specs.Joined.{entry_of, gathered, or_else}
use Rattle.cmd_zsets.proofs.Gathered.{one_over, none_over, none_left}
use Rattle.cmd_zsets.proofs.Put.{least_more}
use Rattle.cmd_zsets.proofs.Rests.{settings_then}
use Rattle.cmd_zsets.proofs.storing.fill_zset.Goals as goal

pub members-init : goal.members-init
members-init g c = record {
  sound = c.requires.sound;
  settings = record { limits = refl; seed = refl };
  range = c.requires.range;
  is = λ q. refl;
  least = λ h. h;
  changes = changes_same _ _ c.requires.sound.owned;
  grown = Served.no_step;
  more = omega arith;
  served = Served.no_step;
}

pub score_of-requires : goal.score_of-requires
score_of-requires g c =
    let left = map entry_of c.pop_first.new.self.entries in
    let fits : FitsSigned w128 c.in-Some.sum = search rules in
    subst (λ n. is_score n ≡ true) (sym (to_z-of_z w128 c.in-Some.sum fits))
    (and_parts (is_score c.in-Some.sum) (are_scores left) (ap (λ l. are_scores (map entry_of l)) (sym c.in-Some.ensures.removal) ∙ c.members.invariant.range)).0

pub returns-in_err-give_score-clause-settings : goal.returns-in_err-give_score-clause-settings
returns-in_err-give_score-clause-settings g c = settings_then _ _ _ c.members.invariant.settings c.give_score.ensures.settings

pub returns-in_err-give_score-clause-changes : goal.returns-in_err-give_score-clause-changes
returns-in_err-give_score-clause-changes g c = changes_then _ _ _ _ _ _ c.members.invariant.changes c.give_score.ensures.changes

pub returns-in_err-give_score-clause-served : goal.returns-in_err-give_score-clause-served
returns-in_err-give_score-clause-served g c = served_then _ _ _ c.members.invariant.served c.give_score.ensures.served

pub returns-in_err-give_score-clause-grown : goal.returns-in_err-give_score-clause-grown
returns-in_err-give_score-clause-grown g c = grown_on c.args.zset.now.seed c.members.zset.seed _ _ _ c.members.invariant.settings.seed c.members.invariant.grown c.give_score.ensures.grown

pub members-preserved : goal.members-preserved
members-preserved g c =
    let limits = c.args.zset.now.limits in
    let zset = scores (g.B.BlockStore.blocks c.members.store) c.members.zset in
    let now = scores (g.B.BlockStore.blocks c.give_score.new.store) c.give_score.new.zset in
    let name = c.in-Some.member in
    let sum = c.in-Some.sum in
    let from = form_of c.members.zset in
    let form = form_of c.give_score.new.zset in
    let inv = c.members.invariant in
    let named = c.as_slice.ensures.value in
    let big : FitsSigned w128 sum = search rules in
    let small : FitsSigned w64 c.score_of.result = search rules in
    let score = to_z w64 (of_z w64 c.score_of.result) in
    let scored : score ≡ sum = to_z-of_z w64 c.score_of.result small ∙ c.score_of.ensures ∙ to_z-of_z w128 sum big in
    let same : insert zset c.as_slice.result.now score ≡ insert zset name.items sum = ap (λ k. insert zset k score) named ∙ ap (insert zset name.items) scored in
    let one : now ≡ insert zset name.items sum = c.in_ok-give_score.ensures.is ∙ same in
    let risen : IsRisen limits from (insert zset name.items sum) form =
    subst (λ l. IsRisen l from (insert zset name.items sum) form) inv.settings.limits (subst (λ s. IsRisen c.members.zset.limits from s form) same c.in_ok-give_score.ensures.risen) in
    record {
      sound = c.give_score.ensures.sound;
      settings = settings_then _ _ _ inv.settings c.give_score.ensures.settings;
      range = (and_parts (is_score sum) (are_scores (map entry_of c.pop_first.new.self.entries)) (ap (λ l. are_scores (map entry_of l)) (sym c.in-Some.ensures.removal) ∙ inv.range)).1;
      is = λ q. ap (λ s. or_else (get (gathered c.pop_first.new.self) q) (get s q)) one
          ∙ one_over c.members.sums c.pop_first.new.self name sum zset c.in-Some.ensures.removal c.in-Some.ensures.updates.1 q ∙ inv.is q;
      least = λ h. subst (λ s. IsLeast (FitsScored limits s) form) (sym one) (least_more limits zset name.items sum from form (inv.least h) risen);
      changes = changes_then _ _ _ _ _ _ inv.changes c.give_score.ensures.changes;
      grown = grown_on c.args.zset.now.seed c.members.zset.seed _ _ _ c.members.invariant.settings.seed c.members.invariant.grown c.give_score.ensures.grown;
      more = omega (arith, inv.more, ap len one, one_more zset name.items sum);
      served = served_then _ _ _ inv.served c.give_score.ensures.served;
    }

pub returns-clause-fills : goal.returns-clause-fills
returns-clause-fills g c =
    let zset = scores (g.B.BlockStore.blocks c.members.store) c.members.zset in
    let none : length c.members.sums.entries ≡ 0 = search rules in
    record {
      is = λ q. sym (none_over c.members.sums zset (none_left c.members.sums.entries none) q) ∙ c.members.invariant.is q;
      least = c.members.invariant.least;
    }

pub returns-clause-grown : goal.returns-clause-grown
returns-clause-grown g c = c.members.invariant.grown

pub returns-clause-more : goal.returns-clause-more
returns-clause-more g c = c.members.invariant.more
