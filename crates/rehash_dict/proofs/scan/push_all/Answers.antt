use Rattle.std.proofs.Common.{◌∙◌, ◌++◌, ◌∷◌, [], sym, ap, refl, append_assoc, append-nil}
use Rattle.rehash_dict.specs.Chains.{chain_left}
use Rattle.rehash_dict.proofs.Turns.{extends_same, extends_more}
use Rattle.rehash_dict.proofs.scan.push_all.Goals as goal

pub loop-at-init : goal.loop-at-init
loop-at-init g c = record { all = refl; kept = extends_same _ _ refl }

pub loop-at-preserved : goal.loop-at-preserved
loop-at-preserved g c = record {
  all = ap (λ r. r ++ chain_left c.next.new.self) c.in_ok-push.ensures.items ∙ append_assoc c.loop-at.found.items (c.in-Some.at ∷ []) _
      ∙ ap (λ r. c.loop-at.found.items ++ r) (sym c.in-Some.ensures.steps) ∙ c.loop-at.invariant.all;
  kept = extends_more _ _ _ _ c.loop-at.invariant.kept c.in_ok-push.ensures.items;
}

pub returns-clause-found : goal.returns-clause-found
returns-clause-found g c =
    sym (append-nil c.loop-at.found.items) ∙ ap (λ r. c.loop-at.found.items ++ r) (sym c.in-None.ensures.steps.0) ∙ c.loop-at.invariant.all
    ∙ ap (λ i. c.args.found.now.items ++ chain_left i) c.into_iter-at-iterator.ensures.into_iter_gives
