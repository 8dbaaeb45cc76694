use Rattle.std.proofs.Common.{Result, Ok, Err, IfOk, sym, subst, ap, ◌∙◌}
use Rattle.std.specs.Prelude.{T}
use Rattle.std.specs.FinMap.{find, is_sorted}
use Rattle.stream_groups.specs.Groups.{name_cmp, tallied}
use Rattle.stream_groups.proofs.Tallies.{counted_sorted, counted_tallied}
use Rattle.stream_groups.proofs.pendings.Pendings.owners.Goals as goal

-- what holds of what was made has what follows from it
if_ok : {A E : Type 0} {P Q : A → Type 0} (r : Result A E) → ((x : A) → P x → Q x) → IfOk r P → IfOk r Q
if_ok (Ok x) f h = f x h
if_ok (Err e) f h = tt

pub returns-clause-rising : goal.returns-clause-rising
returns-clause-rising c = if_ok c.owners.result (λ owners is. subst (λ es. T (is_sorted name_cmp es)) (sym is) (counted_sorted c.self.inside.index)) c.owners.ensures.counted

pub returns-clause-counts : goal.returns-clause-counts
returns-clause-counts c = if_ok c.owners.result
    (λ owners is name. ap (find name_cmp name) is ∙ counted_tallied c.self.inside.index c.self.inside.entries name c.self.invariant c.owners.ensures.some ∙ ap (λ p. tallied p name) c.self.view_is)
    c.owners.ensures.counted
