-- Members of a span of the list of a sorted set, taken off by their ranks.
use Rattle.std.proofs.Common.{◌≡◌, ℕ, ◌+◌, ◌-◌, ◌≤◌, Bool, true, false, cond, List, [], ◌∷◌, ◌++◌, length, take, drop, Option, None, refl, sym, ap, ◌∙◌, arith}
use Rattle.std.specs.Prelude.{ℤ, reverse, slice_range}
use Rattle.std.specs.Ordering.{nat_cmp, eq_by_cmp}
use Rattle.std.specs.Cmp.Lexicographic.{slice_cmp, nat_list_cmp_total}
use Rattle.std.specs.FinMap.{get, remove, get-remove}
use Rattle.std.proofs.lemmas.List.{reverse-append}
use Rattle.plain_world.proofs.Maps.{maps_alike}
use Rattle.score_table.specs.Ranking.{without_each}
use Rattle.plain_model.specs.ZsetSteps.{Scores, Scored, met, members_of, without_members}
use Rattle.plain_model.specs.declared.zset_command.Direction.{Direction}
use Rattle.plain_model.specs.declared.zset_command.Direction.TheVariants.{Rising, Falling}
use Rattle.cmd_zsets.specs.Spans.{start_of}
use Rattle.cmd_zsets.proofs.Told.{met_back}

pub takes_none : (scores : Scores) (list : List Scored) → without_members scores (members_of (take 0 list)) ≡ scores
takes_none scores [] = refl
takes_none scores (x ∷ xs) = refl

-- ---- in whatever order they leave

swapped : (a b : Bool) (o : Option ℤ) → cond a None (cond b None o) ≡ cond b None (cond a None o)
swapped true true o = refl
swapped true false o = refl
swapped false true o = refl
swapped false false o = refl

-- of two members either may leave first
either_first : (scores : Scores) (a b : List ℕ) → remove (remove scores a) b ≡ remove (remove scores b) a
either_first scores a b = maps_alike _ _ (λ q.
    let tied_a = eq_by_cmp (slice_cmp nat_cmp) q a in
    let tied_b = eq_by_cmp (slice_cmp nat_cmp) q b in
    get-remove nat_list_cmp_total (remove scores a) b q ∙ ap (cond tied_b None) (get-remove nat_list_cmp_total scores a q) ∙ swapped tied_b tied_a (get scores q)
    ∙ sym (get-remove nat_list_cmp_total (remove scores b) a q ∙ ap (cond tied_a None) (get-remove nat_list_cmp_total scores b q)))

-- one may leave before the others or after them
sooner : (scores : Scores) (list : List Scored) (member : List ℕ) → remove (without_members scores (members_of list)) member ≡ without_members (remove scores member) (members_of list)
sooner scores [] member = refl
sooner scores (x ∷ xs) member = sooner (remove scores x.1) xs member ∙ ap (λ s. without_members s (members_of xs)) (either_first scores x.1 member)

last_gone : (scores : Scores) (list : List Scored) (x : Scored) → without_members scores (members_of (list ++ x ∷ [])) ≡ remove (without_members scores (members_of list)) x.1
last_gone scores [] x = refl
last_gone scores (y ∷ ys) x = last_gone (remove scores y.1) ys x

-- they may leave backwards
back_gone : (scores : Scores) (list : List Scored) → without_members scores (members_of (reverse list)) ≡ without_members scores (members_of list)
back_gone scores [] = refl
back_gone scores (x ∷ xs) =
    ap (λ l. without_members scores (members_of l)) (reverse-append (x ∷ []) xs) ∙ last_gone scores (reverse xs) x ∙ ap (λ s. remove s x.1) (back_gone scores xs) ∙ sooner scores xs x.1

-- ---- by their ranks

each_gone : (scores : Scores) (list : List Scored) → without_each scores list ≡ without_members scores (members_of list)
each_gone scores [] = refl
each_gone scores (x ∷ xs) = each_gone (remove scores x.1) xs

-- the members of a span are those of a range of ranks
pub span_gone : (scores : Scores) (from : Direction) (list : List Scored) (start count low end : ℕ) → start + count ≤ length list → low ≡ start_of from (length list) start (start + count)
    → end ≡ low + count → without_each scores (slice_range list low end) ≡ without_members scores (members_of (take count (drop start (met from list))))
span_gone scores Rising list start count low end inside is behind =
    let many : end - low ≡ count = omega (arith, behind) in
    each_gone scores (slice_range list low end) ∙ ap (λ n. without_members scores (members_of (take n (drop low list)))) many
    ∙ ap (λ n. without_members scores (members_of (take count (drop n list)))) is
span_gone scores Falling list start count low end inside is behind =
    let many : end - low ≡ count = omega (arith, behind) in
    let first : low ≡ length list - start - count = omega (arith, is) in
    each_gone scores (slice_range list low end) ∙ ap (λ n. without_members scores (members_of (take n (drop low list)))) many
    ∙ ap (λ n. without_members scores (members_of (take count (drop n list)))) first
    ∙ sym (back_gone scores (take count (drop (length list - start - count) list)))
    ∙ ap (λ l. without_members scores (members_of l)) (sym (met_back list start count inside))
