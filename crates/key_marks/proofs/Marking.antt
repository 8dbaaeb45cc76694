-- What stands at keys after a call.
use Rattle.std.proofs.Common.{◌≡◌, inl, inr, ℕ, Bool, true, false, cond, List, [], Option, None, Some, refl, sym, ap, ◌∙◌}
use Rattle.std.specs.Prelude.{◌≢◌}
use Rattle.std.proofs.lemmas.Bool.{cond-true, cond-false, cases_Bool}
use Rattle.std.specs.Ordering.{nat_cmp, eq_by_cmp, is_eq}
use Rattle.std.specs.declared.cmp.Ordering.{Ordering}
use Rattle.std.specs.declared.cmp.Ordering.TheVariants.{Less, Equal, Greater}
use Rattle.std.specs.Cmp.{eq_by_cmp_equiv}
use Rattle.std.specs.Cmp.Lexicographic.{slice_cmp, nat_list_cmp_total}
use Rattle.std.specs.FinMap.{FinMap, empty, get, insert, remove, get-empty, get-insert, get-remove, same_map, slice_cmp-IsAntisymmetric, nat_cmp-IsAntisymmetric}
use Rattle.stream_groups.specs.Groups.{name_cmp}
use Rattle.key_marks.specs.Marked.{or_none, marks_at}

-- keys that differ don't compare as equal
unlike : (q key : List ℕ) → q ≢ key → eq_by_cmp (slice_cmp nat_cmp) q key ≡ false
unlike q key other = elim (cases_Bool (eq_by_cmp (slice_cmp nat_cmp) q key)) [
  | inl same ↦ absurd (other (slice_cmp-IsAntisymmetric nat_cmp-IsAntisymmetric q key (equal (slice_cmp nat_cmp q key) same)))
  | inr differ ↦ differ
]
  where
    equal : (o : Ordering) → is_eq o ≡ true → o ≡ Equal
    equal Less h = cc
    equal Equal h = refl
    equal Greater h = cc

-- no number stands where nothing was added
pub marks_none : (key : List ℕ) → marks_at empty key ≡ []
marks_none key = ap or_none (get-empty name_cmp key)

-- what was put at a key stands there
pub marks_own : (m : FinMap name_cmp (List ℕ)) (key numbers : List ℕ) → marks_at (insert m key numbers) key ≡ numbers
marks_own m key numbers = ap or_none (get-insert nat_list_cmp_total m key numbers key ∙ cond-true _ _ _ ((eq_by_cmp_equiv nat_list_cmp_total).refl key))

-- and at each other key what stood there
pub marks_other : (m : FinMap name_cmp (List ℕ)) (key numbers other : List ℕ) → other ≢ key → marks_at (insert m key numbers) other ≡ marks_at m other
marks_other m key numbers other differs = ap or_none (get-insert nat_list_cmp_total m key numbers other ∙ cond-false _ _ _ (unlike other key differs))

-- what is put where something was removed takes its place
pub put_removed : (m : FinMap name_cmp (List ℕ)) (key numbers : List ℕ) → insert (remove m key) key numbers ≡ insert m key numbers
put_removed m key numbers = same_map nat_list_cmp_total (slice_cmp-IsAntisymmetric nat_cmp-IsAntisymmetric) _ _ (λ q.
    get-insert nat_list_cmp_total (remove m key) key numbers q
    ∙ ap (cond (eq_by_cmp (slice_cmp nat_cmp) q key) (Some numbers)) (get-remove nat_list_cmp_total m key q)
    ∙ shadowed (eq_by_cmp (slice_cmp nat_cmp) q key) (get m q)
    ∙ sym (get-insert nat_list_cmp_total m key numbers q))
  where
    shadowed : (b : Bool) (o : Option (List ℕ)) → cond b (Some numbers) (cond b None o) ≡ cond b (Some numbers) o
    shadowed true o = refl
    shadowed false o = refl
