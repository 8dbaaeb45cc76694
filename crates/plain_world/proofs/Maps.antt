-- Finite maps by keys of bytes.
use Rattle.std.proofs.Common.{◌≡◌, ℕ, Bool, true, false, cond, List, Option, Some, None, refl, sym, ap, ◌∙◌}
use Rattle.std.proofs.lemmas.Bool.{cond-true}
use Rattle.std.specs.Ordering.{nat_cmp, eq_by_cmp}
use Rattle.std.specs.Cmp.{eq_by_cmp_equiv}
use Rattle.std.specs.Cmp.Lexicographic.{slice_cmp, nat_list_cmp_total}
use Rattle.std.specs.FinMap.{FinMap, get, insert, get-insert, same_map, slice_cmp-IsAntisymmetric, nat_cmp-IsAntisymmetric, remove, get-remove}

module _ {X : Type 0} where
  -- maps that have the same at each key are the same
  pub maps_alike : (m n : FinMap (slice_cmp nat_cmp) X) → ((q : List ℕ) → get m q ≡ get n q) → m ≡ n
  maps_alike = same_map nat_list_cmp_total (slice_cmp-IsAntisymmetric nat_cmp-IsAntisymmetric)

  -- what was put at a key stands there
  pub get_inserted : (m : FinMap (slice_cmp nat_cmp) X) (k : List ℕ) (x : X) → get (insert m k x) k ≡ Some x
  get_inserted m k x = get-insert nat_list_cmp_total m k x k ∙ cond-true _ _ _ ((eq_by_cmp_equiv nat_list_cmp_total).refl k)

  -- nothing stands at a key that was removed
  pub get_removed : (m : FinMap (slice_cmp nat_cmp) X) (k : List ℕ) → get (remove m k) k ≡ None
  get_removed m k = get-remove nat_list_cmp_total m k k ∙ cond-true _ _ _ ((eq_by_cmp_equiv nat_list_cmp_total).refl k)

  -- what is put at a key takes the place of what was put there before
  pub insert_over : (m : FinMap (slice_cmp nat_cmp) X) (q : List ℕ) (a b : X) → insert (insert m q a) q b ≡ insert m q b
  insert_over m q a b =
      maps_alike _ _ (λ k.
      get-insert nat_list_cmp_total (insert m q a) q b k ∙ ap (λ o. cond (eq_by_cmp (slice_cmp nat_cmp) k q) (Some b) o) (get-insert nat_list_cmp_total m q a k)
      ∙ shadowed (eq_by_cmp (slice_cmp nat_cmp) k q) (Some b) (Some a) (get m k) ∙ sym (get-insert nat_list_cmp_total m q b k))
    where
      shadowed : (t : Bool) (x y z : Option X) → cond t x (cond t y z) ≡ cond t x z
      shadowed true x y z = refl
      shadowed false x y z = refl
