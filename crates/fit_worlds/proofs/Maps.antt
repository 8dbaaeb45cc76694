-- What stands at each key of a finite map, where the map changes.
use Rattle.std.proofs.Common.{◌≡◌, ℕ, zero, suc, ◌<◌, ◌==◌, Bool, true, false, cond, List, Some, None, refl, sym, subst, ◌∙◌, arith}
use Rattle.std.specs.Ordering.{nat_cmp, eq_by_cmp, is_eq}
use Rattle.std.specs.declared.cmp.Ordering.{Ordering}
use Rattle.std.specs.declared.cmp.Ordering.TheVariants.{Less, Equal, Greater}
use Rattle.std.specs.Cmp.Lexicographic.{slice_cmp, nat_list_cmp_total}
use Rattle.std.specs.FinMap.{FinMap, empty, get, insert, get-empty, get-insert, get-remove, slice_cmp-IsAntisymmetric, nat_cmp-IsAntisymmetric}
use Rattle.std.specs.FinMap as finite
use Rattle.fit_worlds.specs.Fit.{EachIs}

equal : (o : Ordering) → is_eq o ≡ true → o ≡ Equal
equal Less h = cc
equal Equal h = refl
equal Greater h = cc

-- keys that tie are the same
tied : (q k : List ℕ) → eq_by_cmp (slice_cmp nat_cmp) q k ≡ true → q ≡ k
tied q k h = slice_cmp-IsAntisymmetric nat_cmp-IsAntisymmetric q k (equal (slice_cmp nat_cmp q k) h)

module _ {X : Type 0} (Is : List ℕ → X → Type 0) where
  pub each_empty : EachIs Is empty
  each_empty key x at = let none : get empty key ≡ None = get-empty (slice_cmp nat_cmp) key in let same : None ≡ Some x = sym none ∙ at in cc

  pub each_insert : (m : FinMap (slice_cmp nat_cmp) X) (k : List ℕ) (x : X) → EachIs Is m → Is k x → EachIs Is (insert m k x)
  each_insert m k x each is q y at = placed (eq_by_cmp (slice_cmp nat_cmp) q k) refl (sym (get-insert nat_list_cmp_total m k x q) ∙ at)
    where
      placed : (b : Bool) → eq_by_cmp (slice_cmp nat_cmp) q k ≡ b → cond b (Some x) (get m q) ≡ Some y → Is q y
      placed true same e = let one : x ≡ y = cc in subst (Is q) one (subst (λ key. Is key x) (sym (tied q k same)) is)
      placed false other e = each q y e

  pub each_remove : (m : FinMap (slice_cmp nat_cmp) X) (k : List ℕ) → EachIs Is m → EachIs Is (finite.remove m k)
  each_remove m k each q y at = left (eq_by_cmp (slice_cmp nat_cmp) q k) (sym (get-remove nat_list_cmp_total m k q) ∙ at)
    where
      left : (b : Bool) → cond b None (get m q) ≡ Some y → Is q y
      left true e = cc
      left false e = each q y e

-- a number that isn't 0 is above it
pub some_len : (n : ℕ) → (n == 0) ≡ false → 0 < n
some_len zero e = cc
some_len (suc n) e = omega arith
