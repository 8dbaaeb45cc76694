-- What a list of found keys holds.
use Rattle.std.proofs.Common.{◌≡◌, inl, inr, ℕ, zero, suc, ◌+◌, ◌<◌, ◌≤◌, Bool, true, false, cond, nat_lt, List, [], ◌∷◌, ◌++◌, length, take, slice_get, Option, Some, None, refl, sym, ap}
use Rattle.std.proofs.Common.{◌∙◌, subst, arith}
use Rattle.std.proofs.lemmas.Bool.{ltb-true, lt-ltb, cond-true, cases_eq}
use Rattle.std.proofs.lemmas.Bool.Decides.{nat_tests}
use Rattle.blocks.specs.declared.BlockRef.{BlockRef}
use Rattle.blocks.specs.Blocks.{IsIn, ref_eq}
use Rattle.blocks.proofs.Refs.{ref_eq_refl}
use Rattle.blocks.proofs.Times.{times-append}
use Rattle.rev_cursor.specs.Place.{place}
use Rattle.rev_cursor.specs.Span as span
use Rattle.rev_cursor.specs.Span.{Span}
use Rattle.rehash_dict.specs.Table.{Element, Table, item}
use Rattle.rehash_dict.specs.ScanPlaces.{place_in}
use Rattle.expiry.specs.Found.{gone_at, gone_of, IsGone, AreGone, NameAllGone}
use Rattle.expiry.proofs.Gathering.{take_few}

-- what a front of a list has
front_has : (xs : List BlockRef) (n index : ℕ) (r : BlockRef) → slice_get (take n xs) index ≡ Some r → slice_get xs index ≡ Some r
front_has [] zero index r h = h
front_has [] (suc n) index r h = h
front_has (x ∷ xs) zero index r h = cc
front_has (x ∷ xs) (suc n) zero r h = h
front_has (x ∷ xs) (suc n) (suc index) r h = front_has xs n index r h

one_in : (b : Bool) → b ≡ true → 0 < cond b 1 0 + 0
one_in true h = omega arith
one_in false h = cc

module _ (t : Table ℕ) (moment : ℕ) where
  -- either the element of an item is the one at the index, or the index is one further on
  at_test : (x : ℕ) (e : Element ℕ) (rest : List BlockRef) (r : BlockRef) → item t x ≡ Some e → ((index : ℕ) → slice_get rest index ≡ Some r → IsGone t moment r) → (b : Bool)
      → nat_lt e.value moment ≡ b → (index : ℕ) → slice_get (cond b (e.key ∷ []) [] ++ rest) index ≡ Some r → IsGone t moment r
  at_test x e rest r is next false test index h = next index h
  at_test x e rest r is next true test zero h = record { at = x; element = e; found = is; names = cc; past = ltb-true e.value moment test }
  at_test x e rest r is next true test (suc index) h = next index h

  at_item : (x : ℕ) (o : Option (Element ℕ)) (rest : List BlockRef) (r : BlockRef) → item t x ≡ o → ((index : ℕ) → slice_get rest index ≡ Some r → IsGone t moment r) → (index : ℕ)
      → slice_get (gone_at moment o ++ rest) index ≡ Some r → IsGone t moment r
  at_item x None rest r is next index h = next index h
  at_item x (Some e) rest r is next index h = at_test x e rest r is next (nat_lt e.value moment) refl index h

  all_gone : (xs : List ℕ) → AreGone t moment (gone_of t moment xs)
  all_gone [] index r h = cc
  all_gone (x ∷ xs) index r h = at_item x (item t x) (gone_of t moment xs) r refl (λ i. all_gone xs i r) index h

  pub found_gone : (xs : List ℕ) (n : ℕ) → AreGone t moment (take n (gone_of t moment xs))
  found_gone xs n index r h = all_gone xs index r (front_has (gone_of t moment xs) n index r h)

  -- the key of a gone element is named where its item is met
  here : (at : ℕ) (e : Element ℕ) → item t at ≡ Some e → e.value < moment → IsIn e.key (gone_at moment (item t at))
  here at e is past =
      let one : gone_at moment (item t at) ≡ e.key ∷ [] = ap (gone_at moment) is ∙ cond-true (nat_lt e.value moment) (e.key ∷ []) [] (lt-ltb e.value moment past) in
      subst (λ l. IsIn e.key l) (sym one) (one_in (ref_eq e.key e.key) (ref_eq_refl e.key))

  named : (xs : List ℕ) (at : ℕ) (e : Element ℕ) → item t at ≡ Some e → e.value < moment → 0 < span.times at xs → IsIn e.key (gone_of t moment xs)
  named [] at e is past some = absurd (omega arith)
  named (x ∷ xs) at e is past some = elim (cases_eq x at) [
    | inl same ↦ omega (arith, times-append e.key (gone_at moment (item t x)) (gone_of t moment xs), subst (λ y. IsIn e.key (gone_at moment (item t y))) (sym same) (here at e is past))
    | inr other ↦ omega (arith, times-append e.key (gone_at moment (item t x)) (gone_of t moment xs), named xs at e is past (grind (arith, nat_tests)))
  ]

  pub names_all : (v next : ℕ) (xs : List ℕ) → Span (λ i. place_in (item t i)) v next xs → length (gone_of t moment xs) ≤ 16 → NameAllGone t moment v next (take 16 (gone_of t moment xs))
  names_all v next xs s few at e is past from below =
      subst (λ l. IsIn e.key l) (sym (take_few (gone_of t moment xs) 16 few))
      (named xs at e is past (omega (arith, s.whole at (place e.hash) (ap place_in is) from below)))
