-- How many elements of a dictionary stand before an item number.
use Rattle.std.proofs.Common.{add-one, ◌≡◌, ℕ, zero, suc, ◌+◌, ◌<◌, List, [], ◌∷◌, take, Option, Some, None, IsSome, is_some, count_by, refl, sym, ap, ◌∙◌, arith}
use Rattle.std.specs.Prelude.{MatchOption}
use Rattle.blocks.proofs.Sums.{count_cons}
use Rattle.collection_walk.proofs.Lists.{some_of}
use Rattle.rehash_dict.specs.Table.{Element, Table, at_item, item}

abbrev pub Slots : Type 0 → Type 0
Slots V = List (Option (Element V))

module _ {V : Type 0} where
  abbrev pub rank : Slots V → ℕ → ℕ
  rank items at = count_by is_some (take at items)

  pub rank_none : (items : Slots V) (at : ℕ) → rank (None ∷ items) (suc at) ≡ rank items at
  rank_none items at = omega (arith, count_cons (is_some {T = Element V}) None (take at items))

  pub rank_some : (e : Element V) (items : Slots V) (at : ℕ) → rank (Some e ∷ items) (suc at) ≡ suc (rank items at)
  rank_some e items at = omega (arith, count_cons is_some (Some e) (take at items))

  pub rank_zero : (items : Slots V) → rank items 0 ≡ 0
  rank_zero [] = refl
  rank_zero (x ∷ items) = refl

  pub rank_past : (items : Slots V) (at : ℕ) → at_item items at ≡ None → rank items (suc at) ≡ rank items at
  rank_past [] zero h = refl
  rank_past [] (suc at) h = refl
  rank_past (None ∷ items) zero h = rank_none items 0 ∙ rank_zero items
  rank_past (Some e ∷ items) zero h = cc
  rank_past (None ∷ items) (suc at) h = omega (arith, rank_none items (suc at), rank_none items at, rank_past items at h)
  rank_past (Some e ∷ items) (suc at) h = omega (arith, rank_some e items (suc at), rank_some e items at, rank_past items at h)

  pub rank_next : (items : Slots V) (at : ℕ) (e : Element V) → at_item items at ≡ Some e → rank items (suc at) ≡ rank items at + 1
  rank_next [] at e h = cc
  rank_next (None ∷ items) zero e h = cc
  rank_next (Some d ∷ items) zero e h = omega (arith, rank_some d items 0, rank_zero items)
  rank_next (None ∷ items) (suc at) e h = omega (arith, rank_none items (suc at), rank_none items at, rank_next items at e h)
  rank_next (Some d ∷ items) (suc at) e h = omega (arith, rank_some d items (suc at), rank_some d items at, rank_next items at e h)

  -- behind the last element all are counted
  pub rank_all : (items : Slots V) (at : ℕ) → ((i : ℕ) → IsSome (at_item items i) → i < at) → rank items at ≡ count_by is_some items
  rank_all [] zero below = refl
  rank_all [] (suc at) below = refl
  rank_all (Some e ∷ items) zero below = absurd (omega (arith, below 0 refl))
  rank_all (None ∷ items) zero below = omega (arith, rank_all items 0 (λ i some. absurd (omega (arith, below (suc i) some))), rank_zero items, count_cons (is_some {T = Element V}) None items)
  rank_all (None ∷ items) (suc at) below = omega (arith, rank_none items at, rank_all items at (λ i some. omega (arith, below (suc i) some)), count_cons (is_some {T = Element V}) None items)
  rank_all (Some e ∷ items) (suc at) below = omega (arith, rank_some e items at, rank_all items at (λ i some. omega (arith, below (suc i) some)), count_cons is_some (Some e) items)

  pub rank_below : (items : Slots V) (at : ℕ) (e : Element V) → at_item items at ≡ Some e → rank items at < count_by is_some items
  rank_below [] at e h = cc
  rank_below (None ∷ items) zero e h = cc
  rank_below (Some d ∷ items) zero e h = omega (arith, count_cons is_some (Some d) items)
  rank_below (None ∷ items) (suc at) e h = omega (arith, rank_none items at, rank_below items at e h, count_cons (is_some {T = Element V}) None items)
  rank_below (Some d ∷ items) (suc at) e h = omega (arith, rank_some d items at, rank_below items at e h, count_cons is_some (Some d) items)

  -- the element at an index of the dictionary's order has this item number
  abbrev pub Stands : Table V → ℕ → ℕ → Type 0
  Stands t index at = IsSome (item t at) × (rank t.items at ≡ index)

  -- the first item number from one on that an element has
  abbrev pub IsNext : Table V → ℕ → Option ℕ → Type 0
  IsNext t from o = MatchOption o (rank t.items from ≡ count_by is_some t.items) (λ at. Stands t (rank t.items from) at)

  pub first_stands : (t : Table V) (len : ℕ) (o : Option ℕ) → len ≡ count_by is_some t.items → IsNext t 0 o → MatchOption o (len ≡ 0) (λ at. Stands t 0 at)
  first_stands t len None is h = is ∙ sym h ∙ rank_zero t.items
  first_stands t len (Some at) is h = (h.0, h.1 ∙ rank_zero t.items)

  pub next_stands : (t : Table V) (len place index : ℕ) (o : Option ℕ) → len ≡ count_by is_some t.items → IsNext t (place + 1) o → Stands t index place
      → MatchOption o (index + 1 ≡ len) (λ to. Stands t (index + 1) to)
  next_stands t len place index o is h at = both o h
    where
      next : rank t.items (place + 1) ≡ index + 1
      next = (let e = some_of (item t place) at.0 in ap (rank t.items) (add-one place) ∙ rank_next t.items place e.0 e.1 ∙ ap (λ n. n + 1) at.1)

      both : (o : Option ℕ) → IsNext t (place + 1) o → MatchOption o (index + 1 ≡ len) (λ to. Stands t (index + 1) to)
      both None h = sym next ∙ h ∙ sym is
      both (Some to) h = (h.0, h.1 ∙ next)
