-- The blocks of a dictionary's elements are given back, from the first item number on.
use Rattle.std.proofs.Common.{◌≡◌, ℕ, zero, suc, ◌+◌, ◌<◌, Bool, false, List, [], ◌∷◌, drop, flat_map, Option, Some, None, IsSome, refl, sym, ap, ◌∙◌, subst, arith}
use Rattle.std.specs.Prelude.{IsTrue}
use Rattle.std.proofs.lemmas.Bool.{cond-true}
use Rattle.blocks.specs.declared.BlockRef.{BlockRef}
use Rattle.blocks.specs.Blocks.{Blocks, times, with_block, Changes, Owned}
use Rattle.blocks.proofs.Refs.{ref_eq_refl}
use Rattle.blocks.proofs.Times.{times-append}
use Rattle.blocks.proofs.Change.{one, live_is_in_change, changes_same, changes_then, changes_counted, changes_beside, changes_owned, counts_ended}
use Rattle.rehash_dict.specs.Table.{Element, Table, at_item, item}
use Rattle.rehash_dict.specs.Steps.{Holds}
use Rattle.rehash_dict.specs.MapOf.{own_of, refs_of, key_refs}
use Rattle.collection_walk.proofs.Ranks.{Slots}

module _ {V : Type 0} where
  -- an item number that is no element's
  pub no_item : (t : Table V) (at : ℕ) (b : Bool) → b ≡ false → (IsTrue b → IsSome (item t at)) × (IsSome (item t at) → IsTrue b) → item t at ≡ None
  no_item t at b not_one both = none (item t at) both.1
    where
      none : (o : Option (Element V)) → (IsSome o → IsTrue b) → o ≡ None
      none None h = refl
      none (Some e) h = absurd (let t : IsTrue b = h refl in cc)

all_left : {V : Type 0} (items : Slots V) → drop 0 items ≡ items
all_left [] = refl
all_left (x ∷ items) = refl

module _ {V : Type 0} (own : V → List BlockRef) where
  -- the blocks of the elements from an item number on
  abbrev pub refs_from : Table V → ℕ → List BlockRef
  refs_from t n = flat_map (own_of own) (drop n t.items)

  left_past : (n : ℕ) → flat_map (own_of own) (drop n []) ≡ []
  left_past zero = refl
  left_past (suc n) = refl

  left_next : (items : Slots V) (n : ℕ) (q : BlockRef) → times q (flat_map (own_of own) (drop n items)) ≡ times q (own_of own (at_item items n)) + times q (flat_map (own_of own) (drop (suc n) items))
  left_next [] n q = (let one' = ap (times q) (left_past n) in let two = ap (times q) (left_past (suc n)) in omega (arith, one', two))
  left_next (x ∷ items) zero q = times-append q (own_of own x) (flat_map (own_of own) items) ∙ ap (λ xs. times q (own_of own x) + times q (flat_map (own_of own) xs)) (sym (all_left items))
  left_next (x ∷ items) (suc n) q = left_next items n q

  left_end : (items : Slots V) (n : ℕ) (q : BlockRef) → ((i : ℕ) → IsSome (at_item items i) → i < n) → times q (flat_map (own_of own) (drop n items)) ≡ 0
  left_end [] n q below = ap (times q) (left_past n)
  left_end (x ∷ items) zero q below = omega (
    arith,
    times-append q (own_of own x) (flat_map (own_of own) items),
    none x (λ some. omega (arith, below 0 some)),
    ap (λ list. times q (flat_map (own_of own) list)) (all_left items),
    left_end items zero q (λ i some. absurd (omega (arith, below (suc i) some))),
  )
    where
      none : (o : Option (Element V)) → (IsSome o → ⊥) → times q (own_of own o) ≡ 0
      none None h = refl
      none (Some e) h = absurd (h refl)
  left_end (x ∷ items) (suc n) q below = left_end items n q (λ i some. omega (arith, below (suc i) some))

  pub end_begins : (t : Table V) (m : Blocks) → Owned (refs_of own t) m → Changes m m (refs_of own t) (refs_from t 0)
  end_begins t m owned = subst (λ items. Changes m m (refs_of own t) (flat_map (own_of own) items)) (sym (all_left t.items)) (changes_same m (refs_of own t) owned)

  module _ (t : Table V) (n : ℕ) (m mid : Blocks) (p : Changes m mid (refs_of own t) (refs_from t n)) where
    left_owned : Owned (refs_from t n) mid
    left_owned = changes_owned m mid (refs_of own t) (refs_from t n) p

    -- an item number without an element
    pub end_skips : item t n ≡ None → Changes m mid (refs_of own t) (refs_from t (suc n))
    end_skips none = changes_then m mid mid (refs_of own t) (refs_from t n) (refs_from t (suc n)) p
        (changes_beside mid mid [] [] (refs_from t n) (refs_from t (suc n)) (changes_same mid [] (λ q. omega arith)) left_owned (λ q. times q (refs_from t (suc n)))
        (λ q. omega (arith, left_next t.items n q, ap (λ o. times q (own_of own o)) none)) (λ q. omega arith))

    module _ (key : BlockRef) (value : V) (h : Holds t n key value) where
      named : (q : BlockRef) → times q (refs_from t n) ≡ times q (key ∷ own value) + times q (refs_from t (suc n))
      named q = left_next t.items n q ∙ ap (λ o. times q (own_of own o) + times q (refs_from t (suc n))) h.found

      pub end_owned : Owned (key ∷ own value) mid
      end_owned q = omega (arith, named q, left_owned q)

      pub end_goes_on : (after : Blocks) → Changes mid after (key ∷ own value) [] → Changes m after (refs_of own t) (refs_from t (suc n))
      end_goes_on after given = changes_then m mid after (refs_of own t) (refs_from t n) (refs_from t (suc n)) p
          (changes_beside mid after (key ∷ own value) [] (refs_from t n) (refs_from t (suc n)) given left_owned (λ q. times q (refs_from t (suc n))) named (λ q. omega arith))

  pub end_all : (t : Table V) (n : ℕ) (m mid : Blocks) → Changes m mid (refs_of own t) (refs_from t n) → ((i : ℕ) → IsSome (item t i) → i < n) → Changes m mid (refs_of own t) []
  end_all t n m mid p below = changes_then m mid mid (refs_of own t) (refs_from t n) [] p
      (changes_beside mid mid [] [] (refs_from t n) [] (changes_same mid [] (λ q. omega arith)) (changes_owned m mid (refs_of own t) (refs_from t n) p) (λ q. 0)
      (λ q. left_end t.items n q below) (λ q. omega arith))

-- ---- elements that own the blocks of their keys alone

module _ {V : Type 0} (t : Table V) (n : ℕ) (m mid : Blocks) (p : Changes m mid (key_refs t) (refs_from (λ (_ : V). []) t n)) (key : BlockRef) (value : V) (h : Holds t n key value) where
  key_owned : Owned (key ∷ []) mid
  key_owned = end_owned (λ (_ : V). []) t n m mid p key value h

  pub key_live : IsSome (mid key)
  key_live = live_is_in_change mid key (omega (arith, key_owned key, self))
    where
      self : one key key ≡ 1
      self = cond-true _ _ _ (ref_eq_refl key)

  pub key_goes_on : (after : Blocks) → after ≡ with_block mid key None → Changes m after (key_refs t) (refs_from (λ (_ : V). []) t (suc n))
  key_goes_on after given = end_goes_on (λ (_ : V). []) t n m mid p key value h after
      (changes_counted mid after (key ∷ []) [] key_owned (counts_ended mid after key (key ∷ []) [] key_live given (λ q. omega arith)))
