-- A key or value changes, a table opens, and an empty one is given up.
use Rattle.std.proofs.Common.{◌≡◌, ◌≢◌, inl, inr, ℕ, Bool, cond, List, [], get_or, set, map, replicate, Option, Some, None, is_some, count_by, refl, sym, ap, ◌∙◌, subst, arith}
use Rattle.std.proofs.lemmas.Bool.{cases_eq}
use Rattle.std.proofs.lemmas.List.{get_or-set_same, get_or-set_other, length-replicate, get_or-replicate}
use Rattle.std.proofs.lemmas.List.Sums.{sum_by-set}
use Rattle.rehash_dict.specs.declared.chains.Entry.{Entry}
use Rattle.rehash_dict.specs.Tables.{count, no_elements}
use Rattle.rehash_dict.specs.Table.{Element, Chaining, at_item}
use Rattle.rehash_dict.specs.Placed.{IsSize, Stand}
use Rattle.rehash_dict.specs.Sides.{SwapsIn}
use Rattle.rehash_dict.specs.Chains.{element_of, entry_at, rows, IsChain, IsLinked}
use Rattle.rehash_dict.proofs.Counts.{count_no_elements, bucket_no_elements}
use Rattle.rehash_dict.proofs.Stands.{flip, restands, opens, ends}
use Rattle.rehash_dict.proofs.Rows.{Leads, Made, made, SameLink, leads_kept, leads_older, leads_newer, item_at, count_map_element, within}
use Rattle.rehash_dict.proofs.Ops.{view_of, element}

abbrev one_if : Bool → ℕ
one_if b = cond b 1 0

module _ {V : Type 0} where
  -- an entry keeps its hash and its link
  module _ (slots : List (Option (Entry V))) (older newer : List ℕ) (waiting at : ℕ) (e f : Entry V) (l : IsLinked slots older newer waiting) (found : entry_at slots at ≡ Some e)
      (hash : f.hash ≡ e.hash) (next : f.next ≡ e.next) where
    abbrev later : List (Option (Entry V))
    later = set slots at (Some f)

    now : entry_at later at ≡ Some f
    now = get_or-set_same slots at (Some f) None (within slots at e found)

    other : (i : ℕ) → i ≢ at → entry_at later i ≡ entry_at slots i
    other i ne = get_or-set_other slots at i (Some f) None ne

    links : (i : ℕ) → SameLink slots later i
    links i x h = elim (cases_eq i at) [
      | inl mine ↦ (let one : x ≡ e = (let q : Some x ≡ Some e = sym h ∙ ap (entry_at slots) mine ∙ found in cc) in (f, ap (entry_at later) mine ∙ now, next ∙ ap (λ y. y.next) (sym one)))
      | inr ne ↦ (x, other i ne ∙ h, refl)
    ]

    same_count : count_by is_some later ≡ count_by is_some slots
    same_count =
        let was : one_if (is_some (get_or slots at None)) ≡ 1 = ap (λ (o : Option (Entry V)). one_if (is_some o)) found in
        omega (arith, sum_by-set (λ (o : Option (Entry V)). one_if (is_some o)) slots at (Some f) None (within slots at e found))

    item_now : at_item (map element_of later) at ≡ Some (element f)
    item_now = item_at later at ∙ ap element_of now

    item_was : at_item (map element_of slots) at ≡ Some (element e)
    item_was = item_at slots at ∙ ap element_of found

    item_other : (i : ℕ) → i ≢ at → at_item (map element_of later) i ≡ at_item (map element_of slots) i
    item_other i ne = item_at later i ∙ ap element_of (other i ne) ∙ sym (item_at slots i)

    forth : (i : ℕ) (x : Element V) → at_item (map element_of slots) i ≡ Some x → (y : Element V) × (at_item (map element_of later) i ≡ Some y) × (y.hash ≡ x.hash)
    forth i x h = elim (cases_eq i at) [
      | inl mine ↦
          (let one : x ≡ element e = (let q : Some x ≡ Some (element e) = sym h ∙ ap (at_item (map element_of slots)) mine ∙ item_was in cc) in
          (element f, ap (at_item (map element_of later)) mine ∙ item_now, hash ∙ ap (λ y. y.hash) (sym one)))
      | inr ne ↦ (x, item_other i ne ∙ h, refl)
    ]

    back : (i : ℕ) (y : Element V) → at_item (map element_of later) i ≡ Some y → (x : Element V) × (at_item (map element_of slots) i ≡ Some x) × (y.hash ≡ x.hash)
    back i y h = elim (cases_eq i at) [
      | inl mine ↦
          (let one : y ≡ element f = (let q : Some y ≡ Some (element f) = sym h ∙ ap (at_item (map element_of later)) mine ∙ item_now in cc) in
          (element e, ap (at_item (map element_of slots)) mine ∙ item_was, ap (λ z. z.hash) one ∙ hash))
      | inr ne ↦ (y, sym (item_other i ne) ∙ h, refl)
    ]

    pub swapped : Made (set slots at (Some f)) older newer waiting (rows slots older) (rows slots newer)
    swapped =
        made later older newer waiting (rows slots older) (rows slots newer)
        (leads_kept slots later older (rows slots older) (λ k i t. links i) (leads_older slots older newer waiting l))
        (leads_kept slots later newer (rows slots newer) (λ k i t. links i) (leads_newer slots older newer waiting l))
        (restands (map element_of slots) (map element_of later) (rows slots older) (rows slots newer) l.stand forth back (count_map_element later ∙ same_count ∙ sym (count_map_element slots)))
        l.waits

    pub swaps_in : (capacity : ℕ) (was : Chaining V) (swaps : Element V → Type 0) → view_of slots older newer capacity ≡ was → swaps (element e)
        → SwapsIn was (view_of (set slots at (Some f)) older newer capacity) at swaps
    swaps_in capacity was swaps same done = record {
      element = element e;
      found = ap (λ h. at_item h.items at) (sym same) ∙ item_was;
      swapped = done;
      others = λ i ne. item_other i ne ∙ ap (λ h. at_item h.items i) same;
      older = swapped.older_rows ∙ ap (λ h. h.older) same;
      newer = swapped.newer_rows ∙ ap (λ h. h.newer) same;
      stand = swapped.linked.stand;
    }

    pub item_swapped : at_item (map element_of (set slots at (Some f))) at ≡ Some (element f)
    item_swapped = item_now

  leads_empty : (slots : List (Option (Entry V))) (n : ℕ) (heads : List ℕ) → heads ≡ replicate n 0 → Leads slots heads (no_elements {X = ℕ} n)
  leads_empty slots n heads is = subst (λ h. Leads slots h (no_elements {X = ℕ} n)) (sym is) (record {
    many = length-replicate {A = List ℕ} n [] ∙ sym (length-replicate {A = ℕ} n 0);
    each = λ k lt. subst (IsChain slots (get_or (replicate n 0) k 0)) (sym (bucket_no_elements n k)) (get_or-replicate n k 0 0 (omega (arith, length-replicate {A = ℕ} n 0)));
  })

  pub opened_newer : (slots : List (Option (Entry V))) (older newer heads : List ℕ) (waiting n : ℕ) → IsLinked slots older newer waiting → rows slots newer ≡ [] → IsSize n
      → heads ≡ replicate n 0 → Made slots older heads waiting (rows slots older) (no_elements {X = ℕ} n)
  opened_newer slots older newer heads waiting n l none size is =
      made slots older heads waiting (rows slots older) (no_elements {X = ℕ} n)
      (leads_older slots older newer waiting l) (leads_empty slots n heads is)
      (opens (map element_of slots) (rows slots older) n (subst (Stand (map element_of slots) (rows slots older)) none l.stand) size) l.waits

  pub opened_older : (slots : List (Option (Entry V))) (older newer heads : List ℕ) (waiting n : ℕ) → IsLinked slots older newer waiting → rows slots older ≡ [] → IsSize n
      → heads ≡ replicate n 0 → Made slots heads newer waiting (no_elements {X = ℕ} n) (rows slots newer)
  opened_older slots older newer heads waiting n l none size is =
      made slots heads newer waiting (no_elements {X = ℕ} n) (rows slots newer)
      (leads_empty slots n heads is) (leads_newer slots older newer waiting l)
      (flip _ _ _ (opens (map element_of slots) (rows slots newer) n (flip _ _ _ (subst (λ t. Stand (map element_of slots) t (rows slots newer)) none l.stand)) size))
      (l.waits ∙ ap count none ∙ sym (count_no_elements ℕ n))

  pub given_up : (slots : List (Option (Entry V))) (older newer heads : List ℕ) (waiting len : ℕ) → IsLinked slots older newer waiting → count (rows slots older) ≡ 0 → heads ≡ []
      → len ≡ count_by is_some slots → Made slots newer heads len (rows slots newer) []
  given_up slots older newer heads waiting len l none is all =
      made slots newer heads len (rows slots newer) []
      (leads_newer slots older newer waiting l)
      (subst (λ h. Leads slots h []) (sym is) (record { many = refl; each = λ k lt. absurd (omega arith) }))
      (ends (map element_of slots) (rows slots older) (rows slots newer) l.stand none)
      (omega (arith, l.stand.counted, count_map_element slots))
