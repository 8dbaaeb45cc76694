-- What the calls on the chains leave.
use Rattle.std.proofs.Common.{inl, inr, ◌≤◌, nat_lt, ◌≡◌, ◌≢◌, ℕ, suc, ◌+◌, ◌%◌, ◌<◌, Bool, cond, List, ◌∷◌, get_or, set, length, map, Option, Some, None, is_some, count_by, sym, ap, ◌∙◌}
use Rattle.std.proofs.Common.{subst, arith}
use Rattle.std.proofs.lemmas.Bool.{cases_Bool, cond-true, cond-false, ltb-true}
use Rattle.std.proofs.lemmas.List.{get_or-set_same, get_or-set_other}
use Rattle.std.proofs.lemmas.List.Sums.{sum_by-set}
use Rattle.slab.specs.Slab.{Slab, get}
use Rattle.slab.specs.Slab as slab
use Rattle.rehash_dict.specs.declared.chains.Entry.{Entry}
use Rattle.rehash_dict.specs.declared.chains.Side.{Side}
use Rattle.rehash_dict.specs.declared.chains.Side.TheVariants.{Older, Newer}
use Rattle.rehash_dict.specs.Tables.{bucket}
use Rattle.rehash_dict.specs.Table.{Element, Chaining, at_item, Updates}
use Rattle.rehash_dict.specs.Sides.{AddsTo, side_rows}
use Rattle.rehash_dict.specs.Chains.{room, element_of, key_of_entry, entry_at, rows, IsLinked, Links}
use Rattle.rehash_dict.proofs.Counts.{count-set}
use Rattle.rehash_dict.proofs.Stands.{flip, vacant_out, joins}
use Rattle.rehash_dict.proofs.Rows.{Made, made, SameLink, leads_older, leads_newer, length-rows, item_at, count_map_element, unchanged_link, within}
use Rattle.rehash_dict.proofs.Edits.{OneEntry, joins_side, stays_side}

abbrev one_if : Bool → ℕ
one_if b = cond b 1 0

module _ {V : Type 0} where
  -- what contracts see of the fields
  abbrev pub view_of : List (Option (Entry V)) → List ℕ → List ℕ → ℕ → Chaining V
  view_of slots older newer capacity = record { items = map element_of slots; older = rows slots older; newer = rows slots newer; capacity = capacity }

  abbrev pub element : Entry V → Element V
  element e = record { key = key_of_entry e; hash = e.hash; value = e.value }

  pub updates_one : (old new : List (Option (Entry V))) (at : ℕ) (e : Entry V) → OneEntry old new at e → Updates (map element_of old) (map element_of new) at (Some (element e))
  updates_one old new at e one = record {
    changed = item_at new at ∙ ap element_of one.now;
    others = λ i ne. item_at new i ∙ ap element_of (one.others i ne) ∙ sym (item_at old i);
  }

  -- an element joins the older table, or the newer one
  module _ (old new : List (Option (Entry V))) (older newer : List ℕ) (waiting at : ℕ) (e : Entry V) (l : IsLinked old older newer waiting) (vacant : entry_at old at ≡ None)
      (one : OneEntry old new at e) (more : count_by is_some new ≡ count_by is_some old + 1) where
    none_at : at_item (map element_of old) at ≡ None
    none_at = item_at old at ∙ ap element_of vacant

    grows : count_by is_some (map element_of new) ≡ count_by is_some (map element_of old) + 1
    grows = count_map_element new ∙ more ∙ ap (λ n. n + 1) (sym (count_map_element old))

    same_links : (i : ℕ) → i ≢ at → SameLink old new i
    same_links i ne = unchanged_link old new i (one.others i ne)

    pub added_older : 0 < length older → e.next ≡ get_or older (e.hash % length older) 0
        → Made new (set older (e.hash % length older) (suc at)) newer (waiting + 1) (set (rows old older) (e.hash % length older) (at ∷ bucket (rows old older) (e.hash % length older)))
        (rows old newer)
    added_older some next =
        let k : ℕ = e.hash % length older in
        let lt : e.hash % length older < length older = omega arith in
        let here : e.hash % length (rows old older) ≡ e.hash % length older = ap (λ n. e.hash % n) (length-rows old older) in
        let inside : e.hash % length older < length (rows old older) = omega (arith, length-rows old older) in
        made new (set older (e.hash % length older) (suc at)) newer (waiting + 1) _ _
        (joins_side old new older (rows old older) at (e.hash % length older) e (leads_older old older newer waiting l) one
        (λ j. vacant_out (map element_of old) (rows old older) at j l.stand.of_older none_at) next lt)
        (stays_side old new newer (rows old newer) at (leads_newer old older newer waiting l) same_links (λ j. vacant_out (map element_of old) (rows old newer) at j l.stand.of_newer none_at))
        (joins (map element_of old) (map element_of new) (rows old older) (rows old newer) at (e.hash % length older) (element e) l.stand none_at (updates_one old new at e one) here inside grows)
        (omega (arith, l.waits, count-set (rows old older) (e.hash % length older) (at ∷ bucket (rows old older) (e.hash % length older)) inside))

    pub added_newer : 0 < length newer → e.next ≡ get_or newer (e.hash % length newer) 0
        → Made new older (set newer (e.hash % length newer) (suc at)) waiting (rows old older)
        (set (rows old newer) (e.hash % length newer) (at ∷ bucket (rows old newer) (e.hash % length newer)))
    added_newer some next =
        let lt : e.hash % length newer < length newer = omega arith in
        let here : e.hash % length (rows old newer) ≡ e.hash % length newer = ap (λ n. e.hash % n) (length-rows old newer) in
        let inside : e.hash % length newer < length (rows old newer) = omega (arith, length-rows old newer) in
        made new older (set newer (e.hash % length newer) (suc at)) waiting _ _
        (stays_side old new older (rows old older) at (leads_older old older newer waiting l) same_links (λ j. vacant_out (map element_of old) (rows old older) at j l.stand.of_older none_at))
        (joins_side old new newer (rows old newer) at (e.hash % length newer) e (leads_newer old older newer waiting l) one
        (λ j. vacant_out (map element_of old) (rows old newer) at j l.stand.of_newer none_at) next lt)
        (flip _ _ _
        (joins (map element_of old) (map element_of new) (rows old newer) (rows old older) at (e.hash % length newer) (element e) (flip _ _ _ l.stand) none_at
        (updates_one old new at e one) here inside grows))
        l.waits

    pub adds_older : (capacity later : ℕ) → 0 < length older → e.next ≡ get_or older (e.hash % length older) 0
        → AddsTo Older (view_of old older newer capacity) (view_of new (set older (e.hash % length older) (suc at)) newer later) at (element e)
    adds_older capacity later some next =
        let m = added_older some next in
        record {
          vacant = none_at;
          updates = updates_one old new at e one;
          rows = (m.older_rows ∙ ap (λ k. set (rows old older) k (at ∷ bucket (rows old older) k)) (ap (λ n. e.hash % n) (sym (length-rows old older))), m.newer_rows);
          stand = m.linked.stand;
        }

    pub adds_newer : (capacity later : ℕ) → 0 < length newer → e.next ≡ get_or newer (e.hash % length newer) 0
        → AddsTo Newer (view_of old older newer capacity) (view_of new older (set newer (e.hash % length newer) (suc at)) later) at (element e)
    adds_newer capacity later some next =
        let m = added_newer some next in
        record {
          vacant = none_at;
          updates = updates_one old new at e one;
          rows = (m.newer_rows ∙ ap (λ k. set (rows old newer) k (at ∷ bucket (rows old newer) k)) (ap (λ n. e.hash % n) (sym (length-rows old newer))), m.older_rows);
          stand = m.linked.stand;
        }

  -- where an entry has room, the next item number is small enough for a link
  pub has_room : (s : Slab (Entry V)) (n : ℕ) → n + 1 ≤ room s → (s.vacant_key < 4294967295) × (n + 1 ≤ s.capacity)
  has_room s n h = elim (cases_Bool (nat_lt s.vacant_key 4294967295)) [
    | inl few ↦
        (ltb-true s.vacant_key 4294967295 few, subst (λ k. n + 1 ≤ k) (cond-true _ s.capacity 0 few) h)
    | inr many ↦ absurd (omega (arith, subst (λ k. n + 1 ≤ k) (cond-false _ s.capacity 0 many) h))
  ]

  -- ---- an entry is linked

  pub record LinkedOne (old new : List (Option (Entry V))) (heads after : List ℕ) (at : ℕ) (e : Entry V) : Type 0 where
    pub one : OneEntry old new at (record e { next = get_or heads (e.hash % length heads) 0 })
    pub heads_are : after ≡ set heads (e.hash % length heads) (suc at)

  pub linked_after : (s0 s1 s2 : Slab (Entry V)) (heads after : List ℕ) (at : ℕ) (e : Entry V) → slab.Updates s0 s1 at (Some e) → Links s1 heads at s2 after
      → LinkedOne s0.slots s2.slots heads after at e
  linked_after s0 s1 s2 heads after at e u l =
      let same : l.entry ≡ e = (let q : Some l.entry ≡ Some e = sym l.found ∙ u.changed in cc) in
      let lt : at < length s1.slots = within s1.slots at e u.changed in
      record {
        one = record {
          now = ap (λ xs. entry_at xs at) l.slots ∙ get_or-set_same s1.slots at _ None lt ∙ ap (λ (x : Entry V). Some (record x { next = get_or heads (x.hash % length heads) 0 })) same;
          others = λ i ne. ap (λ xs. entry_at xs i) l.slots ∙ get_or-set_other s1.slots at i _ None ne ∙ u.others i ne;
        };
        heads_are = l.heads_after ∙ ap (λ (x : Entry V). set heads (x.hash % length heads) (suc at)) same;
      }

  pub linked_count : (s1 s2 : Slab (Entry V)) (heads after : List ℕ) (at : ℕ) → Links s1 heads at s2 after → count_by is_some s2.slots ≡ count_by is_some s1.slots
  linked_count s1 s2 heads after at l =
      let lt : at < length s1.slots = within s1.slots at l.entry l.found in
      let was : one_if (is_some (get_or s1.slots at None)) ≡ 1 = ap (λ (o : Option (Entry V)). one_if (is_some o)) l.found in
      ap (count_by is_some) l.slots ∙ omega
      (arith, sum_by-set (λ (o : Option (Entry V)). one_if (is_some o)) s1.slots at (Some (record l.entry { next = get_or heads (l.entry.hash % length heads) 0 })) None lt)

  pub older_some : (side : Side) (h g : Chaining V) → h ≡ g → side ≡ Older → 0 < length (side_rows side g) → 0 < length h.older
  older_some side h g same is some = subst (λ s. 0 < length (side_rows s h)) is (subst (λ x. 0 < length (side_rows side x)) (sym same) some)

  pub newer_some : (side : Side) (h g : Chaining V) → h ≡ g → side ≡ Newer → 0 < length (side_rows side g) → 0 < length h.newer
  newer_some side h g same is some = subst (λ s. 0 < length (side_rows s h)) is (subst (λ x. 0 < length (side_rows side x)) (sym same) some)
