-- What an edit of the entries makes of the chains.
use Rattle.std.proofs.Common.{◌≡◌, ◌≢◌, ℕ, suc, ◌+◌, ◌%◌, ◌≤◌, ◌<◌, Bool, cond, List, [], ◌∷◌, ◌++◌, get_or, set, length, Option, Some, None, is_some, count_by, refl, sym, ap, ◌∙◌, subst, arith}
use Rattle.std.proofs.lemmas.List.{set-get_or}
use Rattle.std.proofs.lemmas.List.Sums.{sum_by-set}
use Rattle.slab.specs.Slab.{Slab, get, with_value}
use Rattle.rev_cursor.specs.Span.{times}
use Rattle.rehash_dict.specs.declared.chains.Entry.{Entry}
use Rattle.rehash_dict.specs.Tables.{bucket}
use Rattle.rehash_dict.specs.Sides.{last_of}
use Rattle.rehash_dict.specs.Chains.{key_of_entry, entry_at, IsChain, Links, Unlinks, bridged, head_after, relinked}
use Rattle.rehash_dict.proofs.Counts.{times_here, times-append}
use Rattle.rehash_dict.proofs.Rows.{Leads, SameLink, chain_kept, leads_kept, leads_set, unchanged_link, within}

abbrev one_if : Bool → ℕ
one_if b = cond b 1 0

-- the last of a list is in it
pub last_in : (front : List ℕ) (p : ℕ) → last_of front ≡ Some p → 0 < times p front
last_in [] p h = cc
last_in (x ∷ []) p h = (let e : x ≡ p = cc in subst (λ n. 0 < times p (n ∷ [])) (sym e) (omega (arith, times_here p [])))
last_in (x ∷ y ∷ ys) p h = omega (arith, last_in (y ∷ ys) p h)

pub apart : (at i : ℕ) (row : List ℕ) → times at row ≡ 0 → 0 < times i row → i ≢ at
apart at i row out h same = absurd (omega (arith, ap (λ n. times n row) same))

module _ {V : Type 0} where
  pub links_made : (old : Slab (Entry V)) (heads : List ℕ) (at k next : ℕ) (e : Entry V) → get old at ≡ Some e → k ≡ e.hash % length heads → next ≡ get_or heads k 0
      → Links old heads at (with_value old at (record e { next = next })) (set heads k (at + 1))
  links_made old heads at k next e found is_k is_next = record {
    entry = e;
    found = found;
    slots = ap (λ n. set old.slots at (Some (record e { next = n }))) (is_next ∙ ap (λ n. get_or heads n 0) is_k);
    heads_after = ap (λ n. set heads n (at + 1)) is_k ∙ ap (λ n. set heads (e.hash % length heads) n) (omega arith);
    vacant = refl;
    capacity = refl;
  }

  -- the entries after an edit of one of them
  pub record OneEntry (old new : List (Option (Entry V))) (at : ℕ) (e : Entry V) : Type 0 where
    pub now : entry_at new at ≡ Some e
    pub others : (i : ℕ) → i ≢ at → entry_at new i ≡ entry_at old i

  -- an entry that is in no chain joins at the head of one
  pub joins_side : (old new : List (Option (Entry V))) (heads : List ℕ) (table : List (List ℕ)) (at k : ℕ) (e : Entry V) → Leads old heads table → OneEntry old new at e
      → ((j : ℕ) → times at (bucket table j) ≡ 0) → e.next ≡ get_or heads k 0 → k < length heads → Leads new (set heads k (suc at)) (set table k (at ∷ bucket table k))
  joins_side old new heads table at k e l one out next lt =
      leads_set old new heads table k (suc at) (at ∷ bucket table k) lt l (
        refl,
        e,
        one.now,
        subst (λ n. IsChain new n (bucket table k)) (sym next)
            (chain_kept old new (get_or heads k 0) (bucket table k) (λ i t. unchanged_link old new i (one.others i (apart at i (bucket table k) (out k) t))) (l.each k lt)),
      )
      (λ j i ne t. unchanged_link old new i (one.others i (apart at i (bucket table j) (out j) t)))

  -- a table that doesn't name the entry
  pub stays_side : (old new : List (Option (Entry V))) (heads : List ℕ) (table : List (List ℕ)) (at : ℕ) → Leads old heads table → ((i : ℕ) → i ≢ at → SameLink old new i)
      → ((j : ℕ) → times at (bucket table j) ≡ 0) → Leads new heads table
  stays_side old new heads table at l same out = leads_kept old new heads table (λ k i t. same i (apart at i (bucket table k) (out k) t)) l

  -- the entry at the head of a chain leaves it
  pub pops_side : (old new : List (Option (Entry V))) (heads : List ℕ) (table : List (List ℕ)) (at k : ℕ) (rest : List ℕ) (e : Entry V) → Leads old heads table
      → ((i : ℕ) → i ≢ at → SameLink old new i) → entry_at old at ≡ Some e → bucket table k ≡ at ∷ rest → times at rest ≡ 0 → ((j : ℕ) → j ≢ k → times at (bucket table j) ≡ 0)
      → k < length heads → Leads new (set heads k e.next) (set table k rest)
  pops_side old new heads table at k rest e l same found first out outside lt =
      let c = subst (λ r. IsChain old (get_or heads k 0) r) first (l.each k lt) in
      let one : c.1 ≡ e = (let q : Some c.1 ≡ Some e = sym c.2 ∙ found in cc) in
      leads_set old new heads table k e.next rest lt l
      (subst (λ n. IsChain new n rest) (ap (λ x. x.next) one) (chain_kept old new c.1.next rest (λ i t. same i (apart at i rest out t)) c.3))
      (λ j i ne t. same i (apart at i (bucket table j) (outside j ne) t))

  -- the entry behind another one leaves their chain
  bridge : (old new : List (Option (Entry V))) (front : List ℕ) (link at p : ℕ) (rest : List ℕ) (e f : Entry V) → IsChain old link (front ++ at ∷ rest) → entry_at old at ≡ Some e
      → last_of front ≡ Some p → entry_at new p ≡ Some f → f.next ≡ e.next → ((i : ℕ) → i ≢ p → i ≢ at → entry_at new i ≡ entry_at old i) → times p (front ++ at ∷ rest) ≤ 1
      → times at (front ++ at ∷ rest) ≤ 1 → IsChain new link (front ++ rest)
  bridge old new [] link at p rest e f c found last now next same once_p once_at = cc
  bridge old new (x ∷ []) link at p rest e f c found last now next same once_p once_at =
      let is_p : x ≡ p = cc in
      let one : c.3.1 ≡ e = (let q : Some c.3.1 ≡ Some e = sym c.3.2 ∙ found in cc) in
      let no_p : times p rest ≡ 0 = omega (arith, ap (λ n. times p (n ∷ at ∷ rest)) is_p ∙ times_here p (at ∷ rest)) in
      let no_at : times at rest ≡ 0 = omega (arith, times_here at rest) in (
        c.0,
        f,
        ap (entry_at new) is_p ∙ now,
        subst (λ n. IsChain new n rest) (ap (λ y. y.next) one ∙ sym next)
            (chain_kept old new c.3.1.next rest (λ i t. unchanged_link old new i (same i (apart p i rest no_p t) (apart at i rest no_at t))) c.3.3),
      )
  bridge old new (x ∷ y ∷ ys) link at p rest e f c found last now next same once_p once_at =
      let more : 0 < times p (y ∷ ys) = last_in (y ∷ ys) p last in
      let rest_p : times p (y ∷ ys ++ at ∷ rest) ≡ times p (y ∷ ys) + times p (at ∷ rest) = times-append p (y ∷ ys) (at ∷ rest) in
      let rest_at : times at (y ∷ ys ++ at ∷ rest) ≡ times at (y ∷ ys) + times at (at ∷ rest) = times-append at (y ∷ ys) (at ∷ rest) in
      let not_p : x ≢ p = λ h. absurd (omega (arith, ap (λ n. times p (n ∷ (y ∷ ys ++ at ∷ rest))) h ∙ times_here p (y ∷ ys ++ at ∷ rest))) in
      let not_at : x ≢ at = λ h. absurd (omega (arith, ap (λ n. times at (n ∷ (y ∷ ys ++ at ∷ rest))) h ∙ times_here at (y ∷ ys ++ at ∷ rest), times_here at rest)) in
      (c.0, c.1, same x not_p not_at ∙ c.2, bridge old new (y ∷ ys) c.1.next at p rest e f c.3 found last now next same (omega arith) (omega arith))

  pub bridges_side : (old new : List (Option (Entry V))) (heads : List ℕ) (table : List (List ℕ)) (at p k : ℕ) (front rest : List ℕ) (e f : Entry V) → Leads old heads table
      → bucket table k ≡ front ++ at ∷ rest → last_of front ≡ Some p → entry_at old at ≡ Some e → entry_at new p ≡ Some f → f.next ≡ e.next
      → ((i : ℕ) → i ≢ p → i ≢ at → entry_at new i ≡ entry_at old i)
      → times p (bucket table k) ≤ 1 → times at (bucket table k) ≤ 1 → ((j : ℕ) → j ≢ k → times at (bucket table j) ≡ 0) → ((j : ℕ) → j ≢ k → times p (bucket table j) ≡ 0)
      → k < length heads → Leads new heads (set table k (front ++ rest))
  bridges_side old new heads table at p k front rest e f l row last found now next same once_p once_at out_at out_p lt =
      subst (λ h. Leads new h (set table k (front ++ rest))) (set-get_or heads k 0)
      (leads_set old new heads table k (get_or heads k 0) (front ++ rest) lt l
      (bridge old new front (get_or heads k 0) at p rest e f (subst (IsChain old (get_or heads k 0)) row (l.each k lt)) found last now next same (omega (arith, ap (times p) row))
      (omega (arith, ap (times at) row)))
      (λ j i ne t. unchanged_link old new i (same i (apart p i (bucket table j) (out_p j ne) t) (apart at i (bucket table j) (out_at j ne) t))))

  -- the call that takes an entry out
  pub unlinked_none : (old mid new : Slab (Entry V)) (heads after : List ℕ) (k at : ℕ) (before : Option ℕ) (e : Entry V) → before ≡ None → get old at ≡ Some e
      → mid.slots ≡ set old.slots at None → count_by is_some mid.slots + 1 ≡ count_by is_some old.slots → mid.capacity ≡ old.capacity → new ≡ mid → after ≡ set heads k e.next
      → Unlinks old heads k before at (key_of_entry e) e.value new after
  unlinked_none old mid new heads after k at before e none found slots len capacity is is_after = record {
    hash = e.hash;
    next = e.next;
    found = found;
    slots = ap (λ s. s.slots) is ∙ slots ∙ ap (λ b. bridged (set old.slots at None) b e.next) (sym none);
    heads_after = is_after ∙ ap (λ b. head_after heads k b e.next) (sym none);
    len = ap (λ s. count_by is_some s.slots + 1) is ∙ len;
    capacity = ap (λ s. s.capacity) is ∙ capacity;
  }

  pub unlinked_some : (old mid new : Slab (Entry V)) (heads after : List ℕ) (k at p : ℕ) (before : Option ℕ) (e f : Entry V) → before ≡ Some p → get old at ≡ Some e
      → mid.slots ≡ set old.slots at None → count_by is_some mid.slots + 1 ≡ count_by is_some old.slots → mid.capacity ≡ old.capacity → get mid p ≡ Some f
      → new ≡ with_value mid p (record f { next = e.next }) → after ≡ heads → Unlinks old heads k before at (key_of_entry e) e.value new after
  unlinked_some old mid new heads after k at p before e f some found slots len capacity there is is_after =
      let was : one_if (is_some (get_or mid.slots p None)) ≡ 1 = ap (λ (o : Option (Entry V)). one_if (is_some o)) there in
      let lt : p < length mid.slots = within mid.slots p f there in
      let same : count_by is_some (set mid.slots p (Some (record f { next = e.next }))) ≡ count_by is_some mid.slots =
      omega (arith, sum_by-set (λ (o : Option (Entry V)). one_if (is_some o)) mid.slots p (Some (record f { next = e.next })) None lt) in
      record {
        hash = e.hash;
        next = e.next;
        found = found;
        slots = ap (λ s. s.slots) is ∙ ap (λ o. set mid.slots p (relinked e.next o)) (sym there) ∙ ap (λ xs. set xs p (relinked e.next (entry_at xs p))) slots
            ∙ ap (λ b. bridged (set old.slots at None) b e.next) (sym some);
        heads_after = is_after ∙ ap (λ b. head_after heads k b e.next) (sym some);
        len = ap (λ s. count_by is_some s.slots + 1) is ∙ ap (λ n. n + 1) same ∙ len;
        capacity = ap (λ s. s.capacity) is ∙ capacity;
      }
