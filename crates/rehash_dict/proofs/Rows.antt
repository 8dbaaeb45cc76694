-- The buckets as chains through the entries: how they are read, and what an edit of the entries makes of them.
use Rattle.std.proofs.Common.{◌≡◌, ◌≢◌, inl, inr, ℕ, zero, suc, ◌+◌, ◌≤◌, ◌<◌, Bool, cond, List, [], ◌∷◌, get_or, set, length, map, Option, Some, None, is_some, count_by, refl, sym, ap}
use Rattle.std.proofs.Common.{◌∙◌, subst, arith}
use Rattle.std.proofs.lemmas.Bool.{cases_eq}
use Rattle.std.proofs.lemmas.List.{get_or-set_same, get_or-set_other, length-set, length-map}
use Rattle.std.proofs.lemmas.List.Sums.{sum_by-cons}
use Rattle.std.proofs.Math.ListN.{get_or-map}
use Rattle.rev_cursor.specs.Span.{times}
use Rattle.rehash_dict.specs.declared.chains.Entry.{Entry}
use Rattle.rehash_dict.specs.Tables.{bucket, count}
use Rattle.rehash_dict.specs.Table.{Element, at_item}
use Rattle.rehash_dict.specs.Placed.{Stand}
use Rattle.rehash_dict.specs.Chains.{element_of, entry_at, chain, chain_on, rows, IsChain, IsLinked}
use Rattle.rehash_dict.proofs.Counts.{times_here, length_bucket_le, bucket_set_same, bucket_set_other}

abbrev one_if : Bool → ℕ
one_if b = cond b 1 0

same_lists : (xs ys : List (List ℕ)) → length xs ≡ length ys → ((k : ℕ) → k < length xs → bucket xs k ≡ bucket ys k) → xs ≡ ys
same_lists [] [] n h = refl
same_lists [] (y ∷ ys) n h = absurd (omega arith)
same_lists (x ∷ xs) [] n h = absurd (omega arith)
same_lists (x ∷ xs) (y ∷ ys) n h =
    let first : x ≡ y = h 0 (omega arith) in
    let rest : xs ≡ ys = same_lists xs ys (omega arith) (λ k lt. h (suc k) (omega arith)) in
    cc

module _ {V : Type 0} where
  -- a walk of enough steps reads the chain
  pub chain_is : (slots : List (Option (Entry V))) (more link : ℕ) (row : List ℕ) → IsChain slots link row → length row ≤ more → chain slots more link ≡ row
  chain_is slots zero link [] c fits = refl
  chain_is slots zero link (i ∷ rest) c fits = absurd (omega arith)
  chain_is slots (suc more) link [] c fits = subst (λ n. chain slots (suc more) n ≡ []) (sym c) refl
  chain_is slots (suc more) link (i ∷ rest) c fits =
      subst (λ n. chain slots (suc more) n ≡ i ∷ rest) (sym c.0)
      (ap (chain_on (λ next. chain slots more next) i) c.2 ∙ ap (λ r. i ∷ r) (chain_is slots more c.1.next rest c.3 (omega arith)))

  pub row_at : (slots : List (Option (Entry V))) (heads : List ℕ) (k : ℕ) → k < length heads → bucket (rows slots heads) k ≡ chain slots (count_by is_some slots) (get_or heads k 0)
  row_at slots [] k lt = absurd (omega arith)
  row_at slots (h ∷ rest) zero lt = refl
  row_at slots (h ∷ rest) (suc k) lt = row_at slots rest k (omega arith)

  -- the buckets that these heads have, where each leads along its chain
  pub record Leads (slots : List (Option (Entry V))) (heads : List ℕ) (table : List (List ℕ)) : Type 0 where
    pub many : length table ≡ length heads
    pub each : (k : ℕ) → k < length heads → IsChain slots (get_or heads k 0) (bucket table k)

  pub rows_are : (slots : List (Option (Entry V))) (heads : List ℕ) (table : List (List ℕ)) → Leads slots heads table → count table ≤ count_by is_some slots → rows slots heads ≡ table
  rows_are slots heads table l fits =
      same_lists (rows slots heads) table (length-map heads (λ link. chain slots (count_by is_some slots) link) ∙ sym l.many)
      (λ k lt.
      let h : k < length heads = omega (arith, length-map heads (λ link. chain slots (count_by is_some slots) link)) in
      row_at slots heads k h ∙ chain_is slots (count_by is_some slots) (get_or heads k 0) (bucket table k) (l.each k h) (omega (arith, length_bucket_le table k)))

  pub count_map_element : (slots : List (Option (Entry V))) → count_by is_some (map element_of slots) ≡ count_by is_some slots
  count_map_element [] = refl
  count_map_element (o ∷ rest) = omega (
    arith,
    sum_by-cons (λ (x : Option (Element V)). one_if (is_some x)) (element_of o) (map element_of rest),
    sum_by-cons (λ (x : Option (Entry V)). one_if (is_some x)) o rest,
    count_map_element rest,
    same_some o,
  )
    where
      same_some : (x : Option (Entry V)) → one_if (is_some (element_of x)) ≡ one_if (is_some x)
      same_some None = refl
      same_some (Some e) = refl

  -- what the invariant says of new heads and slots, with the buckets that they have
  pub record Made (slots : List (Option (Entry V))) (older newer : List ℕ) (waiting : ℕ) (a b : List (List ℕ)) : Type 0 where
    pub linked : IsLinked slots older newer waiting
    pub older_rows : rows slots older ≡ a
    pub newer_rows : rows slots newer ≡ b

  pub made : (slots : List (Option (Entry V))) (older newer : List ℕ) (waiting : ℕ) (a b : List (List ℕ)) → Leads slots older a → Leads slots newer b → Stand (map element_of slots) a b
      → waiting ≡ count a → Made slots older newer waiting a b
  made slots older newer waiting a b la lb s w =
      let total : count a + count b ≡ count_by is_some slots = s.counted ∙ count_map_element slots in
      let ra : rows slots older ≡ a = rows_are slots older a la (omega arith) in
      let rb : rows slots newer ≡ b = rows_are slots newer b lb (omega arith) in
      record {
        linked = record {
          ends_older = λ k h. subst (λ t. IsChain slots (get_or older k 0) (bucket t k)) (sym ra) (la.each k h);
          ends_newer = λ k h. subst (λ t. IsChain slots (get_or newer k 0) (bucket t k)) (sym rb) (lb.each k h);
          stand = subst (λ t. Stand (map element_of slots) (rows slots older) t) (sym rb) (subst (λ t. Stand (map element_of slots) t b) (sym ra) s);
          waits = w ∙ ap count (sym ra);
        };
        older_rows = ra;
        newer_rows = rb;
      }

  pub length-rows : (slots : List (Option (Entry V))) (heads : List ℕ) → length (rows slots heads) ≡ length heads
  length-rows slots heads = length-map heads (λ link. chain slots (count_by is_some slots) link)

  pub leads_older : (slots : List (Option (Entry V))) (older newer : List ℕ) (waiting : ℕ) → IsLinked slots older newer waiting → Leads slots older (rows slots older)
  leads_older slots older newer waiting l = record { many = length-rows slots older; each = l.ends_older }

  pub leads_newer : (slots : List (Option (Entry V))) (older newer : List ℕ) (waiting : ℕ) → IsLinked slots older newer waiting → Leads slots newer (rows slots newer)
  leads_newer slots older newer waiting l = record { many = length-rows slots newer; each = l.ends_newer }

  pub item_at : (slots : List (Option (Entry V))) (i : ℕ) → at_item (map element_of slots) i ≡ element_of (entry_at slots i)
  item_at slots i = get_or-map element_of slots i None

  -- ---- edits

  -- an entry still links to what it linked to
  abbrev pub SameLink : List (Option (Entry V)) → List (Option (Entry V)) → ℕ → Type 0
  SameLink old new i = (e : Entry V) → entry_at old i ≡ Some e → (f : Entry V) × (entry_at new i ≡ Some f) × (f.next ≡ e.next)

  pub chain_kept : (old new : List (Option (Entry V))) (link : ℕ) (row : List ℕ) → ((i : ℕ) → 0 < times i row → SameLink old new i) → IsChain old link row → IsChain new link row
  chain_kept old new link [] same c = c
  chain_kept old new link (i ∷ rest) same c =
      let p = same i (omega (arith, times_here i rest)) c.1 c.2 in
      (c.0, p.0, p.1, subst (λ n. IsChain new n rest) (sym p.2) (chain_kept old new c.1.next rest (λ j h. same j (more j rest h)) c.3))
    where
      more : (j : ℕ) (xs : List ℕ) → 0 < times j xs → 0 < times j (i ∷ xs)
      more j xs h = omega arith

  pub leads_kept : (old new : List (Option (Entry V))) (heads : List ℕ) (table : List (List ℕ)) → ((k i : ℕ) → 0 < times i (bucket table k) → SameLink old new i) → Leads old heads table
      → Leads new heads table
  leads_kept old new heads table same l = record { many = l.many; each = λ k h. chain_kept old new (get_or heads k 0) (bucket table k) (λ i t. same k i t) (l.each k h) }

  pub unchanged_link : (old new : List (Option (Entry V))) (i : ℕ) → entry_at new i ≡ entry_at old i → SameLink old new i
  unchanged_link old new i same e h = (e, same ∙ h, refl)

  -- one bucket has another head and row, and the others keep theirs
  pub leads_set : (old new : List (Option (Entry V))) (heads : List ℕ) (table : List (List ℕ)) (k link : ℕ) (row : List ℕ) → k < length heads → Leads old heads table → IsChain new link row
      → ((j i : ℕ) → j ≢ k → 0 < times i (bucket table j) → SameLink old new i) → Leads new (set heads k link) (set table k row)
  leads_set old new heads table k link row lt l c same = record {
    many = length-set table k row ∙ l.many ∙ sym (length-set heads k link);
    each = λ j h. elim (cases_eq j k) [
      | inl here ↦
          subst (λ n. IsChain new (get_or (set heads k link) n 0) (bucket (set table k row) n)) (sym here)
          (subst (λ r. IsChain new (get_or (set heads k link) k 0) r) (sym (bucket_set_same table k row (omega (arith, l.many))))
          (subst (λ n. IsChain new n row) (sym (get_or-set_same heads k link 0 lt)) c))
      | inr other ↦
          subst (λ r. IsChain new (get_or (set heads k link) j 0) r) (sym (bucket_set_other table k j row other))
          (subst (λ n. IsChain new n (bucket table j)) (sym (get_or-set_other heads k j link 0 other))
          (chain_kept old new (get_or heads j 0) (bucket table j) (λ i t. same j i other t) (l.each j (omega (arith, length-set heads k link)))))
    ];
  }

  -- the numbers in a chain are entries
  pub first_entry : (slots : List (Option (Entry V))) (link i : ℕ) (rest : List ℕ) → IsChain slots link (i ∷ rest) → (e : Entry V) × (entry_at slots i ≡ Some e) × IsChain slots e.next rest
  first_entry slots link i rest c = (c.1, c.2, c.3)

  pub within : (slots : List (Option (Entry V))) (i : ℕ) (e : Entry V) → entry_at slots i ≡ Some e → i < length slots
  within [] i e h = cc
  within (x ∷ xs) zero e h = omega arith
  within (x ∷ xs) (suc i) e h = (let lt : i < length xs = within xs i e h in omega arith)
