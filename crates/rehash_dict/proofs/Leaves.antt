-- An element leaves its bucket's chain.
use Rattle.std.proofs.Common.{◌≡◌, ◌≢◌, inl, inr, ℕ, suc, ◌+◌, ◌-◌, ◌≤◌, ◌<◌, eqb, List, [], ◌∷◌, ◌++◌, set, length, map, Option, Some, None, refl, sym, ap, ◌∙◌, subst, arith}
use Rattle.std.proofs.lemmas.Bool.{cases_eq}
use Rattle.std.proofs.lemmas.List.{get_or-set_same, get_or-set_other}
use Rattle.slab.specs.Slab.{Slab}
use Rattle.blocks.specs.declared.BlockRef.{BlockRef}
use Rattle.rev_cursor.specs.Span.{times}
use Rattle.rehash_dict.specs.declared.chains.Entry.{Entry}
use Rattle.rehash_dict.specs.Tables.{bucket, count, without}
use Rattle.rehash_dict.specs.Table.{Element, at_item, Updates}
use Rattle.rehash_dict.specs.Placed.{Stand}
use Rattle.rehash_dict.specs.Sides.{last_of, LeavesFrom, IsBehind}
use Rattle.rehash_dict.specs.declared.chains.Side.TheVariants.{Older, Newer}
use Rattle.rehash_dict.specs.Chains.{room, element_of, entry_at, rows, IsLinked, Unlinks, bridged, relinked, head_after}
use Rattle.rehash_dict.proofs.Counts.{times_here, times-append, count-set, without_split}
use Rattle.rehash_dict.proofs.Stands.{flip, at_most_once, one_bucket, one_table, leaves}
use Rattle.rehash_dict.proofs.Rows.{Leads, Made, made, SameLink, leads_kept, leads_older, leads_newer, item_at, count_map_element, unchanged_link, within}
use Rattle.rehash_dict.proofs.Edits.{pops_side, bridges_side, last_in, apart}
use Rattle.rehash_dict.proofs.Ops.{view_of}

none_last : (front : List ℕ) → last_of front ≡ None → front ≡ []
none_last [] h = refl
none_last (x ∷ []) h = cc
none_last (x ∷ y ∷ ys) h = (let q : y ∷ ys ≡ [] = none_last (y ∷ ys) h in cc)

pub in_split : (front rest row : List ℕ) (at : ℕ) → row ≡ front ++ at ∷ rest → 0 < times at row
in_split front rest row at h = omega (arith, ap (times at) h, times-append at front (at ∷ rest), times_here at rest)

module _ {V : Type 0} where
  entry_of : (slots : List (Option (Entry V))) (i : ℕ) (x : Element V) → at_item (map element_of slots) i ≡ Some x → (e : Entry V) × (entry_at slots i ≡ Some e)
  entry_of slots i x h = go (entry_at slots i) refl (sym (item_at slots i) ∙ h)
    where
      go : (o : Option (Entry V)) → entry_at slots i ≡ o → element_of o ≡ Some x → (e : Entry V) × (entry_at slots i ≡ Some e)
      go None q h = cc
      go (Some e) q h = (e, q)

  -- what stands in a bucket is an entry
  pub stands_entry : (slots : List (Option (Entry V))) (a b : List (List ℕ)) (k i : ℕ) → Stand (map element_of slots) a b → 0 < times i (bucket a k) → (e : Entry V) × (entry_at slots i ≡ Some e)
  stands_entry slots a b k i s h = (let p = s.of_older k i h in entry_of slots i p.0 p.1)

  -- the element before is in the bucket too, and is another one
  pub before_in : (slots : List (Option (Entry V))) (a b : List (List ℕ)) (k at p : ℕ) (front rest : List ℕ) → Stand (map element_of slots) a b → bucket a k ≡ front ++ at ∷ rest
      → last_of front ≡ Some p → (0 < times p (bucket a k)) × (p ≢ at)
  before_in slots a b k at p front rest s row last =
      let there : 0 < times p front = last_in front p last in
      let split : times at (front ++ at ∷ rest) ≡ times at front + times at (at ∷ rest) = times-append at front (at ∷ rest) in
      let few : times at (bucket a k) ≤ 1 = at_most_once (map element_of slots) a b k at s in (
        omega (arith, ap (times p) row, times-append p front (at ∷ rest)),
        λ h. absurd (omega (arith, ap (times at) row, times_here at rest, ap (λ n. times n front) h)),
      )

  module _ (s0 s2 : Slab (Entry V)) (mine other after : List ℕ) (a b : List (List ℕ)) (k at : ℕ) (before : Option ℕ) (front rest : List ℕ) (key : BlockRef) (value : V)
      (la : Leads s0.slots mine a) (lb : Leads s0.slots other b) (s : Stand (map element_of s0.slots) a b) (row : bucket a k ≡ front ++ at ∷ rest) (last : before ≡ last_of front)
      (u : Unlinks s0 mine k before at key value s2 after) (lt : k < length mine) where
    abbrev entry : Entry V
    entry = record { slab = key.slab; slot = key.slot; next = u.next; hash = u.hash; value = value }

    inside : k < length a
    inside = omega (arith, la.many)

    here : 0 < times at (bucket a k)
    here = in_split front rest (bucket a k) at row

    few_at : times at (bucket a k) ≤ 1
    few_at = at_most_once (map element_of s0.slots) a b k at s

    counts : times at (front ++ at ∷ rest) ≡ times at front + suc (times at rest)
    counts = times-append at front (at ∷ rest) ∙ ap (λ n. times at front + n) (times_here at rest)

    out_front : times at front ≡ 0
    out_front = omega (arith, ap (times at) row, counts, few_at)

    out_rest : times at rest ≡ 0
    out_rest = omega (arith, ap (times at) row, counts, few_at)

    is_rest : without eqb at (bucket a k) ≡ front ++ rest
    is_rest = ap (without eqb at) row ∙ without_split at front rest out_front out_rest

    at_within : at < length s0.slots
    at_within = within s0.slots at entry u.found

    -- the entries and links afterwards
    record Afterwards : Type 0 where
      gone : entry_at s2.slots at ≡ None
      same : (i : ℕ) → i ≢ at → element_of (entry_at s2.slots i) ≡ element_of (entry_at s0.slots i)
      leads : Leads s2.slots after (set a k (front ++ rest))
      others : Leads s2.slots other b

    by_before : (o : Option ℕ) → before ≡ o → Afterwards
    by_before None none =
        let slots : s2.slots ≡ set s0.slots at None = u.slots ∙ ap (λ p. bridged (set s0.slots at None) p u.next) none in
        let heads : after ≡ set mine k u.next = u.heads_after ∙ ap (λ p. head_after mine k p u.next) none in
        let first : front ≡ [] = none_last front (sym last ∙ none) in
        let rest_is : front ++ rest ≡ rest = ap (λ f. f ++ rest) first in
        let row_is : bucket a k ≡ at ∷ rest = row ∙ ap (λ f. f ++ at ∷ rest) first in
        let keeps : (i : ℕ) → i ≢ at → SameLink s0.slots s2.slots i = λ i ne. unchanged_link s0.slots s2.slots i (ap (λ xs. entry_at xs i) slots ∙ get_or-set_other s0.slots at i None None ne) in
        record {
          gone = ap (λ xs. entry_at xs at) slots ∙ get_or-set_same s0.slots at None None at_within;
          same = λ i ne. ap element_of (ap (λ xs. entry_at xs i) slots ∙ get_or-set_other s0.slots at i None None ne);
          leads = subst (λ h. Leads s2.slots h (set a k (front ++ rest))) (sym heads)
              (subst (λ r. Leads s2.slots (set mine k u.next) (set a k r)) (sym rest_is)
              (pops_side s0.slots s2.slots mine a at k rest entry la keeps u.found row_is out_rest (λ j ne. one_bucket (map element_of s0.slots) a b k j at s here ne) lt));
          others = leads_kept s0.slots s2.slots other b (λ j i t. keeps i (apart at i (bucket b j) (one_table (map element_of s0.slots) a b k j at s here) t)) lb;
        }
    by_before (Some p) some =
        let is_last : last_of front ≡ Some p = sym last ∙ some in
        let q = before_in s0.slots a b k at p front rest s row is_last in
        let pe = stands_entry s0.slots a b k p s q.0 in
        let ne_at : at ≢ p = λ h. q.1 (sym h) in
        let mid_p : entry_at (set s0.slots at None) p ≡ Some pe.0 = get_or-set_other s0.slots at p None None q.1 ∙ pe.1 in
        let fits : p < length (set s0.slots at None) = within (set s0.slots at None) p pe.0 mid_p in
        let slots : s2.slots ≡ set (set s0.slots at None) p (relinked u.next (entry_at (set s0.slots at None) p)) = u.slots ∙ ap (λ x. bridged (set s0.slots at None) x u.next) some in
        let heads : after ≡ mine = u.heads_after ∙ ap (λ x. head_after mine k x u.next) some in
        let now : entry_at s2.slots p ≡ Some (record pe.0 { next = u.next }) = ap (λ xs. entry_at xs p) slots ∙ get_or-set_same (set s0.slots at None) p _ None fits ∙ ap (relinked u.next) mid_p in
        let still : (i : ℕ) → i ≢ p → i ≢ at → entry_at s2.slots i ≡ entry_at s0.slots i = λ i np na. ap (λ xs. entry_at xs i) slots ∙ get_or-set_other (set s0.slots at None) p i _ None np
        ∙ get_or-set_other s0.slots at i None None na in
        record {
          gone = ap (λ xs. entry_at xs at) slots ∙ get_or-set_other (set s0.slots at None) p at _ None ne_at ∙ get_or-set_same s0.slots at None None at_within;
          same = λ i ne. elim (cases_eq i p) [
            | inl mine' ↦ ap (λ n. element_of (entry_at s2.slots n)) mine' ∙ ap element_of now ∙ sym (ap element_of pe.1) ∙ ap (λ n. element_of (entry_at s0.slots n)) (sym mine')
            | inr np ↦ ap element_of (still i np ne)
          ];
          leads = subst (λ h. Leads s2.slots h (set a k (front ++ rest))) (sym heads)
              (bridges_side s0.slots s2.slots mine a at p k front rest entry (record pe.0 { next = u.next }) la row is_last u.found now refl still
              (at_most_once (map element_of s0.slots) a b k p s) few_at (λ j ne. one_bucket (map element_of s0.slots) a b k j at s here ne)
              (λ j ne. one_bucket (map element_of s0.slots) a b k j p s q.0 ne) lt);
          others = leads_kept s0.slots s2.slots other b (λ j i t. unchanged_link s0.slots s2.slots i
              (still i (apart p i (bucket b j) (one_table (map element_of s0.slots) a b k j p s q.0) t) (apart at i (bucket b j) (one_table (map element_of s0.slots) a b k j at s here) t))) lb;
        }

    all : Afterwards
    all = by_before before refl

    pub updates_gone : Updates (map element_of s0.slots) (map element_of s2.slots) at None
    updates_gone = record {
      changed = item_at s2.slots at ∙ ap element_of all.gone;
      others = λ i ne. item_at s2.slots i ∙ all.same i ne ∙ sym (item_at s0.slots i);
    }

    pub leads_left : Leads s2.slots after (set a k (without eqb at (bucket a k)))
    leads_left = subst (λ r. Leads s2.slots after (set a k r)) (sym is_rest) all.leads

    pub leads_other : Leads s2.slots other b
    leads_other = all.others

    pub stand_left : Stand (map element_of s2.slots) (set a k (without eqb at (bucket a k))) b
    stand_left = leaves (map element_of s0.slots) (map element_of s2.slots) a b at k s here updates_gone inside
        (ap (λ n. n + 1) (count_map_element s2.slots) ∙ u.len ∙ sym (count_map_element s0.slots))

    pub found_item : at_item (map element_of s0.slots) at ≡ Some (record { key = key; hash = u.hash; value = value })
    found_item = item_at s0.slots at ∙ ap element_of u.found

    pub count_left : count (set a k (without eqb at (bucket a k))) + 1 ≡ count a
    count_left = omega (arith, count-set a k (without eqb at (bucket a k)) inside, ap length is_rest, ap length row, lengths)
      where
        both : (xs ys : List ℕ) → length (xs ++ at ∷ ys) ≡ suc (length (xs ++ ys))
        both [] ys = refl
        both (x ∷ xs) ys = ap suc (both xs ys)

        lengths : length (front ++ at ∷ rest) ≡ suc (length (front ++ rest))
        lengths = both front rest

  module _ (s0 s2 : Slab (Entry V)) (older newer after : List ℕ) (waiting k at : ℕ) (before : Option ℕ) (key : BlockRef) (value : V) (l : IsLinked s0.slots older newer waiting) where
    pub removed_older : (w : IsBehind (bucket (rows s0.slots older) k) before at) → Unlinks s0 older k before at key value s2 after → k < length older
        → Made s2.slots after newer (waiting - 1) (set (rows s0.slots older) k (without eqb at (bucket (rows s0.slots older) k))) (rows s0.slots newer)
    removed_older w u lt =
        made s2.slots after newer (waiting - 1) _ _
        (leads_left s0 s2 older newer after (rows s0.slots older) (rows s0.slots newer) k at before w.front w.rest key value (leads_older s0.slots older newer waiting l)
        (leads_newer s0.slots older newer waiting l) l.stand w.is w.last u lt)
        (leads_other s0 s2 older newer after (rows s0.slots older) (rows s0.slots newer) k at before w.front w.rest key value (leads_older s0.slots older newer waiting l)
        (leads_newer s0.slots older newer waiting l) l.stand w.is w.last u lt)
        (stand_left s0 s2 older newer after (rows s0.slots older) (rows s0.slots newer) k at before w.front w.rest key value (leads_older s0.slots older newer waiting l)
        (leads_newer s0.slots older newer waiting l) l.stand w.is w.last u lt)
        (omega (
          arith,
          l.waits,
          count_left s0 s2 older newer after (rows s0.slots older) (rows s0.slots newer) k at before w.front w.rest key value
              (leads_older s0.slots older newer waiting l) (leads_newer s0.slots older newer waiting l) l.stand w.is w.last u lt,
        ))

    pub removed_newer : (w : IsBehind (bucket (rows s0.slots newer) k) before at) → Unlinks s0 newer k before at key value s2 after → k < length newer
        → Made s2.slots older after waiting (rows s0.slots older) (set (rows s0.slots newer) k (without eqb at (bucket (rows s0.slots newer) k)))
    removed_newer w u lt =
        made s2.slots older after waiting _ _
        (leads_other s0 s2 newer older after (rows s0.slots newer) (rows s0.slots older) k at before w.front w.rest key value (leads_newer s0.slots older newer waiting l)
        (leads_older s0.slots older newer waiting l) (flip _ _ _ l.stand) w.is w.last u lt)
        (leads_left s0 s2 newer older after (rows s0.slots newer) (rows s0.slots older) k at before w.front w.rest key value (leads_newer s0.slots older newer waiting l)
        (leads_older s0.slots older newer waiting l) (flip _ _ _ l.stand) w.is w.last u lt)
        (flip _ _ _
        (stand_left s0 s2 newer older after (rows s0.slots newer) (rows s0.slots older) k at before w.front w.rest key value (leads_newer s0.slots older newer waiting l)
        (leads_older s0.slots older newer waiting l) (flip _ _ _ l.stand) w.is w.last u lt))
        l.waits

    pub leaves_older : (w : IsBehind (bucket (rows s0.slots older) k) before at) → Unlinks s0 older k before at key value s2 after → k < length older
        → LeavesFrom Older (view_of s0.slots older newer (room s0)) (view_of s2.slots after newer (room s2)) k at key value
    leaves_older w u lt =
        let m = removed_older w u lt in
        record {
          hash = u.hash;
          found = found_item s0 s2 older newer after (rows s0.slots older) (rows s0.slots newer) k at before w.front w.rest key value (leads_older s0.slots older newer waiting l)
              (leads_newer s0.slots older newer waiting l) l.stand w.is w.last u lt;
          updates = updates_gone s0 s2 older newer after (rows s0.slots older) (rows s0.slots newer) k at before w.front w.rest key value (leads_older s0.slots older newer waiting l)
              (leads_newer s0.slots older newer waiting l) l.stand w.is w.last u lt;
          rows = (m.older_rows, m.newer_rows);
          stand = m.linked.stand;
        }

    pub leaves_newer : (w : IsBehind (bucket (rows s0.slots newer) k) before at) → Unlinks s0 newer k before at key value s2 after → k < length newer
        → LeavesFrom Newer (view_of s0.slots older newer (room s0)) (view_of s2.slots older after (room s2)) k at key value
    leaves_newer w u lt =
        let m = removed_newer w u lt in
        record {
          hash = u.hash;
          found = found_item s0 s2 newer older after (rows s0.slots newer) (rows s0.slots older) k at before w.front w.rest key value (leads_newer s0.slots older newer waiting l)
              (leads_older s0.slots older newer waiting l) (flip _ _ _ l.stand) w.is w.last u lt;
          updates = updates_gone s0 s2 newer older after (rows s0.slots newer) (rows s0.slots older) k at before w.front w.rest key value (leads_newer s0.slots older newer waiting l)
              (leads_older s0.slots older newer waiting l) (flip _ _ _ l.stand) w.is w.last u lt;
          rows = (m.newer_rows, m.older_rows);
          stand = m.linked.stand;
        }
