-- A list is one node at most, or has one first fault.
use Rattle.std.proofs.Common.{◌≡◌, ℕ, ◌+◌, ◌<◌, List, [], ◌∷◌, ◌++◌, length, refl, sym, ap, subst, ◌∙◌, inl, inr, arith}
use Rattle.std.specs.Prelude.{None}
use Rattle.std.proofs.lemmas.Bool.{cases_lt}
use Rattle.stream_node.specs.declared.id.Id.{Id}
use Rattle.stream_node.specs.declared.fault.NodeFault.{NodeFault}
use Rattle.stream_node.specs.declared.fault.NodeFault.TheVariants as faults
use Rattle.stream_node.specs.Entry.{Stored, number}
use Rattle.stream_node.specs.Node.{IsHead, Begins, marked, last_id, Node, Stop, IsBack, LacksEntry, IsFault, AtMostOne}
use Rattle.stream_node.proofs.Lists.{Texts, first, behind, same_fronts}
use Rattle.stream_node.proofs.Same.{same_number}
use Rattle.stream_node.proofs.Marches.{Next, same_entries, goes_on, not_back}

pub record SameHead (live : ℕ) (deleted : ℕ) (master : Texts) (rest : Texts) (l : ℕ) (d : ℕ) (m : Texts) (r : Texts) : Type 0 where
  pub live_same : live ≡ l
  pub deleted_same : deleted ≡ d
  pub master_same : master ≡ m
  pub rest_same : rest ≡ r

pub one_head : (list : Texts) (live deleted l d : ℕ) (master rest m r : Texts) → IsHead list live deleted master rest → IsHead list l d m r → SameHead live deleted master rest l d m r
one_head list live deleted l d master rest m r a b =
    let e : number live ∷ number deleted ∷ number (length master) ∷ (master ++ number 0 ∷ rest) ≡ number l ∷ number d ∷ number (length m) ∷ (m ++ number 0 ∷ r) = sym a.elements ∙ b.elements in
    let n = same_number (length master) (length m) a.fields_fit b.fields_fit (ap (λ (x : Texts). first (behind (behind x))) e) in
    let f = same_fronts master m (number 0 ∷ rest) (number 0 ∷ r) n (ap (λ (x : Texts). behind (behind (behind x))) e) in
    record {
      live_same = same_number live l a.live_fits b.live_fits (ap first e);
      deleted_same = same_number deleted d a.deleted_fits b.deleted_fits (ap (λ (x : Texts). first (behind x)) e);
      master_same = f.0;
      rest_same = ap behind f.1;
    }

-- the entries of the other stop, behind the head of the one
record Aligned (key : Id) (list : Texts) (s : Stop key list) (u : Stop key list) : Type 0 where
  pub deleted_same : s.deleted ≡ u.deleted
  pub total_same : s.live + s.deleted ≡ u.live + u.deleted
  pub master_same : s.master ≡ u.master
  pub begins_too : Begins key s.master None s.behind u.entries u.rest

aligned : (key : Id) (list : Texts) (s u : Stop key list) → Aligned key list s u
aligned key list s u =
    let h = one_head list s.live s.deleted u.live u.deleted s.master s.behind u.master u.behind s.head u.head in
    let here = subst (λ (x : Texts). Begins key x None u.behind u.entries u.rest) (sym h.master_same) u.begins in
    record {
      deleted_same = h.deleted_same;
      total_same = omega (arith, h.live_same, h.deleted_same);
      master_same = h.master_same;
      begins_too = subst (λ (x : Texts). Begins key s.master None x u.entries u.rest) (sym h.rest_same) here;
    }

abbrev total : (key : Id) (list : Texts) → Stop key list → ℕ
total key list s = s.live + s.deleted

-- behind fewer entries another one stands
next_at : (key : Id) (list : Texts) (s u : Stop key list) → length s.entries < length u.entries → Next key s.master (last_id None s.entries) s.rest
next_at key list s u less = goes_on key s.master s.behind None s.entries u.entries s.rest u.rest s.begins (aligned key list s u).begins_too less

same_stop : (key : Id) (list : Texts) (s u : Stop key list) → length s.entries ≡ length u.entries → (s.entries ≡ u.entries) × (s.rest ≡ u.rest)
same_stop key list s u n = same_entries key s.master s.behind None s.entries u.entries s.rest u.rest s.begins (aligned key list s u).begins_too n

lacks_next : (key : Id) (list : Texts) (s u : Stop key list) → LacksEntry key s.master s.rest → length s.entries < length u.entries → ⊥
unfolding Next
lacks_next key list s u lacks less = let n = next_at key list s u less in lacks n.0 n.1 n.2

abbrev IsFull : (key : Id) (list : Texts) → Stop key list → Type 0
IsFull key list s = (length s.entries ≡ s.live + s.deleted) × (s.rest ≡ [])

full_or_shape : (key : Id) (list : Texts) (s : Stop key list) → IsFull key list s → IsFault key list faults.Shape → ⊥
full_or_shape key list s full (inl headless) = headless s.live s.deleted s.master s.behind s.head
full_or_shape key list s full (inr (inl stuck)) =
    let u = stuck.0 in
    lacks_next key list u s stuck.2 (omega (arith, stuck.1, full.0, (aligned key list u s).total_same))
full_or_shape key list s full (inr (inr more)) =
    let u = more.0 in
    let same = same_stop key list s u (omega (arith, more.1, full.0, (aligned key list s u).total_same)) in
    more.2 (sym same.1 ∙ full.1)

full_or_order : (key : Id) (list : Texts) (s : Stop key list) → (length s.entries ≡ s.live + s.deleted) → IsFault key list faults.Order → ⊥
full_or_order key list s full back =
    let u = back.0 in
    not_back key u.master u.rest (last_id None u.entries) (next_at key list u s (omega (arith, back.1, full, (aligned key list u s).total_same))) back.2

shape_or_order : (key : Id) (list : Texts) → IsFault key list faults.Shape → IsFault key list faults.Order → ⊥
shape_or_order key list (inl headless) back = let s = back.0 in headless s.live s.deleted s.master s.behind s.head
shape_or_order key list (inr (inl stuck)) back =
    let s = stuck.0 in
    let u = back.0 in
    elim (cases_lt (length s.entries) (length u.entries)) [
      | inl less ↦ lacks_next key list s u stuck.2 less
      | inr not_less ↦ elim (cases_lt (length u.entries) (length s.entries)) [
        | inl more ↦ not_back key u.master u.rest (last_id None u.entries) (next_at key list u s more) back.2
        | inr not_more ↦
            let same = same_stop key list s u (omega (arith, not_less, not_more)) in
            let at = subst (λ (x : List Stored). IsBack key (last_id None x) u.rest) (sym same.0) back.2 in
            stuck.3 (subst (λ (x : Texts). IsBack key (last_id None s.entries) x) (sym same.1) at)
      ]
    ]
shape_or_order key list (inr (inr more)) back = full_or_order key list more.0 more.1 back

stop_of : (key : Id) (list : Texts) (es : List Stored) → Node key list es → Stop key list
stop_of key list es n = record { live = n.live; deleted = n.deleted; master = n.master; behind = n.behind; entries = es; rest = []; head = n.head; begins = n.all_entries }

pub not_both : (key : Id) (list : Texts) (es : List Stored) (f : NodeFault) → Node key list es → IsFault key list f → ⊥
unfolding stop_of
not_both key list es faults.Shape n f = full_or_shape key list (stop_of key list es n) (n.count, refl) f
not_both key list es faults.Count n f =
    let s = stop_of key list es n in
    let u = f.0 in
    let a = aligned key list s u in
    let same = same_stop key list s u (omega (arith, n.count, f.1, a.total_same)) in
    f.3 (ap marked (sym same.0) ∙ n.marks ∙ a.deleted_same)
not_both key list es faults.Order n f = full_or_order key list (stop_of key list es n) n.count f

one_fault : (key : Id) (list : Texts) (f g : NodeFault) → IsFault key list f → IsFault key list g → f ≡ g
one_fault key list faults.Shape faults.Shape a b = refl
one_fault key list faults.Shape faults.Count a b = absurd (full_or_shape key list b.0 (b.1, b.2) a)
one_fault key list faults.Shape faults.Order a b = absurd (shape_or_order key list a b)
one_fault key list faults.Count faults.Shape a b = absurd (full_or_shape key list a.0 (a.1, a.2) b)
one_fault key list faults.Count faults.Count a b = refl
one_fault key list faults.Count faults.Order a b = absurd (full_or_order key list a.0 a.1 b)
one_fault key list faults.Order faults.Shape a b = absurd (shape_or_order key list b a)
one_fault key list faults.Order faults.Count a b = absurd (full_or_order key list b.0 b.1 a)
one_fault key list faults.Order faults.Order a b = refl

one_list : (key : Id) (list : Texts) (es fs : List Stored) → Node key list es → Node key list fs → es ≡ fs
unfolding stop_of
one_list key list es fs a b =
    let s = stop_of key list es a in
    let u = stop_of key list fs b in
    (same_stop key list s u (omega (arith, a.count, b.count, (aligned key list s u).total_same))).0

pub at_most_one : (key : Id) (list : Texts) → AtMostOne key list
at_most_one key list = record { one_list = one_list key list; one_fault = one_fault key list; not_both = not_both key list }
