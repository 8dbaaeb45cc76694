-- A block comes back, or is written over; and the slabs when a pass begins and ends.
use Rattle.std.specs.Prelude.{◌≡◌, ◌≢◌, ℕ, suc, ◌+◌, ◌-◌, ◌*◌, ◌^◌, ◌<◌, ◌≤◌, Bool, true, false, ◌&&◌, not, List, [], ◌∷◌, length, map, sum_by, slice_set, slice_index_or, Option, Some}
use Rattle.std.specs.Prelude.{None, IsSome, Result, IfOk, OnErr, refl, ◌⊎◌}
use Rattle.std.specs.declared.result.Result.TheVariants.{Ok, Err}
use Rattle.std.proofs.Common.{arith, cond, eqb, ap, ◌∙◌, sym, subst, inl, inr, get_or-set_same, get_or-set_other}
use Rattle.std.proofs.lemmas.Bool.{cases_eq, eqb-true, eq-eqb}
use Rattle.std.proofs.lemmas.Bool.Decides.{nat_tests}
use Rattle.std.proofs.lemmas.List.{length-map}
use Rattle.std.proofs.lemmas.List.Sums.{sum_by-cons}
use Rattle.std.proofs.Math.Seq.{map-set_same}
use Rattle.blocks.specs.declared.BlockRef.{BlockRef}
use Rattle.blocks.specs.Blocks.{Blocks, with_block}
use Rattle.blocks.specs.Slabs.{SlabUse, Heap, slab_at, per_slab, is_other, wants, waiting_in, spare_in, released, unmarked, ended, Begun}
use Rattle.class_heap.specs.declared.entry.Entry.{Entry}
use Rattle.class_heap.specs.declared.entry.Entry.TheVariants.{Vacant, Large, Classed}
use Rattle.class_heap.specs.declared.directory.Directory.{Directory}
use Rattle.class_heap.specs.Directory.{labels_at}
use Rattle.class_heap.specs.Slab.{with_slot}
use Rattle.class_heap.specs.Entries.{use_in, block_in, labels_of, entry_at, blocks_of, heap_of, class_in, IsHeap}
use Rattle.class_heap.specs.Marks.{needed_in, IsMarked}
use Rattle.class_heap.specs.Placing.{returned, IsPlacing, IsReturn, IsHeapStep, stays, places, returns}
use Rattle.class_heap.specs.Laws.{slab_read, slab_there, fits_in}
use Rattle.class_heap.proofs.Parts.{used_pos}
use Rattle.class_heap.proofs.Heaps.{IsEntry, blocks_changed, others_stay, changed_here}
use Rattle.class_heap.proofs.Placings.{change_set, sound_set, other_class}

-- ---- a block comes back

-- a slab with a live block counts it
pub live_pos : (e : Entry) (slot : ℕ) (s : SlabUse) → IsSome (block_in e slot) → use_in e ≡ Some s → 0 < s.used
live_pos Vacant slot s live is = cc
live_pos (Large bytes) slot s live is = cc
live_pos (Classed slab) slot s live is = (let p = used_pos slab.sound slot live in let q : record { class = slab.class; used = slab.used; kept = slab.kept } ≡ s = cc in subst (λ u. 0 < u.used) q p)

abbrev fewer : SlabUse → Option SlabUse
fewer s = Some (record { class = s.class; used = s.used - 1; kept = s.kept })

-- what is left of a slab
by_left : (P : Option SlabUse → Type 0) (s : SlabUse) → (s.used ≡ 1 → s.kept ≡ false → P None) → ((s.kept ≡ false → s.used ≢ 1) → P (fewer s)) → P (returned (Some s))
by_left P s gone remains = by_tests (eqb s.used 1) s.kept refl refl
  where
    no : true ≡ false → ⊥
    no h = cc

    by_tests : (t k : Bool) → t ≡ eqb s.used 1 → k ≡ s.kept → P (cond (t && not k) None (fewer s))
    by_tests true true e f = remains (λ h. absurd (no (f ∙ h)))
    by_tests true false e f = gone (eqb-true s.used 1 (sym e)) (sym f)
    by_tests false k e f = remains (λ h is. absurd (no (sym (e ∙ eq-eqb s.used 1 is))))

entry_given_of : (passing : Bool) (o : Option SlabUse) → ((s : SlabUse) → o ≡ Some s → s.kept ≡ true → passing ≡ true) → ((s : SlabUse) → o ≡ Some s → s.kept ≡ false → 0 < s.used)
    → (e : Entry) → use_in e ≡ returned o → IsEntry passing e
entry_given_of passing None marked filled e is = record { marked = λ s at' kept. absurd (none (sym is ∙ at')); filled = λ s at' kept. absurd (none (sym is ∙ at')) }
  where
    none : {s : SlabUse} → None ≡ Some s → ⊥
    none h = cc
entry_given_of passing (Some t) marked filled e is =
    by_left (λ o. use_in e ≡ o → IsEntry passing e) t
    (λ last k at. record { marked = λ s at' kept. absurd (none (sym at ∙ at')); filled = λ s at' kept. absurd (none (sym at ∙ at')) })
    (λ more at. record {
      marked = λ s at' kept. marked t refl (ap (λ x. x.kept) (same s (sym at ∙ at')) ∙ kept);
      filled = λ s at' kept. (let q = same s (sym at ∙ at') in let k = ap (λ x. x.kept) q ∙ kept in let u = filled t refl k in let m = more k in subst (λ x. 0 < x.used) q (omega (arith, u, m)));
    }) is
  where
    none : {s : SlabUse} → None ≡ Some s → ⊥
    none h = cc

    same : (s : SlabUse) → fewer t ≡ Some s → record { class = t.class; used = t.used - 1; kept = t.kept } ≡ s
    same s h = cc

pub entry_given : {passing : Bool} {entries : List Entry} {directory : Directory} {margins : List ℕ} (sound : IsHeap passing entries directory margins) (n : ℕ) (e : Entry)
    → use_in e ≡ returned (use_in (entry_at entries n)) → IsEntry passing e
entry_given {passing = passing} {entries = entries} sound n e left = entry_given_of passing (use_in (entry_at entries n)) (sound.marked n) (sound.filled n) e left

-- how the margin changes
balance_one : (c : ℕ) (s : SlabUse) → 0 < s.used → s.used ≤ per_slab s.class → s.class ≡ c
    → waiting_in c (returned (Some s)) + spare_in c (Some s) + 1 ≡ waiting_in c (Some s) + spare_in c (returned (Some s))
balance_one c s some most same = by_left (λ o. waiting_in c o + spare_in c (Some s) + 1 ≡ waiting_in c (Some s) + spare_in c o) s
    (λ last k. grind (arith, nat_tests, last, k, same))
    (λ more. by_kept s.kept refl)
  where
    q : s.used ≤ per_slab c
    q = subst (λ i. s.used ≤ per_slab i) same most

    by_kept : (k : Bool) → s.kept ≡ k → waiting_in c (fewer s) + spare_in c (Some s) + 1 ≡ waiting_in c (Some s) + spare_in c (fewer s)
    by_kept true k = (let r = q in grind (arith, nat_tests, k, same, some, r))
    by_kept false k = grind (arith, nat_tests, k, same, some)

balance_other : (c : ℕ) (s : SlabUse) → s.class ≢ c → waiting_in c (returned (Some s)) + spare_in c (Some s) ≡ waiting_in c (Some s) + spare_in c (returned (Some s))
balance_other c s ne = (let a = other_class c s ne in by_left (λ o. waiting_in c o + spare_in c (Some s) ≡ waiting_in c (Some s) + spare_in c o) s
    (λ last k. omega (arith, a.0, a.1))
    (λ more. (let b = other_class c (record { class = s.class; used = s.used - 1; kept = s.kept }) ne in omega (arith, a.0, a.1, b.0, b.1))))

pub margin_given : (margins : List ℕ) (old e : Entry) (class slot : ℕ) → length margins ≡ 36 → class_in (use_in old) ≡ Some class → IsSome (block_in old slot)
    → use_in e ≡ returned (use_in old) → (c : ℕ) → c < 36
    → waiting_in c (use_in e) + spare_in c (use_in old) + slice_index_or (slice_set margins class (slice_index_or margins class 0 + 1)) c 0 ≡ waiting_in c (use_in old) + spare_in c
    (use_in e) + slice_index_or margins c 0
margin_given margins old e class slot few of_class live left c within = by_use (use_in old) of_class refl
  where
    by_use : (o : Option SlabUse) → class_in o ≡ Some class → use_in old ≡ o
        → waiting_in c (use_in e) + spare_in c (use_in old) + slice_index_or (slice_set margins class (slice_index_or margins class 0 + 1)) c 0 ≡ waiting_in c (use_in old) + spare_in c
        (use_in e) + slice_index_or margins c 0
    by_use None h is = cc
    by_use (Some s) h is =
        let k : s.class ≡ class = cc in let some = live_pos old slot s live is in let most = (fits_in old s is).0 in let in_range = (fits_in old s is).1 in
        let a = ap (waiting_in c) (left ∙ ap returned is) in let b = ap (spare_in c) (left ∙ ap returned is) in let x = ap (waiting_in c) is in let y = ap (spare_in c) is in
        elim (cases_eq c class) [
          | inl same ↦ (let one = balance_one c s some most (k ∙ sym same) in
              let m : slice_index_or (slice_set margins class (slice_index_or margins class 0 + 1)) c 0 ≡ slice_index_or margins class 0 + 1 =
              ap (λ i. slice_index_or (slice_set margins class (slice_index_or margins class 0 + 1)) i 0) same
              ∙ get_or-set_same margins class (slice_index_or margins class 0 + 1) 0 (omega (arith, few, same, within)) in
              omega (arith, one, m, a, b, x, y, ap (λ i. slice_index_or margins i 0) same))
          | inr other ↦ (let none = balance_other c s (λ q. other (sym q ∙ k)) in
              omega (arith, none, a, b, x, y, get_or-set_other margins class c (slice_index_or margins class 0 + 1) 0 other))
        ]

-- where there is no slab, no sum changes
pub margin_alone : (margins : List ℕ) (old e : Entry) → ((class : ℕ) → class_in (use_in old) ≢ Some class) → use_in e ≡ returned (use_in old) → (c : ℕ) → c < 36
    → waiting_in c (use_in e) + spare_in c (use_in old) + slice_index_or margins c 0 ≡ waiting_in c (use_in old) + spare_in c (use_in e) + slice_index_or margins c 0
margin_alone margins old e none left c within = by_use (use_in old) refl
  where
    by_use : (o : Option SlabUse) → use_in old ≡ o → waiting_in c (use_in e) + spare_in c (use_in old) + slice_index_or margins c 0 ≡ waiting_in c (use_in old) + spare_in c (use_in e) +
        slice_index_or margins c 0
    by_use None is = omega (arith, ap (waiting_in c) (left ∙ ap returned is), ap (spare_in c) (left ∙ ap returned is), ap (waiting_in c) is, ap (spare_in c) is)
    by_use (Some s) is = absurd (none s.class (ap class_in is))

-- no margin is large
spare_most : (class : ℕ) (xs : List (Option SlabUse)) → ((o : Option SlabUse) → spare_in class o ≤ 8192) → sum_by (spare_in class) xs ≤ length xs * 8192
spare_most class [] one = omega arith
spare_most class (x ∷ rest) one = omega (arith, sum_by-cons (spare_in class) x rest, one x, spare_most class rest one)

spare_one : (class : ℕ) (p : ℕ) → per_slab class ≡ p → p ≤ 8192 → (o : Option SlabUse) → spare_in class o ≤ 8192
spare_one class p is most None = omega arith
spare_one class p is most (Some s) = by_test ((eqb s.class class) && s.kept)
  where
    by_test : (t : Bool) → cond t (per_slab class - s.used) 0 ≤ 8192
    by_test true = omega (arith, is, most)
    by_test false = omega arith

pub margin_most : {passing : Bool} {entries : List Entry} {directory : Directory} {margins : List ℕ} (sound : IsHeap passing entries directory margins) → passing ≡ true
    → length entries ≤ 2 ^ 40 → (class : ℕ) → class < 36 → per_slab class ≤ 8192 → slice_index_or margins class 0 ≤ 2 ^ 53
margin_most {passing = passing} {entries = entries} sound open' few class lt most =
    (let m = sound.margin open' class lt in let s = spare_most class (map use_in entries) (spare_one class (per_slab class) refl most) in
    omega (arith, m, s, few, length-map entries use_in))

pub given_blocks : (old : List Entry) (at : BlockRef) (e : Entry) → IsSome (block_in (entry_at old at.slab) at.slot)
    → ((slot : ℕ) → block_in e slot ≡ with_slot (block_in (entry_at old at.slab)) at.slot None slot) → blocks_of (slice_set old at.slab e) ≡ with_block (blocks_of old) at None
given_blocks old at e live ended' = blocks_changed old (slice_set old at.slab e) e at None (change_set old at.slab e (slab_there old at.slab at.slot live)) ended'

pub given_step : (passing : Bool) (old : List Entry) (at : BlockRef) (e : Entry) → IsSome (block_in (entry_at old at.slab) at.slot)
    → ((slot : ℕ) → block_in e slot ≡ with_slot (block_in (entry_at old at.slab)) at.slot None slot) → use_in e ≡ returned (use_in (entry_at old at.slab))
    → IsHeapStep (blocks_of old) (heap_of passing old) (blocks_of (slice_set old at.slab e)) (heap_of passing (slice_set old at.slab e))
given_step passing old at e live ended' left =
    let c = change_set old at.slab e (slab_there old at.slab at.slot live) in
    returns at (record {
      was = live;
      ended = given_blocks old at e live ended';
      passing = refl;
      left = changed_here passing old (slice_set old at.slab e) at.slab e c ∙ (left ∙ ap returned (sym (slab_read passing old at.slab)));
      others = others_stay passing old (slice_set old at.slab e) at.slab e c;
    })

-- the slabs where a block came back
record IsLeft (h later : Heap) (n : ℕ) : Type 0 where
  passing : later.passing ≡ h.passing
  left : slab_at later n ≡ returned (slab_at h n)
  others : (m : ℕ) → m ≢ n → slab_at later m ≡ slab_at h m

-- no further block wants to move
calm_left : (h later : Heap) (n : ℕ) → IsLeft h later n → (r : BlockRef) → wants h r ≡ false → wants later r ≡ false
calm_left h later n back r calm = ap (λ p. p && is_other (slab_at later r.slab)) back.passing ∙ by_number (cases_eq r.slab n)
  where
    by_kept : (p t k : Bool) (a b : ℕ) → (p && not k) ≡ false → (p && is_other (cond t None (Some (record { class = a; used = b; kept = k })))) ≡ false
    by_kept true true k a b e = refl
    by_kept true false k a b e = e
    by_kept false t k a b e = refl

    by_slab : (p : Bool) (o : Option SlabUse) → (p && is_other o) ≡ false → (p && is_other (returned o)) ≡ false
    by_slab p None e = e
    by_slab p (Some s) e = by_kept p (eqb s.used 1 && not s.kept) s.kept s.class (s.used - 1) e

    by_number : (r.slab ≡ n) ⊎ (r.slab ≢ n) → (h.passing && is_other (slab_at later r.slab)) ≡ false
    by_number (inl same) = ap (λ m. h.passing && is_other (slab_at later m)) same
        ∙ (ap (λ o. h.passing && is_other o) back.left ∙ by_slab h.passing (slab_at h n) (ap (λ m. h.passing && is_other (slab_at h m)) (sym same) ∙ calm))
    by_number (inr other) = ap (λ o. h.passing && is_other o) (back.others r.slab other) ∙ calm

pub calm_returned : {before after : Blocks} {h later : Heap} {at : BlockRef} → IsReturn before h after later at → (r : BlockRef) → wants h r ≡ false → wants later r ≡ false
calm_returned {h = h} {later = later} {at = at} back = calm_left h later at.slab (record { passing = back.passing; left = back.left; others = back.others })

pub given_calm : (passing : Bool) (old : List Entry) (at : BlockRef) (e : Entry) → IsSome (block_in (entry_at old at.slab) at.slot) → use_in e ≡ returned (use_in (entry_at old at.slab))
    → (r : BlockRef) → wants (heap_of passing old) r ≡ false → wants (heap_of passing (slice_set old at.slab e)) r ≡ false
given_calm passing old at e live left =
    let c = change_set old at.slab e (slab_there old at.slab at.slot live) in
    calm_left (heap_of passing old) (heap_of passing (slice_set old at.slab e)) at.slab (record {
      passing = refl;
      left = changed_here passing old (slice_set old at.slab e) at.slab e c ∙ (left ∙ ap returned (sym (slab_read passing old at.slab)));
      others = others_stay passing old (slice_set old at.slab e) at.slab e c;
    })

-- ---- a block is written over

pub sound_written : {passing : Bool} {old : List Entry} {directory : Directory} {margins : List ℕ} (sound : IsHeap passing old directory margins) (n : ℕ) (e : Entry) → n < length old
    → use_in e ≡ use_in (entry_at old n) → labels_of passing e ≡ labels_of passing (entry_at old n) → IsHeap passing (slice_set old n e) directory margins
sound_written {passing = passing} {old = old} {directory = directory} {margins = margins} sound n e lt same labels =
    sound_set sound n e (labels_at directory n) directory margins lt (sound.labelled n lt ∙ sym labels) refl (λ m less. sym (by_number m (cases_eq m n)))
    (record { marked = λ s at' kept. sound.marked n s (sym same ∙ at') kept; filled = λ s at' kept. sound.filled n s (sym same ∙ at') kept }) sound.classes
    (λ open' c within. omega (arith, ap (waiting_in c) same, ap (spare_in c) same))
  where
    by_number : (m : ℕ) → (m ≡ n) ⊎ (m ≢ n) → cond (eqb m n) (labels_at directory n) (labels_at directory m) ≡ labels_at directory m
    by_number m (inl here) = ap (λ t. cond t (labels_at directory n) (labels_at directory m)) (eq-eqb m n here) ∙ ap (labels_at directory) (sym here)
    by_number m (inr other) = grind (arith, nat_tests, other)

pub slabs_written : (passing : Bool) (old : List Entry) (n : ℕ) (e : Entry) → use_in e ≡ use_in (entry_at old n) → heap_of passing (slice_set old n e) ≡ heap_of passing old
slabs_written passing old n e same = ap (λ xs. record { passing = passing; slabs = xs }) (map-set_same use_in old n e Vacant same)

pub blocks_written : (old : List Entry) (at : BlockRef) (e : Entry) (content : List ℕ) → IsSome (block_in (entry_at old at.slab) at.slot)
    → ((slot : ℕ) → block_in e slot ≡ with_slot (block_in (entry_at old at.slab)) at.slot (Some content) slot)
    → blocks_of (slice_set old at.slab e) ≡ with_block (blocks_of old) at (Some content)
blocks_written old at e content live is = blocks_changed old (slice_set old at.slab e) e at (Some content) (change_set old at.slab e (slab_there old at.slab at.slot live)) is

-- ---- a pass begins and ends

slabs_agree : (f g : Option SlabUse → Option SlabUse) → f None ≡ None → g None ≡ None → (old new : List Entry) → length new ≡ length old
    → ((n : ℕ) → f (use_in (entry_at new n)) ≡ g (use_in (entry_at old n))) → map f (map use_in new) ≡ map g (map use_in old)
slabs_agree f g fn gn [] [] long h = refl
slabs_agree f g fn gn [] (y ∷ ys) long h = absurd (omega (arith, long))
slabs_agree f g fn gn (x ∷ xs) [] long h = absurd (omega (arith, long))
slabs_agree f g fn gn (x ∷ xs) (y ∷ ys) long h = (let e = h 0 in let r = slabs_agree f g fn gn xs ys (let q : length ys ≡ length xs = omega (arith, long) in q) (λ n. h (suc n)) in λ i. e i ∷ r i)

whole : (xs : List Entry) → map (λ o. o) (map use_in xs) ≡ map use_in xs
whole [] = refl
whole (x ∷ xs) = ap (λ l. use_in x ∷ l) (whole xs)

pub slabs_ended : (passing : Bool) (old new : List Entry) → length new ≡ length old → ((n : ℕ) → use_in (entry_at new n) ≡ released (use_in (entry_at old n)))
    → heap_of false new ≡ ended (heap_of passing old)
slabs_ended passing old new long h = ap (λ xs. record { passing = false; slabs = xs }) (sym (whole new) ∙ slabs_agree (λ o. o) released refl refl old new long h)

released_bare : (o : Option SlabUse) → unmarked (released o) ≡ released o
released_bare None = refl
released_bare (Some s) = by_test (eqb s.used 0) _ refl
  where
    by_test : (t : Bool) (o : Option SlabUse) → unmarked o ≡ o → unmarked (cond t None o) ≡ cond t None o
    by_test true o h = refl
    by_test false o h = h

pub slabs_begun : (passing : Bool) (old mid new : List Entry) → length mid ≡ length old → length new ≡ length mid → ((n : ℕ) → use_in (entry_at mid n) ≡ released (use_in (entry_at old n)))
    → ((n : ℕ) → unmarked (use_in (entry_at new n)) ≡ unmarked (use_in (entry_at mid n))) → ((class : ℕ) → class < 36 → IsMarked class (needed_in class new) new)
    → Begun (heap_of passing old) (heap_of true new)
slabs_begun passing old mid new long longer h same marked = record {
  passing = refl;
  same = slabs_agree unmarked released refl refl old new (longer ∙ long) (λ n. same n ∙ (ap unmarked (h n) ∙ released_bare (use_in (entry_at old n))));
  kept = λ class lt. (marked class lt).kept;
  fullest = λ m n s t at_m at_n one kept unkept. (marked s.class (fits_in (entry_at new m) s (sym (slab_read true new m) ∙ at_m)).1).fullest m n s t (sym (slab_read true new m) ∙ at_m)
      (sym (slab_read true new n) ∙ at_n) refl (sym one) kept unkept;
}

-- ---- a block was placed, or there was no memory

pub place_step : {E : Type 0} (r : Result BlockRef E) (before after : Blocks) (h later : Heap) (len : ℕ) → IfOk r (IsPlacing before h after later len) → OnErr r (after ≡ before)
    → OnErr r (later ≡ h) → IsHeapStep before h after later
place_step (Ok at) before after h later len placed blocks slabs = places len at placed
place_step (Err e) before after h later len placed blocks slabs = stays blocks slabs
