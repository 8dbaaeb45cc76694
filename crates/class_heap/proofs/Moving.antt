-- A block moves from a slab that isn't kept into a kept one.
use Rattle.std.specs.Prelude.{◌≡◌, ◌≢◌, ℕ, ◌+◌, ◌-◌, ◌<◌, ◌≤◌, Bool, true, false, ◌&&◌, not, List, length, map, sum_by, slice_set, Option, Some, None, IsSome, refl, ◌⊎◌}
use Rattle.std.proofs.Common.{arith, cond, eqb, ap, ◌∙◌, sym, subst, inl, inr, get_or, get_or-set_same, get_or-set_other, length-set}
use Rattle.std.proofs.lemmas.Bool.{cases_eq, cond-true, and_parts, eq-eqb}
use Rattle.std.proofs.lemmas.Bool.Decides.{nat_tests}
use Rattle.std.proofs.lemmas.List.{length-map}
use Rattle.std.proofs.lemmas.List.Sums.{get_or-le-sum_by}
use Rattle.std.specs.Int.{bit_at}
use Rattle.blocks.specs.declared.BlockRef.{BlockRef}
use Rattle.blocks.specs.Blocks.{with_block, ref_eq}
use Rattle.blocks.specs.Slabs.{SlabUse, slab_at, per_slab, waiting_in, spare_in, one_more_in, one_fewer, wants, is_other, Moves}
use Rattle.blocks.proofs.Sums.{sum_two}
use Rattle.class_heap.specs.declared.entry.Entry.{Entry}
use Rattle.class_heap.specs.declared.entry.Entry.TheVariants.{Vacant}
use Rattle.class_heap.specs.declared.directory.Directory.{Directory}
use Rattle.class_heap.specs.Directory.{labels_at}
use Rattle.class_heap.specs.Slab.{with_slot}
use Rattle.class_heap.specs.Tree.{IsLeastWith}
use Rattle.class_heap.specs.Entries.{use_in, block_in, labels_of, entry_at, blocks_of, heap_of, class_in, fuller, IsHeap}
use Rattle.class_heap.specs.Placing.{takes, returned}
use Rattle.class_heap.specs.Laws.{slab_there}
use Rattle.class_heap.specs.Laws.{slab_read}
use Rattle.class_heap.proofs.Heaps.{taking, first_takes, none_takes, none_spare}

-- where a block comes from, and where it goes
pub record IsMoving (passing : Bool) (entries : List Entry) (a n class : ℕ) : Type 0 where
  pub open' : passing ≡ true
  pub from : SlabUse
  pub from_is : use_in (entry_at entries a) ≡ Some from
  pub from_class : from.class ≡ class
  pub from_other : from.kept ≡ false
  pub from_used : 0 < from.used
  pub to : SlabUse
  pub to_is : use_in (entry_at entries n) ≡ Some to
  pub to_class : to.class ≡ class
  pub to_kept : to.kept ≡ true
  pub to_room : to.used < per_slab to.class
  pub lowest : (m : ℕ) → m < n → takes true class (use_in (entry_at entries m)) ≡ false
  pub apart : a ≢ n
  pub there : n < length entries

-- a pass is open, and this is a slab of the class that isn't kept
record IsFrom (passing : Bool) (o : Option SlabUse) (class : ℕ) : Type 0 where
  pub open' : passing ≡ true
  pub slab : SlabUse
  pub is : o ≡ Some slab
  pub one_class : slab.class ≡ class
  pub other : slab.kept ≡ false

-- where the blocks of a slab want to move, a pass is open and the slab isn't kept
from_slab : (passing : Bool) (o : Option SlabUse) (class : ℕ) → (passing && is_other o) ≡ true → class_in o ≡ Some class → IsFrom passing o class
from_slab passing None class h c = cc
from_slab passing (Some s) class h c =
    (let p = and_parts passing (not s.kept) h in record { open' = p.0; slab = s; is = refl; one_class = (let q : s.class ≡ class = cc in q); other = off s.kept p.1 })
  where
    off : (b : Bool) → not b ≡ true → b ≡ false
    off true e = cc
    off false e = refl

module _ {passing : Bool} {entries : List Entry} {directory : Directory} {margins : List ℕ} (sound : IsHeap passing entries directory margins) (at : BlockRef) (class : ℕ)
    (wants' : wants (heap_of passing entries) at ≡ true) (is : class_in (use_in (entry_at entries at.slab)) ≡ Some class) (lt : class < 36) where
  -- the block that wants to move stands in a slab of the class that isn't kept
  start : IsFrom passing (use_in (entry_at entries at.slab)) class
  start = from_slab passing (use_in (entry_at entries at.slab)) class (ap (λ o. passing && is_other o) (sym (slab_read passing entries at.slab)) ∙ wants') is

  -- some kept slab has room
  pub room_waits : IsSome (block_in (entry_at entries at.slab) at.slot) → ((n : ℕ) → n < directory.bound → bit_at (labels_at directory n) class ≡ 0) → ⊥
  room_waits live none =
      let s = start in
      let z = none_spare class (map use_in entries)
      (λ n. ap (takes true class) (slab_read true entries n) ∙ subst (λ p. takes p class (use_in (entry_at entries n)) ≡ false) s.open' (none_takes sound class lt none n)) in
      let m = sound.margin s.open' class lt in
      let used = sound.filled at.slab s.slab s.is s.other in
      let w = get_or-le-sum_by (waiting_in class) (map use_in entries) at.slab None (omega (arith, slab_there entries at.slab at.slot live, length-map entries use_in)) in
      let here : waiting_in class (get_or (map use_in entries) at.slab None) ≡ s.slab.used = ap (waiting_in class) (slab_read passing entries at.slab ∙ s.is)
      ∙ waits_all class s.slab s.one_class s.other in
      absurd (omega (arith, z, m, used, w, here))
    where
      waits_all : (c : ℕ) (s : SlabUse) → s.class ≡ c → s.kept ≡ false → waiting_in c (Some s) ≡ s.used
      waits_all c s e k = grind (arith, nat_tests, e, k)

  -- the block can move to the slab at the least number with the label of its class
  pub moving : (n : ℕ) → IsLeastWith directory.bound directory.nodes.items class n → IsMoving passing entries at.slab n class
  moving n first =
      let s = start in let f = first_takes sound class n lt first in let t = taking passing class (use_in (entry_at entries n)) f.1 in
      record {
        open' = s.open';
        from = s.slab;
        from_is = s.is;
        from_class = s.one_class;
        from_other = s.other;
        from_used = sound.filled at.slab s.slab s.is s.other;
        to = t.slab;
        to_is = t.is;
        to_class = t.one_class;
        to_kept = t.kept s.open';
        to_room = t.room;
        lowest = λ m less. subst (λ p. takes p class (use_in (entry_at entries m)) ≡ false) s.open' (f.2 m less);
        apart = λ e. apart_by (s.slab) (t.slab) (sym s.is ∙ (ap (λ i. use_in (entry_at entries i)) e ∙ t.is)) s.other (t.kept s.open');
        there = f.0;
      }
    where
      apart_by : (a b : SlabUse) → Some a ≡ Some b → a.kept ≡ false → b.kept ≡ true → ⊥
      apart_by a b e f k = (let q : a ≡ b = cc in let r : true ≡ false = sym k ∙ (ap (λ x. x.kept) (sym q) ∙ f) in cc)

-- ---- two numbers change

-- these entries stand at two numbers now, and all other numbers have what they had
pub record IsChangedTwice (old new : List Entry) (a b : ℕ) (source target : Entry) : Type 0 where
  pub long : length new ≡ length old
  pub at_a : entry_at new a ≡ source
  pub at_b : entry_at new b ≡ target
  pub others : (m : ℕ) → m ≢ a → m ≢ b → entry_at new m ≡ entry_at old m

-- where one number is written over, then another and then the first again, these two have changed
pub changed_twice : (old : List Entry) (a b : ℕ) (gap source target : Entry) → a ≢ b → a < length old → b < length old
    → IsChangedTwice old (slice_set (slice_set (slice_set old a gap) b target) a source) a b source target
changed_twice old a b gap source target apart a_in b_in =
    let one = slice_set old a gap in let two = slice_set one b target in
    let l1 = length-set old a gap in let l2 = length-set one b target in
    record {
      long = length-set two a source ∙ (l2 ∙ l1);
      at_a = get_or-set_same two a source Vacant (omega (arith, l1, l2, a_in));
      at_b = get_or-set_other two a b source Vacant (λ e. apart (sym e)) ∙ get_or-set_same one b target Vacant (omega (arith, l1, b_in));
      others = λ m not_a not_b. get_or-set_other two a m source Vacant not_a ∙ (get_or-set_other one b m target Vacant not_b ∙ get_or-set_other old a m gap Vacant not_a);
    }

-- the entry that is found after the first is taken out
pub target_stays : (old : List Entry) (a b : ℕ) (gap : Entry) → a ≢ b → entry_at (slice_set old a gap) b ≡ entry_at old b
target_stays old a b gap apart = get_or-set_other old a b gap Vacant (λ e. apart (sym e))

-- for a slab that isn't kept the test of its last block alone tells whether it goes
last_off : (t kept : Bool) (o : Option SlabUse) → kept ≡ false → cond (t && not kept) None o ≡ cond t None o
last_off true kept o k = ap (λ q. cond (not q) None o) k
last_off false kept o k = refl

-- what a return leaves of a slab that isn't kept is the slab with one block fewer, or nothing
fewer_is : (s : SlabUse) → s.kept ≡ false → returned (Some s) ≡ one_fewer s
fewer_is s k = last_off (eqb s.used 1) s.kept _ k

module _ {passing : Bool} {entries : List Entry} {directory : Directory} {margins : List ℕ} (sound : IsHeap passing entries directory margins) (a n class : ℕ)
    (m : IsMoving passing entries a n class) (lt : class < 36) (new : List Entry) (source target : Entry) (two : IsChangedTwice entries new a n source target)
    (left : use_in source ≡ returned (use_in (entry_at entries a))) (more : use_in target ≡ fuller (use_in (entry_at entries n))) where
  -- the slab that the block left has one block fewer, or has gone
  left_is : use_in source ≡ one_fewer m.from
  left_is = left ∙ (ap returned m.from_is ∙ fewer_is m.from m.from_other)

  -- the slab that the block came to has one block more
  more_is : use_in target ≡ Some (one_more_in m.to)
  more_is = more ∙ ap fuller m.to_is

  -- the slabs at all other numbers stay
  slabs_others : (i : ℕ) → i ≢ a → i ≢ n → slab_at (heap_of passing new) i ≡ slab_at (heap_of passing entries) i
  slabs_others i not_a not_n = slab_read passing new i ∙ (ap use_in (two.others i not_a not_n) ∙ sym (slab_read passing entries i))

  -- the slabs changed as by the move of a block from the one number to the other
  pub moved_slabs : (at to' : BlockRef) → at.slab ≡ a → to'.slab ≡ n → Moves (heap_of passing entries) (heap_of passing new) at to'
  moved_slabs at to' e_at e_to = record {
    from = m.from;
    to = m.to;
    from_at = ap (slab_at (heap_of passing entries)) e_at ∙ (slab_read passing entries a ∙ m.from_is);
    to_at = ap (slab_at (heap_of passing entries)) e_to ∙ (slab_read passing entries n ∙ m.to_is);
    one_class = m.to_class ∙ sym m.from_class;
    from_other = m.from_other;
    to_kept = m.to_kept;
    has_room = m.to_room;
    lowest = λ i s less is c k. full s (c ∙ m.from_class) k (ap (takes true class) (sym is ∙ slab_read passing entries i) ∙ m.lowest i (subst (λ j. i < j) e_to less));
    passing = refl;
    left = ap (slab_at (heap_of passing new)) e_at ∙ (slab_read passing new a ∙ (ap use_in two.at_a ∙ left_is));
    entered = ap (slab_at (heap_of passing new)) e_to ∙ (slab_read passing new n ∙ (ap use_in two.at_b ∙ more_is));
    others = λ i not_at not_to. slabs_others i (λ q. not_at (q ∙ sym e_at)) (λ q. not_to (q ∙ sym e_to));
  }
    where
      full : (s : SlabUse) → s.class ≡ class → s.kept ≡ true → takes true class (Some s) ≡ false → per_slab s.class ≤ s.used
      full s c k t = grind (arith, nat_tests, c, k, t)

  -- a slab that remains where the block left isn't kept
  source_entry : (s : SlabUse) → use_in source ≡ Some s → s.kept ≡ false
  source_entry s is = by_last (eqb m.from.used 1) (sym left_is ∙ is)
    where
      by_last : (t : Bool) → cond t None (Some (record { class = m.from.class; used = m.from.used - 1; kept = m.from.kept })) ≡ Some s → s.kept ≡ false
      by_last true e = cc
      by_last false e = (let q : record { class = m.from.class; used = m.from.used - 1; kept = m.from.kept } ≡ s = cc in ap (λ x. x.kept) (sym q) ∙ m.from_other)

  -- a slab that remains where the block left has a block
  source_used : (s : SlabUse) → use_in source ≡ Some s → 0 < s.used
  source_used s is = by_last (cases_eq m.from.used 1)
    where
      by_last : (m.from.used ≡ 1) ⊎ (m.from.used ≢ 1) → 0 < s.used
      by_last (inl last) = absurd
          (let e : one_fewer m.from ≡ None = ap (λ t. cond t None (Some (record { class = m.from.class; used = m.from.used - 1; kept = m.from.kept }))) (eq-eqb m.from.used 1 last) in
          none (sym e ∙ (sym left_is ∙ is)))
        where
          none : None ≡ Some s → ⊥
          none h = cc
      by_last (inr ne) =
          (let u = m.from_used in let e : one_fewer m.from ≡ Some (record { class = m.from.class; used = m.from.used - 1; kept = m.from.kept }) = other_one ne in
          let q : record { class = m.from.class; used = m.from.used - 1; kept = m.from.kept } ≡ s = (let r = sym e ∙ (sym left_is ∙ is) in cc) in
          subst (λ x. 0 < x.used) q (omega (arith, u, ne)))
        where
          other_one : m.from.used ≢ 1 → one_fewer m.from ≡ Some (record { class = m.from.class; used = m.from.used - 1; kept = m.from.kept })
          other_one h = grind (arith, nat_tests, h)

  -- the sums over a class
  waits : (c : ℕ) → waiting_in c (use_in source) + cond (eqb class c) 1 0 ≡ waiting_in c (Some m.from)
  waits c = ap (λ o. waiting_in c o + cond (eqb class c) 1 0) left_is ∙ one (m.from) m.from_class m.from_other m.from_used
    where
      one : (s : SlabUse) → s.class ≡ class → s.kept ≡ false → 0 < s.used → waiting_in c (one_fewer s) + cond (eqb class c) 1 0 ≡ waiting_in c (Some s)
      one s e k u = grind (arith, nat_tests, e, k, u)

  -- the slab that the block came to has one free place fewer of its class, and as many of any other
  spares : (c : ℕ) → spare_in c (use_in target) + cond (eqb class c) 1 0 ≡ spare_in c (Some m.to)
  spares c = ap (λ o. spare_in c o + cond (eqb class c) 1 0) more_is ∙ (elim (cases_eq class c) [
    | inl same ↦ one m.to (m.to_class ∙ same) m.to_kept m.to_room same
    | inr other ↦ none m.to (λ e. other (sym m.to_class ∙ e)) other
  ])
    where
      one : (s : SlabUse) → s.class ≡ c → s.kept ≡ true → s.used < per_slab s.class → class ≡ c → spare_in c (Some (one_more_in s)) + cond (eqb class c) 1 0 ≡ spare_in c (Some s)
      one s e k room same = (let r : s.used < per_slab c = subst (λ i. s.used < per_slab i) e room in grind (arith, nat_tests, e, k, r, same))

      none : (s : SlabUse) → s.class ≢ c → class ≢ c → spare_in c (Some (one_more_in s)) + cond (eqb class c) 1 0 ≡ spare_in c (Some s)
      none s ne other = grind (arith, nat_tests, ne, other)

  -- no block of a kept slab waits
  kept_waits : (c : ℕ) (s : SlabUse) → s.kept ≡ true → waiting_in c (Some s) ≡ 0
  kept_waits c s k = grind (arith, nat_tests, k)

  -- a slab that isn't kept counts no free places
  other_spares : (c : ℕ) (s : SlabUse) → s.kept ≡ false → spare_in c (Some s) ≡ 0
  other_spares c s k = grind (arith, nat_tests, k)

  -- the slab that the block left counts no free places
  source_spares : (c : ℕ) → spare_in c (use_in source) ≡ 0
  source_spares c = ap (spare_in c) left_is ∙ by_last (eqb m.from.used 1)
    where
      by_last : (t : Bool) → spare_in c (cond t None (Some (record { class = m.from.class; used = m.from.used - 1; kept = m.from.kept }))) ≡ 0
      by_last true = refl
      by_last false = other_spares c (record { class = m.from.class; used = m.from.used - 1; kept = m.from.kept }) m.from_other

  -- where the block came to no block waits
  target_waits : (c : ℕ) → waiting_in c (use_in target) ≡ 0
  target_waits c = ap (waiting_in c) more_is ∙ kept_waits c (one_more_in m.to) m.to_kept

  -- a sum over all slabs changes by what its values at these two numbers change
  sums : (f : Option SlabUse → ℕ) → f None ≡ 0 → sum_by f (map use_in new) + f (Some m.from) + f (Some m.to) ≡ sum_by f (map use_in entries) + f (use_in source) + f (use_in target)
  sums f none =
      let there = m.there in let long = two.long in
      let s : sum_by f (map use_in new) + f (slab_at (heap_of passing entries) a) + f (slab_at (heap_of passing entries) n) ≡ sum_by f (map use_in entries) + f
      (slab_at (heap_of passing new) a) + f (slab_at (heap_of passing new) n) =
      sum_two f none (map use_in entries) (map use_in new) a n m.apart (omega (arith, length-map new use_in, long, there)) slabs_others in
      omega (
        arith,
        s,
        ap f (slab_read passing entries a ∙ m.from_is),
        ap f (slab_read passing entries n ∙ m.to_is),
        ap f (slab_read passing new a ∙ ap use_in two.at_a),
        ap f
            (slab_read passing new n ∙ ap use_in two.at_b),
      )

  -- the heap is sound after the move, with the labels of its entries and the same margins
  pub sound_moved : (later : Directory) → later.bound ≡ directory.bound → ((i : ℕ) → i < later.bound → labels_at later i ≡ labels_of passing (entry_at new i)) → IsHeap passing new later margins
  sound_moved later bound labels = record {
    bound = two.long ∙ (sound.bound ∙ sym bound);
    classes = sound.classes;
    labelled = λ i less. (let b = sound.bound in let long = two.long in labels i (omega (arith, less, b, long, bound)));
    marked = λ i s is kept. m.open';
    filled = λ i s is kept. filled i s is kept (cases_eq i a) (cases_eq i n);
    margin = λ open' c less. (let q = sound.margin open' c less in
        omega (arith, sums (waiting_in c) refl, sums (spare_in c) refl, waits c, spares c, kept_waits c m.to m.to_kept, other_spares c m.from m.from_other, source_spares c, target_waits c, q));
  }
    where
      filled : (i : ℕ) (s : SlabUse) → use_in (entry_at new i) ≡ Some s → s.kept ≡ false → (i ≡ a) ⊎ (i ≢ a) → (i ≡ n) ⊎ (i ≢ n) → 0 < s.used
      filled i s is kept (inl at_a) q = source_used s (ap use_in (sym two.at_a ∙ ap (entry_at new) (sym at_a)) ∙ is)
      filled i s is kept (inr not_a) (inl at_n) =
          (let e : Some (one_more_in m.to) ≡ Some s = sym more_is ∙ (ap use_in (sym two.at_b ∙ ap (entry_at new) (sym at_n)) ∙ is) in let r : one_more_in m.to ≡ s = cc in
          subst (λ x. 0 < x.used) r (omega arith))
      filled i s is kept (inr not_a) (inr not_n) = sound.filled i s (ap use_in (sym (two.others i not_a not_n)) ∙ is) kept

-- ---- the blocks

-- the block's bytes stand under the new reference and no longer under the old one, and all others stay
pub moved_blocks : (old new : List Entry) (at to : BlockRef) (source target : Entry) → at.slab ≢ to.slab → IsChangedTwice old new at.slab to.slab source target
    → ((slot : ℕ) → block_in source slot ≡ with_slot (block_in (entry_at old at.slab)) at.slot None slot)
    → ((slot : ℕ) → block_in target slot ≡ with_slot (block_in (entry_at old to.slab)) to.slot (blocks_of old at) slot)
    → blocks_of new ≡ with_block (with_block (blocks_of old) at None) to (blocks_of old at)
moved_blocks old new at to source target apart two ended entered = λ i r. one r (cases_eq r.slab at.slab) (cases_eq r.slab to.slab) i
  where
    refs_apart : (r p : BlockRef) → r.slab ≢ p.slab → ref_eq r p ≡ false
    refs_apart r p ne = grind (arith, nat_tests, ne)

    refs_here : (r p : BlockRef) → r.slab ≡ p.slab → ref_eq r p ≡ eqb r.slot p.slot
    refs_here r p e = ap (λ t. t && eqb r.slot p.slot) (eq-eqb r.slab p.slab e)

    one : (r : BlockRef) → (r.slab ≡ at.slab) ⊎ (r.slab ≢ at.slab) → (r.slab ≡ to.slab) ⊎ (r.slab ≢ to.slab) → blocks_of new r ≡ with_block (with_block (blocks_of old) at None) to (blocks_of old at) r
    one r (inl here) q =
        let not_to = refs_apart r to (λ e. apart (sym here ∙ e)) in
        ap (λ n. block_in (entry_at new n) r.slot) here ∙
        (ap (λ x. block_in x r.slot) two.at_a ∙ (ended r.slot ∙ (ap (λ n. cond (eqb r.slot at.slot) None (block_in (entry_at old n) r.slot)) (sym here)
        ∙ (ap (λ t. cond t None (blocks_of old r)) (sym (refs_here r at here)) ∙ sym (ap (λ t. cond t (blocks_of old at) (with_block (blocks_of old) at None r)) not_to)))))
    one r (inr not_at) (inl here) =
        let off = refs_apart r at not_at in
        ap (λ n. block_in (entry_at new n) r.slot) here ∙
        (ap (λ x. block_in x r.slot) two.at_b ∙ (entered r.slot ∙ (ap (λ n. cond (eqb r.slot to.slot) (blocks_of old at) (block_in (entry_at old n) r.slot)) (sym here)
        ∙ (ap (λ t. cond t (blocks_of old at) (blocks_of old r)) (sym (refs_here r to here)) ∙ ap (λ o. cond (ref_eq r to) (blocks_of old at) o) (sym (ap (λ t. cond t None (blocks_of old r)) off))))))
    one r (inr not_at) (inr not_to) =
        let off = refs_apart r at not_at in let off' = refs_apart r to not_to in
        ap (λ x. block_in x r.slot) (two.others r.slab not_at not_to)
        ∙ (sym (ap (λ t. cond t None (blocks_of old r)) off) ∙ sym (ap (λ t. cond t (blocks_of old at) (with_block (blocks_of old) at None r)) off'))

-- both numbers get the labels of what stands there
pub labels_moved : {passing : Bool} {entries : List Entry} {directory : Directory} {margins : List ℕ} (sound : IsHeap passing entries directory margins) (a n : ℕ) (new : List Entry)
    (source target : Entry) (first later : Directory) (one two : ℕ) → IsChangedTwice entries new a n source target → a ≢ n → first.bound ≡ directory.bound → later.bound ≡ first.bound
    → one ≡ labels_of passing target → two ≡ labels_of passing source
    → ((i : ℕ) → i < first.bound → labels_at first i ≡ cond (eqb i n) one (labels_at directory i))
    → ((i : ℕ) → i < later.bound → labels_at later i ≡ cond (eqb i a) two (labels_at first i)) → (i : ℕ) → i < later.bound → labels_at later i ≡ labels_of passing (entry_at new i)
labels_moved {passing = passing} {entries = entries} {directory = directory} sound a n new source target first later one two changed apart b1 b2 is_one is_two set_one set_two i lt =
    set_two i lt ∙ (elim (cases_eq i a) [
      | inl at_a ↦ cond-true (eqb i a) _ _ (eq-eqb i a at_a) ∙ (is_two ∙ ap (labels_of passing) (sym changed.at_a ∙ ap (entry_at new) (sym at_a)))
      | inr not_a ↦ other i a _ _ not_a ∙ (set_one i (omega (arith, lt, b2)) ∙ (elim (cases_eq i n) [
        | inl at_n ↦ cond-true (eqb i n) _ _ (eq-eqb i n at_n) ∙ (is_one ∙ ap (labels_of passing) (sym changed.at_b ∙ ap (entry_at new) (sym at_n)))
        | inr not_n ↦ other i n _ _ not_n ∙ ((let b = sound.bound in sound.labelled i (omega (arith, lt, b1, b2, b))) ∙ ap (labels_of passing) (sym (changed.others i not_a not_n)))
      ]))
    ])
  where
    other : (x y p q : ℕ) → x ≢ y → cond (eqb x y) p q ≡ q
    other x y p q ne = grind (arith, nat_tests, ne)
