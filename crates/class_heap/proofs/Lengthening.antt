-- A block that stands alone is lengthened in its memory. By the rule that is a placing, a write and a return.
use Rattle.std.specs.Prelude.{◌≡◌, ◌≢◌, ℕ, ◌+◌, ◌-◌, ◌^◌, ◌<◌, ◌≤◌, Bool, true, false, List, [], ◌++◌, length, take, replicate, slice_set, slice_index_or, Some, None, IsSome, unwrap_or}
use Rattle.std.specs.Prelude.{Result, IfOk, OnErr, refl, ◌⊎◌}
use Rattle.std.specs.declared.result.Result.TheVariants.{Ok, Err}
use Rattle.std.proofs.Common.{arith, cond, eqb, ap, ◌∙◌, sym, subst, inl, inr, length-set, get_or-set_same, get_or-set_other}
use Rattle.std.proofs.lemmas.Grind.{common_steps}
use Rattle.std.proofs.lemmas.Bool.{cases_eq, eqb-true, eq-eqb}
use Rattle.std.proofs.lemmas.List.{with_items_is, length-replicate}
use Rattle.std.specs.Global.{Vec}
use Rattle.std.specs.Vec.{with_item, with_items}
use Rattle.blocks.specs.declared.BlockRef.{BlockRef}
use Rattle.blocks.specs.Blocks.{with_block, overwritten, widened, bytes_at, Served, no_step, one_more}
use Rattle.blocks.specs.Slabs.{slab_at, wants, waiting_in, spare_in}
use Rattle.blocks.proofs.Copies.{placed_over, bytes_beside, lengthened_by}
use Rattle.blocks.proofs.Refs.{with_block_same}
use Rattle.blocks.proofs.Written.{bytes_at_placed}
use Rattle.class_heap.specs.declared.entry.Entry.{Entry}
use Rattle.class_heap.specs.declared.entry.Entry.TheVariants.{Vacant, Large, Classed}
use Rattle.class_heap.specs.declared.directory.Directory.{Directory}
use Rattle.class_heap.specs.declared.heap.ClassHeap.{ClassHeap}
use Rattle.class_heap.specs.Directory.{labels_at}
use Rattle.class_heap.specs.Slab.{with_slot}
use Rattle.class_heap.specs.Entries.{use_in, block_in, entry_at, blocks_of, heap_of, class_in, IsHeap, IsLeastVacant, HasRoom, IsLarge}
use Rattle.class_heap.specs.Heap.{heap_blocks, heap_slabs, IsClassHeapStep, Lengthens}
use Rattle.class_heap.specs.Placing.{returned, IsPlacing, IsWrite, IsReturn, stays, places, returns, writes}
use Rattle.class_heap.specs.Laws.{slab_read, slab_there}
use Rattle.class_heap.proofs.Heaps.{SameEntries, IsChange, blocks_changed, others_stay, changed_here, sound_changed}
use Rattle.class_heap.proofs.Placings.{change_set, placing, goes_alone, large_slots, sound_alone, calm_placed}
use Rattle.class_heap.proofs.Returns.{slabs_written, calm_returned}

-- what a vector holds that was filled up with zeros to a length
pub filled_up : (v : Vec ℕ) (len : ℕ) (was after : List ℕ) (ok : Bool) → was ≡ v.items → length was ≤ len → ok ≡ true
    → after ≡ cond ok (take len v.items ++ replicate (len - v.len) 0) v.items → after ≡ widened was len
filled_up v len was after ok same room filled is =
    is
    ∙ ap (λ t. cond t (take len v.items ++ replicate (len - v.len) 0) v.items) filled
    ∙ ap (λ n. take len v.items ++ replicate (len - n) 0) v.ok.0
    ∙ ap (λ xs. xs ++ replicate (len - length v.items) 0)
    (let short : length v.items ≤ len = subst (λ xs. length xs ≤ len) same room in let e : take len v.items ≡ v.items = grind (arith, common_steps, short) in e)
    ∙ ap (λ xs. widened xs len) (sym same)

-- ---- in its memory

-- where a live block stands that is in no slab
pub record IsAlone (e : Entry) (slot : ℕ) : Type 0 where
  pub block : Vec ℕ
  pub is : e ≡ Large block
  pub first : slot ≡ 0

-- a live block in no slab stands alone
pub alone_of : (e : Entry) (slot : ℕ) → IsSome (block_in e slot) → class_in (use_in e) ≡ None → IsAlone e slot
alone_of Vacant slot live none = cc
alone_of (Large block) slot live none = record { block = block; is = refl; first = by_zero (eqb slot 0) refl live }
  where
    by_zero : (t : Bool) → t ≡ eqb slot 0 → IsSome (cond t (Some block.items) None) → slot ≡ 0
    by_zero true e h = eqb-true slot 0 (sym e)
    by_zero false e h = cc
alone_of (Classed slab) slot live none = cc

-- and so does one that has room
pub alone_reserved : (e : Entry) (slot len : ℕ) → IsSome (block_in e slot) → HasRoom len e → IsAlone e slot
alone_reserved Vacant slot len live room = absurd room
alone_reserved (Large block) slot len live room = alone_of (Large block) slot live refl
alone_reserved (Classed slab) slot len live room = absurd room

-- a heap stays sound where a large block leaves its number
pub sound_left : {passing : Bool} {old : List Entry} {directory : Directory} {margins : List ℕ} (sound : IsHeap passing old directory margins) (new : List Entry) (n : ℕ) (block : Vec ℕ)
    (later : Directory) → length new ≡ length old → IsChange old new n Vacant → entry_at old n ≡ Large block → later.bound ≡ directory.bound
    → ((m : ℕ) → m < later.bound → labels_at later m ≡ cond (eqb m n) (2 ^ 36) (labels_at directory m)) → IsHeap passing new later margins
sound_left {margins = margins} sound new n block later long change large bound labels =
    sound_changed sound new later margins n Vacant long change bound labels (record { marked = λ s at kept. cc; filled = λ s at kept. cc }) sound.classes
    (λ open' class within. ap (λ x. waiting_in class None + spare_in class (use_in x) + slice_index_or margins class 0) large
    ∙ sym (ap (λ x. waiting_in class (use_in x) + spare_in class None + slice_index_or margins class 0) large))

-- A large block is about to go from its number to the least one with nothing, n, and has been lengthened. The labels of n are
-- those of a large block already.
pub record IsLeaving (first mid : ClassHeap) (at : BlockRef) (n len : ℕ) (put : Entry) (early : Directory) : Type 0 where
  pub from : Vec ℕ
  pub grown : Vec ℕ
  pub passing : mid.passing ≡ first.passing
  pub same : SameEntries first.entries.items mid.entries.items
  pub vacant : IsLeastVacant mid.entries.items n
  pub is : entry_at first.entries.items at.slab ≡ Large from
  pub slot : at.slot ≡ 0
  pub room : length from.items ≤ len
  pub large : 14336 < len
  pub full : put ≡ Large grown
  pub wide : grown.items ≡ widened from.items len
  pub bound : early.bound ≡ mid.directory.bound
  pub labels : (m : ℕ) → m < early.bound → labels_at early m ≡ cond (eqb m n) 0 (labels_at mid.directory m)

-- this is so where a block that had room was taken from its number and lengthened
pub leaving : (first mid : ClassHeap) (at : BlockRef) (n len : ℕ) (taken put : Entry) (early : Directory)
    → IsSome (heap_blocks first at) → HasRoom len (entry_at first.entries.items at.slab) → length (bytes_at (heap_blocks first) at) ≤ len → 14336 < len
    → mid.passing ≡ first.passing → SameEntries first.entries.items mid.entries.items → IsLeastVacant mid.entries.items n → taken ≡ entry_at mid.entries.items at.slab
    → IsLarge (widened (unwrap_or (block_in taken 0) []) len) put
    → early.bound ≡ mid.directory.bound → ((m : ℕ) → m < early.bound → labels_at early m ≡ cond (eqb m n) 0 (labels_at mid.directory m)) → IsLeaving first mid at n len put early
leaving first mid at n len taken put early live has longer large passing same vacant took long bound labels =
    let alone = alone_reserved (entry_at first.entries.items at.slab) at.slot len live has in
    let were : bytes_at (heap_blocks first) at ≡ alone.block.items = ap (λ e. unwrap_or (block_in e at.slot) []) alone.is
    ∙ ap (λ t. unwrap_or (cond t (Some alone.block.items) None) []) (eq-eqb at.slot 0 alone.first) in
    record {
      from = alone.block;
      grown = long.block;
      passing = passing;
      same = same;
      vacant = vacant;
      is = alone.is;
      slot = alone.first;
      room = omega (arith, ap length were, longer);
      large = large;
      full = long.is;
      wide = long.holds ∙ ap (λ e. widened (unwrap_or (block_in e 0) []) len) (took ∙ (same at.slab ∙ alone.is));
      bound = bound;
      labels = labels;
    }

module _ {first mid : ClassHeap} {at : BlockRef} {n len : ℕ} {put : Entry} {early : Directory} (h : IsLeaving first mid at n len put early) where
  -- the entries
  abbrev pub old : List Entry
  old = mid.entries.items

  -- the name of the longer block
  abbrev pub longer : BlockRef
  longer = record { slab = n; slot = 0 }

  -- the block stands at its number still
  is_mid : entry_at old at.slab ≡ Large h.from
  is_mid = h.same at.slab ∙ h.is

  -- which is another than the free one
  apart : at.slab ≢ n
  apart e = absurd (let q : Large h.from ≡ Vacant = sym is_mid ∙ (ap (entry_at old) e ∙ h.vacant.vacant) in cc)

  -- the block is no longer than was asked
  short : length h.from.items ≤ len
  short = h.room

  -- as many zeros as the longer block has bytes
  zeros : Vec ℕ
  zeros = with_items h.grown (replicate len 0)

  -- the longer block is as long as was asked
  long : length h.grown.items ≡ len
  long = ap length h.wide ∙ (let e : length (widened h.from.items len) ≡ len = grind (arith, common_steps, short) in e)

  -- and they are zeros
  are_zeros : zeros.items ≡ replicate len 0
  unfolding zeros
  are_zeros = with_items_is h.grown (replicate len 0) (length-replicate len 0 ∙ (sym long ∙ sym h.grown.ok.0))

  -- the heap with another block of so many zeros
  placed : ClassHeap
  placed = record {
    alloc = mid.alloc;
    passing = mid.passing;
    entries = with_item mid.entries n (Large zeros);
    directory = early;
    margins = mid.margins;
    leftovers = mid.leftovers;
    sound =
        sound_alone mid.sound n zeros early h.vacant.within h.vacant.vacant h.bound h.labels;
  }

  -- the heap with the bytes in it
  written : ClassHeap
  written = record {
    alloc = mid.alloc;
    passing = mid.passing;
    entries = with_item mid.entries n (Large h.grown);
    directory = early;
    margins = mid.margins;
    leftovers = mid.leftovers;
    sound =
        sound_alone mid.sound n h.grown early h.vacant.within h.vacant.vacant h.bound h.labels;
  }

  -- an entry put at the free number
  change : (e : Entry) → IsChange old (slice_set old n e) n e
  change e = change_set old n e h.vacant.within

  -- the bytes that the block had
  bytes_were : bytes_at (heap_blocks first) at ≡ h.from.items
  bytes_were = ap (λ e. unwrap_or (block_in e at.slot) []) h.is ∙ ap (λ t. unwrap_or (cond t (Some h.from.items) None) []) (eq-eqb at.slot 0 h.slot)

  -- the longer block was placed by the rule
  places_longer : IsPlacing (heap_blocks first) (heap_slabs first) (heap_blocks placed) (heap_slabs placed) len longer
  unfolding placed zeros
  places_longer =
      placing first.entries.items old (slice_set old n (Large zeros)) (Large zeros) longer len h.passing h.same (change (Large zeros)) (ap (λ x. block_in x 0) h.vacant.vacant)
      (λ s. ap (λ b. cond (eqb s 0) (Some b) None) are_zeros ∙ large_slots (replicate len 0) (entry_at old n) s h.vacant.vacant)
      (goes_alone first.entries.items old (slice_set old n (Large zeros)) (Large zeros) len n h.large h.same h.vacant (change (Large zeros)) refl)

  -- with a large block at the free number
  blocks_with : (block : Vec ℕ) → blocks_of (slice_set old n (Large block)) ≡ with_block (blocks_of old) longer (Some block.items)
  blocks_with block = blocks_changed old (slice_set old n (Large block)) (Large block) longer (Some block.items) (change (Large block))
      (λ s. large_slots block.items (entry_at old n) s h.vacant.vacant)

  -- which is no slab
  slabs_with : (block : Vec ℕ) → heap_of mid.passing (slice_set old n (Large block)) ≡ heap_of mid.passing old
  slabs_with block = slabs_written mid.passing old n (Large block) (sym (ap use_in h.vacant.vacant))

  -- it has zeros
  zeros_at : bytes_at (heap_blocks placed) longer ≡ replicate len 0
  unfolding placed zeros
  zeros_at = ap (λ k. bytes_at k longer) (blocks_with zeros) ∙ (bytes_at_placed (blocks_of old) longer zeros.items ∙ are_zeros)

  -- the bytes were written over them
  writes_bytes : IsWrite (heap_blocks placed) (heap_slabs placed) (heap_blocks written) (heap_slabs written) longer 0 (bytes_at (heap_blocks first) at)
  unfolding placed written zeros
  writes_bytes = record {
    was = subst (λ o. IsSome o) (sym (ap (λ k. k longer) (blocks_with zeros) ∙ with_block_same (blocks_of old) longer (Some zeros.items))) refl;
    room = omega (arith, ap length bytes_were, ap length zeros_at, length-replicate {A = ℕ} len 0, short);
    written =
        blocks_with h.grown
        ∙ ap (λ xs. with_block (blocks_of old) longer (Some xs)) h.wide
        ∙ sym
        (placed_over (blocks_of old) (heap_blocks placed)
        (with_block (heap_blocks placed) longer (Some (overwritten (bytes_at (heap_blocks placed) longer) 0 (bytes_at (heap_blocks first) at)))) longer len
        (bytes_at (heap_blocks first) at) h.from.items
        (blocks_with zeros ∙ ap (λ xs. with_block (blocks_of old) longer (Some xs)) are_zeros) refl bytes_were short);
    slabs = slabs_with h.grown ∙ sym (slabs_with zeros);
  }

  -- the old block's number before it ends
  stands : entry_at (slice_set old n (Large h.grown)) at.slab ≡ Large h.from
  stands = (change (Large h.grown)).others at.slab apart ∙ is_mid

  -- the old number is one of the list's
  there : at.slab < length old
  there = slab_there old at.slab 0 (subst (λ e. IsSome (block_in e 0)) (sym is_mid) refl)

  -- nothing stands at the old number when the block has gone to the other
  gone_by : (gap : Entry) → gap ≡ Vacant → IsChange (slice_set old n (Large h.grown)) (slice_set (slice_set old at.slab gap) n put) at.slab Vacant
  gone_by gap empty = record {
    here = get_or-set_other (slice_set old at.slab gap) n at.slab put Vacant apart
        ∙ (get_or-set_same old at.slab gap Vacant there ∙ empty);
    others = λ m ne. by_number m ne (cases_eq m n);
  }
    where
      lt : n < length (slice_set old at.slab gap)
      lt = (let w = h.vacant.within in omega (arith, length-set old at.slab gap, w))

      by_number : (m : ℕ) → m ≢ at.slab → (m ≡ n) ⊎ (m ≢ n) → entry_at (slice_set (slice_set old at.slab gap) n put) m ≡ entry_at (slice_set old n (Large h.grown)) m
      by_number m ne (inl here) = ap (entry_at (slice_set (slice_set old at.slab gap) n put)) here
          ∙ (get_or-set_same (slice_set old at.slab gap) n put Vacant lt ∙ (h.full ∙ (sym ((change (Large h.grown)).here) ∙ ap (entry_at (slice_set old n (Large h.grown))) (sym here))))
      by_number m ne (inr other) = get_or-set_other (slice_set old at.slab gap) n m put Vacant other ∙ (get_or-set_other old at.slab m gap Vacant ne ∙ sym ((change (Large h.grown)).others m other))

  module _ (last : ClassHeap) (open' : last.passing ≡ mid.passing) (gone : IsChange (slice_set old n (Large h.grown)) last.entries.items at.slab Vacant) where
    -- the old block was given back
    returns_old : IsReturn (heap_blocks written) (heap_slabs written) (heap_blocks last) (heap_slabs last) at
    unfolding written
    returns_old = record {
      was = subst (λ o. IsSome o) (sym (ap (λ e. block_in e at.slot) stands ∙ ap (λ t. cond t (Some h.from.items) None) (eq-eqb at.slot 0 h.slot))) refl;
      ended = blocks_changed (slice_set old n (Large h.grown)) last.entries.items Vacant at None gone (λ s. sym (ap (λ e. with_slot (block_in e) at.slot None s) stands ∙ none_left s));
      passing = open';
      left = changed_here last.passing (slice_set old n (Large h.grown)) last.entries.items at.slab Vacant gone
          ∙ sym (ap returned (slab_read mid.passing (slice_set old n (Large h.grown)) at.slab ∙ ap use_in stands));
      others = λ m ne. ap (λ p. slab_at (heap_of p last.entries.items) m) open' ∙ others_stay mid.passing (slice_set old n (Large h.grown)) last.entries.items at.slab Vacant gone m ne;
    }
      where
        none_left : (s : ℕ) → with_slot (block_in (Large h.from)) at.slot None s ≡ None
        none_left s = ap (λ k. cond (eqb s k) None (cond (eqb s 0) (Some h.from.items) None)) h.slot ∙ by_test (eqb s 0)
          where
            by_test : (t : Bool) → cond t None (cond t (Some h.from.items) None) ≡ None
            by_test true = refl
            by_test false = refl

    -- so the block was lengthened by the rule
    lengthens_alone : Lengthens first last at len longer
    lengthens_alone = record { placed = placed; written = written; places = places_longer; writes = writes_bytes; returns = returns_old }

  -- when it has gone, the heap is sound
  pub leaving_sound : (gap : Entry) (late : Directory) → gap ≡ Vacant → late.bound ≡ early.bound
      → ((m : ℕ) → m < late.bound → labels_at late m ≡ cond (eqb m at.slab) (2 ^ 36) (labels_at early m))
      → IsHeap mid.passing (slice_set (slice_set old at.slab gap) n put) late mid.margins
  unfolding written
  leaving_sound gap late empty bound labels =
      sound_left written.sound (slice_set (slice_set old at.slab gap) n put) at.slab h.from late
      (length-set (slice_set old at.slab gap) n put ∙ (length-set old at.slab gap ∙ sym (length-set old n (Large h.grown)))) (gone_by gap empty) stands bound labels

  -- and the block was lengthened by the rule
  pub leaving_lengthens : (last : ClassHeap) (gap : Entry) → gap ≡ Vacant → last.passing ≡ mid.passing → last.entries.items ≡ slice_set (slice_set old at.slab gap) n put
      → Lengthens first last at len longer
  leaving_lengthens last gap empty open' stood = lengthens_alone last open' (subst (λ xs. IsChange (slice_set old n (Large h.grown)) xs at.slab Vacant) (sym stood) (gone_by gap empty))

-- ---- what a block has that was lengthened by the rule

module _ {first last : ClassHeap} {at new : BlockRef} {len : ℕ} (l : Lengthens first last at len new) where
  pub lengthened_served : Served IsClassHeapStep first last
  lengthened_served = one_more l.written last
      (one_more l.placed l.written (one_more first l.placed no_step (places len new l.places)) (writes new 0 (bytes_at (heap_blocks first) at) l.writes)) (returns at l.returns)

  pub lengthened_calm : wants (heap_slabs last) new ≡ false
  lengthened_calm = calm_returned l.returns new (ap (λ h. wants h new) l.writes.slabs ∙ calm_placed l.places)

  pub lengthened_passing : last.passing ≡ first.passing
  lengthened_passing = l.returns.passing ∙ (ap (λ h. h.passing) l.writes.slabs ∙ l.places.passing)

  pub lengthened_blocks : IsSome (heap_blocks first at) → length (bytes_at (heap_blocks first) at) ≤ len
      → heap_blocks last ≡ with_block (with_block (heap_blocks first) at None) new (Some (widened (bytes_at (heap_blocks first) at) len))
  lengthened_blocks live room =
      lengthened_by (heap_blocks first) (heap_blocks l.placed) (heap_blocks l.written) (heap_blocks last) at new len live l.places.fresh room l.places.placed
      (l.writes.written ∙ ap (λ xs. with_block (heap_blocks l.placed) new (Some (overwritten (bytes_at (heap_blocks l.placed) new) 0 xs)))
      (sym (bytes_beside (heap_blocks first) (heap_blocks l.placed) at new _ live l.places.fresh l.places.placed)))
      l.returns.ended

-- ---- the same of an answer that may be want of memory

pub ok_blocks : {E : Type 0} (first last : ClassHeap) (at : BlockRef) (len : ℕ) (r : Result BlockRef E) → IfOk r (Lengthens first last at len) → IsSome (heap_blocks first at)
    → length (bytes_at (heap_blocks first) at) ≤ len → IfOk r
    (λ new. heap_blocks last ≡ with_block (with_block (heap_blocks first) at None) new (Some (widened (bytes_at (heap_blocks first) at) len)))
ok_blocks first last at len (Ok new) l live room = lengthened_blocks l live room
ok_blocks first last at len (Err e) l live room = l

pub ok_calm_in_lengthening : {E : Type 0} (first last : ClassHeap) (at : BlockRef) (len : ℕ) (r : Result BlockRef E) → IfOk r (Lengthens first last at len)
    → IfOk r (λ new. wants (heap_slabs last) new ≡ false)
ok_calm_in_lengthening first last at len (Ok new) l = lengthened_calm l
ok_calm_in_lengthening first last at len (Err e) l = l

pub ok_served : {E : Type 0} (first last : ClassHeap) (at : BlockRef) (len : ℕ) (r : Result BlockRef E) → IfOk r (Lengthens first last at len)
    → OnErr r (heap_blocks last ≡ heap_blocks first) → OnErr r (heap_slabs last ≡ heap_slabs first) → Served IsClassHeapStep first last
ok_served first last at len (Ok new) l blocks slabs = lengthened_served l
ok_served first last at len (Err e) l blocks slabs = one_more first last no_step (stays blocks slabs)

-- what changes no block and no slab may come before
pub lengthens_from : {E : Type 0} (first mid last : ClassHeap) (at : BlockRef) (len : ℕ) (r : Result BlockRef E) → heap_blocks mid ≡ heap_blocks first → heap_slabs mid ≡ heap_slabs first
    → IfOk r (Lengthens mid last at len) → IfOk r (Lengthens first last at len)
lengthens_from first mid last at len (Ok new) blocks slabs l = record {
  placed = l.placed;
  written = l.written;
  places = subst (λ b. IsPlacing b (heap_slabs first) (heap_blocks l.placed) (heap_slabs l.placed) len new) blocks
      (subst (λ s. IsPlacing (heap_blocks mid) s (heap_blocks l.placed) (heap_slabs l.placed) len new) slabs l.places);
  writes = subst (λ b. IsWrite (heap_blocks l.placed) (heap_slabs l.placed) (heap_blocks l.written) (heap_slabs l.written) new 0 (bytes_at b at)) blocks l.writes;
  returns = l.returns;
}
lengthens_from first mid last at len (Err e) blocks slabs l = l
