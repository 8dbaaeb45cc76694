-- A class heap's blocks and slabs by number, and what one changed number leaves.
use Rattle.std.specs.Prelude.{◌≡◌, ◌≢◌, ℕ, zero, suc, ◌+◌, ◌^◌, ◌<◌, ◌≤◌, Bool, true, false, ◌&&◌, ◌||◌, not, nat_lt, List, [], ◌∷◌, length, map, sum_by, Option, Some, None, IfSome}
use Rattle.std.specs.Prelude.{IfNone, MatchBool, is_some, refl, ◌⊎◌, slice_index_or}
use Rattle.std.proofs.Common.{arith, cond, eqb, ap, ◌∙◌, sym, inl, inr, get_or}
use Rattle.std.proofs.lemmas.Grind.{common_steps}
use Rattle.std.proofs.lemmas.Bool.{cases_eq, cases_lt, and_parts, and_from, eqb-true, eq-eqb, cond-true}
use borrow.Author.Tests.{ltb-true}
use Rattle.std.proofs.lemmas.Nat.Bits.{bit_at-pow_same, bit_at-pow_other, bit_at-zero}
use Rattle.std.specs.Int.{bit_at}
use Rattle.std.proofs.lemmas.List.Sums.{sum_by-cons}
use Rattle.blocks.specs.declared.BlockRef.{BlockRef}
use Rattle.blocks.specs.Blocks.{with_block}
use Rattle.blocks.specs.Slabs.{SlabUse, slab_at, per_slab, is_other, wants, IsWaiting, waiting_in, spare_in, waiting_of, spare_of}
use Rattle.blocks.proofs.Sums.{sum_same, sum_changed}
use Rattle.blocks.proofs.Sweeps.{inhabited}
use Rattle.class_heap.specs.declared.entry.Entry.{Entry}
use Rattle.class_heap.specs.declared.entry.Entry.TheVariants.{Vacant, Large, Classed}
use Rattle.class_heap.specs.declared.directory.Directory.{Directory}
use Rattle.class_heap.specs.Directory.{labels_at}
use Rattle.class_heap.specs.Slab.{use_of, has_room, with_slot}
use Rattle.class_heap.specs.Tree.{IsLeastWith}
use Rattle.class_heap.specs.Entries.{use_in, block_in, labels_of, entry_at, blocks_of, heap_of, IsHeap, IsLeastVacant}
use Rattle.class_heap.specs.Laws.{slab_read, heap_sound}
use Rattle.class_heap.specs.Placing.{takes}

-- ---- the same entries, in a list that may be longer

-- each number has the same entry in both lists, and a number beyond the end of one has nothing
abbrev pub SameEntries : List Entry → List Entry → Type 0
SameEntries old new = (n : ℕ) → entry_at new n ≡ entry_at old n

-- lists with the same entries have the same blocks
pub blocks_same : (old new : List Entry) → SameEntries old new → blocks_of new ≡ blocks_of old
blocks_same old new same = λ i r. block_in (same r.slab i) r.slot

-- lists with the same entries have the same slab at each number
pub slab_same : (passing : Bool) (old new : List Entry) → SameEntries old new → (n : ℕ) → slab_at (heap_of passing new) n ≡ slab_at (heap_of passing old) n
slab_same passing old new same n = slab_read passing new n ∙ (ap use_in (same n) ∙ sym (slab_read passing old n))

-- lists with the same entries have as many waiting blocks of each class
pub waiting_same : (passing : Bool) (old new : List Entry) → SameEntries old new → (class : ℕ) → waiting_of (heap_of passing new) class ≡ waiting_of (heap_of passing old) class
waiting_same passing old new same class = sum_same (waiting_in class) refl (map use_in old) (map use_in new) (slab_same passing old new same)

-- lists with the same entries have as many free places in the kept slabs of each class
pub spare_same : (passing : Bool) (old new : List Entry) → SameEntries old new → (class : ℕ) → spare_of (heap_of passing new) class ≡ spare_of (heap_of passing old) class
spare_same passing old new same class = sum_same (spare_in class) refl (map use_in old) (map use_in new) (slab_same passing old new same)

-- ---- labels

-- 1 where the test holds, else 0
abbrev one_if : Bool → ℕ
one_if b = cond b 1 0

-- a slab has the label of its class where it takes blocks
by_room : (b w : Bool) (class label : ℕ) → label ≢ 37 → bit_at (cond b (2 ^ class) (cond w (2 ^ 37) 0)) label ≡ one_if (eqb class label && b)
by_room false true class label low = bit_at-pow_other 37 label low ∙ by_eq (eqb class label)
  where
    by_eq : (t : Bool) → 0 ≡ one_if (t && false)
    by_eq true = refl
    by_eq false = refl
by_room false false class label low = bit_at-zero label ∙ by_eq (eqb class label)
  where
    by_eq : (t : Bool) → 0 ≡ one_if (t && false)
    by_eq true = refl
    by_eq false = refl
by_room true w class label low = elim (cases_eq class label) [
  | inl same ↦ ap (bit_at (2 ^ class)) (sym same) ∙ (bit_at-pow_same class ∙ sym (ap (λ t. one_if (t && true)) (eq-eqb class label same)))
  | inr other ↦ bit_at-pow_other class label (λ e. other (sym e)) ∙ sym (grind (arith, common_steps, other))
]

-- a number has the label of a class where its slab takes blocks of that class
pub labels_take : (passing : Bool) (e : Entry) (class : ℕ) → class < 36 → bit_at (labels_of passing e) class ≡ one_if (takes passing class (use_in e))
labels_take passing Vacant class lt = bit_at-pow_other 36 class (λ e. absurd (omega (arith, e, lt)))
labels_take passing (Large bytes) class lt = bit_at-zero class
labels_take passing (Classed slab) class lt = by_room (has_room passing (use_of slab)) _ slab.class class (λ e. omega (arith, e, lt))

-- and that of a vacant one where nothing stands there
pub vacant_labels : (passing : Bool) (e : Entry) → bit_at (labels_of passing e) 36 ≡ 1 → e ≡ Vacant
vacant_labels passing Vacant h = refl
vacant_labels passing (Large bytes) h = absurd (omega (arith, h, bit_at-zero 36))
vacant_labels passing (Classed slab) h = absurd
    (let b = by_room (has_room passing (use_of slab)) _ slab.class 36 (λ e. omega arith) in let lt = slab.sound.classed in
    none (has_room passing (use_of slab)) (eqb slab.class 36) (grind (arith, common_steps, lt)) (sym b ∙ h))
  where
    none : (b t : Bool) → t ≡ false → one_if (t && b) ≡ 1 → ⊥
    none b t e k = absurd (omega (arith, sym (ap (λ x. one_if (x && b)) e) ∙ k))

-- a number with nothing has the label of a vacant one
pub labels_vacant : (passing : Bool) (e : Entry) → e ≡ Vacant → bit_at (labels_of passing e) 36 ≡ 1
labels_vacant passing e is = ap (λ x. bit_at (labels_of passing x) 36) is ∙ bit_at-pow_same 36

-- a slab has label 37 exactly where a pass is open and it isn't kept, whether or not it has room
by_wait : (p k r : Bool) (class : ℕ) → class < 36 → bit_at (cond (r && (not p || k)) (2 ^ class) (cond (p && not k) (2 ^ 37) 0)) 37 ≡ one_if (p && not k)
by_wait true false true class lt = bit_at-pow_same 37
by_wait true false false class lt = bit_at-pow_same 37
by_wait true true true class lt = bit_at-pow_other class 37 (λ e. omega (arith, e, lt))
by_wait true true false class lt = bit_at-zero 37
by_wait false k true class lt = bit_at-pow_other class 37 (λ e. omega (arith, e, lt))
by_wait false k false class lt = bit_at-zero 37

-- and that of those whose blocks want to move where a pass is open and its slab isn't kept
pub labels_wait : (passing : Bool) (e : Entry) → bit_at (labels_of passing e) 37 ≡ one_if (passing && is_other (use_in e))
labels_wait true Vacant = bit_at-pow_other 36 37 (λ e. omega (arith, e))
labels_wait false Vacant = bit_at-pow_other 36 37 (λ e. omega (arith, e))
labels_wait true (Large bytes) = bit_at-zero 37
labels_wait false (Large bytes) = bit_at-zero 37
labels_wait passing (Classed slab) = by_wait passing slab.kept (nat_lt slab.used (per_slab slab.class)) slab.class slab.sound.classed

-- what a slab that takes blocks of a class is
pub record IsTaking (passing : Bool) (class : ℕ) (o : Option SlabUse) : Type 0 where
  pub slab : SlabUse
  pub is : o ≡ Some slab
  pub one_class : slab.class ≡ class
  pub room : slab.used < per_slab slab.class
  pub kept : passing ≡ true → slab.kept ≡ true

-- a slab that takes blocks of a class is of the class, has room, and is kept while a pass is open
pub taking : (passing : Bool) (class : ℕ) (o : Option SlabUse) → takes passing class o ≡ true → IsTaking passing class o
taking passing class None h = cc
taking passing class (Some s) h =
    let p = and_parts (eqb s.class class) _ h in let q = and_parts (nat_lt s.used (per_slab s.class)) _ p.1 in
    record { slab = s; is = refl; one_class = eqb-true _ _ p.0; room = ltb-true _ _ q.0; kept = λ open'. by_pass passing s.kept q.1 open' }
  where
    by_pass : (p k : Bool) → (not p || k) ≡ true → p ≡ true → k ≡ true
    by_pass true k e open' = e
    by_pass false k e open' = cc

-- a test that counts as 1 holds
one_true : (b : Bool) → one_if b ≡ 1 → b ≡ true
one_true true h = refl
one_true false h = absurd (omega (arith, h))

-- false isn't true
false_true : false ≡ true → ⊥
false_true e = cc

-- a test whose negation holds is false
not_true : (b : Bool) → not b ≡ true → b ≡ false
not_true true h = cc
not_true false h = refl

-- a test that counts as 0 is false
one_false : (b : Bool) → one_if b ≡ 0 → b ≡ false
one_false true h = absurd (omega (arith, h))
one_false false h = refl

module _ {passing : Bool} {entries : List Entry} {directory : Directory} {margins : List ℕ} (sound : IsHeap passing entries directory margins) where
  -- beyond the list nothing stands
  pub beyond : (n : ℕ) → length entries ≤ n → entry_at entries n ≡ Vacant
  beyond n ge = past entries n ge
    where
      past : (xs : List Entry) (i : ℕ) → length xs ≤ i → entry_at xs i ≡ Vacant
      past [] i h = refl
      past (x ∷ rest) zero h = absurd (omega arith)
      past (x ∷ rest) (suc i) h = past rest i (omega arith)

  -- the least number with the label of a class is that of the first slab that takes blocks of the class
  pub first_takes : (class n : ℕ) → class < 36 → IsLeastWith directory.bound directory.nodes.items class n → (n < length entries)
      × (takes passing class (use_in (entry_at entries n)) ≡ true) × ((m : ℕ) → m < n → takes passing class (use_in (entry_at entries m)) ≡ false)
  first_takes class n lt f =
      let b = sound.bound in let w = f.within in
      let there : n < length entries = omega (arith, b, w) in (
        there,
        one_true _ (sym (labels_take passing (entry_at entries n) class lt) ∙ (ap (λ l. bit_at l class) (sym (sound.labelled n there)) ∙ f.has)),
        λ m less. one_false _ (sym (labels_take passing (entry_at entries m) class lt) ∙ (ap (λ l. bit_at l class) (sym (sound.labelled m (omega (arith, less, there)))) ∙ f.least m less)),
      )

  -- where no number has the label of a class, no slab takes blocks of the class
  pub none_takes : (class : ℕ) → class < 36 → ((n : ℕ) → n < directory.bound → bit_at (labels_at directory n) class ≡ 0) → (n : ℕ) → takes passing class (use_in (entry_at entries n)) ≡ false
  none_takes class lt none n = elim (cases_lt n (length entries)) [
    | inl there ↦
        (let b = sound.bound in one_false _
        (sym (labels_take passing (entry_at entries n) class lt) ∙ (ap (λ l. bit_at l class) (sym (sound.labelled n there)) ∙ none n (omega (arith, there, b)))))
    | inr past ↦ ap (λ e. takes passing class (use_in e)) (beyond n past)
  ]

  -- the least number with the label of a vacant one is the least number with nothing
  pub first_vacant : (n : ℕ) → IsLeastWith directory.bound directory.nodes.items 36 n → IsLeastVacant entries n
  first_vacant n f =
      let b = sound.bound in let w = f.within in
      let there : n < length entries = omega (arith, b, w) in
      record {
        within = there;
        vacant = vacant_labels passing (entry_at entries n) (ap (λ l. bit_at l 36) (sym (sound.labelled n there)) ∙ f.has);
        least = λ m less is. absurd
            (let one = labels_vacant passing (entry_at entries m) is in let zero' = ap (λ l. bit_at l 36) (sym (sound.labelled m (omega (arith, less, there))))
            ∙ f.least m less in omega (arith, one, zero'));
      }

  -- where no number has the label of a vacant one, every number of the list has something
  pub none_vacant : ((n : ℕ) → n < directory.bound → bit_at (labels_at directory n) 36 ≡ 0) → (n : ℕ) → n < length entries → entry_at entries n ≢ Vacant
  none_vacant none n there is = absurd
      (let b = sound.bound in let one = labels_vacant passing (entry_at entries n) is in let zero' = ap (λ l. bit_at l 36) (sym (sound.labelled n there))
      ∙ none n (omega (arith, there, b)) in omega (arith, one, zero'))

  -- where no number has the label of blocks that want to move, none wants to
  pub none_wants : ((n : ℕ) → n < directory.bound → bit_at (labels_at directory n) 37 ≡ 0) → (r : BlockRef) → wants (heap_of passing entries) r ≡ false
  none_wants none r = ap (λ o. passing && is_other o) (slab_read passing entries r.slab) ∙ elim (cases_lt r.slab (length entries)) [
    | inl there ↦
        (let b = sound.bound in one_false _
        (sym (labels_wait passing (entry_at entries r.slab)) ∙ (ap (λ l. bit_at l 37) (sym (sound.labelled r.slab there)) ∙ none r.slab (omega (arith, there, b)))))
    | inr past ↦ ap (λ e. passing && is_other (use_in e)) (beyond r.slab past) ∙ by_none passing
  ]
    where
      by_none : (p : Bool) → (p && false) ≡ false
      by_none true = refl
      by_none false = refl

  -- and where one has it, a block does
  pub one_waits : (n : ℕ) → IsLeastWith directory.bound directory.nodes.items 37 n → IsWaiting (blocks_of entries) (heap_of passing entries)
  one_waits n f =
      let b = sound.bound in let w = f.within in
      let there : n < length entries = omega (arith, b, w) in
      let waits = one_true _ (sym (labels_wait passing (entry_at entries n)) ∙ (ap (λ l. bit_at l 37) (sym (sound.labelled n there)) ∙ f.has)) in
      let parts = and_parts passing _ waits in
      by_use (use_in (entry_at entries n)) refl parts.0 parts.1
    where
      by_use : (o : Option SlabUse) → use_in (entry_at entries n) ≡ o → passing ≡ true → is_other o ≡ true → IsWaiting (blocks_of entries) (heap_of passing entries)
      by_use None is p other = absurd (false_true other)
      by_use (Some s) is p other =
          let stands : slab_at (heap_of passing entries) n ≡ Some s = slab_read passing entries n ∙ is in
          let alive = inhabited (blocks_of entries) (heap_of passing entries) (heap_sound sound) n s stands (sound.filled n s is (not_true s.kept other)) in
          record {
            at = alive.at;
            live = alive.live;
            waits = ap (λ k. passing && is_other (slab_at (heap_of passing entries) k)) alive.place ∙ (ap (λ o. passing && is_other o) stands ∙ and_from _ _ p other);
          }

  -- the look for the label of blocks that want to move tells whether any does
  pub calm_told : (first : Option ℕ) (calm : Bool) → is_some first ≡ not calm → IfSome first (IsLeastWith directory.bound directory.nodes.items 37)
      → IfNone first ((n : ℕ) → n < directory.bound → bit_at (labels_at directory n) 37 ≡ 0)
      → MatchBool calm ((r : BlockRef) → wants (heap_of passing entries) r ≡ false) (IsWaiting (blocks_of entries) (heap_of passing entries))
  calm_told None true e least none = none_wants none
  calm_told (Some n) false e least none = one_waits n least
  calm_told None false e least none = cc
  calm_told (Some n) true e least none = cc

-- where no slab takes a block while a pass is open, no kept slab has room
pub none_spare : (class : ℕ) (xs : List (Option SlabUse)) → ((n : ℕ) → takes true class (get_or xs n None) ≡ false) → sum_by (spare_in class) xs ≡ 0
none_spare class [] h = refl
none_spare class (x ∷ rest) h = (let r = none_spare class rest (λ n. h (suc n)) in omega (arith, sum_by-cons (spare_in class) x rest, one x (h 0), r))
  where
    one : (o : Option SlabUse) → takes true class o ≡ false → spare_in class o ≡ 0
    one None e = refl
    one (Some s) e = grind (arith, common_steps, e)

-- ---- one number changes

-- this entry stands at the number now, and all other numbers have what they had
pub record IsChange (old new : List Entry) (n : ℕ) (e : Entry) : Type 0 where
  pub here : entry_at new n ≡ e
  pub others : (m : ℕ) → m ≢ n → entry_at new m ≡ entry_at old m

-- where an entry changes in one slot, the blocks change under that one reference
pub blocks_changed : (old new : List Entry) (e : Entry) (at : BlockRef) (content : Option (List ℕ)) → IsChange old new at.slab e
    → ((slot : ℕ) → block_in e slot ≡ with_slot (block_in (entry_at old at.slab)) at.slot content slot) → blocks_of new ≡ with_block (blocks_of old) at content
blocks_changed old new e at content c slots = λ i r. one r i
  where
    one : (r : BlockRef) → blocks_of new r ≡ with_block (blocks_of old) at content r
    one r = elim (cases_eq r.slab at.slab) [
      | inl same ↦ ap (λ n. block_in (entry_at new n) r.slot) same ∙ (ap (λ x. block_in x r.slot) c.here ∙ (slots r.slot ∙ (
          ap (λ n. cond (eqb r.slot at.slot) content (block_in (entry_at old n) r.slot)) (sym same)
          ∙ ap (λ t. cond (t && eqb r.slot at.slot) content (blocks_of old r)) (sym (eq-eqb r.slab at.slab same)))))
      | inr other ↦ ap (λ x. block_in x r.slot) (c.others r.slab other) ∙ sym (grind (arith, common_steps, other))
    ]

-- where the entry at one number changes, every other number keeps its slab
changed_slabs : (passing : Bool) (old new : List Entry) (n : ℕ) (e : Entry) → IsChange old new n e → (m : ℕ) → m ≢ n → slab_at (heap_of passing new) m ≡ slab_at (heap_of passing old) m
changed_slabs passing old new n e c m ne = slab_read passing new m ∙ (ap use_in (c.others m ne) ∙ sym (slab_read passing old m))

-- where one number changes, the slab at any other one stays
pub others_stay : (passing : Bool) (old new : List Entry) (n : ℕ) (e : Entry) → IsChange old new n e → (m : ℕ) → m ≢ n → slab_at (heap_of passing new) m ≡ slab_at (heap_of passing old) m
others_stay = changed_slabs

-- the slab at the changed number is that of its new entry
pub changed_here : (passing : Bool) (old new : List Entry) (n : ℕ) (e : Entry) → IsChange old new n e → slab_at (heap_of passing new) n ≡ use_in e
changed_here passing old new n e c = slab_read passing new n ∙ ap use_in c.here

-- a sum over the slabs
pub sum_after : (f : Option SlabUse → ℕ) → f None ≡ 0 → (old new : List Entry) (n : ℕ) (e : Entry) → IsChange old new n e
    → sum_by f (map use_in new) + f (use_in (entry_at old n)) ≡ sum_by f (map use_in old) + f (use_in e)
sum_after f none old new n e c =
    let s = sum_changed f none (map use_in old) (map use_in new) n (changed_slabs true old new n e c) in
    omega (arith, s, ap f (slab_read true old n), ap f (changed_here true old new n e c))

-- what holds of the entry at a number
pub record IsEntry (passing : Bool) (e : Entry) : Type 0 where
  pub marked : (s : SlabUse) → use_in e ≡ Some s → s.kept ≡ true → passing ≡ true
  pub filled : (s : SlabUse) → use_in e ≡ Some s → s.kept ≡ false → 0 < s.used

-- a heap stays sound where one entry, its labels and the margins change in accord
pub sound_changed : {passing : Bool} {old : List Entry} {directory : Directory} {margins : List ℕ} (sound : IsHeap passing old directory margins) (new : List Entry) (later : Directory)
    (other_margins : List ℕ) (n : ℕ) (e : Entry)
    → length new ≡ length old → IsChange old new n e → later.bound ≡ directory.bound → ((m : ℕ) → m < later.bound → labels_at later m ≡ cond (eqb m n) (labels_of passing e) (labels_at directory m))
    → IsEntry passing e → length other_margins ≡ 36
    →
    (passing ≡ true → (class : ℕ) → class < 36 → waiting_in class (use_in e) + spare_in class (use_in (entry_at old n)) + slice_index_or other_margins class 0 ≡ waiting_in class
    (use_in (entry_at old n)) + spare_in class (use_in e) + slice_index_or margins class 0)
    → IsHeap passing new later other_margins
sound_changed {passing = passing} {old = old} {directory = directory} {margins = margins} sound new later other_margins n e long c bound labels is few balance = record {
  bound = long ∙ (sound.bound ∙ sym bound);
  classes = few;
  labelled = λ m lt. labelled m lt (cases_eq m n);
  marked = λ m s at kept. marked m s at kept (cases_eq m n);
  filled = λ m s at kept. filled m s at kept (cases_eq m n);
  margin = λ open' class lt. (let b = balance open' class lt in let m = sound.margin open' class lt in
      omega (arith, sum_after (waiting_in class) refl old new n e c, sum_after (spare_in class) refl old new n e c, b, m));
}
  where
    labelled : (m : ℕ) → m < length new → (m ≡ n) ⊎ (m ≢ n) → labels_at later m ≡ labels_of passing (entry_at new m)
    labelled m lt (inl same) =
        (let b = sound.bound in labels m (omega (arith, lt, long, b, bound))
        ∙ (cond-true (eqb m n) _ _ (eq-eqb m n same) ∙ ap (labels_of passing) (sym c.here ∙ ap (entry_at new) (sym same))))
    labelled m lt (inr other) =
        (let b = sound.bound in labels m (omega (arith, lt, long, b, bound))
        ∙ (unlike m other ∙ (sound.labelled m (omega (arith, lt, long)) ∙ ap (labels_of passing) (sym (c.others m other)))))
      where
        unlike : (m : ℕ) → m ≢ n → cond (eqb m n) (labels_of passing e) (labels_at directory m) ≡ labels_at directory m
        unlike m other = grind (arith, common_steps, other)

    marked : (m : ℕ) (s : SlabUse) → use_in (entry_at new m) ≡ Some s → s.kept ≡ true → (m ≡ n) ⊎ (m ≢ n) → passing ≡ true
    marked m s at kept (inl same) = is.marked s (ap use_in (sym c.here ∙ ap (entry_at new) (sym same)) ∙ at) kept
    marked m s at kept (inr other) = sound.marked m s (ap use_in (sym (c.others m other)) ∙ at) kept

    filled : (m : ℕ) (s : SlabUse) → use_in (entry_at new m) ≡ Some s → s.kept ≡ false → (m ≡ n) ⊎ (m ≢ n) → 0 < s.used
    filled m s at kept (inl same) = is.filled s (ap use_in (sym c.here ∙ ap (entry_at new) (sym same)) ∙ at) kept
    filled m s at kept (inr other) = sound.filled m s (ap use_in (sym (c.others m other)) ∙ at) kept
