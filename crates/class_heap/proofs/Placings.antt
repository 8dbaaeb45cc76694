-- Each way of placing a block keeps what holds of a class heap, and is by the rule.
use Rattle.std.specs.Prelude.{◌≡◌, ◌≢◌, ℕ, ◌+◌, ◌-◌, ◌^◌, ◌<◌, ◌≤◌, Bool, true, false, ◌&&◌, ◌||◌, not, nat_lt, List, length, replicate, slice_set, slice_index_or, Option, Some, None}
use Rattle.std.specs.Prelude.{is_some, refl, ◌⊎◌}
use Rattle.std.proofs.Common.{arith, cond, eqb, ap, ◌∙◌, sym, subst, inl, inr, get_or-set_same, get_or-set_other, length-set}
use Rattle.std.proofs.lemmas.Grind.{common_steps}
use Rattle.std.proofs.lemmas.Bool.{cases_eq, cases_lt}
use Rattle.std.proofs.lemmas.Bool.Decides.{nat_tests}
use Rattle.std.specs.Global.{Vec}
use Rattle.blocks.specs.declared.BlockRef.{BlockRef}
use Rattle.blocks.specs.Blocks.{Blocks, with_block}
use Rattle.blocks.specs.Slabs.{SlabUse, Heap, slab_at, per_slab, IsClassOf, waiting_in, spare_in, waiting_of, spare_of, one_more_in, wants, is_other}
use Rattle.class_heap.specs.declared.entry.Entry.{Entry}
use Rattle.class_heap.specs.declared.entry.Entry.TheVariants.{Vacant, Large, Classed}
use Rattle.class_heap.specs.declared.directory.Directory.{Directory}
use Rattle.class_heap.specs.Directory.{labels_at}
use Rattle.class_heap.specs.declared.slab.Slab.{Slab}
use Rattle.class_heap.specs.Slab.{with_slot, use_of}
use Rattle.class_heap.specs.Classes.{slots_bounds}
use Rattle.class_heap.specs.Tree.{IsLeastWith}
use Rattle.class_heap.specs.Entries.{use_in, block_in, labels_of, entry_at, blocks_of, heap_of, IsHeap, IsLeastVacant, fuller, IsRoomFor}
use Rattle.class_heap.specs.Placing.{takes, is_taken, IsLeastFree, GoesTo, into_slab, into_new_slab, alone, IsPlacing}
use Rattle.class_heap.specs.Laws.{slab_read}
use Rattle.class_heap.proofs.Heaps.{SameEntries, blocks_same, slab_same, waiting_same, spare_same, beyond, taking, first_takes, IsChange, IsEntry, blocks_changed, others_stay}
use Rattle.class_heap.proofs.Heaps.{changed_here, sound_changed}

-- an entry written over at a number within the list is a change of that number
pub change_set : (old : List Entry) (n : ℕ) (e : Entry) → n < length old → IsChange old (slice_set old n e) n e
change_set old n e lt = record { here = get_or-set_same old n e Vacant lt; others = λ m ne. get_or-set_other old n m e Vacant ne }

-- a heap after one entry was written over and has its labels
pub sound_set : {passing : Bool} {old : List Entry} {directory : Directory} {margins : List ℕ} (sound : IsHeap passing old directory margins) (n : ℕ) (e : Entry) (labels : ℕ)
    (later : Directory) (other_margins : List ℕ)
    → n < length old → labels ≡ labels_of passing e → later.bound ≡ directory.bound → ((m : ℕ) → m < later.bound → labels_at later m ≡ cond (eqb m n) labels (labels_at directory m))
    → IsEntry passing e → length other_margins ≡ 36
    →
    (passing ≡ true → (class : ℕ) → class < 36 → waiting_in class (use_in e) + spare_in class (use_in (entry_at old n)) + slice_index_or other_margins class 0 ≡ waiting_in class
    (use_in (entry_at old n)) + spare_in class (use_in e) + slice_index_or margins class 0)
    → IsHeap passing (slice_set old n e) later other_margins
sound_set {old = old} {directory = directory} sound n e labels later other_margins lt is bound set entry few balance =
    sound_changed sound (slice_set old n e) later other_margins n e (length-set old n e) (change_set old n e lt) bound
    (λ m less. set m less ∙ ap (λ l. cond (eqb m n) l (labels_at directory m)) is) entry few balance

-- ---- a list with further numbers

-- a heap stays sound where its list gets further numbers with nothing, and their labels
pub sound_wider : {passing : Bool} {old : List Entry} {directory : Directory} {margins : List ℕ} (sound : IsHeap passing old directory margins) (new : List Entry) (later : Directory)
    (labels : ℕ) → SameEntries old new → length new ≡ later.bound → labels ≡ 2 ^ 36
    → ((n : ℕ) → n < later.bound → labels_at later n ≡ cond (nat_lt n directory.bound) (labels_at directory n) labels) → IsHeap passing new later margins
sound_wider {passing = passing} {old = old} {directory = directory} {margins = margins} sound new later labels same long is wide = record {
  bound = long;
  classes = sound.classes;
  labelled = λ n lt. labelled n lt (cases_lt n directory.bound);
  marked = λ n s at kept. sound.marked n s (sym (ap use_in (same n)) ∙ at) kept;
  filled = λ n s at kept. sound.filled n s (sym (ap use_in (same n)) ∙ at) kept;
  margin = λ open' class lt. (let m = sound.margin open' class lt in omega (arith, waiting_same passing old new same class, spare_same passing old new same class, m));
}
  where
    labelled : (n : ℕ) → n < length new → (n < directory.bound) ⊎ (directory.bound ≤ n) → labels_at later n ≡ labels_of passing (entry_at new n)
    labelled n lt (inl before) =
        (let b = sound.bound in wide n (omega (arith, lt, long)) ∙
        (grind (arith, nat_tests, before) ∙ (sound.labelled n (omega (arith, before, b)) ∙ ap (labels_of passing) (sym (same n)))))
    labelled n lt (inr past) = (let b = sound.bound in let v : entry_at new n ≡ Vacant = same n ∙ beyond sound n (omega (arith, past, b)) in
        wide n (omega (arith, lt, long)) ∙ (by_test n past ∙ (is ∙ ap (labels_of passing) (sym v))))
      where
        by_test : (n : ℕ) → directory.bound ≤ n → cond (nat_lt n directory.bound) (labels_at directory n) labels ≡ labels
        by_test n past = grind (arith, nat_tests, past)

-- ---- the rule

-- a number with nothing is free, and one with something isn't
pub least_free : (passing : Bool) (entries : List Entry) (n : ℕ) → IsLeastVacant entries n → IsLeastFree (blocks_of entries) (heap_of passing entries) n
least_free passing entries n v = record {
  free = ap (λ o. is_some o) (slab_read passing entries n ∙ ap use_in v.vacant) ⊕ ap (λ e. is_some (block_in e 0)) v.vacant;
  least = λ m less. taken (entry_at entries m) (slab_at (heap_of passing entries) m) (slab_read passing entries m) (v.least m less);
}
  where
    infixl 5 ◌⊕◌
    ◌⊕◌ : {a b : Bool} → a ≡ false → b ≡ false → (a || b) ≡ false
    ◌⊕◌ {a} {b} p q = ap (λ x. x || b) p ∙ q

    taken : (e : Entry) (o : Option SlabUse) → o ≡ use_in e → e ≢ Vacant → (is_some o || is_some (block_in e 0)) ≡ true
    taken Vacant o is ne = absurd (ne refl)
    taken (Large bytes) o is ne = ap (λ x. is_some x || true) is
    taken (Classed slab) o is ne = ap (λ x. is_some x || is_some (block_in (Classed slab) 0)) is

-- a block of zeros that was put into a free slot of one entry, by the rule, was placed
pub placing : {passing later : Bool} (old mid new : List Entry) (e : Entry) (at : BlockRef) (len : ℕ) → later ≡ passing → SameEntries old mid → IsChange mid new at.slab e
    → block_in (entry_at mid at.slab) at.slot ≡ None → ((slot : ℕ) → block_in e slot ≡ with_slot (block_in (entry_at mid at.slab)) at.slot (Some (replicate len 0)) slot)
    → GoesTo (blocks_of old) (heap_of passing old) (heap_of later new) len at → IsPlacing (blocks_of old) (heap_of passing old) (blocks_of new) (heap_of later new) len at
placing {passing = passing} {later = later} old mid new e at len kept same c fresh slots goes = record {
  fresh = ap (λ x. block_in x at.slot) (sym (same at.slab)) ∙ fresh;
  placed = blocks_changed mid new e at (Some (replicate len 0)) c slots ∙ ap (λ b. with_block b at (Some (replicate len 0))) (blocks_same old mid same);
  passing = kept;
  goes = goes;
  others = λ n ne. others_stay passing mid new at.slab e c n ne ∙ slab_same passing old mid same n;
}

-- the least vacant number of a list is that of the same in a longer one
pub least_vacant_same : (passing : Bool) (old mid : List Entry) (n : ℕ) → SameEntries old mid → IsLeastVacant mid n → IsLeastFree (blocks_of old) (heap_of passing old) n
least_vacant_same passing old mid n same v =
    let f = least_free passing mid n v in
    record {
      free = sym (taken_same n) ∙ f.free;
      least = λ m less. sym (taken_same m) ∙ f.least m less;
    }
  where
    taken_same : (m : ℕ) → is_taken (blocks_of mid) (heap_of passing mid) m ≡ is_taken (blocks_of old) (heap_of passing old) m
    taken_same m = ap (λ o. is_some o || is_some (block_in (entry_at mid m) 0)) (slab_same passing old mid same m)
        ∙ ap (λ e. is_some (slab_at (heap_of passing old) m) || is_some (block_in e 0)) (same m)

-- ---- a large block

-- in place of a vacant entry, a block that stands alone is one put into slot 0
pub large_slots : (bytes : List ℕ) (old : Entry) (slot : ℕ) → old ≡ Vacant → cond (eqb slot 0) (Some bytes) None ≡ with_slot (block_in old) 0 (Some bytes) slot
large_slots bytes old slot is = ap (λ e. cond (eqb slot 0) (Some bytes) (block_in e slot)) (sym is)

-- a block that no class holds stands alone at the least vacant number, as the rule says
pub goes_alone : {passing later : Bool} (old mid new : List Entry) (e : Entry) (len n : ℕ) → 14336 < len → SameEntries old mid → IsLeastVacant mid n → IsChange mid new n e
    → use_in e ≡ None → GoesTo (blocks_of old) (heap_of passing old) (heap_of later new) len (record { slab = n; slot = 0 })
goes_alone {passing = passing} {later = later} old mid new e len n large same v c none =
    alone (record { large = large; free = least_vacant_same passing old mid n same v; first = refl; none = changed_here later mid new n e c ∙ none })

-- a heap stays sound where a large block comes to a number with nothing
pub sound_alone : {passing : Bool} {old : List Entry} {directory : Directory} {margins : List ℕ} (sound : IsHeap passing old directory margins) (n : ℕ) (block : Vec ℕ) (later : Directory)
    → n < length old → entry_at old n ≡ Vacant → later.bound ≡ directory.bound → ((m : ℕ) → m < later.bound → labels_at later m ≡ cond (eqb m n) 0 (labels_at directory m))
    → IsHeap passing (slice_set old n (Large block)) later margins
sound_alone {margins = margins} sound n block later lt vacant bound labels =
    sound_set sound n (Large block) 0 later margins lt refl bound labels (record { marked = λ s at kept. cc; filled = λ s at kept. cc }) sound.classes
    (λ open' class within. ap (λ x. waiting_in class None + spare_in class (use_in x) + slice_index_or margins class 0) vacant
    ∙ sym (ap (λ x. waiting_in class (use_in x) + spare_in class None + slice_index_or margins class 0) vacant))

-- ---- into a slab

-- a block goes by the rule into the slab at the least number with the label of its class
pub goes_in : {passing : Bool} {old : List Entry} {directory : Directory} {margins : List ℕ} (sound : IsHeap passing old directory margins) (new : List Entry) (e : Entry)
    (class len n slot : ℕ) → class < 36 → IsClassOf len class → IsLeastWith directory.bound directory.nodes.items class n → (passing ≡ true → 0 < slice_index_or margins class 0)
    → IsChange old new n e → use_in e ≡ fuller (use_in (entry_at old n)) → GoesTo (blocks_of old) (heap_of passing old) (heap_of passing new) len (record { slab = n; slot = slot })
goes_in {passing = passing} {old = old} {margins = margins} sound new e class len n slot lt holds first room c more =
    let f = first_takes sound class n lt first in let t = taking passing class (use_in (entry_at old n)) f.1 in
    into_slab (record {
      slab = t.slab;
      stood = slab_read passing old n ∙ t.is;
      class = subst (λ k. IsClassOf len k) (sym t.one_class) holds;
      taken = subst (λ k. takes passing k (Some t.slab) ≡ true) (sym t.one_class) (subst (λ o. takes passing class o ≡ true) t.is f.1);
      lowest = λ m less. ap (takes passing t.slab.class) (slab_read passing old m) ∙ subst (λ k. takes passing k (use_in (entry_at old m)) ≡ false) (sym t.one_class) (f.2 m less);
      room = λ open'. subst (λ k. waiting_of (heap_of passing old) k < spare_of (heap_of passing old) k) (sym t.one_class)
          (let m = sound.margin open' class lt in let r = room open' in omega (arith, m, r));
      stands = changed_here passing old new n e c ∙ (more ∙ ap fuller t.is);
    })

-- the slab that is found has room
pub room_found : {passing : Bool} {old : List Entry} {directory : Directory} {margins : List ℕ} (sound : IsHeap passing old directory margins) (class len n : ℕ) → class < 36
    → IsClassOf len class → IsLeastWith directory.bound directory.nodes.items class n → IsRoomFor len (use_in (entry_at old n))
room_found {passing = passing} {old = old} sound class len n lt holds first =
    let f = first_takes sound class n lt first in let t = taking passing class (use_in (entry_at old n)) f.1 in
    subst (λ o. IsRoomFor len o) (sym t.is) (t.room, subst (λ k. IsClassOf len k) (sym t.one_class) holds)

-- with one block more it is as it should be
pub entry_in : {passing : Bool} {old : List Entry} {directory : Directory} {margins : List ℕ} (sound : IsHeap passing old directory margins) (class n : ℕ) (e : Entry) → class < 36
    → IsLeastWith directory.bound directory.nodes.items class n → use_in e ≡ fuller (use_in (entry_at old n)) → IsEntry passing e
entry_in {passing = passing} {old = old} sound class n e lt first more =
    let f = first_takes sound class n lt first in let t = taking passing class (use_in (entry_at old n)) f.1 in
    let is : use_in e ≡ Some (one_more_in t.slab) = more ∙ ap fuller t.is in
    record {
      marked = λ s at kept. sound.marked n t.slab t.is (of_some (one_more_in t.slab) s (sym is ∙ at) kept);
      filled = λ s at kept. some_used t.slab s (sym is ∙ at);
    }
  where
    of_some : (a s : SlabUse) → Some a ≡ Some s → s.kept ≡ true → a.kept ≡ true
    of_some a s e k = (let q : a ≡ s = cc in ap (λ x. x.kept) q ∙ k)

    some_used : (a s : SlabUse) → Some (one_more_in a) ≡ Some s → 0 < s.used
    some_used a s e = (let q : one_more_in a ≡ s = cc in subst (λ x. 0 < x.used) q (omega arith))

-- how the margin changes
one_class_in : (c u p : ℕ) (s : SlabUse) → s.kept ≡ true → s.used < per_slab s.class → s.class ≡ c → (waiting_in c (Some (one_more_in s)) ≡ 0) × (waiting_in c (Some s) ≡ 0)
    × (spare_in c (Some (one_more_in s)) + 1 ≡ spare_in c (Some s))
one_class_in c u p s kept room is = (grind (arith, common_steps, kept), grind (arith, common_steps, kept), spare (per_slab s.class) s.used c kept is room)
  where
    spare : (q u c : ℕ) → s.kept ≡ true → s.class ≡ c → s.used < per_slab s.class → spare_in c (Some (one_more_in s)) + 1 ≡ spare_in c (Some s)
    spare q u c kept is room = (let r : s.used < per_slab c = subst (λ k. s.used < per_slab k) is room in grind (arith, common_steps, kept, is, r))

-- a slab of another class has no waiting block and no free place of this class
pub other_class : (c : ℕ) (s : SlabUse) → s.class ≢ c → (waiting_in c (Some s) ≡ 0) × (spare_in c (Some s) ≡ 0)
other_class c s ne = (grind (arith, common_steps, ne), grind (arith, common_steps, ne))

-- when a block goes into a slab of an open pass, the margins balance with that of its class less by one
pub margin_in : {passing : Bool} {old : List Entry} {directory : Directory} {margins : List ℕ} (sound : IsHeap passing old directory margins) (class n : ℕ) (e : Entry) → class < 36
    → IsLeastWith directory.bound directory.nodes.items class n → (passing ≡ true → 0 < slice_index_or margins class 0) → use_in e ≡ fuller (use_in (entry_at old n)) → passing ≡ true
    → (c : ℕ) → c < 36
    → waiting_in c (use_in e) + spare_in c (use_in (entry_at old n)) + slice_index_or (slice_set margins class (slice_index_or margins class 0 - 1)) c 0 ≡ waiting_in c
    (use_in (entry_at old n)) + spare_in c (use_in e) + slice_index_or margins c 0
margin_in {passing = passing} {old = old} {margins = margins} sound class n e lt first room more open' c within =
    let f = first_takes sound class n lt first in let t = taking passing class (use_in (entry_at old n)) f.1 in
    let k = t.kept open' in
    subst
    (λ o. waiting_in c (use_in e) + spare_in c o + slice_index_or (slice_set margins class (slice_index_or margins class 0 - 1)) c 0 ≡ waiting_in c o + spare_in c (use_in e) +
    slice_index_or margins c 0) (sym t.is)
    (subst
    (λ o. waiting_in c o + spare_in c (Some t.slab) + slice_index_or (slice_set margins class (slice_index_or margins class 0 - 1)) c 0 ≡ waiting_in c (Some t.slab) + spare_in c o +
    slice_index_or margins c 0) (sym (more ∙ ap fuller t.is))
    (elim (cases_eq c class) [
      | inl same ↦ (let o = one_class_in c 0 0 t.slab k t.room (t.one_class ∙ sym same) in let r = room open' in let few = sound.classes in
          let m : slice_index_or (slice_set margins class (slice_index_or margins class 0 - 1)) c 0 ≡ slice_index_or margins class 0 - 1 =
          ap (λ i. slice_index_or (slice_set margins class (slice_index_or margins class 0 - 1)) i 0) same
          ∙ get_or-set_same margins class (slice_index_or margins class 0 - 1) 0 (omega (arith, few, lt)) in
          omega (arith, o.0, o.1, o.2, m, r, ap (λ i. slice_index_or margins i 0) same))
      | inr other ↦ (let ne : t.slab.class ≢ c = λ q. other (sym q ∙ t.one_class) in let a = other_class c (one_more_in t.slab) ne in let b = other_class c t.slab ne in
          omega (arith, a.0, a.1, b.0, b.1, get_or-set_other margins class c (slice_index_or margins class 0 - 1) 0 other))
    ]))

-- ---- into a new slab

-- a block goes by the rule into a new slab, where no slab takes it or an open pass has no place to spare
pub goes_anew : {passing later : Bool} (old mid new : List Entry) (e : Entry) (class len n slot : ℕ) → class < 36 → IsClassOf len class
    → (passing ≡ false → (m : ℕ) → takes false class (use_in (entry_at old m)) ≡ false) → (passing ≡ true → spare_of (heap_of passing old) class ≤ waiting_of (heap_of passing old) class)
    → SameEntries old mid → IsLeastVacant mid n → IsChange mid new n e → use_in e ≡ Some (record { class = class; used = 1; kept = passing })
    → GoesTo (blocks_of old) (heap_of passing old) (heap_of later new) len (record { slab = n; slot = slot })
goes_anew {passing = passing} {later = later} old mid new e class len n slot lt holds none full same v c is =
    into_new_slab (record {
      class = class;
      classed = lt;
      holds = holds;
      none = λ closed m. ap (takes false class) (slab_read passing old m) ∙ none closed m;
      full = full;
      free = least_vacant_same passing old mid n same v;
      stands = changed_here later mid new n e c ∙ is;
    })

-- a new slab with one block, kept where a pass is open, is as an entry should be
pub entry_anew : (passing : Bool) (class : ℕ) (e : Entry) → use_in e ≡ Some (record { class = class; used = 1; kept = passing }) → IsEntry passing e
entry_anew passing class e is = record {
  marked = λ s at kept. of_some (record { class = class; used = 1; kept = passing }) s (sym is ∙ at) kept;
  filled = λ s at kept. some_used (record { class = class; used = 1; kept = passing }) s (sym is ∙ at) (omega arith);
}
  where
    of_some : (a s : SlabUse) → Some a ≡ Some s → s.kept ≡ true → a.kept ≡ true
    of_some a s e k = (let q : a ≡ s = cc in ap (λ x. x.kept) q ∙ k)

    some_used : (a s : SlabUse) → Some a ≡ Some s → 0 < a.used → 0 < s.used
    some_used a s e more = (let q : a ≡ s = cc in subst (λ x. 0 < x.used) q more)

-- when a block goes into a new slab of an open pass, the margins balance with the places left added
pub margin_anew : (margins : List ℕ) (class per : ℕ) (old e : Entry) → length margins ≡ 36 → class < 36 → per ≡ per_slab class → old ≡ Vacant
    → use_in e ≡ Some (record { class = class; used = 1; kept = true }) → (c : ℕ) → c < 36
    → waiting_in c (use_in e) + spare_in c (use_in old) + slice_index_or (slice_set margins class (slice_index_or margins class 0 + (per - 1))) c 0 ≡ waiting_in c (use_in old) + spare_in c
    (use_in e) + slice_index_or margins c 0
margin_anew margins class per old e few lt full none is c within =
    subst
    (λ x. waiting_in c (use_in e) + spare_in c (use_in x) + slice_index_or (slice_set margins class (slice_index_or margins class 0 + (per - 1))) c 0 ≡ waiting_in c (use_in x) +
    spare_in c (use_in e) + slice_index_or margins c 0) (sym none)
    (subst (λ o. waiting_in c o + 0 + slice_index_or (slice_set margins class (slice_index_or margins class 0 + (per - 1))) c 0 ≡ 0 + spare_in c o + slice_index_or margins c 0) (sym is)
    (elim (cases_eq c class) [
      | inl same ↦
          (let m : slice_index_or (slice_set margins class (slice_index_or margins class 0 + (per - 1))) c 0 ≡ slice_index_or margins class 0 + (per - 1) =
          ap (λ i. slice_index_or (slice_set margins class (slice_index_or margins class 0 + (per - 1))) i 0) same
          ∙ get_or-set_same margins class (slice_index_or margins class 0 + (per - 1)) 0 (omega (arith, few, lt)) in
          let o = new_here (per_slab c) same in
          omega (arith, o.0, o.1, m, full, ap per_slab same, ap (λ i. slice_index_or margins i 0) same))
      | inr other ↦ (let a = other_class c (record { class = class; used = 1; kept = true }) (λ q. other (sym q)) in
          omega (arith, a.0, a.1, get_or-set_other margins class c (slice_index_or margins class 0 + (per - 1)) 0 other))
    ]))
  where
    new_here : (p : ℕ) → c ≡ class → (waiting_in c (Some (record { class = class; used = 1; kept = true })) ≡ 0)
        × (spare_in c (Some (record { class = class; used = 1; kept = true })) ≡ per_slab c - 1)
    new_here p same = (grind (arith, common_steps, same), grind (arith, common_steps, same))

-- a new slab has room, and then one block
pub fresh_room : (slab : Slab) (class len : ℕ) (kept : Bool) → use_of slab ≡ record { class = class; used = 0; kept = kept } → class < 36 → IsClassOf len class → IsRoomFor len (Some (use_of slab))
fresh_room slab class len kept made lt holds = subst (λ u. IsRoomFor len (Some u)) (sym made) ((slots_bounds class lt).0, holds)

-- an empty slab with one block more has one block
pub made_one : (slab : Slab) (class : ℕ) (kept : Bool) → use_of slab ≡ record { class = class; used = 0; kept = kept }
    → fuller (use_in (Classed slab)) ≡ Some (record { class = class; used = 1; kept = kept })
made_one slab class kept made = ap (λ u. Some (one_more_in u)) made

-- a block put into a slab without a block leaves the same slots as one put into a vacant entry
pub fresh_slots : (slab : Slab) (old : Entry) (at slot : ℕ) (content : Option (List ℕ)) → ((s : ℕ) → block_in (Classed slab) s ≡ None) → old ≡ Vacant
    → with_slot (block_in (Classed slab)) at content slot ≡ with_slot (block_in old) at content slot
fresh_slots slab old at slot content empty is = ap (λ o. cond (eqb slot at) content o) (empty slot ∙ ap (λ e. block_in e slot) (sym is))

-- ---- a placed block wants no move

-- a block that was just placed wants no move
pub calm_placed : {before after : Blocks} {h later : Heap} {len : ℕ} {at : BlockRef} → IsPlacing before h after later len at → wants later at ≡ false
calm_placed {before = before} {h = h} {later = later} {len = len} {at = at} p = by_goes p.goes
  where
    settled : (b : Bool) (o : Option SlabUse) → later.passing ≡ b → (b ≡ true → is_other o ≡ false) → slab_at later at.slab ≡ o → wants later at ≡ false
    settled true o is kept e = ap (λ x. x && is_other (slab_at later at.slab)) is ∙ (ap is_other e ∙ kept refl)
    settled false o is kept e = ap (λ x. x && is_other (slab_at later at.slab)) is

    by_goes : GoesTo before h later len at → wants later at ≡ false
    by_goes (into_slab g) = settled h.passing (Some (one_more_in g.slab)) p.passing
        (λ open'. (let t = taking h.passing g.slab.class (Some g.slab) g.taken in let q : t.slab ≡ g.slab = (let u = t.is in cc) in ap not (sym (ap (λ x. x.kept) q) ∙ t.kept open')))
        g.stands
    by_goes (into_new_slab g) = settled h.passing (Some (record { class = g.class; used = 1; kept = h.passing })) p.passing (λ open'. ap not open') g.stands
    by_goes (alone g) = settled h.passing None p.passing (λ open'. refl) g.none
