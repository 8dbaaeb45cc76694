-- The blocks of a slab after a change of one slot.
use Rattle.std.specs.Prelude.{◌≡◌, ◌≢◌, ℕ, suc, ◌+◌, ◌-◌, ◌*◌, ◌<◌, ◌≤◌, true, nat_lt, List, [], length, take, drop, replicate, slice_set, Some, None, IsSome, unwrap_or, refl, ◌⊎◌}
use Rattle.std.proofs.Common.{arith, cond, eqb, ap, ◌∙◌, sym, subst, inl, inr, get_or-set_same, get_or-set_other, length-set}
use Rattle.std.proofs.lemmas.Grind.{common_steps}
use Rattle.std.proofs.lemmas.Bool.{cases_eq, cases_lt, cases_Bool}
use Rattle.std.proofs.lemmas.List.{length-take}
use Rattle.blocks.specs.Blocks.{overwritten, resized, shifted}
use Rattle.blocks.specs.Slabs.{IsClassOf, per_slab, size_of}
use Rattle.blocks.proofs.Written.{overwritten_all}
use Rattle.class_heap.specs.Slots.{word_at, is_used, is_free, used_below, chain, occurs, block_in_slot, IsSlab}
use Rattle.class_heap.specs.Live.{used_there, used_some, apart, known, unused, not_used, live_used, bounds, cut, slots_most, slot_fits, short, part_fits, live_there, block_known}
use Rattle.class_heap.specs.Live.{block_length, used_fits}
use Rattle.class_heap.proofs.Pieces.{after, before, within, part_of}
use Rattle.class_heap.proofs.Chains.{free_parts, head_free, chain_taken, chain_given, chain_resized, used_changed, one_if, IsFresh, fresh_used, fresh_chained}

pub pick_same : {X : Type 0} (a b : ℕ) (x y : X) → a ≡ b → cond (eqb a b) x y ≡ x
pick_same a b x y h = grind (arith, common_steps, h)

pub pick_other : {X : Type 0} (a b : ℕ) (x y : X) → a ≢ b → cond (eqb a b) x y ≡ y
pick_other a b x y h = grind (arith, common_steps, h)

-- a block with a slot's word for its length
pub block_same : (size : ℕ) (a b mem : List ℕ) (s : ℕ) → word_at a s ≡ word_at b s → block_in_slot size a mem s ≡ block_in_slot size b mem s
block_same size a b mem s e = ap (λ w. cond (nat_lt w 32768) (Some (take w (drop (s * size) mem))) None) e

-- ---- within a sound slab

module _ {class size used head : ℕ} {words mem : List ℕ} (sound : IsSlab class size used head words mem) where
  -- another slot keeps its block where the piece lies within this one
  elsewhere : (slot at : ℕ) (piece : List ℕ) → slot < length words → slot * size ≤ at → at + length piece ≤ slot * size + size → (other : ℕ) → other ≢ slot
      → block_in_slot size words (overwritten mem at piece) other ≡ block_in_slot size words mem other
  elsewhere slot at piece within' low high other ne =
      let f = slot_fits sound slot within' in let l = sound.long in let fit : at + length piece ≤ length mem = omega (arith, f, l, high) in
      elim (cases_Bool (is_used words other)) [
        | inl used' ↦ known size words (overwritten mem at piece) other used' ∙ (elim (cases_lt other slot) [
          | inl lt ↦ ap Some (before mem piece at (other * size) (word_at words other) fit (let a = apart size other slot lt in let s = short sound other used' in omega (arith, a, s, low)))
          | inr ge ↦ ap (λ d. Some (take (word_at words other) d)) (after mem piece at (other * size) fit (let a = apart size slot other (omega (arith, ge, ne)) in omega (arith, a, high)))
        ] ∙ sym (known size words mem other used'))
        | inr none ↦ unused size words (overwritten mem at piece) other none ∙ sym (unused size words mem other none)
      ]

  -- the slot has the piece
  here : (slot from : ℕ) (piece : List ℕ) → IsSome (block_in_slot size words mem slot) → from + length piece ≤ word_at words slot
      → block_in_slot size words (overwritten mem (slot * size + from) piece) slot ≡ Some (overwritten (unwrap_or (block_in_slot size words mem slot) []) from piece)
  here slot from piece live fit =
      let used' = live_used size words mem slot live in let f = part_fits sound slot live in let l = sound.long in
      known size words (overwritten mem (slot * size + from) piece) slot used'
      ∙ (ap Some (within mem piece (slot * size + from) (slot * size) (word_at words slot) (omega (arith, f, l)) (omega arith) (omega (arith, fit)))
      ∙ (ap (λ n. Some (overwritten (take (word_at words slot) (drop (slot * size) mem)) n piece)) (let e : (slot * size + from) - slot * size ≡ from = omega arith in e)
      ∙ ap (λ o. Some (overwritten (unwrap_or o []) from piece)) (sym (block_known sound slot live))))

  -- a write into a live block changes that block alone
  pub written : (slot from : ℕ) (piece : List ℕ) → IsSome (block_in_slot size words mem slot) → from + length piece ≤ length (unwrap_or (block_in_slot size words mem slot) []) → (other : ℕ)
      → block_in_slot size words (overwritten mem (slot * size + from) piece) other ≡ cond (eqb other slot)
      (Some (overwritten (unwrap_or (block_in_slot size words mem slot) []) from piece)) (block_in_slot size words mem other)
  written slot from piece live room other =
      let fit : from + length piece ≤ word_at words slot = subst (λ n. from + length piece ≤ n) (block_length sound slot live) room in
      let s = short sound slot (live_used size words mem slot live) in
      elim (cases_eq other slot) [
        | inl same ↦ ap (block_in_slot size words (overwritten mem (slot * size + from) piece)) same ∙ (here slot from piece live fit ∙ sym (pick_same other slot _ _ same))
        | inr ne ↦ elsewhere slot (slot * size + from) piece (live_there sound slot live) (omega arith) (omega (arith, s, fit)) other ne ∙ sym (pick_other other slot _ _ ne)
      ]

  pub written_fits : (slot from : ℕ) (piece : List ℕ) → IsSome (block_in_slot size words mem slot) → from + length piece ≤ length (unwrap_or (block_in_slot size words mem slot) [])
      → slot * size + from + length piece ≤ 65536
  written_fits slot from piece live room = (let e = block_length sound slot live in let f = part_fits sound slot live in omega (arith, e, f, room))

  pub sound_over : (at : ℕ) (piece : List ℕ) → at + length piece ≤ 65536 → IsSlab class size used head words (overwritten mem at piece)
  sound_over at piece fit = (let l = sound.long in let e : length (overwritten mem at piece) ≡ length mem = long_over mem piece at (omega (arith, fit, l)) in record {
    classed = sound.classed;
    sized = sound.sized;
    long = e ∙ l;
    cut = sound.cut;
    counted = sound.counted;
    headed = sound.headed;
    chained = sound.chained;
    held = sound.held;
  })
    where
      long_over : (bytes piece : List ℕ) (at : ℕ) → at + length piece ≤ length bytes → length (overwritten bytes at piece) ≡ length bytes
      long_over bytes piece at fit = grind (arith, common_steps, fit)

  -- ---- bytes of a block are put over others of it

  pub place_fits : (slot from count : ℕ) → IsSome (block_in_slot size words mem slot) → from + count ≤ length (unwrap_or (block_in_slot size words mem slot) [])
      → slot * size + from + count ≤ 65536
  place_fits slot from count live room = (let e = block_length sound slot live in let f = part_fits sound slot live in omega (arith, e, f, room))

  moved : (slot from count : ℕ) → IsSome (block_in_slot size words mem slot) → from + count ≤ length (unwrap_or (block_in_slot size words mem slot) [])
      → take count (drop (slot * size + from) mem) ≡ take count (drop from (unwrap_or (block_in_slot size words mem slot) []))
  moved slot from count live inside =
      let e = block_length sound slot live in let f = part_fits sound slot live in let l = sound.long in
      sym (ap (λ o. take count (drop from (unwrap_or o []))) (block_known sound slot live) ∙ part_of mem (slot * size) (word_at words slot) from count (omega (arith, f, l)) (omega (arith, e, inside)))

  pub put_over : (slot from to count : ℕ) → IsSome (block_in_slot size words mem slot) → from + count ≤ length (unwrap_or (block_in_slot size words mem slot) [])
      → to + count ≤ length (unwrap_or (block_in_slot size words mem slot) []) → (other : ℕ)
      → block_in_slot size words (shifted mem (slot * size + from) (slot * size + to) count) other ≡ cond (eqb other slot)
      (Some (shifted (unwrap_or (block_in_slot size words mem slot) []) from to count)) (block_in_slot size words mem other)
  put_over slot from to count live inside room other =
      let piece = take count (drop from (unwrap_or (block_in_slot size words mem slot) [])) in
      ap (λ p. block_in_slot size words (overwritten mem (slot * size + to) p) other) (moved slot from count live inside)
      ∙ written slot to piece live (omega (arith, length-take count (drop from (unwrap_or (block_in_slot size words mem slot) [])), room)) other

  -- ---- a block gets another length

  small : (len : ℕ) → IsClassOf len class → len < 32768
  small len fit = (let b = bounds sound in let q : len ≤ size = subst (λ n. len ≤ n) (sym sound.sized) fit.holds in omega (arith, b, q))

  pub sound_resized : (slot len : ℕ) → IsSome (block_in_slot size words mem slot) → IsClassOf len class → IsSlab class size used head (slice_set words slot len) mem
  sound_resized slot len live fit =
      let used' = live_used size words mem slot live in let lt = used_there words slot used' in let few = small len fit in
      let same = length-set words slot len in
      record {
        classed = sound.classed;
        sized = sound.sized;
        long = sound.long;
        cut = same ∙ sound.cut;
        counted =
            (let c = used_changed words slot len (length words) lt lt in let o : one_if (nat_lt len 32768) ≡ 1 = grind (arith, common_steps, few) in
            let p : one_if (is_used words slot) ≡ 1 = ap one_if used' in let k = sound.counted in
            ap (used_below (slice_set words slot len)) same ∙ omega (arith, c, o, p, k));
        headed = sound.headed;
        chained = λ s. ap (λ n. occurs s (chain (slice_set words slot len) head (n - used))) same
            ∙ chain_resized words head (length words - used) slot len sound.chained used' few s;
        held = λ s h'. by_slot s h' lt (cases_eq s slot);
      }
    where
      by_slot : (s : ℕ) → is_used (slice_set words slot len) s ≡ true → slot < length words → (s ≡ slot) ⊎ (s ≢ slot) → IsClassOf (word_at (slice_set words slot len) s) class
      by_slot s h' lt (inl same) = subst (λ n. IsClassOf n class) (sym (ap (word_at (slice_set words slot len)) same ∙ get_or-set_same words slot len 65535 lt)) fit
      by_slot s h' lt (inr other) = (let e = get_or-set_other words slot s len 65535 other in subst (λ n. IsClassOf n class) (sym e) (sound.held s (sym (ap (λ w. nat_lt w 32768) e) ∙ h')))

  pub resized_in : (slot len : ℕ) → IsSome (block_in_slot size words mem slot) → IsClassOf len class → (other : ℕ)
      → block_in_slot size (slice_set words slot len) mem other ≡ cond (eqb other slot) (Some (take len (drop (slot * size) mem))) (block_in_slot size words mem other)
  resized_in slot len live fit other =
      let new = slice_set words slot len in
      let e : word_at new slot ≡ len = get_or-set_same words slot len 65535 (live_there sound slot live) in let few = small len fit in
      elim (cases_eq other slot) [
        | inl same ↦ ap (block_in_slot size new mem) same
            ∙ (known size new mem slot (grind (arith, common_steps, e, few)) ∙ (ap (λ n. Some (take n (drop (slot * size) mem))) e ∙ sym (pick_same other slot _ _ same)))
        | inr ne ↦ block_same size new words mem other (get_or-set_other words slot other len 65535 ne) ∙ sym (pick_other other slot _ _ ne)
      ]

  -- the slot has room for as many bytes as the class holds
  pub class_fits : (slot len : ℕ) → IsSome (block_in_slot size words mem slot) → IsClassOf len class → slot * size + len ≤ 65536
  class_fits slot len live fit = (let f = slot_fits sound slot (live_there sound slot live) in let q : len ≤ size = subst (λ n. len ≤ n) (sym sound.sized) fit.holds in omega (arith, f, q))

  -- ---- a free slot is taken

  linked : used < per_slab class → (slot : ℕ) → occurs slot (chain words head (suc (length words - (used + 1)))) ≡ is_free words slot
  linked room slot =
      (let c = sound.cut in ap (λ n. occurs slot (chain words head n)) (let e : suc (length words - (used + 1)) ≡ length words - used = omega (arith, c, room) in e) ∙ sound.chained slot)

  pub head_there : used < per_slab class → (head < length words) × (32768 ≤ word_at words head)
  head_there room = free_parts words head (let f = head_free words head (length words - (used + 1)) (linked room) in λ z. absurd (omega (arith, z, f.0)))

  pub head_none : used < per_slab class → block_in_slot size words mem head ≡ None
  head_none room = unused size words mem head (not_used words head (head_there room).1)

  pub sound_taken : (len : ℕ) → used < per_slab class → IsClassOf len class → word_at words head < 65536 → IsSlab class size (used + 1) (word_at words head - 32768) (slice_set words head len) mem
  sound_taken len room fit word =
      let h = head_there room in let lt = h.0 in let free = h.1 in
      let small : len < 32768 = (let b = bounds sound in let q : len ≤ size = subst (λ n. len ≤ n) (sym sound.sized) fit.holds in omega (arith, b, q)) in
      let same = length-set words head len in
      record {
        classed = sound.classed;
        sized = sound.sized;
        long = sound.long;
        cut = same ∙ sound.cut;
        counted =
            (let c = used_changed words head len (length words) lt lt in let z : one_if (is_used words head) ≡ 0 = ap one_if (not_used words head free) in
            let o : one_if (nat_lt len 32768) ≡ 1 = grind (arith, common_steps, small) in let k = sound.counted in
            ap (used_below (slice_set words head len)) same ∙ omega (arith, c, z, o, k));
        headed = omega (arith, word);
        chained = λ slot. ap (λ n. occurs slot (chain (slice_set words head len) (word_at words head - 32768) (n - (used + 1)))) same
            ∙ chain_taken words head (length words - (used + 1)) len (linked room) small slot;
        held = λ slot h'. by_slot slot h' lt (cases_eq slot head);
      }
    where
      by_slot : (slot : ℕ) → is_used (slice_set words head len) slot ≡ true → head < length words → (slot ≡ head) ⊎ (slot ≢ head) → IsClassOf (word_at (slice_set words head len) slot) class
      by_slot slot h' lt (inl same) = subst (λ n. IsClassOf n class) (sym (ap (word_at (slice_set words head len)) same ∙ get_or-set_same words head len 65535 lt)) fit
      by_slot slot h' lt (inr other) = (let e = get_or-set_other words head slot len 65535 other in subst (λ n. IsClassOf n class) (sym e) (sound.held slot (sym (ap (λ w. nat_lt w 32768) e) ∙ h')))

  -- what stands in the slots afterwards
  pub taken_live : (len : ℕ) → used < per_slab class → IsClassOf len class → is_used (slice_set words head len) head ≡ true
  taken_live len room fit =
      let h = head_there room in let b = bounds sound in let q : len ≤ size = subst (λ n. len ≤ n) (sym sound.sized) fit.holds in
      let e = get_or-set_same words head len 65535 h.0 in
      grind (arith, common_steps, e, b, q)

  -- ---- a block is given back

  pub used_pos : (slot : ℕ) → IsSome (block_in_slot size words mem slot) → 0 < used
  used_pos slot live = subst (λ n. 0 < n) sound.counted (used_some words slot (length words) (live_there sound slot live) (live_used size words mem slot live))

  pub sound_given : (slot : ℕ) → IsSome (block_in_slot size words mem slot) → IsSlab class size (used - 1) slot (slice_set words slot (32768 + head)) mem
  sound_given slot live =
      let used' = live_used size words mem slot live in let lt = used_there words slot used' in let some = used_pos slot live in let f = used_fits sound in let m = slots_most sound in
      let same = length-set words slot (32768 + head) in
      record {
        classed = sound.classed;
        sized = sound.sized;
        long = sound.long;
        cut = same ∙ sound.cut;
        counted =
            (let c = used_changed words slot (32768 + head) (length words) lt lt in let z : one_if (nat_lt (32768 + head) 32768) ≡ 0 = grind (arith, common_steps) in
            let o : one_if (is_used words slot) ≡ 1 = ap one_if used' in let k = sound.counted in
            ap (used_below (slice_set words slot (32768 + head))) same ∙ omega (arith, c, z, o, k));
        headed = omega (arith, lt, m);
        chained = λ s. ap (λ n. occurs s (chain (slice_set words slot (32768 + head)) slot (n - (used - 1)))) same
            ∙
            (ap (λ n. occurs s (chain (slice_set words slot (32768 + head)) slot n)) (let e : length words - (used - 1) ≡ suc (length words - used) = omega (arith, some, f) in e)
            ∙ chain_given words head (length words - used) slot sound.chained used' s);
        held = λ s h'. by_slot s h' lt (cases_eq s slot);
      }
    where
      by_slot : (s : ℕ) → is_used (slice_set words slot (32768 + head)) s ≡ true → slot < length words → (s ≡ slot) ⊎ (s ≢ slot) → IsClassOf (word_at (slice_set words slot (32768 + head)) s) class
      by_slot s h' lt (inl same) = absurd (let e = ap (word_at (slice_set words slot (32768 + head))) same ∙ get_or-set_same words slot (32768 + head) 65535 lt in grind (arith, common_steps, e, h'))
      by_slot s h' lt (inr other) = (let e = get_or-set_other words slot s (32768 + head) 65535 other in subst (λ n. IsClassOf n class) (sym e) (sound.held s (sym (ap (λ w. nat_lt w 32768) e) ∙ h')))

  pub given : (slot : ℕ) → IsSome (block_in_slot size words mem slot) → (other : ℕ)
      → block_in_slot size (slice_set words slot (32768 + head)) mem other ≡ cond (eqb other slot) None (block_in_slot size words mem other)
  given slot live other = elim (cases_eq other slot) [
    | inl same ↦ (let lt = live_there sound slot live in let e = ap (word_at (slice_set words slot (32768 + head))) same ∙ get_or-set_same words slot (32768 + head) 65535 lt in
        unused size (slice_set words slot (32768 + head)) mem other (not_used (slice_set words slot (32768 + head)) other (omega (arith, e))) ∙ sym (pick_same other slot _ _ same))
    | inr ne ↦ block_same size (slice_set words slot (32768 + head)) words mem other (get_or-set_other words slot other (32768 + head) 65535 ne) ∙ sym (pick_other other slot _ _ ne)
  ]

-- what stands there where fewer bytes are left
pub resized_less : (bytes : List ℕ) (old len : ℕ) → len ≤ old → old ≤ length bytes → take len bytes ≡ resized (take old bytes) len
resized_less bytes old len less long = grind (arith, common_steps, less, long)

-- and where zeros are written behind those that stay
pub resized_more : (bytes : List ℕ) (old len : ℕ) → old < len → len ≤ length bytes → overwritten (take len bytes) old (replicate (len - old) 0) ≡ resized (take old bytes) len
resized_more bytes old len more long = grind (arith, common_steps, more, long)

-- a slab in which no slot was taken yet
pub sound_fresh : (class size : ℕ) (words mem : List ℕ) → class < 36 → size ≡ size_of class → length mem ≡ 65536 → length words ≡ per_slab class → IsFresh words
    → IsSlab class size 0 0 words mem
sound_fresh class size words mem lt sized long cut f = record {
  classed = lt;
  sized = sized;
  long = long;
  cut = cut;
  counted = fresh_used words f (length words) (omega arith);
  headed = omega arith;
  chained = fresh_chained words f;
  held = λ slot h. absurd (none slot h);
}
  where
    none : (slot : ℕ) → is_used words slot ≡ true → ⊥
    none slot h = (let l = f.linked slot (used_there words slot h) in grind (arith, common_steps, l, h))

pub fresh_none : (size : ℕ) (words mem : List ℕ) → IsFresh words → (slot : ℕ) → block_in_slot size words mem slot ≡ None
fresh_none size words mem f slot = elim (cases_Bool (is_used words slot)) [
  | inl used ↦ absurd (let l = f.linked slot (used_there words slot used) in grind (arith, common_steps, l, used))
  | inr none ↦ unused size words mem slot none
]

-- a slot that was taken, and then written whole
pub placed_over : {X : Type 0} (slot other : ℕ) (new y mid x was : X) → new ≡ cond (eqb other slot) y mid → y ≡ x → (other ≢ slot → mid ≡ was) → new ≡ cond (eqb other slot) x was
placed_over slot other new y mid x was is at_slot elsewhere' = is ∙ (elim (cases_eq other slot) [
  | inl same ↦ pick_same other slot y mid same ∙ (at_slot ∙ sym (pick_same other slot x was same))
  | inr ne ↦ pick_other other slot y mid ne ∙ (elsewhere' ne ∙ sym (pick_other other slot x was ne))
])

-- a block in a slot that was taken for it holds the piece that is copied there
pub carried : {class size used head : ℕ} {words mem : List ℕ} (sound : IsSlab class size used head words mem) (slot : ℕ) (piece copied : List ℕ)
    → IsSome (block_in_slot size words mem slot) → length (unwrap_or (block_in_slot size words mem slot) []) ≡ length piece → copied ≡ overwritten mem (slot * size) piece → (other : ℕ)
    → block_in_slot size words copied other ≡ cond (eqb other slot) (Some piece) (block_in_slot size words mem other)
carried {size = size} {words = words} {mem = mem} sound slot piece copied live long is other =
    placed_over slot other _ _ _ _ _
    (ap (λ m. block_in_slot size words m other) (is ∙ ap (λ at. overwritten mem at piece) (let e : slot * size ≡ slot * size + 0 = omega arith in e))
    ∙ written sound slot 0 piece live (omega (arith, long)) other)
    (ap Some (overwritten_all _ piece long)) (λ ne. refl)

-- a slab whose count is 0 has no block
pub none_left : {class size used head : ℕ} {words mem : List ℕ} (sound : IsSlab class size used head words mem) → used ≡ 0 → (slot : ℕ) → block_in_slot size words mem slot ≡ None
none_left {size = size} {words = words} {mem = mem} sound none slot = elim (cases_Bool (is_used words slot)) [
  | inl used' ↦ absurd (let s = used_some words slot (length words) (used_there words slot used') used' in let c = sound.counted in omega (arith, s, c, none))
  | inr free ↦ unused size words mem slot free
]
