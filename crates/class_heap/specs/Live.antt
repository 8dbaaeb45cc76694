-- The blocks of a sound slab, and how many there are.
use Rattle.std.specs.Prelude.{◌≡◌, ℕ, zero, suc, ◌+◌, ◌*◌, ◌<◌, ◌≤◌, Bool, true, false, List, [], length, take, drop, Some, None, IsSome, unwrap_or, refl}
use Rattle.std.proofs.Common.{arith, cond, ap, ◌∙◌, sym, subst, inl, inr}
use Rattle.std.proofs.lemmas.Grind.{common_steps}
use Rattle.std.proofs.lemmas.Bool.{cases_eq, cases_lt}
use Rattle.std.proofs.lemmas.List.{length-take, length-drop}
use Rattle.blocks.specs.Slabs.{per_slab}
use Rattle.class_heap.specs.Slots.{word_at, is_used, used_below, block_in_slot, IsSlab}
use Rattle.class_heap.specs.Classes.{size_bounds, slots_bounds}

abbrev one_if : Bool → ℕ
one_if b = cond b 1 0

-- a slot with a block is there
pub used_there : (words : List ℕ) (slot : ℕ) → is_used words slot ≡ true → slot < length words
used_there words slot h = elim (cases_lt slot (length words)) [
  | inl lt ↦ lt
  | inr ge ↦ absurd (grind (arith, common_steps, h, ge))
]

pub used_most : (words : List ℕ) (k : ℕ) → used_below words k ≤ k
unfolding used_below
used_most words zero = omega arith
used_most words (suc k) = omega (arith, used_most words k, least (is_used words k))
  where
    least : (b : Bool) → one_if b ≤ 1
    least true = omega arith
    least false = omega arith

-- where a slot has a block, the count isn't 0
pub used_some : (words : List ℕ) (slot k : ℕ) → slot < k → is_used words slot ≡ true → 0 < used_below words k
unfolding used_below
used_some words slot zero lt h = absurd (omega arith)
used_some words slot (suc k) lt h = elim (cases_eq k slot) [
  | inl same ↦ omega (arith, ap (λ s. one_if (is_used words s)) same, ap one_if h)
  | inr other ↦ omega (arith, used_some words slot k (omega (arith, lt, other)) h)
]

-- slots lie apart
pub apart : (size a b : ℕ) → a < b → a * size + size ≤ b * size
apart size a b lt = grind (arith, lt)

pub known : (size : ℕ) (words mem : List ℕ) (s : ℕ) → is_used words s ≡ true
    → block_in_slot size words mem s ≡ Some (take (word_at words s) (drop (s * size) mem))
known size words mem s h = grind (arith, common_steps, h)

pub unused : (size : ℕ) (words mem : List ℕ) (s : ℕ) → is_used words s ≡ false → block_in_slot size words mem s ≡ None
unused size words mem s h = grind (arith, common_steps, h)

pub not_used : (words : List ℕ) (s : ℕ) → 32768 ≤ word_at words s → is_used words s ≡ false
not_used words s h = grind (arith, common_steps, h)

-- a live block's slot is used
pub live_used : (size : ℕ) (words mem : List ℕ) (s : ℕ) → IsSome (block_in_slot size words mem s)
    → is_used words s ≡ true
live_used size words mem s h = by_is (is_used words s) _ refl h
  where
    by_is : (b : Bool) (x : List ℕ) → b ≡ is_used words s → IsSome (cond b (Some x) None) → is_used words s ≡ true
    by_is true x e h' = sym e
    by_is false x e h' = cc

pub used_live : (size : ℕ) (words mem : List ℕ) (s : ℕ) → is_used words s ≡ true
    → IsSome (block_in_slot size words mem s)
used_live size words mem s h = subst (λ o. IsSome o) (sym (known size words mem s h)) refl

-- ---- within a sound slab

module _ {class size used head : ℕ} {words mem : List ℕ} (sound : IsSlab class size used head words mem) where
  pub bounds : (8 ≤ size) × (size ≤ 14336)
  bounds = subst (λ n. (8 ≤ n) × (n ≤ 14336)) (sym sound.sized) (size_bounds class sound.classed)

  pub size_most : size ≤ 14336
  size_most = bounds.1

  pub cut : length words * size ≤ 65536
  cut =
      (let s = slots_bounds class sound.classed in
      subst (λ n. n * size ≤ 65536) (sym sound.cut) (subst (λ n. per_slab class * n ≤ 65536) (sym sound.sized) s.2))

  pub slots_most : length words ≤ 8192
  slots_most = subst (λ n. n ≤ 8192) (sym sound.cut) (slots_bounds class sound.classed).1

  -- a slot lies within the region
  pub slot_fits : (slot : ℕ) → slot < length words → slot * size + size ≤ 65536
  slot_fits slot lt = (let c = cut in let a = apart size slot (length words) lt in omega (arith, a, c))

  pub short : (slot : ℕ) → is_used words slot ≡ true → word_at words slot ≤ size
  short slot h = subst (λ n. word_at words slot ≤ n) (sym sound.sized) (sound.held slot h).holds

  pub part_fits : (slot : ℕ) → IsSome (block_in_slot size words mem slot) → slot * size + word_at words slot ≤ 65536
  part_fits slot live =
      (let h = live_used size words mem slot live in let s = short slot h in
      let f = slot_fits slot (used_there words slot h) in omega (arith, s, f))

  pub live_there : (slot : ℕ) → IsSome (block_in_slot size words mem slot) → slot < length words
  live_there slot live = used_there words slot (live_used size words mem slot live)

  pub block_known : (slot : ℕ) → IsSome (block_in_slot size words mem slot)
      → block_in_slot size words mem slot ≡ Some (take (word_at words slot) (drop (slot * size) mem))
  block_known slot live = known size words mem slot (live_used size words mem slot live)

  -- the block is as long as its word says
  pub block_length : (slot : ℕ) → IsSome (block_in_slot size words mem slot)
      → length (unwrap_or (block_in_slot size words mem slot) []) ≡ word_at words slot
  block_length slot live =
      (let f = part_fits slot live in let l = sound.long in
      ap (λ o. length (unwrap_or o [])) (block_known slot live) ∙ omega
      (arith, length-take (word_at words slot) (drop (slot * size) mem), length-drop (slot * size) mem, f, l))

  pub used_fits : used ≤ length words
  used_fits = subst (λ n. n ≤ length words) sound.counted (used_most words (length words))

  -- no more blocks than places
  pub used_least : (used ≤ per_slab class) × (used ≤ 8192)
  used_least =
      (let f = used_fits in let m = slots_most in let q : used ≤ per_slab class = subst (λ n. used ≤ n) sound.cut f in
      (q, omega (arith, f, m)))
