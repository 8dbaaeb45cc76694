-- The chain of a slab's free slots, and the count of the others.
use Rattle.std.specs.Prelude.{◌≡◌, ◌≢◌, ℕ, zero, suc, ◌+◌, ◌-◌, ◌<◌, ◌≤◌, Bool, true, false, ◌&&◌, not, nat_lt, List, [], ◌∷◌, ◌++◌, length, slice_set, refl}
use Rattle.std.proofs.Common.{arith, cond, eqb, ap, ◌∙◌, sym, inl, inr, get_or-set_same, get_or-set_other, length-set}
use Rattle.std.proofs.lemmas.List.{get_or_append_left, get_or_at}
use Rattle.std.proofs.lemmas.Grind.{common_steps}
use Rattle.std.proofs.lemmas.Bool.{cases_eq, cases_lt}
use Rattle.class_heap.specs.Live.{used_there}
use Rattle.class_heap.specs.Slots.{word_at, is_used, is_free, used_below, chain, occurs}

abbrev pub one_if : Bool → ℕ
one_if b = cond b 1 0

pub one_same : (x : ℕ) → one_if (eqb x x) ≡ 1
one_same x = grind (arith, common_steps)

pub one_other : (x y : ℕ) → x ≢ y → one_if (eqb x y) ≡ 0
one_other x y h = grind (arith, common_steps, h)

-- a free slot is there and has no block
pub free_parts : (words : List ℕ) (slot : ℕ) → is_free words slot ≢ 0 → (slot < length words) × (32768 ≤ word_at words slot)
free_parts words slot h = (grind (arith, common_steps, h), grind (arith, common_steps, h))

free_one : (words : List ℕ) (slot : ℕ) → slot < length words → 32768 ≤ word_at words slot → is_free words slot ≡ 1
free_one words slot lt h = grind (arith, common_steps, lt, h)

pub free_none : (words : List ℕ) (slot : ℕ) → is_used words slot ≡ true → is_free words slot ≡ 0
free_none words slot h = grind (arith, common_steps, h)

free_most : (words : List ℕ) (slot : ℕ) → is_free words slot ≤ 1
free_most words slot = grind (arith, common_steps)

free_kept : (a b : List ℕ) (slot : ℕ) → length a ≡ length b → word_at a slot ≡ word_at b slot → is_free a slot ≡ is_free b slot
free_kept a b slot h e = grind (arith, common_steps, h, e)

-- another slot's word changes nothing of a chain that doesn't have it
pub chain_kept : (words : List ℕ) (slot w from n : ℕ) → occurs slot (chain words from n) ≡ 0 → chain (slice_set words slot w) from n ≡ chain words from n
unfolding chain occurs
chain_kept words slot w from zero h = refl
chain_kept words slot w from (suc n) h = elim (cases_eq from slot) [
  | inl same ↦ absurd (omega (arith, h, ap (λ s. one_if (eqb s slot)) same, one_same slot))
  | inr other ↦ (let e : word_at (slice_set words slot w) from ≡ word_at words from = get_or-set_other words slot from w 65535 other in
      let r = chain_kept words slot w (word_at words from - 32768) n (omega (arith, h)) in
      ap (λ v. from ∷ chain (slice_set words slot w) (v - 32768) n) e ∙ ap (λ rest. from ∷ rest) r)
]

-- the head of a chain is free
pub head_free : (words : List ℕ) (head n : ℕ) → ((s : ℕ) → occurs s (chain words head (suc n)) ≡ is_free words s) → (is_free words head ≡ 1)
    × (occurs head (chain words (word_at words head - 32768) n) ≡ 0)
unfolding chain occurs
head_free words head n h = (omega (arith, h head, one_same head, free_most words head), omega (arith, h head, one_same head, free_most words head))

-- the head gets a block
pub chain_taken : (words : List ℕ) (head n w : ℕ) → ((s : ℕ) → occurs s (chain words head (suc n)) ≡ is_free words s) → w < 32768 → (s : ℕ)
    → occurs s (chain (slice_set words head w) (word_at words head - 32768) n) ≡ is_free (slice_set words head w) s
unfolding chain occurs
chain_taken words head n w h small s =
    let f = head_free words head n h in let p = free_parts words head (λ z. absurd (omega (arith, f.0, z))) in
    let kept = chain_kept words head w (word_at words head - 32768) n f.1 in
    ap (occurs s) kept ∙ (elim (cases_eq s head) [
      | inl same ↦ (let e : word_at (slice_set words head w) head ≡ w = get_or-set_same words head w 65535 p.0 in
          let z : is_free (slice_set words head w) head ≡ 0 = free_none (slice_set words head w) head (grind (arith, common_steps, e, small)) in
          ap (λ x. occurs x (chain words (word_at words head - 32768) n)) same ∙ (f.1 ∙ (sym z ∙ ap (is_free (slice_set words head w)) (sym same))))
      | inr other ↦ (let e = free_kept (slice_set words head w) words s (length-set words head w) (get_or-set_other words head s w 65535 other) in
          omega (arith, e, h s, one_other head s (λ q. other (sym q))))
    ])

-- a slot with a block gets another word of one
pub chain_resized : (words : List ℕ) (head n slot w : ℕ) → ((s : ℕ) → occurs s (chain words head n) ≡ is_free words s) → is_used words slot ≡ true → w < 32768 → (s : ℕ)
    → occurs s (chain (slice_set words slot w) head n) ≡ is_free (slice_set words slot w) s
chain_resized words head n slot w h used small s =
    let lt = used_there words slot used in let new = slice_set words slot w in
    let none : occurs slot (chain words head n) ≡ 0 = h slot ∙ free_none words slot used in
    ap (occurs s) (chain_kept words slot w head n none) ∙ (h s ∙ (elim (cases_eq s slot) [
      | inl same ↦ (let e : word_at new slot ≡ w = get_or-set_same words slot w 65535 lt in
          let z : is_free new slot ≡ 0 = free_none new slot (grind (arith, common_steps, e, small)) in
          ap (is_free words) same ∙ (free_none words slot used ∙ (sym z ∙ ap (is_free new) (sym same))))
      | inr other ↦ sym (free_kept new words s (length-set words slot w) (get_or-set_other words slot s w 65535 other))
    ]))

-- a slot that is given back becomes the head
pub chain_given : (words : List ℕ) (head n slot : ℕ) → ((s : ℕ) → occurs s (chain words head n) ≡ is_free words s) → is_used words slot ≡ true → (s : ℕ)
    → occurs s (chain (slice_set words slot (32768 + head)) slot (suc n)) ≡ is_free (slice_set words slot (32768 + head)) s
unfolding chain occurs
chain_given words head n slot h used s =
    let lt = used_there words slot used in let w = 32768 + head in let new = slice_set words slot w in
    let e : word_at new slot ≡ w = get_or-set_same words slot w 65535 lt in
    let none : occurs slot (chain words head n) ≡ 0 = h slot ∙ free_none words slot used in
    let kept : chain new (word_at new slot - 32768) n ≡ chain words head n = ap (λ v. chain new (v - 32768) n) e
    ∙ (ap (λ v. chain new v n) (let m : w - 32768 ≡ head = omega arith in m) ∙ chain_kept words slot w head n none) in
    let all = ap (occurs s) kept in
    elim (cases_eq s slot) [
      | inl same ↦ (let o : one_if (eqb slot s) ≡ 1 = ap (λ x. one_if (eqb slot x)) same ∙ one_same slot in
          let z : occurs s (chain words head n) ≡ 0 = ap (λ x. occurs x (chain words head n)) same ∙ none in
          let f : is_free new s ≡ 1 = ap (is_free new) same ∙ free_one new slot (omega (arith, length-set words slot w, lt)) (omega (arith, e)) in
          omega (arith, all, o, z, f))
      | inr other ↦ (let k = free_kept new words s (length-set words slot w) (get_or-set_other words slot s w 65535 other) in
          omega (arith, all, k, h s, one_other slot s (λ q. other (sym q))))
    ]

-- ---- the count

pub used_same : (a b : List ℕ) (k : ℕ) → ((s : ℕ) → s < k → word_at a s ≡ word_at b s) → used_below a k ≡ used_below b k
unfolding used_below
used_same a b zero h = refl
used_same a b (suc k) h = omega (arith, used_same a b k (λ s lt. h s (omega arith)), ap (λ w. one_if (nat_lt w 32768)) (h k (omega arith)))

-- one slot's word changes
pub used_changed : (words : List ℕ) (slot w k : ℕ) → slot < k → slot < length words → used_below (slice_set words slot w) k + one_if (is_used words slot) ≡ used_below words k + one_if (nat_lt w 32768)
unfolding used_below
used_changed words slot w zero lt within = absurd (omega arith)
used_changed words slot w (suc k) lt within = elim (cases_eq k slot) [
  | inl same ↦ (let rest = used_same (slice_set words slot w) words k (λ s l. get_or-set_other words slot s w 65535 (λ q. absurd (omega (arith, q, same, l)))) in
      let here : one_if (is_used (slice_set words slot w) k) ≡ one_if (nat_lt w 32768) = ap (λ s. one_if (is_used (slice_set words slot w) s)) same
      ∙ ap (λ v. one_if (nat_lt v 32768)) (get_or-set_same words slot w 65535 within) in
      omega (arith, rest, here, ap (λ s. one_if (is_used words s)) same))
  | inr other ↦ (let rest = used_changed words slot w k (omega (arith, lt, other)) within in
      let here : one_if (is_used (slice_set words slot w) k) ≡ one_if (is_used words k) = ap (λ v. one_if (nat_lt v 32768)) (get_or-set_other words slot k w 65535 other) in
      omega (arith, rest, here))
]

-- ---- a new slab

-- each slot is free, and its word names the slot after it
pub record IsFresh (words : List ℕ) : Type 0 where
  pub linked : (k : ℕ) → k < length words → word_at words k ≡ 32769 + k

-- one word more at the end names the slot after its own
pub fresh_more : (words new : List ℕ) (slot word : ℕ) → new ≡ words ++ word ∷ [] → length words ≡ slot → word ≡ 32769 + slot → ((k : ℕ) → k < slot → word_at words k ≡ 32769 + k)
    → (k : ℕ) → k < slot + 1 → word_at new k ≡ 32769 + k
fresh_more words new slot word is long one linked k within = ap (λ ws. word_at ws k) is ∙ (elim (cases_lt k slot) [
  | inl low ↦ get_or_append_left words (word ∷ []) 65535 k (omega (arith, low, long)) ∙ linked k low
  | inr high ↦ (let here : length words ≡ k = omega (arith, high, within, long) in get_or_at words word [] 65535 k here ∙ one ∙ (omega (arith, here, long)))
])

pub fresh_used : (words : List ℕ) → IsFresh words → (k : ℕ) → k ≤ length words → used_below words k ≡ 0
unfolding used_below
fresh_used words f zero h = refl
fresh_used words f (suc k) h = (let e = f.linked k (omega arith) in let z : one_if (is_used words k) ≡ 0 = grind (arith, common_steps, e) in omega (arith, fresh_used words f k (omega arith), z))

fresh_occurs : (words : List ℕ) → IsFresh words → (n from s : ℕ) → from + n ≤ length words → occurs s (chain words from n) ≡ one_if (nat_lt s (from + n) && not (nat_lt s from))
unfolding chain occurs
fresh_occurs words f zero from s h = none (nat_lt s from) (nat_lt s (from + 0)) (ap (nat_lt s) (let e : from + 0 ≡ from = omega arith in e))
  where
    none : (a b : Bool) → b ≡ a → 0 ≡ one_if (b && not a)
    none true b e = sym (ap (λ x. one_if (x && false)) e)
    none false b e = sym (ap (λ x. one_if (x && true)) e)
fresh_occurs words f (suc n) from s h =
    let e : word_at words from - 32768 ≡ from + 1 = omega (arith, f.linked from (omega arith)) in
    let r = ap (λ x. occurs s (chain words x n)) e ∙ fresh_occurs words f n (from + 1) s (omega arith) in
    grind (arith, common_steps, r)

pub fresh_chained : (words : List ℕ) → IsFresh words → (s : ℕ) → occurs s (chain words 0 (length words - 0)) ≡ is_free words s
fresh_chained words f s =
    ap (λ n. occurs s (chain words 0 n)) (let e : length words - 0 ≡ length words = omega arith in e)
    ∙ (fresh_occurs words f (length words) 0 s (omega arith) ∙ (elim (cases_lt s (length words)) [
      | inl lt ↦ (let e = f.linked s lt in grind (arith, common_steps, lt, e))
      | inr ge ↦ grind (arith, common_steps, ge)
    ]))
