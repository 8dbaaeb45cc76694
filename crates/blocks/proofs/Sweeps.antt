-- A pass over a store's slabs.
use Rattle.std.specs.Prelude.{◌≡◌, ℕ, zero, suc, ◌+◌, ◌*◌, ◌-◌, ◌/◌, ◌<◌, ◌≤◌, ◌≢◌, Bool, true, false, nat_lt, nat_le, length, ◌==◌, ◌&&◌, not, List, [], ◌∷◌, Option, Some, None, IsSome}
use Rattle.std.specs.Prelude.{sum_by, count_by, map, slice_index_or, refl, ◌⊎◌}
use Rattle.std.proofs.Common.{arith, cond, ap, ◌∙◌, sym, subst, inl, inr, get_or}
use Rattle.std.proofs.lemmas.Bool.{cases_eq, cases_lt, and_parts}
use borrow.Author.Tests.{ltb-true, leb-true}
use Rattle.std.proofs.lemmas.Grind.{common_steps}
use Rattle.std.proofs.lemmas.List.Sums.{sum_by-cons}
use Rattle.blocks.specs.declared.BlockRef.{BlockRef}
use Rattle.blocks.specs.Blocks.{Blocks}
use Rattle.blocks.proofs.Change.{cases_live}
use Rattle.blocks.proofs.Sums.{count_cons, sum_two}
use Rattle.blocks.specs.Slabs.{SlabUse, Heap, per_slab, is_of, is_kept, used_in, waiting_in, spare_in, slabs_of, kept_of, used_of, waiting_of, spare_of, needed, wants, is_other, Calmer}
use Rattle.blocks.specs.Slabs.{released, ended, IsSoundHeap, Swept, Begun, Moves, one_fewer, one_more_in, unmarked, slab_at, sizes, blocks_in}

-- a heap is at least as calm as itself
pub calmer_same : (h : Heap) → Calmer h h
calmer_same h = record { passing = refl; calm = λ r e. e; kept = λ c. refl; used = λ c. refl }

-- of three heaps, each at least as calm as the one before, the last is at least as calm as the first
pub calmer_next : (a b d : Heap) → Calmer a b → Calmer b d → Calmer a d
calmer_next a b d p q = record { passing = q.passing ∙ p.passing; calm = λ r e. q.calm r (p.calm r e); kept = λ c. q.kept c ∙ p.kept c; used = λ c. q.used c ∙ p.used c }

-- a calmer store is swept as far, and one more block may be passed
pub swept_calmer : (a b : Heap) (passed more : BlockRef → Type 0) → Calmer a b → Swept a passed → ((r : BlockRef) → more r → wants b r ≡ false) → Swept b (λ r. passed r ⊎ more r)
swept_calmer a b passed more q s m = record {
  passing = q.passing ∙ s.passing;
  kept = λ c lt. q.kept c ∙ (s.kept c lt ∙ ap (λ u. (u + (per_slab c - 1)) / per_slab c) (sym (q.used c)));
  calm = λ r e. elim e [ inl old ↦ q.calm r (s.calm r old) | inr new ↦ m r new ];
}

-- no slab has more blocks than places
abbrev pub Fits : Heap → Type 0
Fits h = (n : ℕ) (s : SlabUse) → slab_at h n ≡ Some s → s.used ≤ per_slab s.class

-- a live block of the slab
pub record Inhabitant (blocks : Blocks) (n : ℕ) : Type 0 where
  pub at : BlockRef
  pub place : at.slab ≡ n
  pub live : IsSome (blocks at)

-- a slab with a block has a live one
abbrev pub IsInhabited : Blocks → Heap → Type 0
IsInhabited blocks h = (n : ℕ) (s : SlabUse) → slab_at h n ≡ Some s → 0 < s.used → Inhabitant blocks n

-- where some of the first places of a slab have a live block, the slab has a live block
blocks_in_some : (blocks : Blocks) (n k : ℕ) → 0 < blocks_in blocks n k → Inhabitant blocks n
unfolding blocks_in
blocks_in_some blocks n zero h = absurd (omega arith)
blocks_in_some blocks n (suc k) h = elim (cases_live blocks (record { slab = n; slot = k })) [
  | inl dead ↦ blocks_in_some blocks n k (omega (arith, h, dead.0))
  | inr alive ↦ record { at = record { slab = n; slot = k }; place = refl; live = alive.1 }
]

-- in a sound heap each slab whose count is above 0 has a live block
pub inhabited : (blocks : Blocks) (h : Heap) → IsSoundHeap blocks h → IsInhabited blocks h
inhabited blocks h sound n s e more = blocks_in_some blocks n (per_slab s.class) (omega (arith, sound.counted n s e, more))

-- each size of the list is above 0 and at most 65536
abbrev are_sizes : List ℕ → Bool
are_sizes [] = true
are_sizes (x ∷ rest) = nat_lt 0 x && (nat_le x 65536 && are_sizes rest)

-- in a list of sizes that passes the test each one, and 65536 beyond its end, is above 0 and at most 65536
size_in : (xs : List ℕ) → are_sizes xs ≡ true → (i : ℕ) → (0 < get_or xs i 65536) × (get_or xs i 65536 ≤ 65536)
size_in [] h i = (omega arith, omega arith)
size_in (x ∷ rest) h zero = (let p = and_parts (nat_lt 0 x) (nat_le x 65536 && are_sizes rest) h in let q = and_parts (nat_le x 65536) (are_sizes rest) p.1 in (ltb-true 0 x p.0, leb-true x 65536 q.0))
size_in (x ∷ rest) h (suc i) = (let p = and_parts (nat_lt 0 x) (nat_le x 65536 && are_sizes rest) h in let q = and_parts (nat_le x 65536) (are_sizes rest) p.1 in size_in rest q.1 i)

-- a slab of 65536 bytes has room for at least one block of any size up to that
quotient_pos : (size : ℕ) → 0 < size → size ≤ 65536 → 0 < 65536 / size
quotient_pos size some most = grind (arith, some, most)

-- each slab has room for a block
pub per_slab_pos : (class : ℕ) → 0 < per_slab class
per_slab_pos class = (let s = size_in sizes refl class in quotient_pos (get_or sizes class 65536) s.0 s.1)

-- of one slab: where it has no waiting block, it stays only if it is kept
slab_stays : (c : ℕ) (o : Option SlabUse) → waiting_in c o ≡ 0 → cond (is_of c (released o)) 1 0 ≤ cond (is_kept c o) 1 0
slab_stays c None w = omega arith
slab_stays c (Some s) w = grind (arith, common_steps, w)

-- a slab that is left at the end of a pass has no more blocks than places, and one that goes has none
slab_holds : (c : ℕ) (o : Option SlabUse) → ((s : SlabUse) → o ≡ Some s → s.used ≤ per_slab s.class) → used_in c o ≤ cond (is_of c (released o)) (per_slab c) 0
slab_holds c None f = omega arith
slab_holds c (Some s) f = grind (arith, common_steps, f s refl)

-- where no block of a class waits, no more of its slabs are left at the end of a pass than are kept
stay : (c : ℕ) (xs : List (Option SlabUse)) → sum_by (waiting_in c) xs ≡ 0 → count_by (is_of c) (map released xs) ≤ count_by (is_kept c) xs
stay c [] w = omega arith
stay c (x ∷ rest) w = let w' : waiting_in c x + sum_by (waiting_in c) rest ≡ 0 = sym (sum_by-cons (waiting_in c) x rest) ∙ w in
    let h : cond (is_of c (released x)) 1 0 ≤ cond (is_kept c x) 1 0 = slab_stays c x (omega (arith, w')) in
    let r : count_by (is_of c) (map released rest) ≤ count_by (is_kept c) rest = stay c rest (omega (arith, w')) in
    let g : cond (is_of c (released x)) 1 0 + count_by (is_of c) (map released rest) ≤ cond (is_kept c x) 1 0 + count_by (is_kept c) rest = omega (arith, h, r) in
    rw (count_cons (is_of c) (released x) (map released rest), count_cons (is_kept c) x rest) g

-- the blocks of a class have room in those of its slabs that are left at the end of a pass
hold : (c : ℕ) (xs : List (Option SlabUse)) → ((n : ℕ) (s : SlabUse) → slice_index_or xs n None ≡ Some s → s.used ≤ per_slab s.class)
    → sum_by (used_in c) xs ≤ count_by (is_of c) (map released xs) * per_slab c
hold c [] f = omega arith
hold c (x ∷ rest) f =
    let h : used_in c x ≤ cond (is_of c (released x)) (per_slab c) 0 = slab_holds c x (λ s e. f 0 s e) in
    let r : sum_by (used_in c) rest ≤ count_by (is_of c) (map released rest) * per_slab c = hold c rest (λ n s e. f (suc n) s e) in
    rw (sum_by-cons (used_in c) x rest, count_cons (is_of c) (released x) (map released rest))
    (by_is (is_of c (released x)) (used_in c x) (sum_by (used_in c) rest) (count_by (is_of c) (map released rest)) (per_slab c) h r)
  where
    by_is : (t : Bool) (u us k p : ℕ) → u ≤ cond t p 0 → us ≤ k * p → u + us ≤ (cond t 1 0 + k) * p
    by_is true u us k p h r = grind (arith, h, r)
    by_is false u us k p h r = omega (arith, h, r)

-- the end of a pass leaves each class as many blocks
used_kept : (c : ℕ) (xs : List (Option SlabUse)) → sum_by (used_in c) (map released xs) ≡ sum_by (used_in c) xs
used_kept c [] = refl
used_kept c (x ∷ rest) = let h : used_in c (released x) ≡ used_in c x = one x in
    let g : used_in c (released x) + sum_by (used_in c) (map released rest) ≡ used_in c x + sum_by (used_in c) rest = omega (arith, h, used_kept c rest) in
    sum_by-cons (used_in c) (released x) (map released rest) ∙ (g ∙ sym (sum_by-cons (used_in c) x rest))
  where
    one : (o : Option SlabUse) → used_in c (released o) ≡ used_in c o
    one None = refl
    one (Some s) = grind (arith, common_steps)

-- where so many slabs have room for all the blocks, the quotient rounded up is no more
div_up : (u k p : ℕ) → 0 < p → u ≤ k * p → (u + (p - 1)) / p ≤ k
div_up u k p pos h = grind (arith, h)

-- where no slab's block waits, as many slabs are left at the end as are kept, and the blocks have room in them
-- these are as many as needed, where as many as needed were kept
pub ended_exact : (h : Heap) → Fits h → (c : ℕ) → 0 < per_slab c → waiting_of h c ≡ 0 → kept_of h c ≡ needed h c → slabs_of (ended h) c ≡ needed (ended h) c
ended_exact h f c pos w k =
    let a : slabs_of (ended h) c ≤ kept_of h c = stay c h.slabs w in
    let b : used_of h c ≤ slabs_of (ended h) c * per_slab c = hold c h.slabs f in
    let d : needed h c ≤ slabs_of (ended h) c = div_up _ _ _ pos b in
    let e : needed (ended h) c ≡ needed h c = ap (λ u. (u + (per_slab c - 1)) / per_slab c) (used_kept c h.slabs) in
    omega (arith, a, d, e, k)

-- no block of a kept slab waits
kept_waits : (c : ℕ) (s : SlabUse) → not s.kept ≡ false → waiting_in c (Some s) ≡ 0
kept_waits c s h = grind (arith, common_steps, h)

-- where no live block wants to move, none waits
none_waits : (blocks : Blocks) (h : Heap) → IsInhabited blocks h → h.passing ≡ true → ((r : BlockRef) → IsSome (blocks r) → wants h r ≡ false) → (c : ℕ) → waiting_of h c ≡ 0
none_waits blocks h i p calm c = all h.slabs (λ n s e. still n s e)
  where
    still_by : (s : SlabUse) (at : BlockRef) → h.passing ≡ true → wants h at ≡ false → slice_index_or h.slabs at.slab None ≡ Some s → waiting_in c (Some s) ≡ 0
    still_by s at p q e = kept_waits c s (sym (ap (λ b. b && not s.kept) p) ∙ (sym (ap (λ o. h.passing && is_other o) e) ∙ q))

    still : (n : ℕ) (s : SlabUse) → slice_index_or h.slabs n None ≡ Some s → waiting_in c (Some s) ≡ 0
    still n s e = elim (cases_lt 0 s.used) [
      | inl more ↦ (let l = i n s e more in let q = calm l.at l.live in still_by s l.at p q (ap (λ m. slice_index_or h.slabs m None) l.place ∙ e))
      | inr empty ↦ grind (arith, common_steps, empty)
    ]

    all : (xs : List (Option SlabUse)) → ((n : ℕ) (s : SlabUse) → slice_index_or xs n None ≡ Some s → waiting_in c (Some s) ≡ 0) → sum_by (waiting_in c) xs ≡ 0
    all [] f = refl
    all (None ∷ rest) f = let b = all rest (λ n s e. f (suc n) s e) in let g : waiting_in c None + sum_by (waiting_in c) rest ≡ 0 = omega (arith, b) in sum_by-cons (waiting_in c) None rest ∙ g
    all (Some s ∷ rest) f = let a : waiting_in c (Some s) ≡ 0 = f 0 s refl in let b = all rest (λ n s e. f (suc n) s e) in let g : waiting_in c (Some s) + sum_by (waiting_in c) rest ≡ 0 =
        omega (arith, a, b) in sum_by-cons (waiting_in c) (Some s) rest ∙ g

-- a pass that was swept over all live blocks leaves each class the slabs that it needs
pub swept_ends : (blocks : Blocks) (h : Heap) (passed : BlockRef → Type 0) → IsSoundHeap blocks h → Swept h passed → ((r : BlockRef) → IsSome (blocks r) → passed r) → (c : ℕ) → c < 36
    → slabs_of (ended h) c ≡ needed (ended h) c
swept_ends blocks h passed i s all c lt = ended_exact h i.fits c (per_slab_pos c) (none_waits blocks h (inhabited blocks h i) s.passing (λ r live. s.calm r (all r live)) c) (s.kept c lt)

-- the blocks in a kept slab of the class
kept_used : ℕ → Option SlabUse → ℕ
kept_used c None = 0
kept_used c (Some s) = cond ((s.class == c) && s.kept) s.used 0

-- of one slab: the blocks of the class are those that wait and those that stand in it while it is kept
one_waits : (c : ℕ) (o : Option SlabUse) → waiting_in c o + kept_used c o ≡ used_in c o
unfolding kept_used
one_waits c None = refl
one_waits c (Some s) = grind (arith, common_steps)

-- of one slab: its free places and its blocks, while it is kept, are all its places
one_spares : (c : ℕ) (o : Option SlabUse) → ((s : SlabUse) → o ≡ Some s → s.used ≤ per_slab s.class) → spare_in c o + kept_used c o ≡ cond (is_kept c o) (per_slab c) 0
unfolding kept_used
one_spares c None f = refl
one_spares c (Some s) f = grind (arith, common_steps, f s refl)

-- the blocks of a class are those that wait and those in its kept slabs
all_wait : (c : ℕ) (xs : List (Option SlabUse)) → sum_by (waiting_in c) xs + sum_by (kept_used c) xs ≡ sum_by (used_in c) xs
all_wait c [] = refl
all_wait c (x ∷ rest) = omega (arith, sum_by-cons (waiting_in c) x rest, sum_by-cons (kept_used c) x rest, sum_by-cons (used_in c) x rest, one_waits c x, all_wait c rest)

-- the places of so many slabs, and of one more where the test holds, as one product
times_one : (t : Bool) (k p : ℕ) → cond t p 0 + k * p ≡ (cond t 1 0 + k) * p
times_one true k p = grind arith
times_one false k p = omega arith

-- the free places and the blocks of a class's kept slabs are all places of these slabs
all_spare : (c : ℕ) (xs : List (Option SlabUse)) → ((n : ℕ) (s : SlabUse) → slice_index_or xs n None ≡ Some s → s.used ≤ per_slab s.class)
    → sum_by (spare_in c) xs + sum_by (kept_used c) xs ≡ count_by (is_kept c) xs * per_slab c
all_spare c [] f = omega arith
all_spare c (x ∷ rest) f = rw (count_cons (is_kept c) x rest) (let r = all_spare c rest (λ n s e. f (suc n) s e) in let o = one_spares c x (λ s e. f 0 s e) in
    let g : cond (is_kept c x) (per_slab c) 0 + count_by (is_kept c) rest * per_slab c ≡ (cond (is_kept c x) 1 0 + count_by (is_kept c) rest) * per_slab c =
    times_one (is_kept c x) (count_by (is_kept c) rest) (per_slab c) in
    omega (arith, sum_by-cons (spare_in c) x rest, sum_by-cons (kept_used c) x rest, o, r, g))

-- as many slabs as the quotient rounded up says have room for all the blocks
up_enough : (u p : ℕ) → 0 < p → u ≤ (u + (p - 1)) / p * p
up_enough u p pos = grind arith

-- where as many slabs are kept as are needed, the blocks of the others have room in them
pub begun_room : (h : Heap) → Fits h → (c : ℕ) → 0 < per_slab c → kept_of h c ≡ needed h c → waiting_of h c ≤ spare_of h c
begun_room h f c pos k = let e : used_of h c ≤ kept_of h c * per_slab c = subst (λ q. used_of h c ≤ q * per_slab c) (sym k) (up_enough (used_of h c) (per_slab c) pos) in
    omega (arith, all_wait c h.slabs, all_spare c h.slabs f, e)

-- the start of a pass leaves each class as many blocks
pub begun_used : (a b : Heap) → Begun a b → (c : ℕ) → used_of b c ≡ used_of a c
begun_used a b p c = sym (unmarked_used c b.slabs) ∙ (ap (sum_by (used_in c)) p.same ∙ used_kept c a.slabs)
  where
    unmarked_used : (c : ℕ) (xs : List (Option SlabUse)) → sum_by (used_in c) (map unmarked xs) ≡ sum_by (used_in c) xs
    unmarked_used c [] = refl
    unmarked_used c (None ∷ rest) = let g : used_in c None + sum_by (used_in c) (map unmarked rest) ≡ used_in c None + sum_by (used_in c) rest = omega (arith, unmarked_used c rest) in
        sum_by-cons (used_in c) None (map unmarked rest) ∙ (g ∙ sym (sum_by-cons (used_in c) None rest))
    unmarked_used c (Some s ∷ rest) = let g : used_in c (Some s) + sum_by (used_in c) (map unmarked rest) ≡ used_in c (Some s) + sum_by (used_in c) rest =
        omega (arith, unmarked_used c rest) in sum_by-cons (used_in c) (unmarked (Some s)) (map unmarked rest) ∙ (g ∙ sym (sum_by-cons (used_in c) (Some s) rest))

-- a pass that has begun is swept over nothing
pub begun_swept : (a b : Heap) → Begun a b → Swept b (λ r. ⊥)
begun_swept a b p = record { passing = p.passing; kept = p.kept; calm = λ r none. absurd none }

-- a number that has a slab lies within the list
in_slabs : (xs : List (Option SlabUse)) (n : ℕ) (s : SlabUse) → get_or xs n None ≡ Some s → n < length xs
in_slabs [] n s h = cc
in_slabs (x ∷ rest) zero s h = omega arith
in_slabs (x ∷ rest) (suc n) s h = let k : n < length rest = in_slabs rest n s h in omega arith

-- 1 where the test holds, else 0
abbrev one_if : Bool → ℕ
one_if b = cond b 1 0

-- a slab that isn't kept doesn't count as a kept one
from_none : (c : ℕ) (s : SlabUse) → s.kept ≡ false → one_if (is_kept c (Some s)) ≡ 0
from_none c s h = grind (arith, common_steps, h)

-- a slab that isn't kept doesn't count as a kept one after a block has left it
fewer_none : (c : ℕ) (s : SlabUse) → s.kept ≡ false → one_if (is_kept c (one_fewer s)) ≡ 0
fewer_none c s h = grind (arith, common_steps, h)

-- when a block leaves a slab, the count of its class falls by one and that of any other class stays
used_fewer : (c : ℕ) (s : SlabUse) → 0 < s.used → used_in c (one_fewer s) + cond (s.class == c) 1 0 ≡ used_in c (Some s)
used_fewer c s h = grind (arith, common_steps, h)

-- when a block comes to a slab of its class, the count of that class rises by one and any other stays
used_more : (c : ℕ) (t s : SlabUse) → t.class ≡ s.class → used_in c (Some (one_more_in t)) ≡ used_in c (Some t) + cond (s.class == c) 1 0
used_more c t s h = grind (arith, common_steps, h)

-- where the blocks of a slab that isn't kept want no move, no pass is open
off_by : (p : Bool) (o : Option SlabUse) (s : SlabUse) → (p && is_other o) ≡ false → o ≡ Some s → s.kept ≡ false → p ≡ false
off_by false o s h e k = refl
off_by true o s h e k = sym (ap is_other e ∙ ap not k) ∙ h

-- a conjunction whose first part is false is false
quiet : (p q : Bool) → p ≡ false → (p && q) ≡ false
quiet p q h = ap (λ x. x && q) h

-- the blocks of a kept slab want no move
kept_calm : (p : Bool) (o : Option SlabUse) (s : SlabUse) → o ≡ Some s → s.kept ≡ true → (p && is_other o) ≡ false
kept_calm false o s e k = refl
kept_calm true o s e k = ap is_other e ∙ ap not k

-- a move takes a block from its slab and puts it into one of the same class that is kept
module _ (a b : Heap) (at new : BlockRef) (m : Moves a b at new) where
  -- the slab that the block leaves is another than the one that it comes to
  moved_apart : at.slab ≢ new.slab
  moved_apart e = absurd (true_false (sym m.to_kept ∙ (ap (λ o. kept_at o) (sym m.to_at ∙ (ap (slab_at a) (sym e) ∙ m.from_at)) ∙ m.from_other)))
    where
      kept_at : Option SlabUse → Bool
      kept_at None = false
      kept_at (Some s) = s.kept

      true_false : true ≡ false → ⊥
      true_false h = cc

  -- a sum over all slabs changes by what its values at these two slabs change
  moved_sum : (f : Option SlabUse → ℕ) → f None ≡ 0 → sum_by f b.slabs + f (Some m.from) + f (Some m.to) ≡ sum_by f a.slabs + f (one_fewer m.from) + f (Some (one_more_in m.to))
  moved_sum f none =
      (let two : sum_by f b.slabs + f (slab_at a at.slab) + f (slab_at a new.slab) ≡ sum_by f a.slabs + f (slab_at b at.slab) + f (slab_at b new.slab) =
      sum_two f none a.slabs b.slabs at.slab new.slab moved_apart (in_slabs b.slabs new.slab _ m.entered) m.others in
      omega (arith, two, ap f m.from_at, ap f m.to_at, ap f m.left, ap f m.entered))

  -- each class has as many kept slabs as before
  moved_kept : (c : ℕ) → kept_of b c ≡ kept_of a c
  moved_kept c = (let g = moved_sum (λ o. cond (is_kept c o) 1 0) refl in omega (arith, g, from_none c m.from m.from_other, fewer_none c m.from m.from_other))

  -- each class has as many blocks as before, where the slab that the block left counted any
  moved_used : (c : ℕ) → 0 < m.from.used → used_of b c ≡ used_of a c
  moved_used c some = (let g = moved_sum (used_in c) refl in omega (arith, g, used_fewer c m.from some, used_more c m.to m.from m.one_class))

  -- a reference that wanted no move before wants none afterwards
  moved_calm : (r : BlockRef) → wants a r ≡ false → wants b r ≡ false
  moved_calm r h = elim (cases_eq r.slab at.slab) [
    | inl out ↦ quiet b.passing (is_other (slab_at b r.slab)) (m.passing ∙ off_by a.passing (slab_at a r.slab) m.from h (ap (slab_at a) out ∙ m.from_at) m.from_other)
    | inr stays ↦ elim (cases_eq r.slab new.slab) [
      | inl come ↦ kept_calm b.passing (slab_at b r.slab) (one_more_in m.to) (ap (slab_at b) come ∙ m.entered) m.to_kept
      | inr other ↦ ap (λ p. p && is_other (slab_at b r.slab)) m.passing ∙ (ap (λ o. a.passing && is_other o) (m.others r.slab stays other) ∙ h)
    ]
  ]

  -- the moved block wants no further move
  pub moved_settled : wants b new ≡ false
  moved_settled = kept_calm b.passing (slab_at b new.slab) (one_more_in m.to) m.entered m.to_kept

  -- after a move from a slab with blocks the heap is at least as calm
  pub calmer_moved : 0 < m.from.used → Calmer a b
  calmer_moved some = record { passing = m.passing; calm = moved_calm; kept = moved_kept; used = λ c. moved_used c some }
