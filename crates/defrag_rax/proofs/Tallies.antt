-- Blocks counted list by list.
use Rattle.std.specs.Prelude.{◌≡◌, ℕ, zero, suc, ◌+◌, ◌-◌, ◌^◌, ◌<◌, ◌≤◌, min, List, [], ◌∷◌, ◌++◌, length, take, replicate, slice_index, refl}
use Rattle.std.specs.List.{flat_map}
use Rattle.std.proofs.Common.{arith, cond, ap, ◌∙◌, sym, get_or}
use Rattle.std.proofs.Math.Numerals.{add-one}
use Rattle.std.proofs.Math.Seq.{take-suc}
use Rattle.std.proofs.lemmas.List.Sums.{sum_by-append}
use Rattle.blocks.specs.declared.BlockRef.{BlockRef}
use Rattle.blocks.specs.Slabs.{Heap}
use Rattle.slab_counts.specs.Counts.{in_class, count_in}
use Rattle.defrag_rax.specs.Tally.{Counts}

pub count_append : (h : Heap) (class : ℕ) (xs ys : List BlockRef) → count_in h class (xs ++ ys) ≡ count_in h class xs + count_in h class ys
count_append h class xs ys = sum_by-append (λ r. cond (in_class h class r) 1 0) xs ys

-- no block was counted
pub counts_none : (h : Heap) (a : List ℕ) → ((class : ℕ) → class < 36 → slice_index a class < 2 ^ 64) → Counts h [] a a
counts_none h a fits class lt = omega (arith, fits class lt)

-- two lists were counted, which together are counted as a third
pub counts_more : (h : Heap) (xs ys zs : List BlockRef) (a b c : List ℕ) → ((class : ℕ) → count_in h class zs ≡ count_in h class xs + count_in h class ys)
    → Counts h xs a b → Counts h ys b c → Counts h zs a c
counts_more h xs ys zs a b c sums p q class lt = omega (arith, sums class, p class lt, q class lt)

-- another list that counts as many
pub counts_again : (h : Heap) (xs ys : List BlockRef) (a b : List ℕ) → ((class : ℕ) → count_in h class ys ≡ count_in h class xs) → Counts h xs a b → Counts h ys a b
counts_again h xs ys a b same p class lt = omega (arith, same class, p class lt)

-- what many things own, one after the other
module _ {X : Type 0} (h : Heap) (g : X → List BlockRef) (d : X) (none : g d ≡ []) where
  count_default : (class : ℕ) (x : X) → x ≡ d → count_in h class (g x) ≡ 0
  count_default class x is = ap (λ y. count_in h class (g y)) is ∙ ap (count_in h class) none

  -- one more
  pub count_step : (class n : ℕ) (xs : List X) → count_in h class (flat_map g (take (suc n) xs)) ≡ count_in h class (flat_map g (take n xs)) + count_in h class (g (get_or xs n d))
  count_step class n [] = omega (arith, count_default class d refl, nothing n)
    where
      nothing : (k : ℕ) → count_in h class (flat_map g (take k [])) ≡ 0
      nothing zero = refl
      nothing (suc k) = refl
  count_step class zero (x ∷ xs) = omega (arith, count_append h class (g x) [])
  count_step class (suc n) (x ∷ xs) =
      omega (
        arith,
        count_append h class (g x) (flat_map g (take (suc n) xs)),
        count_append h class (g x) (flat_map g (take n xs)),
        count_step class n xs,
      )

  -- one more, which is known
  pub count_turn : (class n : ℕ) (xs : List X) (x : X) → get_or xs n d ≡ x
      → count_in h class (flat_map g (take (n + 1) xs)) ≡ count_in h class (flat_map g (take n xs)) + count_in h class (g x)
  count_turn class n xs x is =
      ap (λ k. count_in h class (flat_map g (take k xs))) (add-one n) ∙ count_step class n xs
      ∙ ap (λ y. count_in h class (flat_map g (take n xs)) + count_in h class (g y)) is

  -- all of them, where nothing stands behind the first so many
  pub count_all : (class n : ℕ) (xs : List X) → ((j : ℕ) → n ≤ j → get_or xs j d ≡ d) → count_in h class (flat_map g xs) ≡ count_in h class (flat_map g (take n xs))
  count_all class zero [] end = refl
  count_all class (suc n) [] end = refl
  count_all class zero (x ∷ xs) end =
      omega (arith, count_append h class (g x) (flat_map g xs), count_default class x (end 0 (omega arith)), count_all class zero xs (λ j le. end (suc j) (omega arith)))
  count_all class (suc n) (x ∷ xs) end =
      omega (
        arith,
        count_append h class (g x) (flat_map g xs),
        count_append h class (g x) (flat_map g (take n xs)),
        count_all class n xs (λ j le. end (suc j) (omega (arith, le))),
      )

-- one more reference of a list
pub count_next : (h : Heap) (xs : List BlockRef) (n : ℕ) (at : BlockRef) → n < length xs → at ≡ get_or xs n at → (class : ℕ)
    → count_in h class (take (n + 1) xs) ≡ count_in h class (take n xs) + count_in h class (at ∷ [])
count_next h xs n at lt is class =
    ap (count_in h class) (ap (λ k. take k xs) (add-one n) ∙ take-suc xs n at lt ∙ ap (λ x. take n xs ++ (x ∷ [])) (sym is)) ∙ count_append h class (take n xs) (at ∷ [])

-- a tally that was begun with zeros
zeros : (n i : ℕ) → slice_index (replicate n 0) i ≡ 0
zeros zero i = refl
zeros (suc n) zero = refl
zeros (suc n) (suc i) = zeros n i

pub counted_anew : (h : Heap) (xs : List BlockRef) (b : List ℕ) → Counts h xs (replicate 36 0) b → (class : ℕ) → class < 36
    → slice_index b class ≡ min (2 ^ 64 - 1) (count_in h class xs)
counted_anew h xs b p class lt = omega (arith, p class lt, zeros 36 class)
