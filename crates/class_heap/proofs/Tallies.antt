-- What each class's slabs hold, summed in one look at each slab.
use Rattle.std.specs.Prelude.{◌≡◌, ◌≢◌, ℕ, zero, suc, ◌+◌, ◌*◌, ◌^◌, ◌<◌, ◌≤◌, ◌==◌, Bool, true, false, ◌&&◌, not, nat_lt, List, [], ◌∷◌, take, replicate, length, sum_by, count_by}
use Rattle.std.specs.Prelude.{slice_set, slice_index_or, Option, Some, None, refl, ◌⊎◌}
use Rattle.std.proofs.Common.{arith, cond, ap, ◌∙◌, sym, subst, inl, inr, get_or, get_or-set_same, get_or-set_other, length-set}
use Rattle.std.proofs.lemmas.Bool.{cases_eq}
use Rattle.std.proofs.lemmas.Bool.Decides.{nat_tests}
use Rattle.std.proofs.lemmas.List.{length-map, length-replicate, take-map, get_or-replicate}
use Rattle.std.proofs.lemmas.List.Sums.{sum_by-cons, sum_by_more, count_by-le-length}
use Rattle.blocks.specs.Slabs.{SlabUse, per_slab, is_of, used_in, unmarked}
use Rattle.class_heap.specs.declared.entry.Entry.{Entry}
use Rattle.class_heap.specs.Classes.{slots_bounds}
use Rattle.class_heap.specs.Entries.{use_in, entry_at, class_in}
use Rattle.class_heap.specs.Laws.{slab_read, fits_in}
use Rattle.class_heap.specs.Marks.{holds_at_least, filled_in, uses, IsTally}
use Rattle.class_heap.proofs.Keeping.{bare_same, used_bare}

-- a slab of a class is none of another
of_one : (class c : ℕ) (o : Option SlabUse) → class_in o ≡ Some class → c ≢ class → is_of c o ≡ false
of_one class c None is ne = refl
of_one class c (Some s) is ne = (let e : s.class ≡ class = cc in grind (arith, nat_tests, e, ne))

-- where there is no slab, there is none of any class
of_none : (c : ℕ) (o : Option SlabUse) → class_in o ≡ None → is_of c o ≡ false
of_none c None is = refl
of_none c (Some s) is = cc

-- nothing is summed of no slab
pub tally_none : (count : ℕ → Option SlabUse → ℕ) → IsTally count [] (replicate 36 0)
tally_none count = record { classes = length-replicate {A = ℕ} 36 0; sum = λ class few. get_or-replicate 36 class 0 0 few }

module _ (count : ℕ → Option SlabUse → ℕ) (others : (class : ℕ) (o : Option SlabUse) → is_of class o ≡ false → count class o ≡ 0) where
  -- the sum over one slab more
  sum_more : (class : ℕ) (entries : List Entry) (i : ℕ) → i < length entries
      → sum_by (count class) (uses (take (i + 1) entries)) ≡ sum_by (count class) (uses (take i entries)) + count class (use_in (entry_at entries i))
  sum_more class entries i within =
      let later : sum_by (count class) (take (i + 1) (uses entries)) ≡ sum_by (count class) (uses (take (i + 1) entries)) = ap (sum_by (count class)) (take-map use_in (i + 1) entries) in
      let before : sum_by (count class) (take i (uses entries)) ≡ sum_by (count class) (uses (take i entries)) = ap (sum_by (count class)) (take-map use_in i entries) in
      let here : count class (get_or (uses entries) i None) ≡ count class (use_in (entry_at entries i)) = ap (count class) (slab_read true entries i) in
      omega (arith, later, before, here, sum_by_more (count class) (uses entries) i None (omega (arith, within, length-map entries use_in)))

  -- a slab changes the sum of its class
  pub tally_more : (entries : List Entry) (i class more : ℕ) (sums : List ℕ) → i < length entries → class < 36 → class_in (use_in (entry_at entries i)) ≡ Some class
      → more ≡ count class (use_in (entry_at entries i)) → IsTally count (uses (take i entries)) sums
      → IsTally count (uses (take (i + 1) entries)) (slice_set sums class (slice_index_or sums class 0 + more))
  tally_more entries i class more sums within few is one t = record {
    classes = length-set sums class (slice_index_or sums class 0 + more) ∙ t.classes;
    sum = λ c lt. by_class c lt (cases_eq c class);
  }
    where
      by_class : (c : ℕ) → c < 36 → (c ≡ class) ⊎ (c ≢ class)
          → slice_index_or (slice_set sums class (slice_index_or sums class 0 + more)) c 0 ≡ sum_by (count c) (uses (take (i + 1) entries))
      by_class c lt (inl same) =
          subst (λ k. slice_index_or (slice_set sums class (slice_index_or sums class 0 + more)) k 0 ≡ sum_by (count k) (uses (take (i + 1) entries))) (sym same)
          (let long = t.classes in
          let set : slice_index_or (slice_set sums class (slice_index_or sums class 0 + more)) class 0 ≡ slice_index_or sums class 0 + more
          = get_or-set_same sums class (slice_index_or sums class 0 + more) 0 (omega (arith, long, few)) in
          omega (arith, set, t.sum class few, sum_more class entries i within, one))
      by_class c lt (inr other) =
          let set : slice_index_or (slice_set sums class (slice_index_or sums class 0 + more)) c 0 ≡ slice_index_or sums c 0
          = get_or-set_other sums class c (slice_index_or sums class 0 + more) 0 other in
          omega (arith, set, t.sum c lt, sum_more c entries i within, others c (use_in (entry_at entries i)) (of_one class c (use_in (entry_at entries i)) is other))

  -- a number without a slab changes no sum
  pub tally_same : (entries : List Entry) (i : ℕ) (sums : List ℕ) → i < length entries → class_in (use_in (entry_at entries i)) ≡ None
      → IsTally count (uses (take i entries)) sums → IsTally count (uses (take (i + 1) entries)) sums
  tally_same entries i sums within none t = record {
    classes = t.classes;
    sum = λ c lt.
        omega (arith, t.sum c lt, sum_more c entries i within, others c (use_in (entry_at entries i)) (of_none c (use_in (entry_at entries i)) none));
  }

-- a slab of another class has no block of this class
pub used_other : (class : ℕ) (o : Option SlabUse) → is_of class o ≡ false → used_in class o ≡ 0
used_other class None h = refl
used_other class (Some s) h = ap (λ t. cond t s.used 0) h

-- a slab of another class isn't counted as one of this class with a block
pub filled_other : (class : ℕ) (o : Option SlabUse) → is_of class o ≡ false → filled_in class o ≡ 0
filled_other class None h = refl
filled_other class (Some s) h = ap (λ t. cond (t && not (nat_lt s.used 1)) 1 0) h

-- ---- no sum is large

-- no slab has more than 8,192 blocks
used_one : (class : ℕ) (o : Option SlabUse) → ((s : SlabUse) → o ≡ Some s → (s.used ≤ per_slab s.class) × (s.class < 36)) → used_in class o ≤ 8192
used_one class None f = omega arith
used_one class (Some s) f = by_test (s.class == class)
  where
    through : (a b c : ℕ) → a ≤ b → b ≤ c → a ≤ c
    through a b c p q = omega arith

    by_test : (t : Bool) → cond t s.used 0 ≤ 8192
    by_test true = (let p = f s refl in through s.used (per_slab s.class) 8192 p.0 (slots_bounds s.class p.1).1)
    by_test false = omega arith

-- the blocks of a class are at most 8,192 for each number
pub used_most : (class : ℕ) (entries : List Entry) → sum_by (used_in class) (uses entries) ≤ length entries * 8192
used_most class [] = omega arith
used_most class (e ∷ rest) =
    omega (arith, sum_by-cons (used_in class) (use_in e) (uses rest), used_one class (use_in e) (fits_in e), used_most class rest)

-- there are no more slabs with a block than numbers
pub filled_most : (class : ℕ) (entries : List Entry) → sum_by (filled_in class) (uses entries) ≤ length entries
filled_most class entries =
    let most : sum_by (filled_in class) (uses entries) ≤ length (uses entries) = count_by-le-length (holds_at_least class 1) (uses entries) in
    omega (arith, most, length-map entries use_in)

-- the first so many numbers are no more than all
pub part_few : (i : ℕ) (entries : List Entry) → length (take i entries) ≤ length entries
part_few zero entries = omega arith
part_few (suc i) [] = omega arith
part_few (suc i) (e ∷ rest) = (let few = part_few i rest in omega (arith, few))

-- a truth counts for no more than 1
pub truth_few : (t : Bool) (n : ℕ) → n ≡ cond t 1 0 → n ≤ 1
truth_few true n is = omega (arith, is)
truth_few false n is = omega (arith, is)

-- a sum of at most 8,192 a number is far from the greatest one, with one slab's more too
pub sum_fits : (count : ℕ → Option SlabUse → ℕ) (entries : List Entry) (i class more : ℕ) (sums : List ℕ) → class < 36 → ((part : List Entry) → sum_by (count class) (uses part) ≤ length part * 8192)
    → more ≤ 8192 → length entries ≤ 2 ^ 40 → IsTally count (uses (take i entries)) sums → slice_index_or sums class 0 + more < 2 ^ 60
sum_fits count entries i class more sums few most one long t = omega (arith, t.sum class few, most (take i entries), part_few i entries, one, long)

-- ---- marks change no sum

-- slabs that are the same but for their marks have as many blocks of a class
pub used_stays : (old new : List Entry) → ((n : ℕ) → unmarked (use_in (entry_at new n)) ≡ unmarked (use_in (entry_at old n))) → (class : ℕ)
    → sum_by (used_in class) (uses new) ≡ sum_by (used_in class) (uses old)
used_stays old new same class = bare_same old new same (used_in class) refl (used_bare class)

-- a slab without its mark counts as before among those of a class with a block
filled_bare : (class : ℕ) (o : Option SlabUse) → filled_in class (unmarked o) ≡ filled_in class o
filled_bare class None = refl
filled_bare class (Some s) = refl

-- as many of them have a block
pub filled_stays : (old new : List Entry) → ((n : ℕ) → unmarked (use_in (entry_at new n)) ≡ unmarked (use_in (entry_at old n))) → (class : ℕ)
    → count_by (holds_at_least class 1) (uses new) ≡ count_by (holds_at_least class 1) (uses old)
filled_stays old new same class = bare_same old new same (filled_in class) refl (filled_bare class)
