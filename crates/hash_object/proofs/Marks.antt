-- The marks of a dictionary's blocks, and how many blocks and vacant item numbers have marks within bounds.
use Rattle.std.proofs.Common.{◌≡◌, ◌≢◌, ◌⊎◌, ℕ, zero, suc, ◌+◌, ◌*◌, ◌<◌, ◌≤◌, Bool, true, false, cond, List, [], ◌∷◌, ◌++◌, Option, Some, None, IsSome, is_some, flat_map, slice_get}
use Rattle.std.proofs.Common.{count_by, length, refl, sym, ap, ◌∙◌, subst, arith, inl, inr}
use mir.Val.{bool_byte}
use Rattle.std.specs.Prelude.{◌/◌, ◌%◌}
use Rattle.std.proofs.lemmas.Bool.{cases_Bool, cases_eq, cond-true, cond-false}
use Rattle.std.proofs.lemmas.Bool.Decides.{nat_tests}
use Rattle.blocks.specs.declared.BlockRef.{BlockRef}
use Rattle.blocks.proofs.Sums.{count_cons}
use Rattle.rehash_dict.specs.Table.{Element, at_item, item, table_len}
use Rattle.hash_object.specs.declared.fields.Body.TheVariants.{Table}
use Rattle.hash_object.specs.Hashed.{FieldTable}
use Rattle.hash_object.specs.Relocation.{marks_from, vacant_mark, vacant_below, units_in, block_in}
use Rattle.collection_walk.specs.Marks.{items_from, is_within}
use Rattle.collection_walk.proofs.Numbered.{items_alike}
use Rattle.hash_object.proofs.Listed.{Slots}
use Rattle.hash_object.proofs.Tables.{names}
use Rattle.collection_walk.proofs.Ranks.{rank, rank_zero, rank_past, rank_next, rank_all}

-- ---- the two marks of an item number

-- the block of an element's field, where there is an element
abbrev pub key_slot : Option (Element BlockRef) → Option BlockRef
key_slot None = None
key_slot (Some e) = Some e.key

-- the block of an element's value, where there is an element
abbrev pub value_slot : Option (Element BlockRef) → Option BlockRef
value_slot None = None
value_slot (Some e) = Some e.value

-- the even mark of the next item number is two above that of this one
next_even : (k : ℕ) → 2 * suc k ≡ suc (suc (2 * k))
next_even k = omega arith

-- the odd mark of the next item number is two above that of this one
next_odd : (k : ℕ) → 2 * suc k + 1 ≡ suc (suc (2 * k + 1))
next_odd k = omega arith

-- the block of the mark that is twice an item number is that of its element's field
pub even_is : (items : Slots) (k : ℕ) → block_in items (2 * k) ≡ key_slot (at_item items k)
even_is [] k = refl
even_is (None ∷ items) zero = refl
even_is (Some e ∷ items) zero = refl
even_is (None ∷ items) (suc k) = ap (block_in (None ∷ items)) (next_even k) ∙ even_is items k
even_is (Some e ∷ items) (suc k) = ap (block_in (Some e ∷ items)) (next_even k) ∙ even_is items k

-- the block of the mark that is one above twice an item number is that of its element's value
pub odd_is : (items : Slots) (k : ℕ) → block_in items (2 * k + 1) ≡ value_slot (at_item items k)
odd_is [] k = refl
odd_is (None ∷ items) zero = refl
odd_is (Some e ∷ items) zero = refl
odd_is (None ∷ items) (suc k) = ap (block_in (None ∷ items)) (next_odd k) ∙ odd_is items k
odd_is (Some e ∷ items) (suc k) = ap (block_in (Some e ∷ items)) (next_odd k) ∙ odd_is items k

-- a mark is one of the two of an item number
pub halves : (mark : ℕ) → (k : ℕ) × ((mark ≡ 2 * k) ⊎ (mark ≡ 2 * k + 1))
halves zero = (0, inl refl)
halves (suc zero) = (0, inr refl)
halves (suc (suc mark)) = (let p = halves mark in (
  suc p.0,
  elim p.1 [
    | inl even ↦ inl (omega (arith, even))
    | inr odd ↦ inr (omega (arith, odd))
  ],
))

-- the block of a mark is one of the two of the element of its item number
-- the block of an even mark is that of the field of the element at half the mark
pub even_at : (items : Slots) (mark : ℕ) → mark % 2 ≡ 0 → block_in items mark ≡ key_slot (at_item items (mark / 2))
even_at items mark even = (let same : mark ≡ 2 * (mark / 2) = omega (arith, even) in ap (block_in items) same ∙ even_is items (mark / 2))

-- the block of an odd mark is that of the value of the element at half the mark
pub odd_at : (items : Slots) (mark : ℕ) → mark % 2 ≢ 0 → block_in items mark ≡ value_slot (at_item items (mark / 2))
odd_at items mark odd = (let same : mark ≡ 2 * (mark / 2) + 1 = omega (arith, odd) in ap (block_in items) same ∙ odd_is items (mark / 2))

-- the marks of a vacant item number have no block
pub none_at : (items : Slots) (mark : ℕ) → at_item items (mark / 2) ≡ None → block_in items mark ≡ None
none_at items mark none = elim (cases_eq (mark % 2) 0) [
  | inl even ↦ even_at items mark even ∙ ap key_slot none
  | inr odd ↦ odd_at items mark odd ∙ ap value_slot none
]

-- where there is a field's block there is an element
no_slot : (o : Option (Element BlockRef)) → IsSome (key_slot o) → IsSome o
no_slot None h = h
no_slot (Some e) h = refl

-- where there is a value's block there is an element
no_value : (o : Option (Element BlockRef)) → IsSome (value_slot o) → IsSome o
no_value None h = h
no_value (Some e) h = refl

module _ (t : FieldTable) (below : (at : ℕ) → IsSome (item t at) → at < t.top) where
  -- a block's mark is below twice the number that no item number reaches
  pub block_below : (mark : ℕ) → IsSome (block_in t.items mark) → mark < 2 * t.top
  block_below mark some = (let p = halves mark in elim p.1 [
    | inl even ↦ omega (arith, even, below p.0 (no_slot (item t p.0) (subst (λ o. IsSome o) (ap (block_in t.items) even ∙ even_is t.items p.0) some)))
    | inr odd ↦ omega (arith, odd, below p.0 (no_value (item t p.0) (subst (λ o. IsSome o) (ap (block_in t.items) odd ∙ odd_is t.items p.0) some)))
  ])

-- ---- marks and references

-- a reference at an index is the block of the mark at that index
mark_ref : (n : ℕ) (items : Slots) (index mark : ℕ) → slice_get (marks_from n items) index ≡ Some mark
    → (k : ℕ) × (mark ≡ 2 * n + k) × (slice_get (flat_map names items) index ≡ block_in items k) × IsSome (block_in items k)
mark_ref n [] index mark h = cc
mark_ref n (None ∷ items) index mark h = (let p = mark_ref (suc n) items index mark h in (suc (suc p.0), omega (arith, p.1), p.2, p.3))
mark_ref n (Some e ∷ items) zero mark h = (let same : 2 * n ≡ mark = cc in (0, omega (arith, same), refl, refl))
mark_ref n (Some e ∷ items) (suc zero) mark h = (let same : 2 * n + 1 ≡ mark = cc in (1, omega (arith, same), refl, refl))
mark_ref n (Some e ∷ items) (suc (suc index)) mark h = (let p = mark_ref (suc n) items index mark h in (suc (suc p.0), omega (arith, p.1), p.2, p.3))

-- with item numbers from 0, the reference at an index is the block of the mark there, and there is one
pub mark_block : (items : Slots) (index mark : ℕ) → slice_get (marks_from 0 items) index ≡ Some mark → (slice_get (flat_map names items) index ≡ block_in items mark) × IsSome (block_in items mark)
mark_block items index mark h =
    let p = mark_ref 0 items index mark h in
    let same : p.0 ≡ mark = omega (arith, p.1) in
    (p.2 ∙ ap (block_in items) same, subst (λ k. IsSome (block_in items k)) same p.3)

-- the two marks of an item number
abbrev both : ℕ → List ℕ
both n = (2 * n) ∷ (2 * n + 1) ∷ []

-- two marks for each element
marks_of : (n : ℕ) (items : Slots) → marks_from n items ≡ flat_map both (items_from n items)
marks_of n [] = refl
marks_of n (None ∷ items) = marks_of (suc n) items
marks_of n (Some e ∷ items) = ap (λ zs. (2 * n) ∷ (2 * n + 1) ∷ zs) (marks_of (suc n) items)

-- elements at the same item numbers have the same marks
pub marks_alike : (n : ℕ) (xs ys : Slots) → ((k : ℕ) → is_some (at_item ys k) ≡ is_some (at_item xs k)) → marks_from n ys ≡ marks_from n xs
marks_alike n xs ys h = marks_of n ys ∙ ap (flat_map both) (items_alike n xs ys h) ∙ sym (marks_of n xs)

-- ---- counts

-- 1 where a number is this mark, else 0
abbrev at_one : ℕ → ℕ → ℕ
at_one mark x = cond {A = ℕ} (is_within mark (suc mark) x) 1 0

-- a mark counts 1 at itself
one_here : (mark : ℕ) → at_one mark mark ≡ 1
one_here mark = (let yes' : is_within mark (suc mark) mark ≡ true = grind (arith, nat_tests) in cond-true _ _ _ yes')

-- another number counts 0 at a mark
one_else : (mark x : ℕ) → x ≢ mark → at_one mark x ≡ 0
one_else mark x other = (let no' : is_within mark (suc mark) x ≡ false = out (nat_lt_cases x mark other) in cond-false _ _ _ no')
  where
    nat_lt_cases : (x mark : ℕ) → x ≢ mark → (x < mark) ⊎ (mark < x)
    nat_lt_cases x mark other = grind (arith, nat_tests)

    out : (x < mark) ⊎ (mark < x) → is_within mark (suc mark) x ≡ false
    out (inl low) = grind (arith, nat_tests)
    out (inr high) = grind (arith, nat_tests)

module _ (start end : ℕ) (low : start ≤ end) where
  -- with an end that is one higher, a number counts what it counted and what it counts at the old end
  one_more : (x : ℕ) → cond {A = ℕ} (is_within start (suc end) x) 1 0 ≡ cond {A = ℕ} (is_within start end x) 1 0 + at_one end x
  one_more x = elim (cases_Bool (is_within start end x)) [
    | inl in' ↦ (let more : is_within start (suc end) x ≡ true = grind (arith, nat_tests) in
        let apart : x ≢ end = λ same. absurd (let bad : x < end = grind (arith, nat_tests) in omega (arith, bad, same)) in
        omega (arith, cond-true {A = ℕ} (is_within start (suc end) x) 1 0 more, cond-true {A = ℕ} (is_within start end x) 1 0 in', one_else end x apart))
    | inr out' ↦ elim (cases_Bool (is_within end (suc end) x)) [
      | inl here ↦ (let more : is_within start (suc end) x ≡ true = grind (arith, nat_tests) in
          omega (arith, cond-true {A = ℕ} (is_within start (suc end) x) 1 0 more, cond-false {A = ℕ} (is_within start end x) 1 0 out', cond-true {A = ℕ} (is_within end (suc end) x) 1 0 here))
      | inr gone ↦ (let none : is_within start (suc end) x ≡ false = grind (arith, nat_tests) in
          omega (arith, cond-false {A = ℕ} (is_within start (suc end) x) 1 0 none, cond-false {A = ℕ} (is_within start end x) 1 0 out', cond-false {A = ℕ} (is_within end (suc end) x) 1 0 gone))
    ]
  ]

  -- within bounds that end one higher are the numbers within the old ones and those at the old end
  count_more : (xs : List ℕ) → count_by (is_within start (suc end)) xs ≡ count_by (is_within start end) xs + count_by (is_within end (suc end)) xs
  count_more [] = refl
  count_more (x ∷ xs) = omega (arith, count_cons (is_within start (suc end)) x xs, count_cons (is_within start end) x xs, count_cons (is_within end (suc end)) x xs, one_more x, count_more xs)

-- no number is within bounds that end where they start
pub count_none : (start : ℕ) (xs : List ℕ) → count_by (is_within start start) xs ≡ 0
count_none start [] = refl
count_none start (x ∷ xs) =
    let no' : is_within start start x ≡ false = grind (arith, nat_tests) in
    omega (arith, count_cons (is_within start start) x xs, cond-false {A = ℕ} (is_within start start x) 1 0 no', count_none start xs)

-- two tests that agree on each element of a list count the same in it
pub count_agree : (p q : ℕ → Bool) (xs : List ℕ) → ((i x : ℕ) → slice_get xs i ≡ Some x → p x ≡ q x) → count_by p xs ≡ count_by q xs
count_agree p q [] h = refl
count_agree p q (x ∷ xs) h =
    let here : cond {A = ℕ} (p x) 1 0 ≡ cond {A = ℕ} (q x) 1 0 = ap (λ b. cond {A = ℕ} b 1 0) (h 0 x refl) in
    omega (arith, count_cons p x xs, count_cons q x xs, here, count_agree p q xs (λ i y is. h (suc i) y is))

-- ---- what one mark counts

-- a mark below twice an item number isn't among the marks from that item number on
behind_none : (n : ℕ) (items : Slots) (mark : ℕ) → mark < 2 * n → count_by (is_within mark (suc mark)) (marks_from n items) ≡ 0
behind_none n [] mark low = refl
behind_none n (None ∷ items) mark low = behind_none (suc n) items mark (omega (arith, low))
behind_none n (Some e ∷ items) mark low = omega (
  arith,
  count_cons (is_within mark (suc mark)) (2 * n) ((2 * n + 1) ∷ marks_from (suc n) items),
  one_else mark (2 * n) (λ same. omega (arith, same, low)),
  count_cons (is_within mark (suc mark)) (2 * n + 1) (marks_from (suc n) items),
  one_else mark (2 * n + 1) (λ same. omega (arith, same, low)),
  behind_none (suc n) items mark (omega (arith, low)),
)

-- 1 where a mark has a block, else 0
abbrev has_block : Slots → ℕ → ℕ
has_block items k = cond {A = ℕ} (is_some (block_in items k)) 1 0

-- a mark stands once among the marks where it has a block, and else not at all
marks_at : (n : ℕ) (items : Slots) (k mark : ℕ) → mark ≡ 2 * n + k → count_by (is_within mark (suc mark)) (marks_from n items) ≡ has_block items k
marks_at n [] k mark is = refl
marks_at n (None ∷ items) zero mark is = behind_none (suc n) items mark (omega (arith, is))
marks_at n (None ∷ items) (suc zero) mark is = behind_none (suc n) items mark (omega (arith, is))
marks_at n (None ∷ items) (suc (suc k)) mark is = marks_at (suc n) items k mark (omega (arith, is))
marks_at n (Some e ∷ items) zero mark is = omega (
  arith,
  count_cons (is_within mark (suc mark)) (2 * n) ((2 * n + 1) ∷ marks_from (suc n) items),
  ap (at_one mark) (let same : 2 * n ≡ mark = omega (arith, is) in same),
  one_here mark,
  count_cons (is_within mark (suc mark)) (2 * n + 1) (marks_from (suc n) items),
  one_else mark (2 * n + 1) (λ same. omega (arith, same, is)),
  behind_none (suc n) items mark (omega (arith, is)),
)
marks_at n (Some e ∷ items) (suc zero) mark is = omega (
  arith,
  count_cons (is_within mark (suc mark)) (2 * n) ((2 * n + 1) ∷ marks_from (suc n) items),
  one_else mark (2 * n) (λ same. omega (arith, same, is)),
  count_cons (is_within mark (suc mark)) (2 * n + 1) (marks_from (suc n) items),
  ap (at_one mark) (let same : 2 * n + 1 ≡ mark = omega (arith, is) in same),
  one_here mark,
  behind_none (suc n) items mark (omega (arith, is)),
)
marks_at n (Some e ∷ items) (suc (suc k)) mark is = omega (
  arith,
  count_cons (is_within mark (suc mark)) (2 * n) ((2 * n + 1) ∷ marks_from (suc n) items),
  one_else mark (2 * n) (λ same. omega (arith, same, is)),
  count_cons (is_within mark (suc mark)) (2 * n + 1) (marks_from (suc n) items),
  one_else mark (2 * n + 1) (λ same. omega (arith, same, is)),
  marks_at (suc n) items k mark (omega (arith, is)),
)

-- the byte of a test is 1 where it is true, else 0
pub byte_is : (b : Bool) → bool_byte b ≡ cond {A = ℕ} b 1 0
byte_is true = refl
byte_is false = refl

module _ (t : FieldTable) where
  -- an item number adds nothing to the vacant ones counted at a mark other than twice it
  slot_other : (o : Option (Element BlockRef)) (n mark : ℕ) (rest : List ℕ) → 2 * n ≢ mark → count_by (is_within mark (suc mark)) (vacant_mark n o ++ rest) ≡ count_by (is_within mark (suc mark)) rest
  slot_other None n mark rest apart = omega (arith, count_cons (is_within mark (suc mark)) (2 * n) rest, one_else mark (2 * n) apart)
  slot_other (Some e) n mark rest apart = refl

  -- an item number adds 1 to the vacant ones counted at twice it where it is vacant, and else nothing
  slot_here : (o : Option (Element BlockRef)) (n mark : ℕ) (rest : List ℕ) → mark ≡ 2 * n
      → count_by (is_within mark (suc mark)) (vacant_mark n o ++ rest) ≡ cond {A = ℕ} (is_some o) 0 1 + count_by (is_within mark (suc mark)) rest
  slot_here None n mark rest is = omega (arith, count_cons (is_within mark (suc mark)) (2 * n) rest, ap (at_one mark) (sym is), one_here mark)
  slot_here (Some e) n mark rest is = omega arith

  -- no vacant item number below a number has a mark of twice that number or above
  vacant_above : (n mark : ℕ) → 2 * n ≤ mark → count_by (is_within mark (suc mark)) (vacant_below t n) ≡ 0
  vacant_above zero mark high = refl
  vacant_above (suc n) mark high = slot_other (item t n) n mark (vacant_below t n) (λ same. omega (arith, same, high)) ∙ vacant_above n mark (omega (arith, high))

  -- no vacant item number has an odd mark
  vacant_odd : (n k mark : ℕ) → mark ≡ 2 * k + 1 → count_by (is_within mark (suc mark)) (vacant_below t n) ≡ 0
  vacant_odd zero k mark is = refl
  vacant_odd (suc n) k mark is = slot_other (item t n) n mark (vacant_below t n) (λ same. omega (arith, same, is)) ∙ vacant_odd n k mark is

  -- twice an item number is once among the marks of the vacant ones where it is vacant, and else not at all
  vacant_even : (n k mark : ℕ) → mark ≡ 2 * k → k < n → count_by (is_within mark (suc mark)) (vacant_below t n) ≡ cond {A = ℕ} (is_some (item t k)) 0 1
  vacant_even zero k mark is low = absurd (omega (arith, low))
  vacant_even (suc n) k mark is low = elim (last k n low) [
    | inl here ↦ slot_here (item t n) n mark (vacant_below t n) (omega (arith, is, here))
        ∙ (let none = vacant_above n mark (omega (arith, is, here)) in omega (arith, none, ap (λ i. cond {A = ℕ} (is_some (item t i)) 0 1) here))
    | inr below ↦ slot_other (item t n) n mark (vacant_below t n) (λ same. omega (arith, same, is, below)) ∙ vacant_even n k mark is below
  ]
    where
      last : (k n : ℕ) → k < suc n → (k ≡ n) ⊎ (k < n)
      last k n low = grind (arith, nat_tests)

  -- an item number either has the block of a field or is vacant
  one_each : (o : Option (Element BlockRef)) → cond {A = ℕ} (is_some (key_slot o)) 1 0 + cond {A = ℕ} (is_some o) 0 1 ≡ 1
  one_each None = refl
  one_each (Some e) = refl

  -- an even mark is that of a field's block or of a vacant item number
  pub unit_even : (mark : ℕ) → mark % 2 ≡ 0 → mark < 2 * t.top → units_in (Table t) mark (suc mark) ≡ 1
  unit_even mark even low = elim p.1 [
    | inl is ↦ omega (
      arith,
      marks_at 0 t.items mark mark (omega arith),
      vacant_even t.top p.0 mark is (omega (arith, is, low)),
      ap (λ o. cond {A = ℕ} (is_some o) 1 0)
          (ap (block_in t.items) is ∙ even_is t.items p.0),
      one_each (item t p.0),
    )
    | inr is ↦ absurd (omega (arith, is, even))
  ]
    where
      p : (k : ℕ) × ((mark ≡ 2 * k) ⊎ (mark ≡ 2 * k + 1))
      p = halves mark

  -- an odd mark is that of a value's block, or of nothing
  pub unit_odd : (mark : ℕ) → mark % 2 ≢ 0 → units_in (Table t) mark (suc mark) ≡ cond {A = ℕ} (is_some (block_in t.items mark)) 1 0
  unit_odd mark odd = elim p.1 [
    | inl is ↦ absurd (odd (omega (arith, is)))
    | inr is ↦ omega (arith, marks_at 0 t.items mark mark (omega arith), vacant_odd t.top p.0 mark is)
  ]
    where
      p : (k : ℕ) × ((mark ≡ 2 * k) ⊎ (mark ≡ 2 * k + 1))
      p = halves mark

  -- at a mark below twice the top there is at most one block or vacant item number
  pub unit_most : (mark : ℕ) → mark < 2 * t.top → units_in (Table t) mark (suc mark) ≤ 1
  unit_most mark low = elim (cases_eq (mark % 2) 0) [
    | inl even ↦ omega (arith, unit_even mark even low)
    | inr odd ↦ omega (arith, unit_odd mark odd, most (block_in t.items mark))
  ]
    where
      most : (o : Option BlockRef) → cond {A = ℕ} (is_some o) 1 0 ≤ 1
      most None = omega arith
      most (Some r) = omega arith

  -- within bounds that end one higher are the same blocks and vacant item numbers and those at the old end
  pub units_more : (start end : ℕ) → start ≤ end → units_in (Table t) start (suc end) ≡ units_in (Table t) start end + units_in (Table t) end (suc end)
  units_more start end low = omega (arith, count_more start end low (marks_from 0 t.items), count_more start end low (vacant_below t t.top))

  -- no block and no vacant item number has a mark within bounds that end where they start
  pub units_none : (start : ℕ) → units_in (Table t) start start ≡ 0
  units_none start = omega (arith, count_none start (marks_from 0 t.items), count_none start (vacant_below t t.top))

  -- the marks of vacant item numbers are below twice the number
  pub vacant_low : (n i mark : ℕ) → slice_get (vacant_below t n) i ≡ Some mark → mark < 2 * n
  vacant_low zero i mark h = cc
  vacant_low (suc n) i mark h = by_slot (item t n) i (λ j is. vacant_low n j mark is) h
    where
      by_slot : (o : Option (Element BlockRef)) (i : ℕ) → ((j : ℕ) → slice_get (vacant_below t n) j ≡ Some mark → mark < 2 * n)
          → slice_get (vacant_mark n o ++ vacant_below t n) i ≡ Some mark → mark < 2 * suc n
      by_slot (Some e) i rest h = omega (arith, rest i h)
      by_slot None zero rest h = (let same : 2 * n ≡ mark = cc in omega (arith, same))
      by_slot None (suc i) rest h = omega (arith, rest i h)

-- ---- all of them

-- each element has two marks
marks_len : (n : ℕ) (items : Slots) → length (marks_from n items) ≡ 2 * count_by is_some items
marks_len n [] = refl
marks_len n (None ∷ items) = omega (arith, marks_len (suc n) items, count_cons (is_some {T = Element BlockRef}) None items)
marks_len n (Some e ∷ items) = omega (arith, marks_len (suc n) items, count_cons is_some (Some e) items)

-- each item number below a number is an element's or vacant
vacant_len : (t : FieldTable) (n : ℕ) → length (vacant_below t n) + rank t.items n ≡ n
vacant_len t zero = omega (arith, rank_zero t.items)
vacant_len t (suc n) = by_slot (item t n) refl (vacant_len t n)
  where
    by_slot : (o : Option (Element BlockRef)) → item t n ≡ o → length (vacant_below t n) + rank t.items n ≡ n → length (vacant_mark n o ++ vacant_below t n) + rank t.items (suc n) ≡ suc n
    by_slot None is before = omega (arith, rank_past t.items n is, before)
    by_slot (Some e) is before = omega (arith, rank_next t.items n e is, before)

-- blocks and vacant item numbers are one for each item number, and one more for each element
pub all_units : (t : FieldTable) → ((at : ℕ) → IsSome (item t at) → at < t.top) → length (marks_from 0 t.items) + length (vacant_below t t.top) ≡ t.top + table_len t
all_units t below = omega (arith, marks_len 0 t.items, vacant_len t t.top, rank_all t.items t.top below)
