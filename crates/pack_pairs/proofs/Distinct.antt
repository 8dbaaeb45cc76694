-- Whether a first text stands twice: by the spellings of the first texts, put in order.
use Rattle.std.proofs.Common.{◌≡◌, ℕ, zero, suc, ◌+◌, ◌*◌, ◌<◌, ◌≤◌, ◌↔◌, Bool, true, false, true≢false, List, [], ◌∷◌, ◌++◌, map, length, take, get_or, None, IsPermutation, IsSorted, Bor}
use Rattle.std.proofs.Common.{Ordering, Less, Equal, Greater, nat_cmp, is_eq, is_lt, refl, sym, ap, ap₂, ◌∙◌, arith}
use Rattle.std.specs.Str.{bytes_eq}
use Rattle.std.specs.Cmp.Lexicographic.{slice_cmp}
use Rattle.std.specs.List.{IsDistinct}
use Rattle.std.specs.Ordering.{ordering_reverse}
use Rattle.std.proofs.lemmas.Bool.{cond-false}
use Rattle.std.proofs.lemmas.Cmp.{on_total, nat_list_cmp_total, nat_list_eq_equiv}
use Rattle.std.proofs.lemmas.List.{get_or-map, length-map, map-append, take_more, take_all}
use Rattle.std.proofs.lemmas.List.Sorted.{IsPermutation-map, IsPermutation-sym}
use Rattle.std.proofs.lemmas.Map.Keys.{IsDistinct-from_apart, apart_from_distinct, IsDistinct-IsPermutation, sorted_from_all_adjacent, Less-from_sorted}
use Rattle.std.proofs.lemmas.Map.Text.{is_eq-slice_cmp}
use Rattle.std.proofs.lemmas.Slice.Eq.{bytes_eq-Decides}
use Rattle.listpack.specs.Entry.{text_of}
use Rattle.listpack.specs.Pack.{texts, spellings_of}
use Rattle.listpack.specs.Writing.{spelling}
use Rattle.listpack.proofs.Offsets.{length_texts}
use Rattle.pack_pairs.specs.Pairs.{Pair, IsPairPack, IsOnce, flat, paired, pairs, first_spellings, second_of}
use Rattle.pack_pairs.proofs.Lists.{no_pair, even_whole, paired_map, length_flat, first_is}
use Rattle.pack_pairs.proofs.Maps.{tied_same, tied_other_in_maps, none_parts}
use Rattle.pack_pairs.proofs.Packs.{texts_len}

-- ---- parts of bytes

abbrev pub Part : Type 0
Part = Bor (List ℕ)

abbrev pub bytes_in : List Part → List (List ℕ)
bytes_in parts = map (λ (part : Part). part.now) parts

-- the parts at i and j differ
abbrev pub DifferAt : List Part → ℕ → ℕ → Type 0
DifferAt parts i j = (d : Part) → bytes_eq (get_or parts i d).now (get_or parts j d).now ≡ false

differs : (a b : List ℕ) → (a ≡ b → ⊥) → bytes_eq a b ≡ false
differs a b other = tested (bytes_eq a b) refl
  where
    tested : (t : Bool) → bytes_eq a b ≡ t → t ≡ false
    tested true e = absurd (other ((bytes_eq-Decides a b).0 e))
    tested false e = refl

pub distinct_from_places : (parts : List Part) → ((i j : ℕ) → i < j → j < length parts → DifferAt parts i j) → IsDistinct bytes_eq (bytes_in parts)
distinct_from_places [] h = IsDistinct-from_apart bytes_eq [] (λ i j d less within. absurd (omega (arith, within)))
distinct_from_places (p ∷ parts) h = IsDistinct-from_apart bytes_eq (bytes_in (p ∷ parts)) apart
  where
    apart : (i j : ℕ) (d : List ℕ) → i < j → j < length (bytes_in (p ∷ parts)) → bytes_eq (get_or (bytes_in (p ∷ parts)) i d) (get_or (bytes_in (p ∷ parts)) j d) ≡ false
    apart i j d less within =
        let inside : j < length (p ∷ parts) = omega (arith, within, length-map (p ∷ parts) (λ (x : Part). x.now)) in
        ap₂ bytes_eq (get_or-map (λ (x : Part). x.now) (p ∷ parts) i p d (omega (arith, less, inside))) (get_or-map (λ (x : Part). x.now) (p ∷ parts) j p d inside) ∙ h i j less inside p

pub differ_from_distinct : (parts : List Part) (i j : ℕ) → IsDistinct bytes_eq (bytes_in parts) → i < j → j < length parts → DifferAt parts i j
differ_from_distinct parts i j h less within d =
    let inside : j < length (bytes_in parts) = omega (arith, within, length-map parts (λ (x : Part). x.now)) in
    ap₂ bytes_eq (sym (get_or-map (λ (x : Part). x.now) parts i d [] (omega (arith, less, within)))) (sym (get_or-map (λ (x : Part). x.now) parts j d [] within))
    ∙ apart_from_distinct bytes_eq (bytes_in parts) i j [] h less inside

-- parts that differ stay so in another order
pub distinct_moved : (old new : List Part) → IsPermutation old new → IsDistinct bytes_eq (bytes_in old) → IsDistinct bytes_eq (bytes_in new)
distinct_moved old new moved h =
    let laws = nat_list_eq_equiv in
    IsDistinct-IsPermutation bytes_eq laws.symm (bytes_in old) (bytes_in new) (IsPermutation-map (λ (x : Part). x.now) old new moved) h

pub distinct_moved_back : (old new : List Part) → IsPermutation old new → IsDistinct bytes_eq (bytes_in new) → IsDistinct bytes_eq (bytes_in old)
distinct_moved_back old new moved = distinct_moved new old (IsPermutation-sym old new moved)

abbrev pub part_cmp : Part → Part → Ordering
part_cmp a b = slice_cmp nat_cmp a.now b.now

only_less : (o p : Ordering) → o ≡ ordering_reverse p → is_lt p ≡ false → is_eq o ≡ false → o ≡ Less
only_less o Less e p q = cc
only_less o Equal e p q = let tie = ap is_eq (sym e) ∙ q in cc
only_less o Greater e p q = e

-- neighbours that are in order and differ rise, and so do all parts
pub differ_from_sorted : (parts : List Part) → IsSorted part_cmp parts → ((k : ℕ) → k + 1 < length parts → DifferAt parts k (k + 1))
    → (i j : ℕ) → i < j → j < length parts → DifferAt parts i j
differ_from_sorted parts sorted neighbours i j less within d =
    let total = on_total (λ (x : Part). x.now) nat_list_cmp_total in
    let rises : (k : ℕ) → k + 1 < length parts → part_cmp (get_or parts k d) (get_or parts (k + 1) d) ≡ Less =
    λ k h. let x = get_or parts k d in let y = get_or parts (k + 1) d in
    only_less (part_cmp x y) (part_cmp y x) (total.antisymm x y) (sorted k d (omega arith) h) (is_eq-slice_cmp x.now y.now ∙ neighbours k h d) in
    let below = Less-from_sorted part_cmp parts i j d (sorted_from_all_adjacent total parts d rises) less within in
    sym (is_eq-slice_cmp (get_or parts i d).now (get_or parts j d).now) ∙ ap is_eq below

-- ---- first texts by their places

-- a text that no pair has as its first one
absent : (q : List ℕ) (list : List Pair) (j : ℕ) → second_of q list ≡ None → j < length list → q ≡ (get_or list j no_pair).0 → ⊥
absent q [] j none within same = omega (arith, within)
absent q (p ∷ rest) zero none within same = true≢false (sym (tied_same q p.0 same) ∙ (none_parts q p rest none).0)
absent q (p ∷ rest) (suc j) none within same = absent q rest j (none_parts q p rest none).1 (omega (arith, within)) same

none_from_absent : (q : List ℕ) (list : List Pair) → ((j : ℕ) → j < length list → q ≡ (get_or list j no_pair).0 → ⊥) → second_of q list ≡ None
none_from_absent q [] h = refl
none_from_absent q (p ∷ rest) h =
    cond-false _ _ _ (tied_other_in_maps q p.0 (λ same. h 0 (omega arith) same)) ∙ none_from_absent q rest (λ j within same. h (suc j) (omega (arith, within)) same)

once_apart : (list : List Pair) (i j : ℕ) → IsOnce list → i < j → j < length list → (get_or list i no_pair).0 ≡ (get_or list j no_pair).0 → ⊥
once_apart [] i j once less within same = omega (arith, within)
once_apart (p ∷ rest) i zero once less within same = omega (arith, less)
once_apart (p ∷ rest) zero (suc j) once less within same = absent p.0 rest j once.0 (omega (arith, within)) same
once_apart (p ∷ rest) (suc i) (suc j) once less within same = once_apart rest i j once.1 (omega (arith, less)) (omega (arith, within)) same

once_from_apart : (list : List Pair) → ((i j : ℕ) → i < j → j < length list → (get_or list i no_pair).0 ≡ (get_or list j no_pair).0 → ⊥) → IsOnce list
once_from_apart [] h = tt
once_from_apart (p ∷ rest) h = (
  none_from_absent p.0 rest (λ j within same. h 0 (suc j) (omega arith) (omega (arith, within)) same),
  once_from_apart rest (λ i j less within same. h (suc i) (suc j) (omega (arith, less)) (omega (arith, within)) same),
)

-- ---- first texts and their spellings

-- pairs of texts and of spellings, each made of the other
module _ (ps qs : List Pair) (f g : List ℕ → List ℕ) (read : ps ≡ map (λ (p : Pair). (g p.0, g p.1)) qs) (made : qs ≡ map (λ (p : Pair). (f p.0, f p.1)) ps) where
  same_len : length ps ≡ length qs
  same_len = ap length read ∙ length-map qs (λ (p : Pair). (g p.0, g p.1))

  first_read : (i : ℕ) → i < length qs → (get_or ps i no_pair).0 ≡ g (get_or qs i no_pair).0
  first_read i h =
      ap (λ (list : List Pair). (get_or list i no_pair).0) read ∙ ap (λ (p : Pair). p.0) (get_or-map (λ (p : Pair). (g p.0, g p.1)) qs i no_pair no_pair h)

  first_made : (i : ℕ) → i < length ps → (get_or qs i no_pair).0 ≡ f (get_or ps i no_pair).0
  first_made i h =
      ap (λ (list : List Pair). (get_or list i no_pair).0) made ∙ ap (λ (p : Pair). p.0) (get_or-map (λ (p : Pair). (f p.0, f p.1)) ps i no_pair no_pair h)

  first_at : (i : ℕ) (d : List ℕ) → i < length qs → get_or (map (λ (p : Pair). p.0) qs) i d ≡ (get_or qs i no_pair).0
  first_at i d h = get_or-map (λ (p : Pair). p.0) qs i no_pair d h

  once_from_distinct : IsDistinct bytes_eq (map (λ (p : Pair). p.0) qs) → IsOnce ps
  once_from_distinct h = once_from_apart ps never
    where
      never : (i j : ℕ) → i < j → j < length ps → (get_or ps i no_pair).0 ≡ (get_or ps j no_pair).0 → ⊥
      never i j less within same =
          let second : j < length qs = omega (arith, within, same_len) in
          let first : i < length qs = omega (arith, less, second) in
          let is : get_or (map (λ (p : Pair). p.0) qs) i [] ≡ get_or (map (λ (p : Pair). p.0) qs) j [] =
          first_at i [] first ∙ first_made i (omega (arith, less, within)) ∙ ap f same ∙ sym (first_made j within) ∙ sym (first_at j [] second) in
          true≢false
          (sym ((bytes_eq-Decides (get_or (map (λ (p : Pair). p.0) qs) i []) (get_or (map (λ (p : Pair). p.0) qs) j [])).1 is)
          ∙ apart_from_distinct bytes_eq (map (λ (p : Pair). p.0) qs) i j [] h less (omega (arith, second, length-map qs (λ (p : Pair). p.0))))

  distinct_from_once : IsOnce ps → IsDistinct bytes_eq (map (λ (p : Pair). p.0) qs)
  distinct_from_once once = IsDistinct-from_apart bytes_eq (map (λ (p : Pair). p.0) qs) apart
    where
      apart : (i j : ℕ) (d : List ℕ) → i < j → j < length (map (λ (p : Pair). p.0) qs) → bytes_eq (get_or (map (λ (p : Pair). p.0) qs) i d) (get_or (map (λ (p : Pair). p.0) qs) j d) ≡ false
      apart i j d less within =
          let second : j < length qs = omega (arith, within, length-map qs (λ (p : Pair). p.0)) in
          let first : i < length qs = omega (arith, less, second) in
          differs (get_or (map (λ (p : Pair). p.0) qs) i d) (get_or (map (λ (p : Pair). p.0) qs) j d)
          (λ is. once_apart ps i j once less (omega (arith, second, same_len)) (first_read i first ∙ ap g (sym (first_at i d first) ∙ is ∙ first_at j d second) ∙ sym (first_read j second)))

-- ---- those of a listpack

module _ (bytes : List ℕ) (p : IsPairPack bytes) where
  as_texts : pairs bytes ≡ map (λ (q : Pair). (text_of q.0, text_of q.1)) (paired (spellings_of bytes))
  as_texts = paired_map text_of (spellings_of bytes)

  as_spellings : paired (spellings_of bytes) ≡ map (λ (q : Pair). (spelling q.0, spelling q.1)) (pairs bytes)
  as_spellings = ap paired p.written ∙ paired_map spelling (texts bytes)

  -- no first text stands twice exactly where no two spellings of first texts are equal
  pub once_iff : IsDistinct bytes_eq (first_spellings bytes) ↔ IsOnce (pairs bytes)
  once_iff = (
    once_from_distinct (pairs bytes) (paired (spellings_of bytes)) spelling text_of as_texts as_spellings,
    distinct_from_once (pairs bytes) (paired (spellings_of bytes)) spelling text_of as_texts as_spellings,
  )

  whole : spellings_of bytes ≡ flat (paired (spellings_of bytes))
  whole = even_whole (length (pairs bytes)) (spellings_of bytes) (omega (arith, length_texts bytes, texts_len bytes p))

  many : length (paired (spellings_of bytes)) ≡ length (pairs bytes)
  many = omega (arith, length_texts bytes, texts_len bytes p, ap length whole, length_flat (paired (spellings_of bytes)))

  pub firsts_len : length (first_spellings bytes) ≡ length (pairs bytes)
  firsts_len = length-map (paired (spellings_of bytes)) (λ (q : Pair). q.0) ∙ many

  -- a part more, the spelling of the next first element
  module _ (i : ℕ) (old new : List Part) (part : Part) (inside : i < length (pairs bytes)) (before : bytes_in old ≡ take i (first_spellings bytes))
      (here : part.now ≡ get_or (spellings_of bytes) (2 * i) []) (pushed : new ≡ old ++ part ∷ []) where
    next_first : get_or (first_spellings bytes) i [] ≡ get_or (spellings_of bytes) (2 * i) []
    next_first =
        get_or-map (λ (q : Pair). q.0) (paired (spellings_of bytes)) i no_pair [] (omega (arith, inside, many))
        ∙ sym (first_is (paired (spellings_of bytes)) i)
        ∙ ap (λ (xs : List (List ℕ)). get_or xs (2 * i) []) (sym whole)

    pub part_more : bytes_in new ≡ take (i + 1) (first_spellings bytes)
    part_more =
        ap bytes_in pushed
        ∙ map-append (λ (x : Part). x.now) old (part ∷ [])
        ∙ ap (λ (ks : List (List ℕ)). ks ++ part.now ∷ []) before
        ∙ ap (λ (k : List ℕ). take i (first_spellings bytes) ++ k ∷ []) (here ∙ sym next_first)
        ∙ sym (take_more (first_spellings bytes) i [] (omega (arith, inside, firsts_len)))

  pub all_parts : (n : ℕ) (parts : List Part) → length (pairs bytes) ≤ n → bytes_in parts ≡ take n (first_spellings bytes) → bytes_in parts ≡ first_spellings bytes
  all_parts n parts all is = is ∙ take_all n (first_spellings bytes) (omega (arith, all, firsts_len))
