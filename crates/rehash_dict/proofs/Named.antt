-- What the steps make of tables doesn't depend on how the elements are named, only on their hashes.
use Rattle.std.proofs.Common.{◌≡◌, ℕ, zero, suc, ◌+◌, ◌*◌, ◌%◌, ◌<◌, Bool, true, false, not, ◌&&◌, cond, eqb, List, [], ◌∷◌, set, length, map, Option, Some, None, refl, sym, ap, ◌∙◌}
use Rattle.std.proofs.Common.{arith, max, nat_lt}
use Rattle.std.specs.Prelude.{nat_le, ◌==◌}
use Rattle.std.proofs.lemmas.List.{length-map, map-set}
use Rattle.std.proofs.lemmas.List.Sums.{sum_by-cons}
use Rattle.std.proofs.Math.ListN.{get_or-map}
use Rattle.rev_cursor.specs.Span.{times}
use Rattle.rehash_dict.specs.Tables.{Tables, bucket, count, no_elements, is_rehashing, ended, full_within, begun, wants_shrink, shrunk, with_room, goes_to, put, put_all, moved, stepped_to}
use Rattle.rehash_dict.specs.Tables.{stepped, rehashed, joined, inserted, without, removed, named, least_power}
use Rattle.rehash_dict.proofs.Counts.{times_here}

cond_ap : {A B : Type 0} (g : A → B) (b : Bool) (x y : A) → g (cond b x y) ≡ cond b (g x) (g y)
cond_ap g true x y = refl
cond_ap g false x y = refl

module _ {X Y : Type 0} (f : X → Y) where
  pub bucket_named : (rows : List (List X)) (k : ℕ) → bucket (map (map f) rows) k ≡ map f (bucket rows k)
  bucket_named rows k = get_or-map (map f) rows k []

  pub count_named : (rows : List (List X)) → count (map (map f) rows) ≡ count rows
  count_named [] = refl
  count_named (r ∷ rest) = omega (arith, sum_by-cons length (map f r) (map (map f) rest), sum_by-cons length r rest, length-map r f, count_named rest)

  many : (rows : List (List X)) → length (map (map f) rows) ≡ length rows
  many rows = length-map rows (map f)

  none_named_in_named : (n : ℕ) → map (map f) (no_elements {X = X} n) ≡ no_elements {X = Y} n
  none_named_in_named zero = refl
  none_named_in_named (suc n) = ap (λ r. [] ∷ r) (none_named_in_named n)

  going : (t : Tables X) → is_rehashing (named f t) ≡ is_rehashing t
  going t = ap (nat_lt 0) (many t.newer)

  pub ended_named : (t : Tables X) → named f (ended t) ≡ ended (named f t)
  ended_named t =
      let test : (is_rehashing (named f t) && (count (map (map f) t.older) == 0)) ≡ (is_rehashing t && (count t.older == 0)) = λ i. going t i && (count_named t.older i == 0) in
      cond_ap (named f) (is_rehashing t && (count t.older == 0)) _ _ ∙ ap (λ b. cond b (record { older = map (map f) t.newer; newer = []; position = 0 }) (named f t)) (sym test)

  pub full_named : (rows : List (List X)) (n at : ℕ) → full_within (map (map f) rows) n at ≡ full_within rows n at
  unfolding full_within
  full_named rows zero at = refl
  full_named rows (suc n) at =
      let len : length (bucket (map (map f) rows) at) ≡ length (bucket rows at) = ap length (bucket_named rows at) ∙ length-map (bucket rows at) f in
      λ i. cond (len i == 0) (full_named rows n (suc at) i) (Some at)

  pub begun_named : (t : Tables X) (size : ℕ) → named f (begun t size) ≡ begun (named f t) size
  begun_named t size =
      ended_named (record { older = t.older; newer = no_elements size; position = 0 })
      ∙ ap (λ rows. ended (record { older = map (map f) t.older; newer = rows; position = 0 })) (none_named_in_named size)

  pub wants_named : (t : Tables X) → wants_shrink (named f t) ≡ wants_shrink t
  wants_named t = λ i. not (going t i) && nat_lt 4 (many t.older i) && nat_lt (count_named t.older i * 10) (many t.older i)

  pub shrunk_named : (t : Tables X) → named f (shrunk t) ≡ shrunk (named f t)
  unfolding shrunk
  shrunk_named t =
      cond_ap (named f) (wants_shrink t) (begun t (max 4 (least_power (count t.older)))) t
      ∙ ap (λ r. cond (wants_shrink t) r (named f t)) (begun_named t (max 4 (least_power (count t.older))))
      ∙ (λ i. cond (sym (wants_named t) i) (begun (named f t) (max 4 (least_power (sym (count_named t.older) i)))) (named f t))

  pub room_named : (t : Tables X) → named f (with_room t) ≡ with_room (named f t)
  room_named t =
      cond_ap (named f) (is_rehashing t) t _
      ∙ ap (cond (is_rehashing t) (named f t))
      (cond_ap (named f) (length t.older == 0) _ _
      ∙ (λ i. cond (length t.older == 0) (record { older = none_named_in_named 4 i; newer = []; position = 0 })
      ((cond_ap (named f) (nat_le (length t.older) (count t.older)) (begun t (least_power (count t.older + 1))) t
      ∙ ap (λ r. cond (nat_le (length t.older) (count t.older)) r (named f t)) (begun_named t (least_power (count t.older + 1)))) i)))
      ∙ (λ i. cond (sym (going t) i) (named f t)
      (cond (sym (many t.older) i == 0) (record { older = no_elements 4; newer = []; position = 0 })
      (cond (nat_le (sym (many t.older) i) (sym (count_named t.older) i)) (begun (named f t) (least_power (sym (count_named t.older) i + 1))) (named f t))))

  module _ (hash : X → ℕ) (hash' : Y → ℕ) (same : (x : X) → hash' (f x) ≡ hash x) where
    pub put_named : (rows : List (List X)) (x : X) → map (map f) (put hash rows x) ≡ put hash' (map (map f) rows) (f x)
    put_named rows x =
        let spot : goes_to hash' (map (map f) rows) (f x) ≡ goes_to hash rows x = λ i. same x i % many rows i in
        map-set (map f) rows (goes_to hash rows x) (x ∷ bucket rows (goes_to hash rows x))
        ∙ ap (λ r. set (map (map f) rows) (goes_to hash rows x) (f x ∷ r)) (sym (bucket_named rows (goes_to hash rows x)))
        ∙ ap (λ k. set (map (map f) rows) k (f x ∷ bucket (map (map f) rows) k)) (sym spot)

    pub put_all_named : (rows : List (List X)) (xs : List X) → map (map f) (put_all hash rows xs) ≡ put_all hash' (map (map f) rows) (map f xs)
    put_all_named rows [] = refl
    put_all_named rows (x ∷ xs) = put_all_named (put hash rows x) xs ∙ ap (λ r. put_all hash' r (map f xs)) (put_named rows x)

    moved_named : (t : Tables X) (at : ℕ) → named f (moved hash t at) ≡ moved hash' (named f t) at
    moved_named t at =
        ended_named (record { older = set t.older at []; newer = put_all hash t.newer (bucket t.older at); position = suc at })
        ∙ (λ i. ended (record {
          older = map-set (map f) t.older at [] i;
          newer = (put_all_named t.newer (bucket t.older at) ∙ ap (put_all hash' (map (map f) t.newer)) (sym (bucket_named t.older at))) i;
          position = suc at;
        }))

    pub stepped_named : (t : Tables X) → named f (stepped hash t) ≡ stepped hash' (named f t)
    unfolding stepped
    stepped_named t = go (full_within t.older 10 t.position) ∙ ap (stepped_to hash' (named f t)) (sym (full_named t.older 10 t.position))
      where
        go : (o : Option ℕ) → named f (stepped_to hash t o) ≡ stepped_to hash' (named f t) o
        go None = refl
        go (Some at) = moved_named t at

    pub rehashed_named : (t : Tables X) → named f (rehashed hash t 1) ≡ rehashed hash' (named f t) 1
    unfolding rehashed
    rehashed_named t =
        cond_ap (named f) (is_rehashing t) (stepped hash t) t
        ∙ ap (λ r. cond (is_rehashing t) r (named f t)) (stepped_named t)
        ∙ ap (λ b. cond b (stepped hash' (named f t)) (named f t)) (sym (going t))

    pub joined_named : (t : Tables X) (x : X) → named f (joined hash t x) ≡ joined hash' (named f t) (f x)
    joined_named t x =
        cond_ap (named f) (is_rehashing t) _ _
        ∙
        (λ i. cond (sym (going t) i) (record { older = map (map f) t.older; newer = put_named t.newer x i; position = t.position })
        (record { older = put_named t.older x i; newer = map (map f) t.newer; position = t.position }))

    pub inserted_named : (t : Tables X) (x : X) → named f (inserted hash t x) ≡ inserted hash' (named f t) (f x)
    unfolding inserted
    inserted_named t x =
        joined_named (rehashed hash (with_room t) 1) x
        ∙ ap (λ u. joined hash' u (f x)) (rehashed_named (with_room t) ∙ ap (λ u. rehashed hash' u 1) (room_named t))

-- names that agree on the elements that stand in the buckets
row-same : {Y : Type 0} (f g : ℕ → Y) (row : List ℕ) → ((i : ℕ) → 0 < times i row → f i ≡ g i) → map f row ≡ map g row
row-same f g [] h = refl
row-same f g (x ∷ xs) h =
    let first : f x ≡ g x = h x (omega (arith, times_here x xs)) in
    let rest : map f xs ≡ map g xs = row-same f g xs (λ i t. h i (omega (arith, t))) in
    λ i. first i ∷ rest i

rows_same : {Y : Type 0} (f g : ℕ → Y) (rows : List (List ℕ)) → ((k i : ℕ) → 0 < times i (bucket rows k) → f i ≡ g i) → map (map f) rows ≡ map (map g) rows
rows_same f g [] h = refl
rows_same f g (r ∷ rest) h =
    let first : map f r ≡ map g r = row-same f g r (h 0) in
    let others : map (map f) rest ≡ map (map g) rest = rows_same f g rest (λ k. h (suc k)) in
    λ i. first i ∷ others i

pub named_same : {Y : Type 0} (f g : ℕ → Y) (t : Tables ℕ) → ((k i : ℕ) → 0 < times i (bucket t.older k) → f i ≡ g i) → ((k i : ℕ) → 0 < times i (bucket t.newer k) → f i ≡ g i) → named f t ≡ named g t
named_same f g t a b = λ i. record { older = rows_same f g t.older a i; newer = rows_same f g t.newer b i; position = t.position }

-- removal, where the names tell the element from the others
without_named : {Y : Type 0} (f : ℕ → Y) (same : Y → Y → Bool) (at : ℕ) (row : List ℕ) → ((i : ℕ) → 0 < times i row → same (f i) (f at) ≡ eqb i at)
    → map f (without eqb at row) ≡ without same (f at) (map f row)
without_named f same at [] h = refl
without_named f same at (x ∷ xs) h =
    cond_ap (map f) (not (eqb x at)) (x ∷ without eqb at xs) (without eqb at xs)
    ∙
    (λ i. cond (not (sym (h x (omega (arith, times_here x xs))) i)) (f x ∷ without_named f same at xs (λ j t. h j (omega (arith, t))) i)
    (without_named f same at xs (λ j t. h j (omega (arith, t))) i))

without_rows_named : {Y : Type 0} (f : ℕ → Y) (same : Y → Y → Bool) (at : ℕ) (rows : List (List ℕ)) → ((k i : ℕ) → 0 < times i (bucket rows k) → same (f i) (f at) ≡ eqb i at)
    → map (map f) (map (without eqb at) rows) ≡ map (without same (f at)) (map (map f) rows)
without_rows_named f same at [] h = refl
without_rows_named f same at (r ∷ rest) h =
    λ i. without_named f same at r (h 0) i ∷ without_rows_named f same at rest (λ k. h (suc k)) i

pub removed_named : {Y : Type 0} (f : ℕ → Y) (same : Y → Y → Bool) (t : Tables ℕ) (at : ℕ) → ((k i : ℕ) → 0 < times i (bucket t.older k) → same (f i) (f at) ≡ eqb i at)
    → ((k i : ℕ) → 0 < times i (bucket t.newer k) → same (f i) (f at) ≡ eqb i at) → named f (removed eqb t at) ≡ removed same (named f t) (f at)
unfolding removed
removed_named f same t at a b =
    ended_named f (record { older = map (without eqb at) t.older; newer = map (without eqb at) t.newer; position = t.position })
    ∙ (λ i. ended (record { older = without_rows_named f same at t.older a i; newer = without_rows_named f same at t.newer b i; position = t.position }))
