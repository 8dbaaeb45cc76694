-- The tables of a dictionary, as Redis's dict has them: no table, one list of buckets, or two and the position of the
-- rehash from the older into the newer. Elements are named by anything that has a hash.
use Rattle.std.specs.Prelude.{zero, suc, ◌≡◌, ◌+◌, ◌*◌, ◌%◌, ◌==◌, ◌&&◌, nat_lt, nat_le, not, max, ℕ, Bool, false, List, [], ◌∷◌, length, map, filter, sum_by, replicate, slice_index_or}
use Rattle.std.specs.Prelude.{slice_set, Option, Some, None, if◌then◌else◌}

-- `newer` has no bucket where no rehash is going on, and neither has a bucket where there is no table. The buckets
-- of the older table below the position have been moved.
pub record Tables (X : Type 0) : Type 0 where
  pub older : List (List X)
  pub newer : List (List X)
  pub position : ℕ

-- the least power of two not below n, from p on
unfoldable pub power_from : ℕ → ℕ → ℕ → ℕ
power_from zero p n = p
power_from (suc k) p n = if nat_le n p then p else power_from k (2 * p) n

-- the least power of two not below n
unfoldable pub least_power : ℕ → ℕ
least_power n = power_from 64 1 n

module _ {X : Type 0} where
  -- what stands in a bucket
  abbrev pub bucket : List (List X) → ℕ → List X
  bucket rows k = slice_index_or rows k []

  -- how many elements a table has
  abbrev pub count : List (List X) → ℕ
  count rows = sum_by length rows

  -- how many elements there are
  abbrev pub count_all : Tables X → ℕ
  count_all t = count t.older + count t.newer

  -- so many empty buckets
  abbrev pub no_elements : ℕ → List (List X)
  no_elements size = replicate size []

  -- a rehash is going on
  abbrev pub is_rehashing : Tables X → Bool
  is_rehashing t = nat_lt 0 (length t.newer)

  -- the new table takes the place of an old one that is empty
  abbrev pub ended : Tables X → Tables X
  ended t = if is_rehashing t && (count t.older == 0) then record { older = t.newer; newer = []; position = 0 } else t

  -- the first of the next buckets that has an element, where so many are looked at
  unfoldable pub full_within : List (List X) → ℕ → ℕ → Option ℕ
  full_within rows zero at = None
  full_within rows (suc more) at = if length (bucket rows at) == 0 then full_within rows more (suc at) else Some at

  -- a rehash begins into a new table of this size
  abbrev pub begun : Tables X → ℕ → Tables X
  begun t size = ended (record { older = t.older; newer = no_elements size; position = 0 })

  -- no rehash is going on, there are more than 4 buckets, and ten times the elements are fewer than the buckets
  abbrev pub wants_shrink : Tables X → Bool
  wants_shrink t = not (is_rehashing t) && nat_lt 4 (length t.older) && nat_lt (count t.older * 10) (length t.older)

  -- a call of `shrink` would begin nothing
  abbrev pub IsSettled : Tables X → Type 0
  IsSettled t = wants_shrink t ≡ false

  -- a call of `shrink`: the new size is the least power of two not below the number of elements, and at least 4
  unfoldable pub shrunk : Tables X → Tables X
  shrunk t = if wants_shrink t then begun t (max 4 (least_power (count t.older))) else t

  -- what an insert does before its step: the first table has 4 buckets, and with at least as many elements as buckets a
  -- rehash begins, to the least power of two above their number
  abbrev pub with_room : Tables X → Tables X
  with_room t =
      if is_rehashing t then t
      else (if length t.older == 0 then record { older = no_elements 4; newer = []; position = 0 }
      else (if nat_le (length t.older) (count t.older) then begun t (least_power (count t.older + 1)) else t))

module _ {X : Type 0} (hash : X → ℕ) where
  -- the bucket of an element: that of its hash's low bits
  abbrev pub goes_to : List (List X) → X → ℕ
  goes_to rows x = hash x % length rows

  -- the element is put at the head of its bucket
  abbrev pub put : List (List X) → X → List (List X)
  put rows x = slice_set rows (goes_to rows x) (x ∷ bucket rows (goes_to rows x))

  -- each element is put at the head of its bucket, in turn
  abbrev pub put_all : List (List X) → List X → List (List X)
  put_all rows [] = rows
  put_all rows (x ∷ xs) = put_all (put rows x) xs

  -- the elements of a bucket of the older table move to the newer one
  abbrev pub moved : Tables X → ℕ → Tables X
  moved t at = ended
      (record { older = slice_set t.older at []; newer = put_all t.newer (bucket t.older at); position = suc at })

  abbrev pub stepped_to : Tables X → Option ℕ → Tables X
  stepped_to t None = record t { position = t.position + 10 }
  stepped_to t (Some at) = moved t at

  -- A rehash step passes up to 10 empty buckets of the older table and then moves the first full one; after 10 empty
  -- ones it ends.
  unfoldable pub stepped : Tables X → Tables X
  stepped t = stepped_to t (full_within t.older 10 t.position)

  -- so many steps, each where a rehash is going on
  unfoldable pub rehashed : Tables X → ℕ → Tables X
  rehashed t zero = t
  rehashed t (suc n) = if is_rehashing t then rehashed (stepped t) n else t

  -- the element joins, in the newer table during a rehash
  abbrev pub joined : Tables X → X → Tables X
  joined t x = if is_rehashing t then record t { newer = put t.newer x } else record t { older = put t.older x }

  -- an insert makes room, makes one step where a rehash is going on, and puts the element at the head of its bucket
  unfoldable pub inserted : Tables X → X → Tables X
  inserted t x = joined (rehashed (with_room t) 1) x

module _ {X : Type 0} (same : X → X → Bool) where
  -- the bucket without an element
  abbrev pub without : X → List X → List X
  without x row = filter (λ y. not (same y x)) row

  -- the element leaves
  unfoldable pub removed : Tables X → X → Tables X
  removed t x =
      ended (record { older = map (without x) t.older; newer = map (without x) t.newer; position = t.position })

-- the same buckets, with other names for the elements
abbrev pub named : {X Y : Type 0} → (X → Y) → Tables X → Tables Y
named f t = record { older = map (map f) t.older; newer = map (map f) t.newer; position = t.position }
