-- One move of a scan over the tables, as the SCAN commands make it: the guarantee of SCAN rests on its cursors.
use Rattle.std.specs.Prelude.{zero, suc, ◌≡◌, ◌+◌, ◌-◌, ◌*◌, ◌/◌, ◌%◌, ◌^◌, ◌==◌, nat_le, nat_lt, ◌&&◌, ◌++◌, ℕ, List, [], ◌∷◌, length, bit_and, Option, Some, None, if◌then◌else◌}
use Rattle.std.specs.Int.RustNames.{bit_xor}
use Rattle.rev_cursor.specs.Place.{reversed, place, next_of}
use Rattle.rehash_dict.specs.Tables.{bucket}

-- how many bits tell so many buckets apart, from k on
unfoldable pub bits_from : ℕ → ℕ → ℕ → ℕ
bits_from zero k n = k
bits_from (suc more) k n = if nat_le n (2 ^ k) then k else bits_from more (suc k) n

unfoldable pub bits_of : ℕ → ℕ
bits_of n = bits_from 64 0 n

-- in the order of places: the larger table's bucket of a cursor, and where the smaller one's interval ends
abbrev pub first_block : ℕ → ℕ → ℕ
first_block large v = place v / 2 ^ (64 - large)

abbrev pub last_block : ℕ → ℕ → ℕ → ℕ
last_block small large v = (place v / 2 ^ (64 - small) + 1) * 2 ^ (large - small)

module _ {X : Type 0} where
  -- the bucket of a cursor in a table of 2 ^ bits buckets
  abbrev pub turn : List (List X) → ℕ → ℕ → List X
  turn rows bits v = bucket rows (v % 2 ^ bits)

  -- The larger table's turns, at most so many: give the bucket, then set all bits of the cursor above the larger mask,
  -- reverse it, add one, reverse it; and again while a bit between the masks is set.
  unfoldable pub walk : List (List X) → ℕ → ℕ → ℕ → ℕ → List X × ℕ
  walk rows small large zero v = ([], v)
  walk rows small large (suc fuel) v =
      if bit_and (next_of v large) (bit_xor (2 ^ small - 1) (2 ^ large - 1)) == 0
      then (turn rows large v, next_of v large)
      else (
        turn rows large v
            ++ (walk rows small large fuel (next_of v large)).0,
        (walk rows small large fuel (next_of v large)).1,
      )

  -- the bucket of the smaller table, and then those of the larger one that its elements would be in
  abbrev pub moved_over : List (List X) → List (List X) → ℕ → List X × ℕ
  moved_over smaller larger v = (
    turn smaller (bits_of (length smaller)) v
        ++ (walk larger (bits_of (length smaller)) (bits_of (length larger)) (length larger) v).0,
    (walk larger (bits_of (length smaller)) (bits_of (length larger)) (length larger) v).1,
  )

  -- the table with fewer buckets, and the other one
  abbrev pub smaller_of : List (List X) → List (List X) → List (List X)
  smaller_of older newer = if nat_lt 0 (length newer) && nat_lt (length newer) (length older) then newer else older

  abbrev pub larger_of : List (List X) → List (List X) → List (List X)
  larger_of older newer = if nat_lt 0 (length newer) && nat_lt (length newer) (length older) then older else newer

  -- the buckets of the larger table that a move at a cursor gives, and its next cursor
  abbrev pub walked_over : List (List X) → List (List X) → ℕ → List X × ℕ
  walked_over older newer v =
      walk (larger_of older newer) (bits_of (length (smaller_of older newer)))
      (bits_of (length (larger_of older newer))) (length (larger_of older newer)) v

  -- The elements of one move at a cursor over the tables, and the next cursor: without a table nothing and 0.
  unfoldable pub scanned : List (List X) → List (List X) → ℕ → List X × ℕ
  scanned older newer v =
      if length older == 0 then ([], 0)
      else (if nat_lt 0 (length newer)
      then moved_over (smaller_of older newer) (larger_of older newer) v
      else (turn older (bits_of (length older)) v, next_of v (bits_of (length older))))

  -- ---- the same by turns: a move gives one bucket of the smaller table, and then consecutive ones of the larger table

  -- how many buckets a move gives
  abbrev pub turns_of : List (List X) → List (List X) → ℕ → ℕ
  turns_of older newer v =
      if length older == 0 then 0
      else (if nat_lt 0 (length newer)
      then 1 + (last_block (bits_of (length (smaller_of older newer)))
      (bits_of (length (larger_of older newer))) v - first_block (bits_of (length (larger_of older newer))) v)
      else 1)

  -- the bucket of a turn
  abbrev pub turn_at : List (List X) → List (List X) → ℕ → ℕ → List X
  turn_at older newer v n =
      if n == 0 then turn (smaller_of older newer) (bits_of (length (smaller_of older newer))) v
      else turn (larger_of older newer) (bits_of (length (larger_of older newer)))
      (reversed (bits_of (length (larger_of older newer)))
      (first_block (bits_of (length (larger_of older newer))) v + (n - 1)))

  -- what so many turns give, from turn n on
  unfoldable pub turns_from : List (List X) → List (List X) → ℕ → ℕ → ℕ → List X
  turns_from older newer v zero n = []
  turns_from older newer v (suc count) n = turn_at older newer v n ++ turns_from older newer v count (suc n)

  -- so many buckets of a table, from the one whose number, reversed, is n
  unfoldable pub blocks_from : List (List X) → ℕ → ℕ → ℕ → List X
  blocks_from rows bits zero n = []
  blocks_from rows bits (suc count) n = turn rows bits (reversed bits n) ++ blocks_from rows bits count (suc n)

-- the first of a list
abbrev pub first_of : List ℕ → Option ℕ
first_of [] = None
first_of (x ∷ xs) = Some x

-- what stands behind a number
abbrev pub after_in : ℕ → List ℕ → List ℕ
after_in at [] = []
after_in at (x ∷ xs) = if x == at then xs else after_in at xs

-- nothing that was found is lost
pub record Extends (old new : List ℕ) : Type 0 where
  pub more : List ℕ
  pub is : new ≡ old ++ more
