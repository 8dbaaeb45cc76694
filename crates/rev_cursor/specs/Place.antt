-- Places and cursors. A scan goes through a table in the order of the reversed hash, so that a cursor
-- keeps its meaning when the table grows or shrinks: the guarantee of the SCAN command rests on that.
use Rattle.std.specs.Prelude.{◌≡◌, ◌≢◌, zero, suc, ◌+◌, ◌-◌, ◌*◌, ◌/◌, ◌%◌, ◌^◌, ◌<◌, ◌≤◌, ◌&&◌, ◌==◌, ℕ, List, [], ◌∷◌, nat_lt, nat_le, if◌then◌else◌}

-- the lowest k bits of n, in reverse order
unfoldable pub reversed : ℕ → ℕ → ℕ
reversed zero n = 0
reversed (suc k) n = n % 2 * 2 ^ k + reversed k (n / 2)

-- where an element with this hash stands, and where the interval of a cursor starts
abbrev pub place : ℕ → ℕ
place hash = reversed 64 hash

-- where the interval ends of a move that answered this cursor: 0 stands for 2 ^ w
unfoldable pub end_within : ℕ → ℕ → ℕ
end_within w zero = 2 ^ w
end_within w (suc c) = reversed w (suc c)

abbrev pub end_of : ℕ → ℕ
end_of cursor = end_within 64 cursor

-- the start and the end of the block of 2 ^ k places that a place is in
abbrev pub block_start : ℕ → ℕ → ℕ
block_start k at = at / 2 ^ k * 2 ^ k

abbrev pub block_end : ℕ → ℕ → ℕ
block_end k at = (at / 2 ^ k + 1) * 2 ^ k

-- the cursor with all bits above the mask of a table of 2 ^ bits buckets set
abbrev pub all_above : ℕ → ℕ → ℕ
all_above cursor bits = (2 ^ (64 - bits) - 1) * 2 ^ bits + cursor % 2 ^ bits

-- the cursor behind the bucket of a cursor: set all bits above the mask, reverse, add one, reverse
abbrev pub next_of : ℕ → ℕ → ℕ
next_of cursor bits = reversed 64 ((reversed 64 (all_above cursor bits) + 1) % 2 ^ 64)

-- the places of a cursor's bucket: those of all hashes with the cursor's low bits
pub record IsBucket (bits cursor next : ℕ) : Type 0 where
  pub whole : (hash : ℕ) → hash % 2 ^ bits ≡ cursor % 2 ^ bits
      → (block_start (64 - bits) (place cursor) ≤ place hash) × (place hash < end_of next)
  pub only : (hash : ℕ) → block_start (64 - bits) (place cursor) ≤ place hash → place hash < end_of next
      → hash % 2 ^ bits ≡ cursor % 2 ^ bits

-- Moves from a cursor to cursor 0, each over a table of its own size: `bits` says the sizes in turn. A
-- walk goes on from each cursor that isn't 0.
pub data IsWalk : ℕ → List ℕ → Type 0 where
  last : (cursor bits : ℕ) → bits < 64 → next_of cursor bits ≡ 0 → IsWalk cursor (bits ∷ [])
  more : (cursor bits : ℕ) (rest : List ℕ) → bits < 64 → next_of cursor bits ≢ 0 → IsWalk (next_of cursor bits) rest
      → IsWalk cursor (bits ∷ rest)

-- how many moves of a walk have the place in their interval, from the reversed cursor to below the
-- reversed next one
unfoldable pub moves_over : ℕ → ℕ → List ℕ → ℕ
moves_over at cursor [] = 0
moves_over at cursor (bits ∷ rest) =
    (if nat_le (place cursor) at && nat_lt at (end_of (next_of cursor bits)) then 1 else 0) + moves_over at
    (next_of cursor bits) rest

-- how many moves of a walk give the bucket that an element with this hash is in
unfoldable pub meetings : ℕ → ℕ → List ℕ → ℕ
meetings hash cursor [] = 0
meetings hash cursor (bits ∷ rest) =
    (if hash % 2 ^ bits == cursor % 2 ^ bits then 1 else 0) + meetings hash (next_of cursor bits) rest
