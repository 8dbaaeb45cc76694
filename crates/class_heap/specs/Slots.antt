-- How a slab keeps its slots: a word for each. A word below 32,768 is the length of the block in the slot. Any
-- other says that the slot is free, and the word less 32,768 names the free slot after it.
use Rattle.std.specs.Prelude.{◌≡◌, ℕ, zero, suc, ◌+◌, ◌-◌, ◌*◌, ◌<◌, ◌==◌, Bool, true, ◌&&◌, not, nat_lt, List, [], ◌∷◌, length, Option, Some, None, take, drop, slice_index_or, if◌then◌else◌}
use Rattle.blocks.specs.Slabs.{size_of, per_slab, IsClassOf}

-- the word of a slot
abbrev pub word_at : List ℕ → ℕ → ℕ
word_at words slot = slice_index_or words slot 65535

-- a block stands in the slot
abbrev pub is_used : List ℕ → ℕ → Bool
is_used words slot = nat_lt (word_at words slot) 32768

-- 1 where the slot is there and free, else 0
abbrev pub is_free : List ℕ → ℕ → ℕ
is_free words slot = if nat_lt slot (length words) && not (is_used words slot) then 1 else 0

-- how many of the first slots have a block
unfoldable pub used_below : List ℕ → ℕ → ℕ
used_below words zero = 0
used_below words (suc k) = used_below words k + (if is_used words k then 1 else 0)

-- the next free slots, from this one on
unfoldable pub chain : List ℕ → ℕ → ℕ → List ℕ
chain words slot zero = []
chain words slot (suc more) = slot ∷ chain words (word_at words slot - 32768) more

-- how often the slot stands in the list
unfoldable pub occurs : ℕ → List ℕ → ℕ
occurs slot [] = 0
occurs slot (x ∷ rest) = (if x == slot then 1 else 0) + occurs slot rest

-- the block in a slot
abbrev pub block_in_slot : ℕ → List ℕ → List ℕ → ℕ → Option (List ℕ)
block_in_slot size words mem slot =
    if is_used words slot then Some (take (word_at words slot) (drop (slot * size) mem)) else None

-- What holds of a slab at every moment.
pub record IsSlab (class size used head : ℕ) (words mem : List ℕ) : Type 0 where
  pub classed : class < 36
  pub sized : size ≡ size_of class
  pub long : length mem ≡ 65536
  pub cut : length words ≡ per_slab class
  -- the count is that of the slots with a block, and the chain from the head has each other slot once
  pub counted : used_below words (length words) ≡ used
  pub headed : head < 32768
  pub chained : (slot : ℕ) → occurs slot (chain words head (length words - used)) ≡ is_free words slot
  -- each block is of the class
  pub held : (slot : ℕ) → is_used words slot ≡ true → IsClassOf (word_at words slot) class
