-- The slabs of a store, and what a pass over them does.
use Rattle.std.specs.Prelude.{◌≡◌, ◌≢◌, ℕ, zero, suc, ◌+◌, ◌-◌, ◌/◌, ◌<◌, ◌≤◌, Bool, true, false, ◌==◌, ◌&&◌, not, List, [], ◌∷◌, Option, Some, None, IsSome, sum_by, count_by, map, length}
use Rattle.std.specs.Prelude.{slice_index_or, if◌then◌else◌, ◌⊎◌}
use Rattle.blocks.specs.declared.BlockRef.{BlockRef}
use Rattle.blocks.specs.Blocks.{Blocks, live}

-- the sizes of the classes in bytes
abbrev pub sizes : List ℕ
sizes = 8 ∷ 16 ∷ 32 ∷ 48 ∷ 64 ∷ 80 ∷ 96 ∷ 112 ∷ 128 ∷ 160 ∷ 192 ∷ 224 ∷ 256 ∷ 320 ∷ 384 ∷ 448 ∷ 512 ∷ 640 ∷ 768 ∷ 896
    ∷ 1024 ∷ 1280 ∷ 1536 ∷ 1792 ∷ 2048 ∷ 2560 ∷ 3072 ∷ 3584 ∷ 4096 ∷ 5120 ∷ 6144 ∷ 7168 ∷ 8192 ∷ 10240 ∷ 12288 ∷ 14336
    ∷ []

-- the size of a class, and beyond the last one a whole slab
abbrev pub size_of : ℕ → ℕ
size_of class = slice_index_or sizes class 65536

-- how many blocks a slab of the class has room for
abbrev pub per_slab : ℕ → ℕ
per_slab class = 65536 / size_of class

-- the least class that holds so many bytes
pub record IsClassOf (len class : ℕ) : Type 0 where
  pub holds : len ≤ size_of class
  pub least : (smaller : ℕ) → smaller < class → size_of smaller < len

-- a slab: its class, how many blocks stand in it, and whether the open pass keeps it
pub record SlabUse : Type 0 where
  pub class : ℕ
  pub used : ℕ
  pub kept : Bool

-- Whether a pass is open, and the slab that has each number. A number without a slab is free or is
-- that of a block that stands alone.
pub record Heap : Type 0 where
  pub passing : Bool
  pub slabs : List (Option SlabUse)

-- a store that has no slab and no open pass
abbrev pub no_slabs : Heap
no_slabs = record { passing = false; slabs = [] }

-- the slab with this number
abbrev pub slab_at : Heap → ℕ → Option SlabUse
slab_at h n = slice_index_or h.slabs n None

-- a slab of the class
abbrev pub is_of : ℕ → Option SlabUse → Bool
is_of class None = false
is_of class (Some s) = s.class == class

-- a kept slab of the class
abbrev pub is_kept : ℕ → Option SlabUse → Bool
is_kept class None = false
is_kept class (Some s) = (s.class == class) && s.kept

-- the blocks in a slab of the class
abbrev pub used_in : ℕ → Option SlabUse → ℕ
used_in class None = 0
used_in class (Some s) = if s.class == class then s.used else 0

-- the blocks in a slab of the class that isn't kept
abbrev pub waiting_in : ℕ → Option SlabUse → ℕ
waiting_in class None = 0
waiting_in class (Some s) = if (s.class == class) && not s.kept then s.used else 0

-- the free places of a kept slab of the class
abbrev pub spare_in : ℕ → Option SlabUse → ℕ
spare_in class None = 0
spare_in class (Some s) = if (s.class == class) && s.kept then per_slab class - s.used else 0

-- how many slabs the class has
abbrev pub slabs_of : Heap → ℕ → ℕ
slabs_of h class = count_by (is_of class) h.slabs

-- how many of them are kept
abbrev pub kept_of : Heap → ℕ → ℕ
kept_of h class = count_by (is_kept class) h.slabs

-- how many blocks stand in the class's slabs
abbrev pub used_of : Heap → ℕ → ℕ
used_of h class = sum_by (used_in class) h.slabs

-- how many of them stand in slabs that aren't kept
abbrev pub waiting_of : Heap → ℕ → ℕ
waiting_of h class = sum_by (waiting_in class) h.slabs

-- how many places are free in its kept slabs
abbrev pub spare_of : Heap → ℕ → ℕ
spare_of h class = sum_by (spare_in class) h.slabs

-- how many slabs the blocks of the class need: `used / per_slab`, rounded up
abbrev pub needed : Heap → ℕ → ℕ
needed h class = (used_of h class + (per_slab class - 1)) / per_slab class

-- a slab of the least class that holds so many bytes
abbrev pub IsSlabFor : ℕ → Option SlabUse → Type 0
IsSlabFor len None = ⊥
IsSlabFor len (Some s) = IsClassOf len s.class

-- The block may have so many bytes in its place: it stands in a slab of the least class that holds them. One that
-- stands alone may not.
abbrev pub Stretches : Heap → BlockRef → ℕ → Type 0
Stretches h at len = IsSlabFor len (slab_at h at.slab)

-- a slab that isn't kept
abbrev pub is_other : Option SlabUse → Bool
is_other None = false
is_other (Some s) = not s.kept

-- a block wants to move: a pass is open, and the block is neither alone nor in a kept slab
abbrev pub wants : Heap → BlockRef → Bool
wants h r = h.passing && is_other (slab_at h r.slab)

-- a live block wants to move
pub record IsWaiting (blocks : Blocks) (h : Heap) : Type 0 where
  pub at : BlockRef
  pub live : IsSome (blocks at)
  pub waits : wants h at ≡ true

-- a slab at the end of a pass: one without a block goes
abbrev pub released : Option SlabUse → Option SlabUse
released None = None
released (Some s) = if s.used == 0 then None else Some (record { class = s.class; used = s.used; kept = false })

-- the slabs after a pass
abbrev pub ended : Heap → Heap
ended h = record { passing = false; slabs = map released h.slabs }

-- the slab without its mark
abbrev pub unmarked : Option SlabUse → Option SlabUse
unmarked None = None
unmarked (Some s) = Some (record { class = s.class; used = s.used; kept = false })

-- slab s with number m is kept before slab t with number n: it is fuller, or as full and has the lower number
abbrev pub IsFuller : ℕ → SlabUse → ℕ → SlabUse → Type 0
IsFuller m s n t = (t.used < s.used) ⊎ ((t.used ≡ s.used) × (m < n))

-- A pass has begun, after the end of one that was open: in each class as many of the fullest slabs
-- are kept as are needed for its blocks, among equals those with the lower number.
pub record Begun (before after : Heap) : Type 0 where
  pub passing : after.passing ≡ true
  pub same : map unmarked after.slabs ≡ (ended before).slabs
  pub kept : (class : ℕ) → class < 36 → kept_of after class ≡ needed after class
  pub fullest : (m n : ℕ) (s t : SlabUse) → slab_at after m ≡ Some s → slab_at after n ≡ Some t → s.class ≡ t.class
      → s.kept ≡ true → t.kept ≡ false → IsFuller m s n t

-- the slab when one block has left it: without its last block it goes
abbrev pub one_fewer : SlabUse → Option SlabUse
one_fewer s = if s.used == 1 then None else Some (record { class = s.class; used = s.used - 1; kept = s.kept })

-- the slab when one block has come
abbrev pub one_more_in : SlabUse → SlabUse
one_more_in s = record { class = s.class; used = s.used + 1; kept = s.kept }

-- A block has moved from a slab that isn't kept into the lowest-numbered kept slab of its class that
-- has room. All other slabs stay.
pub record Moves (before after : Heap) (at new : BlockRef) : Type 0 where
  pub from : SlabUse
  pub to : SlabUse
  pub from_at : slab_at before at.slab ≡ Some from
  pub to_at : slab_at before new.slab ≡ Some to
  pub one_class : to.class ≡ from.class
  pub from_other : from.kept ≡ false
  pub to_kept : to.kept ≡ true
  pub has_room : to.used < per_slab to.class
  pub lowest : (n : ℕ) (s : SlabUse) → n < new.slab → slab_at before n ≡ Some s → s.class ≡ from.class → s.kept ≡ true
      → per_slab s.class ≤ s.used
  pub passing : after.passing ≡ before.passing
  pub left : slab_at after at.slab ≡ one_fewer from
  pub entered : slab_at after new.slab ≡ Some (one_more_in to)
  pub others : (n : ℕ) → n ≢ at.slab → n ≢ new.slab → slab_at after n ≡ slab_at before n

-- no more blocks want to move, and the kept slabs and the blocks of each class are as many
pub record Calmer (before after : Heap) : Type 0 where
  pub passing : after.passing ≡ before.passing
  pub calm : (r : BlockRef) → wants before r ≡ false → wants after r ≡ false
  pub kept : (class : ℕ) → kept_of after class ≡ kept_of before class
  pub used : (class : ℕ) → used_of after class ≡ used_of before class

-- how many of a slab's first places have a live block
unfoldable pub blocks_in : Blocks → ℕ → ℕ → ℕ
blocks_in blocks n zero = 0
blocks_in blocks n (suc k) = blocks_in blocks n k + live blocks (record { slab = n; slot = k })

-- What holds of a store's slabs at every moment.
pub record IsSoundHeap (blocks : Blocks) (h : Heap) : Type 0 where
  -- a slab has a class, and no more blocks than places
  pub classed : (n : ℕ) (s : SlabUse) → slab_at h n ≡ Some s → s.class < 36
  pub fits : (n : ℕ) (s : SlabUse) → slab_at h n ≡ Some s → s.used ≤ per_slab s.class
  -- its count is that of the live blocks in its places
  pub counted : (n : ℕ) (s : SlabUse) → slab_at h n ≡ Some s → blocks_in blocks n (per_slab s.class) ≡ s.used
  -- a live block in it has one of its places, and its class
  pub inside : (r : BlockRef) (s : SlabUse) → slab_at h r.slab ≡ Some s → IsSome (blocks r) → r.slot < per_slab s.class
  pub sized : (r : BlockRef) (s : SlabUse) (bytes : List ℕ) → slab_at h r.slab ≡ Some s → blocks r ≡ Some bytes
      → IsClassOf (length bytes) s.class
  -- slabs are kept only while a pass is open, and each other slab has a block
  pub marked : (n : ℕ) (s : SlabUse) → slab_at h n ≡ Some s → s.kept ≡ true → h.passing ≡ true
  pub filled : (n : ℕ) (s : SlabUse) → slab_at h n ≡ Some s → s.kept ≡ false → 0 < s.used
  -- the kept slabs of a class have at least as many free places as its other slabs have blocks
  pub room : h.passing ≡ true → (class : ℕ) → class < 36 → waiting_of h class ≤ spare_of h class

-- in an open pass as many slabs are kept as are needed, and these blocks want no move
pub record Swept (h : Heap) (passed : BlockRef → Type 0) : Type 0 where
  pub passing : h.passing ≡ true
  pub kept : (class : ℕ) → class < 36 → kept_of h class ≡ needed h class
  pub calm : (r : BlockRef) → passed r → wants h r ≡ false
