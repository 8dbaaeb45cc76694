-- Where a class heap places a block, and what it frees.
use Rattle.std.specs.Prelude.{◌≡◌, ◌≢◌, ℕ, ◌+◌, ◌-◌, ◌<◌, ◌≤◌, ◌==◌, Bool, true, false, ◌&&◌, ◌||◌, not, nat_lt, List, length, replicate, Option, Some, None, IsSome, is_some, if◌then◌else◌}
use Rattle.blocks.specs.declared.BlockRef.{BlockRef}
use Rattle.blocks.specs.Blocks.{Blocks, with_block, overwritten, resized, bytes_at}
use Rattle.blocks.specs.Slabs.{SlabUse, Heap, slab_at, per_slab, IsClassOf, Stretches, waiting_of, spare_of, one_more_in}

-- the slab takes a block of the class: it has room, and is kept while a pass is open
abbrev pub takes : Bool → ℕ → Option SlabUse → Bool
takes passing class None = false
takes passing class (Some s) = (s.class == class) && (nat_lt s.used (per_slab s.class) && (not passing || s.kept))

-- the number has a slab or a large block
abbrev pub is_taken : Blocks → Heap → ℕ → Bool
is_taken blocks h n = is_some (slab_at h n) || is_some (blocks (record { slab = n; slot = 0 }))

-- the least number that has neither
pub record IsLeastFree (blocks : Blocks) (h : Heap) (n : ℕ) : Type 0 where
  pub free : is_taken blocks h n ≡ false
  pub least : (m : ℕ) → m < n → is_taken blocks h m ≡ true

-- A block goes into the lowest-numbered slab of its class that takes it: while a pass is open only where the kept
-- slabs of the class have more free places than there are blocks in its other slabs.
pub record GoesIntoSlab (before after : Heap) (len : ℕ) (at : BlockRef) : Type 0 where
  pub slab : SlabUse
  pub stood : slab_at before at.slab ≡ Some slab
  pub class : IsClassOf len slab.class
  pub taken : takes before.passing slab.class (Some slab) ≡ true
  pub lowest : (n : ℕ) → n < at.slab → takes before.passing slab.class (slab_at before n) ≡ false
  pub room : before.passing ≡ true → waiting_of before slab.class < spare_of before slab.class
  pub stands : slab_at after at.slab ≡ Some (one_more_in slab)

-- It goes into a new slab with the least free number, which is kept while a pass is open: where no slab takes it, and
-- in a pass where the kept slabs of the class have no free places to spare.
pub record GoesIntoNewSlab (blocks : Blocks) (before after : Heap) (len : ℕ) (at : BlockRef) : Type 0 where
  pub class : ℕ
  pub classed : class < 36
  pub holds : IsClassOf len class
  pub none : before.passing ≡ false → (n : ℕ) → takes false class (slab_at before n) ≡ false
  pub full : before.passing ≡ true → spare_of before class ≤ waiting_of before class
  pub free : IsLeastFree blocks before at.slab
  pub stands : slab_at after at.slab ≡ Some (record { class = class; used = 1; kept = before.passing })

-- A block that no class holds stands alone at the least free number.
pub record StandsAlone (blocks : Blocks) (before after : Heap) (len : ℕ) (at : BlockRef) : Type 0 where
  pub large : 14336 < len
  pub free : IsLeastFree blocks before at.slab
  pub first : at.slot ≡ 0
  pub none : slab_at after at.slab ≡ None

-- where a block of so many bytes goes
pub data GoesTo (blocks : Blocks) (before after : Heap) (len : ℕ) (at : BlockRef) : Type 0 where
  into_slab : GoesIntoSlab before after len at → GoesTo blocks before after len at
  into_new_slab : GoesIntoNewSlab blocks before after len at → GoesTo blocks before after len at
  alone : StandsAlone blocks before after len at → GoesTo blocks before after len at

-- a block of zeros is placed under a reference that wasn't live, and all other slabs stay
pub record IsPlacing (before : Blocks) (h : Heap) (after : Blocks) (later : Heap) (len : ℕ) (at : BlockRef)
    : Type 0 where
  pub fresh : before at ≡ None
  pub placed : after ≡ with_block before at (Some (replicate len 0))
  pub passing : later.passing ≡ h.passing
  pub goes : GoesTo before h later len at
  pub others : (n : ℕ) → n ≢ at.slab → slab_at later n ≡ slab_at h n

-- the slab after a block came back: without its last block it goes, unless it is kept
abbrev pub returned : Option SlabUse → Option SlabUse
returned None = None
returned (Some s) =
    if (s.used == 1) && not s.kept then None else Some (record { class = s.class; used = s.used - 1; kept = s.kept })

-- a block is given back, and all other slabs stay
pub record IsReturn (before : Blocks) (h : Heap) (after : Blocks) (later : Heap) (at : BlockRef) : Type 0 where
  pub was : IsSome (before at)
  pub ended : after ≡ with_block before at None
  pub passing : later.passing ≡ h.passing
  pub left : slab_at later at.slab ≡ returned (slab_at h at.slab)
  pub others : (n : ℕ) → n ≢ at.slab → slab_at later n ≡ slab_at h n

-- a piece is put into a block, and all slabs stay
pub record IsWrite (before : Blocks) (h : Heap) (after : Blocks) (later : Heap) (at : BlockRef) (from : ℕ)
    (piece : List ℕ) : Type 0 where
  pub was : IsSome (before at)
  pub room : from + length piece ≤ length (bytes_at before at)
  pub written : after ≡ with_block before at (Some (overwritten (bytes_at before at) from piece))
  pub slabs : later ≡ h

-- a block has another length in its place, and all slabs stay
pub record IsStretch (before : Blocks) (h : Heap) (after : Blocks) (later : Heap) (at : BlockRef) (len : ℕ)
    : Type 0 where
  pub was : IsSome (before at)
  pub fits : Stretches h at len
  pub stretched : after ≡ with_block before at (Some (resized (bytes_at before at) len))
  pub slabs : later ≡ h

-- One call of `place`, `give_back`, `write`, `shift` or `stretch`, by the rule above, or one that changed nothing: a
-- placing that found no memory, or a length of another class.
pub data IsHeapStep (before : Blocks) (h : Heap) (after : Blocks) (later : Heap) : Type 0 where
  stays : after ≡ before → later ≡ h → IsHeapStep before h after later
  places : (len : ℕ) (at : BlockRef) → IsPlacing before h after later len at → IsHeapStep before h after later
  returns : (at : BlockRef) → IsReturn before h after later at → IsHeapStep before h after later
  writes : (at : BlockRef) (from : ℕ) (piece : List ℕ) → IsWrite before h after later at from piece
      → IsHeapStep before h after later
  stretches : (at : BlockRef) (len : ℕ) → IsStretch before h after later at len → IsHeapStep before h after later
