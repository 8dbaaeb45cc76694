-- What stands at each number of a class heap.
use Rattle.std.specs.Prelude.{◌≡◌, ◌≢◌, ℕ, ◌+◌, ◌^◌, ◌<◌, ◌≤◌, Bool, true, false, ◌==◌, List, length, Option, Some, None, map, slice_index_or, if◌then◌else◌}
use Rattle.std.specs.Global.{Vec}
use Rattle.std.specs.Vec.{vec_capacity}
use Rattle.blocks.specs.Blocks.{Blocks}
use Rattle.blocks.specs.Slabs.{SlabUse, Heap, per_slab, IsClassOf, one_more_in, waiting_of, spare_of}
use Rattle.class_heap.specs.declared.entry.Entry.{Entry}
use Rattle.class_heap.specs.declared.entry.Entry.TheVariants.{Vacant, Large, Classed}
use Rattle.class_heap.specs.declared.directory.Directory.{Directory}
use Rattle.class_heap.specs.Directory.{labels_at}
use Rattle.class_heap.specs.Slab.{use_of, block_at, slab_label}

-- the use of a slab
abbrev pub use_in : Entry → Option SlabUse
use_in Vacant = None
use_in (Large bytes) = None
use_in (Classed slab) = Some (use_of slab)

-- the block in a slot; a large one stands in slot 0
abbrev pub block_in : Entry → ℕ → Option (List ℕ)
block_in Vacant slot = None
block_in (Large bytes) slot = if slot == 0 then Some bytes.items else None
block_in (Classed slab) slot = block_at slab slot

-- the class of a slab
abbrev pub class_in : Option SlabUse → Option ℕ
class_in None = None
class_in (Some s) = Some s.class

-- the label of a number with nothing, that of a slab that takes blocks of its class, and that of one whose blocks want
-- to move
abbrev pub labels_of : Bool → Entry → ℕ
labels_of passing Vacant = 2 ^ 36
labels_of passing (Large bytes) = 0
labels_of passing (Classed slab) = slab_label passing (use_of slab)

-- a slab with a free place of the class of so many bytes
abbrev pub IsRoomFor : ℕ → Option SlabUse → Type 0
IsRoomFor len None = ⊥
IsRoomFor len (Some s) = (s.used < per_slab s.class) × IsClassOf len s.class

-- a large block of these bytes
pub record IsLarge (bytes : List ℕ) (e : Entry) : Type 0 where
  pub block : Vec ℕ
  pub is : e ≡ Large block
  pub holds : block.items ≡ bytes

-- a large block whose memory has room for so many bytes
abbrev pub HasRoom : ℕ → Entry → Type 0
HasRoom len Vacant = ⊥
HasRoom len (Large bytes) = len ≤ vec_capacity bytes
HasRoom len (Classed slab) = ⊥

-- a slab with one block more
abbrev pub fuller : Option SlabUse → Option SlabUse
fuller None = None
fuller (Some s) = Some (one_more_in s)

-- what stands at a number
abbrev pub entry_at : List Entry → ℕ → Entry
entry_at entries n = slice_index_or entries n Vacant

-- n is the least number with nothing, and the list has a place for it
pub record IsLeastVacant (entries : List Entry) (n : ℕ) : Type 0 where
  pub within : n < length entries
  pub vacant : entry_at entries n ≡ Vacant
  pub least : (m : ℕ) → m < n → entry_at entries m ≢ Vacant

-- the blocks of all numbers
abbrev pub blocks_of : List Entry → Blocks
blocks_of entries r = block_in (entry_at entries r.slab) r.slot

-- the slabs of all numbers
abbrev pub heap_of : Bool → List Entry → Heap
heap_of passing entries = record { passing = passing; slabs = map use_in entries }

-- What holds of a class heap at every moment.
pub record IsHeap (passing : Bool) (entries : List Entry) (directory : Directory) (margins : List ℕ) : Type 0 where
  pub bound : length entries ≡ directory.bound
  pub classes : length margins ≡ 36
  -- the directory has each number's label
  pub labelled : (n : ℕ) → n < length entries → labels_at directory n ≡ labels_of passing (entry_at entries n)
  -- slabs are kept only while a pass is open, and each other slab has a block
  pub marked : (n : ℕ) (s : SlabUse) → use_in (entry_at entries n) ≡ Some s → s.kept ≡ true → passing ≡ true
  pub filled : (n : ℕ) (s : SlabUse) → use_in (entry_at entries n) ≡ Some s → s.kept ≡ false → 0 < s.used
  -- by so many the free places of a class's kept slabs are more than the blocks in its others
  pub margin : passing ≡ true → (class : ℕ) → class < 36
      → waiting_of (heap_of passing entries) class + slice_index_or margins class 0
      ≡ spare_of (heap_of passing entries) class
