-- What a slab holds.
use Rattle.std.specs.Prelude.{ℕ, ◌==◌, ◌^◌, Bool, ◌&&◌, ◌||◌, not, nat_lt, List, [], Option, unwrap_or, if◌then◌else◌}
use Rattle.class_heap.specs.declared.slab.Slab.{Slab}
use Rattle.blocks.specs.Slabs.{SlabUse, per_slab}
use Rattle.class_heap.specs.Slots.{block_in_slot}

-- the block in a slot
abbrev pub block_at : Slab → ℕ → Option (List ℕ)
block_at s slot = block_in_slot s.size s.words.items s.mem slot

-- the bytes of that block
abbrev pub bytes_in : Slab → ℕ → List ℕ
bytes_in s slot = unwrap_or (block_at s slot) []

-- its class, its blocks, and whether it is kept
abbrev pub use_of : Slab → SlabUse
use_of s = record { class = s.class; used = s.used; kept = s.kept }

-- the same blocks, but this in the slot
abbrev pub with_slot : (ℕ → Option (List ℕ)) → ℕ → Option (List ℕ) → ℕ → Option (List ℕ)
with_slot blocks slot content other = if other == slot then content else blocks other

-- a slab takes blocks of its class: it has room, and is kept while a pass is open
abbrev pub has_room : Bool → SlabUse → Bool
has_room passing s = nat_lt s.used (per_slab s.class) && (not passing || s.kept)

-- the label of a slab: its class where it takes blocks of it, and that of those whose blocks want to move
abbrev pub slab_label : Bool → SlabUse → ℕ
slab_label passing s =
    if has_room passing s then 2 ^ s.class else if passing && not s.kept then 2 ^ 37 else 0
