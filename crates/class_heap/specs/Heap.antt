-- What a class heap holds.
use Rattle.std.specs.Prelude.{ℕ}
use Rattle.blocks.specs.declared.BlockRef.{BlockRef}
use Rattle.blocks.specs.Blocks.{Blocks, bytes_at}
use Rattle.blocks.specs.Slabs.{Heap}
use Rattle.class_heap.specs.declared.heap.ClassHeap.{ClassHeap}
use Rattle.class_heap.specs.Entries.{blocks_of, heap_of}
use Rattle.class_heap.specs.Placing.{IsHeapStep, IsPlacing, IsWrite, IsReturn}

-- its blocks
abbrev pub heap_blocks : ClassHeap → Blocks
heap_blocks h = blocks_of h.entries.items

-- its slabs
abbrev pub heap_slabs : ClassHeap → Heap
heap_slabs h = heap_of h.passing h.entries.items

-- a block of so many bytes was placed by the heap's rule
abbrev pub Places : ClassHeap → ClassHeap → ℕ → BlockRef → Type 0
Places before after len at =
    IsPlacing (heap_blocks before) (heap_slabs before) (heap_blocks after) (heap_slabs after) len at

-- a step by the heap's rule of placing
abbrev pub IsClassHeapStep : ClassHeap → ClassHeap → Type 0
IsClassHeapStep before after =
    IsHeapStep (heap_blocks before) (heap_slabs before) (heap_blocks after) (heap_slabs after)

-- A block was lengthened: by the heap's rule by a placing of so many bytes, a write of its own over them, and its return.
pub record Lengthens (before after : ClassHeap) (at : BlockRef) (len : ℕ) (new : BlockRef) : Type 0 where
  pub placed : ClassHeap
  pub written : ClassHeap
  pub places : Places before placed len new
  pub writes : IsWrite (heap_blocks placed) (heap_slabs placed) (heap_blocks written) (heap_slabs written) new 0
      (bytes_at (heap_blocks before) at)
  pub returns : IsReturn (heap_blocks written) (heap_slabs written) (heap_blocks after) (heap_slabs after) at
