-- The rows of an audit.
use Rattle.std.specs.Prelude.{◌≡◌, ℕ, ◌+◌, ◌-◌, ◌^◌, ◌<◌, min, Bool, nat_lt, List, map, slice_index}
use Rattle.std.specs.List.{filter, range_with_len}
use Rattle.blocks.specs.declared.BlockRef.{BlockRef}
use Rattle.blocks.specs.Slabs.{Heap, size_of, slabs_of, used_of, needed}
use Rattle.slab_counts.specs.Counts.{count_in}
use Rattle.defrag_rax.specs.declared.rows.AuditRow.{AuditRow}

-- the row of a class, where these are the tree nodes and these the other blocks
abbrev pub audit_row : Heap → List BlockRef → List BlockRef → ℕ → AuditRow
audit_row h tree other class = record {
  size = size_of class;
  slabs = slabs_of h class;
  needed = needed h class;
  tree = count_in h class tree;
  other = count_in h class other;
}

abbrev pub has_slab : AuditRow → Bool
has_slab row = nat_lt 0 row.slabs

-- the rows of the classes that have a slab, of all 36, by rising sizes
abbrev pub audit_rows : Heap → List BlockRef → List BlockRef → List AuditRow
audit_rows h tree other = filter has_slab (map (audit_row h tree other) (range_with_len 0 36))

-- so many tree nodes were counted of each class, up to 2^64 - 1, and these with the other blocks are all that its slabs hold
pub record Splits (h : Heap) (counts : List ℕ) (tree other : List BlockRef) : Type 0 where
  pub counted : (class : ℕ) → class < 36 → slice_index counts class ≡ min (2 ^ 64 - 1) (count_in h class tree)
  pub all : (class : ℕ) → count_in h class tree + count_in h class other ≡ used_of h class
