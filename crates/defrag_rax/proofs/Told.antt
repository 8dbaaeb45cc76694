-- The rows of an audit, class by class.
use Rattle.std.specs.Prelude.{◌≡◌, ℕ, ◌+◌, ◌-◌, ◌/◌, ◌%◌, ◌^◌, ◌<◌, min, List, [], ◌∷◌, ◌++◌, map, slice_index, if◌then◌else◌}
use Rattle.std.specs.List.{filter, range_with_len}
use Rattle.std.proofs.Common.{arith, ap, ◌∙◌, sym}
use Rattle.std.proofs.lemmas.List.FromFn.{filter_of_map_range_with_len_more}
use Rattle.blocks.specs.declared.BlockRef.{BlockRef}
use Rattle.blocks.specs.Slabs.{Heap, size_of, slabs_of, used_of, needed}
use Rattle.slab_counts.specs.Counts.{count_in}
use Rattle.defrag_rax.specs.declared.rows.AuditRow.{AuditRow}
use Rattle.defrag_rax.specs.Rows.{audit_row, has_slab, Splits}

-- a quotient rounded up
pub rounded_up : (many room : ℕ) → 0 < room → many / room + min 1 (many % room) ≡ (many + (room - 1)) / room
rounded_up many room some = grind (arith, some)

-- what was found of a class
pub record IsFound (h : Heap) (class counted : ℕ) (row : AuditRow) : Type 0 where
  pub size : row.size ≡ size_of class
  pub slabs : row.slabs ≡ slabs_of h class
  pub needed : row.needed ≡ needed h class
  pub tree : row.tree ≡ counted
  pub other : row.tree + row.other ≡ used_of h class
  pub fits : used_of h class < 2 ^ 64

row_is : (h : Heap) (counts : List ℕ) (tree other : List BlockRef) (class : ℕ) (row : AuditRow) → class < 36 → Splits h counts tree other
    → IsFound h class (slice_index counts class) row → row ≡ audit_row h tree other class
row_is h counts tree other class row lt s f =
    let nodes : row.tree ≡ count_in h class tree = omega (arith, f.tree, s.counted class lt, s.all class, f.fits) in
    let others : row.other ≡ count_in h class other = omega (arith, nodes, f.other, s.all class) in
    λ i. record { size = f.size i; slabs = f.slabs i; needed = f.needed i; tree = nodes i; other = others i }

-- one more class was looked at
pub looked_at : (h : Heap) (counts : List ℕ) (tree other : List BlockRef) (class : ℕ) (rows new : List AuditRow) (row : AuditRow) → class < 36 → Splits h counts tree other
    → IsFound h class (slice_index counts class) row → new ≡ rows ++ (if has_slab row then row ∷ [] else [])
    → rows ≡ filter has_slab (map (audit_row h tree other) (range_with_len 0 class))
    → new ≡ filter has_slab (map (audit_row h tree other) (range_with_len 0 (class + 1)))
looked_at h counts tree other class rows new row lt s f is before =
    is
    ∙ ap (λ l. l ++ (if has_slab row then row ∷ [] else [])) before
    ∙ ap (λ x. filter has_slab (map (audit_row h tree other) (range_with_len 0 class)) ++ (if has_slab x then x ∷ [] else [])) (row_is h counts tree other class row lt s f)
    ∙ sym (filter_of_map_range_with_len_more has_slab (audit_row h tree other) 0 class class (omega arith))
