-- The ordered map that a `PackedTree` is.
use Rattle.std.specs.Prelude.{ℕ, Bool, true, false, not, List, [], ◌∷◌, ◌++◌, Option, Some, None}
use Rattle.std.specs.List.{filter, find}
use Rattle.std.specs.Option.{option_map}
use Rattle.std.specs.Ordering.{is_eq, is_ne, is_lt, is_gt, nat_cmp}
use Rattle.std.specs.declared.cmp.Ordering.{Ordering}
use Rattle.std.specs.Cmp.Lexicographic.{slice_cmp}
use Rattle.blocks.specs.declared.BlockRef.{BlockRef}
use Rattle.rax_packed.specs.Trees.{Entry}

-- the order of keys: that of their bytes
abbrev pub order : List ℕ → List ℕ → Ordering
order key other = slice_cmp nat_cmp key other

-- the value of a key
unfoldable pub value_at : List Entry → List ℕ → Option BlockRef
value_at entries key = option_map (λ e. e.value) (find (λ e. is_eq (order e.key key)) entries)

-- the entries with this value at the key, in its place in the order
unfoldable pub with_entry : List Entry → List ℕ → BlockRef → List Entry
with_entry entries key value =
    filter (λ e. is_lt (order e.key key)) entries
    ++ (record { key = key; value = value } ∷ filter (λ e. is_gt (order e.key key)) entries)

-- the entries but that of the key
unfoldable pub without : List Entry → List ℕ → List Entry
without entries key = filter (λ e. is_ne (order e.key key)) entries

-- the first of two that there is
abbrev pub or_else : {X : Type 0} → Option X → Option X → Option X
or_else None other = other
or_else (Some x) other = Some x

abbrev pub first_of : List Entry → Option Entry
first_of [] = None
first_of (e ∷ more) = Some e

abbrev pub last_of : List Entry → Option Entry
last_of [] = None
last_of (e ∷ more) = or_else (last_of more) (Some e)

-- the entry at an end: the first one, or else the last
abbrev pub end_of : Bool → List Entry → Option Entry
end_of true entries = first_of entries
end_of false entries = last_of entries

-- the entry whose key is nearest: the first that isn't before the key, or else the last that isn't after it
unfoldable pub nearest : Bool → List Entry → List ℕ → Option Entry
nearest true entries key = first_of (filter (λ e. not (is_lt (order e.key key))) entries)
nearest false entries key = last_of (filter (λ e. not (is_gt (order e.key key))) entries)
