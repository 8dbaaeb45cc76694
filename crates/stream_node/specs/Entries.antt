-- The entries of a list that is a node, read from left to right.
use Rattle.std.specs.Prelude.{ℕ, zero, suc, ◌+◌, ◌*◌, ◌%◌, ◌==◌, ℤ, pos, Bool, true, false, List, [], ◌∷◌, length, take, drop, slice_index_or, unwrap_or, nat_le}
use Rattle.std.specs.List.{zip}
use lib.Signed.{mag}
use Rattle.int_text.specs.Decimal.{number_of}
use Rattle.stream_node.specs.declared.id.Id.{Id}
use Rattle.stream_node.specs.Entry.{Pair, Stored, moved}
use Rattle.stream_node.specs.Pairs.{alternating}
use Rattle.stream_node.specs.Node.{Node}

-- the element at a place
abbrev pub element : List (List ℕ) → ℕ → List ℕ
element list i = slice_index_or list i []

-- the number that an element means
abbrev pub integer : List ℕ → ℤ
integer text = unwrap_or (number_of text) (pos 0)

abbrev pub count : List ℕ → ℕ
count text = mag (integer text)

-- what the flags say
abbrev pub is_marked : ℕ → Bool
is_marked flags = flags % 2 == 1

abbrev pub has_same : ℕ → Bool
has_same flags = nat_le 2 flags

-- Where the fields are the node's, a value for each; else the number of pairs, and these.
abbrev pub pairs_in : Bool → List (List ℕ) → List (List ℕ) → List Pair
pairs_in true master list = zip master (take (length master) list)
pairs_in false master list = alternating (count (element list 0)) (drop 1 list)

-- how many elements that are
abbrev pub pairs_long : Bool → List (List ℕ) → List (List ℕ) → ℕ
pairs_long true master list = length master
pairs_long false master list = 1 + 2 * count (element list 0)

-- the entry that a list begins with, and what stands behind it
abbrev pub entry_at : Id → List (List ℕ) → List (List ℕ) → Stored
entry_at key master list =
    let flags = count (element list 0) in
    record {
      id = record { ms = moved key.ms (integer (element list 1)); seq = moved key.seq (integer (element list 2)) };
      deleted = is_marked flags;
      pairs = pairs_in (has_same flags) master (drop 3 list);
    }

abbrev pub behind_entry : List (List ℕ) → List (List ℕ) → List (List ℕ)
behind_entry master list = drop (4 + pairs_long (has_same (count (element list 0))) master (drop 3 list)) list

-- so many entries, of a node with these fields
unfoldable pub entries_from : Id → List (List ℕ) → ℕ → List (List ℕ) → List Stored
entries_from key master zero list = []
entries_from key master (suc n) list = entry_at key master list ∷ entries_from key master n (behind_entry master list)

-- how many fields a node has, and how many entries
abbrev pub field_count : List (List ℕ) → ℕ
field_count list = count (element list 2)

abbrev pub entry_count : List (List ℕ) → ℕ
entry_count list = count (element list 0) + count (element list 1)

-- the entries of a node
unfoldable pub entries_of : Id → List (List ℕ) → List Stored
entries_of key list =
    entries_from key (take (field_count list) (drop 3 list)) (entry_count list) (drop (4 + field_count list) list)

-- The list is a stream node of that key.
abbrev pub IsNode : Id → List (List ℕ) → Type 0
IsNode key list = Node key list (entries_of key list)
