-- Whether a list of elements is a stream node, found by spelling anew what is read of it (the listpack of a stream's node:
-- `t_stream.c` of Redis 7.2).
use Rattle.std.specs.Prelude.{◌≡◌, ℕ, zero, suc, ◌+◌, ◌^◌, ℤ, Bool, true, false, List, ◌∷◌, ◌++◌, length, take, drop, Ok, Err, Option, Some, None, nat_lt, bytes_eq, ◌==◌, ◌&&◌, ◌||◌, if◌then◌else◌}
use Rattle.std.specs.Cmp.Lexicographic.{pointwise}
use Rattle.int_text.specs.Decimal.{canonical}
use Rattle.stream_node.specs.declared.id.Id.{Id}
use Rattle.stream_node.specs.Entry.{Pair, Stored, number, flags, fields_of, body, size}
use Rattle.stream_node.specs.Node.{Node, marked}
use Rattle.stream_node.specs.Entries.{element, integer, count, has_same, entry_at, behind_entry, field_count, entry_count, entries_of, IsNode}
use Rattle.rdb_grammar.specs.declared.fault.LoadKind.TheVariants as kinds
use Rattle.rdb_grammar.specs.Format.{Payload}

abbrev pub Texts : Type 0
Texts = List (List ℕ)

abbrev pub texts_eq : Texts → Texts → Bool
texts_eq xs ys = pointwise bytes_eq xs ys

-- the elements of an entry with these differences from the node's key, and what stands behind them
abbrev pub spelled : Bool → Stored → ℤ → ℤ → Texts → Texts
spelled same e ms seq rest =
    number (flags e.deleted same) ∷ canonical ms ∷ canonical seq
    ∷ (body same e.pairs ++ number (size (body same e.pairs)) ∷ rest)

-- the fields are the node's; or there is one at least, and their number fits in 63 bits
abbrev pub has_fields : Bool → Texts → List Pair → Bool
has_fields true master pairs = texts_eq (fields_of pairs) master
has_fields false master pairs = nat_lt 0 (length pairs) && nat_lt (length pairs) (2 ^ 63)

-- whether an entry's fields are the node's
abbrev pub is_same : Texts → Bool
is_same list = has_same (count (element list 0))

-- the list begins with an entry, of a node with these fields
abbrev pub is_entry : Id → Texts → Texts → Bool
is_entry key master list =
    let e = entry_at key master list in
    texts_eq list (spelled (is_same list) e (integer (element list 1)) (integer (element list 2)) (behind_entry master list))
    && has_fields (is_same list) master e.pairs

-- the id is above the one before it, where there is one
abbrev pub is_after : Option Id → Id → Bool
is_after None id = true
is_after (Some before) id = nat_lt before.ms id.ms || ((before.ms == id.ms) && nat_lt before.seq id.seq)

-- the list is so many entries, with rising ids
unfoldable pub are_entries : Id → Texts → Option Id → ℕ → Texts → Bool
are_entries key master before zero list = length list == 0
are_entries key master before (suc n) list =
    let e = entry_at key master list in
    is_entry key master list
    && (is_after before e.id && are_entries key master (Some e.id) n (behind_entry master list))

-- the elements before the entries of a node, and what stands behind them
abbrev pub head_spelled : ℕ → ℕ → Texts → Texts → Texts
head_spelled live deleted master rest =
    number live ∷ number deleted ∷ number (length master) ∷ (master ++ number 0 ∷ rest)

-- the fields of a node, and what stands behind its head
abbrev pub fields_in : Texts → Texts
fields_in list = take (field_count list) (drop 3 list)

abbrev pub behind_head : Texts → Texts
behind_head list = drop (4 + field_count list) list

-- the list is a stream node of that key
abbrev pub is_node : Id → Texts → Bool
is_node key list =
    texts_eq list (head_spelled (count (element list 0)) (count (element list 1)) (fields_in list) (behind_head list))
    && (nat_lt 0 (length (fields_in list))
    && (are_entries key (fields_in list) None (entry_count list) (behind_head list)
    && (marked (entries_of key list) == count (element list 1))))

-- the entries of a list that is a stream node of that key
abbrev pub node_in : Id → Payload Texts (List Stored)
node_in key = record {
  found = λ list. if is_node key list then Ok (entries_of key list) else Err kinds.StreamShape;
  Means = λ list entries. Node key list entries;
  Breaks = λ list kind. ¬ (IsNode key list) × (kind ≡ kinds.StreamShape);
}
