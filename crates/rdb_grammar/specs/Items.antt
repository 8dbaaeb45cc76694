-- The items of a file, by their first byte: an opcode, or the type of a value (RDB file format, "Op codes", "Key-value
-- pairs").
use Rattle.std.specs.Prelude.{ℕ, ◌-◌, ◌*◌, ◌^◌, Bool, List, nat_lt, ◌==◌, ◌||◌}
use Rattle.std.specs.Int.{Width, w32, w64, byte_len}
use Rattle.plain_world.specs.Worlds.{Value}
use Rattle.rdb_grammar.specs.declared.fault.LoadKind.TheVariants as kinds
use Rattle.rdb_grammar.specs.declared.values.Collection.{Collection}
use Rattle.rdb_grammar.specs.declared.values.Collection.TheVariants as of
use Rattle.rdb_grammar.specs.declared.values.Packed.{Packed}
use Rattle.rdb_grammar.specs.declared.values.Packed.TheVariants as packs
use Rattle.rdb_grammar.specs.declared.values.Layout.{Layout}
use Rattle.rdb_grammar.specs.declared.values.Layout.TheVariants as layouts
use Rattle.rdb_grammar.specs.declared.values.StreamType.{StreamType}
use Rattle.rdb_grammar.specs.declared.values.StreamType.TheVariants as types
use Rattle.rdb_grammar.specs.Codes as code
use Rattle.rdb_grammar.specs.Format.{Format, give, some_bytes, followed, checked, Branch, Goes, Refuses, pick, turned, by_first}
use Rattle.rdb_grammar.specs.Lengths.{number_le, a_length}
use Rattle.rdb_grammar.specs.Strings.{string}
use Rattle.rdb_grammar.specs.Layouts.{laid}
use Rattle.rdb_grammar.specs.Values.{value_behind}

-- what an item says: nothing that is kept, a deadline in milliseconds for the next key, the database of the keys that
-- follow, the end of the items, or a key with its value
pub data Item : Type 0 where
  Passed : Item
  Deadline : ℕ → Item
  Database : ℕ → Item
  End : Item
  Key : List ℕ → Value → Item

-- a key's string, and then its value
abbrev pub key_with : Format Value → Format Item
key_with value = followed string λ name. followed value λ x. give (Key name x)

abbrev pub keyed : Branch Value → Branch Item
keyed (Goes value) = Goes (key_with value)
keyed (Refuses is) = Refuses is

-- a part of which nothing is kept
abbrev pub passed : {A : Type 0} → Format A → Branch Item
passed one = Goes (followed one λ x. give Passed)

-- two parts of one kind, of which the second is told
abbrev pub two : {A : Type 0} → Format A → Format A
two one = followed one λ x. one

-- a signed number is not below 0: its top bit is 0
abbrev pub is_above : Width → ℕ → Bool
is_above w n = nat_lt n (2 ^ (8 * byte_len w - 1))

-- a deadline in units of so many milliseconds, a signed number with the lowest byte first
abbrev pub deadline_in : Width → ℕ → Format Item
deadline_in w unit = followed (checked kinds.Deadline 0 (is_above w) (number_le w)) λ n. give (Deadline (n * unit))

-- the number of a database
abbrev pub database : Format ℕ
database = checked kinds.Database 0 (λ n. nat_lt n 16) a_length

-- what stands behind an opcode; any other byte is a value's type
abbrev pub whole_behind : ℕ → Branch Item
whole_behind b =
    pick (b == code.function || b == code.old_function) (Refuses kinds.Functions)
    (pick (b == code.module_data) (Refuses kinds.Module)
    (pick (b == code.idle) (passed a_length)
    (pick (b == code.frequency) (passed (some_bytes 1))
    (pick (b == code.auxiliary) (passed (two string))
    (pick (b == code.sizes) (passed (two a_length))
    (pick (b == code.deadline_ms) (Goes (deadline_in w64 1))
    (pick (b == code.deadline) (Goes (deadline_in w32 1000))
    (pick (b == code.select_db) (Goes (followed database λ n. give (Database n)))
    (pick (b == code.eof) (Goes (give End)) (keyed (value_behind b)))))))))))

-- The first part of an item: all of it, or of a key with a collection what stands before its elements, its string or its
-- nodes, or the parts of a stream, and how they follow.
pub data Part : Type 0 where
  Whole : Item → Part
  Opens : List ℕ → Layout → Part

-- a key's string, and then the number of its collection's elements
abbrev pub opens : Collection → Branch Part
opens type = Goes (followed string λ name. followed a_length λ n. give (Opens name (layouts.Elements type n)))

-- a key's string, behind which one stands that its collection is packed in
abbrev pub packs_in : Packed → Branch Part
packs_in packed = Goes (followed string λ name. give (Opens name (layouts.Packed packed)))

-- a key's string, and then the number of its list's nodes
abbrev pub opens_nodes : Branch Part
opens_nodes = Goes (followed string λ name. followed a_length λ n. give (Opens name (layouts.Nodes n)))

-- a key's string, behind which a stream of a type stands
abbrev pub streams : StreamType → Branch Part
streams type = Goes (followed string λ name. give (Opens name (layouts.Stream type)))

abbrev pub part_behind : ℕ → Branch Part
part_behind b =
    pick (b == code.list) (opens of.List)
    (pick (b == code.set) (opens of.Set)
    (pick (b == code.hash) (opens of.Hash)
    (pick (b == code.sorted_set) (opens of.SortedSet)
    (pick (b == code.intset) (packs_in packs.Numbers)
    (pick (b == code.packed_set) (packs_in packs.Texts)
    (pick (b == code.packed_hash) (packs_in packs.Pairs)
    (pick (b == code.packed_sorted_set) (packs_in packs.Scores)
    (pick (b == code.list_of_nodes) opens_nodes
    (pick (b == code.stream) (streams types.First)
    (pick (b == code.second_stream) (streams types.Second)
    (pick (b == code.third_stream) (streams types.Third) (turned Whole (whole_behind b)))))))))))))

abbrev pub part : Format Part
part = by_first part_behind

-- what is left of an item behind its first part: nothing, or a collection
abbrev pub left_of : Part → Format Item
left_of (Whole x) = give x
left_of (Opens name layout) = followed (laid layout) λ value. give (Key name value)

abbrev pub item : Format Item
item = followed part left_of
