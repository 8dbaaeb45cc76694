-- The elements of collections of a file, one behind the other (RDB file format, "List Encoding", "Set Encoding", "Hash
-- Encoding", "Sorted Set Encoding").
use Rattle.std.specs.Prelude.{ℕ, List, [], ◌∷◌, ◌++◌, is_none}
use Rattle.std.specs.FinMap.{FinMap, empty, get, insert}
use Rattle.std.specs.Cmp.Lexicographic.{slice_cmp}
use Rattle.std.specs.Ordering.{nat_cmp}
use Rattle.plain_world.specs.Worlds.{Value, Str, ListOf, SetOf, HashOf, SortedOf, StreamOf}
use Rattle.rdb_grammar.specs.declared.fault.LoadKind.TheVariants as kinds
use Rattle.rdb_grammar.specs.declared.values.Collection.{Collection}
use Rattle.rdb_grammar.specs.declared.values.Collection.TheVariants as of
use Rattle.rdb_grammar.specs.Format.{Format, give, followed, checked}
use Rattle.rdb_grammar.specs.Strings.{string}
use Rattle.rdb_grammar.specs.Scores.{score}

-- what stands at members or fields
abbrev pub Map : Type 0 → Type 0
Map A = FinMap (slice_cmp nat_cmp) A

-- a member or field that isn't among those before it; a second one is a fault at its string
abbrev pub fresh : {A : Type 0} → Map A → Format (List ℕ)
fresh before = checked kinds.DuplicateElement 0 (λ text. is_none (get before text)) string

-- One element more: behind those of a list; beside the members of a set; a field and its value beside those of a hash; a
-- member and its score beside those of a sorted set. No other value has elements.
abbrev pub with_one : Value → Format Value
with_one (Str text) = give (Str text)
with_one (ListOf elements) = followed string λ text. give (ListOf (elements ++ text ∷ []))
with_one (SetOf members) = followed (fresh members) λ text. give (SetOf (insert members text tt))
with_one (HashOf fields) = followed (fresh fields) λ text. followed string λ value. give (HashOf (insert fields text value))
with_one (SortedOf scores) = followed (fresh scores) λ text. followed score λ n. give (SortedOf (insert scores text n))
with_one (StreamOf stream) = give (StreamOf stream)

-- a collection without an element
abbrev pub without_any : Collection → Value
without_any of.List = ListOf []
without_any of.Set = SetOf empty
without_any of.Hash = HashOf empty
without_any of.SortedSet = SortedOf empty
without_any of.Stream = StreamOf (record { entries = []; last = (0, 0); deleted = (0, 0); added = 0; groups = empty })
