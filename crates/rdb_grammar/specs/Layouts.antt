-- How collections stand behind their keys (RDB file format, "Value encodings").
use Rattle.std.specs.Prelude.{ℕ, List, Bool, true, false, ◌==◌, ◌||◌}
use Rattle.plain_world.specs.Worlds.{Value}
use Rattle.rdb_grammar.specs.declared.fault.LoadKind.TheVariants as kinds
use Rattle.rdb_grammar.specs.declared.values.Collection.{Collection}
use Rattle.rdb_grammar.specs.declared.values.Collection.TheVariants as of
use Rattle.rdb_grammar.specs.declared.values.Layout.{Layout}
use Rattle.rdb_grammar.specs.declared.values.Layout.TheVariants as layouts
use Rattle.rdb_grammar.specs.declared.values.Packed.{Packed}
use Rattle.rdb_grammar.specs.declared.values.Packed.TheVariants as packs
use Rattle.rdb_grammar.specs.Format.{Format, Payload, followed, checked, in_turn, inside}
use Rattle.rdb_grammar.specs.Lengths.{a_length}
use Rattle.rdb_grammar.specs.Strings.{string}
use Rattle.rdb_grammar.specs.Elements.{with_one, without_any}
use Rattle.rdb_grammar.specs.StreamParts.{stream}
use Rattle.rdb_grammar.specs.Payloads.{numbers_on, texts_on, pairs_on, scores_on}

-- what a string holds more of a value
abbrev pub held : Packed → Value → Payload (List ℕ) Value
held packs.Numbers made = numbers_on made
held packs.Texts made = texts_on made
held packs.Pairs made = pairs_on made
held packs.Scores made = scores_on made

-- what the string of a list's node is: 1 for an element, 2 for a listpack of elements
abbrev pub is_container : ℕ → Bool
is_container n = n == 1 || n == 2

abbrev pub container : Format ℕ
container = checked kinds.ListNode 0 is_container a_length

-- what such a string holds, behind the elements of a list
abbrev pub with_string : Bool → Value → Format Value
with_string true made = with_one made
with_string false made = inside string (held packs.Texts made)

-- one node more
abbrev pub with_node : Value → Format Value
with_node made = followed container λ n. with_string (n == 1) made

-- what is laid out
abbrev pub started : Layout → Collection
started (layouts.Elements type n) = type
started (layouts.Packed packs.Numbers) = of.Set
started (layouts.Packed packs.Texts) = of.Set
started (layouts.Packed packs.Pairs) = of.Hash
started (layouts.Packed packs.Scores) = of.SortedSet
started (layouts.Nodes n) = of.List
started (layouts.Stream type) = of.Stream

-- what is laid out, put into a value; a stream is read whole
abbrev pub laid_on : Layout → Value → Format Value
laid_on (layouts.Elements type n) made = in_turn with_one n made
laid_on (layouts.Packed packed) made = inside string (held packed made)
laid_on (layouts.Nodes n) made = in_turn with_node n made
laid_on (layouts.Stream type) made = stream type

-- a collection that is laid out
abbrev pub laid : Layout → Format Value
laid layout = laid_on layout (without_any (started layout))
