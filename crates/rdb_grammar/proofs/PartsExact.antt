-- Each part is exact, by its build.
use Rattle.std.proofs.Common.{ℕ, ◌==◌, ◌||◌, Bool, true, false}
use Rattle.std.specs.Int.{Width, w32, w64}
use Rattle.plain_world.specs.Worlds.{Value, Str, ListOf, SetOf, HashOf, SortedOf, StreamOf}
use Rattle.rdb_grammar.specs.declared.fault.LoadKind.TheVariants as kinds
use Rattle.rdb_grammar.specs.Codes as code
use Rattle.rdb_grammar.specs.Format.{Format, Branch, Goes, Refuses, inside}
use Rattle.rdb_grammar.specs.Lengths.{a_length}
use Rattle.rdb_grammar.specs.Strings.{string}
use Rattle.rdb_grammar.specs.Values.{string_value, is_old, value_behind}
use Rattle.rdb_grammar.specs.Scores.{is_score, score}
use Rattle.rdb_grammar.specs.Elements.{Map, fresh, with_one, without_any}
use Rattle.rdb_grammar.specs.Layouts.{held, is_container, container, with_string, with_node, started, laid_on, laid}
use Rattle.rdb_grammar.specs.declared.values.Collection.{Collection}
use Rattle.rdb_grammar.specs.declared.values.Collection.TheVariants as of
use Rattle.rdb_grammar.specs.declared.values.Packed.{Packed}
use Rattle.rdb_grammar.specs.declared.values.Packed.TheVariants as packs
use Rattle.rdb_grammar.specs.declared.values.Layout.{Layout}
use Rattle.rdb_grammar.specs.declared.values.StreamType.{StreamType}
use Rattle.rdb_grammar.specs.declared.values.StreamType.TheVariants as types
use Rattle.rdb_grammar.specs.declared.values.Layout.TheVariants as layouts
use Rattle.rdb_grammar.proofs.PayloadsExact.{inside_exact}
use Rattle.rdb_grammar.proofs.PackedExact.{numbers_on_decided, texts_on_decided, pairs_on_decided, scores_on_decided}
use Rattle.rdb_grammar.specs.Items.{Part, Whole, Opens, keyed, passed, two, deadline_in, database, whole_behind, opens, packs_in, opens_nodes, streams, part_behind, part, left_of, item}
pub use Rattle.rdb_grammar.proofs.StringsExact.{number_exact, number_le_exact, length_behind_exact, a_length_exact, head_exact, body_exact, string_exact, in_turn_exact}
use Rattle.rdb_grammar.proofs.StreamsExact.{stream_exact}
use Rattle.rdb_grammar.proofs.Exactly.{Exact, BranchExact, goes_exact, refuses_exact, give_exact, some_bytes_exact, followed_exact, checked_exact, pick_exact, turned_exact, by_first_exact}

string_value_exact : Exact string_value
string_value_exact = followed_exact _ _ string_exact λ text. give_exact _

value_behind_exact : (b : ℕ) → BranchExact (value_behind b)
value_behind_exact b =
    pick_exact (b == code.string) _ _ (goes_exact _ string_value_exact)
    (pick_exact (is_old b) _ _ (refuses_exact kinds.OldKind) (pick_exact (b == code.old_module || b == code.module_value) _ _ (refuses_exact kinds.Module) (refuses_exact kinds.Kind)))

keyed_exact : (branch : Branch Value) → BranchExact branch → BranchExact (keyed branch)
keyed_exact (Goes value) e = goes_exact _ (followed_exact _ _ string_exact λ name. followed_exact _ _ e.exact λ x. give_exact _)
keyed_exact (Refuses is) e = refuses_exact _

passed_exact : {A : Type 0} (one : Format A) → Exact one → BranchExact (passed one)
passed_exact one e = goes_exact _ (followed_exact _ _ e λ x. give_exact _)

two_exact : {A : Type 0} (one : Format A) → Exact one → Exact (two one)
two_exact one e = followed_exact _ _ e λ x. e

deadline_in_exact : (w : Width) (unit : ℕ) → Exact (deadline_in w unit)
deadline_in_exact w unit = followed_exact _ _ (checked_exact _ _ _ _ (number_le_exact w)) λ n. give_exact _

database_exact : Exact database
database_exact = checked_exact _ _ _ _ a_length_exact

whole_behind_exact : (b : ℕ) → BranchExact (whole_behind b)
whole_behind_exact b =
    pick_exact (b == code.function || b == code.old_function) _ _ (refuses_exact kinds.Functions)
    (pick_exact (b == code.module_data) _ _ (refuses_exact kinds.Module)
    (pick_exact (b == code.idle) _ _ (passed_exact _ a_length_exact)
    (pick_exact _ _ _ (passed_exact _ (some_bytes_exact 1))
    (pick_exact _ _ _ (passed_exact _ (two_exact _ string_exact))
    (pick_exact _ _ _ (passed_exact _ (two_exact _ a_length_exact))
    (pick_exact _ _ _ (goes_exact _ (deadline_in_exact w64 1))
    (pick_exact _ _ _ (goes_exact _ (deadline_in_exact w32 1000))
    (pick_exact _ _ _ (goes_exact _ (followed_exact _ _ database_exact λ n. give_exact _))
    (pick_exact _ _ _ (goes_exact _ (give_exact _)) (keyed_exact _ (value_behind_exact b)))))))))))

pub score_exact : Exact score
score_exact = followed_exact _ _ (checked_exact kinds.ScoreRange 0 is_score _ (number_le_exact w64)) λ word. give_exact _

fresh_exact : {A : Type 0} (before : Map A) → Exact (fresh before)
fresh_exact before = checked_exact kinds.DuplicateElement 0 _ string string_exact

pub with_one_exact : (made : Value) → Exact (with_one made)
with_one_exact (Str text) = give_exact _
with_one_exact (ListOf elements) = followed_exact _ _ string_exact λ text. give_exact _
with_one_exact (SetOf members) = followed_exact _ _ (fresh_exact members) λ text. give_exact _
with_one_exact (HashOf fields) = followed_exact _ _ (fresh_exact fields) λ text. followed_exact _ _ string_exact λ value. give_exact _
with_one_exact (SortedOf scores) = followed_exact _ _ (fresh_exact scores) λ text. followed_exact _ _ score_exact λ n. give_exact _
with_one_exact (StreamOf stream) = give_exact _

-- a payload inside a string is exact
pub held_exact : (packed : Packed) (made : Value) → Exact (inside string (held packed made))
held_exact packs.Numbers made = inside_exact string _ string_exact (numbers_on_decided made)
held_exact packs.Texts made = inside_exact string _ string_exact (texts_on_decided made)
held_exact packs.Pairs made = inside_exact string _ string_exact (pairs_on_decided made)
held_exact packs.Scores made = inside_exact string _ string_exact (scores_on_decided made)

pub container_exact : Exact container
container_exact = checked_exact kinds.ListNode 0 is_container a_length a_length_exact

pub with_string_exact : (plain : Bool) (made : Value) → Exact (with_string plain made)
with_string_exact true made = with_one_exact made
with_string_exact false made = held_exact packs.Texts made

pub with_node_exact : (made : Value) → Exact (with_node made)
with_node_exact made = followed_exact container (λ n. with_string (n == 1) made) container_exact λ n. with_string_exact (n == 1) made

pub laid_on_exact : (layout : Layout) (made : Value) → Exact (laid_on layout made)
laid_on_exact (layouts.Elements type n) made = in_turn_exact with_one with_one_exact n made
laid_on_exact (layouts.Packed packed) made = held_exact packed made
laid_on_exact (layouts.Nodes n) made = in_turn_exact with_node with_node_exact n made
laid_on_exact (layouts.Stream type) made = stream_exact type

pub laid_exact : (layout : Layout) → Exact (laid layout)
laid_exact layout = laid_on_exact layout (without_any (started layout))

opens_exact : (type : Collection) → BranchExact (opens type)
opens_exact type = goes_exact _ (followed_exact _ _ string_exact λ name. followed_exact _ _ a_length_exact λ n. give_exact _)

packs_in_exact : (packed : Packed) → BranchExact (packs_in packed)
packs_in_exact packed = goes_exact _ (followed_exact _ _ string_exact λ name. give_exact _)

opens_nodes_exact : BranchExact opens_nodes
opens_nodes_exact = goes_exact _ (followed_exact _ _ string_exact λ name. followed_exact _ _ a_length_exact λ n. give_exact _)

streams_exact : (type : StreamType) → BranchExact (streams type)
streams_exact type = goes_exact _ (followed_exact _ _ string_exact λ name. give_exact _)

part_behind_exact : (b : ℕ) → BranchExact (part_behind b)
part_behind_exact b =
    pick_exact (b == code.list) _ _ (opens_exact of.List)
    (pick_exact (b == code.set) _ _ (opens_exact of.Set)
    (pick_exact (b == code.hash) _ _ (opens_exact of.Hash)
    (pick_exact (b == code.sorted_set) _ _ (opens_exact of.SortedSet)
    (pick_exact (b == code.intset) _ _ (packs_in_exact packs.Numbers)
    (pick_exact (b == code.packed_set) _ _ (packs_in_exact packs.Texts)
    (pick_exact (b == code.packed_hash) _ _ (packs_in_exact packs.Pairs)
    (pick_exact (b == code.packed_sorted_set) _ _ (packs_in_exact packs.Scores)
    (pick_exact (b == code.list_of_nodes) _ _ opens_nodes_exact
    (pick_exact (b == code.stream) _ _ (streams_exact types.First)
    (pick_exact (b == code.second_stream) _ _ (streams_exact types.Second)
    (pick_exact (b == code.third_stream) _ _ (streams_exact types.Third) (turned_exact Whole _ (whole_behind_exact b)))))))))))))

pub part_exact : Exact part
part_exact = by_first_exact part_behind part_behind_exact

left_of_exact : (p : Part) → Exact (left_of p)
left_of_exact (Whole x) = give_exact x
left_of_exact (Opens name layout) = followed_exact _ _ (laid_exact layout) λ value. give_exact _

pub item_exact : Exact item
item_exact = followed_exact part left_of part_exact left_of_exact
