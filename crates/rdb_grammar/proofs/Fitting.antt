-- What the items of a file say lies in the bounds that the code keeps.
use Rattle.std.proofs.Common.{◌≡◌, ◌==◌, ◌||◌, ℕ, ◌*◌, ◌-◌, ◌<◌, ◌^◌, Bool, true, false, List, sym, subst, arith}
use Rattle.std.specs.Int.{Width, w32, w64, byte_len}
use Rattle.std.proofs.lemmas.Bool.{ltb-true}
use Rattle.plain_world.specs.Worlds.{Value}
use Rattle.rdb_grammar.specs.Codes as code
use Rattle.rdb_grammar.specs.Format.{Format, give, some_bytes, followed, Branch, Goes, Refuses, BranchSpells, pick, turned}
use Rattle.rdb_grammar.specs.Lengths.{a_length}
use Rattle.rdb_grammar.specs.Strings.{string}
use Rattle.rdb_grammar.specs.Values.{value_behind}
use Rattle.rdb_grammar.specs.Items.{Item, Passed, Deadline, Database, End, Key, Part, Whole, Opens, keyed, passed, two, deadline_in, database, whole_behind, opens, packs_in, opens_nodes}
use Rattle.rdb_grammar.specs.Items.{streams, part_behind, left_of, item}
use Rattle.rdb_grammar.specs.declared.values.Collection.{Collection}
use Rattle.rdb_grammar.specs.declared.values.Collection.TheVariants as of
use Rattle.rdb_grammar.specs.declared.values.Packed.{Packed}
use Rattle.rdb_grammar.specs.declared.values.Packed.TheVariants as packs
use Rattle.rdb_grammar.specs.declared.values.StreamType.{StreamType}
use Rattle.rdb_grammar.specs.declared.values.StreamType.TheVariants as types
use Rattle.rdb_grammar.specs.Places.{Stands}

-- a deadline of 63 bits, and a database of 16
abbrev Fits : Item → Type 0
Fits Passed = Unit {0}
Fits (Deadline n) = n < 2 ^ 63
Fits (Database n) = n < 16
Fits End = Unit {0}
Fits (Key name value) = Unit {0}

-- what a branch spells fits
abbrev AllFit : Branch Item → Type 0
AllFit branch = (x : Item) (word : List ℕ) → BranchSpells branch x word → Fits x

fit_as : (x y : Item) → x ≡ y → Fits y → Fits x
fit_as x y e f = subst Fits (sym e) f

pick_fits : (test : Bool) (one other : Branch Item) → AllFit one → AllFit other → AllFit (pick test one other)
pick_fits true one other f g = f
pick_fits false one other f g = g

passed_fits : {A : Type 0} (one : Format A) → AllFit (passed one)
passed_fits one x word s = fit_as x Passed s.5.0 tt

deadline_in_fits : (w : Width) (unit : ℕ) → ((n : ℕ) → n < 2 ^ (8 * byte_len w - 1) → n * unit < 2 ^ 63) → AllFit (Goes (deadline_in w unit))
deadline_in_fits w unit f x word s = fit_as x (Deadline (s.0 * unit)) s.5.0 (f s.0 (ltb-true _ _ s.4.1))

database_all : AllFit (Goes (followed database λ n. give (Database n)))
database_all x word s = fit_as x (Database s.0) s.5.0 (ltb-true _ _ s.4.1)

end_fits : AllFit (Goes (give End))
end_fits x word s = fit_as x End s.0 tt

keyed_fits : (branch : Branch Value) → AllFit (keyed branch)
keyed_fits (Goes value) x word s = fit_as x (Key s.0 s.5.0) s.5.5.0 tt
keyed_fits (Refuses is) x word s = absurd s

behind_fits : (b : ℕ) → AllFit (whole_behind b)
behind_fits b =
    pick_fits (b == code.function || b == code.old_function) _ _ (λ x word s. absurd s)
    (pick_fits (b == code.module_data) _ _ (λ x word s. absurd s)
    (pick_fits (b == code.idle) _ _ (passed_fits a_length)
    (pick_fits (b == code.frequency) _ _ (passed_fits (some_bytes 1))
    (pick_fits (b == code.auxiliary) _ _ (passed_fits (two string))
    (pick_fits (b == code.sizes) _ _ (passed_fits (two a_length))
    (pick_fits (b == code.deadline_ms) _ _ (deadline_in_fits w64 1 (λ n lt. omega (arith, lt)))
    (pick_fits (b == code.deadline) _ _ (deadline_in_fits w32 1000 (λ n lt. omega (arith, lt)))
    (pick_fits (b == code.select_db) _ _ database_all
    (pick_fits (b == code.eof) _ _ end_fits (keyed_fits (value_behind b)))))))))))

-- an item that is read whole fits
abbrev PartFits : Part → Type 0
PartFits (Whole x) = Fits x
PartFits (Opens name layout) = Unit {0}

abbrev PartsFit : Branch Part → Type 0
PartsFit branch = (p : Part) (word : List ℕ) → BranchSpells branch p word → PartFits p

pick_parts : (test : Bool) (one other : Branch Part) → PartsFit one → PartsFit other → PartsFit (pick test one other)
pick_parts true one other f g = f
pick_parts false one other f g = g

opens_fits : (type : Collection) → PartsFit (opens type)
opens_fits type p word s = subst PartFits (sym s.5.5.0) tt

packs_fit : (packed : Packed) → PartsFit (packs_in packed)
packs_fit packed p word s = subst PartFits (sym s.5.0) tt

nodes_fit : PartsFit opens_nodes
nodes_fit p word s = subst PartFits (sym s.5.5.0) tt

streams_fit : (type : StreamType) → PartsFit (streams type)
streams_fit type p word s = subst PartFits (sym s.5.0) tt

turned_fits : (branch : Branch Item) → AllFit branch → PartsFit (turned Whole branch)
turned_fits (Goes one) f p word s = subst PartFits (sym s.5.0) (f s.0 s.1 s.4)
turned_fits (Refuses is) f p word s = absurd s

part_fits : (b : ℕ) → PartsFit (part_behind b)
part_fits b =
    pick_parts (b == code.list) _ _ (opens_fits of.List)
    (pick_parts (b == code.set) _ _ (opens_fits of.Set)
    (pick_parts (b == code.hash) _ _ (opens_fits of.Hash)
    (pick_parts (b == code.sorted_set) _ _ (opens_fits of.SortedSet)
    (pick_parts (b == code.intset) _ _ (packs_fit packs.Numbers)
    (pick_parts (b == code.packed_set) _ _ (packs_fit packs.Texts)
    (pick_parts (b == code.packed_hash) _ _ (packs_fit packs.Pairs)
    (pick_parts (b == code.packed_sorted_set) _ _ (packs_fit packs.Scores)
    (pick_parts (b == code.list_of_nodes) _ _ nodes_fit
    (pick_parts (b == code.stream) _ _ (streams_fit types.First)
    (pick_parts (b == code.second_stream) _ _ (streams_fit types.Second)
    (pick_parts (b == code.third_stream) _ _ (streams_fit types.Third) (turned_fits (whole_behind b) (behind_fits b)))))))))))))

-- what is left of an item that fits is an item that fits
left_fits : (p : Part) (x : Item) (word : List ℕ) → PartFits p → (left_of p).Spells x word → Fits x
left_fits (Whole y) x word f s = fit_as x y s.0 f
left_fits (Opens name layout) x word f s = fit_as x (Key name s.0) s.5.0 tt

item_fits : (x : Item) (bytes : List ℕ) (at next : ℕ) → Stands item x bytes at next → Fits x
item_fits x bytes at next s =
    left_fits s.spelled.0 x s.spelled.2 (part_fits s.spelled.4.0 s.spelled.0 s.spelled.4.1 s.spelled.4.3) s.spelled.5

pub deadline_fits : (n : ℕ) (bytes : List ℕ) (at next : ℕ) → Stands item (Deadline n) bytes at next → n < 2 ^ 63
deadline_fits n = item_fits (Deadline n)

pub database_fits : (n : ℕ) (bytes : List ℕ) (at next : ℕ) → Stands item (Database n) bytes at next → n < 16
database_fits n = item_fits (Database n)
