-- The world of a file is fit.
use Rattle.std.proofs.Common.{◌≡◌, ℕ, ◌==◌, Bool, true, false, List, [], ◌∷◌, length, Option, refl, sym, subst}
use Rattle.std.specs.Prelude.{◌||◌, if◌then◌else◌}
use Rattle.std.specs.FinMap.{len}
use Rattle.plain_world.specs.Worlds.{Value, Str, ListOf, SetOf, HashOf, SortedOf, StreamOf, in_time, put}
use Rattle.rdb_grammar.specs.declared.values.Collection.{Collection}
use Rattle.rdb_grammar.specs.declared.values.Collection.TheVariants as of
use Rattle.rdb_grammar.specs.declared.values.Packed.{Packed}
use Rattle.rdb_grammar.specs.declared.values.Packed.TheVariants as packs
use Rattle.rdb_grammar.specs.declared.values.StreamType.{StreamType}
use Rattle.rdb_grammar.specs.declared.values.StreamType.TheVariants as types
use Rattle.rdb_grammar.specs.Codes as code
use Rattle.rdb_grammar.specs.Format.{Format, give, some_bytes, followed, Branch, Goes, Refuses, BranchSpells, pick, turned}
use Rattle.rdb_grammar.specs.Lengths.{a_length}
use Rattle.rdb_grammar.specs.Strings.{string}
use Rattle.rdb_grammar.specs.Values.{is_old, value_behind}
use Rattle.rdb_grammar.specs.Items.{Item, Passed, Deadline, Database, End, Key, keyed, passed, two, whole_behind, Part, Whole, Opens, opens, packs_in, opens_nodes}
use Rattle.rdb_grammar.specs.Items.{streams, part_behind, part, left_of, item}
use Rattle.rdb_grammar.specs.Layouts.{laid}
use Rattle.rdb_grammar.specs.Places.{Stands}
use Rattle.rdb_grammar.specs.Files.{State, new_state, is_void, is_kept, with_key, after, next_in, Items}
use Rattle.rdb_grammar.proofs.Fitting.{deadline_fits}
use Rattle.fit_worlds.specs.Fit.{IsShort, IsFitValue, IsFitDeadline, IsFit}
use Rattle.fit_worlds.proofs.Maps.{some_len}
use Rattle.fit_worlds.proofs.Worlds.{fit_new, fit_put}
use Rattle.fit_files.specs.Laws.{FilesAreFit}
use Rattle.fit_files.proofs.Spelled.{Says, gives, follows}
use Rattle.fit_files.proofs.Texts.{string_short, ShortValue}
use Rattle.fit_files.proofs.Values.{laid_short}

-- ---- items

-- a key with its value
abbrev ShortItem : Item → Type 0
ShortItem (Key name value) = IsShort name × ShortValue value
ShortItem other = Unit {0}

-- the first part of an item
abbrev ShortPart : Part → Type 0
ShortPart (Whole x) = ShortItem x
ShortPart (Opens name layout) = IsShort name

-- whatever a branch spells has the property
abbrev Tells : {A : Type 0} → Branch A → (A → Type 0) → Type 0
Tells {A} branch P = (x : A) (word : List ℕ) → BranchSpells branch x word → P x

picked : {A : Type 0} (P : A → Type 0) (test : Bool) (one other : Branch A) → Tells one P → Tells other P → Tells (pick test one other) P
picked P true one other f g = f
picked P false one other f g = g

passed_short : {A : Type 0} (one : Format A) → Tells (passed one) ShortItem
passed_short one x word s = subst ShortItem (sym s.5.0) tt

value_short : (b : ℕ) → Tells (value_behind b) ShortValue
value_short b =
    picked ShortValue (b == code.string) _ _ (λ x word s. follows IsShort ShortValue string (λ text. give (Str text)) string_short (λ text is. gives ShortValue (Str text) is) x word s)
    (picked ShortValue (is_old b) _ _ (λ x word s. absurd s) (picked ShortValue (b == code.old_module || b == code.module_value) _ _ (λ x word s. absurd s) (λ x word s. absurd s)))

keyed_short : (branch : Branch Value) → Tells branch ShortValue → Tells (keyed branch) ShortItem
keyed_short (Goes value) h x word s =
    follows IsShort ShortItem string (λ name. followed value λ x. give (Key name x)) string_short (λ name is.
    follows ShortValue ShortItem value (λ x. give (Key name x)) h (λ v so. gives ShortItem (Key name v) (is, so))) x word s
keyed_short (Refuses is) h x word s = absurd s

whole_short : (b : ℕ) → Tells (whole_behind b) ShortItem
whole_short b =
    picked ShortItem (b == code.function || b == code.old_function) _ _ (λ x word s. absurd s)
    (picked ShortItem (b == code.module_data) _ _ (λ x word s. absurd s)
    (picked ShortItem (b == code.idle) _ _ (passed_short a_length)
    (picked ShortItem (b == code.frequency) _ _ (passed_short (some_bytes 1))
    (picked ShortItem (b == code.auxiliary) _ _ (passed_short (two string))
    (picked ShortItem (b == code.sizes) _ _ (passed_short (two a_length))
    (picked ShortItem (b == code.deadline_ms) _ _ (λ x word s. subst ShortItem (sym s.5.0) tt)
    (picked ShortItem (b == code.deadline) _ _ (λ x word s. subst ShortItem (sym s.5.0) tt)
    (picked ShortItem (b == code.select_db) _ _ (λ x word s. subst ShortItem (sym s.5.0) tt)
    (picked ShortItem (b == code.eof) _ _ (λ x word s. subst ShortItem (sym s.0) tt) (keyed_short (value_behind b) (value_short b)))))))))))

opens_short : (type : Collection) → Tells (opens type) ShortPart
opens_short type x word s = subst ShortPart (sym s.5.5.0) (string_short s.0 s.1 s.4)

packs_short : (packed : Packed) → Tells (packs_in packed) ShortPart
packs_short packed x word s = subst ShortPart (sym s.5.0) (string_short s.0 s.1 s.4)

nodes_short : Tells opens_nodes ShortPart
nodes_short x word s = subst ShortPart (sym s.5.5.0) (string_short s.0 s.1 s.4)

streams_short : (type : StreamType) → Tells (streams type) ShortPart
streams_short type x word s = subst ShortPart (sym s.5.0) (string_short s.0 s.1 s.4)

turned_short : (branch : Branch Item) → Tells branch ShortItem → Tells (turned Whole branch) ShortPart
turned_short (Goes one) h x word s = subst ShortPart (sym s.5.0) (h s.0 s.1 s.4)
turned_short (Refuses is) h x word s = absurd s

behind_short : (b : ℕ) → Tells (part_behind b) ShortPart
behind_short b =
    picked ShortPart (b == code.list) _ _ (opens_short of.List)
    (picked ShortPart (b == code.set) _ _ (opens_short of.Set)
    (picked ShortPart (b == code.hash) _ _ (opens_short of.Hash)
    (picked ShortPart (b == code.sorted_set) _ _ (opens_short of.SortedSet)
    (picked ShortPart (b == code.intset) _ _ (packs_short packs.Numbers)
    (picked ShortPart (b == code.packed_set) _ _ (packs_short packs.Texts)
    (picked ShortPart (b == code.packed_hash) _ _ (packs_short packs.Pairs)
    (picked ShortPart (b == code.packed_sorted_set) _ _ (packs_short packs.Scores)
    (picked ShortPart (b == code.list_of_nodes) _ _ nodes_short
    (picked ShortPart (b == code.stream) _ _ (streams_short types.First)
    (picked ShortPart (b == code.second_stream) _ _ (streams_short types.Second)
    (picked ShortPart (b == code.third_stream) _ _ (streams_short types.Third) (turned_short (whole_behind b) (whole_short b)))))))))))))

part_short : Says part ShortPart
part_short x word s = behind_short s.0 x s.1 s.3

left_short : (p : Part) → ShortPart p → Says (left_of p) ShortItem
left_short (Whole x) is = gives ShortItem x is
left_short (Opens name layout) is =
    follows ShortValue ShortItem (laid layout) (λ value. give (Key name value)) (laid_short layout) (λ value so. gives ShortItem (Key name value) (is, so))

item_short : Says item ShortItem
item_short = follows ShortPart ShortItem part left_of part_short left_short

-- ---- the world

-- a value that isn't empty is fit
full_fit : (v : Value) → ShortValue v → is_void v ≡ false → IsFitValue v
full_fit (Str text) short some = short
full_fit (ListOf elements) short some = (some_len (length elements) some, short)
full_fit (SetOf members) short some = (some_len (len members) some, short)
full_fit (HashOf fields) short some = (some_len (len fields) some, short)
full_fit (SortedOf scores) short some = (some_len (len scores) some, short)
full_fit (StreamOf stream) short some = short

-- a value that is kept isn't empty
kept_full : (moment : ℕ) (deadline : Option ℕ) (v : Value) → is_kept moment deadline v ≡ true → is_void v ≡ false
kept_full moment deadline v is =
    (elim (is_void v) as (λ b. (if b then false else in_time moment deadline) ≡ true → b ≡ false) [
      | true ↦ λ e. cc
      | false ↦ λ e. refl
    ]) is

record FitState (state : State) : Type 0 where
  world : IsFit state.world
  deadline : IsFitDeadline state.deadline

key_fit : (moment : ℕ) (state : State) (name : List ℕ) (value : Value) → FitState state → IsShort name → ShortValue value → IsFit (with_key moment state name value)
key_fit moment state name value fit is short =
    (elim (is_kept moment state.deadline value) as
    (λ b. is_kept moment state.deadline value ≡ b → IsFit (if b then put state.world name (record { value = value; deadline = state.deadline }) else state.world)) [
      | true ↦ λ kept.
          fit_put state.world name (record { value = value; deadline = state.deadline }) fit.world
          (record { short = is; value = full_fit value short (kept_full moment state.deadline value kept); deadline = fit.deadline })
      | false ↦ λ other. fit.world
    ]) refl

after_fit : (moment : ℕ) (state : State) (x : Item) (bytes : List ℕ) (at next : ℕ) → FitState state → Stands (next_in state) x bytes at next → FitState (after moment state x)
after_fit moment state Passed bytes at next fit s = fit
after_fit moment state (Deadline n) bytes at next fit s =
    record { world = fit.world; deadline = deadline_fits n bytes at next (record { onward = s.onward; inside = s.inside; spelled = s.spelled.0 }) }
after_fit moment state (Database n) bytes at next fit s = record { world = record { each = fit.world.each }; deadline = fit.deadline }
after_fit moment state End bytes at next fit s = fit
after_fit moment state (Key name value) bytes at next fit s =
    let short : IsShort name × ShortValue value = item_short (Key name value) _ s.spelled.0 in
    record { world = key_fit moment state name value fit short.0 short.1; deadline = tt }

items_fit : (bytes : List ℕ) (moment : ℕ) (xs : List Item) (at : ℕ) (old : State) (to : ℕ) (new : State) → FitState old → Items bytes moment xs at old to new → FitState new
unfolding Items
items_fit bytes moment [] at old to new fit i = subst FitState (sym i.1) fit
items_fit bytes moment (x ∷ xs) at old to new fit i = items_fit bytes moment xs i.0 (after moment old x) to new (after_fit moment old x bytes at i.0 fit i.1) i.3

pub file_fit : FilesAreFit
file_fit bytes moment world f =
    let reached = items_fit bytes moment f.reached.items f.reached.first new_state f.at f.state (record { world = fit_new; deadline = tt }) f.reached.itemised in
    subst IsFit (sym f.means) (record { each = reached.world.each })
