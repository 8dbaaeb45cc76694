-- The world of a file is live at the moment of loading: a key whose deadline is past is passed over.
use Rattle.std.proofs.Common.{◌≡◌, ℕ, Bool, true, false, cond, List, [], ◌∷◌, Ok, Err, Result, refl, sym, ap, ◌∙◌, subst}
use Rattle.std.specs.Prelude.{OnErr}
use Rattle.plain_world.specs.Worlds.{World, Entry, new_world, in_time, live, put}
use Rattle.plain_world.proofs.Lives.{live_none, live_put_in_time}
use Rattle.rdb_grammar.specs.Items.{Item, Passed, Deadline, Database, End, Key}
use Rattle.rdb_grammar.specs.Files.{State, new_state, after, is_void, is_kept, Items, IsFile}
use Rattle.rdb_reader.specs.declared.fault.LoadFault.{LoadFault}
use Rattle.rdb_reader.specs.declared.fault.LoadFault.TheVariants as faults
use Rattle.rdb_reader.specs.declared.loading.Loaded.{Loaded}
use Rattle.rdb_reader.specs.Loads.{Loads, LoadsFile, ReadsAll}
use Rattle.rdb_reader.specs.Fetching.{has_failed}
use Rattle.outside.specs.Files.{Files}

-- a fault of the reading isn't one of the host
pub read_failed : (bytes : List ℕ) (moment : ℕ) (world : World) (fault : LoadFault) → ReadsAll bytes moment world (Err fault) → has_failed {A = Loaded} (Err fault) ≡ false
read_failed bytes moment world (faults.Refused what at) r = refl
read_failed bytes moment world faults.Host r = absurd r
read_failed bytes moment world faults.Limit r = refl
read_failed bytes moment world faults.Memory r = refl

pub new_live : (moment : ℕ) → live new_world moment ≡ new_world
new_live moment = λ i. record { bases = λ number. live_none moment i; selected = 0 }

module _ (moment : ℕ) where
  -- what is kept is in time
  timely : (void late : Bool) → cond void false late ≡ true → late ≡ true
  timely true late e = absurd cc
  timely false late e = e

  key_live : (state : State) (entry : Entry) (name : List ℕ) (kept : Bool) → is_kept moment entry.deadline entry.value ≡ kept → live state.world moment ≡ state.world
      → live (cond kept (put state.world name entry) state.world) moment ≡ cond kept (put state.world name entry) state.world
  key_live state entry name true kept is = live_put_in_time state.world moment name entry (timely (is_void entry.value) (in_time moment entry.deadline) kept) ∙ ap (λ w. put w name entry) is
  key_live state entry name false kept is = is

  after_live : (state : State) (x : Item) → live state.world moment ≡ state.world → live (after moment state x).world moment ≡ (after moment state x).world
  after_live state Passed is = is
  after_live state (Deadline n) is = is
  after_live state (Database n) is = λ i. record { bases = (is i).bases; selected = n }
  after_live state End is = is
  after_live state (Key name value) is = key_live state (record { value = value; deadline = state.deadline }) name (is_kept moment state.deadline value) refl is

  items_live : (bytes : List ℕ) (items : List Item) (at : ℕ) (old : State) (to : ℕ) (new : State) → Items bytes moment items at old to new → live old.world moment ≡ old.world
      → live new.world moment ≡ new.world
  unfolding Items
  items_live bytes [] at old to new h is = subst (λ (s : State). live s.world moment ≡ s.world) (sym h.1) is
  items_live bytes (x ∷ xs) at old to new h is = items_live bytes xs h.0 (after moment old x) to new h.3 (after_live old x is)

  pub file_live : (bytes : List ℕ) (world : World) → IsFile bytes moment world → live world moment ≡ world
  file_live bytes world f =
      let reached = f.reached in
      let all : live f.state.world moment ≡ f.state.world = items_live bytes reached.items reached.first new_state _ f.state reached.itemised (new_live moment) in
      subst (λ w. live w moment ≡ w) (sym f.means) (λ i. record { bases = (all i).bases; selected = 0 })

  -- what is loaded is live
  pub loads_live : (files : Files) (name : List ℕ) (limit : ℕ) (world : World) (result : Result Loaded LoadFault) → Loads files name limit moment world result
      → Loads files name limit moment (live world moment) result
  loads_live files name limit world (Ok loaded) l = subst (λ w. LoadsFile files name limit moment w loaded) (sym (file_live l.bytes world l.read.file)) l
  loads_live files name limit world (Err (faults.Refused what at)) l = (l.0, ap (λ w. live w moment) l.1 ∙ new_live moment)
  loads_live files name limit world (Err faults.Host) l = ap (λ w. live w moment) l ∙ new_live moment
  loads_live files name limit world (Err faults.Limit) l = (l.0, ap (λ w. live w moment) l.1 ∙ new_live moment)
  loads_live files name limit world (Err faults.Memory) l = ap (λ w. live w moment) l ∙ new_live moment

-- what isn't loaded leaves no key
pub loads_none : (files : Files) (name : List ℕ) (limit moment : ℕ) (world : World) (result : Result Loaded LoadFault) → Loads files name limit moment world result → OnErr result (world ≡ new_world)
loads_none files name limit moment world (Ok loaded) l = tt
loads_none files name limit moment world (Err (faults.Refused what at)) l = l.1
loads_none files name limit moment world (Err faults.Host) l = l
loads_none files name limit moment world (Err faults.Limit) l = l.1
loads_none files name limit moment world (Err faults.Memory) l = l
