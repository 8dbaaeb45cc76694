-- Collections of a file, built element by element.
use Rattle.std.specs.Prelude.{◌≡◌, ℕ, List, Option, Result, Ok, Err}
use Rattle.plain_world.specs.Worlds.{World, Value}
use Rattle.rdb_grammar.specs.declared.fault.LoadKind.{LoadKind}
use Rattle.rdb_grammar.specs.declared.values.Layout.{Layout}
use Rattle.rdb_grammar.specs.Format.{Format, in_turn}
use Rattle.rdb_grammar.specs.Elements.{with_one}
use Rattle.rdb_grammar.specs.Layouts.{laid_on, laid}
use Rattle.rdb_grammar.specs.Places.{Stands, Fails}
use Rattle.rdb_reader.specs.Loads.{Puts}
use Rattle.rdb_reader.specs.declared.keys.Put.{Put}
use Rattle.rdb_reader.specs.declared.fault.LoadFault.{LoadFault}
use Rattle.rdb_reader.specs.declared.fault.LoadFault.TheVariants as faults

-- A part of a value was read at a place, and the value is what it says, up to the next place; or it has its first fault
-- there. After a fault what the value means is not said.
abbrev pub Reads : Format Value → List ℕ → ℕ → Value → Result ℕ LoadFault → Type 0
Reads one bytes at new (Ok next) = Stands one new bytes at next
Reads one bytes at new (Err (faults.Refused what place)) = Fails one bytes at what place
Reads one bytes at new (Err faults.Host) = ⊥
Reads one bytes at new (Err faults.Limit) = ⊥
Reads one bytes at new (Err faults.Memory) = Unit {0}

-- one element was added
abbrev pub Adds : List ℕ → ℕ → Value → Value → Result ℕ LoadFault → Type 0
Adds bytes at old new result = Reads (with_one old) bytes at new result

-- so many elements were added
abbrev pub Fills : List ℕ → ℕ → ℕ → Value → Value → Result ℕ LoadFault → Type 0
Fills bytes at count old new result = Reads (in_turn with_one count old) bytes at new result

-- what is laid out was put in
abbrev pub FillsLaid : List ℕ → ℕ → Layout → Value → Value → Result ℕ LoadFault → Type 0
FillsLaid bytes at layout old new result = Reads (laid_on layout old) bytes at new result

-- Something was put into a value, which is what is told of it then; or it is refused as is told, at a place. After a fault
-- what the value means is not said.
abbrev pub Makes : Result Value LoadKind → ℕ → Value → Result (Unit {0}) LoadFault → Type 0
Makes told at new (Ok done) = told ≡ Ok new
Makes told at new (Err (faults.Refused what place)) = (told ≡ Err what) × (place ≡ at)
Makes told at new (Err faults.Host) = ⊥
Makes told at new (Err faults.Limit) = ⊥
Makes told at new (Err faults.Memory) = Unit {0}

-- what is read of a collection, up to a place: its value, and what became of its key
pub record CollectionRead (bytes : List ℕ) (moment : ℕ) (old new : World) (name : List ℕ)
    (layout : Layout) (at : ℕ) (deadline : Option ℕ) (put : Put) (last : ℕ) : Type 0 where
  pub value : Value
  pub stands : Stands (laid layout) value bytes at last
  pub puts : Puts moment old new name (record { value = value; deadline = deadline }) put

-- a collection that is laid out is read, and its key is put
abbrev pub ReadsCollection : List ℕ → ℕ → World → World → List ℕ → Layout → ℕ → Option ℕ
    → Result (Put × ℕ) LoadFault → Type 0
ReadsCollection bytes moment old new name layout at deadline (Ok x) =
    CollectionRead bytes moment old new name layout at deadline x.0 x.1
ReadsCollection bytes moment old new name layout at deadline (Err (faults.Refused what place)) =
    Fails (laid layout) bytes at what place
ReadsCollection bytes moment old new name layout at deadline (Err faults.Host) = ⊥
ReadsCollection bytes moment old new name layout at deadline (Err faults.Limit) = ⊥
ReadsCollection bytes moment old new name layout at deadline (Err faults.Memory) = Unit {0}
