-- What functions return, as what reading gives.
use Rattle.std.specs.Prelude.{◌≡◌, ℕ, List, Result, Ok, Err, take}
use Rattle.rdb_grammar.specs.declared.fault.Refused.{Refused}
use Rattle.rdb_grammar.specs.declared.fault.ItemFault.{ItemFault}
use Rattle.rdb_grammar.specs.declared.fault.ItemFault.TheVariants as faults
use Rattle.rdb_grammar.specs.Format.{Fault}
use Rattle.rdb_grammar.specs.declared.fault.LoadKind.{LoadKind}
use Rattle.rdb_grammar.specs.Items.{End, Part, Whole, Opens, part, item}
use Rattle.rdb_grammar.specs.Places.{Stands, Fails}
use Rattle.rdb_grammar.specs.Files.{sum_field}

-- what was returned, seen by a view
abbrev pub Returns : {X Y : Type 0} → (X → Y) → Result X Refused → Result Y Fault → Type 0
Returns view (Ok x) read = read ≡ Ok (view x)
Returns view (Err e) read = read ≡ Err (e.kind, e.left)

-- an item stands at a place, up to the next one; of a key with a collection what stands before its parts does
abbrev pub IsPartAt : List ℕ → ℕ → ℕ → Part → Type 0
IsPartAt bytes at next (Whole x) = Stands item x bytes at next
IsPartAt bytes at next (Opens name layout) = Stands part (Opens name layout) bytes at next

-- the same, but the end stands there with its checksum field
abbrev pub IsItemAt : List ℕ → ℕ → ℕ → Part → Type 0
IsItemAt bytes at next (Whole End) =
    (ended sum : ℕ) × Stands item End bytes at ended × Stands (sum_field (take ended bytes)) sum bytes ended next
IsItemAt bytes at next other = IsPartAt bytes at next other

-- an item is due at a place and has this first fault, or its checksum field has it
pub data IsItemFault (bytes : List ℕ) (at : ℕ) (kind : LoadKind) (place : ℕ) : Type 0 where
  OfItem : Fails item bytes at kind place → IsItemFault bytes at kind place
  OfSum : (ended : ℕ) → Stands item End bytes at ended → Fails (sum_field (take ended bytes)) bytes ended kind place
      → IsItemFault bytes at kind place

-- what a fault that is answered says of the item at a place: reading wants no memory
abbrev pub SaysFault : List ℕ → ℕ → ItemFault → Type 0
SaysFault bytes at faults.Memory = ⊥
SaysFault bytes at (faults.Refused kind place) = IsItemFault bytes at kind place
