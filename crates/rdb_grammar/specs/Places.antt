-- Where parts stand in the bytes of a file.
use Rattle.std.specs.Prelude.{ℕ, ◌-◌, ◌≤◌, List, length, take, drop}
use Rattle.rdb_grammar.specs.declared.fault.LoadKind.{LoadKind}
use Rattle.rdb_grammar.specs.Format.{Format}

-- the part stands at a place of the bytes, up to the next place, and says this
pub record Stands {A : Type 0} (one : Format A) (x : A) (bytes : List ℕ) (at next : ℕ) : Type 0 where
  pub onward : at ≤ next
  pub inside : next ≤ length bytes
  pub spelled : one.Spells x (take (next - at) (drop at bytes))

-- the part is due at a place of the bytes, and has its first fault at another
pub record Fails {A : Type 0} (one : Format A) (bytes : List ℕ) (at : ℕ) (kind : LoadKind) (place : ℕ) : Type 0 where
  pub onward : at ≤ place
  pub inside : place ≤ length bytes
  pub faulty : one.Faulty (drop at bytes) kind (length bytes - place)
