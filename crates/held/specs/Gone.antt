-- Keys that are gone at a moment, and what stands where some of them were dropped.
use Rattle.std.specs.Prelude.{◌≡◌, ℕ, ◌+◌, ◌<◌, List, Some}
use Rattle.std.specs.FinMap.{len}
use Rattle.blocks.specs.declared.BlockRef.{BlockRef}
use Rattle.blocks.specs.Blocks.{Blocks}
use Rattle.plain_world.specs.Worlds.{Value, with_base, live_keys}
use Rattle.expiry.specs.Timed.{Timed}
use Rattle.held.specs.Table.{Element, item, Lacks}
use Rattle.held.specs.Databases.{Bases, base_at, deadlines_at, base_means, means}

-- the item number is that of a deadline that is past at the moment, of the key that this block names
pub record IsPassed (d : Timed) (at moment : ℕ) (name : BlockRef) : Type 0 where
  pub element : Element ℕ
  pub found : item d.table at ≡ Some element
  pub named : element.key ≡ name
  pub late : element.value < moment

-- no deadline joins
abbrev pub IsPart : Timed → Timed → Type 0
IsPart old new = (at : ℕ) (e : Element ℕ) → item new.table at ≡ Some e → item old.table at ≡ Some e

-- no deadline joins, and the key has none
pub record Loses (blocks : Blocks) (old new : Timed) (key : List ℕ) : Type 0 where
  pub part : IsPart old new
  pub lacks : Lacks blocks new.table key

-- So many keys of one database left, each of them gone at the moment.
pub record Thins {V : Type 0} (value_of : Blocks → V → Value) (old new : Bases V) (m after : Blocks)
    (db moment count : ℕ) : Type 0 where
  pub world : means value_of db new after
      ≡ with_base (means value_of db old m) (base_means value_of after (base_at new db))
  pub same : live_keys (base_means value_of after (base_at new db)) moment
      ≡ live_keys (base_means value_of m (base_at old db)) moment
  pub counted : len (base_means value_of m (base_at old db)) ≡ count + len (base_means value_of after (base_at new db))
  pub part : IsPart (deadlines_at old db) (deadlines_at new db)
