-- What contracts see of the databases, the blocks that they own, and the world that they mean, whatever the values are.
use Rattle.std.specs.Prelude.{◌≡◌, ◌≢◌, ◌<◌, ℕ, List, [], Option, None, Some, length, map, slice_index_or}
use Rattle.std.specs.List.{flat_map}
use Rattle.std.specs.Ordering.{nat_cmp}
use Rattle.std.specs.Cmp.Lexicographic.{slice_cmp}
use Rattle.std.specs.FinMap.{FinMap, entries, from_sorted, get, insert, remove}
use Rattle.blocks.specs.declared.BlockRef.{BlockRef}
use Rattle.blocks.specs.Blocks.{Blocks, times}
use Rattle.object_codec.specs.declared.limits.Limits.{Limits}
use Rattle.plain_world.specs.Worlds.{World, Value, Database}
use Rattle.expiry.specs.Timed.{Timed, moments, no_deadline}
use Rattle.held.specs.declared.databases.Base.{Base}
use Rattle.held.specs.Table.{Table, no_keys, refs, map_of}

-- The databases by their numbers, each with its keys and their deadlines, what every value is made with, and the
-- number of the database whose turn the next expiry step is.
pub record Bases (V : Type 0) : Type 0 where
  pub bases : List (Base V)
  pub limits : Limits
  pub seed : ℕ
  pub turn : ℕ

-- from each key to its value, and from each key that has a deadline to that
abbrev pub Values : Type 0
Values = FinMap (slice_cmp nat_cmp) Value

abbrev pub Moments : Type 0
Moments = FinMap (slice_cmp nat_cmp) ℕ

-- each key stands with its value, and with its deadline where it has one
unfoldable pub with_deadlines : Values → Moments → Database
with_deadlines values moments =
    from_sorted (map (λ e. (e.0, record { value = e.1; deadline = get moments e.0 })) (entries values))

-- the key has this deadline, or none, and all others have theirs
abbrev pub with_deadline : Moments → List ℕ → Option ℕ → Moments
with_deadline moments key None = remove moments key
with_deadline moments key (Some deadline) = insert moments key deadline

-- a database without a key, whose hashes have this seed
abbrev pub no_base : {V : Type 0} → ℕ → Base V
no_base seed = record { keys = no_keys seed; deadlines = no_deadline seed }

module _ {V : Type 0} where
  -- the database of a number
  abbrev pub base_at : Bases V → ℕ → Base V
  base_at bases db = slice_index_or bases.bases db (no_base 0)

  -- its key table
  abbrev pub table_at : Bases V → ℕ → Table V
  table_at bases db = (base_at bases db).keys

  -- its deadlines
  abbrev pub deadlines_at : Bases V → ℕ → Timed
  deadlines_at bases db = (base_at bases db).deadlines

  -- the references that the databases own: of each database the key blocks, and of each value its own blocks
  abbrev pub owned : (V → List BlockRef) → Bases V → List BlockRef
  owned refs_of bases = flat_map (λ (base : Base V). refs refs_of base.keys) bases.bases

  -- what a database means: each key, value and deadline is read out of the blocks
  abbrev pub base_means : (Blocks → V → Value) → Blocks → Base V → Database
  base_means value_of blocks base =
      with_deadlines (map_of blocks (value_of blocks) base.keys) (moments blocks base.deadlines)

  -- The world that the databases mean. The selected database is given.
  abbrev pub means : (Blocks → V → Value) → ℕ → Bases V → Blocks → World
  means value_of selected bases blocks =
      record { bases = λ number. base_means value_of blocks (base_at bases number); selected = selected }

  -- what values are made with stays, and whose turn the next expiry step is
  pub record SameSettings (old new : Bases V) : Type 0 where
    pub limits : new.limits ≡ old.limits
    pub seed : new.seed ≡ old.seed
    pub turn : new.turn ≡ old.turn

  -- no database changes but one
  pub record ChangesBase (old new : Bases V) (db : ℕ) : Type 0 where
    pub others : (number : ℕ) → number ≢ db → base_at new number ≡ base_at old number
    pub count : length new.bases ≡ length old.bases
    pub settings : SameSettings old new

  -- no table changes but the key table of one database
  pub record ChangesTable (old new : Bases V) (db : ℕ) : Type 0 where
    pub base : ChangesBase old new db
    pub deadlines : deadlines_at new db ≡ deadlines_at old db

  -- no table changes but the deadlines of one database
  pub record ChangesDeadlines (old new : Bases V) (db : ℕ) : Type 0 where
    pub base : ChangesBase old new db
    pub keys : table_at new db ≡ table_at old db
