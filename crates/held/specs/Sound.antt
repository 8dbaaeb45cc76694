-- When databases over the blocks of a store are sound: they own every live block, and each once.
use Rattle.std.specs.Prelude.{◌≡◌, ℕ, ◌+◌, ◌≤◌, ◌<◌, ◌^◌, List, [], Some, length}
use Rattle.blocks.specs.declared.BlockRef.{BlockRef}
use Rattle.blocks.specs.Blocks.{Blocks, times, live}
use Rattle.object_codec.specs.declared.limits.Limits.{Limits}
use Rattle.object_codec.specs.Limits.{AreInRange}
use Rattle.expiry.specs.Timed.{Timed}
use Rattle.held.specs.declared.databases.Base.{Base}
use Rattle.held.specs.Table.{Table, Element, item, Keyed}
use Rattle.held.specs.Databases.{Bases, base_at, table_at, deadlines_at, owned}

module _ {V : Type 0} where
  -- the reference names a key of the table
  pub record Names (keys : Table V) (ref : BlockRef) : Type 0 where
    pub at : ℕ
    pub element : Element V
    pub found : item keys at ≡ Some element
    pub same : element.key ≡ ref

  -- Each deadline is that of a key of the table, which both name by the same reference. It is at most 2^63 - 1.
  pub record IsTimed (blocks : Blocks) (keys : Table V) (deadlines : Timed) : Type 0 where
    pub keyed : Keyed blocks deadlines.table
    pub names : (at : ℕ) (e : Element ℕ) → item deadlines.table at ≡ Some e → Names keys e.key
    pub latest : (at : ℕ) (e : Element ℕ) → item deadlines.table at ≡ Some e → e.value < 2 ^ 63

  -- the hashes of both tables have this seed
  pub record HasSeed (base : Base V) (seed : ℕ) : Type 0 where
    pub keys : base.keys.seed ≡ seed
    pub deadlines : base.deadlines.table.seed ≡ seed

  -- There are 16 databases, in each the keys are live blocks whose bytes differ, the deadlines are those of keys, and the
  -- values are sound, limits and seeds are in order, and the turn is that of one of them.
  pub record IsArranged (IsSound : Limits → ℕ → Blocks → V → Type 0) (bases : Bases V) (blocks : Blocks)
      : Type 0 where
    pub keyed : (db : ℕ) → Keyed blocks (table_at bases db)
    pub timed : (db : ℕ) → IsTimed blocks (table_at bases db) (deadlines_at bases db)
    pub values : (db at : ℕ) (e : Element V) → item (table_at bases db) at ≡ Some e
        → IsSound bases.limits bases.seed blocks e.value
    pub sixteen : length bases.bases ≡ 16
    pub limits : AreInRange bases.limits
    pub seeds : (db : ℕ) → db < 16 → HasSeed (base_at bases db) bases.seed
    pub turn : bases.turn < 16

  -- The databases, and the values that are out of them with these references, name live blocks, none of them twice.
  pub record IsIntact (refs_of : Blocks → V → List BlockRef) (IsSound : Limits → ℕ → Blocks → V → Type 0) (bases : Bases V)
      (blocks : Blocks) (out : List BlockRef) : Type 0 where
    pub owned : (r : BlockRef) → times r (owned (refs_of blocks) bases) + times r out ≤ live blocks r
    pub arranged : IsArranged IsSound bases blocks

  -- The databases, and a value that is handed in, name live blocks, none of them twice, and the value is sound.
  pub record IsIntactWith (refs_of : Blocks → V → List BlockRef) (IsSound : Limits → ℕ → Blocks → V → Type 0) (bases : Bases V)
      (blocks : Blocks) (value : V) : Type 0 where
    pub owned : (r : BlockRef) → times r (owned (refs_of blocks) bases) + times r (refs_of blocks value) ≤ live blocks r
    pub arranged : IsArranged IsSound bases blocks
    pub sound : IsSound bases.limits bases.seed blocks value

  -- The databases, and the values that are out of them with these references, name each live block exactly once, and no
  -- other.
  pub record SoundBeside (refs_of : Blocks → V → List BlockRef) (IsSound : Limits → ℕ → Blocks → V → Type 0) (bases : Bases V)
      (blocks : Blocks) (out : List BlockRef) : Type 0 where
    pub owns : (r : BlockRef) → times r (owned (refs_of blocks) bases) + times r out ≡ live blocks r
    pub arranged : IsArranged IsSound bases blocks

  -- The databases name each live block exactly once, and no other.
  abbrev pub Sound : (Blocks → V → List BlockRef) → (Limits → ℕ → Blocks → V → Type 0) → Bases V → Blocks → Type 0
  Sound refs_of IsSound bases blocks = SoundBeside refs_of IsSound bases blocks []
