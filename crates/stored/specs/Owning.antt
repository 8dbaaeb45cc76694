-- What is read of a value out of the blocks that it owns, and of no other.
use Rattle.std.specs.Prelude.{◌≡◌, ◌<◌, ℕ, List, []}
use Rattle.blocks.specs.declared.BlockRef.{BlockRef}
use Rattle.blocks.specs.Blocks.{Blocks, times}
use Rattle.object_codec.specs.declared.limits.Limits.{Limits}
use Rattle.plain_world.specs.Worlds.{Value}
use Rattle.rehash_dict.specs.Tables.{Tables}

module _ {V : Type 0} (refs_of : Blocks → V → List BlockRef) where
  -- What a value means is read out of the blocks that it owns, and out of no other, and so is which these are and whether
  -- it is sound.
  pub record ReadsOwn (value_of : Blocks → V → Value) (IsSound : Limits → ℕ → Blocks → V → Type 0) : Type 0 where
    pub means : (m after : Blocks) (value : V) → ((r : BlockRef) → 0 < times r (refs_of m value) → after r ≡ m r)
        → value_of after value ≡ value_of m value
    pub refs : (m after : Blocks) (value : V) → ((r : BlockRef) → 0 < times r (refs_of m value) → after r ≡ m r)
        → refs_of after value ≡ refs_of m value
    pub stays : (limits : Limits) (seed : ℕ) (m after : Blocks) (value : V)
        → ((r : BlockRef) → 0 < times r (refs_of m value) → after r ≡ m r) → IsSound limits seed m value
        → IsSound limits seed after value

-- what else is seen of a value is read out of its own blocks
abbrev pub RestsOn : {V X : Type 0} → (Blocks → V → List BlockRef) → (Blocks → V → X) → Type 0
RestsOn refs_of seen = (m after : Blocks) (value : _) → ((r : BlockRef) → 0 < times r (refs_of m value) → after r ≡ m r)
    → seen after value ≡ seen m value

-- the tables of a sound value are read out of its own blocks
abbrev pub KeepsTables : {V X : Type 0} → (Blocks → V → List BlockRef) → (Limits → ℕ → Blocks → V → Type 0) → (Blocks → V → X) → Type 0
KeepsTables refs_of IsSound tables = (limits : Limits) (seed : ℕ) (m after : Blocks) (value : _)
    → ((r : BlockRef) → 0 < times r (refs_of m value) → after r ≡ m r) → IsSound limits seed m value
    → tables after value ≡ tables m value

-- a value owns no block, and is sound whatever it was made with
pub record IsBlank {V : Type 0} (refs_of : Blocks → V → List BlockRef) (IsSound : Limits → ℕ → Blocks → V → Type 0) (value : V)
    : Type 0 where
  pub none : (m : Blocks) → refs_of m value ≡ []
  pub sound : (limits : Limits) (seed : ℕ) (m : Blocks) → IsSound limits seed m value

-- the tables of a value without a dictionary
abbrev pub no_tables : Tables (List ℕ)
no_tables = record { older = []; newer = []; position = 0 }
