-- What contracts see of a table of scores over a store.
use Rattle.std.specs.Prelude.{◌≡◌, ℕ, ℤ, ◌+◌, ◌<◌, List, [], ◌∷◌, Contains, map, Option, Some, None, IsSome, slice_get, slice_range}
use Rattle.std.specs.List.{remove_range as range_removed}
use Rattle.std.specs.FinMap.{get, insert, remove}
use Rattle.blocks.specs.declared.BlockRef.{BlockRef}
use Rattle.blocks.specs.Blocks.{Blocks, bytes_at, times, with_block, Changes}
use Rattle.rehash_dict.specs.Table.{Table, Element, item}
use Rattle.rehash_dict.specs.Tables.{Tables}
use Rattle.rehash_dict.specs.Keyed.{Keyed, hash_of, key_tables}
use Rattle.rehash_dict.specs.Steps.{Holds, Removes}
use Rattle.rehash_dict.specs.MapOf.{content, key_refs}
use Rattle.rehash_dict.specs.Grown.{Grown}
use Rattle.score_list.specs.Linked.{Element as Scored}
use Rattle.score_list.specs.Sorted.{Key, key_of, IsSorted}
use Rattle.score_table.specs.declared.table.ScoreTable.{ScoreTable}
use Rattle.score_table.specs.Ranking.{ScoreMap, without_each}

-- The list has the dictionary's members and no others, by the same blocks and with the same scores.
pub record Agree (t : Table ℤ) (list : List Scored) : Type 0 where
  pub listed : (at : ℕ) (e : Element ℤ) → item t at ≡ Some e → Contains list (e.value, e.key)
  pub named : (x : Scored) → Contains list x → (at : ℕ) × Holds t at x.1 x.0

-- Each member is one live block, which the dictionary and the list share; no two have the same bytes, and the list is
-- sorted.
pub record IsScoreTable (blocks : Blocks) (s : ScoreTable) : Type 0 where
  pub keyed : Keyed blocks s.table
  pub sorted : IsSorted blocks s.list
  pub agree : Agree s.table s.list

-- the score of each member
abbrev pub scores : Blocks → ScoreTable → ScoreMap
scores blocks s = content blocks s.table

-- the pairs of a score and a member in their order
abbrev pub ranked : Blocks → ScoreTable → List Key
ranked blocks s = map (key_of blocks) s.list

-- the references that it owns: the block of each member, in the order of the item numbers
abbrev pub refs : ScoreTable → List BlockRef
refs s = key_refs s.table

-- the seed of the dictionary's hashes
abbrev pub seed_of : ScoreTable → ℕ
seed_of s = s.table.seed

-- the tables of the dictionary, whose members are named by their bytes
abbrev pub tables : Blocks → ScoreTable → Tables (List ℕ)
tables blocks s = key_tables blocks s.table

-- a dictionary without a table
abbrev pub no_tables : Tables (List ℕ)
no_tables = record { older = []; newer = []; position = 0 }

-- It has these members with these scores now, over the blocks that it owns, and its tables come from the old ones by
-- edits.
pub record IsChanged (before after : Blocks) (old new : ScoreTable) (map : ScoreMap) : Type 0 where
  pub sound : IsScoreTable after new
  pub scores_are : scores after new ≡ map
  pub changes : Changes before after (refs old) (refs new)
  pub grown : Grown (hash_of (seed_of old)) (tables before old) (tables after new)
  pub seed : seed_of new ≡ seed_of old

-- A block that holds the bytes of a member was named by the dictionary and by the list, with a score.
pub record IsJoined (blocks : Blocks) (old new : ScoreTable) (member : BlockRef) (score : ℤ) : Type 0 where
  pub sound : IsScoreTable blocks new
  pub scores_are : scores blocks new ≡ insert (scores blocks old) (bytes_at blocks member) score
  pub one_more : (r : BlockRef) → times r (refs new) ≡ times r (refs old) + times r (member ∷ [])
  pub grown : Grown (hash_of (seed_of old)) (tables blocks old) (tables blocks new)
  pub seed : seed_of new ≡ seed_of old

-- ---- ranges

-- a dictionary and a list as one
abbrev pub table_of : Table ℤ → List Scored → ScoreTable
table_of t list = record { table = t; list = list }

-- The member that a block holds has left the dictionary, and its block was given back.
pub record Forgets (before after : Blocks) (old new : Table ℤ) (member : BlockRef) : Type 0 where
  pub bytes : List ℕ
  pub held : before member ≡ Some bytes
  pub taken : BlockRef
  pub score : ℤ
  pub removes : Removes before old new bytes taken score
  pub keyed : Keyed before new
  pub map_is : content before new ≡ remove (content before old) bytes
  pub grown : Grown (hash_of old.seed) (key_tables before old) (key_tables before new)
  pub given : after ≡ with_block before taken None

-- The members from a rank to below another one are gone, and their blocks were given back; the others stand as before.
pub record LeavesRange (before after : Blocks) (old new : ScoreTable) (from to : ℕ) : Type 0 where
  pub changed : IsChanged before after old new (without_each (scores before old) (slice_range (ranked before old) from to))
  pub ranked_are : ranked after new ≡ range_removed (ranked before old) from to

-- ---- places

-- the member stands at the rank
pub record RanksAt (blocks : Blocks) (s : ScoreTable) (member : List ℕ) (rank : ℕ) : Type 0 where
  pub score : ℤ
  pub has : get (scores blocks s) member ≡ Some score
  pub there : slice_get (ranked blocks s) rank ≡ Some (score, member)

-- a score, and the live block of a member, are these
pub record Names (blocks : Blocks) (x : Scored) (key : Option Key) : Type 0 where
  pub live : IsSome (blocks x.1)
  pub same : key ≡ Some (key_of blocks x)

-- a member has the item number
abbrev pub IsItem : ScoreTable → ℕ → Type 0
IsItem s at = IsSome (item s.table at)

abbrev pub pair_of : Blocks → Option (Element ℤ) → Option Key
pair_of blocks None = None
pair_of blocks (Some e) = Some (e.value, bytes_at blocks e.key)

-- the score and the member of an item number
abbrev pub pair_at : Blocks → ScoreTable → ℕ → Option Key
pair_at blocks s at = pair_of blocks (item s.table at)

-- Each member has exactly one item number, and its score there.
pub record IsArranged (blocks : Blocks) (s : ScoreTable) : Type 0 where
  pub found : (score : ℤ) (member : List ℕ) → get (scores blocks s) member ≡ Some score
      → (at : ℕ) × (pair_at blocks s at ≡ Some (score, member))
  pub pair : (at : ℕ) (score : ℤ) (member : List ℕ) → pair_at blocks s at ≡ Some (score, member)
      → get (scores blocks s) member ≡ Some score
  pub apart : (at other : ℕ) (score another : ℤ) (member : List ℕ) → pair_at blocks s at ≡ Some (score, member)
      → pair_at blocks s other ≡ Some (another, member) → at ≡ other
  pub below : (at : ℕ) → IsSome (pair_at blocks s at) → at < s.table.top
