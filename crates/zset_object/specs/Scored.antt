-- What contracts see of a sorted set over a store.
use Rattle.std.specs.Prelude.{◌≡◌, ℕ, ◌≤◌, List, [], ◌∷◌, length}
use Rattle.std.specs.FinMap.{empty}
use Rattle.blocks.specs.declared.BlockRef.{BlockRef}
use Rattle.blocks.specs.Blocks.{Blocks, bytes_at, Changes, Owned}
use Rattle.object_codec.specs.Limits.{AreInRange}
use Rattle.object_codec.specs.declared.limits.Limits.{Limits}
use Rattle.object_codec.specs.declared.form.Form.{Form}
use Rattle.object_codec.specs.declared.form.Form.TheVariants.{Listpack, Skiplist}
use Rattle.pack_pairs.specs.Pairs.{Pair, pairs}
use Rattle.rehash_dict.specs.Keyed.{hash_of}
use Rattle.rehash_dict.specs.Tables.{Tables}
use Rattle.rehash_dict.specs.Grown.{Grown}
use Rattle.score_list.specs.Sorted.{Key}
use Rattle.score_table.specs.declared.table.ScoreTable.{ScoreTable}
use Rattle.score_table.specs.Ranking.{ScoreMap}
use Rattle.score_table.specs.Scored as table
use Rattle.zset_object.specs.declared.scored.Body.{Body}
use Rattle.zset_object.specs.declared.scored.Body.TheVariants.{Empty, Pack, Table}
use Rattle.zset_object.specs.declared.scored.Scored.{Scored}
use Rattle.zset_object.specs.Packed.{IsScorePack, keys_in, scores_in, longest_in}

abbrev pub ranked_of : Blocks → Body → List Key
ranked_of blocks Empty = []
ranked_of blocks (Pack packed) = keys_in (bytes_at blocks packed.at)
ranked_of blocks (Table t) = table.ranked blocks t

-- the scores with their members, in order
abbrev pub ranked : Blocks → Scored → List Key
ranked blocks s = ranked_of blocks s.body

abbrev pub scores_of : Blocks → Body → ScoreMap
scores_of blocks Empty = empty
scores_of blocks (Pack packed) = scores_in (bytes_at blocks packed.at)
scores_of blocks (Table t) = table.scores blocks t

-- the members of the sorted set with their scores
abbrev pub scores : Blocks → Scored → ScoreMap
scores blocks s = scores_of blocks s.body

abbrev pub refs_of_body : Body → List BlockRef
refs_of_body Empty = []
refs_of_body (Pack packed) = packed.at ∷ []
refs_of_body (Table t) = table.refs t

-- the references that it owns
abbrev pub refs : Scored → List BlockRef
refs s = refs_of_body s.body

abbrev pub form_of_body : Body → Form
form_of_body Empty = Listpack
form_of_body (Pack packed) = Listpack
form_of_body (Table t) = Skiplist

-- its form
abbrev pub form_of : Scored → Form
form_of s = form_of_body s.body

-- the bytes are a listpack of so many members and scores, which are not too many nor too long
pub record IsMemberPack (limits : Limits) (len : ℕ) (bytes : List ℕ) : Type 0 where
  pub pack : IsScorePack bytes
  pub counted : len ≡ length (pairs bytes)
  pub few : len ≤ limits.zset_entries
  pub short : longest_in bytes ≤ limits.zset_value

-- the table of scores has the sorted set's seed
pub record IsMemberTable (blocks : Blocks) (seed : ℕ) (t : ScoreTable) : Type 0 where
  pub sound : table.IsScoreTable blocks t
  pub seed_is : table.seed_of t ≡ seed

abbrev pub IsBody : Blocks → Limits → ℕ → Body → Type 0
IsBody blocks limits seed Empty = Unit {0}
IsBody blocks limits seed (Pack packed) = IsMemberPack limits packed.len (bytes_at blocks packed.at)
IsBody blocks limits seed (Table t) = IsMemberTable blocks seed t

-- The sorted set owns its blocks, which hold its members and scores in its form.
pub record IsScored (blocks : Blocks) (s : Scored) : Type 0 where
  pub limits : AreInRange s.limits
  pub owned : Owned (refs s) blocks
  pub body : IsBody blocks s.limits s.seed s.body

abbrev pub tables_of : Blocks → Body → Tables (List ℕ)
tables_of blocks Empty = table.no_tables
tables_of blocks (Pack packed) = table.no_tables
tables_of blocks (Table t) = table.tables blocks t

-- the tables of its dictionary, whose elements are named by the bytes of their members; a packed sorted set has none
abbrev pub tables : Blocks → Scored → Tables (List ℕ)
tables blocks s = tables_of blocks s.body

-- its settings stay
pub record KeepsSettings (old new : Scored) : Type 0 where
  pub limits : new.limits ≡ old.limits
  pub seed : new.seed ≡ old.seed

-- The sorted set has these members and scores now, over the blocks that it owns, and its tables come from the old ones
-- by edits.
pub record IsChanged (before after : Blocks) (old new : Scored) (map : ScoreMap) : Type 0 where
  pub sound : IsScored after new
  pub scores_are : scores after new ≡ map
  pub changes : Changes before after (refs old) (refs new)
  pub grown : Grown (hash_of old.seed) (tables before old) (tables after new)
  pub settings : KeepsSettings old new

-- A body of these members and scores was placed that can take the place of the sorted set's own.
pub record IsPlacedBody (before after : Blocks) (limits : Limits) (seed : ℕ) (body : Body) (map : ScoreMap)
    : Type 0 where
  pub sound : IsBody after limits seed body
  pub scores_are : scores_of after body ≡ map
  pub changes : Changes before after [] (refs_of_body body)
  pub grown : Grown (hash_of seed) table.no_tables (tables_of after body)

-- A table of these members and scores was filled.
pub record IsPlacedTable (before after : Blocks) (seed : ℕ) (t : ScoreTable) (map : ScoreMap) : Type 0 where
  pub sound : IsMemberTable after seed t
  pub scores_are : table.scores after t ≡ map
  pub changes : Changes before after [] (table.refs t)
  pub grown : Grown (hash_of seed) table.no_tables (table.tables after t)

-- the pairs of its listpack
abbrev pub listed_of : Blocks → Body → List Pair
listed_of blocks Empty = []
listed_of blocks (Pack packed) = pairs (bytes_at blocks packed.at)
listed_of blocks (Table t) = []
