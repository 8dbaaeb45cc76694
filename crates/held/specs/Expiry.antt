-- Expiry steps of the databases: a step is one cycle of the database whose turn it is, and the keys that it finds are
-- dropped.
use Rattle.std.specs.Prelude.{◌≡◌, ◌≢◌, ℕ, ◌+◌, ◌%◌, nat_lt, List, length, take, Some, if◌then◌else◌}
use Rattle.blocks.specs.declared.BlockRef.{BlockRef}
use Rattle.blocks.specs.Blocks.{Blocks, IsOut, Served}
use Rattle.rehash_dict.specs.Tables.{Tables, removed}
use Rattle.rehash_dict.specs.Keyed.{same_key, key_tables}
use Rattle.expiry.specs.Timed.{Timed}
use Rattle.expiry.specs.Found.{gone_in, move_of}
use Rattle.held.specs.Table.{Table, Element, item}
use Rattle.held.specs.Databases.{Bases, base_at, table_at, deadlines_at}
use Rattle.held.specs.Scopes.{Stayed}

-- a key leaves the tables
pub record KeyLeaves (before after : Tables (List ℕ)) : Type 0 where
  pub key : List ℕ
  pub without : after ≡ removed same_key before key

-- keys leave the tables, one after another, and nothing else happens to them
abbrev pub Shed : Tables (List ℕ) → Tables (List ℕ) → Type 0
Shed = Served KeyLeaves

-- Exactly the elements leave whose keys these blocks name. All others keep their item numbers.
pub record Drops {X : Type 0} (found : List BlockRef) (old new : Table X) : Type 0 where
  pub left : (at : ℕ) (e : Element X) → item new at ≡ Some e → (item old at ≡ Some e) × IsOut e.key found
  pub stay : (at : ℕ) (e : Element X) → item old at ≡ Some e → IsOut e.key found → item new at ≡ Some e
  pub seed : new.seed ≡ old.seed
  pub top : new.top ≡ old.top

-- the cursor behind a cycle at a moment: it stays where more than 16 keys of the move are gone
abbrev pub cursor_behind : Timed → ℕ → ℕ
cursor_behind d moment = if nat_lt 16 (length (gone_in d moment)) then d.cursor else (move_of d).1

-- the key blocks that a cycle at a moment finds: of the first 16 keys of the move that are gone
abbrev pub found_in : Timed → ℕ → List BlockRef
found_in d moment = take 16 (gone_in d moment)

module _ {V : Type 0} where
  -- the key blocks that the next expiry step finds at a moment
  abbrev pub found_at : Bases V → ℕ → List BlockRef
  found_at bases moment = found_in (deadlines_at bases bases.turn) moment

  -- The keys that these blocks name leave one database, each with its deadline. All other keys and their values keep
  -- their blocks and bytes.
  pub record Thinned (refs_of : Blocks → V → List BlockRef) (found : List BlockRef) (old new : Bases V) (m after : Blocks)
      (db : ℕ) : Type 0 where
    pub others : (number : ℕ) → number ≢ db → base_at new number ≡ base_at old number
    pub keys : Drops found (table_at old db) (table_at new db)
    pub deadlines : Drops found (deadlines_at old db).table (deadlines_at new db).table
    pub keys_shed : (number : ℕ) → Shed (key_tables m (table_at old number)) (key_tables after (table_at new number))
    pub deadlines_shed : (number : ℕ)
        → Shed (key_tables m (deadlines_at old number).table) (key_tables after (deadlines_at new number).table)
    pub stayed : (number at : ℕ) (e : Element V) → item (table_at new number) at ≡ Some e
        → Stayed refs_of old m after number at e

  -- One expiry step at a moment: a cycle of the database whose turn it is, whose finds are dropped. The turn passes to
  -- the next database, and from the last one to database 0.
  pub record Expires (refs_of : Blocks → V → List BlockRef) (moment : ℕ) (old new : Bases V) (m after : Blocks) : Type 0 where
    pub thinned : Thinned refs_of (found_at old moment) old new m after old.turn
    pub cursor : (deadlines_at new old.turn).cursor ≡ cursor_behind (deadlines_at old old.turn) moment
    pub turn : new.turn ≡ (old.turn + 1) % 16
    pub limits : new.limits ≡ old.limits
    pub seed : new.seed ≡ old.seed

  -- so many steps, one after the other, and how many keys they drop together
  pub data Expired (refs_of : Blocks → V → List BlockRef) (moment : ℕ) (old : Bases V) (m : Blocks)
      : ℕ → ℕ → Bases V → Blocks → Type 0 where
    start : Expired refs_of moment old m 0 0 old m
    more : (steps dropped : ℕ) (mid new : Bases V) (now after : Blocks)
        → Expired refs_of moment old m steps dropped mid now → Expires refs_of moment mid new now after
        → Expired refs_of moment old m (steps + 1) (dropped + length (found_at mid moment)) new after
