-- What a call may change of the databases, and how their tables and blocks come from those before.
use Rattle.std.specs.Prelude.{◌≡◌, ◌⊎◌, ℕ, ◌<◌, List, ◌∷◌, Some}
use Rattle.std.specs.List.{Contains}
use Rattle.blocks.specs.declared.BlockRef.{BlockRef}
use Rattle.blocks.specs.Blocks.{Blocks, times, bytes_at}
use Rattle.rehash_dict.specs.Tables.{IsSettled}
use Rattle.rehash_dict.specs.Table.{tables}
use Rattle.rehash_dict.specs.Grown.{Grown}
use Rattle.rehash_dict.specs.Keyed.{hash_of, key_tables}
use Rattle.expiry.specs.Timed.{KeepsCursor}
use Rattle.held.specs.declared.databases.Base.{Base}
use Rattle.held.specs.Table.{Element, item}
use Rattle.held.specs.Databases.{Bases, no_base, base_at, table_at, deadlines_at}

-- Which databases a call may change, which of their keys it may write, and which of them may lose all their keys at
-- once. Other keys may leave, or their deadlines change.
pub record Scope : Type 1 where
  pub touches : ℕ → Type 0
  pub writes : ℕ → List ℕ → Type 0
  pub empties : ℕ → Type 0

-- nothing
abbrev pub untouched : Scope
untouched = record { touches = λ number. ⊥; writes = λ number key. ⊥; empties = λ number. ⊥ }

-- these keys of a database
abbrev pub keys_of : ℕ → (List ℕ → Type 0) → Scope
keys_of db named =
    record { touches = λ number. number ≡ db; writes = λ number key. (number ≡ db) × named key; empties = λ number. ⊥ }

abbrev pub one_key : ℕ → List ℕ → Scope
one_key db key = keys_of db (λ other. other ≡ key)

abbrev pub some_keys : ℕ → List (List ℕ) → Scope
some_keys db keys = keys_of db (Contains keys)

-- no key of a database: keys leave it, or their deadlines change
abbrev pub no_key : ℕ → Scope
no_key db = keys_of db (λ key. ⊥)

-- a key of a database, and one of another or the same
abbrev pub two_keys : ℕ → List ℕ → ℕ → List ℕ → Scope
two_keys db key other_db other = record {
  touches = λ number. (number ≡ db) ⊎ (number ≡ other_db);
  writes = λ number k. ((number ≡ db) × (k ≡ key)) ⊎ ((number ≡ other_db) × (k ≡ other));
  empties = λ number. ⊥;
}

-- all keys of a database at once
abbrev pub all_keys : ℕ → Scope
all_keys db = record { touches = λ number. number ≡ db; writes = λ number key. ⊥; empties = λ number. number ≡ db }

-- all keys of all databases at once
abbrev pub everything : Scope
everything = record { touches = λ number. Unit {0}; writes = λ number key. ⊥; empties = λ number. Unit {0} }

-- whatever there is
abbrev pub anything : Scope
anything = record { touches = λ number. Unit {0}; writes = λ number key. Unit {0}; empties = λ number. Unit {0} }

module _ {V : Type 0} where
  -- both tables of a database come from those before by inserts, removals and calls of `shrink`, and the search for
  -- keys that are gone goes on where it stood
  pub record BaseGrows (seed : ℕ) (old new : Base V) (m after : Blocks) : Type 0 where
    pub keys : Grown (hash_of seed) (key_tables m old.keys) (key_tables after new.keys)
    pub deadlines : Grown (hash_of seed) (key_tables m old.deadlines.table) (key_tables after new.deadlines.table)
    pub cursor : KeepsCursor old.deadlines new.deadlines

  -- the same, or from no table and the first cursor where all keys may have left at once
  abbrev pub Grew : Type 0 → ℕ → Base V → Base V → Blocks → Blocks → Type 0
  Grew emptied seed old new m after =
      BaseGrows seed old new m after ⊎ (emptied × BaseGrows seed (no_base seed) new m after)

  -- both tables of each database come from none, and each search for keys that are gone stands at its first cursor
  abbrev pub AreGrown : Bases V → Blocks → Type 0
  AreGrown bases blocks = (db : ℕ) → BaseGrows bases.seed (no_base bases.seed) (base_at bases db) blocks blocks

  -- an element stood there before, and its key and its value have the blocks and bytes that they had
  pub record Stayed (refs_of : Blocks → V → List BlockRef) (old : Bases V) (m after : Blocks) (db at : ℕ) (element : Element V)
      : Type 0 where
    pub stood : item (table_at old db) at ≡ Some element
    pub bytes : (r : BlockRef) → 0 < times r (element.key ∷ refs_of m element.value) → after r ≡ m r
    pub refs : refs_of after element.value ≡ refs_of m element.value

  -- The databases come from those before within a scope.
  pub record Within (refs_of : Blocks → V → List BlockRef) (scope : Scope) (old new : Bases V) (m after : Blocks) : Type 0 where
    pub same : (db : ℕ) → (scope.touches db → ⊥) → base_at new db ≡ base_at old db
    pub grew : (db : ℕ) → Grew (scope.empties db) old.seed (base_at old db) (base_at new db) m after
    pub stayed : (db at : ℕ) (element : Element V) → item (table_at new db) at ≡ Some element
        → (scope.writes db (bytes_at after element.key) → ⊥) → Stayed refs_of old m after db at element
    pub seed : new.seed ≡ old.seed

  -- a call of `shrink` would begin nothing in either table of the database
  pub record AreSettled (bases : Bases V) (db : ℕ) : Type 0 where
    pub keys : IsSettled (tables (table_at bases db))
    pub deadlines : IsSettled (tables (deadlines_at bases db).table)
