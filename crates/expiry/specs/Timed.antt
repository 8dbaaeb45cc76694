-- What contracts see of deadlines: the dictionary from key blocks to moments, and the cursor at which the next move of
-- a search for keys that are gone begins.
use Rattle.std.specs.Prelude.{◌≡◌, ℕ, [], refl}
use Rattle.std.specs.Coded.{Coded, code_by, coded×, coded_ℕ}
use Rattle.std.specs.Ordering.{nat_cmp}
use Rattle.std.specs.Cmp.Lexicographic.{slice_cmp}
use Rattle.std.specs.FinMap.{FinMap}
use Rattle.blocks.specs.Blocks.{Blocks}
use Rattle.rehash_dict.specs.Table.{Table}
use Rattle.rehash_dict.specs.Keyed.{hash_of, key_tables}
use Rattle.rehash_dict.specs.MapOf.{content}
use Rattle.rehash_dict.specs.Grown.{Grown}
use Rattle.rehash_dict.specs.TableCode.{table_code}

pub record Timed : Type 0 where
  pub table : Table ℕ
  pub cursor : ℕ

-- from the bytes of each key that has a deadline to that deadline
abbrev pub moments : Blocks → Timed → FinMap (slice_cmp nat_cmp) ℕ
moments blocks d = content blocks d.table

-- the tables come from the old ones by edits
abbrev pub Grows : Blocks → Timed → Timed → Type 0
Grows blocks old new = Grown (hash_of old.table.seed) (key_tables blocks old.table) (key_tables blocks new.table)

-- deadlines as data
abbrev pub timed_code : Coded Timed
timed_code = code_by (Table ℕ × ℕ) (coded× (table_code coded_ℕ) coded_ℕ) (λ d. (d.table, d.cursor))
    (λ p. record { table = p.0; cursor = p.1 }) (λ _. refl)

-- no deadline and no table, under this seed, and the first cursor
abbrev pub no_deadline : ℕ → Timed
no_deadline seed =
    record { table = record { items = []; older = []; newer = []; position = 0; seed = seed; top = 0 }; cursor = 0 }

-- the search goes on where it stood
abbrev pub KeepsCursor : Timed → Timed → Type 0
KeepsCursor old new = new.cursor ≡ old.cursor
