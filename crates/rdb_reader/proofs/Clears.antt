-- Databases are emptied one after the other.
use Rattle.std.proofs.Common.{◌≡◌, inl, inr, ℕ, ◌+◌, ◌<◌, ap, ◌∙◌, arith}
use Rattle.std.proofs.lemmas.Bool.{cases_eq, cases_lt, eq-eqb, ne_eqb, cond-true, cond-false}
use Rattle.std.proofs.lemmas.List.{get_or_past}
use Rattle.blocks.specs.Blocks.{Blocks}
use Rattle.plain_world.specs.Worlds.{World, new_world, no_keys}
use Rattle.held.specs.Databases.{base_means, no_base}
use Rattle.held.proofs.Calls.{no_base_means}
use Rattle.keyspace.specs.Values.{value_of}
use Rattle.keyspace.specs.Databases.{Bases, means}
use Rattle.keyspace.specs.Sound.{IsArranged}
use Rattle.keyspace.specs.Worlds.{emptied}

-- one more has no key
pub next_cleared : (old new : Bases) (m after : Blocks) (db : ℕ) → means db new after ≡ emptied (means db old m) → ((k : ℕ) → k < db → (means 0 old m).bases k ≡ no_keys) → (k : ℕ)
    → k < db + 1 → (means 0 new after).bases k ≡ no_keys
next_cleared old new m after db e before k below =
    ap (λ (w : World). w.bases k) e
    ∙ elim (cases_eq k db) [
      | inl here ↦ cond-true _ _ _ (eq-eqb k db here)
      | inr other ↦ cond-false _ _ _ (ne_eqb k db other) ∙ before k (omega (arith, below, other))
    ]

-- there is no database beyond the sixteen
pub all_cleared : (bases : Bases) (m : Blocks) → IsArranged bases m → ((k : ℕ) → k < 16 → (means 0 bases m).bases k ≡ no_keys) → means 0 bases m ≡ new_world
all_cleared bases m arranged cleared = λ i. record { bases = λ k. each k i; selected = 0 }
  where
    each : (k : ℕ) → (means 0 bases m).bases k ≡ no_keys
    each k = elim (cases_lt k 16) [
      | inl below ↦ cleared k below
      | inr past ↦ ap (base_means value_of m) (get_or_past bases.bases k (no_base 0) (omega (arith, past, arranged.sixteen))) ∙ no_base_means value_of m 0
    ]
