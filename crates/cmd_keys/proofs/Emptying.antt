-- Databases that are emptied, one after the other.
use Rattle.std.proofs.Common.{◌≡◌, inl, inr, ℕ, ◌+◌, ◌<◌, ◌≤◌, length, arith, refl, sym, ap, ◌∙◌, cond}
use Rattle.std.specs.Prelude.{◌==◌}
use Rattle.std.specs.FinMap.{len}
use Rattle.std.proofs.lemmas.Bool.{cases_eq, cases_lt, eq-eqb, ne_eqb, cond-true, cond-false}
use Rattle.std.proofs.lemmas.List.{get_or_past}
use Rattle.blocks.specs.Blocks.{Blocks}
use Rattle.rehash_dict.proofs.MapOf.{map_of_empty}
use Rattle.expiry.specs.Timed.{moments}
use Rattle.plain_world.specs.Worlds.{World, live, live_keys, with_base}
use Rattle.plain_world.specs.Worlds as model
use Rattle.plain_world.proofs.Lives.{live_none, live_with, live_twice}
use Rattle.plain_model.specs.declared.ctx.Ctx.{Ctx}
use Rattle.held.specs.Table.{no_keys}
use Rattle.held.specs.Databases.{base_at, base_means, no_base, with_deadlines}
use Rattle.held.proofs.Maps.{with_none}
use Rattle.keyspace.specs.declared.value.Value.{Value}
use Rattle.keyspace.specs.Values.{value_of}
use Rattle.keyspace.specs.Databases.{Bases, means}
use Rattle.keyspace.specs.Worlds.{emptied}
use Rattle.keyspace.specs.Commands.{seen}
use Rattle.cmd_keys.specs.Emptied.{IsEmpty}

-- the databases below this number have no key
abbrev pub AreEmptyBelow : Bases → Blocks → ℕ → Type 0
AreEmptyBelow bases m below = (number : ℕ) → number < below → (means 0 bases m).bases number ≡ model.no_keys

-- the selected database is emptied
pub selected_emptied : (at : Ctx) (old new : Bases) (m after : Blocks) → means at.db new after ≡ emptied (means at.db old m) → seen at new after ≡ with_base (seen at old m) model.no_keys
selected_emptied at old new m after is =
    ap (λ w. live w at.moment) is ∙ live_with (means at.db old m) model.no_keys at.moment ∙ ap (with_base (seen at old m)) (live_none at.moment)

-- one more is emptied
pub one_emptied : (old new : Bases) (m after : Blocks) (db : ℕ) → AreEmptyBelow old m db → means db new after ≡ emptied (means db old m) → AreEmptyBelow new after (db + 1)
one_emptied old new m after db below is number within =
    ap (λ (w : World). w.bases number) is ∙ elim (cases_eq number db) [
      | inl same ↦ cond-true _ _ _ (eq-eqb number db same)
      | inr other ↦ cond-false _ _ _ (ne_eqb number db other) ∙ below number (omega (arith, within, other))
    ]

-- the selected database in its own place
pub same_base : (w : World) → with_base w (w.bases w.selected) ≡ w
same_base w = λ i. record { bases = λ number. each number i; selected = w.selected }
  where
    each : (number : ℕ) → cond (number == w.selected) (w.bases w.selected) (w.bases number) ≡ w.bases number
    each number = elim (cases_eq number w.selected) [
      | inl same ↦ cond-true _ _ _ (eq-eqb number w.selected same) ∙ ap w.bases (sym same)
      | inr other ↦ cond-false _ _ _ (ne_eqb number w.selected other)
    ]

nothing_there : (m : Blocks) → base_means value_of m (no_base {V = Value} 0) ≡ model.no_keys
nothing_there m =
    ap (λ values. with_deadlines values (moments m (no_base {V = Value} 0).deadlines)) (map_of_empty m (value_of m) (no_keys {V = Value} 0) refl)
    ∙ with_none (moments m (no_base {V = Value} 0).deadlines)

-- all sixteen are
pub all_emptied : (at : Ctx) (bases : Bases) (m : Blocks) → length bases.bases ≡ 16 → (last : ℕ) → 16 ≤ last → AreEmptyBelow bases m last → IsEmpty (seen at bases m) at.db
all_emptied at bases m sixteen last enough below = λ i. record { bases = λ number. (ap (λ base. live_keys base at.moment) (each number) ∙ live_none at.moment) i; selected = at.db }
  where
    each : (number : ℕ) → base_means value_of m (base_at bases number) ≡ model.no_keys
    each number = elim (cases_lt number 16) [
      | inl within ↦ below number (omega (arith, within, enough))
      | inr past ↦ ap (base_means value_of m) (get_or_past bases.bases number (no_base {V = Value} 0) (omega (arith, sixteen, past))) ∙ nothing_there m
    ]

-- the keys that are gone leave the selected database
pub selected_purged : (at : Ctx) (old new : Bases) (m after : Blocks) → means at.db new after ≡ with_base (means at.db old m) (live_keys ((means at.db old m).bases at.db) at.moment)
    → seen at new after ≡ seen at old m
selected_purged at old new m after is =
    ap (λ w. live w at.moment) is ∙ live_with (means at.db old m) (live_keys ((means at.db old m).bases at.db) at.moment) at.moment
    ∙ ap (with_base (seen at old m)) (live_twice ((means at.db old m).bases at.db) at.moment at.moment (omega arith)) ∙ same_base (seen at old m)

pub purged_count : (at : Ctx) (old new : Bases) (m after : Blocks) → means at.db new after ≡ with_base (means at.db old m) (live_keys ((means at.db old m).bases at.db) at.moment)
    → len ((means at.db new after).bases at.db) ≡ len ((seen at old m).bases at.db)
purged_count at old new m after is = ap (λ (w : World). len (w.bases at.db)) is ∙ ap len (cond-true _ _ _ (eq-eqb at.db at.db refl))
