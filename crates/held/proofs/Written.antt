-- What calls wrote, one after the other.
use Rattle.std.proofs.Common.{◌≡◌, ◌⊎◌, inl, inr, ℕ, List, Some, Bool, true, false, refl, sym, ap, subst, ◌∙◌, ◌<◌, ◌∷◌}
use Rattle.object_codec.specs.declared.limits.Limits.{Limits}
use Rattle.std.proofs.lemmas.Bool.{cases_eq}
use Rattle.blocks.specs.declared.BlockRef.{BlockRef}
use Rattle.blocks.specs.Blocks.{Blocks, bytes_at, times}
use Rattle.rehash_dict.specs.Keyed.{same_key}
use Rattle.rehash_dict.proofs.Keys.{same_key_true, same_key_refl, live_bytes}
use Rattle.held.specs.Table.{Element, item}
use Rattle.held.specs.Databases.{Bases, table_at}
use Rattle.held.specs.Sound.{IsArranged}
use Rattle.held.specs.Calls.{HasOnly}
use Rattle.held.specs.Scopes.{Scope, one_key, two_keys, Within}
use Rattle.held.specs.Written.{Written}

-- two keys are the same, or differ
cases_key : (a b : List ℕ) → (a ≡ b) ⊎ (a ≡ b → ⊥)
cases_key a b = either (same_key a b) refl
  where
    either : (x : Bool) → same_key a b ≡ x → (a ≡ b) ⊎ (a ≡ b → ⊥)
    either true is = inl (same_key_true a b is)
    either false is = inr (λ same. (let both : true ≡ false = sym (same_key_refl a) ∙ ap (same_key a) same ∙ is in cc))

-- which keys a scope lets be written is settled
abbrev pub IsSettled : Scope → Type 0
IsSettled scope = (db : ℕ) (key : List ℕ) → scope.writes db key ⊎ (scope.writes db key → ⊥)

pub one_settled : (db : ℕ) (key : List ℕ) → IsSettled (one_key db key)
one_settled db key number other = elim (cases_eq number db) [
  | inr apart ↦ inr (λ named. apart named.0)
  | inl here ↦ elim (cases_key other key) [
    | inr apart ↦ inr (λ named. apart named.1)
    | inl same ↦ inl (here, same)
  ]
]

pub two_settled : (db : ℕ) (key : List ℕ) (to_db : ℕ) (to : List ℕ) → IsSettled (two_keys db key to_db to)
two_settled db key to_db to number other = elim (one_settled db key number other) [
  | inl here ↦ inl (inl here)
  | inr apart ↦ elim (one_settled to_db to number other) [
    | inl there ↦ inl (inr there)
    | inr far ↦ inr (λ named. elim named [ inl here ↦ apart here | inr there ↦ far there ])
  ]
]

module _ {V : Type 0} (refs_of : Blocks → V → List BlockRef) (Is : V → Type 0) where
  -- nothing changes
  pub written_none : (bases : Bases V) (m : Blocks) → Written refs_of Is bases bases m m
  written_none bases m db at e found = inl (record { stood = found; bytes = λ r owns. refl; refs = refl })

  -- no key is written
  pub written_within : (scope : Scope) → ((db : ℕ) (key : List ℕ) → scope.writes db key → ⊥) → (old new : Bases V) (m after : Blocks) → Within refs_of scope old new m after
      → Written refs_of Is old new m after
  written_within scope none old new m after p db at e found = inl (p.stayed db at e found (none db (bytes_at after e.key)))

  -- one step after another
  pub written_then : (a b c : Bases V) (m mid after : Blocks) → Written refs_of Is a b m mid → Written refs_of Is b c mid after → Written refs_of Is a c m after
  written_then a b c m mid after p q db at e found = elim (q db at e found) [
    | inr is ↦ inr is
    | inl last ↦ elim (p db at e last.stood) [
      | inr is ↦ inr is
      | inl first ↦ inl
          (record
          { stood = first.stood; bytes = λ r owns. last.bytes r (subst (λ list. 0 < times r (e.key ∷ list)) (sym first.refs) owns) ∙ first.bytes r owns; refs = last.refs ∙ first.refs })
    ]
  ]

  -- what is written within a scope has such values
  pub written_named : (scope : Scope) → IsSettled scope → (old new : Bases V) (m after : Blocks) → Within refs_of scope old new m after → {IsSound : Limits → ℕ → Blocks → V → Type 0}
      → IsArranged IsSound new after
      → ((db at : ℕ) (e : Element V) (key : List ℕ) → item (table_at new db) at ≡ Some e → after e.key ≡ Some key → scope.writes db key → Is e.value) → Written refs_of Is old new m after
  written_named scope settled old new m after p arranged is db at e found = elim (settled db (bytes_at after e.key)) [
    | inl named ↦ inr (is db at e (bytes_at after e.key) found (live_bytes after e.key ((arranged.keyed db).live at e found)) named)
    | inr apart ↦ inl (p.stayed db at e found apart)
  ]

  -- a value stands at a key
  pub written_key : (db : ℕ) (key : List ℕ) (value : V) → Is value → (old new : Bases V) (m after : Blocks) → Within refs_of (one_key db key) old new m after
      → {IsSound : Limits → ℕ → Blocks → V → Type 0} → IsArranged IsSound new after → HasOnly new after db key value → Written refs_of Is old new m after
  written_key db key value is old new m after p arranged only =
      written_named (one_key db key) (one_settled db key) old new m after p arranged
      (λ number at e other found bytes named. subst Is (sym (only at e (subst (λ n. item (table_at new n) at ≡ Some e) named.0 found) (bytes ∙ ap Some named.1))) is)
