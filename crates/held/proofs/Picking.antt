-- Some key that is there at a moment.
use Rattle.std.proofs.Common.{◌≡◌, inl, inr, ℕ, ◌<◌, ◌≤◌, true, false, List, Option, Some, None, IfNone, IsSome, is_some, refl, sym, ap, ◌∙◌, arith}
use Rattle.object_codec.specs.declared.limits.Limits.{Limits}
use Rattle.std.proofs.lemmas.Bool.{cases_Bool, cases_lt}
use Rattle.std.specs.FinMap.{get}
use Rattle.blocks.specs.declared.BlockRef.{BlockRef}
use Rattle.blocks.specs.Blocks.{Blocks}
use Rattle.rehash_dict.proofs.MapOf.{cases_key}
use Rattle.plain_world.specs.Worlds.{Value, look, in_time}
use Rattle.plain_world.specs.Worlds as model
use Rattle.expiry.specs.Timed.{moments}
use Rattle.held.specs.Table.{Table, Element, item, key_at, Stands}
use Rattle.held.specs.Databases.{Bases, table_at, deadlines_at, means}
use Rattle.stored.specs.Owning.{ReadsOwn}
use Rattle.held.specs.Sound.{IsArranged}
use Rattle.held.specs.Calls.{StandsAt}
use Rattle.held.proofs.Calls.{look_now, look_past, look_nothing, look_lacks, look_stands}

-- where an answer is none, what follows from that holds
pub none_then : {A P Q : Type 0} (o : Option A) → IfNone o P → (P → Q) → IfNone o Q
none_then None p f = f p
none_then (Some x) p f = tt

module _ {V : Type 0} {IsSound : Limits → ℕ → Blocks → V → Type 0} (refs_of : Blocks → V → List BlockRef) (value_of : Blocks → V → Value) (own : ReadsOwn refs_of value_of IsSound)
    (bases : Bases V) (db moment : ℕ) (m : Blocks) where
  -- a key that a block names
  pub named_stands : (at : ℕ) (name : BlockRef) (key : List ℕ) → key_at (item (table_at bases db) at) ≡ Some name → m name ≡ Some key → Stands m (table_at bases db) at key
  named_stands at name key is bytes = go (item (table_at bases db) at) refl is
    where
      go : (o : Option (Element V)) → item (table_at bases db) at ≡ o → key_at o ≡ Some name → Stands m (table_at bases db) at key
      go None found named = cc
      go (Some e) found named = record { element = e; found = found; bytes = ap m (let same : e.key ≡ name = cc in same) ∙ bytes }

  module _ (a : IsArranged IsSound bases m) where
    pub there_seen : (at : ℕ) (key : List ℕ) → StandsAt bases m db key moment at → is_some (look (model.live (means value_of db bases m) moment) key) ≡ true
    there_seen at key s = ap is_some
        (look_now refs_of value_of own bases db moment m key _ (look_stands refs_of value_of own bases db m a key at s.stands.element s.stands.found s.stands.bytes _ refl) s.in_time)

    -- a key that is there stands at some item number
    pub there_at : (key : List ℕ) → is_some (look (model.live (means value_of db bases m) moment) key) ≡ true → (at : ℕ) × StandsAt bases m db key moment at
    there_at key seen = elim (cases_key m (table_at bases db) key (a.keyed db)) [
      | inl s ↦ elim (cases_Bool (in_time moment (get (moments m (deadlines_at bases db)) key))) [
        | inl there ↦ (s.at, record { stands = record { element = s.element; found = s.found; bytes = s.bytes }; in_time = there })
        | inr late ↦ not_seen key (look_past refs_of value_of own bases db moment m a key s.at (record { element = s.element; found = s.found; bytes = s.bytes }) late) seen
      ]
      | inr lacks ↦ not_seen key (look_nothing refs_of value_of own bases db moment m key (look_lacks refs_of value_of own bases db m a key lacks)) seen
    ]
      where
        not_seen : {X : Type 0} (key : List ℕ) → look (model.live (means value_of db bases m) moment) key ≡ None → is_some (look (model.live (means value_of db bases m) moment) key) ≡ true → X
        not_seen key none seen = (let bad : false ≡ true = sym (ap is_some none) ∙ seen in absurd (cc bad))

    -- where no item number is that of a key that is there
    pub none_there : ((at : ℕ) (key : List ℕ) → IsSome (item (table_at bases db) at) → StandsAt bases m db key moment at → ⊥) → (key : List ℕ)
        → look (model.live (means value_of db bases m) moment) key ≡ None
    none_there none key = elim (cases_key m (table_at bases db) key (a.keyed db)) [
      | inl s ↦ elim (cases_Bool (in_time moment (get (moments m (deadlines_at bases db)) key))) [
        | inl there ↦ absurd (none s.at key (ap is_some s.found) (record { stands = record { element = s.element; found = s.found; bytes = s.bytes }; in_time = there }))
        | inr late ↦ look_past refs_of value_of own bases db moment m a key s.at (record { element = s.element; found = s.found; bytes = s.bytes }) late
      ]
      | inr lacks ↦ look_nothing refs_of value_of own bases db moment m key (look_lacks refs_of value_of own bases db m a key lacks)
    ]

    -- the same where none below the top is
    pub none_below : (t : Table V) (top : ℕ) → t ≡ table_at bases db → ((at : ℕ) → IsSome (item t at) → at < top)
        → ((at : ℕ) (key : List ℕ) → at < top → StandsAt bases m db key moment at → ⊥) → (key : List ℕ) → look (model.live (means value_of db bases m) moment) key ≡ None
    none_below t top is above none = none_there (λ at key some s. none at key (above at (ap (λ (x : Table V). is_some (item x at)) is ∙ some)) s)

    -- none is there from the middle on, and none before
    pub none_around : (middle top : ℕ) → ((at : ℕ) (key : List ℕ) → middle ≤ at → at < top → StandsAt bases m db key moment at → ⊥)
        → ((at : ℕ) (key : List ℕ) → 0 ≤ at → at < middle → StandsAt bases m db key moment at → ⊥) → (at : ℕ) (key : List ℕ) → at < top → StandsAt bases m db key moment at → ⊥
    none_around middle top behind before at key below s = elim (cases_lt at middle) [
      | inl under ↦ before at key (omega arith) under s
      | inr over ↦ behind at key over below s
    ]
