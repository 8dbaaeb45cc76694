-- What is seen of a key that is sought.
use Rattle.std.proofs.Common.{◌≡◌, inl, inr, ℕ, List, Option, None, Some, true, false, IfSome, IfNone, sym, ap, ◌∙◌, subst}
use Rattle.object_codec.specs.declared.limits.Limits.{Limits}
use Rattle.std.proofs.lemmas.Bool.{cases_eq}
use Rattle.std.specs.FinMap.{get}
use Rattle.blocks.specs.declared.BlockRef.{BlockRef}
use Rattle.blocks.specs.Blocks.{Blocks}
use Rattle.plain_world.specs.Worlds.{Value, look, in_time, live, deadline_of}
use Rattle.plain_world.proofs.Lives.{look_in_time}
use Rattle.expiry.specs.Timed.{moments}
use Rattle.expiry.specs.Changes.{HasDeadline}
use Rattle.held.specs.declared.seeking.Sought.{Sought}
use Rattle.rehash_dict.specs.Keyed.{hash_of}
use Rattle.held.specs.Table.{Table, Element, item, Stands, Lacks, Swaps}
use Rattle.held.specs.declared.databases.Base.{Base}
use Rattle.held.specs.Databases.{Bases, table_at, deadlines_at, means, ChangesTable}
use Rattle.stored.specs.Owning.{ReadsOwn}
use Rattle.held.specs.Sound.{IsArranged}
use Rattle.held.specs.Calls.{StandsAt, HasUntil, Seeks, Sees}
use Rattle.held.proofs.Timing.{some_same, untimed}
use Rattle.held.proofs.Calls.{look_stands, look_lacks, look_nothing, look_past, deadline_seen, deadline_latest}

module _ {V : Type 0} (old new : Table V) (at : ℕ) (was value : V) (s : Swaps old new at was value) (m : Blocks) (key : List ℕ) where
  -- a key stands where it stood, whatever becomes of a value
  swapped_stands : (place : ℕ) → Stands m old place key → Stands m new place key
  swapped_stands place h = elim (cases_eq place at) [
    | inl here ↦ record {
      element = record { key = s.key; hash = s.hash; value = value };
      found = ap (item new) here ∙ s.updates.changed;
      bytes =
          ap (λ (e : Element V). m e.key) (some_same (item old at) _ h.element s.found (ap (item old) (sym here) ∙ h.found)) ∙ h.bytes;
    }
    | inr other ↦ record { element = h.element; found = s.updates.others place other ∙ h.found; bytes = h.bytes }
  ]

  swapped_lacks : Lacks m old key → Lacks m new key
  swapped_lacks h = record {
    each = λ place e found is. elim (cases_eq place at) [
      | inl here ↦
          (let same = some_same (item new at) _ e s.updates.changed (ap (item new) (sym here) ∙ found) in
          h.each at (record { key = s.key; hash = s.hash; value = was }) s.found (ap (λ (x : Element V). m x.key) same ∙ is))
      | inr other ↦ h.each place e (sym (s.updates.others place other) ∙ found) is
    ];
  }

  pub stands_swapped : (found : Option ℕ) → IfSome found (λ place. Stands m old place key) → IfSome found (λ place. Stands m new place key)
  stands_swapped None h = tt
  stands_swapped (Some place) h = swapped_stands place h

  pub lacks_swapped : (found : Option ℕ) → IfNone found (Lacks m old key) → IfNone found (Lacks m new key)
  lacks_swapped None h = swapped_lacks h
  lacks_swapped (Some place) h = tt

module _ {V : Type 0} where
  -- what was found of a key stands after a value took the place of another
  pub kept_sought : (old new : Bases V) (db at : ℕ) (was value : V) (m : Blocks) → ChangesTable old new db → Swaps (table_at old db) (table_at new db) at was value
      → (number : ℕ) (key : List ℕ) (sought : Sought) → Seeks old m number key sought → Seeks new m number key sought
  kept_sought old new db at was value m c s number key sought seeks = elim (cases_eq number db) [
    | inl here ↦
        subst (λ n. Seeks new m n key sought) (sym here)
        (let here_seeks : Seeks old m db key sought = subst (λ n. Seeks old m n key sought) here seeks in
        record {
          hashed = here_seeks.hashed ∙ ap (λ seed. hash_of seed key) (sym s.seed);
          stands = stands_swapped (table_at old db) (table_at new db) at was value s m key sought.item here_seeks.stands;
          lacks = lacks_swapped (table_at old db) (table_at new db) at was value s m key sought.item here_seeks.lacks;
        })
    | inr other ↦
        (let same : table_at old number ≡ table_at new number = sym (ap (λ (base : Base V). base.keys) (c.base.others number other)) in record {
          hashed = seeks.hashed ∙ ap (λ (table : Table V). hash_of table.seed key) same;
          stands = subst (λ table. IfSome sought.item (λ place. Stands m table place key)) same seeks.stands;
          lacks = subst (λ table. IfNone sought.item (Lacks m table key)) same seeks.lacks;
        })
  ]

module _ {V : Type 0} {IsSound : Limits → ℕ → Blocks → V → Type 0} (refs_of : Blocks → V → List BlockRef) (value_of : Blocks → V → Value) (own : ReadsOwn refs_of value_of IsSound) where
  -- a key that is there at a moment is seen with its deadline
  pub seen_until : (bases : Bases V) (db moment : ℕ) (m : Blocks) → IsArranged IsSound bases m → (key : List ℕ) (at : ℕ) → StandsAt bases m db key moment at → (deadline : Option ℕ)
      → get (moments m (deadlines_at bases db)) key ≡ deadline → HasUntil (live (means value_of db bases m) moment) key deadline
  seen_until bases db moment m a key at there deadline is = record {
    value = value_of m there.stands.element.value;
    stands =
        look_in_time (means value_of db bases m) moment key _
        (look_stands refs_of value_of own bases db m a key at there.stands.element there.stands.found there.stands.bytes deadline is)
        (ap (in_time moment) (sym is) ∙ there.in_time);
  }

  -- what a search found, at each of its ends
  module _ (bases : Bases V) (db moment : ℕ) (m : Blocks) (a : IsArranged IsSound bases m) (key : List ℕ) (sought : Sought) (seeks : Seeks bases m db key sought) where
    -- no element has the key
    pub sees_none : sought.item ≡ None → Sees value_of bases m db key moment (record { sought = sought; timed = None; there = None; deadline = None })
    sees_none is =
        let lacks : Lacks m (table_at bases db) key = rw is at seeks.lacks in
        record {
          seeks = seeks;
          timed = tt;
          untimed = untimed m (table_at bases db) (deadlines_at bases db) key (a.timed db) lacks;
          lasts = sym (ap deadline_of (look_lacks refs_of value_of own bases db m a key lacks));
          latest = tt;
          there = tt;
          until = tt;
          gone = look_nothing refs_of value_of own bases db moment m key (look_lacks refs_of value_of own bases db m a key lacks);
        }

    module _ (at : ℕ) (is : sought.item ≡ Some at) (timed : Option ℕ) (deadline : Option ℕ) (stands : IfSome timed (λ t. Stands m (deadlines_at bases db).table t key))
        (lacks : IfNone timed (Lacks m (deadlines_at bases db).table key)) (value : get (moments m (deadlines_at bases db)) key ≡ deadline)
        (has : IfSome deadline (λ d. HasDeadline m (deadlines_at bases db).table key d)) where
      lasts_is : deadline ≡ deadline_of (look (means value_of db bases m) key)
      lasts_is = sym value ∙ deadline_seen refs_of value_of own bases db m a key

      -- the key is gone
      pub sees_gone : in_time moment deadline ≡ false → Sees value_of bases m db key moment (record { sought = sought; timed = timed; there = None; deadline = deadline })
      sees_gone past = record {
        seeks = seeks;
        timed = stands;
        untimed = lacks;
        lasts = lasts_is;
        latest = deadline_latest refs_of value_of own bases db m a key deadline has;
        there = tt;
        until = tt;
        gone = look_past refs_of value_of own bases db moment m a key at (rw is at seeks.stands) (ap (in_time moment) value ∙ past);
      }

      -- it is there
      pub sees_there : in_time moment deadline ≡ true → Sees value_of bases m db key moment (record { sought = sought; timed = timed; there = Some at; deadline = deadline })
      sees_there now =
          let here : StandsAt bases m db key moment at = record { stands = rw is at seeks.stands; in_time = ap (in_time moment) value ∙ now } in
          record {
            seeks = seeks;
            timed = stands;
            untimed = lacks;
            lasts = lasts_is;
            latest = deadline_latest refs_of value_of own bases db m a key deadline has;
            there = here;
            until = seen_until bases db moment m a key at here deadline value;
            gone = tt;
          }
