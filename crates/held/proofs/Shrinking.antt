-- The elements of a database's tables stay, whatever the tables do.
use Rattle.std.proofs.Common.{◌≡◌, inl, inr, ℕ, List, flat_map, sym, ap, ◌∙◌, subst, arith}
use Rattle.object_codec.specs.declared.limits.Limits.{Limits}
use Rattle.std.proofs.lemmas.Bool.{cases_eq}
use Rattle.blocks.specs.declared.BlockRef.{BlockRef}
use Rattle.blocks.specs.Blocks.{Blocks, times}
use Rattle.rehash_dict.specs.Table.{at_item}
use Rattle.rehash_dict.proofs.MapOf.{map_of_items}
use Rattle.plain_world.specs.Worlds.{Value}
use Rattle.expiry.specs.Timed.{Timed}
use Rattle.held.specs.Table.{Table, Keyed, own_of}
use Rattle.held.specs.Databases.{Bases, base_at, table_at, deadlines_at, base_means, with_deadlines, means, ChangesBase, ChangesTable, ChangesDeadlines}
use Rattle.stored.specs.Owning.{ReadsOwn}
use Rattle.held.specs.Sound.{IsArranged, SoundBeside}
use Rattle.held.proofs.Bases.{InOrder, arranged_changed, base_then, owned_changed}

pub record KeepsItems {V : Type 0} (old new : Bases V) (m : Blocks) (db : ℕ) : Type 0 where
  pub base : ChangesBase old new db
  pub keys : (table_at new db).items ≡ (table_at old db).items
  pub keyed : Keyed m (table_at new db)
  pub seed : (table_at new db).seed ≡ (table_at old db).seed
  pub times : (deadlines_at new db).table.items ≡ (deadlines_at old db).table.items
  pub times_keyed : Keyed m (deadlines_at new db).table
  pub times_seed : (deadlines_at new db).table.seed ≡ (deadlines_at old db).table.seed

module _ {V : Type 0} {IsSound : Limits → ℕ → Blocks → V → Type 0} (refs_of : Blocks → V → List BlockRef) (value_of : Blocks → V → Value) (own : ReadsOwn refs_of value_of IsSound)
    (old mid : Bases V) (m : Blocks) (db : ℕ) (a : IsArranged IsSound old m) (c : ChangesTable old mid db) (items : (table_at mid db).items ≡ (table_at old db).items)
    (keyed : Keyed m (table_at mid db)) (seed : (table_at mid db).seed ≡ (table_at old db).seed) where
  pub keys_shrink : KeepsItems old mid m db
  keys_shrink = record {
    base = c.base;
    keys = items;
    keyed = keyed;
    seed = seed;
    times = ap (λ (d : Timed). d.table.items) c.deadlines;
    times_keyed = subst (λ (d : Timed). Keyed m d.table) (sym c.deadlines) (a.timed db).keyed;
    times_seed = ap (λ (d : Timed). d.table.seed) c.deadlines;
  }

  pub both_shrink : (new : Bases V) → ChangesDeadlines mid new db → (deadlines_at new db).table.items ≡ (deadlines_at mid db).table.items → Keyed m (deadlines_at new db).table
      → (deadlines_at new db).table.seed ≡ (deadlines_at mid db).table.seed → KeepsItems old new m db
  both_shrink new d times times_keyed times_seed = record {
    base = base_then old mid new db c.base d.base;
    keys = ap (λ (t : Table V). t.items) d.keys ∙ items;
    keyed = subst (Keyed m) (sym d.keys) keyed;
    seed = ap (λ (t : Table V). t.seed) d.keys ∙ seed;
    times = times ∙ ap (λ (x : Timed). x.table.items) c.deadlines;
    times_keyed = times_keyed;
    times_seed = times_seed ∙ ap (λ (x : Timed). x.table.seed) c.deadlines;
  }

module _ {V : Type 0} {IsSound : Limits → ℕ → Blocks → V → Type 0} (refs_of : Blocks → V → List BlockRef) (value_of : Blocks → V → Value) (own : ReadsOwn refs_of value_of IsSound)
    (old new : Bases V) (m : Blocks) (db : ℕ) (a : IsArranged IsSound old m) (k : KeepsItems old new m db) where
  items_order : InOrder IsSound m old new db
  items_order = record {
    keyed = k.keyed;
    timed = record {
      keyed = k.times_keyed;
      names = λ i f found.
          (let n = (a.timed db).names i f (ap (λ items. at_item items i) (sym k.times) ∙ found) in
          record { at = n.at; element = n.element; found = ap (λ items. at_item items n.at) k.keys ∙ n.found; same = n.same });
      latest = λ i f found. (a.timed db).latest i f (ap (λ items. at_item items i) (sym k.times) ∙ found);
    };
    values = λ at e found. a.values db at e (ap (λ items. at_item items at) (sym k.keys) ∙ found);
    seeds = λ h. record { keys = k.seed ∙ h.keys; deadlines = k.times_seed ∙ h.deadlines };
  }

  pub items_arranged : IsArranged IsSound new m
  items_arranged = arranged_changed refs_of value_of own old new db m k.base a items_order

  pub items_means : means value_of db new m ≡ means value_of db old m
  items_means = λ i. record { bases = λ number. each number i; selected = db }
    where
      here_same : base_means value_of m (base_at new db) ≡ base_means value_of m (base_at old db)
      here_same = λ i. with_deadlines (map_of_items m (value_of m) (table_at old db) (table_at new db) k.keys i)
          (map_of_items m (λ v. v) (deadlines_at old db).table (deadlines_at new db).table k.times i)

      each : (number : ℕ) → base_means value_of m (base_at new number) ≡ base_means value_of m (base_at old number)
      each number = elim (cases_eq number db) [
        | inl here ↦ ap (λ n. base_means value_of m (base_at new n)) here ∙ here_same ∙ sym (ap (λ n. base_means value_of m (base_at old n)) here)
        | inr other ↦ ap (base_means value_of m) (k.base.others number other)
      ]

  pub items_sound : (out : List BlockRef) → SoundBeside refs_of IsSound old m out → SoundBeside refs_of IsSound new m out
  items_sound out sound = record {
    owns = λ r. (let same = ap (λ items. times r (flat_map (own_of (refs_of m)) items)) k.keys in omega (arith, sound.owns r, owned_changed (refs_of m) old new db k.base r, same));
    arranged = arranged_changed refs_of value_of own old new db m k.base a items_order;
  }
