-- The keys that a listing sifts out of a database's item numbers are those that it has to report.
use Rattle.std.proofs.Common.{◌≡◌, ℕ, ◌<◌, ◌-◌, ◌^◌, true, List, Option, Some, None, IsSome, refl, sym, ap, ◌∙◌, subst, arith}
use Rattle.std.specs.Prelude.{unwrap_or, [], is_some}
use Rattle.plain_world.specs.declared.reply.Part.{Part}
use Rattle.plain_model.specs.KeySteps.{AreKeysLike}
use Rattle.blocks.specs.Blocks.{Blocks, bytes_at}
use Rattle.digests.specs.Siphash.{sip}
use Rattle.rev_cursor.specs.Place.{place}
use Rattle.rev_cursor.specs.Span.{Span}
use Rattle.rehash_dict.specs.Table.{Element, Table, item}
use Rattle.rehash_dict.specs.Keyed.{hash_of}
use Rattle.rehash_dict.specs.ScanPlaces.{place_in}
use Rattle.plain_world.specs.Worlds.{World, Entry, live, look_in}
use Rattle.plain_model.specs.Scans.{Sought, IsLike, is_named, Passes, Lists, Page, IsDue, place_of, keys_sought, listed}
use Rattle.plain_model.specs.declared.ctx.Ctx.{Ctx}
use Rattle.plain_model.specs.declared.keys.ScanOptions.{ScanOptions}
use Rattle.held.specs.Calls.{StandsAt}
use Rattle.held.specs.Table.{value_at}
use Rattle.held.proofs.Calls.{found_held}
use Rattle.held.proofs.Picking.{there_at, there_seen}
use Rattle.held.proofs.Timing.{some_same}
use Rattle.keyspace.specs.declared.value.Value.{Value}
use Rattle.keyspace.specs.Databases.{Bases, means, table_at}
use Rattle.keyspace.specs.Sound.{IsArranged, IsIntact, Sound}
use Rattle.keyspace.proofs.Uses.{sound_is_intact}
use Rattle.keyspace.specs.Values.{value_refs, value_of, value_own}
use Rattle.keyspace.specs.Shown.{PassesAt, Sifted}
use Rattle.cmd_keys.specs.Sieve.{is_type, numbers}
use Rattle.keyspace.proofs.Sifting.{sifted_lists}
use Rattle.cmd_keys.proofs.Sifting.{numbers_few, numbers_met}

hash_is : (seed : ℕ) (key : List ℕ) → hash_of seed key ≡ sip 1 2 seed (2 ^ 64 - 1 - seed) key
unfolding hash_of
hash_is seed key = refl

named_type : (name : Option (List ℕ)) (entry : Entry) → is_named name (Some entry) ≡ is_type name entry.value
named_type None entry = refl
named_type (Some name) entry = refl

module _ (bases : Bases) (m : Blocks) (at : Ctx) (below : at.db < 16) (sound : Sound bases m) (options : ScanOptions) where
  abbrev a : IsArranged bases m
  a = sound.arranged

  intact : IsIntact bases m []
  intact = sound_is_intact bases m [] sound

  abbrev seen : World
  seen = live (means at.db bases m) at.moment

  abbrev sought : Sought
  sought = keys_sought at.db options

  abbrev table : Table Value
  table = table_at bases at.db

  abbrev P : ℕ → List ℕ → Type 0
  P at_item key = PassesAt bases m at sought at_item key

  one : (i : ℕ) (k other : List ℕ) → P i k → P i other → k ≡ other
  one i k other p q =
      let same : p.stands.stands.element ≡ q.stands.stands.element = some_same (item table i) _ _ p.stands.stands.found q.stands.stands.found in
      some_same (m p.stands.stands.element.key) k other p.stands.stands.bytes (ap (λ (e : Element Value). m e.key) same ∙ q.stands.stands.bytes)

  apart : (i j : ℕ) (k : List ℕ) → P i k → P j k → i ≡ j
  apart i j k p q = (a.keyed at.db).apart i j p.stands.stands.element q.stands.stands.element p.stands.stands.found q.stands.stands.found (p.stands.stands.bytes ∙ sym q.stands.stands.bytes)

  -- TYPE looks at the value of the item number
  typed : (i : ℕ) (key : List ℕ) (value : Value) → StandsAt bases m at.db key at.moment i → value_at (item table i) ≡ Some value
      → is_named options.type_name (look_in seen at.db key) ≡ is_type options.type_name (value_of m value)
  typed i key value stands held =
      let found = found_held value_refs value_of value_own bases at.db at.moment m key i value intact stands held in
      ap (is_named options.type_name) found.stands ∙ named_type options.type_name _

  pub passes_at : (i : ℕ) (key : List ℕ) (value : Value) → StandsAt bases m at.db key at.moment i → IsLike options.pattern key → value_at (item table i) ≡ Some value
      → is_type options.type_name (value_of m value) ≡ true → P i key
  passes_at i key value stands like held is = record {
    stands = stands;
    passes = record { there = there_seen value_refs value_of value_own bases at.db at.moment m a i key stands; like = like; typed = typed i key value stands held ∙ is };
  }

  pub type_passes : (i : ℕ) (key : List ℕ) (value : Value) → P i key → value_at (item table i) ≡ Some value → is_type options.type_name (value_of m value) ≡ true
  type_passes i key value p held = sym (typed i key value p.stands held) ∙ p.passes.typed

  -- a key that passes stands at some item number
  pub stands_somewhere : (key : List ℕ) → Passes seen sought key → (i : ℕ) × P i key
  stands_somewhere key passes = let s = there_at value_refs value_of value_own bases at.db at.moment m a key passes.there in (s.0, record { stands = s.1; passes = passes })

  place_told : (i : ℕ) (key : List ℕ) → P i key → place_in (item table i) ≡ Some (place_of bases.seed key)
  place_told i key p =
      let e = p.stands.stands.element in
      let bytes : bytes_at m e.key ≡ key = ap (λ o. unwrap_or o []) p.stands.stands.bytes in
      let hashed : e.hash ≡ hash_of bases.seed key = (a.keyed at.db).hashed i e p.stands.stands.found ∙ ap (λ b. hash_of table.seed b) bytes ∙ ap (λ s. hash_of s key) (a.seeds at.db below).keys in
      ap place_in p.stands.stands.found ∙ ap (λ h. Some (place h)) (hashed ∙ hash_is bases.seed key)

  -- all of them
  pub all_listed : (top : ℕ) → ((i : ℕ) → IsSome (item table i) → i < top) → (names : List (List ℕ)) → Sifted P (numbers top 0) names → Lists (Passes seen sought) (Passes seen sought) names
  all_listed top above names s =
      sifted_lists P one apart (Passes seen sought) (Passes seen sought) (numbers top 0) names s (λ i. numbers_few top 0 i) (λ i key p. p.passes)
      (λ key passes. (let w = stands_somewhere key passes in (w.0, w.1, numbers_met top 0 w.0 (omega arith) (omega (arith, above w.0 (ap is_some w.1.stands.stands.found))))))

  -- those of a page
  pub paged_listed : (cursor next : ℕ) (items : List ℕ) (names : List (List ℕ)) → next < 2 ^ 64 → Span (λ i. place_in (item table i)) cursor next items → Sifted P items names
      → Page bases.seed seen sought cursor next names
  paged_listed cursor next items names fits span s = record {
    on = span.on;
    fits = fits;
    lists = sifted_lists P one apart (Passes seen sought) (IsDue bases.seed seen sought cursor next) items names s span.once (λ i key p. p.passes)
        (λ key due. (let w = stands_somewhere key due.passes in let met = span.whole w.0 (place_of bases.seed key) (place_told w.0 key w.1) due.from due.below in (w.0, w.1, omega (arith, met))));
  }

-- ---- KEYS

pub keys_told : (bases : Bases) (m : Blocks) (at : Ctx) (below : at.db < 16) (sound : Sound bases m) (pattern bytes : List ℕ) → bytes ≡ pattern → (top : ℕ)
    → ((i : ℕ) → IsSome (item (table_at bases at.db) i) → i < top) → (names : List (List ℕ))
    → Sifted (PassesAt bases m at (keys_sought at.db (record { pattern = Some bytes; count = 1; type_name = None }))) (numbers top 0) names → (reply : List Part) → reply ≡ listed names
    → AreKeysLike (live (means at.db bases m) at.moment) pattern reply
keys_told bases m at below sound pattern bytes same top above names s reply is =
    let L : List ℕ → Type 0 = λ b. Lists (Passes (live (means at.db bases m) at.moment) (keys_sought at.db (record { pattern = Some b; count = 1; type_name = None })))
    (Passes (live (means at.db bases m) at.moment) (keys_sought at.db (record { pattern = Some b; count = 1; type_name = None }))) names in
    (names, subst L same (all_listed bases m at below sound (record { pattern = Some bytes; count = 1; type_name = None }) top above names s), is)
