-- Keys that are gone at a moment leave, one by one.
use Rattle.std.proofs.Common.{◌≡◌, ◌≢◌, ◌⊎◌, inl, inr, ℕ, ◌+◌, ◌≤◌, ◌<◌, Bool, true, false, cond, List, [], Option, Some, None, IsSome, is_some, refl, sym, ap, ◌∙◌, subst, arith}
use Rattle.object_codec.specs.declared.limits.Limits.{Limits}
use Rattle.std.specs.Prelude.{◌==◌}
use Rattle.std.proofs.lemmas.Bool.{cases_eq, eq-eqb, ne_eqb, cond-true, cond-false, lt-leb, le-leb}
use Rattle.std.specs.Ordering.{nat_cmp}
use Rattle.std.specs.Cmp.Lexicographic.{slice_cmp, nat_list_cmp_total}
use Rattle.std.specs.FinMap.{get, remove, len, empty_of_len, get-empty, len-remove}
use Rattle.blocks.specs.declared.BlockRef.{BlockRef}
use Rattle.blocks.specs.Blocks.{Blocks, bytes_at, Changes}
use Rattle.blocks.proofs.Change.{changes_owned, changes_same, changes_then}
use Rattle.rehash_dict.proofs.Keys.{live_bytes}
use Rattle.rehash_dict.proofs.MapOf.{cases_key, map_of_stands}
use Rattle.plain_world.specs.Worlds.{Value, Entry, World, Database, with_base, in_time, live_keys}
use Rattle.plain_world.proofs.Lives.{shown, live_removed, live_all}
use Rattle.expiry.specs.Timed.{Timed, moments}
use Rattle.expiry.specs.Changes.{Clears}
use Rattle.held.specs.Table.{Table, Element, item, Stands, Lacks, Keyed, map_of}
use Rattle.held.specs.Databases.{Bases, base_at, table_at, deadlines_at, base_means, means, owned, ChangesDeadlines, ChangesTable}
use Rattle.stored.specs.Owning.{ReadsOwn}
use Rattle.held.specs.Sound.{Names, IsArranged, IsIntact}
use Rattle.held.specs.Worlds.{without}
use Rattle.held.specs.Gone.{IsPassed, Loses, Thins}
use Rattle.held.proofs.Maps.{entry_with, get_with, removed_same}
use Rattle.held.proofs.Timing.{some_none, moments_lack}
use Rattle.held.proofs.Calls.{look_past, look_stands}

-- the worlds that differ in the selected database alone, and then once more
with_base_twice : (w : World) (a b : Database) → with_base (with_base w a) b ≡ with_base w b
with_base_twice w a b = λ i. record { bases = λ number. each (number == w.selected) number i; selected = w.selected }
  where
    each : (t : Bool) (number : ℕ) → cond t b (cond t a (w.bases number)) ≡ cond t b (w.bases number)
    each true number = refl
    each false number = refl

-- a key that is there leaves
one_less : (base : Database) (key : List ℕ) (e : Entry) → get base key ≡ Some e → len base ≡ 1 + len (remove base key)
one_less base key e is = elim (cases_eq (len base) 0) [
  | inl none ↦ some_none (get base key) e is (ap (λ b. get b key) (empty_of_len base none) ∙ get-empty (slice_cmp nat_cmp) key)
  | inr some ↦ (let less = len-remove nat_list_cmp_total base key ∙ cond-true _ _ _ (ap is_some is) in omega (arith, some, less))
]

module _ {V : Type 0} (m : Blocks) where
  -- a key's deadline goes, where it has one
  pub cleared_loses : (old mid : Bases V) (db : ℕ) (key : List ℕ) → Clears m (deadlines_at old db).table (deadlines_at mid db).table key
      ⊎ ((mid ≡ old) × Lacks m (deadlines_at old db).table key) → Keyed m (deadlines_at old db).table → Loses m (deadlines_at old db) (deadlines_at mid db) key
  cleared_loses old mid db key (inl c) k = record {
    part = λ i f found. (still i f found).1;
    lacks = record { each = λ i f found bytes. (let s = still i f found in s.0 (k.apart i c.removes.at f _ s.1 c.removes.found (bytes ∙ sym c.removes.bytes))) };
  }
    where
      still : (i : ℕ) (f : Element ℕ) → item (deadlines_at mid db).table i ≡ Some f → (i ≢ c.removes.at) × (item (deadlines_at old db).table i ≡ Some f)
      still i f found = elim (cases_eq i c.removes.at) [
        | inl here ↦ some_none (item (deadlines_at mid db).table c.removes.at) f (ap (item (deadlines_at mid db).table) (sym here) ∙ found) c.removes.updates.changed
        | inr other ↦ (other, sym (c.removes.updates.others i other) ∙ found)
      ]
  cleared_loses old mid db key (inr same) k = record {
    part = λ i f found. ap (λ (b : Bases V). item (deadlines_at b db).table i) (sym same.0) ∙ found;
    lacks = subst (λ (b : Bases V). Lacks m (deadlines_at b db).table key) (sym same.0) same.1;
  }

  -- and the key leaves
  pub drops_loses : (old mid new : Bases V) (db : ℕ) (key named : List ℕ) → named ≡ key → ChangesTable mid new db → Clears m (deadlines_at old db).table (deadlines_at mid db).table key
      ⊎ ((mid ≡ old) × Lacks m (deadlines_at old db).table key) → Keyed m (deadlines_at old db).table → Loses m (deadlines_at old db) (deadlines_at new db) named
  drops_loses old mid new db key named is d cleared k =
      subst (Loses m (deadlines_at old db) (deadlines_at new db)) (sym is) (subst (λ (t : Timed). Loses m (deadlines_at old db) t key) (sym d.deadlines) (cleared_loses old mid db key cleared k))

  -- a key that a block names is there
  pub named_there : {X : Type 0} (old mid : Bases V) (db : ℕ) (key : List ℕ) (name : BlockRef) → Names (table_at old db) name → m name ≡ Some key → ChangesDeadlines old mid db
      → Lacks m (table_at mid db) key → X
  named_there old mid db key name n bytes c lacks = absurd (lacks.each n.at n.element (ap (λ (t : Table V). item t n.at) c.keys ∙ n.found) (ap m n.same ∙ bytes))

-- What was dropped before an item number of the deadlines.
pub record IsPurged {V : Type 0} (refs_of : Blocks → V → List BlockRef) (value_of : Blocks → V → Value) (IsSound : Limits → ℕ → Blocks → V → Type 0) (old now : Bases V) (m after : Blocks)
    (db moment n count : ℕ) : Type 0 where
  pub thins : Thins value_of old now m after db moment count
  pub in_time : (i : ℕ) (e : Element ℕ) → i < n → item (deadlines_at now db).table i ≡ Some e → moment ≤ e.value
  pub arranged : IsArranged IsSound now after
  pub changes : Changes m after (owned (refs_of m) old) (owned (refs_of after) now)
  pub few : count ≤ n

module _ {V : Type 0} {IsSound : Limits → ℕ → Blocks → V → Type 0} (refs_of : Blocks → V → List BlockRef) (value_of : Blocks → V → Value) (own : ReadsOwn refs_of value_of IsSound) where
  -- where databases are in order over changed blocks, they are intact
  pub intact_after : (old new : Bases V) (m after : Blocks) → Changes m after (owned (refs_of m) old) (owned (refs_of after) new) → IsArranged IsSound new after → IsIntact refs_of IsSound new after []
  intact_after old new m after p a = record { owned = λ r. omega (arith, changes_owned m after (owned (refs_of m) old) (owned (refs_of after) new) p r); arranged = a }

  pub same_owned : (old : Bases V) (m : Blocks) → IsIntact refs_of IsSound old m [] → Changes m m (owned (refs_of m) old) (owned (refs_of m) old)
  same_owned old m intact = changes_same m (owned (refs_of m) old) (λ r. omega (arith, intact.owned r))

  -- ---- no key leaves

  with_own : (old : Bases V) (m : Blocks) (db : ℕ) → means value_of db old m ≡ with_base (means value_of db old m) (base_means value_of m (base_at old db))
  with_own old m db = λ i. record { bases = λ number. each number i; selected = db }
    where
      each : (number : ℕ) → base_means value_of m (base_at old number) ≡ (with_base (means value_of db old m) (base_means value_of m (base_at old db))).bases number
      each number = elim (cases_eq number db) [
        | inl here ↦ ap (λ n. base_means value_of m (base_at old n)) here ∙ sym (cond-true _ _ _ (eq-eqb number db here))
        | inr other ↦ sym (cond-false _ _ _ (ne_eqb number db other))
      ]

  pub thins_none : (old : Bases V) (m : Blocks) (db moment : ℕ) → Thins value_of old old m m db moment 0
  thins_none old m db moment = record { world = with_own old m db; same = refl; counted = omega arith; part = λ i f found. found }

  pub thins_then : (a b c : Bases V) (m mid after : Blocks) (db moment k n : ℕ) → Thins value_of a b m mid db moment k → Thins value_of b c mid after db moment n
      → Thins value_of a c m after db moment (k + n)
  thins_then a b c m mid after db moment k n x y = record {
    world = y.world ∙ ap (λ w. with_base w (base_means value_of after (base_at c db))) x.world ∙ with_base_twice (means value_of db a m) _ _;
    same = y.same ∙ x.same;
    counted = omega (arith, x.counted, y.counted);
    part = λ i f found. x.part i f (y.part i f found);
  }

  -- ---- a key that is gone leaves

  module _ (old new : Bases V) (m after : Blocks) (db moment at : ℕ) (name : BlockRef) (a : IsArranged IsSound old m) (p : IsPassed (deadlines_at old db) at moment name) where
    -- the key is one of the table
    pub passed_named : Names (table_at old db) name
    passed_named = subst (Names (table_at old db)) p.named ((a.timed db).names at p.element p.found)

    passed_bytes : m name ≡ Some (bytes_at m name)
    passed_bytes = live_bytes m name (subst (λ r. IsSome (m r)) p.named ((a.timed db).keyed.live at p.element p.found))

    passed_moment : get (moments m (deadlines_at old db)) (bytes_at m name) ≡ Some p.element.value
    passed_moment = map_of_stands m (λ v. v) (deadlines_at old db).table at p.element (bytes_at m name) (a.timed db).keyed p.found (ap m p.named ∙ passed_bytes)

    passed_stands : (n : Names (table_at old db) name) → Stands m (table_at old db) n.at (bytes_at m name)
    passed_stands n = record { element = n.element; found = n.found; bytes = ap m n.same ∙ passed_bytes }

    passed_gone : get (live_keys (base_means value_of m (base_at old db)) moment) (bytes_at m name) ≡ None
    passed_gone = look_past refs_of value_of own old db moment m a (bytes_at m name) passed_named.at (passed_stands passed_named)
        (ap (in_time moment) passed_moment ∙ lt-leb moment p.element.value p.late)

    passed_some : (n : Names (table_at old db) name) → get (base_means value_of m (base_at old db)) (bytes_at m name) ≡ Some
        (record { value = value_of m n.element.value; deadline = Some p.element.value })
    passed_some n = look_stands refs_of value_of own old db m a (bytes_at m name) n.at n.element n.found (ap m n.same ∙ passed_bytes) (Some p.element.value) passed_moment

    module _ (w : means value_of db new after ≡ without (means value_of db old m) (bytes_at m name)) (l : Loses m (deadlines_at old db) (deadlines_at new db) (bytes_at m name)) where
      left_base : base_means value_of after (base_at new db) ≡ remove (base_means value_of m (base_at old db)) (bytes_at m name)
      left_base = ap (λ (x : World). x.bases db) w ∙ cond-true _ _ _ (eq-eqb db db refl)

      pub thins_one : Thins value_of old new m after db moment 1
      thins_one = record {
        world = w ∙ ap (with_base (means value_of db old m)) (sym left_base);
        same = ap (λ b. live_keys b moment) left_base ∙ live_removed (base_means value_of m (base_at old db)) moment (bytes_at m name)
            ∙ removed_same (live_keys (base_means value_of m (base_at old db)) moment) (bytes_at m name) passed_gone;
        counted = one_less (base_means value_of m (base_at old db)) (bytes_at m name) _ (passed_some passed_named) ∙ ap (λ b. 1 + len b) (sym left_base);
        part = l.part;
      }

  -- ---- the whole database

  pub purge_begins : (old : Bases V) (m : Blocks) (db moment : ℕ) → IsIntact refs_of IsSound old m [] → IsPurged refs_of value_of IsSound old old m m db moment 0 0
  purge_begins old m db moment intact = record {
    thins = thins_none old m db moment;
    in_time = λ i e below. absurd (omega (arith, below));
    arranged = intact.arranged;
    changes = same_owned old m intact;
    few = omega arith;
  }

  pub purge_next : (old now next : Bases V) (m mid after : Blocks) (db moment n count : ℕ) (dropped : Bool) (later : ℕ) → later ≡ count + cond dropped 1 0
      → IsPurged refs_of value_of IsSound old now m mid db moment n count → Thins value_of now next mid after db moment (cond dropped 1 0)
      → ((e : Element ℕ) → item (deadlines_at next db).table n ≡ Some e → moment ≤ e.value) → IsArranged IsSound next after
      → Changes mid after (owned (refs_of mid) now) (owned (refs_of after) next) → IsPurged refs_of value_of IsSound old next m after db moment (n + 1) later
  purge_next old now next m mid after db moment n count dropped later is p t here a c = record {
    thins = subst (Thins value_of old next m after db moment) (sym is) (thins_then old now next m mid after db moment count (cond dropped 1 0) p.thins t);
    in_time = λ i e below found. elim (cases_eq i n) [
      | inl same ↦ here e (ap (item (deadlines_at next db).table) (sym same) ∙ found)
      | inr other ↦ p.in_time i e (omega (arith, below, other)) (t.part i e found)
    ];
    arranged = a;
    changes = changes_then m mid after (owned (refs_of m) old) (owned (refs_of mid) now) (owned (refs_of after) next) p.changes c;
    few = (let one = at_most dropped in omega (arith, one, is, p.few));
  }
    where
      at_most : (b : Bool) → cond b 1 0 ≤ 1
      at_most true = omega arith
      at_most false = omega arith

  -- where no deadline is past each key is there
  module _ (bases : Bases V) (m : Blocks) (db moment : ℕ) (a : IsArranged IsSound bases m) (all : (i : ℕ) (e : Element ℕ) → item (deadlines_at bases db).table i ≡ Some e → moment ≤ e.value) where
    deadline_in_time : (key : List ℕ) → in_time moment (get (moments m (deadlines_at bases db)) key) ≡ true
    deadline_in_time key = elim (cases_key m (deadlines_at bases db).table key (a.timed db).keyed) [
      | inl s ↦ ap (in_time moment) (map_of_stands m (λ v. v) (deadlines_at bases db).table s.at s.element key (a.timed db).keyed s.found s.bytes)
          ∙ le-leb moment s.element.value (all s.at s.element s.found)
      | inr lacks ↦ ap (in_time moment) (moments_lack m (deadlines_at bases db) key (a.timed db).keyed lacks)
    ]

    pub all_there : live_keys (base_means value_of m (base_at bases db)) moment ≡ base_means value_of m (base_at bases db)
    all_there = live_all _ moment
        (λ key. ap (shown moment) (is key) ∙ seen (get (map_of m (value_of m) (table_at bases db)) key) (get (moments m (deadlines_at bases db)) key) (deadline_in_time key) ∙ sym (is key))
      where
        is : (key : List ℕ) → get (base_means value_of m (base_at bases db)) key ≡ entry_with (get (map_of m (value_of m) (table_at bases db)) key) (get (moments m (deadlines_at bases db)) key)
        is key = get_with (moments m (deadlines_at bases db)) (map_of m (value_of m) (table_at bases db)) key

        seen : (value : Option Value) (deadline : Option ℕ) → in_time moment deadline ≡ true → shown moment (entry_with value deadline) ≡ entry_with value deadline
        seen None deadline late = refl
        seen (Some value) deadline late = cond-true _ _ _ late

  pub purge_ends : (old now : Bases V) (m after : Blocks) (db moment n count : ℕ) → IsPurged refs_of value_of IsSound old now m after db moment n count
      → ((i : ℕ) → IsSome (item (deadlines_at old db).table i) → i < n)
      → means value_of db now after ≡ with_base (means value_of db old m) (live_keys ((means value_of db old m).bases db) moment)
  purge_ends old now m after db moment n count p below =
      p.thins.world ∙ ap (with_base (means value_of db old m))
      (sym (all_there now after db moment p.arranged (λ i e found. p.in_time i e (below i (ap is_some (p.thins.part i e found))) found)) ∙ p.thins.same)
