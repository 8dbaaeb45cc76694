-- Expiry steps: what a cycle found leaves, one key after another, and what a step and several steps keep.
use Rattle.std.proofs.Common.{◌≡◌, ◌≢◌, inl, inr, ℕ, ◌+◌, ◌%◌, ◌≤◌, List, [], ◌∷◌, length, take, slice_get, Some, refl, sym, ap, ◌∙◌, subst, arith}
use Rattle.object_codec.specs.declared.limits.Limits.{Limits}
use Rattle.std.proofs.Math.Seq.{take-length}
use Rattle.std.proofs.lemmas.Bool.{cases_eq, ne_eqb, cond-false}
use Rattle.blocks.specs.declared.BlockRef.{BlockRef}
use Rattle.blocks.specs.Blocks.{Blocks, bytes_at, times, Changes, IsOut}
use Rattle.blocks.proofs.Change.{changes_then}
use Rattle.rehash_dict.specs.Keyed.{key_tables}
use Rattle.plain_world.specs.Worlds.{Value, World, live, live_keys}
use Rattle.plain_world.proofs.Lives.{live_later}
use Rattle.expiry.specs.Timed.{KeepsCursor}
use Rattle.expiry.specs.Found.{IsGone, AreGone}
use Rattle.held.specs.declared.databases.Base.{Base}
use Rattle.held.specs.Table.{Table, Element, item, Keyed, map_of}
use Rattle.held.specs.Databases.{Bases, base_at, table_at, deadlines_at, base_means, with_deadlines, means, owned, SameSettings, ChangesDeadlines}
use Rattle.stored.specs.Owning.{ReadsOwn}
use Rattle.held.specs.Sound.{Names, IsTimed, IsArranged, IsIntact}
use Rattle.held.specs.Scopes.{Stayed, Within, no_key}
use Rattle.held.specs.Worlds.{without}
use Rattle.held.specs.Gone.{IsPassed, Loses, Thins}
use Rattle.held.specs.Expiry.{Shed, Drops, Thinned, Expires, found_in, cursor_behind}
use Rattle.held.proofs.Bases.{order_times, arranged_changed, owned_times}
use Rattle.held.proofs.Purging.{passed_named, thins_none, thins_one, thins_then, intact_after, same_owned}
use Rattle.held.proofs.Calls.{cleared_changes}
use Rattle.held.proofs.Dropping.{stayed_none, stayed_then, thinned_none, thinned_then}
use Rattle.held.proofs.Finds.{take_next, out_front}

-- what was dropped of a list so far
pub record IsDropped {V : Type 0} (refs_of : Blocks → V → List BlockRef) (value_of : Blocks → V → Value) (IsSound : Limits → ℕ → Blocks → V → Type 0) (found : List BlockRef)
    (old now : Bases V) (m after : Blocks) (db moment n : ℕ) : Type 0 where
  pub thins : Thins value_of old now m after db moment n
  pub thinned : Thinned refs_of (take n found) old now m after db
  pub cursor : KeepsCursor (deadlines_at old db) (deadlines_at now db)
  pub arranged : IsArranged IsSound now after
  pub changes : Changes m after (owned (refs_of m) old) (owned (refs_of after) now)

-- what several steps keep
pub record Outlives {V : Type 0} (refs_of : Blocks → V → List BlockRef) (value_of : Blocks → V → Value) (IsSound : Limits → ℕ → Blocks → V → Type 0) (old new : Bases V) (m after : Blocks)
    (moment : ℕ) : Type 0 where
  pub lives : (number : ℕ) → live (means value_of number new after) moment ≡ live (means value_of number old m) moment
  pub stayed : (db at : ℕ) (e : Element V) → item (table_at new db) at ≡ Some e → Stayed refs_of old m after db at e
  pub arranged : IsArranged IsSound new after
  pub changes : Changes m after (owned (refs_of m) old) (owned (refs_of after) new)
  pub limits : new.limits ≡ old.limits
  pub seed : new.seed ≡ old.seed

-- where a key may leave and nothing is written, the search goes on where it stood
cursor_stays : {V : Type 0} (refs_of : Blocks → V → List BlockRef) (old new : Bases V) (m after : Blocks) (db : ℕ) → Within refs_of (no_key db) old new m after
    → KeepsCursor (deadlines_at old db) (deadlines_at new db)
cursor_stays refs_of old new m after db w = elim (w.grew db) [ inl grows ↦ grows.cursor | inr anew ↦ absurd anew.0 ]

module _ {V : Type 0} {IsSound : Limits → ℕ → Blocks → V → Type 0} (refs_of : Blocks → V → List BlockRef) (value_of : Blocks → V → Value) (own : ReadsOwn refs_of value_of IsSound) where
  -- ---- the keys that were found leave

  -- of the keys that were found none is dropped at first
  pub drop_begins : (found : List BlockRef) (old : Bases V) (m : Blocks) (db moment : ℕ) → IsIntact refs_of IsSound old m [] → IsDropped refs_of value_of IsSound found old old m m db moment 0
  drop_begins found old m db moment intact = record {
    thins = thins_none refs_of value_of own old m db moment;
    thinned = thinned_none refs_of old m db;
    cursor = refl;
    arranged = intact.arranged;
    changes = same_owned refs_of value_of own old m intact;
  }

  module _ (found : List BlockRef) (old now : Bases V) (m mid : Blocks) (db moment n : ℕ) (name : BlockRef) (gone : AreGone (deadlines_at old db).table moment found)
      (once : (r : BlockRef) → times r found ≤ 1) (at_n : slice_get found n ≡ Some name) (d : IsDropped refs_of value_of IsSound found old now m mid db moment n) where
    -- the next key that was found is gone at the moment
    is_gone : IsGone (deadlines_at old db).table moment name
    is_gone = gone n name at_n

    -- the next key's deadline stands where it stood
    passed : IsPassed (deadlines_at now db) is_gone.at moment name
    passed = record {
      element = is_gone.element;
      found = d.thinned.deadlines.stay is_gone.at is_gone.element is_gone.found (subst (λ r. IsOut r (take n found)) (sym is_gone.names) (out_front found n name (once name) at_n));
      named = is_gone.names;
      late = is_gone.past;
    }

    -- the block that was found next names a key that still stands in its table
    pub next_named : Names (table_at now db) name
    next_named = passed_named refs_of value_of own now now mid mid db moment is_gone.at name d.arranged passed

    -- where some of the keys that were found were dropped, the databases are intact
    pub drop_intact : IsIntact refs_of IsSound old m [] → IsIntact refs_of IsSound now mid []
    drop_intact intact = intact_after refs_of value_of own old now m mid d.changes d.arranged

    -- where the next key that was found leaves with its deadline, one key more was dropped
    pub drop_next : (next : Bases V) (after : Blocks) → means value_of db next after ≡ without (means value_of db now mid) (bytes_at mid name)
        → Loses mid (deadlines_at now db) (deadlines_at next db) (bytes_at mid name)
        → Thinned refs_of (name ∷ []) now next mid after db → Within refs_of (no_key db) now next mid after → IsArranged IsSound next after
        → Changes mid after (owned (refs_of mid) now) (owned (refs_of after) next)
        → IsDropped refs_of value_of IsSound found old next m after db moment (n + 1)
    drop_next next after w l t within a p = record {
      thins = thins_then refs_of value_of own old now next m mid after db moment n 1 d.thins (thins_one refs_of value_of own now next mid after db moment is_gone.at name d.arranged passed w l);
      thinned = subst (λ xs. Thinned refs_of xs old next m after db) (sym (take_next found n name at_n)) (thinned_then refs_of (take n found) (name ∷ []) old now next m mid after db d.thinned t);
      cursor = cursor_stays refs_of now next mid after db within ∙ d.cursor;
      arranged = a;
      changes = changes_then m mid after (owned (refs_of m) old) (owned (refs_of mid) now) (owned (refs_of after) next) d.changes p;
    }

  -- where all keys that were found were dropped exactly these have left the database
  pub drop_ends : (found : List BlockRef) (old now : Bases V) (m after : Blocks) (db moment n : ℕ) → n ≡ length found → IsDropped refs_of value_of IsSound found old now m after db moment n
      → Thinned refs_of found old now m after db
  drop_ends found old now m after db moment n all d = subst (λ l. Thinned refs_of l old now m after db) (ap (λ k. take k found) all ∙ take-length found) d.thinned

  -- ---- one step

  module _ (old mid cycled : Bases V) (m : Blocks) (db moment : ℕ) (a : IsArranged IsSound old m) (here : db ≡ old.turn) (c : ChangesDeadlines old cycled db)
      (same : (deadlines_at cycled db).table ≡ (deadlines_at old db).table) (passes : mid ≡ record cycled { turn = (cycled.turn + 1) % 16 }) where
    -- where a cycle leaves the table of deadlines, each deadline is still that of a key
    cycled_timed : IsTimed m (table_at old db) (deadlines_at cycled db)
    cycled_timed = record {
      keyed = subst (Keyed m) (sym same) (a.timed db).keyed;
      names = λ at e found. (a.timed db).names at e (ap (λ (t : Table ℕ). item t at) (sym same) ∙ found);
      latest = λ at e found. (a.timed db).latest at e (ap (λ (t : Table ℕ). item t at) (sym same) ∙ found);
    }

    -- where a cycle leaves the table of deadlines, the databases stay arranged
    cycled_arranged : IsArranged IsSound cycled m
    cycled_arranged = arranged_changed refs_of value_of own old cycled db m c.base a (order_times m old cycled db a c cycled_timed (ap (λ (t : Table ℕ). t.seed) same))

    -- with the turn passed to the next database the databases are arranged
    pub passed_arranged : IsArranged IsSound mid m
    passed_arranged = subst (λ (b : Bases V). IsArranged IsSound b m) (sym passes) (record {
      keyed = cycled_arranged.keyed;
      timed = cycled_arranged.timed;
      values = cycled_arranged.values;
      sixteen = cycled_arranged.sixteen;
      limits = cycled_arranged.limits;
      seeds = cycled_arranged.seeds;
      turn = omega arith;
    })

    -- with the turn passed on the databases own what they owned
    passed_times : (r : BlockRef) → times r (owned (refs_of m) mid) ≡ times r (owned (refs_of m) old)
    passed_times r = ap (λ (b : Bases V). times r (owned (refs_of m) b)) passes ∙ owned_times (refs_of m) old cycled db c r

    -- with the turn passed on intact databases stay intact
    pub passed_intact : IsIntact refs_of IsSound old m [] → IsIntact refs_of IsSound mid m []
    passed_intact intact = record { owned = λ r. omega (arith, intact.owned r, passed_times r); arranged = passed_arranged }

    -- with the turn passed on each database but the cycled one is as it was
    mid_others : (number : ℕ) → number ≢ db → base_at mid number ≡ base_at old number
    mid_others number other = ap (λ (b : Bases V). base_at b number) passes ∙ c.base.others number other

    -- a cycle and the passing of the turn leave each key table
    mid_keys : (number : ℕ) → table_at mid number ≡ table_at old number
    mid_keys number = elim (cases_eq number db) [
      | inl at_db ↦ ap (table_at mid) at_db ∙ ap (λ (b : Bases V). table_at b db) passes ∙ c.keys ∙ ap (table_at old) (sym at_db)
      | inr other ↦ ap (λ (b : Base V). b.keys) (mid_others number other)
    ]

    -- a cycle and the passing of the turn leave each table of deadlines
    mid_table : (number : ℕ) → (deadlines_at mid number).table ≡ (deadlines_at old number).table
    mid_table number = elim (cases_eq number db) [
      | inl at_db ↦ ap (λ n. (deadlines_at mid n).table) at_db ∙ ap (λ (b : Bases V). (deadlines_at b db).table) passes ∙ same ∙ ap (λ n. (deadlines_at old n).table) (sym at_db)
      | inr other ↦ ap (λ (b : Base V). b.deadlines.table) (mid_others number other)
    ]

    -- a cycle and the passing of the turn leave what each database means
    mid_means : (number : ℕ) → base_means value_of m (base_at mid number) ≡ base_means value_of m (base_at old number)
    mid_means number = elim (cases_eq number db) [
      | inl at_db ↦ subst (λ n. base_means value_of m (base_at mid n) ≡ base_means value_of m (base_at old n)) (sym at_db) alike
      | inr other ↦ ap (base_means value_of m) (mid_others number other)
    ]
      where
        alike : base_means value_of m (base_at mid db) ≡ base_means value_of m (base_at old db)
        alike = λ i. with_deadlines (map_of m (value_of m) (mid_keys db i)) (map_of m (λ v. v) (mid_table db i))

    module _ (new : Bases V) (after : Blocks) (found : List BlockRef) (t : Thinned refs_of found mid new m after db) where
      -- the keys that leave after the turn was passed on are those that left since before the cycle
      old_thinned : Thinned refs_of found old new m after db
      old_thinned = record {
        others = λ number other. t.others number other ∙ mid_others number other;
        keys = subst (λ (k : Table V). Drops found k (table_at new db)) (mid_keys db) t.keys;
        deadlines = subst (λ (k : Table ℕ). Drops found k (deadlines_at new db).table) (mid_table db) t.deadlines;
        keys_shed = λ number. subst (λ (k : Table V). Shed (key_tables m k) (key_tables after (table_at new number))) (mid_keys number) (t.keys_shed number);
        deadlines_shed = λ number. subst (λ (k : Table ℕ). Shed (key_tables m k) (key_tables after (deadlines_at new number).table)) (mid_table number) (t.deadlines_shed number);
        stayed = λ number at e left. (let s = t.stayed number at e left in record { stood = ap (λ (k : Table V). item k at) (sym (mid_keys number)) ∙ s.stood; bytes = s.bytes; refs = s.refs });
      }

      -- where the keys that a cycle finds leave, the databases made one expiry step
      pub step_expires : found ≡ found_in (deadlines_at old db) moment → (deadlines_at cycled db).cursor ≡ cursor_behind (deadlines_at old db) moment
          → KeepsCursor (deadlines_at mid db) (deadlines_at new db) → SameSettings mid new → Expires refs_of moment old new m after
      step_expires finds moved stays settings = record {
        thinned = subst (λ d. Thinned refs_of (found_in (deadlines_at old d) moment) old new m after d) here (subst (λ l. Thinned refs_of l old new m after db) finds old_thinned);
        cursor = subst (λ d. (deadlines_at new d).cursor ≡ cursor_behind (deadlines_at old d) moment) here (stays ∙ ap (λ (b : Bases V). (deadlines_at b db).cursor) passes ∙ moved);
        turn = settings.turn ∙ ap (λ (b : Bases V). b.turn) passes ∙ ap (λ n. (n + 1) % 16) c.base.settings.turn;
        limits = settings.limits ∙ ap (λ (b : Bases V). b.limits) passes ∙ c.base.settings.limits;
        seed = settings.seed ∙ ap (λ (b : Bases V). b.seed) passes ∙ c.base.settings.seed;
      }

      -- a change of the store from what is owned after the cycle is one from what was owned before it
      pub step_changes : IsIntact refs_of IsSound old m [] → Changes m after (owned (refs_of m) mid) (owned (refs_of after) new) → Changes m after (owned (refs_of m) old) (owned (refs_of after) new)
      step_changes intact p =
          changes_then m m after (owned (refs_of m) old) (owned (refs_of m) mid) (owned (refs_of after) new)
          (subst (λ (b : Bases V). Changes m m (owned (refs_of m) old) (owned (refs_of m) b)) (sym passes) (cleared_changes refs_of value_of own old cycled cycled db m intact c refl)) p

      -- an expiry step leaves all that lives at its moment, whichever database is selected
      pub step_lives : (n : ℕ) → Thins value_of mid new m after db moment n → (number : ℕ) → live (means value_of number new after) moment ≡ live (means value_of number old m) moment
      step_lives n thins number = λ i. record { bases = λ other. each other i; selected = number }
        where
          each : (other : ℕ) → live_keys (base_means value_of after (base_at new other)) moment ≡ live_keys (base_means value_of m (base_at old other)) moment
          each other = elim (cases_eq other db) [
            | inl at_db ↦ subst (λ k. live_keys (base_means value_of after (base_at new k)) moment ≡ live_keys (base_means value_of m (base_at old k)) moment) (sym at_db)
                (thins.same ∙ ap (λ b. live_keys b moment) (mid_means db))
            | inr apart ↦ ap (λ b. live_keys b moment) (ap (λ (w : World). w.bases other) thins.world ∙ cond-false _ _ _ (ne_eqb other db apart) ∙ mid_means other)
          ]

  -- ---- several steps

  -- where no step was made all is kept
  pub outlives_none : (old : Bases V) (m : Blocks) (moment : ℕ) → IsIntact refs_of IsSound old m [] → Outlives refs_of value_of IsSound old old m m moment
  outlives_none old m moment intact = record {
    lives = λ number. refl;
    stayed = stayed_none refs_of old m;
    arranged = intact.arranged;
    changes = same_owned refs_of value_of own old m intact;
    limits = refl;
    seed = refl;
  }

  -- what several steps keep is kept with one more that leaves what lives at the moment
  pub outlives_next : (a b c : Bases V) (m mid after : Blocks) (moment : ℕ) → Outlives refs_of value_of IsSound a b m mid moment → Expires refs_of moment b c mid after
      → ((number : ℕ) → live (means value_of number c after) moment ≡ live (means value_of number b mid) moment) → IsArranged IsSound c after
      → Changes mid after (owned (refs_of mid) b) (owned (refs_of after) c) → Outlives refs_of value_of IsSound a c m after moment
  outlives_next a b c m mid after moment o e lives arranged changes = record {
    lives = λ number. lives number ∙ o.lives number;
    stayed = λ db at x found. (let last = e.thinned.stayed db at x found in stayed_then refs_of a b m mid after db at x last (o.stayed db at x last.stood));
    arranged = arranged;
    changes = changes_then m mid after (owned (refs_of m) a) (owned (refs_of mid) b) (owned (refs_of after) c) o.changes changes;
    limits = e.limits ∙ o.limits;
    seed = e.seed ∙ o.seed;
  }

  -- what lives at a moment decides what lives later
  pub lives_later : (old new : Bases V) (m after : Blocks) (moment later number : ℕ) → live (means value_of number new after) moment ≡ live (means value_of number old m) moment
      → moment ≤ later → live (means value_of number new after) later ≡ live (means value_of number old m) later
  lives_later old new m after moment later number same before =
      sym (live_later (means value_of number new after) moment later before) ∙ ap (λ w. live w later) same ∙ live_later (means value_of number old m) moment later before
