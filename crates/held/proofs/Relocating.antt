-- Blocks that move, and what the databases mean by them.
use Rattle.std.proofs.Common.{slice_get, ◌≡◌, ◌≢◌, inl, inr, ℕ, ◌+◌, ◌-◌, ◌<◌, ◌≤◌, false, List, [], ◌∷◌, Option, Some, None, IsSome, refl, sym, ap, ◌∙◌, subst, arith}
use Rattle.object_codec.specs.declared.limits.Limits.{Limits}
use Rattle.std.specs.Prelude.{IfSome, count_by}
use Rattle.std.proofs.lemmas.Bool.{cases_eq, cond-false}
use Rattle.blocks.specs.declared.BlockRef.{BlockRef}
use Rattle.blocks.specs.declared.Moved.{Moved}
use Rattle.blocks.specs.Blocks.{Blocks, times, Changes, Owned}
use Rattle.blocks.specs.Slabs.{Heap, wants, Calmer}
use Rattle.blocks.proofs.Refs.{cases_ref}
use Rattle.blocks.proofs.Change.{one, cases_in, live_once, changes_same, changes_then, changes_beside, owned_others}
use Rattle.object_codec.specs.Limits.{AreInRange}
use Rattle.plain_world.specs.Worlds.{Value}
use Rattle.rehash_dict.specs.Keyed.{key_tables}
use Rattle.rehash_dict.specs.Steps.{Renames}
use Rattle.rehash_dict.proofs.Keys.{keyed_frame}
use Rattle.rehash_dict.proofs.MapOf.{map_of_same, map_of_frame, map_of_renames, refs_changed}
use Rattle.expiry.specs.Timed.{Timed, moments, KeepsCursor}
use Rattle.held.specs.declared.databases.Base.{Base}
use Rattle.held.specs.Table.{Table, Element, item, key_at, Stands, Lacks, Keyed, Swaps, own_of, map_of}
use Rattle.held.specs.Databases.{Bases, base_at, table_at, deadlines_at, owned, base_means, with_deadlines, ChangesBase, ChangesTable, ChangesDeadlines}
use Rattle.stored.specs.Owning.{ReadsOwn, RestsOn, IsBlank}
use Rattle.held.specs.Sound.{Names, IsTimed, IsArranged, IsIntact}
use Rattle.held.specs.Relocation.{Relocates, Replaces, PassesName, PassesElement}
use Rattle.collection_walk.specs.Marks.{is_passed}
use Rattle.rehash_dict.specs.Tables.{Tables}
use Rattle.stored.specs.Passing.{Marks, passed_of, IsBounded, PassesPart}
use Rattle.held.proofs.Timing.{some_same, timed_frame, timed_swaps}
use Rattle.held.proofs.Bases.{owned_same, owned_out, owned_changed, owned_swaps, kept_inside, base_then}
use Rattle.held.proofs.Tables.{key_itself}
use Rattle.held.proofs.Calls.{item_owned, over_intact, settings_then}

-- a reference that stands in a list of one is that one
in_one : (r at : BlockRef) → 0 < times r (at ∷ []) → at ≡ r
in_one r at h = elim (cases_ref at r) [
  | inl same ↦ same
  | inr other ↦ absurd (let none : one r at ≡ 0 = cond-false _ _ _ other in omega (arith, none, h))
]

module _ {V : Type 0} {IsSound : Limits → ℕ → Blocks → V → Type 0} (refs_of : Blocks → V → List BlockRef) (value_of : Blocks → V → Value) (own : ReadsOwn refs_of value_of IsSound) where
  -- what a database is where blocks moved
  pub record Renewed (m after : Blocks) (was now : Base V) : Type 0 where
    pub keyed : Keyed after now.keys
    pub timed : IsTimed after now.keys now.deadlines
    pub values : map_of after (value_of after) now.keys ≡ map_of m (value_of m) was.keys
    pub times : moments after now.deadlines ≡ moments m was.deadlines
    pub tables : key_tables after now.keys ≡ key_tables m was.keys
    pub times_tables : key_tables after now.deadlines.table ≡ key_tables m was.deadlines.table
    pub cursor : KeepsCursor was.deadlines now.deadlines
    pub sound : (limits : Limits) (seed : ℕ) → ((at : ℕ) (e : Element V) → item was.keys at ≡ Some e → IsSound limits seed m e.value) → (at : ℕ) (e : Element V) → item now.keys at ≡ Some e
        → IsSound limits seed after e.value
    pub seed : now.keys.seed ≡ was.keys.seed
    pub times_seed : now.deadlines.table.seed ≡ was.deadlines.table.seed

  -- the deadlines of the database whose element's blocks moved
  pub record TimesMoved (m after : Blocks) (keys : Table V) (was now : Timed) : Type 0 where
    pub timed : IsTimed after keys now
    pub times : moments after now ≡ moments m was
    pub tables : key_tables after now.table ≡ key_tables m was.table
    pub cursor : KeepsCursor was now
    pub seed : now.table.seed ≡ was.table.seed

  -- an element's blocks stay
  abbrev Stay : Blocks → Blocks → Element V → Type 0
  Stay m after e = (r : BlockRef) → 0 < times r (e.key ∷ refs_of m e.value) → after r ≡ m r

  -- where an element's blocks stay its key has the bytes that it had
  name_stays : (m after : Blocks) (e : Element V) → Stay m after e → after e.key ≡ m e.key
  name_stays m after e stay = stay e.key (omega (arith, key_itself e.key))

  -- where an element's blocks stay its value means what it meant
  value_stays : (m after : Blocks) (e : Element V) → Stay m after e → value_of after e.value ≡ value_of m e.value
  value_stays m after e stay = own.means m after e.value (λ r isin. stay r (omega (arith, isin)))

  -- and owns what it owned
  refs_stay : (m after : Blocks) (e : Element V) → Stay m after e → refs_of after e.value ≡ refs_of m e.value
  refs_stay m after e stay = own.refs m after e.value (λ r isin. stay r (omega (arith, isin)))

  -- and stays sound
  sound_stays : (limits : Limits) (seed : ℕ) (m after : Blocks) (e : Element V) → Stay m after e → IsSound limits seed m e.value → IsSound limits seed after e.value
  sound_stays limits seed m after e stay sound = own.stays limits seed m after e.value (λ r isin. stay r (omega (arith, isin))) sound

  -- a database none of whose blocks changed
  renewed_same : (m after : Blocks) (base : Base V) → Keyed m base.keys → IsTimed m base.keys base.deadlines → ((at : ℕ) (e : Element V) → item base.keys at ≡ Some e → Stay m after e)
      → Renewed m after base base
  renewed_same m after base k t stay =
      let keyed = keyed_frame m after base.keys k (λ at e found. name_stays m after e (stay at e found)) in
      let timed = timed_frame m after base.keys base.deadlines t (λ at e found. name_stays m after e (stay at e found)) in
      record {
        keyed = keyed.0;
        timed = timed.0;
        values = map_of_frame m after (value_of m) (value_of after) base.keys k keyed.0 (λ at e found. (name_stays m after e (stay at e found), value_stays m after e (stay at e found)));
        times = timed.1;
        tables = keyed.1;
        times_tables =
            (keyed_frame m after base.deadlines.table t.keyed
            (λ at f found. (let n = t.names at f found in subst (λ r. after r ≡ m r) n.same (name_stays m after n.element (stay n.at n.element n.found))))).1;
        cursor = refl;
        sound = λ limits seed all at e found. sound_stays limits seed m after e (stay at e found) (all at e found);
        seed = refl;
        times_seed = refl;
      }

  module _ (old new : Bases V) (db : ℕ) (m after : Blocks) (a : IsArranged IsSound old m) (c : ChangesBase old new db) (here : Renewed m after (base_at old db) (base_at new db))
      (apart : (number at : ℕ) (e : Element V) → number ≢ db → item (table_at old number) at ≡ Some e → Stay m after e) where
    -- where one database is renewed and no block of the others changed, each database is renewed
    each : (number : ℕ) → Renewed m after (base_at old number) (base_at new number)
    each number = elim (cases_eq number db) [
      | inl same ↦ subst (λ n. Renewed m after (base_at old n) (base_at new n)) (sym same) here
      | inr other ↦ subst (Renewed m after (base_at old number)) (sym (c.others number other))
          (renewed_same m after (base_at old number) (a.keyed number) (a.timed number) (λ at e found. apart number at e other found))
    ]

    -- all databases, where the blocks of one moved
    pub relocates_one : Changes m after (owned (refs_of m) old) (owned (refs_of after) new) → Relocates refs_of value_of IsSound old new m after
    relocates_one p = record {
      means = λ number i. record { bases = λ n. both n i; selected = number };
      arranged = record {
        keyed = λ number. (each number).keyed;
        timed = λ number. (each number).timed;
        values = λ number at e found. subst (λ limits. IsSound limits new.seed after e.value) (sym c.settings.limits)
            (subst (λ seed. IsSound old.limits seed after e.value) (sym c.settings.seed) ((each number).sound old.limits old.seed (a.values number) at e found));
        sixteen = c.count ∙ a.sixteen;
        limits = subst AreInRange (sym c.settings.limits) a.limits;
        turn = subst (λ n. n < 16) (sym c.settings.turn) a.turn;
        seeds = λ number within. record {
          keys = (each number).seed ∙ (a.seeds number within).keys ∙ sym c.settings.seed;
          deadlines = (each number).times_seed ∙ (a.seeds number within).deadlines
              ∙ sym c.settings.seed;
        };
      };
      changes = p;
      settings = c.settings;
      keys = λ number. (each number).tables;
      deadlines = λ number. (each number).times_tables;
      cursors = λ number. (each number).cursor;
    }
      where
        both : (n : ℕ) → base_means value_of after (base_at new n) ≡ base_means value_of m (base_at old n)
        both n = λ i. with_deadlines ((each n).values i) ((each n).times i)

  -- one move after another
  pub relocates_then : (a b c : Bases V) (m mid after : Blocks) → Relocates refs_of value_of IsSound a b m mid → Relocates refs_of value_of IsSound b c mid after
      → Relocates refs_of value_of IsSound a c m after
  relocates_then a b c m mid after p q = record {
    means = λ number. q.means number ∙ p.means number;
    arranged = q.arranged;
    changes = changes_then m mid after (owned (refs_of m) a) (owned (refs_of mid) b) (owned (refs_of after) c) p.changes q.changes;
    settings = settings_then refs_of value_of own a b c p.settings q.settings;
    keys = λ number. q.keys number ∙ p.keys number;
    deadlines = λ number. q.deadlines number ∙ p.deadlines number;
    cursors = λ number. q.cursors number ∙ p.cursors number;
  }

  -- nothing moved
  pub relocates_none : (bases : Bases V) (m : Blocks) → IsIntact refs_of IsSound bases m [] → Relocates refs_of value_of IsSound bases bases m m
  relocates_none bases m intact = record {
    means = λ number. refl;
    arranged = intact.arranged;
    changes = changes_same m (owned (refs_of m) bases) (λ r. omega (arith, intact.owned r));
    settings = record { limits = refl; seed = refl; turn = refl };
    keys = λ number. refl;
    deadlines = λ number. refl;
    cursors = λ number. refl;
  }

  -- ---- the block of a key moves

  module _ (old new : Bases V) (db at : ℕ) (m after : Blocks) (intact : IsIntact refs_of IsSound old m []) (c : ChangesBase old new db) (name ref : BlockRef)
      (keys : Renames (table_at old db) (table_at new db) at ref) (named : keys.element.key ≡ name) (bytes : after ref ≡ m name) (p : Changes m after (name ∷ []) (ref ∷ [])) where
    -- the element, named by the new block
    abbrev moved : Element V
    moved = record keys.element { key = ref }

    -- the databases own the key's new block in place of its old one, and else what they owned
    balance : (r : BlockRef) → times r (owned (refs_of m) new) + times r (name ∷ []) ≡ times r (owned (refs_of m) old) + times r (ref ∷ [])
    balance r =
        let there : times r (own_of (refs_of m) (item (table_at old db) at)) ≡ times r (name ∷ refs_of m keys.element.value) = ap (λ o. times r (own_of (refs_of m) o)) keys.found
        ∙ ap (λ k. times r (k ∷ refs_of m keys.element.value)) named in
        omega (arith, there, refs_changed (refs_of m) (table_at old db) (table_at new db) at (Some moved) keys.updates r, owned_changed (refs_of m) old new db c r)

    -- what was owned and is owned has the bytes that it had
    stay : (r : BlockRef) → 0 < times r (owned (refs_of m) old) → 0 < times r (owned (refs_of m) new) → after r ≡ m r
    stay r was is = elim (cases_in r (name ∷ [])) [
      | inl out ↦ owned_others m after (name ∷ []) (ref ∷ []) (owned (refs_of m) old) (λ q. omega (arith, intact.owned q)) p r was out
      | inr isin ↦
          (let to : ref ≡ r = in_one r ref (omega (arith, balance r, is, isin, intact.owned r, live_once m r)) in
          ap after (sym to) ∙ bytes ∙ ap m (in_one r name isin))
    ]

    -- the blocks of an element that stands at its item number before and after the move stay
    stay_other : (number other : ℕ) (e : Element V) → item (table_at old number) other ≡ Some e → item (table_at new number) other ≡ Some e → Stay m after e
    stay_other number other e was is r isin = stay r (omega (arith, isin, item_owned (refs_of m) old number other e r was)) (omega (arith, isin, item_owned (refs_of m) new number other e r is))

    -- in the key's own database the blocks of each other element stay
    stay_here : (other : ℕ) (e : Element V) → other ≢ at → item (table_at old db) other ≡ Some e → Stay m after e
    stay_here other e apart found = stay_other db other e found (keys.updates.others other apart ∙ found)

    -- in each other database the blocks of every element stay
    stay_apart : (number other : ℕ) (e : Element V) → number ≢ db → item (table_at old number) other ≡ Some e → Stay m after e
    stay_apart number other e apart found = stay_other number other e found (ap (λ (b : Base V). item b.keys other) (c.others number apart) ∙ found)

    -- the blocks of the value of the key whose block moved stay
    stay_value : (r : BlockRef) → 0 < times r (refs_of m keys.element.value) → after r ≡ m r
    stay_value r isin = stay r (omega (arith, isin, item_owned (refs_of m) old db at keys.element r keys.found)) (omega (arith, isin, item_owned (refs_of m) new db at moved r keys.updates.changed))

    -- the value of the key whose block moved means what it meant
    value_here : value_of after keys.element.value ≡ value_of m keys.element.value
    value_here = own.means m after keys.element.value
        (λ r isin. stay r (omega (arith, isin, item_owned (refs_of m) old db at keys.element r keys.found))
        (omega (arith, isin, item_owned (refs_of m) new db at moved r keys.updates.changed)))

    -- the table's keys stay live blocks whose bytes differ, each in the bucket where it stood
    keyed_here : Keyed after (table_at new db) × (key_tables after (table_at new db) ≡ key_tables m (table_at old db))
    keyed_here = keys.keyed m after (intact.arranged.keyed db) (bytes ∙ ap m (sym named)) (λ other e apart found. name_stays m after e (stay_here other e apart found))

    -- the key table means the keys and values that it meant
    values_here : map_of after (value_of after) (table_at new db) ≡ map_of m (value_of m) (table_at old db)
    values_here =
        map_of_same m after (value_of m) (value_of after) (table_at old db) (table_at new db) (intact.arranged.keyed db) keyed_here.0
        (λ i e there. elim (cases_eq i at) [
          | inl here ↦
              (let same : e ≡ keys.element = some_same (item (table_at old db) at) _ _ (ap (item (table_at old db)) (sym here) ∙ there) keys.found in
              (at, moved, keys.updates.changed, bytes ∙ ap m (sym named) ∙ ap (λ (x : Element V). m x.key) (sym same), value_here ∙ ap (λ (x : Element V). value_of m x.value) (sym same)))
          | inr other ↦ (i, e, keys.updates.others i other ∙ there, name_stays m after e (stay_here i e other there), value_stays m after e (stay_here i e other there))
        ])
        (λ i f there. elim (cases_eq i at) [
          | inl here ↦
              (let same : f ≡ moved = some_same (item (table_at new db) at) _ _ (ap (item (table_at new db)) (sym here) ∙ there) keys.updates.changed in
              (at, keys.element, keys.found, ap (λ (x : Element V). after x.key) same ∙ bytes ∙ ap m (sym named)))
          | inr other ↦ (let was = sym (keys.updates.others i other) ∙ there in (i, f, was, name_stays m after f (stay_here i f other was)))
        ])

    -- each value of the database stays sound
    sound_here : (limits : Limits) (seed : ℕ) → ((i : ℕ) (e : Element V) → item (table_at old db) i ≡ Some e → IsSound limits seed m e.value) → (i : ℕ) (f : Element V)
        → item (table_at new db) i ≡ Some f → IsSound limits seed after f.value
    sound_here limits seed all i f there = elim (cases_eq i at) [
      | inl here ↦
          (let same : f ≡ moved = some_same (item (table_at new db) at) _ _ (ap (item (table_at new db)) (sym here) ∙ there) keys.updates.changed in
          subst (λ (x : Element V). IsSound limits seed after x.value) (sym same)
          (own.stays limits seed m after keys.element.value
          (λ r isin. stay r (omega (arith, isin, item_owned (refs_of m) old db at keys.element r keys.found))
          (omega (arith, isin, item_owned (refs_of m) new db at moved r keys.updates.changed))) (all at keys.element keys.found)))
      | inr other ↦ (let was = sym (keys.updates.others i other) ∙ there in sound_stays limits seed m after f (stay_here i f other was) (all i f was))
    ]

    -- an element that is named by the block that moves is the one that it moves for
    named_here : (i : ℕ) (f : Element ℕ) → item (deadlines_at old db).table i ≡ Some f → (n : Names (table_at old db) f.key) → n.at ≡ at → f.key ≡ name
    named_here i f found n here = sym n.same ∙ ap (λ (x : Element V). x.key) (some_same (item (table_at old db) at) _ _ (ap (item (table_at old db)) (sym here) ∙ n.found) keys.found) ∙ named

    -- a deadline of another key
    other_timed : (i : ℕ) (f : Element ℕ) → item (deadlines_at old db).table i ≡ Some f → m f.key ≢ m name → (after f.key ≡ m f.key) × Names (table_at new db) f.key
    other_timed i f found apart =
        let n = (intact.arranged.timed db).names i f found in
        let off : n.at ≢ at = λ here. apart (ap m (named_here i f found n here)) in (
          subst (λ r. after r ≡ m r) n.same (name_stays m after n.element (stay_here n.at n.element off n.found)),
          record { at = n.at; element = n.element; found = keys.updates.others n.at off ∙ n.found; same = n.same },
        )

    -- the key has no deadline
    pub times_alone : (key : List ℕ) → m name ≡ Some key → deadlines_at new db ≡ deadlines_at old db → Lacks m (deadlines_at old db).table key
        → TimesMoved m after (table_at new db) (deadlines_at old db) (deadlines_at new db)
    times_alone key is same lacks = subst (TimesMoved m after (table_at new db) (deadlines_at old db)) (sym same) (record {
      timed = record { keyed = frame.0; names = λ i f found. (kept i f found).1; latest = t.latest };
      times = map_of_frame m after (λ v. v) (λ v. v) (deadlines_at old db).table t.keyed frame.0 (λ i f found. ((kept i f found).0, refl));
      tables = frame.1;
      cursor = refl;
      seed = refl;
    })
      where
        t : IsTimed m (table_at old db) (deadlines_at old db)
        t = intact.arranged.timed db

        kept : (i : ℕ) (f : Element ℕ) → item (deadlines_at old db).table i ≡ Some f → (after f.key ≡ m f.key) × Names (table_at new db) f.key
        kept i f found = other_timed i f found (λ e. lacks.each i f found (e ∙ is))

        frame : Keyed after (deadlines_at old db).table × (key_tables after (deadlines_at old db).table ≡ key_tables m (deadlines_at old db).table)
        frame = keyed_frame m after (deadlines_at old db).table t.keyed (λ i f found. (kept i f found).0)

    -- its deadline is named by the same block
    pub times_with : (key : List ℕ) (number : ℕ) → m name ≡ Some key → Stands m (deadlines_at old db).table number key
        → Renames (deadlines_at old db).table (deadlines_at new db).table number ref → KeepsCursor (deadlines_at old db) (deadlines_at new db)
        → TimesMoved m after (table_at new db) (deadlines_at old db) (deadlines_at new db)
    times_with key number is stands r cursor = record {
      timed = record {
        keyed = keyed.0;
        names = λ i f found. elim (cases_eq i number) [
          | inl here ↦
              (let one' : f ≡ record r.element { key = ref } = some_same (item (deadlines_at new db).table number) _ _ (ap (item (deadlines_at new db).table) (sym here) ∙ found) r.updates.changed in
              record { at = at; element = moved; found = keys.updates.changed; same = ap (λ (x : Element ℕ). x.key) (sym one') })
          | inr other ↦ (let was = sym (r.updates.others i other) ∙ found in (kept i f other was).1)
        ];
        latest = λ i f found. elim (cases_eq i number) [
          | inl here ↦
              (let one' : f ≡ record r.element { key = ref } = some_same (item (deadlines_at new db).table number) _ _ (ap (item (deadlines_at new db).table) (sym here) ∙ found) r.updates.changed in
              subst (λ d. d < 9223372036854775808) (ap (λ (x : Element ℕ). x.value) (sym one')) (t.latest number r.element r.found))
          | inr other ↦ t.latest i f (sym (r.updates.others i other) ∙ found)
        ];
      };
      times = map_of_renames m after (λ v. v) (deadlines_at old db).table (deadlines_at new db).table number ref t.keyed keyed.0 r (bytes ∙ sym same_bytes)
          (λ i f other found. (kept i f other found).0);
      tables = keyed.1;
      cursor = cursor;
      seed = r.seed;
    }
      where
        t : IsTimed m (table_at old db) (deadlines_at old db)
        t = intact.arranged.timed db

        same_bytes : m r.element.key ≡ m name
        same_bytes = ap (λ (x : Element ℕ). m x.key) (some_same (item (deadlines_at old db).table number) _ _ r.found stands.found) ∙ stands.bytes ∙ sym is

        kept : (i : ℕ) (f : Element ℕ) → i ≢ number → item (deadlines_at old db).table i ≡ Some f → (after f.key ≡ m f.key) × Names (table_at new db) f.key
        kept i f other found = other_timed i f found (λ e. other (t.keyed.apart i number f r.element found r.found (e ∙ sym same_bytes)))

        keyed : Keyed after (deadlines_at new db).table × (key_tables after (deadlines_at new db).table ≡ key_tables m (deadlines_at old db).table)
        keyed = r.keyed m after t.keyed (bytes ∙ sym same_bytes) (λ i f other found. (kept i f other found).0)

    -- each value owns what it owned
    new_refs : (number i : ℕ) (f : Element V) → item (table_at new number) i ≡ Some f → refs_of after f.value ≡ refs_of m f.value
    new_refs number i f there = elim (cases_eq number db) [
      | inl here ↦ elim (cases_eq i at) [
        | inl same_at ↦
            (let same : f ≡ moved = some_same (item (table_at new db) at) _ _ (ap (item (table_at new db)) (sym same_at) ∙ subst (λ n. item (table_at new n) i ≡ Some f) here there)
            keys.updates.changed in
            subst (λ (x : Element V). refs_of after x.value ≡ refs_of m x.value) (sym same) (own.refs m after keys.element.value stay_value))
        | inr other ↦ refs_stay m after f (stay_here i f other (sym (keys.updates.others i other) ∙ subst (λ n. item (table_at new n) i ≡ Some f) here there))
      ]
      | inr away ↦ refs_stay m after f (stay_apart number i f away (ap (λ (b : Base V). item b.keys i) (sym (c.others number away)) ∙ there))
    ]

    -- that a key's block moves is a relocation of the databases, where the deadlines follow it
    pub name_relocates : TimesMoved m after (table_at new db) (deadlines_at old db) (deadlines_at new db) → Relocates refs_of value_of IsSound old new m after
    name_relocates t =
        relocates_one old new db m after intact.arranged c
        (record {
          keyed = keyed_here.0;
          timed = t.timed;
          values = values_here;
          times = t.times;
          tables = keyed_here.1;
          times_tables = t.tables;
          cursor = t.cursor;
          sound = sound_here;
          seed =
              keys.seed;
          times_seed = t.seed;
        })
        stay_apart
        (changes_beside m after (name ∷ []) (ref ∷ []) (owned (refs_of m) old) (owned (refs_of after) new) p (λ r. omega (arith, intact.owned r))
        (λ r. times r (owned (refs_of m) old) - times r (name ∷ [])) (λ r. omega (arith, among r))
        (λ r. omega (arith, among r, balance r, ap (times r) (owned_same (refs_of m) (refs_of after) new new_refs))))
      where
        among : (r : BlockRef) → times r (name ∷ []) ≤ times r (owned (refs_of m) old)
        among r =
            let there : times r (keys.element.key ∷ refs_of m keys.element.value) ≡ times r (name ∷ refs_of m keys.element.value) = ap (λ k. times r (k ∷ refs_of m keys.element.value)) named in
            omega (arith, there, item_owned (refs_of m) old db at keys.element r keys.found)

    -- the element with the new block stands in place of the old one, and all others stay
    pub name_replaces : Replaces old new db at keys.element moved
    name_replaces = record {
      found = keys.found;
      stands = keys.updates.changed;
      others = λ number other apart. elim apart [
        | inl off ↦ ap (λ (b : Base V). item b.keys other) (c.others number off)
        | inr off ↦ elim (cases_eq number db) [
          | inl here ↦ subst (λ n. item (table_at new n) other ≡ item (table_at old n) other) (sym here) (keys.updates.others other off)
          | inr away ↦ ap (λ (b : Base V). item b.keys other) (c.others number away)
        ]
      ];
    }

    -- where the new block wants no move, the block of the element's key was passed
    pub name_passes : (later : Heap) → wants later ref ≡ false → PassesName refs_of m after later old new db at
    name_passes later calm = record {
      tops = λ number. elim (cases_eq number db)
          [ inl here ↦ subst (λ n. (table_at new n).top ≡ (table_at old n).top) (sym here) keys.top | inr away ↦ ap (λ (b : Base V). b.keys.top) (c.others number away) ];
      was =
          keys.element;
      now = moved;
      replaces = name_replaces;
      same_value = refl;
      stays = stay_value;
      apart =
          λ number other e off found r isin. elim off [
            | inl away ↦ stay_apart number other e away found r (omega (arith, isin))
            | inr off'
                ↦ elim (cases_eq number db) [
                  | inl here ↦ stay_here other e off' (subst (λ n. item (table_at old n) other ≡ Some e) here found) r (omega (arith, isin))
                  | inr away
                      ↦ stay_apart number other e away found r (omega (arith, isin))
                ]
          ];
      calm = calm;
    }

  -- the element's key block, as it was read
  name_is : (t u : Table V) (at : ℕ) (name ref : BlockRef) (keys : Renames t u at ref) → key_at (item t at) ≡ Some name → keys.element.key ≡ name
  name_is t u at name ref keys is = some_same (key_at (item t at)) _ _ (ap key_at keys.found) is

  -- the key has no deadline
  module _ (old new : Bases V) (db at : ℕ) (m after : Blocks) (intact : IsIntact refs_of IsSound old m []) (name ref : BlockRef) (is : key_at (item (table_at old db) at) ≡ Some name)
      (bytes : after ref ≡ m name) (p : Changes m after (name ∷ []) (ref ∷ [])) (c : ChangesTable old new db) (keys : Renames (table_at old db) (table_at new db) at ref) where
    -- that the block of a key without a deadline moves is a relocation of the databases
    pub alone_relocates : (key : List ℕ) → m name ≡ Some key → Lacks m (deadlines_at old db).table key → Relocates refs_of value_of IsSound old new m after
    alone_relocates key was lacks =
        let named = name_is (table_at old db) (table_at new db) at name ref keys is in
        name_relocates old new db at m after intact c.base name ref keys named bytes p (times_alone old new db at m after intact c.base name ref keys named bytes p key was c.deadlines lacks)

    -- where its new block wants no move, the block of a key without a deadline was passed
    pub alone_passes : (later : Heap) → wants later ref ≡ false → PassesName refs_of m after later old new db at
    alone_passes later calm = name_passes old new db at m after intact c.base name ref keys (name_is (table_at old db) (table_at new db) at name ref keys is) bytes p later calm

  -- it has one, which is named by the same block
  module _ (old mid new : Bases V) (db at : ℕ) (m after : Blocks) (intact : IsIntact refs_of IsSound old m []) (name ref : BlockRef) (is : key_at (item (table_at old db) at) ≡ Some name)
      (bytes : after ref ≡ m name) (p : Changes m after (name ∷ []) (ref ∷ [])) (c : ChangesTable old mid db) (keys : Renames (table_at old db) (table_at mid db) at ref)
      (d : ChangesDeadlines mid new db) where
    -- where the name of the deadline follows, the key's element is still named by the new block
    both_keys : Renames (table_at old db) (table_at new db) at ref
    both_keys = subst (λ (t : Table V). Renames (table_at old db) t at ref) (sym d.keys) keys

    -- where a key's block moves and the name of its deadline follows, no other database changes
    both_base : ChangesBase old new db
    both_base = base_then old mid new db c.base d.base

    -- that the block of a key moves and the name of its deadline follows is a relocation of the databases
    pub with_relocates : (key : List ℕ) (number : ℕ) → m name ≡ Some key → Stands m (deadlines_at old db).table number key
        → Renames (deadlines_at mid db).table (deadlines_at new db).table number ref → KeepsCursor (deadlines_at mid db) (deadlines_at new db)
        → Relocates refs_of value_of IsSound old new m after
    with_relocates key number was stands r cursor =
        let named = name_is (table_at old db) (table_at new db) at name ref both_keys is in
        name_relocates old new db at m after intact both_base name ref both_keys named bytes p
        (times_with old new db at m after intact both_base name ref both_keys named bytes p key number was stands
        (subst (λ (t : Timed). Renames t.table (deadlines_at new db).table number ref) c.deadlines r) (subst (λ (t : Timed). KeepsCursor t (deadlines_at new db)) c.deadlines cursor))

    -- where its new block wants no move, the block of a key with a deadline was passed
    pub with_passes : (later : Heap) → wants later ref ≡ false → PassesName refs_of m after later old new db at
    with_passes later calm = name_passes old new db at m after intact both_base name ref both_keys (name_is (table_at old db) (table_at new db) at name ref both_keys is) bytes p later calm

  -- a key's block that wants no move
  pub stays_passes : (m : Blocks) (later : Heap) (bases : Bases V) (db at : ℕ) (name : BlockRef) → IsSome (item (table_at bases db) at) → key_at (item (table_at bases db) at) ≡ Some name
      → wants later name ≡ false → PassesName refs_of m m later bases bases db at
  stays_passes m later bases db at name some is calm = by_item (item (table_at bases db) at) refl some
    where
      by_item : (o : Option (Element V)) → item (table_at bases db) at ≡ o → IsSome o → PassesName refs_of m m later bases bases db at
      by_item None found none = cc
      by_item (Some e) found one' = record {
        tops = λ number. refl;
        was = e;
        now = e;
        replaces = record { found = found; stands = found; others = λ number other apart. refl };
        same_value = refl;
        stays = λ r isin. refl;
        apart = λ number other e off found r isin. refl;
        calm = ap (wants later) (some_same (key_at (item (table_at bases db) at)) _ _ (ap key_at found) is) ∙ calm;
      }

  -- ---- the blocks of a value move

  module _ (old mid : Bases V) (db at : ℕ) (m : Blocks) (intact : IsIntact refs_of IsSound old m []) (c : ChangesTable old mid db) (was vacant : V) (none : IsBlank refs_of IsSound vacant)
      (s : Swaps (table_at old db) (table_at mid db) at was vacant) (keyed : Keyed m (table_at mid db)) where
    -- what stands in the place of the value that was taken out owns no block
    nothing : (r : BlockRef) → times r (refs_of m vacant) ≡ 0
    nothing r = ap (times r) (none.none m)

    -- where a value is taken out of its place, the databases are intact with it out of them
    out : IsIntact refs_of IsSound mid m (refs_of m was)
    out = over_intact refs_of value_of own old mid db m c at was vacant s keyed intact.arranged (none.sound old.limits old.seed m) [] (refs_of m was) intact (λ r. omega (arith, nothing r))

    -- the value that was taken out owns live blocks, none of them named twice
    pub out_owned : Owned (refs_of m was) m
    out_owned r = omega (arith, out.owned r)

    module _ (new : Bases V) (after : Blocks) (value back : V) (d : ChangesTable mid new db) (u : Swaps (table_at mid db) (table_at new db) at back value)
        (keyed_on : Keyed after (table_at mid db) → Keyed after (table_at new db)) (tables_in : key_tables m (table_at mid db) ≡ key_tables m (table_at old db))
        (tables_on : key_tables after (table_at new db) ≡ key_tables after (table_at mid db)) (p : Changes m after (refs_of m was) (refs_of after value))
        (same : value_of after value ≡ value_of m was) (sound : (limits : Limits) (seed : ℕ) → IsSound limits seed m was → IsSound limits seed after value) where
      -- the element with its value as it was
      abbrev first : Element V
      first = record { key = s.key; hash = s.hash; value = was }

      -- the element with its value after the move
      abbrev last : Element V
      last = record { key = s.key; hash = s.hash; value = value }

      -- the element between
      between : ◌≡◌ {A = Element V} (record { key = u.key; hash = u.hash; value = back }) (record { key = s.key; hash = s.hash; value = vacant })
      between = some_same (item (table_at mid db) at) _ _ u.found s.updates.changed

      -- the element with its moved value stands at its item number in the end
      stands : item (table_at new db) at ≡ Some last
      stands = u.updates.changed ∙ (λ i. Some (record { key = (between i).key; hash = (between i).hash; value = value }))

      -- what the databases own while the value is out keeps its bytes
      kept_mid : (r : BlockRef) → 0 < times r (owned (refs_of m) mid) → after r ≡ m r
      kept_mid = kept_inside refs_of value_of own mid m after (refs_of m was) (refs_of m was) (refs_of after value) out p (λ r. omega arith)

      -- the blocks of each element that stands while the value is out stay
      mid_stays : (number other : ℕ) (e : Element V) → item (table_at mid number) other ≡ Some e → Stay m after e
      mid_stays number other e found r isin = kept_mid r (omega (arith, isin, item_owned (refs_of m) mid number other e r found))

      -- taking the value out and putting it back changes no other database
      base : ChangesBase old new db
      base = base_then old mid new db c.base d.base

      -- in each other database the blocks of every element stay
      apart_stays : (number other : ℕ) (e : Element V) → number ≢ db → item (table_at old number) other ≡ Some e → Stay m after e
      apart_stays number other e off found = mid_stays number other e (ap (λ (b : Base V). item b.keys other) (c.base.others number off) ∙ found)

      -- in the value's own database the blocks of each other element stay
      here_stays : (other : ℕ) (e : Element V) → other ≢ at → item (table_at old db) other ≡ Some e → Stay m after e
      here_stays other e off found = mid_stays db other e (s.updates.others other off ∙ found)

      -- the key of the moved value has the bytes that it had
      name_here : after s.key ≡ m s.key
      name_here = name_stays m after (record { key = s.key; hash = s.hash; value = vacant }) (mid_stays db at _ s.updates.changed)

      -- while the value is out the table's keys stay live blocks whose bytes differ, each in its bucket
      frame : Keyed after (table_at mid db) × (key_tables after (table_at mid db) ≡ key_tables m (table_at mid db))
      frame = keyed_frame m after (table_at mid db) keyed (λ other e found. name_stays m after e (mid_stays db other e found))

      -- while the value is out each deadline stays that of a key, and all mean what they meant
      timed_mid : IsTimed after (table_at mid db) (deadlines_at old db) × (moments after (deadlines_at old db) ≡ moments m (deadlines_at old db))
      timed_mid = timed_frame m after (table_at mid db) (deadlines_at old db)
          (timed_swaps m (table_at old db) (table_at mid db) (deadlines_at old db) at was vacant s (intact.arranged.timed db))
          (λ other e found. name_stays m after e (mid_stays db other e found))

      -- taking the value out and putting it back leaves the deadlines
      same_times : deadlines_at new db ≡ deadlines_at old db
      same_times = d.deadlines ∙ c.deadlines

      -- with the moved value in its place the key table means the keys and values that it meant
      values_moved : map_of after (value_of after) (table_at new db) ≡ map_of m (value_of m) (table_at old db)
      values_moved =
          map_of_same m after (value_of m) (value_of after) (table_at old db) (table_at new db) (intact.arranged.keyed db) (keyed_on frame.0)
          (λ i e there. elim (cases_eq i at) [
            | inl here ↦
                (let one' : e ≡ first = some_same (item (table_at old db) at) _ _ (ap (item (table_at old db)) (sym here) ∙ there) s.found in
                (at, last, stands, name_here ∙ ap (λ (x : Element V). m x.key) (sym one'), same ∙ ap (λ (x : Element V). value_of m x.value) (sym one')))
            | inr other ↦ (i, e, u.updates.others i other ∙ (s.updates.others i other ∙ there), name_stays m after e (here_stays i e other there), value_stays m after e (here_stays i e other there))
          ])
          (λ i f there. elim (cases_eq i at) [
            | inl here ↦
                (let one' : f ≡ last = some_same (item (table_at new db) at) _ _ (ap (item (table_at new db)) (sym here) ∙ there) stands in
                (at, first, s.found, ap (λ (x : Element V). after x.key) one' ∙ name_here))
            | inr other ↦ (let then' = sym (s.updates.others i other) ∙ (sym (u.updates.others i other) ∙ there) in (i, f, then', name_stays m after f (here_stays i f other then')))
          ])

      -- with the moved value in its place each value of the database stays sound
      sound_moved : (limits : Limits) (seed : ℕ) → ((i : ℕ) (e : Element V) → item (table_at old db) i ≡ Some e → IsSound limits seed m e.value) → (i : ℕ) (f : Element V)
          → item (table_at new db) i ≡ Some f → IsSound limits seed after f.value
      sound_moved limits seed all i f there = elim (cases_eq i at) [
        | inl here ↦
            (let one' : f ≡ last = some_same (item (table_at new db) at) _ _ (ap (item (table_at new db)) (sym here) ∙ there) stands in
            subst (λ (x : Element V). IsSound limits seed after x.value) (sym one') (sound limits seed (all at first s.found)))
        | inr other ↦ (let then' = sym (s.updates.others i other) ∙ (sym (u.updates.others i other) ∙ there) in sound_stays limits seed m after f (here_stays i f other then') (all i f then'))
      ]

      -- the database of the moved value is renewed: it means what it meant, and has its seeds and its cursor
      renewed : Renewed m after (base_at old db) (base_at new db)
      renewed = record {
        keyed = keyed_on frame.0;
        timed = subst (IsTimed after (table_at new db)) (sym same_times) (timed_swaps after (table_at mid db) (table_at new db) (deadlines_at old db) at back value u timed_mid.0);
        values = values_moved;
        times = ap (moments after) same_times ∙ timed_mid.1;
        tables = tables_on ∙ frame.1 ∙ tables_in;
        times_tables = ap (λ (t : Timed). key_tables after t.table) same_times
            ∙
            (renewed_same m after (record { keys = table_at mid db; deadlines = deadlines_at old db }) keyed
            (timed_swaps m (table_at old db) (table_at mid db) (deadlines_at old db) at was vacant s (intact.arranged.timed db))
            (λ other e found. mid_stays db other e found)).times_tables;
        cursor = ap (λ (t : Timed). t.cursor) same_times;
        sound = sound_moved;
        seed = u.seed ∙ s.seed;
        times_seed = ap (λ (t : Timed). t.table.seed) same_times;
      }

      -- what was taken out and what stands there between own no block
      back_none : (r : BlockRef) → times r (refs_of after back) ≡ 0
      back_none r = ap (λ (x : Element V). times r (refs_of after x.value)) between ∙ ap (times r) (none.none after)

      -- that the blocks of a value move is a relocation of the databases
      pub value_relocates : Relocates refs_of value_of IsSound old new m after
      value_relocates =
          relocates_one old new db m after intact.arranged base renewed apart_stays
          (changes_beside m after (refs_of m was) (refs_of after value) (owned (refs_of m) old) (owned (refs_of after) new) p (λ r. omega (arith, intact.owned r))
          (λ r. times r (owned (refs_of m) mid))
          (λ r. omega (arith, owned_swaps (refs_of m) old mid db c.base r at was vacant s, nothing r))
          (λ r. omega (
            arith,
            owned_swaps (refs_of after) mid new db d.base r at back value u,
            back_none r,
            ap (times r)
                (owned_out refs_of value_of own mid m after (refs_of m was) (refs_of m was) (refs_of after value) out p (λ q. omega arith)),
          )))

      -- the element with the moved value stands in place of the old one, and all others stay
      value_replaces : Replaces old new db at first last
      value_replaces = record {
        found = s.found;
        stands = stands;
        others = λ number other apart. elim apart [
          | inl off ↦ ap (λ (b : Base V). item b.keys other) (base.others number off)
          | inr off ↦ elim (cases_eq number db) [
            | inl here ↦ subst (λ n. item (table_at new n) other ≡ item (table_at old n) other) (sym here) (u.updates.others other off ∙ s.updates.others other off)
            | inr away ↦ ap (λ (b : Base V). item b.keys other) (base.others number away)
          ]
        ];
      }

      -- where a part of the value's blocks was passed, this part of the element's blocks was
      pub value_passes : {E : Type 0} (marks : Blocks → V → Marks) (tables : Blocks → V → Tables (List ℕ)) (encoding : V → E) (heap later : Heap) (from room : ℕ) (answer : Moved)
          → PassesPart refs_of value_of IsSound marks tables encoding m after heap later was value from room answer
          → PassesElement refs_of marks tables encoding m after later old new db at (Some from) room answer
      value_passes marks tables encoding heap later from room answer part = record {
        was = first;
        now = last;
        replaces = value_replaces;
        apart = λ number other e off found r isin. elim off [
          | inl away ↦ apart_stays number other e away found r (omega (arith, isin))
          | inr off'
              ↦ elim (cases_eq number db) [
                | inl here ↦ here_stays other e off' (subst (λ n. item (table_at old n) other ≡ Some e) here found) r (omega (arith, isin))
                | inr away
                    ↦ apart_stays number other e away found r (omega (arith, isin))
              ]
        ];
        name_passed = λ none. cc;
        name_stays = λ some. refl;
        same_marks = part.same_marks;
        same_encoding = part.same_encoding;
        same_tables = part.same_tables;
        tops = λ number. elim (cases_eq number db)
            [ inl here ↦ subst (λ n. (table_at new n).top ≡ (table_at old n).top) (sym here) (u.top ∙ s.top) | inr away ↦ ap (λ (b : Base V). b.keys.top) (base.others number away) ];
        passed = part.passed;
        bounded = record { used = omega (arith, part.bounded.used); within = part.bounded.within; on = part.bounded.on };
      }

-- a key's block was passed, and then a part of its value
module _ {V E : Type 0} (refs_of : Blocks → V → List BlockRef) (marks : Blocks → V → Marks) (tables : Blocks → V → Tables (List ℕ)) (encoding : V → E)
    (refs_own : (m after : Blocks) (value : V) → ((r : BlockRef) → 0 < times r (refs_of m value) → after r ≡ m r) → refs_of after value ≡ refs_of m value)
    (marks_own : RestsOn refs_of marks) (m between after : Blocks) (heap later : Heap) (old mid new : Bases V) (db at : ℕ) where
  -- two replacements at one item number are one of the first element by the last
  replaces_then : (a b c d : Element V) → Replaces old mid db at a b → Replaces mid new db at c d → Replaces old new db at a d
  replaces_then a b c d p q = record {
    found = p.found;
    stands = q.stands;
    others = λ number other apart. q.others number other apart ∙ p.others number other apart;
  }

  -- a bounded call stays bounded with one block more passed and counted, and one more asked for
  bounded_more : (passed from room : ℕ) (answer : Moved) → 0 < room → IsBounded passed from (room - 1) answer → IsBounded (1 + passed) from room (record { next = answer.next; used = answer.used + 1 })
  bounded_more passed from room answer some b = record { used = omega (arith, b.used); within = omega (arith, b.within, some); on = further answer.next b.on }
    where
      further : (o : Option ℕ) → IfSome o (λ next. (from < next) × (room - 1 ≤ answer.used + 17)) → IfSome o (λ next. (from < next) × (room ≤ (answer.used + 1) + 17))
      further None h = tt
      further (Some next) h = (h.0, omega (arith, h.1))

  -- where a key's block and then a part of its value were passed a part of the element was
  pub element_passes : (mark : Option ℕ) (room : ℕ) (answer : Moved) → mark ≡ None → 0 < room → (p : PassesName refs_of m between heap old mid db at)
      → PassesElement refs_of marks tables encoding between after later mid new db at (Some 0) (room - 1) answer → Calmer heap later → tables between p.was.value ≡ tables m p.was.value
      → PassesElement refs_of marks tables encoding m after later old new db at mark room (record { next = answer.next; used = answer.used + 1 })
  element_passes mark room answer none some p q calmer kept =
      subst (λ (o : Option ℕ). PassesElement refs_of marks tables encoding m after later old new db at o room (record { next = answer.next; used = answer.used + 1 })) (sym none) (record {
        was = p.was;
        now = q.now;
        replaces = replaces_then p.was p.now q.was q.now p.replaces q.replaces;
        apart = λ number other e off found r isin. q.apart number other e off (p.replaces.others number other off ∙ found) r
            (subst (λ list. 0 < times r list) (sym (refs_own m between e.value (p.apart number other e off found))) isin) ∙ p.apart number other e off found r isin;
        name_passed = λ _. ap (wants later) (q.name_stays refl ∙ ap (λ (x : Element V). x.key) same) ∙ calmer.calm p.now.key p.calm;
        name_stays = λ some'. cc;
        same_marks = q.same_marks ∙ ap (marks between) value ∙ marks_own m between p.was.value p.stays;
        same_encoding = q.same_encoding ∙ ap encoding value;
        same_tables = q.same_tables ∙ ap (tables between) value ∙ kept;
        tops = λ number. q.tops number ∙ p.tops number;
        passed = record {
          calm = q.passed.calm;
          stays = λ index mark there apart. q.passed.stays index mark there apart ∙ ap (λ list. slice_get list index) (ap (refs_of between) value ∙ refs_own m between p.was.value p.stays);
        };
        bounded = bounded_more (passed_of (marks after q.now.value) 0 answer.next) 0 room answer some (record { used = omega (arith, q.bounded.used); within = q.bounded.within; on = q.bounded.on });
      })
    where
      same : q.was ≡ p.now
      same = some_same (item (table_at mid db) at) _ _ q.replaces.found p.replaces.stands

      value : q.was.value ≡ p.was.value
      value = ap (λ (x : Element V). x.value) same ∙ p.same_value
