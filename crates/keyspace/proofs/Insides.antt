-- The tables of the dictionaries inside values, step by step.
use Rattle.std.proofs.Common.{◌≡◌, inl, inr, ℕ, List, [], Option, Some, Result, Ok, Err, OnOk, OnErr, unwrap_or, refl, sym, ap, ◌∙◌, subst, arith}
use Rattle.std.proofs.lemmas.Bool.{cond-true}
use Rattle.blocks.specs.Blocks.{Blocks, bytes_at, Changes, no_step}
use Rattle.blocks.proofs.Refs.{ref_eq_refl}
use Rattle.blocks.proofs.Change.{one}
use Rattle.blocks.proofs.Serve.{served_same, served_then}
use Rattle.rehash_dict.specs.Tables.{Tables}
use Rattle.rehash_dict.specs.Grown.{Grown}
use Rattle.rehash_dict.specs.Keyed.{hash_of}
use Rattle.rehash_dict.proofs.Keys.{live_bytes}
use Rattle.stored.specs.Owning.{no_tables}
use Rattle.held.specs.Table.{Element, item}
use Rattle.held.specs.Calls.{HasValue, HasOnly}
use Rattle.held.specs.Scopes.{Stayed}
use Rattle.held.specs.Written.{KeepBytes, Carried, Written}
use Rattle.held.proofs.Within.{within_store}
use Rattle.held.proofs.Written.{one_settled, two_settled}
use Rattle.keyspace.specs.declared.value.Value.{Value}
use Rattle.keyspace.specs.Values.{value_refs, value_of, value_own, value_tables, value_tables_own, IsSound}
use Rattle.keyspace.specs.Databases.{Bases, table_at}
use Rattle.keyspace.specs.Sound.{IsArranged, IsIntact, Sound}
use Rattle.keyspace.specs.Scopes.{Scope, untouched, one_key, two_keys, Within}
use Rattle.keyspace.specs.Insides.{Derived, from_none, from_value, Inside, as_before, rewritten, Insides}
use Rattle.keyspace.proofs.Uses.{sound_is_intact, made_sound}

-- the bytes of a block that holds them
bytes_in : (key bytes : Option (List ℕ)) → key ≡ bytes → unwrap_or key [] ≡ unwrap_or bytes []
bytes_in key bytes is = ap (λ (o : Option (List ℕ)). unwrap_or o []) is

-- ---- what isn't written

-- what stood there with its blocks has the tables that it had
stayed_inside : (scope : Scope) (old : Bases) (m after : Blocks) (db at : ℕ) (e : Element Value) → IsArranged old m → Stayed value_refs old m after db at e
    → Inside scope old m after db e
stayed_inside scope old m after db at e arranged stayed =
    let itself : one e.key e.key ≡ 1 = cond-true _ _ _ (ref_eq_refl e.key) in
    let key : bytes_at m e.key ≡ bytes_at after e.key = sym (bytes_in (after e.key) (m e.key) (stayed.bytes e.key (omega (arith, itself)))) in
    let tables : value_tables after e.value ≡ value_tables m e.value = value_tables_own old.limits old.seed m after e.value (λ r owns. stayed.bytes r (omega (arith, owns)))
    (arranged.values db at e stayed.stood) in
    as_before at e stayed.stood key tables

-- nothing changes
pub insides_none : (scope : Scope) (bases : Bases) (m : Blocks) → Insides scope bases bases m m
insides_none scope bases m db at e found = as_before at e found refl refl

-- no key is written
pub insides_unwritten : (scope other : Scope) → ((db : ℕ) (key : List ℕ) → other.writes db key → ⊥) → (old new : Bases) (m after : Blocks) → IsArranged old m
    → Within other old new m after → Insides scope old new m after
insides_unwritten scope other none old new m after arranged within db at e found =
    stayed_inside scope old m after db at e arranged (within.stayed db at e found (none db (bytes_at after e.key)))

-- ---- tables that come from others

-- a value without a dictionary stays without one
pub bare_grown : (seed : ℕ) (m : Blocks) (was : Value) → value_tables m was ≡ no_tables → Grown (hash_of seed) (value_tables m was) no_tables
bare_grown seed m was none = subst (λ t. Grown (hash_of seed) t no_tables) (sym none) no_step

-- tables that come from others by removals or inserts, and those from the first ones
pub grown_on : (seed own : ℕ) (a b c : Tables (List ℕ)) → own ≡ seed → Grown (hash_of seed) a b → Grown (hash_of own) b c → Grown (hash_of seed) a c
grown_on seed own a b c same p q = served_then _ _ _ p (subst (λ s. Grown (hash_of s) b c) same q)

-- ---- step by step

-- what comes from values whose keys may be written comes from those of a wider scope
pub derived_wider : (scope wider : Scope) → ((db : ℕ) (key : List ℕ) → scope.writes db key → wider.writes db key) → (old : Bases) (m : Blocks) (t : Tables (List ℕ))
    → Derived scope old m t → Derived wider old m t
derived_wider scope wider writes old m t (from_none grown) = from_none grown
derived_wider scope wider writes old m t (from_value db at was stood named grown) = from_value db at was stood (writes db (bytes_at m was.key) named) grown

-- what is within a scope is within a wider one
pub insides_wider : (scope wider : Scope) → ((db : ℕ) (key : List ℕ) → scope.writes db key → wider.writes db key) → (old new : Bases) (m after : Blocks)
    → Insides scope old new m after → Insides wider old new m after
insides_wider scope wider writes old new m after p db at e found = widened (p db at e found)
  where
    widened : Inside scope old m after db e → Inside wider old m after db e
    widened (as_before i was stood key tables) = as_before i was stood key tables
    widened (rewritten named from) = rewritten (writes db (bytes_at after e.key) named) (derived_wider scope wider writes old m (value_tables after e.value) from)

module _ (scope : Scope) (a b : Bases) (m mid : Blocks) (seed : b.seed ≡ a.seed) (p : Insides scope a b m mid) where
  -- tables that come from others by the one seed come from them by the other
  seeded : (x y : Tables (List ℕ)) → Grown (hash_of b.seed) x y → Grown (hash_of a.seed) x y
  seeded x y grown = subst (λ s. Grown (hash_of s) x y) seed grown

  -- what comes from a value's tables comes from those that the value comes from
  through : (t : Tables (List ℕ)) (db : ℕ) (o : Element Value) → scope.writes db (bytes_at mid o.key) → Grown (hash_of b.seed) (value_tables mid o.value) t → Inside scope a m mid db o
      → Derived scope a m t
  through t db o named grown (as_before i was stood key tables) =
      from_value db i was stood (subst (scope.writes db) (sym key) named) (subst (λ s. Grown (hash_of a.seed) s t) tables (seeded (value_tables mid o.value) t grown))
  through t db o named grown (rewritten again (from_none first)) = from_none (served_then _ _ _ first (seeded (value_tables mid o.value) t grown))
  through t db o named grown (rewritten again (from_value number i was stood given first)) =
      from_value number i was stood given (served_then _ _ _ first (seeded (value_tables mid o.value) t grown))

  -- what comes from the second databases comes from the first
  derived_on : (t : Tables (List ℕ)) → Derived scope b mid t → Derived scope a m t
  derived_on t (from_none grown) = from_none (seeded no_tables t grown)
  derived_on t (from_value db at o stood named grown) = through t db o named grown (p db at o stood)

  -- a value with the tables that it had in the second databases
  still_inside : (after : Blocks) (db : ℕ) (o e : Element Value) → bytes_at mid o.key ≡ bytes_at after e.key → value_tables after e.value ≡ value_tables mid o.value
      → Inside scope a m mid db o → Inside scope a m after db e
  still_inside after db o e key tables (as_before i was stood bytes same) = as_before i was stood (bytes ∙ key) (tables ∙ same)
  still_inside after db o e key tables (rewritten named from) = rewritten (subst (scope.writes db) key named) (subst (Derived scope a m) (sym tables) from)

  then_inside : (after : Blocks) (db : ℕ) (e : Element Value) → Inside scope b mid after db e → Inside scope a m after db e
  then_inside after db e (as_before i o stood key tables) = still_inside after db o e key tables (p db i o stood)
  then_inside after db e (rewritten named from) = rewritten named (derived_on (value_tables after e.value) from)

  -- one step after another
  pub insides_then : (c : Bases) (after : Blocks) → Insides scope b c mid after → Insides scope a c m after
  insides_then c after q db at e found = then_inside after db e (q db at e found)

-- ---- a value at a key

-- a value stands at the key, and its tables are derived
pub insides_one : (db : ℕ) (key : List ℕ) (value : Value) (old new : Bases) (m after : Blocks) → IsArranged old m → IsArranged new after → Within (one_key db key) old new m after
    → HasOnly new after db key value → Derived (one_key db key) old m (value_tables after value) → Insides (one_key db key) old new m after
insides_one db key value old new m after before later within only from number at e found = elim (one_settled db key number (bytes_at after e.key)) [
  | inl named ↦ rewritten named
      (subst (λ v. Derived (one_key db key) old m (value_tables after v))
      (sym (only at e (subst (λ n. item (table_at new n) at ≡ Some e) named.0 found) (live_bytes after e.key ((later.keyed number).live at e found) ∙ ap Some named.1))) from)
  | inr apart ↦ stayed_inside (one_key db key) old m after number at e before (within.stayed number at e found apart)
]

-- a value without a dictionary stands at the key
pub insides_bare : (db : ℕ) (key : List ℕ) (value : Value) (old new : Bases) (m after : Blocks) → IsArranged old m → IsArranged new after → Within (one_key db key) old new m after
    → HasOnly new after db key value → value_tables after value ≡ no_tables → Insides (one_key db key) old new m after
insides_bare db key value old new m after before later within only none =
    insides_one db key value old new m after before later within only (from_none (subst (Grown (hash_of old.seed) no_tables) (sym none) no_step))

-- the value that stood at the key was changed
pub insides_edited : (db : ℕ) (key : List ℕ) (was value : Value) (old new : Bases) (m after : Blocks) → IsArranged old m → IsArranged new after → Within (one_key db key) old new m after
    → HasValue old m db key was → HasOnly new after db key value → Grown (hash_of old.seed) (value_tables m was) (value_tables after value) → Insides (one_key db key) old new m after
insides_edited db key was value old new m after before later within had only grown =
    insides_one db key value old new m after before later within only
    (from_value db had.at had.element had.found (refl, bytes_in (m had.element.key) (Some key) had.bytes)
    (subst (λ v. Grown (hash_of old.seed) (value_tables m v) (value_tables after value)) (sym had.is) grown))

-- a value that is out is put at the key, or for want of memory each key stays
pub insides_put_out : {E : Type 0} (db : ℕ) (key : List ℕ) (value : Value) (old new : Bases) (after later : Blocks) → IsIntact old after (value_refs after value)
    → IsSound old.limits old.seed after value → Grown (hash_of old.seed) no_tables (value_tables after value) → IsArranged new later → Within (one_key db key) old new after later
    → (result : Result (Unit {0}) E) → OnOk result (HasOnly new later db key value) → OnOk result (KeepBytes after later (value_refs after value))
    → OnErr result ((number : ℕ) → table_at new number ≡ table_at old number) → OnErr result (Changes after later (value_refs after value) []) → Insides (one_key db key) old new after later
insides_put_out db key value old new after later intact is_sound grown arranged within (Ok u) only kept keys gone =
    insides_one db key value old new after later intact.arranged arranged within only
    (from_none (subst (Grown (hash_of old.seed) no_tables) (sym (value_tables_own old.limits old.seed after later value kept is_sound)) grown))
insides_put_out db key value old new after later intact is_sound grown arranged within (Err e) only kept keys gone = λ number at x found.
    (let none : Within untouched old old after later =
    within_store value_refs value_of value_own untouched old after later (value_refs after value) (value_refs after value) [] intact gone (λ r. omega arith) in
    insides_unwritten (one_key db key) untouched (λ n k no. no) old old after later intact.arranged none number at x (ap (λ t. item t at) (sym (keys number)) ∙ found))

-- a value that was made is put at the key, or for want of memory each key stays
pub insides_put : {E : Type 0} (db : ℕ) (key : List ℕ) (value : Value) (old new : Bases) (m after later : Blocks) → Sound old m → Changes m after [] (value_refs after value)
    → IsSound old.limits old.seed after value → Grown (hash_of old.seed) no_tables (value_tables after value) → IsArranged new later → Within (one_key db key) old new after later
    → (result : Result (Unit {0}) E) → OnOk result (HasOnly new later db key value) → OnOk result (KeepBytes after later (value_refs after value))
    → OnErr result ((number : ℕ) → table_at new number ≡ table_at old number) → OnErr result (Changes after later (value_refs after value) []) → Insides (one_key db key) old new m later
insides_put db key value old new m after later sound made is_sound grown arranged within result only kept keys gone =
    let none : Within untouched old old m after =
    within_store value_refs value_of value_own untouched old m after [] [] (value_refs after value) (sound_is_intact old m [] sound) made (λ r. omega arith) in
    let first : Insides (one_key db key) old old m after = insides_unwritten (one_key db key) untouched (λ n k no. no) old old m after sound.arranged none in
    let intact : IsIntact old after (value_refs after value) = sound_is_intact old after (value_refs after value) (made_sound old m after value sound made) in
    insides_then (one_key db key) old old m after refl first new later
    (insides_put_out db key value old new after later intact is_sound grown arranged within result only kept keys gone)

-- ---- a value moves

-- what stood at one key stands at another
pub insides_moved : (db : ℕ) (key : List ℕ) (to_db : ℕ) (to : List ℕ) (old new : Bases) (m after : Blocks) → IsArranged old m → Within (two_keys db key to_db to) old new m after
    → Written value_refs (Carried value_refs old m after db key) old new m after → Insides (two_keys db key to_db to) old new m after
insides_moved db key to_db to old new m after arranged within written number at e found = elim (written number at e found) [
  | inl stayed ↦ stayed_inside (two_keys db key to_db to) old m after number at e arranged stayed
  | inr carried ↦ elim (two_settled db key to_db to number (bytes_at after e.key)) [
    | inr apart ↦ stayed_inside (two_keys db key to_db to) old m after number at e arranged (within.stayed number at e found apart)
    | inl named ↦ rewritten named (moved e.value carried)
  ]
]
  where
    moved : (value : Value) → Carried value_refs old m after db key value → Derived (two_keys db key to_db to) old m (value_tables after value)
    moved value carried =
        let had = carried.had in
        let sound : IsSound old.limits old.seed m value = subst (IsSound old.limits old.seed m) had.is (arranged.values db had.at had.element had.found) in
        let same : value_tables after value ≡ value_tables m had.element.value =
        value_tables_own old.limits old.seed m after value carried.kept sound ∙ ap (value_tables m) (sym had.is) in
        from_value db had.at had.element had.found (inl (refl, bytes_in (m had.element.key) (Some key) had.bytes)) (served_same _ _ same)

-- for want of memory each element stays
pub insides_items : (scope : Scope) (old new : Bases) (m after : Blocks) → ((number at : ℕ) → item (table_at new number) at ≡ item (table_at old number) at) → after ≡ m
    → Insides scope old new m after
insides_items scope old new m after items same =
    subst (λ b. Insides scope old new m b) (sym same) (λ number at e found. as_before at e (sym (items number at) ∙ found) refl refl)
