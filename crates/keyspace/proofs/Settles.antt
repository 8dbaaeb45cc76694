-- Which values a command leaves with settled tables.
use Rattle.std.proofs.Common.{◌≡◌, ◌<◌, ◌≤◌, ◌+◌, ℕ, Bool, true, false, cond, List, [], Option, None, Some, Result, Ok, Err, OnOk, IfOk, unwrap_or, refl, sym, ap, ◌∙◌, subst, arith}
use Rattle.std.specs.Ordering.{nat_cmp}
use Rattle.std.specs.Cmp.Lexicographic.{slice_cmp, nat_list_cmp_total}
use Rattle.std.specs.FinMap.{FinMap, insert, contains_key, len, len-insert}
use Rattle.blocks.specs.Blocks.{Blocks, bytes_at}
use Rattle.rehash_dict.specs.Tables.{Tables, IsSettled}
use Rattle.rehash_dict.proofs.Keys.{live_bytes}
use Rattle.stored.specs.Owning.{no_tables}
use Rattle.plain_world.specs.Worlds.{look, put}
use Rattle.plain_world.proofs.Lives.{look_put}
use Rattle.plain_model.specs.declared.ctx.Ctx.{Ctx}
use Rattle.held.specs.Calls.{AllAt, HasOnly}
use Rattle.keyspace.specs.declared.value.Value.{Value}
use Rattle.keyspace.specs.Values.{value_of, value_tables}
use Rattle.keyspace.specs.Databases.{Keyspace}
use Rattle.keyspace.specs.Sound.{IsArranged}
use Rattle.keyspace.specs.Scopes.{Scope}
use Rattle.keyspace.specs.Insides.{Inside, as_before, rewritten, Insides, size, size_of, size_at, SettledBelow, SettledAt, SettlesAt}
use Rattle.keyspace.specs.Commands.{visible}

-- a value without a dictionary has no table that is to be settled
pub bare_settled : {A E : Type 0} (P : Type 0) (result : Result A E) → OnOk result (P → IsSettled no_tables)
bare_settled P (Ok a) = λ given. refl
bare_settled P (Err e) = tt

-- a map with a value more has no fewer keys
pub one_more : {A : Type 0} (m : FinMap (slice_cmp nat_cmp) A) (k : List ℕ) (v : A) → len m ≤ len (insert m k v)
one_more m k v = let made = len-insert nat_list_cmp_total m k v in by_test (contains_key m k) made
  where
    by_test : (b : Bool) → len (insert m k v) ≡ cond b (len m) (len m + 1) → len m ≤ len (insert m k v)
    by_test true made = omega (arith, made)
    by_test false made = omega (arith, made)

-- what has no fewer elements has nothing to be settled
pub never_fewer : {A E : Type 0} (result : Result A E) (most count : ℕ) (t : Tables (List ℕ)) → OnOk result (most ≤ count) → OnOk result (SettledBelow most count t)
never_fewer (Ok a) most count t more = λ fewer. absurd (omega (arith, more, fewer))
never_fewer (Err e) most count t more = tt

-- what is settled is so where it has fewer elements
pub settled_below : {A E : Type 0} (result : Result A E) (most count : ℕ) (t : Tables (List ℕ)) → OnOk result (IsSettled t) → OnOk result (SettledBelow most count t)
settled_below (Ok a) most count t settled = λ fewer. settled
settled_below (Err e) most count t settled = tt

-- no number is below 0
none_below : (n : ℕ) → n < 0 → ⊥
none_below n less = omega (arith, less)

module _ {S : Type 0} (blocks : S → Blocks) (at : Ctx) (key : List ℕ) where
  -- nothing changes
  pub settles_none : (keyspace : Keyspace S) → SettlesAt blocks keyspace keyspace at key
  settles_none keyspace fewer = absurd (omega (arith, fewer))

  -- nothing stood at the key
  pub settles_new : {E : Type 0} (old new : Keyspace S) → look (visible blocks old at) key ≡ None → (result : Result (Unit {0}) E) → OnOk result (SettlesAt blocks old new at key)
  settles_new old new none (Ok u) = λ fewer. absurd (none_below _ (subst (λ n. size_at (visible blocks new at) key < n) (ap size_of none) fewer))
  settles_new old new none (Err e) = tt

  -- nothing stands at the key
  pub settles_gone : (old new : Keyspace S) → AllAt (λ value. ⊥) new.bases (blocks new.store) at.db key → SettlesAt blocks old new at key
  settles_gone old new gone fewer number e found bytes = absurd (gone number e found bytes)

  -- the value at the key was changed
  pub settles_edited : (old new : Keyspace S) (was now : Value) (deadline : Option ℕ)
      → look (visible blocks old at) key ≡ Some (record { value = value_of (blocks old.store) was; deadline = deadline })
      → visible blocks new at ≡ put (visible blocks old at) key (record { value = value_of (blocks new.store) now; deadline = deadline })
      → HasOnly new.bases (blocks new.store) at.db key now
      → (size (value_of (blocks new.store) now) < size (value_of (blocks old.store) was) → IsSettled (value_tables (blocks new.store) now)) → SettlesAt blocks old new at key
  settles_edited old new was now deadline stands world only settled fewer number e found bytes =
      let before : size_at (visible blocks old at) key ≡ size (value_of (blocks old.store) was) = ap size_of stands in
      let later : size_at (visible blocks new at) key ≡ size (value_of (blocks new.store) now) = ap (λ w. size_at w key) world
      ∙ ap size_of (look_put (visible blocks old at) key (record { value = value_of (blocks new.store) now; deadline = deadline })) in
      subst (λ v. IsSettled (value_tables (blocks new.store) v)) (sym (only number e found bytes))
      (settled (subst (λ n. n < size (value_of (blocks old.store) was)) later (subst (λ n. size_at (visible blocks new at) key < n) before fewer)))

  -- whatever is answered
  pub settles_ok : {A E : Type 0} (old new : Keyspace S) (result : Result A E) → SettlesAt blocks old new at key → IfOk result (λ reply. SettlesAt blocks old new at key)
  settles_ok old new (Ok reply) settles = settles
  settles_ok old new (Err e) settles = tt

  -- and then the key isn't written
  pub settled_on : (scope : Scope) → (scope.writes at.db key → ⊥) → (mid new : Keyspace S) → IsArranged mid.bases (blocks mid.store)
      → Insides scope mid.bases new.bases (blocks mid.store) (blocks new.store) → SettledAt mid.bases (blocks mid.store) at.db key → SettledAt new.bases (blocks new.store) at.db key
  settled_on scope apart mid new arranged insides settled number e found bytes = still (insides at.db number e found)
    where
      key_is : bytes_at (blocks new.store) e.key ≡ key
      key_is = ap (λ (o : Option (List ℕ)). unwrap_or o []) bytes

      still : Inside scope mid.bases (blocks mid.store) (blocks new.store) at.db e → IsSettled (value_tables (blocks new.store) e.value)
      still (as_before i was stood same tables) =
          subst (λ t. IsSettled t) (sym tables) (settled i was stood (live_bytes (blocks mid.store) was.key ((arranged.keyed at.db).live i was stood) ∙ ap Some (same ∙ key_is)))
      still (rewritten named from) = absurd (apart (subst (scope.writes at.db) key_is named))

  pub settles_on : (scope : Scope) → (scope.writes at.db key → ⊥) → (old mid new : Keyspace S) → IsArranged mid.bases (blocks mid.store)
      → Insides scope mid.bases new.bases (blocks mid.store) (blocks new.store) → size_at (visible blocks new at) key ≡ size_at (visible blocks mid at) key → SettlesAt blocks old mid at key
      → SettlesAt blocks old new at key
  settles_on scope apart old mid new arranged insides same settles fewer =
      settled_on scope apart mid new arranged insides (settles (subst (λ n. n < size_at (visible blocks old at) key) same fewer))
