-- Which encodings values have that were written.
use Rattle.std.proofs.Common.{◌≡◌, ◌+◌, ◌<◌, ◌≤◌, inl, inr, ℕ, List, [], ◌∷◌, ◌++◌, Bool, true, false, Option, Some, Result, Ok, Err, OnOk, IfOk, unwrap_or, refl, sym, ap, subst, ◌∙◌, arith}
use Rattle.std.specs.FinMap.{get, get-empty}
use Rattle.std.specs.Ordering.{nat_cmp}
use Rattle.std.specs.Cmp.Lexicographic.{slice_cmp}
use Rattle.std.proofs.lemmas.Bool.{cond-true}
use Rattle.blocks.specs.Blocks.{Blocks, bytes_at}
use Rattle.blocks.proofs.Refs.{ref_eq_refl}
use Rattle.blocks.proofs.Change.{one}
use Rattle.rehash_dict.proofs.Keys.{live_bytes}
use Rattle.plain_world.specs.Worlds.{World, new_world}
use Rattle.held.specs.Calls.{AllAt, HasOnly}
use Rattle.held.specs.Written as held
use Rattle.held.proofs.Calls.{look_stands}
use Rattle.held.proofs.Timing.{some_none}
use Rattle.held.proofs.Written.{one_settled, written_none, written_within, written_then, written_named, written_key}
use Rattle.keyspace.specs.declared.value.Value.{Value}
use Rattle.rehash_dict.specs.Table.{at_item}
use Rattle.held.specs.Table.{item}
use Rattle.keyspace.specs.Databases.{Bases, Keyspace, means, table_at}
use Rattle.keyspace.specs.Sound.{IsArranged}
use Rattle.keyspace.specs.Scopes.{Scope, one_key, Within}
use Rattle.keyspace.specs.Values.{value_of, value_refs, value_own, IsWrittenWhole, IsLike}
use Rattle.keyspace.specs.Forms.{AreWhole, FormRule, Unwritten, Whole, AsAt, Either, HasForm, Forms, Formed, Place, ArePlaced, Placed, placed_at, placed_between, FormedBy}
use Rattle.keyspace.specs.Forms.{string_form, string_places, list_form, list_places, set_form, set_places, hash_form, zset_form, stream_form, key_form}
use Rattle.plain_model.specs.declared.command.Command.{Command}
use Rattle.plain_model.specs.declared.command.Command.TheVariants.{Strings, Lists, Sets, Hashes, Zsets, Streams, Keys, Connection}
use Rattle.std.specs.Prelude.{not, ◌&&◌, bytes_eq, if◌then◌else◌}
use Rattle.plain_model.specs.Outcomes.{IsRefusal}
use Rattle.plain_world.specs.declared.refusal.Refusal.{Refusal}
use Rattle.plain_world.specs.declared.reply.Part.{Part}
use Rattle.plain_world.specs.declared.reply.Part.TheVariants.{Refused}

-- what was whole stays so, and so is what is written
whole_on : (old new : Bases) (m after : Blocks) → held.Written value_refs IsWrittenWhole old new m after → AreWhole old → AreWhole new
whole_on old new m after written whole db at e found = elim (written db at e found) [
  | inl stayed ↦ whole db at e stayed.stood
  | inr is ↦ is
]

-- a whole value is put
pub put_whole : {E : Type 0} (db : ℕ) (key : List ℕ) (value : Value) → IsWrittenWhole value → (old new : Bases) (m after : Blocks) → Within (one_key db key) old new m after → IsArranged new after
    → (result : Result (Unit {0}) E) → OnOk result (HasOnly new after db key value) → OnOk result (AreWhole old → AreWhole new)
put_whole db key value is old new m after within arranged (Ok u) only = whole_on old new m after (written_key value_refs IsWrittenWhole db key value is old new m after within arranged only)
put_whole db key value is old new m after within arranged (Err e) only = tt

-- where no key is, each is whole
pub none_whole : (bases : Bases) (m : Blocks) → IsArranged bases m → means 0 bases m ≡ new_world → AreWhole bases
none_whole bases m arranged empty db at e found =
    let bytes = live_bytes m e.key ((arranged.keyed db).live at e found) in
    let there = look_stands value_refs value_of value_own bases db m arranged (bytes_at m e.key) at e found bytes _ refl in
    let nothing = ap (λ (w : World). get (w.bases db) (bytes_at m e.key)) empty ∙ get-empty (slice_cmp nat_cmp) (bytes_at m e.key) in
    some_none _ _ there nothing

-- ---- commands

-- nothing changes
pub formed_none : {S : Type 0} (blocks : S → Blocks) (form : FormRule) (keyspace : Keyspace S) → Formed blocks form keyspace keyspace
formed_none blocks form keyspace = written_none value_refs (HasForm form keyspace.bases (blocks keyspace.store)) keyspace.bases (blocks keyspace.store)

-- no key is written
pub formed_scope : (form : FormRule) (scope : Scope) → ((db : ℕ) (key : List ℕ) → scope.writes db key → ⊥) → (old new : Bases) (m after : Blocks) → Within scope old new m after
    → Forms form old new m after
formed_scope form scope none old new m after within = written_within value_refs (HasForm form old m) scope none old new m after within

-- what stands at the one key that may be written has the form
pub formed_key : (form : FormRule) (db : ℕ) (key : List ℕ) (old new : Bases) (m after : Blocks) → Within (one_key db key) old new m after → IsArranged new after
    → AllAt (HasForm form old m) new after db key → Forms form old new m after
formed_key form db key old new m after within arranged all =
    written_named value_refs (HasForm form old m) (one_key db key) (one_settled db key) old new m after within arranged
    (λ number at e other found bytes named. all at e (subst (λ n. item (table_at new n) at ≡ Some e) named.0 found) (bytes ∙ ap Some named.1))

-- a value is put that has the form
pub formed_put : {E : Type 0} (form : FormRule) (db : ℕ) (key : List ℕ) (value : Value) (old new : Bases) (m after : Blocks) → HasForm form old m value
    → Within (one_key db key) old new m after → IsArranged new after
    → (result : Result (Unit {0}) E) → OnOk result (HasOnly new after db key value) → OnOk result (Forms form old new m after)
formed_put form db key value old new m after is within arranged (Ok u) only = written_key value_refs (HasForm form old m) db key value is old new m after within arranged only
formed_put form db key value old new m after is within arranged (Err e) only = tt

-- one value after another is written whole
pub formed_then : {S : Type 0} (blocks : S → Blocks) (a b c : Keyspace S) → Formed blocks Whole a b → Formed blocks Whole b c → Formed blocks Whole a c
formed_then blocks a b c p q = written_then value_refs IsWrittenWhole a.bases b.bases c.bases (blocks a.store) (blocks b.store) (blocks c.store) p q

-- whatever is answered
pub formed_ok : {A S E : Type 0} (blocks : S → Blocks) (form : FormRule) (old new : Keyspace S) (result : Result A E) → Formed blocks form old new → IfOk result (λ reply. Formed blocks form old new)
formed_ok blocks form old new (Ok reply) formed = formed
formed_ok blocks form old new (Err e) formed = tt

pub unformed : {A S E : Type 0} (blocks : S → Blocks) (form : FormRule) (keyspace : Keyspace S) (result : Result A E) → IfOk result (λ reply. Formed blocks form keyspace keyspace)
unformed blocks form keyspace result = formed_ok blocks form keyspace keyspace result (formed_none blocks form keyspace)

-- a value is encoded like itself
pub like_itself : (value : Value) → IsLike value value
like_itself value = refl

-- the value that stood at a key moves
pub formed_moved : (db : ℕ) (key : List ℕ) (old new : Bases) (m after : Blocks) → held.Written value_refs (held.Carried value_refs old m after db key) old new m after
    → Forms (AsAt db key) old new m after
formed_moved db key old new m after written number at e found = elim (written number at e found) [
  | inl stayed ↦ inl stayed
  | inr carried ↦ inr (e.value, carried.had, like_itself e.value)
]

-- a value that was made is put at another key
pub formed_copied : {E : Type 0} (form : FormRule) (db : ℕ) (key : List ℕ) (value : Value) (old mid new : Bases) (m own after : Blocks) → HasForm form old m value → Forms form old mid m own
    → Within (one_key db key) mid new own after → IsArranged new after
    → (result : Result (Unit {0}) E) → OnOk result (HasOnly new after db key value) → OnOk result (Forms form old new m after)
formed_copied form db key value old mid new m own after is made within arranged (Ok u) only =
    written_then value_refs (HasForm form old m) old mid new m own after made (written_key value_refs (HasForm form old m) db key value is mid new own after within arranged only)
formed_copied form db key value old mid new m own after is made within arranged (Err e) only = tt

-- the elements stay over the same store, whatever the tables do
pub formed_items : {S : Type 0} (blocks : S → Blocks) (old new : Keyspace S) → ((db : ℕ) → (table_at new.bases db).items ≡ (table_at old.bases db).items) → new.store ≡ old.store
    → Formed blocks Unwritten old new
formed_items blocks old new items same db at e found = inl
    (record { stood = ap (λ list. at_item list at) (sym (items db)) ∙ found; bytes = λ r owns. ap (λ s. blocks s r) same; refs = ap (λ s. value_refs (blocks s) e.value) same })

-- and then no key is written
pub formed_on : {S : Type 0} (blocks : S → Blocks) (form : FormRule) (scope : Scope) (old mid new : Keyspace S) → ((db : ℕ) (key : List ℕ) → scope.writes db key → ⊥)
    → Formed blocks form old mid → Within scope mid.bases new.bases (blocks mid.store) (blocks new.store) → Formed blocks form old new
formed_on blocks form scope old mid new none formed within =
    written_then value_refs (HasForm form old.bases (blocks old.store)) old.bases mid.bases new.bases (blocks old.store) (blocks mid.store) (blocks new.store) formed
    (written_within value_refs (HasForm form old.bases (blocks old.store)) scope none mid.bases new.bases (blocks mid.store) (blocks new.store) within)

-- ---- where values stand

-- nothing changes, and the reply is an error
pub formed_refused : {S E : Type 0} (blocks : S → Blocks) (form : FormRule) (places : List Place) (keyspace : Keyspace S) (refusal : Refusal) (result : Result (List Part) E)
    → IfOk result (λ reply. reply ≡ Refused refusal ∷ []) → IfOk result (λ reply. Formed blocks form keyspace keyspace × Placed blocks places reply keyspace keyspace)
formed_refused blocks form places keyspace refusal (Ok reply) told = (formed_none blocks form keyspace, λ calm. absurd (calm (subst IsRefusal (sym told) tt)))
formed_refused blocks form places keyspace refusal (Err e) told = tt

-- whatever is answered
pub placed_ok : {S E : Type 0} (blocks : S → Blocks) (places : List Place) (old new : Keyspace S) (result : Result (List Part) E)
    → ArePlaced places old.bases new.bases (blocks old.store) (blocks new.store) → IfOk result (λ reply. Placed blocks places reply old new)
placed_ok blocks places old new (Ok reply) placed = λ calm. placed
placed_ok blocks places old new (Err e) placed = tt

-- where nothing is written there is nothing to say
pub nowhere_placed : {S E : Type 0} (blocks : S → Blocks) (places : List Place) (old new : Keyspace S) (result : Result (List Part) E) → places ≡ []
    → IfOk result (λ reply. Placed blocks places reply old new)
nowhere_placed blocks places old new result none =
    placed_ok blocks places old new result (subst (λ l. ArePlaced l old.bases new.bases (blocks old.store) (blocks new.store)) (sym none) tt)

-- both of what is said of encodings
pub formed_both : {S E : Type 0} (blocks : S → Blocks) (form : FormRule) (places : List Place) (old new : Keyspace S) (result : Result (List Part) E)
    → IfOk result (λ reply. Formed blocks form old new) → IfOk result (λ reply. Placed blocks places reply old new)
    → IfOk result (λ reply. Formed blocks form old new × Placed blocks places reply old new)
formed_both blocks form places old new (Ok reply) formed placed = (formed, placed)
formed_both blocks form places old new (Err e) formed placed = tt

-- the same, where nothing is to be said of single keys
pub formed_nowhere : {S E : Type 0} (blocks : S → Blocks) (form : FormRule) (places : List Place) (old new : Keyspace S) (result : Result (List Part) E)
    → IfOk result (λ reply. Formed blocks form old new) → places ≡ [] → IfOk result (λ reply. Formed blocks form old new × Placed blocks places reply old new)
formed_nowhere blocks form places old new result formed none = formed_both blocks form places old new result formed (nowhere_placed blocks places old new result none)

-- what stands at a key that isn't written stood there before, and so is encoded as it was
pub stayed_at : (Is : Value → Type 0) (scope : Scope) (db : ℕ) (key : List ℕ) → (scope.writes db key → ⊥) → (old new : Bases) (m after : Blocks) → Within scope old new m after
    → AllAt Is old m db key → AllAt Is new after db key
stayed_at Is scope db key apart old new m after within all at e found bytes =
    let stayed = within.stayed db at e found (λ named. apart (subst (scope.writes db) (ap (λ (o : Option (List ℕ)). unwrap_or o []) bytes) named)) in
    let itself : one e.key e.key ≡ 1 = cond-true _ _ _ (ref_eq_refl e.key) in
    all at e stayed.stood (sym (stayed.bytes e.key (omega (arith, itself))) ∙ bytes)

-- a whole string stands at the key
pub whole_only : {E : Type 0} (value : Value) → IsWrittenWhole value → (new : Bases) (after : Blocks) (db : ℕ) (key : List ℕ) (result : Result (Unit {0}) E)
    → OnOk result (HasOnly new after db key value) → OnOk result (AllAt IsWrittenWhole new after db key)
whole_only value is new after db key (Ok u) only = λ at e found bytes. subst IsWrittenWhole (sym (only at e found bytes)) is
whole_only value is new after db key (Err e) only = tt

-- what was written has its form, where this holds
pub written_where : {A S E : Type 0} (blocks : S → Blocks) (old new : Keyspace S) (writes : Bool) (form : FormRule) (result : Result A E) → writes ≡ true → Formed blocks form old new
    → IfOk result (λ reply. Formed blocks (if writes then form else Unwritten) old new)
written_where blocks old new writes form result is formed =
    subst (λ t. IfOk result (λ reply. Formed blocks (if t then form else Unwritten) old new)) (sym is) (formed_ok blocks form old new result formed)

-- this holds, and that doesn't
pub holds_alone : (a b : Bool) → a ≡ true → b ≡ false → (a && not b) ≡ true
holds_alone a b is none = ap (λ x. x && not b) is ∙ ap not none

-- ---- from one key to another

-- both are one key, where what was put stands
pub placed_one : (db : ℕ) (from to : List ℕ) (taken put : FormRule) (old new : Bases) (m after : Blocks) → bytes_eq from to ≡ true → ArePlaced (placed_at db to put) old new m after
    → ArePlaced (placed_between db from to (Either taken put)) old new m after
placed_one db from to taken put old new m after same placed =
    subst (λ (b : Bool). ArePlaced (if b then placed_at db to put else placed_at db from taken ++ placed_at db to put) old new m after) (sym same) placed

-- or each has its own
pub placed_two : (db : ℕ) (from to : List ℕ) (taken put : FormRule) (old new : Bases) (m after : Blocks) → bytes_eq from to ≡ false
    → ArePlaced (placed_at db from taken ++ placed_at db to put) old new m after → ArePlaced (placed_between db from to (Either taken put)) old new m after
placed_two db from to taken put old new m after apart placed =
    subst (λ (b : Bool). ArePlaced (if b then placed_at db to put else placed_at db from taken ++ placed_at db to put) old new m after) (sym apart) placed

module _ {S E : Type 0} (blocks : S → Blocks) (db : ℕ) (from to : List ℕ) where
  -- something moved by a rule that is this one
  pub formed_between : (old new : Keyspace S) (form made : FormRule) (result : Result (List Part) E) → form ≡ made → Formed blocks made old new
      → ArePlaced (placed_between db from to made) old.bases new.bases (blocks old.store) (blocks new.store)
      → IfOk result (λ reply. Formed blocks form old new × Placed blocks (placed_between db from to form) reply old new)
  formed_between old new form made result is formed placed =
      subst (λ (f : FormRule). IfOk result (λ reply. Formed blocks f old new × Placed blocks (placed_between db from to f) reply old new)) (sym is)
      (formed_both blocks made (placed_between db from to made) old new result (formed_ok blocks made old new result formed)
      (placed_ok blocks (placed_between db from to made) old new result placed))

  -- nothing moved
  pub unformed_between : (keyspace : Keyspace S) (form : FormRule) (result : Result (List Part) E) → form ≡ Unwritten
      → IfOk result (λ reply. Formed blocks form keyspace keyspace × Placed blocks (placed_between db from to form) reply keyspace keyspace)
  unformed_between keyspace form result is = formed_between keyspace keyspace form Unwritten result is (formed_none blocks Unwritten keyspace) tt

-- ---- and then no key is written

placed_on : {S : Type 0} (blocks : S → Blocks) (scope : Scope) (places : List Place) (old mid new : Keyspace S) → ((db : ℕ) (key : List ℕ) → scope.writes db key → ⊥)
    → ArePlaced places old.bases mid.bases (blocks old.store) (blocks mid.store) → Within scope mid.bases new.bases (blocks mid.store) (blocks new.store)
    → ArePlaced places old.bases new.bases (blocks old.store) (blocks new.store)
placed_on blocks scope [] old mid new none placed within = tt
placed_on blocks scope (place ∷ places) old mid new none placed within = (
  stayed_at (HasForm place.form old.bases (blocks old.store)) scope place.db place.key (none place.db place.key) mid.bases new.bases (blocks mid.store) (blocks new.store) within placed.0,
  placed_on blocks scope places old mid new none placed.1 within,
)

both_on : {S : Type 0} (blocks : S → Blocks) (scope : Scope) (form : FormRule) (places : List Place) (reply : List Part) (old mid new : Keyspace S)
    → ((db : ℕ) (key : List ℕ) → scope.writes db key → ⊥) → Formed blocks form old mid × Placed blocks places reply old mid
    → Within scope mid.bases new.bases (blocks mid.store) (blocks new.store) → Formed blocks form old new × Placed blocks places reply old new
both_on blocks scope form places reply old mid new none formed within = (
  formed_on blocks form scope old mid new none formed.0 within,
  λ calm. placed_on blocks scope places old mid new none (formed.1 calm) within,
)

pub formed_by_on : {S : Type 0} (blocks : S → Blocks) (scope : Scope) (db : ℕ) (world : World) (command : Command) (reply : List Part) (old mid new : Keyspace S)
    → ((db : ℕ) (key : List ℕ) → scope.writes db key → ⊥) → FormedBy blocks db world command reply old mid → Within scope mid.bases new.bases (blocks mid.store) (blocks new.store)
    → FormedBy blocks db world command reply old new
formed_by_on blocks scope db world (Strings command) reply old mid new none formed within =
    both_on blocks scope (string_form world command) (string_places db world command) reply old mid new none formed within
formed_by_on blocks scope db world (Lists command) reply old mid new none formed within =
    both_on blocks scope (list_form db world command) (list_places db world command) reply old mid new none formed within
formed_by_on blocks scope db world (Sets command) reply old mid new none formed within =
    both_on blocks scope (set_form db world command) (set_places db world command) reply old mid new none formed within
formed_by_on blocks scope db world (Hashes command) reply old mid new none formed within = formed_on blocks (hash_form db world command) scope old mid new none formed within
formed_by_on blocks scope db world (Zsets command) reply old mid new none formed within = formed_on blocks (zset_form db world command) scope old mid new none formed within
formed_by_on blocks scope db world (Streams command) reply old mid new none formed within = formed_on blocks (stream_form command) scope old mid new none formed within
formed_by_on blocks scope db world (Keys command) reply old mid new none formed within = formed_on blocks (key_form db world command) scope old mid new none formed within
formed_by_on blocks scope db world (Connection command) reply old mid new none formed within = formed_on blocks Unwritten scope old mid new none formed within
