-- Commands on keys as steps of the model.
use Rattle.std.proofs.Common.{◌≡◌, ◌<◌, ℕ, List, [], ◌∷◌, Option, Some, None, true, Result, Ok, Err, IfOk, refl, sym, ap, ◌∙◌, subst}
use Rattle.std.specs.Prelude.{ℤ, pos, is_some, if◌then◌else◌, FitsSigned}
use Rattle.std.specs.Int.{w64}
use Rattle.int_text.specs.Decimal.{is_i64}
use Rattle.int_text.proofs.NumberOf.{fits_to}
use Rattle.plain_world.specs.declared.refusal.Refusal.TheVariants.{InvalidExpireTime}
use Rattle.plain_model.specs.declared.times.Time.{Time}
use Rattle.plain_model.specs.declared.keys.ExpireOptions.{ExpireOptions}
use Rattle.plain_model.specs.Deadlines.{due, expire}
use Rattle.plain_world.specs.Worlds.{World, Entry, live, look, in_time, deadline_of}
use Rattle.plain_world.specs.declared.reply.Part.{Part}
use Rattle.plain_world.specs.declared.reply.Part.TheVariants.{Number, Bulk}
use Rattle.plain_model.specs.Outcomes.{IsOutcome, IsRefusal, leaves, tells, refused}
use Rattle.plain_model.specs.KeySteps.{key_outcome, may_keys, counts, permits, expire_where_permitted, expire_outcome, time_told}
use Rattle.plain_model.specs.Meant.{IsAsked}
use Rattle.plain_model.proofs.Asked.{IsOneOf16, FitsKeys, command_fits}
use Rattle.plain_model.specs.declared.ctx.Ctx.{Ctx}
use Rattle.plain_model.specs.declared.keys.KeyCommand.{KeyCommand}
use Rattle.plain_model.specs.declared.keys.KeyCommand.TheVariants as keys
use Rattle.plain_model.specs.declared.keys.CopyOptions.{CopyOptions}
use Rattle.plain_model.specs.declared.keys.ScanOptions.{ScanOptions}
use Rattle.plain_model.specs.declared.connection.ConnectionCommand.{ConnectionCommand}
use Rattle.plain_model.specs.ConnectionSteps.{connection_outcome, may_connection}
use Rattle.plain_model.specs.declared.command.Command.TheVariants.{Keys, Connection}
use Rattle.blocks.specs.Blocks.{Blocks}
use Rattle.held.specs.Calls as held
use Rattle.keyspace.specs.declared.value.Value.{Value}
use Rattle.keyspace.specs.Values.{value_refs, value_of, IsEncodedAs}
use Rattle.keyspace.specs.Databases.{Bases, Keyspace}
use Rattle.keyspace.specs.Scopes.{connection_scope, key_scope}
use Rattle.keyspace.specs.Commands.{Ready, KeepsOrRefuses, Runs, visible}
use Rattle.keyspace.specs.Shown.{IsActual, encoded, key_shown, connection_shown}
use Rattle.plain_model.specs.declared.connection.ConnectionCommand.TheVariants as connection
use Rattle.keyspace.proofs.Running.{outcome_is, unchanged}
use Rattle.keyspace.specs.Forms.{Unwritten, Formed, key_form}
use Rattle.keyspace.proofs.Forming.{formed_ok, formed_scope, unformed}
use Rattle.cmd_keys.specs.declared.keys.look.Timeless.{Timeless}
use Rattle.cmd_keys.specs.Found.{IsCommon, Gives, Serves, Tells, IsDatabase, IsDeadlineAt, told_of}

-- what stands at a key of the live world, and its deadline
pub record StandsUntil (world : World) (moment : ℕ) (key : List ℕ) (deadline : Option ℕ) : Type 0 where
  pub entry : Entry
  pub stands : look (live world moment) key ≡ Some entry
  pub same : entry.deadline ≡ deadline
  pub late : in_time moment deadline ≡ true

-- where something stands at a key there is an entry that stands there
pub some_entry : (o : Option Entry) → is_some o ≡ true → (e : Entry) × (o ≡ Some e)
some_entry None there = cc
some_entry (Some e) there = (e, refl)

-- what is told of a deadline is told
pub time_answered : {E : Type 0} (old : World) (key : List ℕ) (tell : ℕ → ℕ) (deadline : Result ℕ Timeless) (told : ℤ) (result : Result (List Part) E)
    → IsDeadlineAt old key deadline → told_of tell deadline ≡ told → IfOk result (λ reply. reply ≡ Number told ∷ [])
    → IfOk result (λ reply. tells (Number (time_told tell (look old key)) ∷ []) old ≡ leaves reply old)
time_answered old key tell deadline told (Ok reply) at same is = ap (λ n. tells (Number n ∷ []) old) (at tell ∙ same) ∙ ap (λ r. leaves r old) (sym is)
time_answered old key tell deadline told (Err x) at same is = tt

-- a number is no refusal
pub number_calm : {E : Type 0} (n : ℤ) (result : Result (List Part) E) → IfOk result (λ reply. reply ≡ Number n ∷ []) → IfOk result (λ reply. IsRefusal reply → ⊥)
number_calm n (Ok reply) is = λ refused. subst IsRefusal is refused
number_calm n (Err x) is = tt

-- a key that is there gets a deadline that the options permit
pub expire_given : {E : Type 0} (old new : World) (moment : ℕ) (key : List ℕ) (time : Time) (options : ExpireOptions) (d : ℤ) (deadline : Option ℕ) (result : Result (List Part) E)
    → d ≡ due moment time → FitsSigned w64 d → is_some (look old key) ≡ true → deadline ≡ deadline_of (look old key)
    → permits options deadline d ≡ true → new ≡ expire old moment key d (look old key) → IfOk result (λ reply. reply ≡ Number (pos 1) ∷ [])
    → IfOk result (λ reply. expire_outcome old moment key time options ≡ leaves reply new)
expire_given old new moment key time options d deadline (Ok reply) is fits there last allowed world told =
    ap (λ n. if is_i64 n then expire_where_permitted old moment key options n (look old key) else refused InvalidExpireTime old) (sym is)
    ∙ ap (λ b. if b then expire_where_permitted old moment key options d (look old key) else refused InvalidExpireTime old) (fits_to d fits)
    ∙ given (look old key) there last ∙ ap (counts 1) (sym world) ∙ ap (λ r. leaves r new) (sym told)
  where
    given : (o : Option Entry) → is_some o ≡ true → deadline ≡ deadline_of o → expire_where_permitted old moment key options d o ≡ counts 1 (expire old moment key d o)
    given None h l = cc
    given (Some e) h l = ap (λ b. if b then counts 1 (expire old moment key d (Some e)) else counts 0 old) (ap (λ x. permits options x d) (sym l) ∙ allowed)
expire_given old new moment key time options d deadline (Err x) is fits there last allowed world told = tt

-- ---- what a command function says is what running the command means

-- a command on keys that a request asks for has its database, its count and its cursor in range
pub fits_keys : (command : KeyCommand) → IsAsked (Keys command) → FitsKeys command
fits_keys command asked = command_fits asked.words (Keys command) asked.means

-- the database of COPY and of MOVE
pub asked_copy : (command : KeyCommand) (from to : List ℕ) (options : CopyOptions) → IsAsked (Keys command) → command ≡ keys.Copy from to options → IsDatabase options.db
asked_copy command from to options asked is = one_of options.db (subst FitsKeys is (fits_keys command asked))
  where
    one_of : (db : Option ℕ) → IsOneOf16 db → IsDatabase db
    one_of None h = tt
    one_of (Some number) h = h

-- the database of a MOVE that a request asks for is one of 16
pub asked_move : (command : KeyCommand) (key : List ℕ) (number : ℕ) → IsAsked (Keys command) → command ≡ keys.MoveKey key number → number < 16
asked_move command key number asked is = subst FitsKeys is (fits_keys command asked)

-- the count of SCAN
pub asked_scan : (command : KeyCommand) (cursor : ℕ) (options : ScanOptions) → IsAsked (Keys command) → command ≡ keys.Scan cursor options → 0 < options.count
asked_scan command cursor options asked is = (subst FitsKeys is (fits_keys command asked)).0

-- a command whose reply shows nothing of the tables
key_shows : {E : Type 0} (P : List Part → Type 0) (result : Result (List Part) E) → ((reply : List Part) → P reply) → IfOk result P
key_shows P (Ok reply) all = all reply
key_shows P (Err x) all = tt

-- what a common command may be answered is its outcome
outcome_connection : (old : World) (moment : ℕ) (command : ConnectionCommand) → IsCommon command → (reply : List Part) (new : World)
    → IsOutcome (connection_outcome moment old command) reply new → may_connection old moment command reply new
outcome_connection old moment connection.MemorySlabs none reply new o = absurd none
outcome_connection old moment (connection.DebugRehash n) none reply new o = absurd none
outcome_connection old moment (connection.DebugDefrag n) none reply new o = absurd none
outcome_connection old moment other none reply new o = o

-- a command on the connection or the server writes no key
connection_writes : (db : ℕ) (command : ConnectionCommand) (number : ℕ) (key : List ℕ) → (connection_scope db command).writes number key → ⊥
connection_writes db connection.DbSize number key named = named.1
connection_writes db other number key named = named

-- a command on the connection or the server ran
pub served_connection : {S E : Type 0} (blocks : S → Blocks) (step : S → S → Type 0) (old new : Keyspace S) (at : Ctx) (command same : ConnectionCommand) (result : Result (List Part) E)
    → command ≡ same → IsCommon command → Serves blocks old new at same result → KeepsOrRefuses blocks step (connection_scope at.db same) old new result
    → ((reply : List Part) → connection_shown blocks old new at same reply) → Runs blocks step old new at (Connection command) result
served_connection {E = E} blocks step old new at command same (Ok reply) is none given kept shown = record {
  answers = outcome_connection (visible blocks old at) at.moment command none reply (visible blocks new at)
      (subst (λ c. IsOutcome (connection_outcome at.moment (visible blocks old at) c) reply (visible blocks new at)) (sym is)
      (outcome_is (connection_outcome at.moment (visible blocks old at) same) reply (visible blocks new at) given));
  kept = subst (λ c. KeepsOrRefuses {E = E} blocks step (connection_scope at.db c) old new (Ok reply)) (sym is) kept;
  shows = subst (λ c. connection_shown blocks old new at c reply) (sym is) (shown reply);
  forms = formed_scope Unwritten (connection_scope at.db same) (connection_writes at.db same) old.bases new.bases (blocks old.store) (blocks new.store) kept.held.within;
}
served_connection {E = E} blocks step old new at command same (Err x) is none given kept shown =
    record { answers = tt; kept = subst (λ c. KeepsOrRefuses {E = E} blocks step (connection_scope at.db c) old new (Err x)) (sym is) kept; shows = tt; forms = tt }

-- one that tells the same in every world
pub told_connection : {S E : Type 0} (blocks : S → Blocks) (step : S → S → Type 0) (keyspace : Keyspace S) (at : Ctx) (command same : ConnectionCommand) (result : Result (List Part) E)
    → command ≡ same → IsCommon command → Tells same result → Ready blocks keyspace at → ((reply : List Part) → connection_shown blocks keyspace keyspace at same reply)
    → Runs blocks step keyspace keyspace at (Connection command) result
told_connection blocks step keyspace at command same result is none told ready shown =
    served_connection blocks step keyspace keyspace at command same result is none (told at.moment (visible blocks keyspace at))
    (unchanged blocks step (connection_scope at.db same) keyspace result ready.sound) shown

-- a command on keys ran that shows nothing of the tables
pub ran_keys : {S E : Type 0} (blocks : S → Blocks) (step : S → S → Type 0) (old new : Keyspace S) (at : Ctx) (command same : KeyCommand) (result : Result (List Part) E)
    → ((reply : List Part) (world : World) → IsOutcome (key_outcome at.moment (visible blocks old at) same) reply world → may_keys old.bases.seed (visible blocks old at) at.moment same reply world)
    → ((reply : List Part) → key_shown old.bases (blocks old.store) at same reply)
    → command ≡ same → Gives blocks old new at same result → KeepsOrRefuses blocks step (key_scope at.db same) old new result → IfOk result
    (λ reply. Formed blocks (key_form at.db (visible blocks old at) same) old new)
    → Runs blocks step old new at (Keys command) result
ran_keys {E = E} blocks step old new at command same result fixed shows is given kept forms =
    subst (λ c. Runs {E = E} blocks step old new at (Keys c) result) (sym is) (record { answers = answers result given; kept = kept; shows = key_shows _ result shows; forms = forms })
  where
    answers : (result : Result (List Part) E) → Gives blocks old new at same result
        → IfOk result (λ reply. may_keys old.bases.seed (visible blocks old at) at.moment same reply (visible blocks new at))
    answers (Ok reply) given = fixed reply (visible blocks new at) (outcome_is (key_outcome at.moment (visible blocks old at) same) reply (visible blocks new at) given)
    answers (Err x) given = tt

-- one that writes none
pub removed_keys : {S E : Type 0} (blocks : S → Blocks) (step : S → S → Type 0) (old new : Keyspace S) (at : Ctx) (command same : KeyCommand) (result : Result (List Part) E)
    → ((reply : List Part) (world : World) → IsOutcome (key_outcome at.moment (visible blocks old at) same) reply world → may_keys old.bases.seed (visible blocks old at) at.moment same reply world)
    → ((reply : List Part) → key_shown old.bases (blocks old.store) at same reply) → ((number : ℕ) (key : List ℕ) → (key_scope at.db same).writes number key → ⊥)
    → command ≡ same → Gives blocks old new at same result → KeepsOrRefuses blocks step (key_scope at.db same) old new result → Runs blocks step old new at (Keys command) result
removed_keys blocks step old new at command same result fixed shows none is given kept =
    ran_keys blocks step old new at command same result fixed shows is given kept
    (formed_ok blocks (key_form at.db (visible blocks old at) same) old new result (formed_scope (key_form at.db (visible blocks old at) same) (key_scope at.db same) none old.bases new.bases
    (blocks old.store) (blocks new.store) kept.held.within))

-- a command on keys only looked
pub asked_keys : {S E : Type 0} (blocks : S → Blocks) (step : S → S → Type 0) (keyspace : Keyspace S) (at : Ctx) (command same : KeyCommand) (result : Result (List Part) E)
    → command ≡ same → IfOk result (λ reply. may_keys keyspace.bases.seed (visible blocks keyspace at) at.moment same reply (visible blocks keyspace at))
    → IfOk result (λ reply. key_shown keyspace.bases (blocks keyspace.store) at same reply) → Ready blocks keyspace at
    → Runs blocks step keyspace keyspace at (Keys command) result
asked_keys {E = E} blocks step keyspace at command same result is given shows ready =
    subst (λ c. Runs {E = E} blocks step keyspace keyspace at (Keys c) result) (sym is)
    (record {
      answers = given;
      kept = unchanged blocks step (key_scope at.db same) keyspace result ready.sound;
      shows = shows;
      forms = unformed blocks
          (key_form at.db (visible blocks keyspace at) same) keyspace result;
    })

-- and told what the model tells
pub told_keys : {S E : Type 0} (blocks : S → Blocks) (step : S → S → Type 0) (keyspace : Keyspace S) (at : Ctx) (command same : KeyCommand) (result : Result (List Part) E)
    →
    ((reply : List Part) (new : World) → IsOutcome (key_outcome at.moment (visible blocks keyspace at) same) reply new
    → may_keys keyspace.bases.seed (visible blocks keyspace at) at.moment same reply new)
    → ((reply : List Part) → key_shown keyspace.bases (blocks keyspace.store) at same reply)
    → command ≡ same → Gives blocks keyspace keyspace at same result → Ready blocks keyspace at → Runs blocks step keyspace keyspace at (Keys command) result
told_keys blocks step keyspace at command same result fixed shows is given ready =
    ran_keys blocks step keyspace keyspace at command same result fixed shows is given (unchanged blocks step (key_scope at.db same) keyspace result ready.sound)
    (unformed blocks (key_form at.db (visible blocks keyspace at) same) keyspace result)

-- what is asked of a key alone leaves the world
pub and_stays : {E : Type 0} (P : List Part → Type 0) (world : World) (result : Result (List Part) E) → IfOk result P → IfOk result (λ reply. P reply × (world ≡ world))
and_stays P world (Ok reply) p = (p, refl)
and_stays P world (Err x) p = tt

-- the name of an encoding that is told is the actual one
pub actual_told : {E : Type 0} (bases : Bases) (m : Blocks) (at : Ctx) (key : List ℕ) (value : Value) (name told : List ℕ) (result : Result (List Part) E)
    → held.Found value_refs value_of bases m at.db key at.moment value → IsEncodedAs m value name → told ≡ name
    → IfOk result (λ reply. reply ≡ Bulk told ∷ []) → IfOk result (λ reply. IsActual bases m at key reply)
actual_told bases m at key value name told (Ok reply) found is same replied = encoded value name found is (replied ∙ ap (λ n. Bulk n ∷ []) same)
actual_told bases m at key value name told (Err x) found is same replied = tt
