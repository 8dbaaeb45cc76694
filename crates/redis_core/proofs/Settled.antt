-- What a command leaves when the tables that it touched are settled.
use Rattle.std.proofs.Common.{◌≡◌, inl, inr, ℕ, ◌+◌, ◌<◌, ◌≤◌, zero, suc, get_or, List, [], ◌∷◌, Some, Result, Ok, Err, OnOk, length, refl, sym, ap, ◌∙◌, subst, arith}
use Rattle.std.proofs.lemmas.Bool.{cases_eq, cases_lt, cond-true}
use Rattle.blocks.specs.Blocks.{Blocks, ref_eq}
use Rattle.blocks.proofs.Refs.{ref_eq_refl}
use Rattle.blocks.proofs.Change.{one_if}
use Rattle.rehash_dict.specs.Tables.{IsSettled}
use Rattle.rehash_dict.specs.Table.{tables}
use Rattle.rehash_dict.proofs.MapOf.{map_of_stands}
use Rattle.held.specs.declared.databases.Base.{Base}
use Rattle.held.specs.Table.{Element, item}
use Rattle.held.specs.Databases.{no_base, base_at, table_at, deadlines_at}
use Rattle.keyspace.specs.Sound.{IsArranged}
use Rattle.held.proofs.Calls.{look_stands, look_lacks, deadline_seen}
use Rattle.held.proofs.Timing.{moments_lack}
use Rattle.held.proofs.Within.{within_wider}
use Rattle.plain_world.specs.Worlds.{World, live, look, deadline_of}
use Rattle.plain_world.specs.declared.reply.Part.{Part}
use Rattle.plain_model.specs.Outcomes.{IsRefusal}
use Rattle.plain_model.specs.Steps.{may}
use Rattle.plain_model.specs.declared.command.Command.{Command}
use Rattle.plain_model.specs.declared.ctx.Ctx.{Ctx}
use Rattle.keyspace.specs.declared.value.Value.{Value}
use Rattle.keyspace.specs.Values.{value_of, value_refs, value_own}
use Rattle.keyspace.specs.Databases.{Bases, Keyspace, means}
use Rattle.keyspace.specs.Sound.{Sound}
use Rattle.keyspace.specs.Scopes.{Scope, no_key, Within, AreSettled, scope_of}
use Rattle.keyspace.specs.Commands.{visible, KeepsTo, Runs}
use Rattle.keyspace.proofs.Forming.{formed_by_on}
use Rattle.keyspace.proofs.Running.{held_then, held_in_wider}
use Rattle.keyspace.proofs.Settles.{settles_on}
use Rattle.keyspace.proofs.Serving.{further}
use Rattle.redis_core.specs.declared.settling.Touched.{Touched}
use Rattle.redis_core.specs.declared.settling.Touched.TheVariants.{One, Two}
use Rattle.keyspace.specs.Insides.{size_at, SettlesAt}
use Rattle.keyspace.specs.Shown.{Shows, set_shown, hash_shown, zset_shown, connection_shown}
use Rattle.cmd_keys.specs.Found as found
use Rattle.plain_model.specs.declared.command.Command.TheVariants.{Strings, Lists, Sets, Hashes, Zsets, Streams, Keys, Connection}
use Rattle.plain_model.specs.declared.set_command.SetCommand.{SetCommand}
use Rattle.plain_model.specs.declared.set_command.SetCommand.TheVariants as sets
use Rattle.plain_model.specs.declared.hash_command.HashCommand.{HashCommand}
use Rattle.plain_model.specs.declared.hash_command.HashCommand.TheVariants as hashes
use Rattle.plain_model.specs.declared.zset_command.ZsetCommand.{ZsetCommand}
use Rattle.plain_model.specs.declared.zset_command.ZsetCommand.TheVariants as zsets
use Rattle.plain_model.specs.declared.connection.ConnectionCommand.{ConnectionCommand}
use Rattle.plain_model.specs.declared.connection.ConnectionCommand.TheVariants as connection
use Rattle.redis_core.specs.Touched.{covers, shrinking, touched_of, IsCommon, Lost, Settles}
use Rattle.redis_core.proofs.Fitting.{Fits, fits_of, covers_or}

-- where databases mean what they meant no key is lost
module _ (old new : Bases) (m after : Blocks) (before : IsArranged old m) (later : IsArranged new after) (same : (number : ℕ) → means number new after ≡ means number old m) where
  -- where databases mean what they meant no key table lost a key
  no_key_gone : (db : ℕ) → Lost m after (table_at old db) (table_at new db) → ⊥
  no_key_gone db lost =
      let stood = look_stands value_refs value_of value_own old db m before lost.key lost.at lost.stood.element lost.stood.found lost.stood.bytes _ refl in
      let gone = look_lacks value_refs value_of value_own new db after later lost.key lost.gone in
      let both = sym gone ∙ ap (λ w. look w lost.key) (same db) ∙ stood in cc

  -- where databases mean what they meant no table of deadlines lost a key
  no_deadline_gone : (db : ℕ) → Lost m after (deadlines_at old db).table (deadlines_at new db).table → ⊥
  no_deadline_gone db lost =
      let stood = map_of_stands m (λ v. v) (deadlines_at old db).table lost.at lost.stood.element lost.key (before.timed db).keyed lost.stood.found lost.stood.bytes in
      let gone = moments_lack after (deadlines_at new db) lost.key (later.timed db).keyed lost.gone in
      let one = deadline_seen value_refs value_of value_own old db m before lost.key in
      let two = deadline_seen value_refs value_of value_own new db after later lost.key in
      let both = sym gone ∙ two ∙ ap (λ w. deadline_of (look w lost.key)) (same db) ∙ sym one ∙ stood in cc

  -- where databases mean what they meant no table has to be settled
  pub settles_means : Settles old new m after
  settles_means = record { keys = λ db lost. absurd (no_key_gone db lost); deadlines = λ db lost. absurd (no_deadline_gone db lost) }

-- where nothing changed no key is lost
pub settles_none : (bases : Bases) (m : Blocks) → Settles bases bases m m
settles_none bases m = record {
  keys = λ db lost. absurd (lost.gone.each lost.at lost.stood.element lost.stood.found lost.stood.bytes);
  deadlines = λ db lost. absurd (lost.gone.each lost.at lost.stood.element lost.stood.found lost.stood.bytes);
}

module _ (scope : Scope) (touched : Touched) (fits : Fits scope touched) (old new : Bases) (m after : Blocks) (sound : Sound old m) (within : Within scope old new m after) where
  -- a key of a database that isn't touched stays where it is, with its bytes
  module _ (db : ℕ) (apart : covers touched db → ⊥) where
    -- the scope touches no database but those that the command touches
    untouched : scope.touches db → ⊥
    untouched touches = apart (fits.from db touches)

    -- each key of a database that isn't touched has the bytes that it had
    key_kept : (at : ℕ) (e : Element Value) → item (table_at old db) at ≡ Some e → after e.key ≡ m e.key
    key_kept at e found =
        let itself : one_if (ref_eq e.key e.key) ≡ 1 = cond-true _ _ _ (ref_eq_refl e.key) in
        (within.stayed db at e (ap (λ (b : Base Value). item b.keys at) (within.same db untouched) ∙ found) (λ written. untouched (fits.tight db _ written))).bytes e.key (omega (arith, itself))

    -- the key table of a database that isn't touched lost no key
    no_key_lost : Lost m after (table_at old db) (table_at new db) → ⊥
    no_key_lost lost =
        lost.gone.each lost.at lost.stood.element (ap (λ (b : Base Value). item b.keys lost.at) (within.same db untouched) ∙ lost.stood.found)
        (key_kept lost.at lost.stood.element lost.stood.found ∙ lost.stood.bytes)

    -- the table of deadlines of a database that isn't touched lost no key
    no_deadline_lost : Lost m after (deadlines_at old db).table (deadlines_at new db).table → ⊥
    no_deadline_lost lost =
        let named = (sound.arranged.timed db).names lost.at lost.stood.element lost.stood.found in
        let kept : after lost.stood.element.key ≡ m lost.stood.element.key = ap after (sym named.same) ∙ key_kept named.at named.element named.found ∙ ap m named.same in
        lost.gone.each lost.at lost.stood.element (ap (λ (b : Base Value). item b.deadlines.table lost.at) (within.same db untouched) ∙ lost.stood.found) (kept ∙ lost.stood.bytes)

  -- each table that lost a key is settled, if both tables of each touched database are
  pub settles_from : ((db : ℕ) → covers touched db → AreSettled new db) → Settles old new m after
  settles_from settled = record {
    keys = λ db lost. elim (covers_or touched db) [ inl here ↦ (settled db here).keys | inr apart ↦ absurd (no_key_lost db apart lost) ];
    deadlines = λ db lost. elim (covers_or touched db) [ inl here ↦ (settled db here).deadlines | inr apart ↦ absurd (no_deadline_lost db apart lost) ];
  }

-- what a reply shows of the tables before it, it shows whatever follows
connection_shows_on : {S : Type 0} (blocks : S → Blocks) (old mid new : Keyspace S) (at : Ctx) (same : means at.db new.bases (blocks new.store) ≡ means at.db mid.bases (blocks mid.store))
    (command : ConnectionCommand) → found.IsCommon command → (reply : List Part) → connection_shown blocks old mid at command reply → connection_shown blocks old new at command reply
connection_shows_on blocks old mid new at same connection.DbSize none reply s = same ∙ s
connection_shows_on blocks old mid new at same connection.FlushDb none reply s = same ∙ s
connection_shows_on blocks old mid new at same connection.FlushAll none reply s = λ number below. ap (λ (w : World). w.bases number) same ∙ s number below
connection_shows_on blocks old mid new at same connection.MemorySlabs none reply s = absurd none
connection_shows_on blocks old mid new at same (connection.DebugRehash n) none reply s = absurd none
connection_shows_on blocks old mid new at same (connection.DebugDefrag n) none reply s = absurd none
connection_shows_on blocks old mid new at same other none reply s = tt

-- what a command leaves settled stays so where that holds of each key
module _ {S : Type 0} (blocks : S → Blocks) (old mid new : Keyspace S) (at : Ctx) (on : (key : List ℕ) → SettlesAt blocks old mid at key → SettlesAt blocks old new at key) where
  set_shows_on : (command : SetCommand) (reply : List Part) → set_shown blocks old mid at command reply → set_shown blocks old new at command reply
  set_shows_on (sets.SAdd key others) reply s = tt
  set_shows_on (sets.SRem key others) reply s = on key s
  set_shows_on (sets.SIsMember key member) reply s = tt
  set_shows_on (sets.SMIsMember key others) reply s = tt
  set_shows_on (sets.SMembers key) reply s = tt
  set_shows_on (sets.SCard key) reply s = tt
  set_shows_on (sets.SMove from to member) reply s = on from s
  set_shows_on (sets.SPop key n) reply s = on key s
  set_shows_on (sets.SRandMember key n) reply s = tt
  set_shows_on (sets.SJoin how keys) reply s = tt
  set_shows_on (sets.SJoinStore how to keys) reply s = tt
  set_shows_on (sets.SInterCard keys limit) reply s = tt
  set_shows_on (sets.SScan key cursor options) reply s = s

  hash_shows_on : (command : HashCommand) (reply : List Part) → hash_shown blocks old mid at command reply → hash_shown blocks old new at command reply
  hash_shows_on (hashes.HSet key pairs) reply s = tt
  hash_shows_on (hashes.HMSet key pairs) reply s = tt
  hash_shows_on (hashes.HSetNx key field value) reply s = tt
  hash_shows_on (hashes.HGet key field) reply s = tt
  hash_shows_on (hashes.HMGet key others) reply s = tt
  hash_shows_on (hashes.HDel key others) reply s = on key s
  hash_shows_on (hashes.HExists key field) reply s = tt
  hash_shows_on (hashes.HLen key) reply s = tt
  hash_shows_on (hashes.HStrLen key field) reply s = tt
  hash_shows_on (hashes.HKeys key) reply s = tt
  hash_shows_on (hashes.HVals key) reply s = tt
  hash_shows_on (hashes.HGetAll key) reply s = tt
  hash_shows_on (hashes.HIncrBy key field n) reply s = tt
  hash_shows_on (hashes.HRandField key n with_values) reply s = tt
  hash_shows_on (hashes.HScan key cursor options) reply s = s

  zset_shows_on : (command : ZsetCommand) (reply : List Part) → zset_shown blocks old mid at command reply → zset_shown blocks old new at command reply
  zset_shows_on (zsets.ZAdd key rules ch pairs) reply s = tt
  zset_shows_on (zsets.ZIncr key rules by member) reply s = tt
  zset_shows_on (zsets.ZRem key members) reply s = on key s
  zset_shows_on (zsets.ZScore key member) reply s = tt
  zset_shows_on (zsets.ZMScore key members) reply s = tt
  zset_shows_on (zsets.ZCard key) reply s = tt
  zset_shows_on (zsets.ZCount key min max) reply s = tt
  zset_shows_on (zsets.ZRank key member from with_score) reply s = tt
  zset_shows_on (zsets.ZRange key a b from with_scores) reply s = tt
  zset_shows_on (zsets.ZRangeByScore key min max from limit with_scores) reply s = tt
  zset_shows_on (zsets.ZRemRangeByRank key a b) reply s = on key s
  zset_shows_on (zsets.ZRemRangeByScore key min max) reply s = on key s
  zset_shows_on (zsets.ZPop key from n) reply s = on key s
  zset_shows_on (zsets.ZRandMember key n with_scores) reply s = tt
  zset_shows_on (zsets.ZJoinStore join to keys how) reply s = tt
  zset_shows_on (zsets.ZScan key cursor options) reply s = s

  -- what the reply of a common command shows of the tables before it, it shows whatever follows
  shows_on : means at.db new.bases (blocks new.store) ≡ means at.db mid.bases (blocks mid.store) → (command : Command) → IsCommon command → (reply : List Part)
      → Shows blocks old mid at command reply → Shows blocks old new at command reply
  shows_on same (Strings command) none reply s = tt
  shows_on same (Lists command) none reply s = tt
  shows_on same (Sets command) none reply s = set_shows_on command reply s
  shows_on same (Hashes command) none reply s = hash_shows_on command reply s
  shows_on same (Zsets command) none reply s = zset_shows_on command reply s
  shows_on same (Streams command) none reply s = tt
  shows_on same (Keys command) none reply s = s
  shows_on same (Connection command) none reply s = connection_shows_on blocks old mid new at same command none reply s

-- ---- a command ran, and then its tables were settled

module _ {S E : Type 0} (blocks : S → Blocks) (step : S → S → Type 0) (old mid new : Keyspace S) (at : Ctx) (command : Command) (reply : List Part) (calm : IsRefusal reply → ⊥)
    (ran : Runs {E = E} blocks step old mid at command (Ok reply)) (settled : KeepsTo blocks step (shrinking (touched_of at.db command)) mid new) where
  -- a command and the settling of its tables are together within the command's scope
  both_within : Within (scope_of at.db command) old.bases new.bases (blocks old.store) (blocks new.store)
  both_within = further (scope_of at.db command) old.bases mid.bases new.bases (blocks old.store) (blocks mid.store) (blocks new.store) ran.kept.held.within
      (within_wider value_refs (shrinking (touched_of at.db command)) (scope_of at.db command) (fits_of at.db command).into (λ number key no. absurd no) (λ number no. absurd no) mid.bases
      new.bases (blocks mid.store) (blocks new.store) settled.within)

  -- after a command and the settling of its tables the keyspace is sound, changed within the command's scope
  held_both : KeepsTo blocks step (scope_of at.db command) old new
  held_both = held_then blocks step (scope_of at.db command) old mid new ran.kept.held
      (held_in_wider blocks step (shrinking (touched_of at.db command)) (scope_of at.db command) mid new (fits_of at.db command).into (λ number key no. absurd no) (λ number no. absurd no)
      settled)

  -- a common command with its tables settled behind it runs as it did, where the settling leaves the world
  pub settled_runs : IsCommon command → ((number : ℕ) → means number new.bases (blocks new.store) ≡ means number mid.bases (blocks mid.store)) → Runs {E = E} blocks step old new at command (Ok reply)
  settled_runs none world = record {
    shows = shows_on blocks old mid new at
        (λ key. settles_on blocks at key (shrinking (touched_of at.db command)) (λ no. no) old mid new ran.kept.held.sound.arranged settled.insides
        (ap (λ w. size_at (live w at.moment) key) (world at.db)))
        (world at.db) command none reply ran.shows;
    forms = formed_by_on blocks (shrinking (touched_of at.db command)) at.db (visible blocks old at) command reply old mid new (λ db key no. no) ran.forms settled.within;
    answers = subst (λ w. may old.bases.seed (visible blocks old at) at.moment command reply (live w at.moment)) (sym (world at.db)) ran.answers;
    kept = record { refusals = λ refused. absurd (calm refused); held = held_both };
  }

  -- where the settling behind a command fails, the keyspace is sound, changed within the command's scope
  pub settled_fails : (e : E) → Runs {E = E} blocks step old new at command (Err e)
  settled_fails e = record {
    shows = tt;
    forms = tt;
    answers = tt;
    kept = record { refusals = tt; held = held_both };
  }

  -- where the touched databases are settled, each table that lost a key since the command began is
  pub settled_settles : Sound old.bases (blocks old.store) → ((number : ℕ) → covers (touched_of at.db command) number → AreSettled new.bases number)
      → Settles old.bases new.bases (blocks old.store) (blocks new.store)
  settled_settles sound done = settles_from (scope_of at.db command) (touched_of at.db command) (fits_of at.db command) old.bases new.bases (blocks old.store) (blocks new.store) sound both_within done

-- ---- the tables of databases are settled, one after the other

module _ {S : Type 0} (blocks : S → Blocks) (step : S → S → Type 0) where
  -- those of one of these databases
  pub held_shrinks : (touched : Touched) (db : ℕ) → covers touched db → (old new : Keyspace S) → KeepsTo blocks step (no_key db) old new → KeepsTo blocks step (shrinking touched) old new
  held_shrinks touched db here old new held =
      held_in_wider blocks step (no_key db) (shrinking touched) old new (λ number is. subst (covers touched) (sym is) here) (λ number key no. no.1) (λ number no. no) held

  -- what is settled stays settled while another database's tables are
  pub settled_then : (mid new : Keyspace S) (db other : ℕ) → AreSettled mid.bases db → KeepsTo blocks step (no_key other) mid new → AreSettled new.bases other → AreSettled new.bases db
  settled_then mid new db other first held last = elim (cases_eq db other) [
    | inl same ↦ subst (AreSettled new.bases) (sym same) last
    | inr apart ↦ (let kept : base_at new.bases db ≡ base_at mid.bases db = held.within.same db (λ is. apart is) in
        record {
          keys = subst (λ (b : Base Value). IsSettled (tables b.keys)) (sym kept) first.keys;
          deadlines = subst (λ (b : Base Value). IsSettled (tables b.deadlines.table)) (sym kept) first.deadlines;
        })
  ]

  -- all below a number are settled, and the database of that number too
  pub below_settled : (mid new : Keyspace S) (db : ℕ) → ((number : ℕ) → number < db → AreSettled mid.bases number) → KeepsTo blocks step (no_key db) mid new → AreSettled new.bases db
      → (number : ℕ) → number < db + 1 → AreSettled new.bases number
  below_settled mid new db first held last number below = elim (cases_eq number db) [
    | inl here ↦ subst (AreSettled new.bases) (sym here) last
    | inr apart ↦ settled_then mid new number db (first number (omega (arith, below, apart))) held last
  ]

-- beyond a list's end stands what stands in its place
beyond : {A : Type 0} (xs : List A) (i : ℕ) (other : A) → length xs ≤ i → get_or xs i other ≡ other
beyond [] i other h = refl
beyond (x ∷ xs) zero other h = absurd (omega (arith, h))
beyond (x ∷ xs) (suc i) other h = beyond xs i other (omega (arith, h))

-- where there is no database no table has a bucket
pub all_settled : (bases : Bases) → length bases.bases ≡ 16 → ((number : ℕ) → number < 16 → AreSettled bases number) → (number : ℕ) → AreSettled bases number
all_settled bases sixteen below number = elim (cases_lt number 16) [
  | inl less ↦ below number less
  | inr other ↦ (let none : base_at bases number ≡ no_base 0 = beyond bases.bases number (no_base 0) (omega (arith, other, sixteen)) in
      record {
        keys = subst (λ (b : Base Value). IsSettled (tables b.keys)) (sym none) refl;
        deadlines = subst (λ (b : Base Value). IsSettled (tables b.deadlines.table)) (sym none) refl;
      })
]

-- where a call succeeds what follows from a fact of it holds, if the fact does
pub ok_so : {A E P Q : Type 0} (result : Result A E) → (P → Q) → OnOk result P → OnOk result Q
ok_so (Ok a) f h = f h
ok_so (Err e) f h = tt

-- where only one database is touched and it is settled, each touched one is
pub one_settled : (bases : Bases) (db : ℕ) → AreSettled bases db → (number : ℕ) → covers (One db) number → AreSettled bases number
one_settled bases db done number here = subst (AreSettled bases) (sym here) done

-- where only two databases are touched and both are settled, each touched one is
pub two_settled : (bases : Bases) (db other : ℕ) → AreSettled bases db → AreSettled bases other → (number : ℕ) → covers (Two db other) number → AreSettled bases number
two_settled bases db other first last number here = elim here [ inl one ↦ subst (AreSettled bases) (sym one) first | inr two ↦ subst (AreSettled bases) (sym two) last ]

-- equal accounts of what is touched have the same databases settled
pub covered : (touched same : Touched) → touched ≡ same → (bases : Bases) → ((number : ℕ) → covers same number → AreSettled bases number) → (number : ℕ) → covers touched number
    → AreSettled bases number
covered touched same is bases done number here = done number (subst (λ (t : Touched). covers t number) is here)
