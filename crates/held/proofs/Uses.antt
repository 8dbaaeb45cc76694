-- For whoever calls a keyspace: what a command function needs to say that the keyspace is sound after it, and which
-- world it leaves. Each lemma takes the clauses of the calls as they stand.
use Rattle.std.proofs.Common.{◌≡◌, ℕ, ◌+◌, ◌≤◌, List, [], ◌++◌, Option, sym, ap, ◌∙◌, subst, arith}
use Rattle.object_codec.specs.declared.limits.Limits.{Limits}
use Rattle.blocks.specs.declared.BlockRef.{BlockRef}
use Rattle.blocks.specs.Blocks.{Blocks, times, Changes}
use Rattle.blocks.proofs.Times.{times-append}
use Rattle.blocks.proofs.Change.{counts_changed}
use Rattle.plain_world.specs.Worlds.{Value, Entry, put, stand}
use Rattle.plain_world.specs.Worlds as model
use Rattle.held.specs.declared.keyspace.Lifted.{Lifted}
use Rattle.held.specs.Databases.{Bases, SameSettings, means}
use Rattle.stored.specs.Owning.{ReadsOwn}
use Rattle.held.specs.Sound.{IsIntact, Sound, SoundBeside, IsIntactWith, IsArranged}
use Rattle.held.specs.Calls.{HasValue, HasOnly, IsPlace, IsVacant, Lifts, AreParts}
use Rattle.held.specs.Scopes.{Scope, one_key, Within}
use Rattle.held.proofs.Within.{within_then, within_store}
use Rattle.std.specs.FinMap.{get}
use Rattle.plain_world.proofs.Lives.{live_put, live_put_in_time, was_in_time}
use Rattle.held.proofs.Bases.{arranged_out, owned_out, means_out, kept_inside, kept_timed, sound_intact}
use Rattle.held.proofs.Tables.{key_itself}
use Rattle.held.proofs.Calls.{item_owned}

module _ {V : Type 0} {IsSound : Limits → ℕ → Blocks → V → Type 0} (refs_of : Blocks → V → List BlockRef) (value_of : Blocks → V → Value) (own : ReadsOwn refs_of value_of IsSound) where
  -- ---- what is out of the databases changes: a value is made, changed or released

  module _ (bases : Bases V) (m after : Blocks) (out later xs ys : List BlockRef) (sound : SoundBeside refs_of IsSound bases m out) (p : Changes m after xs ys)
      (part : (r : BlockRef) → times r xs ≤ times r out) where
    pub changed_sound_in_uses : ((r : BlockRef) → times r later + times r xs ≡ times r out + times r ys) → SoundBeside refs_of IsSound bases after later
    changed_sound_in_uses same = record {
      owns = λ r. omega (
        arith,
        sound.owns r,
        same r,
        ap (times r) (owned_out refs_of value_of own bases m after out xs ys (sound_intact refs_of value_of own bases m out sound) p part),
        (counts_changed m after xs ys (λ q. omega (arith, sound.owns q, part q)) p).balance r,
      );
      arranged = arranged_out refs_of value_of own bases m after out xs ys (sound_intact refs_of value_of own bases m out sound) p part;
    }

    pub changed_means : (db : ℕ) → means value_of db bases after ≡ means value_of db bases m
    changed_means db = means_out refs_of value_of own bases m after out xs ys (sound_intact refs_of value_of own bases m out sound) p part db

  -- ---- a value is made and put in place of what stands at a key

  module _ (bases : Bases V) (m after : Blocks) (value : V) (sound : Sound refs_of IsSound bases m) (p : Changes m after [] (refs_of after value)) where
    pub made_sound : SoundBeside refs_of IsSound bases after (refs_of after value)
    made_sound = changed_sound_in_uses bases m after [] (refs_of after value) [] (refs_of after value) sound p (λ r. omega arith) (λ r. omega arith)

    -- what `put` asks
    pub made_intact : IsSound bases.limits bases.seed after value → IsIntactWith refs_of IsSound bases after value
    made_intact is_sound = record { owned = λ r. omega (arith, made_sound.owns r); arranged = made_sound.arranged; sound = is_sound }

    pub made_means : (db : ℕ) → means value_of db bases after ≡ means value_of db bases m
    made_means db = changed_means bases m after [] (refs_of after value) [] (refs_of after value) sound p (λ r. omega arith) db

    made_within_in_uses : (scope : Scope) → Within refs_of scope bases bases m after
    made_within_in_uses scope = within_store refs_of value_of own scope bases m after [] [] (refs_of after value) (sound_intact refs_of value_of own bases m [] sound) p (λ r. omega arith)

    module _ (new : Bases V) (later : Blocks) where
      -- from the clause `within` of `put`
      pub put_within_in_uses : (scope : Scope) → Within refs_of scope bases new after later → Within refs_of scope bases new m later
      put_within_in_uses scope clause = within_then refs_of scope bases bases new m after later (made_within_in_uses scope) clause

      -- from the clause `sound` of `put`
      pub put_sound_in_uses : ((all out : List BlockRef) → SoundBeside refs_of IsSound bases after all → AreParts all (refs_of after value) out → SoundBeside refs_of IsSound new later out)
          → Sound refs_of IsSound new later
      put_sound_in_uses clause = clause (refs_of after value) [] made_sound (λ r. omega arith)

      -- from the clause `means` of `put`, or its clause `kept`: the world that the step speaks of
      pub put_means_in_uses : (db moment : ℕ) (key : List ℕ) (entry : Entry) → means value_of db new later ≡ put (means value_of db bases after) key entry
          → model.live (means value_of db new later) moment ≡ stand (model.live (means value_of db bases m) moment) moment key entry
      put_means_in_uses db moment key entry clause = ap (λ w. model.live w moment) (clause ∙ ap (λ w. put w key entry) (made_means db)) ∙ live_put (means value_of db bases m) moment key entry

      pub put_kept : (db moment : ℕ) → means value_of db new later ≡ means value_of db bases after → model.live (means value_of db new later) moment ≡ model.live (means value_of db bases m) moment
      put_kept db moment clause = ap (λ w. model.live w moment) (clause ∙ made_means db)

  -- ---- a value is lifted, changed and lowered again

  module _ (old mid : Bases V) (m after : Blocks) (db moment : ℕ) (key : List ℕ) (lifted changed : Lifted V) (out : List BlockRef) (empty : V)
      (lifts : Lifts refs_of value_of empty old mid m db key moment lifted) (sound : SoundBeside refs_of IsSound mid m (refs_of m lifted.value ++ out))
      (p : Changes m after (refs_of m lifted.value) (refs_of after changed.value)) (same_db : changed.db ≡ lifted.db) (same_item : changed.item ≡ lifted.item) where
    part : (r : BlockRef) → times r (refs_of m lifted.value) ≤ times r (refs_of m lifted.value ++ out)
    part r = omega (arith, times-append r (refs_of m lifted.value) out)

    changed_sound : SoundBeside refs_of IsSound mid after (refs_of after changed.value ++ out)
    changed_sound = changed_sound_in_uses mid m after (refs_of m lifted.value ++ out) (refs_of after changed.value ++ out) (refs_of m lifted.value) (refs_of after changed.value) sound p part
        (λ r. omega (arith, times-append r (refs_of m lifted.value) out, times-append r (refs_of after changed.value) out))

    -- what `lower` asks
    pub lower_intact : IsSound mid.limits mid.seed after changed.value → IsIntactWith refs_of IsSound mid after changed.value
    lower_intact is_sound = record { owned = λ r. omega (arith, changed_sound.owns r, times-append r (refs_of after changed.value) out); arranged = changed_sound.arranged; sound = is_sound }

    pub lower_vacant : IsVacant empty mid changed.db changed.item
    lower_vacant = subst (λ d. IsVacant empty mid d changed.item) (sym (same_db ∙ lifts.same_db)) (subst (IsVacant empty mid db) (sym same_item) lifts.vacant)

    -- the place is that of the key still
    place : IsPlace mid after changed.db changed.item key lifts.deadline
    place =
        subst (λ d. IsPlace mid after d changed.item key lifts.deadline) (sym (same_db ∙ lifts.same_db)) (subst (λ at. IsPlace mid after db at key lifts.deadline) (sym same_item) (record {
          element = lifts.place.element;
          found = lifts.place.found;
          bytes = kept_inside refs_of value_of own mid m after (refs_of m lifted.value ++ out) (refs_of m lifted.value) (refs_of after changed.value)
              (sound_intact refs_of value_of own mid m (refs_of m lifted.value ++ out) sound) p part lifts.place.element.key
              (omega (arith, key_itself lifts.place.element.key, item_owned (refs_of m) mid db lifted.item lifts.place.element lifts.place.element.key lifts.place.found)) ∙ lifts.place.bytes;
          lasts = ap (λ t. get t key)
              (kept_timed refs_of value_of own mid m after (refs_of m lifted.value ++ out) (refs_of m lifted.value) (refs_of after changed.value)
              (sound_intact refs_of value_of own mid m (refs_of m lifted.value ++ out) sound) p part db).1 ∙ lifts.place.lasts;
        }))

    module _ (new : Bases V) where
      -- from the clause `sound` of `lower`
      pub lower_sound :
          ((all rest : List BlockRef) → SoundBeside refs_of IsSound mid after all → AreParts all (refs_of after changed.value) rest → SoundBeside refs_of IsSound new after rest)
          → SoundBeside refs_of IsSound new after out
      lower_sound clause = clause (refs_of after changed.value ++ out) out changed_sound (λ r. times-append r (refs_of after changed.value) out)

      -- from the clause `has` of `lower`
      pub lower_has : ((k : List ℕ) (deadline : Option ℕ) → IsPlace mid after changed.db changed.item k deadline → HasOnly new after changed.db k changed.value)
          → HasOnly new after db key changed.value
      lower_has clause = subst (λ d. HasOnly new after d key changed.value) (same_db ∙ lifts.same_db) (clause key lifts.deadline place)

      -- from the clauses `within` of `lift` and `lower`
      pub lower_within : Within refs_of (one_key db key) old mid m m
          → ((k : List ℕ) (deadline : Option ℕ) → IsPlace mid after changed.db changed.item k deadline → Within refs_of (one_key changed.db k) mid new after after)
          → Within refs_of (one_key db key) old new m after
      lower_within taken clause =
          within_then refs_of (one_key db key) old mid new m m after taken
          (within_then refs_of (one_key db key) mid mid new m after after
          (within_store refs_of value_of own (one_key db key) mid m after (refs_of m lifted.value ++ out) (refs_of m lifted.value) (refs_of after changed.value)
          (sound_intact refs_of value_of own mid m (refs_of m lifted.value ++ out) sound) p part)
          (subst (λ d. Within refs_of (one_key d key) mid new after after) (same_db ∙ lifts.same_db) (clause key lifts.deadline place)))

      -- from the clause `means` of `lower`: the value stands at the key, with the deadline that was there
      pub lower_means :
          ((k : List ℕ) (deadline : Option ℕ) → IsPlace mid after changed.db changed.item k deadline
          → means value_of changed.db new after ≡ put (means value_of changed.db mid after) k (record { value = value_of after changed.value; deadline = deadline }))
          → model.live (means value_of db new after) moment ≡ put (model.live (means value_of db old m) moment) key (record { value = value_of after changed.value; deadline = lifts.deadline })
      lower_means clause =
          let entry : Entry = record { value = value_of after changed.value; deadline = lifts.deadline } in
          ap (λ w. model.live w moment)
          (subst (λ d. means value_of d new after ≡ put (means value_of d mid after) key entry) (same_db ∙ lifts.same_db) (clause key lifts.deadline place)
          ∙ ap (λ w. put w key entry)
          (means_out refs_of value_of own mid m after (refs_of m lifted.value ++ out) (refs_of m lifted.value) (refs_of after changed.value)
          (sound_intact refs_of value_of own mid m (refs_of m lifted.value ++ out) sound) p part db)
          ∙ lifts.back entry)
          ∙ live_put_in_time (means value_of db old m) moment key entry (was_in_time (means value_of db old m) moment key _ lifts.stands).1

  -- ---- what stands at a key is sound

  pub has_sound : (bases : Bases V) (m : Blocks) (db : ℕ) (key : List ℕ) (value : V) → IsArranged IsSound bases m → HasValue bases m db key value → IsSound bases.limits bases.seed m value
  has_sound bases m db key value a has = subst (IsSound bases.limits bases.seed m) has.is (a.values db has.at has.element has.found)

  -- what was lifted is sound over the databases that are left
  pub lifted_sound : (old mid : Bases V) (m : Blocks) (db moment : ℕ) (key : List ℕ) (lifted : Lifted V) (empty : V) → IsArranged IsSound old m → SameSettings old mid
      → Lifts refs_of value_of empty old mid m db key moment lifted → IsSound mid.limits mid.seed m lifted.value
  lifted_sound old mid m db moment key lifted empty a settings lifts =
      subst (λ limits. IsSound limits mid.seed m lifted.value) (sym settings.limits)
      (subst (λ seed. IsSound old.limits seed m lifted.value) (sym settings.seed) (has_sound old m db key lifted.value a lifts.had))
