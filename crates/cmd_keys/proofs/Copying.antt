-- A value is lifted, copied and lowered again.
use Rattle.std.proofs.Common.{◌≡◌, inl, inr, ℕ, ◌<◌, ◌≤◌, List, [], ◌++◌, ◌∷◌, Option, Some, true, false, Result, Ok, Err, IfOk, OnOk, OnErr, refl, sym, ap, ◌∙◌, subst, arith}
use Rattle.std.specs.Prelude.{pos, is_some, not, ◌==◌, ◌&&◌, bytes_eq, if◌then◌else◌}
use Rattle.std.specs.FinMap.{get}
use Rattle.std.proofs.lemmas.Bool.{cond-true, cond-false}
use Rattle.blocks.specs.declared.BlockRef.{BlockRef}
use Rattle.blocks.specs.Blocks.{Blocks, times, Changes}
use Rattle.blocks.proofs.Times.{times-append}
use Rattle.blocks.proofs.Change.{owned_others, changes_same}
use Rattle.blocks.proofs.Serve.{served_same}
use Rattle.plain_world.specs.Worlds.{Entry, World, look, put, live, look_in, put_in, selecting, with_base}
use Rattle.plain_world.proofs.Lives.{was_in_time}
use Rattle.plain_world.specs.declared.reply.Part.{Part}
use Rattle.plain_world.specs.declared.reply.Part.TheVariants.{Number}
use Rattle.plain_world.specs.declared.refusal.Refusal.TheVariants.{SameSourceAndDestination}
use Rattle.plain_model.specs.Outcomes.{Outcome, leaves, refused}
use Rattle.plain_model.specs.KeySteps.{counts, or_selected, copy, copy_outcome}
use Rattle.plain_model.specs.declared.keys.CopyOptions.{CopyOptions}
use Rattle.plain_model.specs.declared.ctx.Ctx.{Ctx}
use Rattle.held.proofs.Bases.{kept_inside, kept_timed, means_out}
use Rattle.held.proofs.Tables.{key_itself}
use Rattle.held.proofs.Calls.{item_owned}
use Rattle.held.proofs.Maps.{same_entry}
use Rattle.keyspace.specs.declared.value.Value.{Value}
use Rattle.keyspace.specs.Values.{value_of, value_refs, value_own, value_tables, value_tables_own, IsSound}
use Rattle.keyspace.specs.Databases.{Bases, means}
use Rattle.keyspace.specs.Sound.{IsArranged, IsIntactWith, SoundBeside}
use Rattle.held.specs.Calls.{HasOnly}
use Rattle.keyspace.specs.Calls.{Lifted, IsPlace, Lifts, AreParts}
use Rattle.held.proofs.Within.{within_store, within_wider}
use Rattle.keyspace.specs.Scopes.{one_key, two_keys, Within}
use Rattle.keyspace.specs.Insides.{Insides}
use Rattle.keyspace.specs.Commands.{seen}
use Rattle.keyspace.proofs.Serving.{further}
use Rattle.keyspace.proofs.Uses.{sound_is_intact, changed_sound_in_uses, has_sound}
use Rattle.keyspace.proofs.Insides.{insides_edited, insides_wider, insides_then}
use Rattle.cmd_keys.proofs.KeyLemmas.{some_entry}
use Rattle.cmd_keys.proofs.Emptying.{same_base}
use Rattle.cmd_keys.proofs.Moving.{live_put_in}

-- what stands at a key is what is put there
put_same : (w : World) (key : List ℕ) (e : Entry) → look w key ≡ Some e → put w key e ≡ w
put_same w key e is = ap (with_base w) (same_entry (w.bases w.selected) key e is) ∙ same_base w

module _ (old mid : Bases) (m own after : Blocks) (db moment : ℕ) (key : List ℕ) (lifted : Lifted) (extra : List BlockRef) (stays : own ≡ m) (lifts : Lifts old mid m db key moment lifted)
    (sound : SoundBeside mid m (value_refs m lifted.value ++ [])) (changes : Changes own after [] extra) where
  p : Changes m after [] extra
  p = subst (λ b. Changes b after [] extra) stays changes

  out : List BlockRef
  out = value_refs m lifted.value ++ []

  nothing : (r : BlockRef) → times r [] ≤ times r (value_refs m lifted.value ++ [])
  nothing r = omega arith

  beside : SoundBeside mid after (value_refs m lifted.value ++ extra)
  beside =
      changed_sound_in_uses mid m after (value_refs m lifted.value ++ []) (value_refs m lifted.value ++ extra) [] extra sound p nothing
      (λ r. omega (arith, times-append r (value_refs m lifted.value) [], times-append r (value_refs m lifted.value) extra))

  -- the value's own blocks stay
  own_kept : (r : BlockRef) → 0 < times r (value_refs m lifted.value) → after r ≡ m r
  own_kept r within = owned_others m after [] extra (value_refs m lifted.value) lifts.owned p r within refl

  refs_kept : value_refs after lifted.value ≡ value_refs m lifted.value
  refs_kept = value_own.refs m after lifted.value own_kept

  pub copy_intact : IsSound mid.limits mid.seed m lifted.value → IsIntactWith mid after lifted.value
  copy_intact is_sound = record {
    owned = λ r. omega (arith, beside.owns r, times-append r (value_refs m lifted.value) extra, ap (times r) refs_kept);
    arranged = beside.arranged;
    sound = value_own.stays mid.limits mid.seed m after lifted.value own_kept is_sound;
  }

  place : IsPlace mid after lifted.db lifted.item key lifts.deadline
  place =
      let intact = sound_is_intact mid m (value_refs m lifted.value ++ []) sound in
      subst (λ d. IsPlace mid after d lifted.item key lifts.deadline) (sym lifts.same_db) (record {
        element = lifts.place.element;
        found = lifts.place.found;
        bytes = kept_inside value_refs value_of value_own mid m after (value_refs m lifted.value ++ []) [] extra intact p nothing lifts.place.element.key
            (omega (arith, key_itself lifts.place.element.key, item_owned (value_refs m) mid db lifted.item lifts.place.element lifts.place.element.key lifts.place.found)) ∙ lifts.place.bytes;
        lasts = ap (λ t. get t key) (kept_timed value_refs value_of value_own mid m after (value_refs m lifted.value ++ []) [] extra intact p nothing db).1 ∙ lifts.place.lasts;
      })

  value_kept : value_of after lifted.value ≡ value_of m lifted.value
  value_kept = value_own.means m after lifted.value own_kept

  module _ (new : Bases) (later : Blocks) (same : later ≡ after) where
    pub copy_sound : ((all rest : List BlockRef) → SoundBeside mid after all → AreParts all (value_refs after lifted.value) rest → SoundBeside new after rest) → SoundBeside new later extra
    copy_sound clause = subst (λ b. SoundBeside new b extra) (sym same)
        (clause (value_refs m lifted.value ++ extra) extra beside (λ r. omega (arith, times-append r (value_refs m lifted.value) extra, ap (times r) refs_kept)))

    -- from the clauses `within` of `lift` and `lower`
    pub copy_within : Within (one_key db key) old mid m m →
        ((k : List ℕ) (deadline : Option ℕ) → IsPlace mid after lifted.db lifted.item k deadline → Within (one_key lifted.db k) mid new after after)
        → Within (one_key db key) old new m later
    copy_within taken clause =
        subst (Within (one_key db key) old new m) (sym same)
        (further (one_key db key) old mid new m m after taken
        (further (one_key db key) mid mid new m after after
        (within_store value_refs value_of value_own (one_key db key) mid m after (value_refs m lifted.value ++ []) [] extra (sound_is_intact mid m (value_refs m lifted.value ++ []) sound) p nothing)
        (subst (λ d. Within (one_key d key) mid new after after) lifts.same_db (clause key lifts.deadline place))))

    -- the value that was copied has the tables that it had
    pub copy_insides : IsArranged old m → IsArranged new later → Within (one_key db key) old new m later → HasOnly new later db key lifted.value → Insides (one_key db key) old new m later
    copy_insides before arranged within only =
        let sound : IsSound old.limits old.seed m lifted.value = has_sound old m db key lifted.value before lifts.had in
        let tables : value_tables later lifted.value ≡ value_tables m lifted.value =
        ap (λ b. value_tables b lifted.value) same ∙ value_tables_own old.limits old.seed m after lifted.value own_kept sound in
        insides_edited db key lifted.value lifted.value old new m later before arranged within lifts.had only (served_same _ _ tables)

    -- from the clause `has` of `lower`
    pub copy_has : ((k : List ℕ) (deadline : Option ℕ) → IsPlace mid after lifted.db lifted.item k deadline → HasOnly new after lifted.db k lifted.value) → HasOnly new later db key lifted.value
    copy_has clause = subst (λ b. HasOnly new b db key lifted.value) (sym same) (subst (λ d. HasOnly new after d key lifted.value) lifts.same_db (clause key lifts.deadline place))

    pub copy_means :
        ((k : List ℕ) (deadline : Option ℕ) → IsPlace mid after lifted.db lifted.item k deadline
        → means lifted.db new after ≡ put (means lifted.db mid after) k (record { value = value_of after lifted.value; deadline = deadline }))
        → means db new later ≡ means db old m
    copy_means clause =
        let entry : Entry = record { value = value_of after lifted.value; deadline = lifts.deadline } in
        let there = (was_in_time (means db old m) moment key _ lifts.stands).0 ∙ ap (λ v. Some (record { value = v; deadline = lifts.deadline })) (sym value_kept) in
        ap (means db new) same
        ∙ subst (λ d. means d new after ≡ put (means d mid after) key entry) lifts.same_db (clause key lifts.deadline place)
        ∙ ap (λ w. put w key entry)
        (means_out value_refs value_of value_own mid m after (value_refs m lifted.value ++ []) [] extra (sound_is_intact mid m (value_refs m lifted.value ++ []) sound) p nothing db)
        ∙ lifts.back entry ∙ put_same (means db old m) key entry there

  -- the copy means what stands at the key
  pub copy_value : (later : Blocks) → later ≡ after → (copy : Value) → value_of after copy ≡ value_of own lifted.value → (entry : Entry)
      → look (live (means db old m) moment) key ≡ Some entry → value_of later copy ≡ entry.value
  copy_value later same copy is entry stands =
      let found : Some (record { value = value_of m lifted.value; deadline = lifts.deadline }) ≡ Some entry = sym lifts.stands ∙ stands in
      let one : record { value = value_of m lifted.value; deadline = lifts.deadline } ≡ entry = cc in
      ap (λ b. value_of b copy) same ∙ is ∙ ap (λ b. value_of b lifted.value) stays ∙ ap (λ (e : Entry). e.value) one

-- the copy is put at a key of a database
pub copied_put : (at : Ctx) (old mid new : Bases) (m own later : Blocks) (number : ℕ) (key : List ℕ) (from : List ℕ) (copy : Value) (deadline : Option ℕ) (entry : Entry)
    → look (seen at old m) from ≡ Some entry → means at.db mid own ≡ means at.db old m
    → value_of own copy ≡ entry.value → deadline ≡ entry.deadline → means number new later ≡ put (means number mid own) key (record { value = value_of own copy; deadline = deadline })
    → seen at new later ≡ put_in (seen at old m) number key entry
copied_put at old mid new m own later number key from copy deadline entry stands world value last clause =
    let late = (was_in_time (means at.db old m) at.moment from entry stands).1 in
    let same : record { value = value_of own copy; deadline = deadline } ≡ entry = λ i. record { value = value i; deadline = last i } in
    ap (λ w. live (selecting w at.db) at.moment)
    (clause ∙ ap (λ w. put (selecting w number) key (record { value = value_of own copy; deadline = deadline })) world ∙ ap (put (selecting (means at.db old m) number) key) same)
    ∙ live_put_in (means at.db old m) number at.moment key entry late

-- blocks were placed for the copy, or none
pub copy_changed : {E : Type 0} (own after : Blocks) (result : Result Value E) → IfOk result (λ value. Changes own after [] (value_refs after value)) → OnErr result (after ≡ own)
    → (extra : List BlockRef) × Changes own after [] extra
copy_changed own after (Ok value) changes same = (value_refs after value, changes)
copy_changed own after (Err x) changes same = ([], same_changes own after same)
  where
    same_changes : (a b : Blocks) → b ≡ a → Changes a b [] []
    same_changes a b is = subst (λ c. Changes a c [] []) (sym is) (changes_same a [] (λ r. omega arith))

pub err_changed : (own after : Blocks) → after ≡ own → Changes own after [] []
err_changed own after is = subst (λ c. Changes own c [] []) (sym is) (changes_same own [] (λ r. omega arith))

pub on_ok_so : {A E P Q : Type 0} (result : Result A E) → (P → Q) → OnOk result P → OnOk result Q
on_ok_so (Ok a) f h = f h
on_ok_so (Err e) f h = tt

-- ---- the step

module _ (old : World) (from to : List ℕ) (options : CopyOptions) (number : ℕ) (is : or_selected old options.db ≡ number) where
  abbrev outcome_at : ℕ → Outcome
  outcome_at n = if (n == old.selected) && bytes_eq from to then refused SameSourceAndDestination old else copy old n to options.replace (look old from)

  apart : ((number == old.selected) && bytes_eq from to) ≡ false → copy_outcome old from to options ≡ copy old number to options.replace (look old from)
  apart other = ap (λ n. outcome_at n) is ∙ cond-false ((number == old.selected) && bytes_eq from to) (refused SameSourceAndDestination old) (copy old number to options.replace (look old from)) other

  pub copy_done : {E : Type 0} (new : World) (result : Result (List Part) E) → ((number == old.selected) && bytes_eq from to) ≡ false → is_some (look old from) ≡ true
      → (is_some (look_in old number to) && not options.replace) ≡ false
      → ((entry : Entry) → look old from ≡ Some entry → new ≡ put_in old number to entry) → IfOk result (λ reply. reply ≡ Number (pos 1) ∷ [])
      → IfOk result (λ reply. copy_outcome old from to options ≡ leaves reply new)
  copy_done new (Ok reply) other there free world told =
      let e = some_entry (look old from) there in
      apart other ∙ ap (copy old number to options.replace) e.1
      ∙ cond-false (is_some (look_in old number to) && not options.replace) (counts 0 old) (counts 1 (put_in old number to e.0)) free
      ∙ ap (λ r. leaves r (put_in old number to e.0)) (sym told) ∙ ap (leaves reply) (sym (world e.0 e.1))
  copy_done new (Err x) other there free world told = tt

  pub copy_stopped : {E : Type 0} (result : Result (List Part) E) → ((number == old.selected) && bytes_eq from to) ≡ false → is_some (look old from) ≡ true
      → (is_some (look_in old number to) && not options.replace) ≡ true
      → IfOk result (λ reply. reply ≡ Number (pos 0) ∷ []) → IfOk result (λ reply. copy_outcome old from to options ≡ leaves reply old)
  copy_stopped (Ok reply) other there taken told =
      let e = some_entry (look old from) there in
      apart other ∙ ap (copy old number to options.replace) e.1
      ∙ cond-true (is_some (look_in old number to) && not options.replace) (counts 0 old) (counts 1 (put_in old number to e.0)) taken
      ∙ ap (λ r. leaves r old) (sym told)
  copy_stopped (Err x) other there taken told = tt

-- ---- what changes: the place of the key that is copied, and the key that the copy is put at

pub copied_within : (db : ℕ) (from : List ℕ) (number : ℕ) (to : List ℕ) (old mid new : Bases) (m own after : Blocks) → Within (one_key db from) old mid m own
    → Within (one_key number to) mid new own after → Within (two_keys db from number to) old new m after
copied_within db from number to old mid new m own after p q =
    further (two_keys db from number to) old mid new m own after
    (within_wider value_refs (one_key db from) (two_keys db from number to) (λ n here. inl here) (λ n key named. inl named) (λ n no. no) old mid m own p)
    (within_wider value_refs (one_key number to) (two_keys db from number to) (λ n here. inr here) (λ n key named. inr named) (λ n no. no) mid new own after q)

pub first_within : (db : ℕ) (from : List ℕ) (number : ℕ) (to : List ℕ) (old mid : Bases) (m own : Blocks) → Within (one_key db from) old mid m own → Within (two_keys db from number to) old mid m own
first_within db from number to old mid m own p = within_wider value_refs (one_key db from) (two_keys db from number to) (λ n here. inl here) (λ n key named. inl named) (λ n no. no) old mid m own p

-- ---- the tables inside values

pub first_insides : (db : ℕ) (from : List ℕ) (number : ℕ) (to : List ℕ) (old mid : Bases) (m own : Blocks) → Insides (one_key db from) old mid m own
    → Insides (two_keys db from number to) old mid m own
first_insides db from number to old mid m own p = insides_wider (one_key db from) (two_keys db from number to) (λ n key named. inl named) old mid m own p

pub copied_insides : (db : ℕ) (from : List ℕ) (number : ℕ) (to : List ℕ) (old mid new : Bases) (m own after : Blocks) → mid.seed ≡ old.seed → Insides (one_key db from) old mid m own
    → Insides (one_key number to) mid new own after → Insides (two_keys db from number to) old new m after
copied_insides db from number to old mid new m own after seed p q =
    insides_then (two_keys db from number to) old mid m own seed (first_insides db from number to old mid m own p) new after
    (insides_wider (one_key number to) (two_keys db from number to) (λ n key named. inr named) mid new own after q)
