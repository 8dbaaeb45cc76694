-- What commands tell of the hash at a key, from how it was changed.
use Rattle.std.proofs.Common.{◌≡◌, true, false, ℕ, ◌-◌, List, [], ◌∷◌, Option, None, Some, Result, Ok, Err, IfOk, OnOk, refl, sym, ap, subst, ◌∙◌}
use Rattle.std.specs.Prelude.{pos, is_some, codes, if◌then◌else◌}
use Rattle.std.specs.FinMap.{empty, len, get, insert}
use Rattle.blocks.specs.Blocks.{Blocks}
use Rattle.object_codec.specs.declared.form.Form.{Form}
use Rattle.hash_object.specs.Maps.{FitsFields}
use Rattle.plain_world.specs.Worlds.{World, Entry, look}
use Rattle.plain_world.specs.declared.reply.Part.{Part}
use Rattle.plain_world.specs.declared.reply.Part.TheVariants.{Number, Simple}
use Rattle.plain_model.specs.Outcomes.{Outcome, leaves}
use Rattle.plain_model.specs.OfType.{hash_in, on_type}
use Rattle.plain_model.specs.HashSteps.{Fields, on_hash, or_no_fields, keep_hash, set_all, set_fields, set_missing, unset_fields, hash_outcome}
use Rattle.plain_model.specs.ListSteps.{tells_number}
use Rattle.plain_model.specs.declared.ctx.Ctx.{Ctx}
use Rattle.plain_model.specs.declared.hash_command.HashCommand.TheVariants as hashes
use Rattle.held.proofs.Timing.{some_none}
use Rattle.held.proofs.Written.{written_key}
use Rattle.keyspace.specs.Values.{OfForm, value_refs}
use Rattle.keyspace.specs.Databases.{Keyspace}
use Rattle.keyspace.specs.Scopes.{one_key}
use Rattle.keyspace.specs.Forms.{AsAt, HasForm, Formed, IsHashRisen, IsSourceForm, RisesBy, hash_of, hash_at, hash_to, hash_form, Unwritten}
use Rattle.keyspace.proofs.Forming.{formed_ok}
use Rattle.keyspace.specs.Commands.{KeepsTo, visible}
use Rattle.cmd_hashes.specs.Changed.{HasHash, IsBefore, IsValue, Made, HashChanged}
use Rattle.cmd_hashes.specs.Set.{IsSet, Unsets}

-- ---- the hash that was there

pub on_before : (world : World) (key : List ℕ) (before : Option Fields) (answer : Option Fields → Outcome) → IsBefore world key before → on_hash world key answer ≡ answer before
on_before world key None answer is = ap (λ (o : Option Entry). on_type hash_in world o answer) is
on_before world key (Some fields) answer is = ap (λ (o : Option Entry). on_type hash_in world o answer) is.stands

pub fields_before : (world : World) (key : List ℕ) (before : Option Fields) → IsBefore world key before → hash_at world key ≡ or_no_fields before
fields_before world key None is = ap hash_of is
fields_before world key (Some fields) is = ap hash_of is.stands

pub there_before : (world : World) (key : List ℕ) (before : Option Fields) → IsBefore world key before → is_some (look world key) ≡ is_some before
there_before world key None is = ap is_some is
there_before world key (Some fields) is = ap is_some is.stands

-- a hash that stands at the key is the one that was there
pub before_is : (world : World) (key : List ℕ) (before : Option Fields) (fields : Fields) → IsBefore world key before → HasHash world key fields → before ≡ Some fields
before_is world key None fields is has = some_none _ _ has.stands is
before_is world key (Some other) fields is has = ap Some (ap hash_of (sym is.stands ∙ has.stands))

-- a fact that holds anyway holds where a call succeeds
pub if_ok : {A E P : Type 0} (result : Result A E) → P → IfOk result (λ a. P)
if_ok (Ok a) h = h
if_ok (Err e) h = tt

pub on_ok : {A E P : Type 0} (result : Result A E) → P → OnOk result P
on_ok (Ok a) h = h
on_ok (Err e) h = tt

-- ---- values set in a hash

-- HSET tells how many fields are new
pub set_told : {X : Type 0} (old new : World) (key : List ℕ) (pairs : List (List ℕ × List ℕ)) (fresh : ℕ) → IsSet old key pairs fresh new → (result : Result (List Part) X)
    → IfOk result (λ reply. reply ≡ Number (pos fresh) ∷ [])
    → IfOk result (λ reply. hash_outcome old (hashes.HSet key pairs) ≡ leaves reply new)
set_told old new key pairs fresh s (Err x) told = tt
set_told old new key pairs fresh s (Ok reply) told =
    let map = set_all (or_no_fields s.before) pairs in
    on_before old key s.before (λ before. set_fields old key pairs (or_no_fields before)) s.stands
    ∙ ap (λ n. leaves (Number (pos n) ∷ []) (keep_hash old key map)) (sym s.counted)
    ∙ ap (λ r. leaves r (keep_hash old key map)) (sym told)
    ∙ ap (leaves reply) (sym s.world)

-- HMSET tells none
pub set_ok : {X : Type 0} (old new : World) (key : List ℕ) (pairs : List (List ℕ × List ℕ)) (fresh : ℕ) (line : List ℕ) → IsSet old key pairs fresh new → line ≡ codes "OK"
    → (result : Result (List Part) X) → IfOk result (λ reply. reply ≡ Simple line ∷ [])
    → IfOk result (λ reply. hash_outcome old (hashes.HMSet key pairs) ≡ leaves reply new)
set_ok old new key pairs fresh line s ok (Err x) told = tt
set_ok old new key pairs fresh line s ok (Ok reply) told =
    let map = set_all (or_no_fields s.before) pairs in
    on_before old key s.before (λ before. leaves (Simple (codes "OK") ∷ []) (keep_hash old key (set_all (or_no_fields before) pairs))) s.stands
    ∙ ap (λ l. leaves (Simple l ∷ []) (keep_hash old key map)) (sym ok)
    ∙ ap (λ r. leaves r (keep_hash old key map)) (sym told)
    ∙ ap (leaves reply) (sym s.world)

-- what stood at a key is one
same_before : (world : World) (key : List ℕ) (a b : Option Fields) → IsBefore world key a → IsBefore world key b → a ≡ b
same_before world key None None p q = refl
same_before world key None (Some b) p q = some_none _ _ q.stands p
same_before world key (Some a) None p q = some_none _ _ p.stands q
same_before world key (Some a) (Some b) p q = ap Some (ap hash_of (sym p.stands ∙ q.stands))

-- the value that was found of a field stood in the hash that was there
pub value_is : (world : World) (key field : List ℕ) (value : Option (List ℕ)) (before : Option Fields) → IsValue world key field value → IsBefore world key before
    → get (or_no_fields before) field ≡ value
value_is world key field value before v stands = ap (λ (b : Option Fields). get (or_no_fields b) field) (same_before world key before v.before stands v.stands) ∙ v.is

-- HSETNX leaves a field that is there
pub kept_told : {X : Type 0} (old : World) (key field value : List ℕ) (found : Option (List ℕ)) → IsValue old key field found → is_some found ≡ true → (result : Result (List Part) X)
    → IfOk result (λ reply. reply ≡ Number (pos 0) ∷ [])
    → IfOk result (λ reply. hash_outcome old (hashes.HSetNx key field value) ≡ leaves reply old)
kept_told old key field value found v there (Err x) told = tt
kept_told old key field value found v there (Ok reply) told =
    let map = or_no_fields v.before in
    on_before old key v.before (λ b. set_missing old key field value (or_no_fields b)) v.stands
    ∙ ap (λ b. if b then tells_number (pos 0) old else tells_number (pos 1) (keep_hash old key (insert map field value))) (ap is_some v.is ∙ there)
    ∙ ap (λ r. leaves r old) (sym told)

-- and sets one that is not
pub missing_told : {X : Type 0} (old new : World) (key field value : List ℕ) (found : Option (List ℕ)) (fresh : ℕ) → IsSet old key ((field, value) ∷ []) fresh new
    → IsValue old key field found → is_some found ≡ false → (result : Result (List Part) X)
    → IfOk result (λ reply. reply ≡ Number (pos 1) ∷ []) → IfOk result (λ reply. hash_outcome old (hashes.HSetNx key field value) ≡ leaves reply new)
missing_told old new key field value found fresh s v lacks (Err x) told = tt
missing_told old new key field value found fresh s v lacks (Ok reply) told =
    let map = or_no_fields s.before in
    on_before old key s.before (λ b. set_missing old key field value (or_no_fields b)) s.stands
    ∙ ap (λ b. if b then tells_number (pos 0) old else tells_number (pos 1) (keep_hash old key (insert map field value))) (ap is_some (value_is old key field found s.before v s.stands) ∙ lacks)
    ∙ ap (λ r. leaves r (keep_hash old key (insert map field value))) (sym told)
    ∙ ap (leaves reply) (sym s.world)

-- HDEL finds nothing to take out
pub none_removed : {X : Type 0} (old : World) (key : List ℕ) (names : List (List ℕ)) → look old key ≡ None → (result : Result (List Part) X) → IfOk result (λ reply. reply ≡ Number (pos 0) ∷ [])
    → IfOk result (λ reply. hash_outcome old (hashes.HDel key names) ≡ leaves reply old)
none_removed old key names none (Err x) told = tt
none_removed old key names none (Ok reply) told = on_before old key None (unset_fields old key names) none ∙ ap (λ r. leaves r old) (sym told)

-- or tells how many fields were there
pub removed_told : {X : Type 0} (old new : World) (key : List ℕ) (names : List (List ℕ)) (gone : ℕ) (before : Option Fields) (fields : Fields) (from : Form) (now : Fields) (form : Form)
    → IsBefore old key before → HasHash old key fields
    → Unsets names gone (or_no_fields before) from now form → new ≡ keep_hash old key now → (result : Result (List Part) X) → IfOk result (λ reply. reply ≡ Number (pos gone) ∷ [])
    → IfOk result (λ reply. hash_outcome old (hashes.HDel key names) ≡ leaves reply new)
removed_told old new key names gone before fields from now form stands has u world (Err x) told = tt
removed_told old new key names gone before fields from now form stands has u world (Ok reply) told =
    let map = or_no_fields before in
    let same : fields ≡ map = ap or_no_fields (sym (before_is old key before fields stands has)) in
    on_before old key (Some fields) (unset_fields old key names) has
    ∙ ap (λ f. unset_fields old key names (Some f)) same
    ∙ ap (λ m. leaves (Number (pos (len map - len m)) ∷ []) (keep_hash old key m)) (sym u.is)
    ∙ ap (λ n. leaves (Number (pos n) ∷ []) (keep_hash old key now)) (sym u.counted)
    ∙ ap (λ r. leaves r (keep_hash old key now)) (sym told)
    ∙ ap (leaves reply) (sym world)

module _ {S : Type 0} (own : Made) (blocks : S → Blocks) (step : S → S → Type 0) (old new : Keyspace S) (at : Ctx) (key : List ℕ) (p : HashChanged own keep_hash blocks old new at key)
    (held : KeepsTo blocks step (one_key at.db key) old new) where
  -- the hash that was written has risen
  pub formed_risen : (pairs : List (List ℕ × List ℕ)) → RisesBy old.bases.limits p.from (or_no_fields p.before) pairs p.form → Formed blocks (hash_to at.db (visible blocks old at) key pairs) old new
  formed_risen pairs risen =
      let world = visible blocks old at in
      written_key value_refs (IsHashRisen (is_some (look world key)) (hash_at world key) pairs at.db key old.bases (blocks old.store)) at.db key p.value
      (record {
        from = p.from;
        form = p.form;
        at = subst (λ t. IsSourceForm t (FitsFields old.bases.limits empty) old.bases (blocks old.store) at.db key p.from) (sym (there_before world key p.before p.stands)) p.was_form;
        is = p.encoded;
        risen = subst (λ (f : Fields). RisesBy old.bases.limits p.from f pairs p.form) (sym (fields_before world key p.before p.stands)) risen;
      }) old.bases new.bases (blocks old.store) (blocks new.store) held.within held.sound.arranged p.only

  -- or has its form still
  pub formed_as : (fields : Fields) → p.before ≡ Some fields → p.form ≡ p.from → Formed blocks (AsAt at.db key) old new
  formed_as fields is same =
      let had = subst (λ (b : Option Fields). IsSourceForm (is_some b) (FitsFields old.bases.limits empty) old.bases (blocks old.store) at.db key p.from) is p.was_form in
      written_key value_refs (HasForm (AsAt at.db key) old.bases (blocks old.store)) at.db key p.value
      (had.0, had.1, p.encoded ∙ ap OfForm same ∙ sym had.2)
      old.bases new.bases (blocks old.store) (blocks new.store) held.within held.sound.arranged p.only

-- HSETNX set the value of a field that was missing
pub set_where_missing : {S E : Type 0} (blocks : S → Blocks) (old new : Keyspace S) (world : World) (db : ℕ) (key field value : List ℕ) (found : Option (List ℕ)) (result : Result (List Part) E)
    → IsValue world key field found → is_some found ≡ false → Formed blocks (hash_to db world key ((field, value) ∷ [])) old new
    → IfOk result (λ reply. Formed blocks (hash_form db world (hashes.HSetNx key field value)) old new)
set_where_missing blocks old new world db key field value found result v lacks formed =
    let none : is_some (get (hash_at world key) field) ≡ false = ap (λ (m : Fields). is_some (get m field)) (fields_before world key v.before v.stands) ∙ ap is_some v.is ∙ lacks in
    subst (λ b. IfOk result (λ reply. Formed blocks (if b then Unwritten else hash_to db world key ((field, value) ∷ [])) old new)) (sym none)
    (formed_ok blocks (hash_to db world key ((field, value) ∷ [])) old new result formed)
