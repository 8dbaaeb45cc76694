-- What replies tell of sets, and how sets that were changed are encoded.
use Rattle.std.proofs.Common.{◌≡◌, ℕ, ◌+◌, ◌-◌, ◌<◌, List, [], ◌∷◌, ◌++◌, length, Option, None, Some, Result, Ok, Err, IfOk, sym, ap, ◌∙◌, subst, arith}
use Rattle.std.specs.Prelude.{ℤ, pos, is_some}
use Rattle.std.specs.FinMap.{empty, len}
use Rattle.blocks.specs.Blocks.{Blocks}
use Rattle.object_codec.specs.declared.form.Form.{Form}
use Rattle.object_codec.specs.declared.limits.Limits.{Limits}
use Rattle.set_object.specs.Strings.{FitsMembers}
use Rattle.plain_world.specs.Worlds.{World, Entry, look}
use Rattle.plain_world.specs.Parts.{AreReplies, IsReply}
use Rattle.plain_world.specs.declared.reply.Part.{Part}
use Rattle.plain_world.specs.declared.reply.Part.TheVariants.{Array, Number}
use Rattle.plain_model.specs.Outcomes.{Outcome, IsRefusal, leaves}
use Rattle.plain_model.specs.OfType.{set_in, on_type}
use Rattle.plain_model.specs.SetSteps.{Members, on_set, or_no_members, keep_set, add_members, drop_all, drop_members, set_outcome}
use Rattle.plain_model.specs.declared.ctx.Ctx.{Ctx}
use Rattle.plain_model.specs.declared.set_command.SetCommand.TheVariants as sets
use Rattle.held.specs.Calls.{AllAt}
use Rattle.held.proofs.Timing.{some_none}
use Rattle.keyspace.specs.Values.{OfForm}
use Rattle.keyspace.specs.Databases.{Keyspace}
use Rattle.keyspace.specs.Scopes.{one_key}
use Rattle.keyspace.specs.Forms.{AsAt, HasForm, Formed, RisesWith, IsSourceForm, set_of, set_at, set_with}
use Rattle.keyspace.specs.Commands.{KeepsTo, visible}
use Rattle.keyspace.proofs.Forming.{formed_key}
use Rattle.cmd_sets.specs.Found.{told_each}
use Rattle.cmd_sets.specs.Changed.{HasSet, IsBefore, SetChanged, IsLasting}
use Rattle.cmd_sets.specs.Edited.{Adds, Drops}

-- what is told are so many replies
told_are_replies : (members : Members) (words : List (List ℕ)) → AreReplies (length words) (told_each members words)
told_are_replies members [] = tt
told_are_replies members (word ∷ words) = let e : length words + 0 ≡ length words = omega arith in subst (λ n. AreReplies n (told_each members words)) (sym e) (told_are_replies members words)

-- an array of them is one reply
pub each_is_reply : (members : Members) (words : List (List ℕ)) → IsReply (Array (length words) ∷ told_each members words)
each_is_reply members words = let e : 0 + length words ≡ length words = omega arith in subst (λ n. AreReplies n (told_each members words)) (sym e) (told_are_replies members words)

-- the head of an array, and what is told behind it
pub each_parts : (members : Members) (words : List (List ℕ)) (first mid new : List Part) → first ≡ [] → mid ≡ first ++ Array (length words) ∷ [] → new ≡ mid ++ told_each members words
    → new ≡ Array (length words) ∷ told_each members words
each_parts members words first mid new e f h = h ∙ ap (λ l. l ++ told_each members words) (f ∙ ap (λ l. l ++ Array (length words) ∷ []) e)

-- ---- the set that was there

pub on_before : (world : World) (key : List ℕ) (before : Option Members) (answer : Option Members → Outcome) → IsBefore world key before → on_set world key answer ≡ answer before
on_before world key None answer is = ap (λ (o : Option Entry). on_type set_in world o answer) is
on_before world key (Some set) answer is = ap (λ (o : Option Entry). on_type set_in world o answer) is.stands

pub set_before : (world : World) (key : List ℕ) (before : Option Members) → IsBefore world key before → set_at world key ≡ or_no_members before
set_before world key None is = ap set_of is
set_before world key (Some set) is = ap set_of is.stands

pub there_before : (world : World) (key : List ℕ) (before : Option Members) → IsBefore world key before → is_some (look world key) ≡ is_some before
there_before world key None is = ap is_some is
there_before world key (Some set) is = ap is_some is.stands

-- a set that stands at the key is the one that was there
pub before_is : (world : World) (key : List ℕ) (before : Option Members) (set : Members) → IsBefore world key before → HasSet world key set → before ≡ Some set
before_is world key None set is has = some_none _ _ has.stands is
before_is world key (Some other) set is has = ap Some (ap set_of (sym is.stands ∙ has.stands))

-- ---- what is answered

-- a number is no refusal
pub number_calm : {X : Type 0} (n : ℤ) (result : Result (List Part) X) → IfOk result (λ reply. reply ≡ Number n ∷ []) → IfOk result (λ reply. IsRefusal reply → ⊥)
number_calm n (Ok reply) is = λ refused. subst IsRefusal is refused
number_calm n (Err x) is = tt

pub added_reply : {X : Type 0} (limits : Limits) (old new : World) (key : List ℕ) (words : List (List ℕ)) (now : Members) (many : ℕ) (before : Option Members) (from form : Form)
    → IsBefore old key before → Adds limits words many (or_no_members before) from now form → new ≡ keep_set old key now
    → (result : Result (List Part) X) → IfOk result (λ reply. reply ≡ Number (pos many) ∷ []) → IfOk result (λ reply. set_outcome old (sets.SAdd key words) ≡ leaves reply new)
added_reply limits old new key words now many before from form stands p world (Err x) told = tt
added_reply limits old new key words now many before from form stands p world (Ok reply) told =
    on_before old key before (λ before. add_members old key words (or_no_members before)) stands
    ∙ ap (λ (s : Members). leaves (Number (pos (len s - len (or_no_members before))) ∷ []) (keep_set old key s)) (sym p.is)
    ∙ ap (λ n. leaves (Number (pos n) ∷ []) (keep_set old key now)) (sym p.counted)
    ∙ ap (λ r. leaves r (keep_set old key now)) (sym told)
    ∙ ap (leaves reply) (sym world)

-- the members that were taken out are counted
pub dropped_reply : {X : Type 0} (old new : World) (key : List ℕ) (words : List (List ℕ)) (set now : Members) (many : ℕ) (before : Option Members) (from form : Form)
    → IsBefore old key before → before ≡ Some set → Drops words many (or_no_members before) from now form → new ≡ keep_set old key now
    → (result : Result (List Part) X) → IfOk result (λ reply. reply ≡ Number (pos many) ∷ []) → IfOk result (λ reply. set_outcome old (sets.SRem key words) ≡ leaves reply new)
dropped_reply old new key words set now many before from form stands there p world (Err x) told = tt
dropped_reply old new key words set now many before from form stands there p world (Ok reply) told =
    let is : now ≡ drop_all set words = p.is ∙ ap (λ (b : Option Members). drop_all (or_no_members b) words) there in
    let counted : many ≡ len set - len now = p.counted ∙ ap (λ (b : Option Members). len (or_no_members b) - len now) there in
    on_before old key before (drop_members old key words) stands
    ∙ ap (drop_members old key words) there
    ∙ ap (λ (s : Members). leaves (Number (pos (len set - len s)) ∷ []) (keep_set old key s)) (sym is)
    ∙ ap (λ n. leaves (Number (pos n) ∷ []) (keep_set old key now)) (sym counted)
    ∙ ap (λ r. leaves r (keep_set old key now)) (sym told)
    ∙ ap (leaves reply) (sym world)

-- where nothing stands, nothing is taken out
pub dropped_none : {X : Type 0} (old : World) (key : List ℕ) (words : List (List ℕ)) → look old key ≡ None → (result : Result (List Part) X) → IfOk result (λ reply. reply ≡ Number (pos 0) ∷ [])
    → IfOk result (λ reply. set_outcome old (sets.SRem key words) ≡ leaves reply old)
dropped_none old key words none (Err x) told = tt
dropped_none old key words none (Ok reply) told = on_before old key None (drop_members old key words) none ∙ ap (λ r. leaves r old) (sym told)

-- ---- how what was written is encoded

module _ {S : Type 0} (own : Members → Form → Members → Form → Type 0) (blocks : S → Blocks) (step : S → S → Type 0) (old new : Keyspace S) (at : Ctx) (key : List ℕ)
    (p : SetChanged own keep_set IsLasting blocks old new at key) (held : KeepsTo blocks step (one_key at.db key) old new) where
  -- what stands at the key has risen by the members that were put in
  pub risen_placed : (words : List (List ℕ)) → RisesWith old.bases.limits p.from (or_no_members p.before) words p.form
      → AllAt (HasForm (set_with at.db (visible blocks old at) key words) old.bases (blocks old.store)) new.bases (blocks new.store) at.db key
  risen_placed words risen number e found bytes = record {
    from = p.from;
    form = p.form;
    at = subst (λ t. IsSourceForm t (FitsMembers old.bases.limits empty) old.bases (blocks old.store) at.db key p.from)
        (sym (there_before (visible blocks old at) key p.before p.stands)) p.was_form;
    is = (p.is number e found bytes).0;
    risen = subst (λ (s : Members). RisesWith old.bases.limits p.from s words p.form) (sym (set_before (visible blocks old at) key p.before p.stands)) risen;
  }

  pub formed_risen : (words : List (List ℕ)) → RisesWith old.bases.limits p.from (or_no_members p.before) words p.form → {A X : Type 0} (result : Result A X)
      → IfOk result (λ reply. Formed blocks (set_with at.db (visible blocks old at) key words) old new)
  formed_risen words risen (Err x) = tt
  formed_risen words risen (Ok reply) =
      formed_key (set_with at.db (visible blocks old at) key words) at.db key old.bases new.bases (blocks old.store) (blocks new.store) held.within held.sound.arranged
      (risen_placed words risen)

  -- or has its form still
  pub like_placed : (set : Members) → p.before ≡ Some set → (0 < len p.now → p.form ≡ p.from)
      → AllAt (HasForm (AsAt at.db key) old.bases (blocks old.store)) new.bases (blocks new.store) at.db key
  like_placed set is same number e found bytes =
      let had = subst (λ (b : Option Members). IsSourceForm (is_some b) (FitsMembers old.bases.limits empty) old.bases (blocks old.store) at.db key p.from) is p.was_form in
      let now = p.is number e found bytes in
      (had.0, had.1, now.0 ∙ ap OfForm (same now.1) ∙ sym had.2)

  pub formed_as : (set : Members) → p.before ≡ Some set → (0 < len p.now → p.form ≡ p.from) → {A X : Type 0} (result : Result A X) → IfOk result (λ reply. Formed blocks (AsAt at.db key) old new)
  formed_as set is same (Err x) = tt
  formed_as set is same (Ok reply) =
      formed_key (AsAt at.db key) at.db key old.bases new.bases (blocks old.store) (blocks new.store) held.within held.sound.arranged (like_placed set is same)

-- what is answered and left, where both are known
pub told_by : {X : Type 0} (outcome : Outcome) (parts : List Part) (world : World) (result : Result (List Part) X) → outcome ≡ leaves parts world → IfOk result (λ reply. reply ≡ parts)
    → IfOk result (λ reply. outcome ≡ leaves reply world)
told_by outcome parts world (Ok reply) is told = is ∙ ap (λ r. leaves r world) (sym told)
told_by outcome parts world (Err x) is told = tt
