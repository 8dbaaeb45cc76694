-- What commands tell of the sorted set at a key, from how it was changed.
use Rattle.std.proofs.Common.{◌≡◌, true, false, ℕ, ℤ, ◌-◌, List, [], ◌∷◌, length, take, unwrap_or, Bool, Option, None, Some, Result, Ok, Err, IfOk, OnOk, refl, sym, ap, subst, ◌∙◌}
use Rattle.std.specs.Prelude.{pos, is_some, if◌then◌else◌}
use Rattle.std.specs.FinMap.{empty, len, get, insert}
use Rattle.blocks.specs.Blocks.{Blocks}
use Rattle.object_codec.specs.declared.form.Form.{Form}
use Rattle.zset_object.specs.Orders.{FitsScored}
use Rattle.plain_world.specs.Worlds.{World, Entry, look}
use Rattle.plain_world.specs.declared.reply.Part.{Part}
use Rattle.plain_world.specs.declared.reply.Part.TheVariants.{Number, Array}
use Rattle.plain_model.specs.Outcomes.{Outcome, IsRefusal, leaves}
use Rattle.plain_model.specs.OfType.{zset_in, on_type}
use Rattle.plain_model.specs.ZsetSteps.{Scores, Scored, on_zset, or_no_scores, keep_zset, add_to, add_scores, drop_members, drop_part, pop, or_one, met, ranked, listed, write_scores, zset_outcome}
use Rattle.plain_model.specs.ListSteps.{tells_number}
use Rattle.plain_model.specs.declared.ctx.Ctx.{Ctx}
use Rattle.plain_model.specs.declared.zset_command.ZsetCommand.TheVariants as zsets
use Rattle.plain_model.specs.declared.zset_command.ScoreRules.{ScoreRules}
use Rattle.plain_model.specs.declared.zset_command.Direction.{Direction}
use Rattle.held.proofs.Timing.{some_none}
use Rattle.held.proofs.Written.{written_key}
use Rattle.keyspace.specs.Values.{OfForm, value_refs}
use Rattle.keyspace.specs.Databases.{Keyspace}
use Rattle.keyspace.specs.Scopes.{Scope, one_key}
use Rattle.keyspace.specs.Forms.{AsAt, HasForm, Formed, IsZsetRisen, IsSourceForm, RisesUnder, zset_of, zset_at, zset_to}
use Rattle.keyspace.specs.Commands.{KeepsTo, KeepsOrRefuses, visible}
use Rattle.keyspace.proofs.Running.{calm}
use Rattle.cmd_zsets.specs.Changed.{HasZset, IsBefore, Made, ZsetChanged}
use Rattle.cmd_zsets.specs.Written.{IsAdded, IsScoreOf, Removes}
use Rattle.cmd_zsets.specs.Popped.{PopsMany, DropsPart}

-- ---- the sorted set that was there

pub on_before : (world : World) (key : List ℕ) (before : Option Scores) (answer : Option Scores → Outcome) → IsBefore world key before → on_zset world key answer ≡ answer before
on_before world key None answer is = ap (λ (o : Option Entry). on_type zset_in world o answer) is
on_before world key (Some scores) answer is = ap (λ (o : Option Entry). on_type zset_in world o answer) is.stands

pub scores_before : (world : World) (key : List ℕ) (before : Option Scores) → IsBefore world key before → zset_at world key ≡ or_no_scores before
scores_before world key None is = ap zset_of is
scores_before world key (Some scores) is = ap zset_of is.stands

pub there_before : (world : World) (key : List ℕ) (before : Option Scores) → IsBefore world key before → is_some (look world key) ≡ is_some before
there_before world key None is = ap is_some is
there_before world key (Some scores) is = ap is_some is.stands

-- a sorted set that stands at the key is the one that was there
pub before_is : (world : World) (key : List ℕ) (before : Option Scores) (scores : Scores) → IsBefore world key before → HasZset world key scores → before ≡ Some scores
before_is world key None scores is has = some_none _ _ has.stands is
before_is world key (Some other) scores is has = ap Some (ap zset_of (sym is.stands ∙ has.stands))

-- what stood at a key is one
pub same_before : (world : World) (key : List ℕ) (a b : Option Scores) → IsBefore world key a → IsBefore world key b → a ≡ b
same_before world key None None p q = refl
same_before world key None (Some b) p q = some_none _ _ q.stands p
same_before world key (Some a) None p q = some_none _ _ p.stands q
same_before world key (Some a) (Some b) p q = ap Some (ap zset_of (sym p.stands ∙ q.stands))

-- the score that was found of a member stood in the sorted set that was there
pub score_is : (world : World) (key member : List ℕ) (score : Option ℤ) (before : Option Scores) → IsScoreOf world key member score → IsBefore world key before
    → get (or_no_scores before) member ≡ score
score_is world key member score before v stands = ap (λ (b : Option Scores). get (or_no_scores b) member) (same_before world key before v.before stands v.stands) ∙ v.is

-- a fact that holds anyway holds where a call succeeds
pub if_ok : {A E P : Type 0} (result : Result A E) → P → IfOk result (λ a. P)
if_ok (Ok a) h = h
if_ok (Err e) h = tt

pub on_ok : {A E P : Type 0} (result : Result A E) → P → OnOk result P
on_ok (Ok a) h = h
on_ok (Err e) h = tt

-- ---- members taken out

-- ZREM finds nothing to take out
pub none_removed : {X : Type 0} (old : World) (key : List ℕ) (members : List (List ℕ)) → look old key ≡ None → (result : Result (List Part) X) → IfOk result (λ reply. reply ≡ Number (pos 0) ∷ [])
    → IfOk result (λ reply. zset_outcome old (zsets.ZRem key members) ≡ leaves reply old)
none_removed old key members none (Err x) told = tt
none_removed old key members none (Ok reply) told = on_before old key None (drop_members old key members) none ∙ ap (λ r. leaves r old) (sym told)

-- or tells how many members were there
pub removed_told : {X : Type 0} (old new : World) (key : List ℕ) (members : List (List ℕ)) (gone : ℕ) (before : Option Scores) (scores : Scores) (from : Form) (now : Scores) (form : Form)
    → IsBefore old key before → HasZset old key scores
    → Removes members gone (or_no_scores before) from now form → new ≡ keep_zset old key now → (result : Result (List Part) X) → IfOk result (λ reply. reply ≡ Number (pos gone) ∷ [])
    → IfOk result (λ reply. zset_outcome old (zsets.ZRem key members) ≡ leaves reply new)
removed_told old new key members gone before scores from now form stands has u world (Err x) told = tt
removed_told old new key members gone before scores from now form stands has u world (Ok reply) told =
    let map = or_no_scores before in
    let same : scores ≡ map = ap or_no_scores (sym (before_is old key before scores stands has)) in
    on_before old key (Some scores) (drop_members old key members) has
    ∙ ap (λ f. drop_members old key members (Some f)) same
    ∙ ap (λ m. leaves (Number (pos (len map - len m)) ∷ []) (keep_zset old key m)) (sym u.is)
    ∙ ap (λ n. leaves (Number (pos n) ∷ []) (keep_zset old key now)) (sym u.counted)
    ∙ ap (λ r. leaves r (keep_zset old key now)) (sym told)
    ∙ ap (leaves reply) (sym world)

-- ---- scores written

-- a sorted set that is there, or may be made, is written to
adds_to : (old : World) (key : List ℕ) (rules : ScoreRules) (ch : Bool) (pairs : List Scored) (before : Option Scores) (there : Option ℕ) → is_some before ≡ is_some there
    → (rules.xx ≡ true → is_some there ≡ false → ⊥) → add_to old key rules ch pairs before ≡ add_scores old key rules ch pairs (or_no_scores before)
adds_to old key rules ch pairs (Some scores) there same made = refl
adds_to old key rules ch pairs None there same made = no_xx (rules.xx) refl
  where
    no_xx : (xx : Bool) → rules.xx ≡ xx → add_to old key rules ch pairs None ≡ add_scores old key rules ch pairs empty
    no_xx true is = absurd (made is (sym same))
    no_xx false is = ap (λ b. if b then tells_number (pos 0) old else add_scores old key rules ch pairs empty) is

-- ZADD tells how many members are counted
pub added_told : {X : Type 0} (old new : World) (key : List ℕ) (rules : ScoreRules) (ch : Bool) (pairs : List Scored) (count : ℕ) (there : Option ℕ)
    → is_some (look old key) ≡ is_some there → (rules.xx ≡ true → is_some there ≡ false → ⊥) → IsAdded old key rules ch pairs count new → (result : Result (List Part) X)
    → IfOk result (λ reply. reply ≡ Number (pos count) ∷ []) → IfOk result (λ reply. zset_outcome old (zsets.ZAdd key rules ch pairs) ≡ leaves reply new)
added_told old new key rules ch pairs count there is made s (Err x) told = tt
added_told old new key rules ch pairs count there is made s (Ok reply) told =
    let now = write_scores rules (or_no_scores s.before) pairs in
    on_before old key s.before (add_to old key rules ch pairs) s.stands
    ∙ adds_to old key rules ch pairs s.before there (sym (there_before old key s.before s.stands) ∙ is) made
    ∙ ap (λ n. leaves (Number (pos n) ∷ []) (keep_zset old key now)) (sym s.counted)
    ∙ ap (λ r. leaves r (keep_zset old key now)) (sym told)
    ∙ ap (leaves reply) (sym s.world)

-- XX makes no sorted set
pub none_added : {X : Type 0} (old : World) (key : List ℕ) (rules : ScoreRules) (ch : Bool) (pairs : List Scored) → look old key ≡ None → rules.xx ≡ true → (result : Result (List Part) X)
    → IfOk result (λ reply. reply ≡ Number (pos 0) ∷ [])
    → IfOk result (λ reply. zset_outcome old (zsets.ZAdd key rules ch pairs) ≡ leaves reply old)
none_added old key rules ch pairs none xx (Err x) told = tt
none_added old key rules ch pairs none xx (Ok reply) told =
    on_before old key None (add_to old key rules ch pairs) none
    ∙ ap (λ b. if b then tells_number (pos 0) old else add_scores old key rules ch pairs empty) xx
    ∙ ap (λ r. leaves r old) (sym told)

-- ---- members taken off in order

-- what stands at no key has no part
pub none_dropped : {X : Type 0} (old : World) (key : List ℕ) (part : List Scored → List Scored) → look old key ≡ None → (result : Result (List Part) X)
    → IfOk result (λ reply. reply ≡ Number (pos 0) ∷ [])
    → IfOk result (λ reply. on_zset old key (drop_part old key part) ≡ leaves reply old)
none_dropped old key part none (Err x) told = tt
none_dropped old key part none (Ok reply) told = on_before old key None (drop_part old key part) none ∙ ap (λ r. leaves r old) (sym told)

-- the length of the part that is gone is told
pub part_dropped : {X : Type 0} (old new : World) (key : List ℕ) (part : List Scored → List Scored) (gone : ℕ) (before : Option Scores) (scores : Scores) (from : Form) (now : Scores)
    (form : Form) → IsBefore old key before → HasZset old key scores
    → DropsPart part gone (or_no_scores before) from now form → new ≡ keep_zset old key now → (result : Result (List Part) X) → IfOk result (λ reply. reply ≡ Number (pos gone) ∷ [])
    → IfOk result (λ reply. on_zset old key (drop_part old key part) ≡ leaves reply new)
part_dropped old new key part gone before scores from now form stands has u world (Err x) told = tt
part_dropped old new key part gone before scores from now form stands has u world (Ok reply) told =
    let map = or_no_scores before in
    let same : scores ≡ map = ap or_no_scores (sym (before_is old key before scores stands has)) in
    on_before old key (Some scores) (drop_part old key part) has
    ∙ ap (λ f. drop_part old key part (Some f)) same
    ∙ ap (λ m. leaves (Number (pos (length (part (ranked map)))) ∷ []) (keep_zset old key m)) (sym u.is)
    ∙ ap (λ n. leaves (Number (pos n) ∷ []) (keep_zset old key now)) (sym u.counted)
    ∙ ap (λ r. leaves r (keep_zset old key now)) (sym told)
    ∙ ap (leaves reply) (sym world)

-- nothing is there to be popped
pub none_popped : {X : Type 0} (old : World) (key : List ℕ) (from : Direction) (n : Option ℕ) → look old key ≡ None → (result : Result (List Part) X) → IfOk result (λ reply. reply ≡ Array 0 ∷ [])
    → IfOk result (λ reply. zset_outcome old (zsets.ZPop key from n) ≡ leaves reply old)
none_popped old key from n none (Err x) told = tt
none_popped old key from n none (Ok reply) told = on_before old key None (pop old key from (or_one n)) none ∙ ap (λ r. leaves r old) (sym told)

told_one : {A : Type 0} (a b : A) → Some a ≡ Some b → a ≡ b
told_one a b h = cc

-- or the members that are gone are told
pub popped_told : {X : Type 0} (old new : World) (key : List ℕ) (from : Direction) (n : Option ℕ) (most : ℕ) (told : Option (List Part)) (before : Option Scores) (scores : Scores)
    (was : Form) (now : Scores) (form : Form) → most ≡ or_one n → IsBefore old key before → HasZset old key scores
    → PopsMany from most told (or_no_scores before) was now form → new ≡ keep_zset old key now → (result : Result (List Part) X) → IfOk result (λ reply. told ≡ Some reply)
    → IfOk result (λ reply. zset_outcome old (zsets.ZPop key from n) ≡ leaves reply new)
popped_told old new key from n most told before scores was now form many stands has u world (Err x) is = tt
popped_told old new key from n most told before scores was now form many stands has u world (Ok reply) is =
    let map = or_no_scores before in
    let same : scores ≡ map = ap or_no_scores (sym (before_is old key before scores stands has)) in
    on_before old key (Some scores) (pop old key from (or_one n)) has
    ∙ ap (λ f. pop old key from (or_one n) (Some f)) same
    ∙ ap (λ k. pop old key from k (Some map)) (sym many)
    ∙ ap (λ m. leaves (listed true (take most (met from (ranked map)))) (keep_zset old key m)) (sym u.is)
    ∙ ap (λ r. leaves r (keep_zset old key now)) (told_one _ _ (sym u.told_is ∙ is))
    ∙ ap (leaves reply) (sym world)

-- an array is no refusal
pub popped_calm : {S X : Type 0} (blocks : S → Blocks) (step : S → S → Type 0) (scope : Scope) (old new : Keyspace S) (list : List Scored) (told : Option (List Part))
    → told ≡ Some (listed true list) → (result : Result (List Part) X) → IfOk result (λ reply. told ≡ Some reply) → KeepsTo blocks step scope old new
    → KeepsOrRefuses blocks step scope old new result
popped_calm blocks step scope old new list told was (Err x) is held = calm blocks step scope old new (Err x) tt held
popped_calm blocks step scope old new list told was (Ok reply) is held = calm blocks step scope old new (Ok reply) (λ refused. subst IsRefusal (told_one _ _ (sym is ∙ was)) refused) held

-- nor is a number
pub counted_calm : {S X : Type 0} (blocks : S → Blocks) (step : S → S → Type 0) (scope : Scope) (old new : Keyspace S) (n : ℤ) (result : Result (List Part) X)
    → IfOk result (λ reply. reply ≡ Number n ∷ []) → KeepsTo blocks step scope old new → KeepsOrRefuses blocks step scope old new result
counted_calm blocks step scope old new n (Err x) told held = calm blocks step scope old new (Err x) tt held
counted_calm blocks step scope old new n (Ok reply) told held = calm blocks step scope old new (Ok reply) (λ refused. subst IsRefusal told refused) held

-- a number that is left out is one
pub or_one_is : (n : Option ℕ) → unwrap_or n 1 ≡ or_one n
or_one_is None = refl
or_one_is (Some n) = refl

-- ---- forms

module _ {S : Type 0} (own : Made) (blocks : S → Blocks) (step : S → S → Type 0) (old new : Keyspace S) (at : Ctx) (key : List ℕ) (p : ZsetChanged own keep_zset blocks old new at key)
    (held : KeepsTo blocks step (one_key at.db key) old new) where
  -- the sorted set that was written has risen
  pub formed_risen : (rules : ScoreRules) (pairs : List Scored) → RisesUnder rules old.bases.limits p.from (or_no_scores p.before) pairs p.form
      → Formed blocks (zset_to at.db (visible blocks old at) key rules pairs) old new
  formed_risen rules pairs risen =
      let world = visible blocks old at in
      written_key value_refs (IsZsetRisen (is_some (look world key)) rules (zset_at world key) pairs at.db key old.bases (blocks old.store)) at.db key p.value
      (record {
        from = p.from;
        form = p.form;
        at = subst (λ t. IsSourceForm t (FitsScored old.bases.limits empty) old.bases (blocks old.store) at.db key p.from) (sym (there_before world key p.before p.stands)) p.was_form;
        is = p.encoded;
        risen = subst (λ (f : Scores). RisesUnder rules old.bases.limits p.from f pairs p.form) (sym (scores_before world key p.before p.stands)) risen;
      }) old.bases new.bases (blocks old.store) (blocks new.store) held.within held.sound.arranged p.only

  -- or has its form still
  pub formed_as : (scores : Scores) → p.before ≡ Some scores → p.form ≡ p.from → Formed blocks (AsAt at.db key) old new
  formed_as scores is same =
      let had = subst (λ (b : Option Scores). IsSourceForm (is_some b) (FitsScored old.bases.limits empty) old.bases (blocks old.store) at.db key p.from) is p.was_form in
      written_key value_refs (HasForm (AsAt at.db key) old.bases (blocks old.store)) at.db key p.value
      (had.0, had.1, p.encoded ∙ ap OfForm same ∙ sym had.2)
      old.bases new.bases (blocks old.store) (blocks new.store) held.within held.sound.arranged p.only
