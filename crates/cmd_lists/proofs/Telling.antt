-- What commands tell of the list at a key, from how it was changed.
use Rattle.std.proofs.Common.{◌≡◌, ℕ, List, [], ◌∷◌, Option, None, Some, Result, Ok, Err, IfOk, take, sym, ap, subst, ◌∙◌}
use Rattle.std.specs.Prelude.{ℤ, pos, is_some}
use Rattle.blocks.specs.Blocks.{Blocks}
use Rattle.object_codec.specs.declared.form.Form.{Form}
use Rattle.object_codec.specs.Forms.{IsLeastFrom, FitsList}
use Rattle.quicklist.specs.Nodes.{pack_len}
use Rattle.quicklist.specs.Chain.{IsRisen}
use Rattle.plain_world.specs.Worlds.{World, Entry, look}
use Rattle.plain_world.specs.declared.reply.Part.{Part}
use Rattle.plain_world.specs.declared.reply.Part.TheVariants.{Number}
use Rattle.plain_model.specs.Outcomes.{Outcome, IsRefusal, leaves}
use Rattle.plain_model.specs.OfType.{list_in, on_type}
use Rattle.plain_model.specs.ListSteps.{Elements, on_list, or_none, keep_list, counted, added, pop, pop_of, first_or_null, from_end, without, listed}
use Rattle.plain_model.specs.declared.ctx.Ctx.{Ctx}
use Rattle.plain_model.specs.declared.list_command.ListEnd.{ListEnd}
use Rattle.held.specs.Calls.{AllAt}
use Rattle.held.proofs.Timing.{some_none}
use Rattle.held.proofs.Written.{written_key}
use Rattle.keyspace.specs.Values.{OfForm, value_refs}
use Rattle.keyspace.specs.Databases.{Keyspace}
use Rattle.keyspace.specs.Scopes.{Scope, one_key}
use Rattle.keyspace.specs.Forms.{AsAt, HasForm, Formed, IsRisenAt, IsFormAt, list_of, list_at, risen_to}
use Rattle.keyspace.specs.Commands.{KeepsTo, KeepsOrRefuses, visible}
use Rattle.keyspace.proofs.Running.{calm}
use Rattle.cmd_lists.specs.Changed.{HasList, IsBefore, ListChanged}
use Rattle.cmd_lists.specs.Pushed.{Pushes}
use Rattle.cmd_lists.specs.Popped.{Pops, PopsMany, or_null}

-- ---- the list that was there

pub on_before : (world : World) (key : List ℕ) (before : Option Elements) (answer : Option Elements → Outcome) → IsBefore world key before → on_list world key answer ≡ answer before
on_before world key None answer is = ap (λ (o : Option Entry). on_type list_in world o answer) is
on_before world key (Some list) answer is = ap (λ (o : Option Entry). on_type list_in world o answer) is.stands

pub list_before : (world : World) (key : List ℕ) (before : Option Elements) → IsBefore world key before → list_at world key ≡ or_none before
list_before world key None is = ap list_of is
list_before world key (Some list) is = ap list_of is.stands

pub there_before : (world : World) (key : List ℕ) (before : Option Elements) → IsBefore world key before → is_some (look world key) ≡ is_some before
there_before world key None is = ap is_some is
there_before world key (Some list) is = ap is_some is.stands

-- a list that stands at the key is the one that was there
pub before_is : (world : World) (key : List ℕ) (before : Option Elements) (list : Elements) → IsBefore world key before → HasList world key list → before ≡ Some list
before_is world key None list is has = some_none _ _ has.stands is
before_is world key (Some other) list is has = ap Some (ap list_of (sym is.stands ∙ has.stands))

-- a fact that holds anyway holds where a call succeeds
pub if_ok : {A E P : Type 0} (result : Result A E) → P → IfOk result (λ a. P)
if_ok (Ok a) h = h
if_ok (Err e) h = tt

-- a number is no refusal
pub number_calm : {S X : Type 0} (blocks : S → Blocks) (step : S → S → Type 0) (scope : Scope) (old new : Keyspace S) (n : ℤ) (result : Result (List Part) X)
    → IfOk result (λ reply. reply ≡ Number n ∷ []) → KeepsTo blocks step scope old new → KeepsOrRefuses blocks step scope old new result
number_calm blocks step scope old new n (Err x) told held = calm blocks step scope old new (Err x) tt held
number_calm blocks step scope old new n (Ok reply) told held = calm blocks step scope old new (Ok reply) (λ refused. subst IsRefusal told refused) held

-- ---- elements put into a list

pub pushed_reply : {X : Type 0} (old new : World) (key : List ℕ) (end : ListEnd) (words list : Elements) (long : ℕ) (before : Option Elements) (from form : Form)
    → Pushes end words long (or_none before) from list form → new ≡ keep_list old key list
    → (result : Result (List Part) X) → IfOk result (λ reply. reply ≡ Number (pos long) ∷ []) → IfOk result (λ reply. counted old key (added end (or_none before) words) ≡ leaves reply new)
pushed_reply old new key end words list long before from form p world (Err x) told = tt
pushed_reply old new key end words list long before from form p world (Ok reply) told =
    ap (counted old key) (sym p.is)
    ∙ ap (λ n. leaves (Number (pos n) ∷ []) (keep_list old key list)) (sym p.counted)
    ∙ ap (λ r. leaves r (keep_list old key list)) (sym told)
    ∙ ap (leaves reply) (sym world)

-- the list that was written has risen, whatever is answered
module _ {S : Type 0} (own : Elements → Form → Elements → Form → Type 0) (blocks : S → Blocks) (step : S → S → Type 0) (old new : Keyspace S) (at : Ctx) (key : List ℕ)
    (p : ListChanged own keep_list blocks old new at key) (held : KeepsTo blocks step (one_key at.db key) old new) where
  has_risen : (list : Elements) → p.now ≡ list → IsRisen p.from p.now p.form
      → IsRisenAt (is_some (look (visible blocks old at) key)) (pack_len list) at.db key old.bases (blocks old.store) p.value
  has_risen list is risen = record {
    from = p.from;
    form = p.form;
    at = subst (λ t. IsFormAt t old.bases (blocks old.store) at.db key p.from) (sym (there_before (visible blocks old at) key p.before p.stands)) p.was_form;
    is = p.encoded;
    risen = subst (λ (l : Elements). IsLeastFrom p.from (FitsList (pack_len l)) p.form) is risen;
  }

  pub risen_there : (list : Elements) → p.now ≡ list → IsRisen p.from p.now p.form → Formed blocks (risen_to at.db (visible blocks old at) key list) old new
  risen_there list is risen =
      let there = is_some (look (visible blocks old at) key) in
      written_key value_refs (IsRisenAt there (pack_len list) at.db key old.bases (blocks old.store)) at.db key p.value (has_risen list is risen)
      old.bases new.bases (blocks old.store) (blocks new.store) held.within held.sound.arranged p.only

  -- and it stands at the key
  pub risen_placed : (list : Elements) → p.now ≡ list → IsRisen p.from p.now p.form
      → AllAt (HasForm (risen_to at.db (visible blocks old at) key list) old.bases (blocks old.store)) new.bases (blocks new.store) at.db key
  risen_placed list is risen number e found bytes =
      subst (HasForm (risen_to at.db (visible blocks old at) key list) old.bases (blocks old.store)) (sym (p.only number e found bytes)) (has_risen list is risen)

  pub formed_risen : (list : Elements) → p.now ≡ list → IsRisen p.from p.now p.form → {A X : Type 0} (result : Result A X)
      → IfOk result (λ reply. Formed blocks (risen_to at.db (visible blocks old at) key list) old new)
  formed_risen list is risen (Err x) = tt
  formed_risen list is risen (Ok reply) = risen_there list is risen

  is_like : (list : Elements) → p.before ≡ Some list → p.form ≡ p.from → HasForm (AsAt at.db key) old.bases (blocks old.store) p.value
  is_like list is same =
      let had = subst (λ (b : Option Elements). IsFormAt (is_some b) old.bases (blocks old.store) at.db key p.from) is p.was_form in
      (had.0, had.1, p.encoded ∙ ap OfForm same ∙ sym had.2)

  -- or has its form still
  pub like_there : (list : Elements) → p.before ≡ Some list → p.form ≡ p.from → Formed blocks (AsAt at.db key) old new
  like_there list is same =
      written_key value_refs (HasForm (AsAt at.db key) old.bases (blocks old.store)) at.db key p.value (is_like list is same)
      old.bases new.bases (blocks old.store) (blocks new.store) held.within held.sound.arranged p.only

  -- and stands at the key
  pub like_placed : (list : Elements) → p.before ≡ Some list → p.form ≡ p.from
      → AllAt (HasForm (AsAt at.db key) old.bases (blocks old.store)) new.bases (blocks new.store) at.db key
  like_placed list is same number e found bytes =
      subst (HasForm (AsAt at.db key) old.bases (blocks old.store)) (sym (p.only number e found bytes)) (is_like list is same)

  pub formed_as : (list : Elements) → p.before ≡ Some list → p.form ≡ p.from → {A X : Type 0} (result : Result A X) → IfOk result (λ reply. Formed blocks (AsAt at.db key) old new)
  formed_as list is same (Err x) = tt
  formed_as list is same (Ok reply) = like_there list is same

-- ---- elements taken off a list

pub popped_gives : {X : Type 0} (old new : World) (key : List ℕ) (end : ListEnd) (taken : Option (List ℕ)) (before : Option Elements) (list : Elements) (from : Form) (now : Elements) (form : Form)
    → IsBefore old key before → HasList old key list → Pops end taken (or_none before) from now form → new ≡ keep_list old key now
    → (result : Result (List Part) X) → IfOk result (λ reply. reply ≡ or_null taken ∷ []) → IfOk result (λ reply. pop old end key None ≡ leaves reply new)
popped_gives old new key end taken before list from now form stands has p world (Err x) told = tt
popped_gives old new key end taken before list from now form stands has p world (Ok reply) told =
    let was = before_is old key before list stands has in
    let same : or_none before ≡ list = ap or_none was in
    on_before old key before (pop_of old end key None) stands
    ∙ ap (pop_of old end key None) was
    ∙ ap (λ l. leaves (first_or_null (from_end end l) ∷ []) (keep_list old key (without end 1 l))) (sym same)
    ∙ ap (λ part. leaves (part ∷ []) (keep_list old key (without end 1 (or_none before)))) p.told
    ∙ ap (λ l. leaves (or_null taken ∷ []) (keep_list old key l)) (sym p.is)
    ∙ ap (λ r. leaves r (keep_list old key now)) (sym told)
    ∙ ap (leaves reply) (sym world)

no_refusal : (taken : Option (List ℕ)) → IsRefusal (or_null taken ∷ []) → ⊥
no_refusal None refused = refused
no_refusal (Some element) refused = refused

pub popped_calm : {S X : Type 0} (blocks : S → Blocks) (step : S → S → Type 0) (scope : Scope) (old new : Keyspace S) (taken : Option (List ℕ)) (result : Result (List Part) X)
    → IfOk result (λ reply. reply ≡ or_null taken ∷ []) → KeepsTo blocks step scope old new
    → KeepsOrRefuses blocks step scope old new result
popped_calm blocks step scope old new taken (Err x) told held = calm blocks step scope old new (Err x) tt held
popped_calm blocks step scope old new taken (Ok reply) told held = calm blocks step scope old new (Ok reply) (λ refused. no_refusal taken (subst IsRefusal told refused)) held

pub many_gives : (old new : World) (key : List ℕ) (end : ListEnd) (n : ℕ) (parts : List Part) (before : Option Elements) (list : Elements) (from : Form) (now : Elements) (form : Form)
    → IsBefore old key before → HasList old key list → PopsMany end n parts (or_none before) from now form → new ≡ keep_list old key now
    → (reply : List Part) → reply ≡ parts → pop old end key (Some n) ≡ leaves reply new
many_gives old new key end n parts before list from now form stands has p world reply told =
    let was = before_is old key before list stands has in
    let same : or_none before ≡ list = ap or_none was in
    on_before old key before (pop_of old end key (Some n)) stands
    ∙ ap (pop_of old end key (Some n)) was
    ∙ ap (λ l. leaves (listed (take n (from_end end l))) (keep_list old key (without end n l))) (sym same)
    ∙ ap (λ r. leaves r (keep_list old key (without end n (or_none before)))) (p.told ∙ sym told)
    ∙ ap (λ l. leaves reply (keep_list old key l)) (sym p.is)
    ∙ ap (leaves reply) (sym world)

pub listed_calm : {S X : Type 0} (blocks : S → Blocks) (step : S → S → Type 0) (scope : Scope) (old new : Keyspace S) (list : Elements) (reply : List Part) → reply ≡ listed list
    → KeepsTo blocks step scope old new
    → KeepsOrRefuses {E = X} blocks step scope old new (Ok reply)
listed_calm blocks step scope old new list reply told held = calm blocks step scope old new (Ok reply) (λ refused. subst IsRefusal told refused) held
