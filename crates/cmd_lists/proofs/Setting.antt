-- What commands tell that change a list in its place.
use Rattle.std.proofs.Common.{◌≡◌, ℕ, suc, ◌+◌, ◌-◌, ◌<◌, ◌≤◌, List, [], ◌∷◌, ◌++◌, length, take, drop, Option, None, Some, Result, Ok, Err, IfOk, OnOk, refl, sym, ap, subst, ◌∙◌, arith}
use Rattle.std.specs.Prelude.{ℤ, pos, negsuc, zero, Bool, true, false, nat_lt, slice_set, codes, if◌then◌else◌}
use Rattle.std.specs.List.{remove_range}
use Rattle.std.proofs.lemmas.List.{drop-take, drop_all}
use Rattle.std.proofs.lemmas.Bool.{ltb-true}
use Rattle.object_codec.specs.Forms.{IsLeastFrom, FitsList}
use Rattle.quicklist.specs.Nodes.{pack_len}
use Rattle.blocks.specs.Blocks.{Blocks}
use Rattle.object_codec.specs.declared.form.Form.{Form}
use Rattle.quicklist.specs.Chain.{Chain, IsChanged, IsWritten, IsRisen, elements}
use Rattle.plain_world.specs.Worlds.{World}
use Rattle.plain_world.specs.declared.reply.Part.{Part}
use Rattle.plain_world.specs.declared.reply.Part.TheVariants.{Simple, Refused}
use Rattle.plain_world.specs.declared.refusal.Refusal.TheVariants.{IndexOutOfRange}
use Rattle.plain_model.specs.Outcomes.{IsRefusal, leaves}
use Rattle.plain_model.specs.declared.ctx.Ctx.{Ctx}
use Rattle.keyspace.specs.Databases.{Keyspace}
use Rattle.keyspace.specs.Scopes.{Scope, one_key}
use Rattle.keyspace.specs.Forms.{Formed, list_at, set_to}
use Rattle.keyspace.specs.Commands.{KeepsTo, KeepsOrRefuses, visible}
use Rattle.keyspace.proofs.Running.{calm}
use Rattle.plain_model.specs.ListSteps.{Elements, on_list, or_none, keep_list, place_of, replaced, set_at, set_place, trim, list_range}
use Rattle.cmd_lists.specs.Changed.{HasList, IsBefore, ListChanged}
use Rattle.cmd_lists.specs.Written.{Replaces, Trims}
use Rattle.cmd_lists.proofs.Ends.{nothing}
use Rattle.cmd_lists.proofs.Telling.{before_is, on_before, list_before, formed_risen}

-- ---- an element in the place of another

pub set_replaced : (xs : Elements) (i : ℕ) (x : List ℕ) → i < length xs → slice_set xs i x ≡ replaced xs i x
set_replaced [] i x h = absurd (omega (arith, h))
set_replaced (y ∷ xs) zero x h = refl
set_replaced (y ∷ xs) (suc i) x h = ap (λ l. y ∷ l) (set_replaced xs i x (omega (arith, h)))

pub replaces : (before after : Blocks) (old new : Chain) (place : ℕ) (element : List ℕ) → place < length (elements before old) → {X : Type 0} (result : Result (Unit {0}) X)
    → OnOk result (IsWritten before after old new (slice_set (elements before old) place element)) → OnOk result (Replaces place element (elements before old) old.form (elements after new) new.form)
replaces before after old new place element h (Err e) p = tt
replaces before after old new place element h (Ok u) p = record {
  is = p.list_is ∙ set_replaced (elements before old) place element h;
  risen = subst (λ l. IsLeastFrom old.form (FitsList (pack_len l)) new.form) (sym p.list_is) p.form;
}

abbrev value_or : ℕ → Option ℕ → ℕ
value_or n None = n
value_or n (Some m) = m

some_is : (n m : ℕ) → Some n ≡ Some m → n ≡ m
some_is n m e = ap (value_or n) e

-- the place is in the list that was there
pub inside_before : (world : World) (key : List ℕ) (list : Elements) (n len : ℕ) → HasList world key list → len ≡ length list → n ≤ len → (before : Option Elements)
    → IsBefore world key before → n ≤ length (or_none before)
inside_before world key list n len has size h before stands =
    let same : or_none before ≡ list = ap or_none (before_is world key before list stands has) in
    omega (arith, h, size, ap length same)

pub place_inside : (len : ℕ) (index : ℤ) (place : ℕ) → place_of len index ≡ Some place → place < len
place_inside len (pos n) place is = told (nat_lt n len) refl is
  where
    told : (t : Bool) → nat_lt n len ≡ t → (if t then Some n else None) ≡ Some place → place < len
    told true lt e = omega (arith, ltb-true n len lt, some_is n place e)
    told false lt e = cc
place_inside len (negsuc n) place is = told (nat_lt n len) refl is
  where
    told : (t : Bool) → nat_lt n len ≡ t → (if t then Some (len - suc n) else None) ≡ Some place → place < len
    told true lt e = omega (arith, ltb-true n len lt, some_is (len - suc n) place e)
    told false lt e = cc

pub set_outside : {X : Type 0} (old : World) (key element : List ℕ) (index : ℤ) (list : Elements) (len : ℕ) → HasList old key list → len ≡ length list → place_of len index ≡ None
    → (result : Result (List Part) X) → IfOk result (λ reply. reply ≡ Refused IndexOutOfRange ∷ []) → IfOk result (λ reply. on_list old key (set_at old key index element) ≡ leaves reply old)
set_outside old key element index list len has size none (Err x) told = tt
set_outside old key element index list len has size none (Ok reply) told =
    on_before old key (Some list) (set_at old key index element) has
    ∙ ap (set_place old key element list) (ap (λ n. place_of n index) (sym size) ∙ none)
    ∙ ap (λ r. leaves r old) (sym told)

pub set_gives : {X : Type 0} (old new : World) (key element : List ℕ) (index : ℤ) (place : ℕ) (before : Option Elements) (list : Elements) (len : ℕ) (from : Form) (now : Elements) (form : Form)
    → IsBefore old key before → HasList old key list → len ≡ length list → place_of len index ≡ Some place → Replaces place element (or_none before) from now form → new ≡ keep_list old key now
    → (result : Result (List Part) X) → IfOk result (λ reply. reply ≡ Simple (codes "OK") ∷ []) → IfOk result (λ reply. on_list old key (set_at old key index element) ≡ leaves reply new)
set_gives old new key element index place before list len from now form stands has size there p world (Err x) told = tt
set_gives old new key element index place before list len from now form stands has size there p world (Ok reply) told =
    let same : or_none before ≡ list = ap or_none (before_is old key before list stands has) in
    on_before old key (Some list) (set_at old key index element) has
    ∙ ap (set_place old key element list) (ap (λ n. place_of n index) (sym size) ∙ there)
    ∙ ap (λ l. leaves (Simple (codes "OK") ∷ []) (keep_list old key l)) (ap (λ l. replaced l place element) (sym same) ∙ sym p.is)
    ∙ ap (λ r. leaves r (keep_list old key now)) (sym told)
    ∙ ap (leaves reply) (sym world)

-- ---- a range is left

pub left_is : (before mid after : Blocks) (old cut new : Chain) (first count len : ℕ) → len ≡ length (elements before old)
    → IsChanged before mid old cut (remove_range (elements before old) (first + count) len) → {X : Type 0} (result : Result (Unit {0}) X)
    → OnOk result (IsChanged mid after cut new (remove_range (elements mid cut) 0 first)) → OnOk result (elements after new ≡ take count (drop first (elements before old)))
left_is before mid after old cut new first count len size p (Err e) q = tt
left_is before mid after old cut new first count len size p (Ok u) q =
    q.list_is
    ∙ ap (drop first)
    (p.list_is ∙ ap (λ l. take (first + count) (elements before old) ++ l) (drop_all len (elements before old) (omega (arith, size)))
    ∙ nothing (take (first + count) (elements before old)))
    ∙ drop-take first count (elements before old)

pub trim_gives : {X : Type 0} (old new : World) (key : List ℕ) (a b : ℤ) (first count : ℕ) (before : Option Elements) (list : Elements) (from : Form) (now : Elements) (form : Form)
    → IsBefore old key before → HasList old key list → take count (drop first list) ≡ list_range list a b → Trims first count (or_none before) from now form → new ≡ keep_list old key now
    → (result : Result (List Part) X) → IfOk result (λ reply. reply ≡ Simple (codes "OK") ∷ []) → IfOk result (λ reply. on_list old key (trim old key a b) ≡ leaves reply new)
trim_gives old new key a b first count before list from now form stands has range p world (Err x) told = tt
trim_gives old new key a b first count before list from now form stands has range p world (Ok reply) told =
    let same : or_none before ≡ list = ap or_none (before_is old key before list stands has) in
    on_before old key (Some list) (trim old key a b) has
    ∙ ap (λ l. leaves (Simple (codes "OK") ∷ []) (keep_list old key l)) (sym range ∙ ap (λ l. take count (drop first l)) (sym same) ∙ sym p.is)
    ∙ ap (λ r. leaves r (keep_list old key now)) (sym told)
    ∙ ap (leaves reply) (sym world)

-- ---- OK is no refusal, and what was set has risen

pub simple_calm : {S X : Type 0} (blocks : S → Blocks) (step : S → S → Type 0) (scope : Scope) (old new : Keyspace S) (line : List ℕ) (result : Result (List Part) X)
    → IfOk result (λ reply. reply ≡ Simple line ∷ []) → KeepsTo blocks step scope old new
    → KeepsOrRefuses blocks step scope old new result
simple_calm blocks step scope old new line (Err x) told held = calm blocks step scope old new (Err x) tt held
simple_calm blocks step scope old new line (Ok reply) told held = calm blocks step scope old new (Ok reply) (λ refused. subst IsRefusal told refused) held

pub set_formed : {S A X : Type 0} (own : Elements → Form → Elements → Form → Type 0) (blocks : S → Blocks) (step : S → S → Type 0) (old new : Keyspace S) (at : Ctx) (key : List ℕ)
    (p : ListChanged own keep_list blocks old new at key) (held : KeepsTo blocks step (one_key at.db key) old new)
    (element : List ℕ) (index : ℤ) (place : ℕ) (list : Elements) (len : ℕ) → HasList (visible blocks old at) key list → len ≡ length list → place_of len index ≡ Some place
    → p.now ≡ replaced (or_none p.before) place element → IsRisen p.from p.now p.form
    → (result : Result A X) → IfOk result (λ reply. Formed blocks (set_to at.db (visible blocks old at) key element (place_of (length (list_at (visible blocks old at) key)) index)) old new)
set_formed own blocks step old new at key p held element index place list len has size there is risen result =
    let world = visible blocks old at in
    let stood : list_at world key ≡ list = list_before world key (Some list) has in
    let same : place_of (length (list_at world key)) index ≡ Some place = ap (λ l. place_of (length l) index) stood ∙ ap (λ n. place_of n index) (sym size) ∙ there in
    subst (λ o. IfOk result (λ reply. Formed blocks (set_to at.db world key element o) old new)) (sym same)
    (formed_risen own blocks step old new at key p held (replaced (list_at world key) place element)
    (is ∙ ap (λ l. replaced l place element) (sym (list_before world key p.before p.stands))) risen result)
