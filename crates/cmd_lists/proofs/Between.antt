-- An element that moves from one list to another.
use Rattle.std.proofs.Common.{◌≡◌, inl, inr, ℕ, Bool, true, false, cond, List, [], ◌∷◌, length, drop, unwrap_or, Option, None, Some, Result, Ok, Err, IfOk, OnOk, refl, sym, ap, subst, ◌∙◌, arith}
use Rattle.std.specs.Prelude.{is_some, bytes_eq}
use Rattle.std.proofs.lemmas.Bool.{cond-true, cond-false, cases_Bool, eq-eqb}
use Rattle.std.proofs.lemmas.Slice.Eq.{bytes_eq-Decides}
use Rattle.std.specs.Ordering.{nat_cmp, eq_by_cmp, is_eq}
use Rattle.std.specs.declared.cmp.Ordering.{Ordering}
use Rattle.std.specs.declared.cmp.Ordering.TheVariants.{Less, Equal, Greater}
use Rattle.std.specs.Cmp.Lexicographic.{slice_cmp, nat_list_cmp_total}
use Rattle.std.specs.FinMap.{get, insert, get-insert, get-remove, slice_cmp-IsAntisymmetric, nat_cmp-IsAntisymmetric}
use Rattle.std.specs.FinMap as map
use Rattle.blocks.specs.Blocks.{Blocks, bytes_at, ref_eq}
use Rattle.blocks.proofs.Change.{one_if}
use Rattle.blocks.proofs.Refs.{ref_eq_refl}
use Rattle.object_codec.specs.declared.form.Form as codec
use Rattle.quicklist.specs.Nodes.{pack_len}
use Rattle.plain_world.specs.Worlds.{World, Database, Entry, look, with_base}
use Rattle.plain_world.specs.declared.reply.Part.{Part}
use Rattle.plain_world.specs.declared.reply.Part.TheVariants.{Bulk, Null, Refused}
use Rattle.plain_world.specs.declared.refusal.Refusal.TheVariants.{WrongType}
use Rattle.plain_model.specs.Outcomes.{Outcome, leaves}
use Rattle.plain_model.specs.OfType.{list_in}
use Rattle.plain_model.specs.ListSteps.{Elements, or_none, keep_list, first_or_null, from_end, without, added, move_there, move_first, move_element}
use Rattle.plain_model.specs.declared.ctx.Ctx.{Ctx}
use Rattle.plain_model.specs.declared.list_command.ListEnd.{ListEnd}
use Rattle.held.specs.Calls.{HasValue, AllAt}
use Rattle.held.specs.Written as held
use Rattle.held.proofs.Timing.{some_none}
use Rattle.held.proofs.Written.{written_then}
use Rattle.keyspace.specs.declared.value.Value.{Value}
use Rattle.keyspace.specs.Values.{value_refs}
use Rattle.keyspace.specs.Databases.{Bases, Keyspace}
use Rattle.keyspace.specs.Scopes.{Scope, one_key, two_keys, Within}
use Rattle.keyspace.specs.Forms.{Unwritten, AsAt, Either, FormRule, HasForm, Formed, Placed, ArePlaced, placed_between, IsRisenAt, IsFormAt, list_of, list_at, risen_to, moved_to}
use Rattle.keyspace.proofs.Forming.{stayed_at, placed_one, placed_two, formed_between}
use Rattle.keyspace.specs.Commands.{KeepsTo, visible}
use Rattle.keyspace.proofs.Running.{held_in_wider}
use Rattle.cmd_lists.specs.Found.{FoundOther}
use Rattle.cmd_lists.specs.Changed.{HasList, IsBefore}
use Rattle.cmd_lists.specs.Moved.{HasNoOther, HasNone, IsFirst}
use Rattle.cmd_lists.proofs.Looking.{refused_other}
use Rattle.cmd_lists.proofs.Meeting.{met_length}
use Rattle.cmd_lists.proofs.Telling.{on_before, list_before}

-- ---- the first element that is met

no_elements : (xs : Elements) → length xs ≡ 0 → xs ≡ []
no_elements [] none = refl
no_elements (x ∷ xs) none = absurd (omega (arith, none))

null_none : (ys : Elements) → first_or_null ys ≡ Null → length ys ≡ 0
null_none [] is = refl
null_none (y ∷ ys) is = cc

pub none_met : (world : World) (key : List ℕ) (end : ListEnd) (list : Elements) → HasList world key list → first_or_null (from_end end list) ≡ Null → HasNone world key
none_met world key end list has none = record {
  no_other = record { before = Some list; stands = has };
  none = no_elements list (sym (met_length end list) ∙ null_none (from_end end list) none);
}

some_met : (ys : Elements) (element : List ℕ) → first_or_null ys ≡ Bulk element → (met : Elements) × (ys ≡ element ∷ met)
some_met [] element is = cc
some_met (y ∷ ys) element is = (ys, (let same : y ≡ element = cc in ap (λ (x : List ℕ). x ∷ ys) same))

pub first_met_is : (world : World) (key : List ℕ) (end : ListEnd) (list : Elements) (element : List ℕ) → HasList world key list → first_or_null (from_end end list) ≡ Bulk element
    → IsFirst world key end element
first_met_is world key end list element has is = (let met = some_met (from_end end list) element is in record { list = list; met = met.0; has = has; first = met.1 })

-- ---- no value of another type

abbrev list_there : Option Entry → Option Elements
list_there None = None
list_there (Some entry) = list_in entry.value

pub not_both : (world : World) (key : List ℕ) → HasNoOther world key → FoundOther world key → ⊥
not_both world key h other = by_before h.before h.stands
  where
    by_before : (before : Option Elements) → IsBefore world key before → ⊥
    by_before None is = some_none _ _ other.stands is
    by_before (Some list) is = some_none _ _ (ap list_there (sym other.stands ∙ is.stands)) other.other

before_on : (old mid : World) (key : List ℕ) (before : Option Elements) → look mid key ≡ look old key → IsBefore old key before → IsBefore mid key before
before_on old mid key None same is = same ∙ is
before_on old mid key (Some list) same is = record { deadline = is.deadline; stands = same ∙ is.stands }

pub no_other_on : (old mid : World) (key : List ℕ) → look mid key ≡ look old key → HasNoOther old key → HasNoOther mid key
no_other_on old mid key same h = record { before = h.before; stands = before_on old mid key h.before same h.stands }

-- ---- what stands at another key

tied_other : (q k : List ℕ) → (q ≡ k → ⊥) → eq_by_cmp (slice_cmp nat_cmp) q k ≡ false
tied_other q k apart = elim (cases_Bool (eq_by_cmp (slice_cmp nat_cmp) q k)) [
  | inl same ↦ absurd (apart (slice_cmp-IsAntisymmetric nat_cmp-IsAntisymmetric q k (equal (slice_cmp nat_cmp q k) same)))
  | inr other ↦ other
]
  where
    equal : (o : Ordering) → is_eq o ≡ true → o ≡ Equal
    equal Less h = cc
    equal Equal h = refl
    equal Greater h = cc

look_with : (w : World) (base : Database) (key : List ℕ) → look (with_base w base) key ≡ get base key
look_with w base key = ap (λ (b : Database). get b key) (cond-true _ _ _ (eq-eqb w.selected w.selected refl))

look_kept : (w : World) (key other : List ℕ) (list : Elements) → (key ≡ other → ⊥) → look (keep_list w key list) other ≡ look w other
look_kept w key other [] apart =
    look_with w (map.remove (w.bases w.selected) key) other ∙ get-remove nat_list_cmp_total (w.bases w.selected) key other ∙ cond-false _ _ _ (tied_other other key (λ same. apart (sym same)))
look_kept w key other (x ∷ rest) apart =
    look_with w (insert (w.bases w.selected) key _) other ∙ get-insert nat_list_cmp_total (w.bases w.selected) key _ other ∙ cond-false _ _ _ (tied_other other key (λ same. apart (sym same)))

pub same_look : (old mid : World) (key other : List ℕ) (list : Elements) → (key ≡ other → ⊥) → mid ≡ keep_list old key list → look mid other ≡ look old other
same_look old mid key other list apart is = ap (λ (w : World). look w other) is ∙ look_kept old key other list apart

-- ---- one list after the other

pub eq_same : (a b : List ℕ) → a ≡ b → bytes_eq a b ≡ true
eq_same a b same = (bytes_eq-Decides a b).1 same

pub eq_apart : (a b : List ℕ) → (a ≡ b → ⊥) → bytes_eq a b ≡ false
eq_apart a b apart = elim (cases_Bool (bytes_eq a b)) [
  | inl same ↦ absurd (apart ((bytes_eq-Decides a b).0 same))
  | inr other ↦ other
]

pub held_from : {S : Type 0} (blocks : S → Blocks) (step : S → S → Type 0) (db : ℕ) (from to : List ℕ) (old new : Keyspace S) → KeepsTo blocks step (one_key db from) old new
    → KeepsTo blocks step (two_keys db from db to) old new
held_from blocks step db from to old new p =
    held_in_wider blocks step (one_key db from) (two_keys db from db to) old new (λ number here. inl here) (λ number key named. inl named) (λ number no. absurd no) p

pub held_to : {S : Type 0} (blocks : S → Blocks) (step : S → S → Type 0) (db : ℕ) (from to : List ℕ) (old new : Keyspace S) → KeepsTo blocks step (one_key db to) old new
    → KeepsTo blocks step (two_keys db from db to) old new
held_to blocks step db from to old new p =
    held_in_wider blocks step (one_key db to) (two_keys db from db to) old new (λ number here. inr here) (λ number key named. inr named) (λ number no. absurd no) p

pub world_both : {X : Type 0} (old mid new : World) (from to : List ℕ) (other : ListEnd) (rest : Elements) (element : List ℕ) (result : Result (Unit {0}) X) → mid ≡ keep_list old from rest
    → look mid to ≡ look old to
    → OnOk result (new ≡ keep_list mid to (added other (list_at mid to) (element ∷ []))) → OnOk result (new ≡ keep_list (keep_list old from rest) to (added other (list_at old to) (element ∷ [])))
world_both old mid new from to other rest element (Err x) world same is = tt
world_both old mid new from to other rest element (Ok u) world same is =
    is ∙ ap (λ (w : World). keep_list w to (added other (list_at mid to) (element ∷ []))) world
    ∙ ap (λ (o : Option Entry). keep_list (keep_list old from rest) to (added other (list_of o) (element ∷ []))) same

-- what stands at a key that wasn't written stood there before
has_before : (scope : Scope) (db : ℕ) (key : List ℕ) (value : Value) (old mid : Bases) (m own : Blocks) → (scope.writes db key → ⊥) → Within scope old mid m own
    → HasValue mid own db key value → HasValue old m db key value
has_before scope db key value old mid m own apart within has =
    let bytes : bytes_at own has.element.key ≡ key = ap (λ (o : Option (List ℕ)). unwrap_or o []) has.bytes in
    let stayed = within.stayed db has.at has.element has.found (λ named. apart (subst (scope.writes db) bytes named)) in
    let itself : one_if (ref_eq has.element.key has.element.key) ≡ 1 = cond-true _ _ _ (ref_eq_refl has.element.key) in
    record { at = has.at; element = has.element; found = stayed.stood; bytes = sym (stayed.bytes has.element.key (omega (arith, itself))) ∙ has.bytes; is = has.is }

form_before : (there : Bool) (scope : Scope) (db : ℕ) (key : List ℕ) (form : codec.Form) (old mid : Bases) (m own : Blocks) → (scope.writes db key → ⊥) → Within scope old mid m own
    → IsFormAt there mid own db key form → IsFormAt there old m db key form
form_before true scope db key form old mid m own apart within at = (at.0, has_before scope db key at.0 old mid m own apart within at.1, at.2)
form_before false scope db key form old mid m own apart within at = at

risen_before : (there : Bool) (long : ℕ) (scope : Scope) (db : ℕ) (key : List ℕ) (value : Value) (old mid : Bases) (m own : Blocks) → (scope.writes db key → ⊥) → Within scope old mid m own
    → IsRisenAt there long db key mid own value → IsRisenAt there long db key old m value
risen_before there long scope db key value old mid m own apart within p = record {
  from = p.from;
  form = p.form;
  at = form_before there scope db key p.from old mid m own apart within p.at;
  is = p.is;
  risen = p.risen;
}

written_as : (Is Also : Value → Type 0) → ((value : Value) → Is value → Also value) → (old new : Bases) (m after : Blocks) → held.Written value_refs Is old new m after
    → held.Written value_refs Also old new m after
written_as Is Also on old new m after p db at e found = elim (p db at e found) [
  | inl stayed ↦ inl stayed
  | inr is ↦ inr (on e.value is)
]

module _ {S : Type 0} (blocks : S → Blocks) (at : Ctx) (from to : List ℕ) where
  -- what rose over the databases between rose over those before
  risen_on : (old mid : Keyspace S) (other : ListEnd) (element : List ℕ) → (from ≡ to → ⊥) → look (visible blocks mid at) to ≡ look (visible blocks old at) to
      → Within (one_key at.db from) old.bases mid.bases (blocks old.store) (blocks mid.store) → (value : Value)
      → HasForm (risen_to at.db (visible blocks mid at) to (added other (list_at (visible blocks mid at) to) (element ∷ []))) mid.bases (blocks mid.store) value
      → HasForm (risen_to at.db (visible blocks old at) to (added other (list_at (visible blocks old at) to) (element ∷ []))) old.bases (blocks old.store) value
  risen_on old mid other element apart same within value is =
      let m = blocks old.store in
      let before = look (visible blocks mid at) to in
      subst (λ (o : Option Entry). IsRisenAt (is_some o) (pack_len (added other (list_of o) (element ∷ []))) at.db to old.bases m value) same
      (risen_before (is_some before) (pack_len (added other (list_of before) (element ∷ []))) (one_key at.db from) at.db to value old.bases mid.bases m (blocks mid.store)
      (λ named. apart (sym named.1)) within is)

  pub formed_both : {X : Type 0} (old mid new : Keyspace S) (other : ListEnd) (element : List ℕ) (result : Result (Unit {0}) X) → (from ≡ to → ⊥)
      → look (visible blocks mid at) to ≡ look (visible blocks old at) to
      → Within (one_key at.db from) old.bases mid.bases (blocks old.store) (blocks mid.store) → Formed blocks (AsAt at.db from) old mid
      → OnOk result (Formed blocks (risen_to at.db (visible blocks mid at) to (added other (list_at (visible blocks mid at) to) (element ∷ []))) mid new)
      → OnOk result (Formed blocks (Either (AsAt at.db from) (risen_to at.db (visible blocks old at) to (added other (list_at (visible blocks old at) to) (element ∷ [])))) old new)
  formed_both old mid new other element (Err x) apart same within first last = tt
  formed_both old mid new other element (Ok u) apart same within first last =
      let m = blocks old.store in
      let own = blocks mid.store in
      let Is : Value → Type 0 = HasForm (Either (AsAt at.db from) (risen_to at.db (visible blocks old at) to (added other (list_at (visible blocks old at) to) (element ∷ [])))) old.bases m in
      written_then value_refs Is old.bases mid.bases new.bases m own (blocks new.store)
      (written_as (HasForm (AsAt at.db from) old.bases m) Is (λ value is. inl is) old.bases mid.bases m own first)
      (written_as (HasForm (risen_to at.db (visible blocks mid at) to (added other (list_at (visible blocks mid at) to) (element ∷ []))) mid.bases own) Is
      (λ value is. inr (risen_on old mid other element apart same within value is)) mid.bases new.bases own (blocks new.store) last)

  -- each key has its own form
  pub placed_both : {X : Type 0} (old mid new : Keyspace S) (other : ListEnd) (element : List ℕ) (result : Result (Unit {0}) X) → (from ≡ to → ⊥)
      → look (visible blocks mid at) to ≡ look (visible blocks old at) to
      → Within (one_key at.db from) old.bases mid.bases (blocks old.store) (blocks mid.store) → Within (one_key at.db to) mid.bases new.bases (blocks mid.store) (blocks new.store)
      → AllAt (HasForm (AsAt at.db from) old.bases (blocks old.store)) mid.bases (blocks mid.store) at.db from
      → OnOk result
      (AllAt (HasForm (risen_to at.db (visible blocks mid at) to (added other (list_at (visible blocks mid at) to) (element ∷ []))) mid.bases (blocks mid.store)) new.bases
      (blocks new.store) at.db to)
      → OnOk result
      (ArePlaced
      (placed_between at.db from to (Either (AsAt at.db from) (risen_to at.db (visible blocks old at) to (added other (list_at (visible blocks old at) to) (element ∷ [])))))
      old.bases new.bases (blocks old.store) (blocks new.store))
  placed_both old mid new other element (Err x) apart same within beside first last = tt
  placed_both old mid new other element (Ok u) apart same within beside first last =
      let m = blocks old.store in
      let own = blocks mid.store in
      let after = blocks new.store in
      placed_two at.db from to (AsAt at.db from) (risen_to at.db (visible blocks old at) to (added other (list_at (visible blocks old at) to) (element ∷ []))) old.bases new.bases m after
      (eq_apart from to apart) (
        stayed_at (HasForm (AsAt at.db from) old.bases m) (one_key at.db to) at.db from (λ named. apart named.1) mid.bases new.bases own after beside first,
        (λ number e found bytes. risen_on old mid other element apart same within e.value (last number e found bytes), tt),
      )

  -- one key takes what was put
  pub formed_same : {X : Type 0} (old new : Keyspace S) (list : Elements) (form : FormRule) (result : Result (List Part) X) → from ≡ to
      → form ≡ Either (AsAt at.db from) (risen_to at.db (visible blocks old at) to list)
      → Formed blocks (risen_to at.db (visible blocks old at) from list) old new
      → AllAt (HasForm (risen_to at.db (visible blocks old at) from list) old.bases (blocks old.store)) new.bases (blocks new.store) at.db from
      → IfOk result (λ reply. Formed blocks form old new × Placed blocks (placed_between at.db from to form) reply old new)
  formed_same old new list form result same is p placed =
      let m = blocks old.store in
      let after = blocks new.store in
      formed_between blocks at.db from to old new form (Either (AsAt at.db from) (risen_to at.db (visible blocks old at) to list)) result is
      (written_as (HasForm (risen_to at.db (visible blocks old at) from list) old.bases m) (HasForm (Either (AsAt at.db from) (risen_to at.db (visible blocks old at) to list)) old.bases m)
      (λ value h. inr (subst (λ (k : List ℕ). HasForm (risen_to at.db (visible blocks old at) k list) old.bases m value) same h)) old.bases new.bases m after p)
      (placed_one at.db from to (AsAt at.db from) (risen_to at.db (visible blocks old at) to list) old.bases new.bases m after (eq_same from to same)
      (subst (λ (k : List ℕ). AllAt (HasForm (risen_to at.db (visible blocks old at) k list) old.bases m) new.bases after at.db k) same placed, tt))

-- ---- what is answered

met_none : (end : ListEnd) → from_end end [] ≡ []
met_none end = no_elements (from_end end []) (met_length end [])

pub moves_none : {X : Type 0} (old : World) (from to : List ℕ) (end other : ListEnd) (result : Result (List Part) X) → HasNone old from → IfOk result (λ reply. reply ≡ Null ∷ [])
    → IfOk result (λ reply. move_element old from to end other ≡ leaves reply old)
moves_none old from to end other (Err x) none told = tt
moves_none old from to end other (Ok reply) none told =
    on_before old from none.no_other.before (move_there old from to end other) none.no_other.stands ∙ by_before none.no_other.before none.none ∙ ap (λ r. leaves r old) (sym told)
  where
    by_before : (before : Option Elements) → or_none before ≡ [] → move_there old from to end other before ≡ leaves (Null ∷ []) old
    by_before None is = refl
    by_before (Some list) is = ap (λ l. move_first old from to end other list (from_end end l)) is ∙ ap (move_first old from to end other list) (met_none end)

-- where no element is met, none is written
pub form_none : (db : ℕ) (old : World) (from to : List ℕ) (end other : ListEnd) → HasNone old from → moved_to db old from to end other (from_end end (list_at old from)) ≡ Unwritten
form_none db old from to end other none =
    ap (λ (l : Elements). moved_to db old from to end other (from_end end l)) (list_before old from none.no_other.before none.no_other.stands ∙ none.none)
    ∙ ap (moved_to db old from to end other) (met_none end)

module _ (old : World) (from to : List ℕ) (end other : ListEnd) (element : List ℕ) (p : IsFirst old from end element) where
  met_is : from_end end (list_at old from) ≡ element ∷ p.met
  met_is = ap (from_end end) (list_before old from (Some p.list) p.has) ∙ p.first

  rest_is : from_end end p.met ≡ without end 1 (list_at old from)
  rest_is = sym (ap (λ (l : Elements). from_end end (drop 1 l)) met_is)

  moves_met : move_element old from to end other ≡ move_first old from to end other p.list (element ∷ p.met)
  moves_met = on_before old from (Some p.list) (move_there old from to end other) p.has ∙ ap (move_first old from to end other p.list) p.first

  abbrev moved : Elements → Option Elements → Outcome
  moved rest before = leaves (Bulk element ∷ []) (keep_list (keep_list old from rest) to (added other (or_none before) (element ∷ [])))

  pub moves_same : {X : Type 0} (new : World) (result : Result (List Part) X) → bytes_eq from to ≡ true → new ≡ keep_list old from (added other (without end 1 (list_at old from)) (element ∷ []))
      → IfOk result (λ reply. reply ≡ Bulk element ∷ []) → IfOk result (λ reply. move_element old from to end other ≡ leaves reply new)
  moves_same new (Err x) is world told = tt
  moves_same new (Ok reply) is world told =
      moves_met ∙ cond-true _ _ _ is
      ∙ ap (λ (l : Elements). leaves (Bulk element ∷ []) (keep_list old from (added other l (element ∷ [])))) rest_is
      ∙ ap (λ (w : World). leaves (Bulk element ∷ []) w) (sym world)
      ∙ ap (λ r. leaves r new) (sym told)

  pub moves_refused : {X : Type 0} (result : Result (List Part) X) → bytes_eq from to ≡ false → FoundOther old to → IfOk result (λ reply. reply ≡ Refused WrongType ∷ [])
      → IfOk result (λ reply. move_element old from to end other ≡ leaves reply old)
  moves_refused (Err x) is found told = tt
  moves_refused {X = X} (Ok reply) is found told = moves_met ∙ cond-false _ _ _ is ∙ refused_other {E = X} old to (moved (from_end end p.met)) (Ok reply) found told

  pub moves_on : {X : Type 0} (new : World) (result : Result (List Part) X) → bytes_eq from to ≡ false → HasNoOther old to
      → new ≡ keep_list (keep_list old from (without end 1 (list_at old from))) to (added other (list_at old to) (element ∷ []))
      → IfOk result (λ reply. reply ≡ Bulk element ∷ []) → IfOk result (λ reply. move_element old from to end other ≡ leaves reply new)
  moves_on new (Err x) is no_other world told = tt
  moves_on new (Ok reply) is no_other world told =
      moves_met ∙ cond-false _ _ _ is
      ∙ on_before old to no_other.before (moved (from_end end p.met)) no_other.stands
      ∙ ap (λ (l : Elements). moved l no_other.before) rest_is
      ∙ ap (λ (l : Elements). leaves (Bulk element ∷ []) (keep_list (keep_list old from (without end 1 (list_at old from))) to (added other l (element ∷ []))))
      (sym (list_before old to no_other.before no_other.stands))
      ∙ ap (λ (w : World). leaves (Bulk element ∷ []) w) (sym world)
      ∙ ap (λ r. leaves r new) (sym told)

  abbrev form_with : ℕ → Elements → FormRule
  form_with db list = Either (AsAt db from) (risen_to db old to (added other list (element ∷ [])))

  form_met : (db : ℕ) (same : Bool) → bytes_eq from to ≡ same → moved_to db old from to end other (from_end end (list_at old from)) ≡ form_with db (cond same (from_end end p.met) (list_at old to))
  form_met db same is = ap (moved_to db old from to end other) met_is ∙ ap (λ b. form_with db (cond b (from_end end p.met) (list_at old to))) is

  pub form_same : (db : ℕ) → bytes_eq from to ≡ true → moved_to db old from to end other (from_end end (list_at old from)) ≡ Either (AsAt db from)
      (risen_to db old to (added other (without end 1 (list_at old from)) (element ∷ [])))
  form_same db is = form_met db true is ∙ ap (form_with db) rest_is

  pub form_apart : (db : ℕ) → bytes_eq from to ≡ false → moved_to db old from to end other (from_end end (list_at old from)) ≡ Either (AsAt db from)
      (risen_to db old to (added other (list_at old to) (element ∷ [])))
  form_apart db is = form_met db false is
