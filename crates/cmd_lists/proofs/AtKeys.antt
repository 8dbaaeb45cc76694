-- A list at a key that was changed, or put there.
use Rattle.std.proofs.Common.{◌≡◌, false, ℕ, ◌<◌, List, [], ◌∷◌, length, Option, None, Some, Result, Ok, Err, OnOk, refl, sym, ap, subst, ◌∙◌, arith}
use Rattle.blocks.specs.declared.BlockRef.{BlockRef}
use Rattle.blocks.specs.Blocks.{Blocks, Owned, no_blocks, ref_eq}
use Rattle.blocks.proofs.Change.{one_if}
use Rattle.blocks.proofs.Refs.{ref_eq_refl}
use Rattle.std.proofs.lemmas.Bool.{cond-true}
use Rattle.object_codec.specs.declared.form.Form.{Form}
use Rattle.object_codec.specs.Forms.{IsLeast, FitsList}
use Rattle.plain_world.specs.Worlds.{World, Entry, ListOf, look, put, remove, deadline_of}
use Rattle.plain_world.specs.Worlds as model
use Rattle.plain_model.specs.OfType.{list_in}
use Rattle.plain_model.specs.ListSteps.{Elements, or_none, keep_list}
use Rattle.plain_model.specs.declared.ctx.Ctx.{Ctx}
use Rattle.held.specs.Calls.{HasOnly, StandsAt}
use Rattle.keyspace.specs.declared.value.Value.{Value}
use Rattle.keyspace.specs.declared.value.Value.TheVariants as kinds
use Rattle.keyspace.specs.Calls.{Found}
use Rattle.quicklist.specs.Chain.{Chain, elements}
use Rattle.std.specs.Global.{Box}
use Rattle.keyspace.specs.Values.{Encoding, OfText, OfForm, value_of, encoding_of}
use Rattle.keyspace.specs.Databases.{Bases, Keyspace}
use Rattle.keyspace.specs.Scopes.{one_key, no_key, Within}
use Rattle.keyspace.specs.Commands.{KeepsTo, seen, visible}
use Rattle.keyspace.specs.Edits.{Shape, shape, Edits, MakesNew}
use Rattle.keyspace.proofs.Running.{held_then, held_at_key}
use Rattle.cmd_lists.specs.Changed.{HasList, ListItem, IsListThat, MakesList, ListChanged, Counting, keep_any}
use Rattle.cmd_lists.proofs.Looking.{is_list}
use Rattle.keyspace.proofs.Absent.{remove_put}

-- what owns no block in any store has no reference
pub refs_none : (xs : List BlockRef) → Owned xs no_blocks → xs ≡ []
refs_none [] own = refl
refs_none (x ∷ xs) own = absurd (let itself : one_if (ref_eq x x) ≡ 1 = cond-true _ _ _ (ref_eq_refl x) in omega (arith, itself, own x))

-- the form that an encoding names
abbrev pub form_in : Form → Encoding → Form
form_in other (OfForm form) = form
form_in other (OfText raw) = other

pub not_list : (value : Value) → ((box : Box Chain) → value ≡ kinds.List box → ⊥) → is_list value ≡ false
not_list (kinds.Text text) other = refl
not_list (kinds.List box) other = absurd (other box refl)
not_list (kinds.Set box) other = refl
not_list (kinds.Hash box) other = refl
not_list (kinds.Zset box) other = refl
not_list (kinds.Stream box) other = refl

-- the list that was found at a key
pub list_item : (bases : Bases) (m : Blocks) (at : Ctx) (key : List ℕ) (number : ℕ) (value : Value) (box : Box Chain) → value ≡ kinds.List box → StandsAt bases m at.db key at.moment number
    → Found bases m at.db key at.moment value → ListItem (seen at bases m) bases m at.db key at.moment number
list_item bases m at key number value box is there found = record {
  there = there;
  list = elements m box.value;
  has = record { deadline = found.deadline; stands = found.stands ∙ ap (λ (v : Value). Some (record { value = value_of m v; deadline = found.deadline })) is };
}

-- what holds of the value that stands at a key, where one does
abbrev HoldsThere : (Elements → Type 0) → Option Entry → Type 0
HoldsThere Is None = Unit {0}
HoldsThere Is (Some entry) = IsListThat Is entry.value

pub takes_there : (Is : Elements → Type 0) (world : World) (key : List ℕ) (list : Elements) → HasList world key list → Is list → (entry : Entry) → look world key ≡ Some entry
    → IsListThat Is entry.value
takes_there Is world key list has holds entry is = subst (HoldsThere Is) (sym has.stands ∙ is) holds

module _ {S T X : Type 0} (makes : T → T → Shape → Shape → Type 0) (own : Elements → Form → Elements → Form → Type 0) (left : ℕ) (first last : T) (blocks : S → Blocks)
    (old new : Keyspace S) (at : Ctx) (key : List ℕ)
    (same : (o n : Shape) → makes first last o n → MakesList own left o n) where
  pub list_new : (fresh : Value) → value_of (blocks old.store) fresh ≡ ListOf [] → ((f : Form) → encoding_of fresh ≡ OfForm f → IsLeast (FitsList 7) f) → look (visible blocks old at) key ≡ None
      → (result : Result (Unit {0}) X) → OnOk result (MakesNew makes first last blocks old new at key fresh) → OnOk result (ListChanged (Counting own left) keep_any blocks old new at key)
  list_new fresh empty least none (Err e) p = tt
  list_new fresh empty least none (Ok u) p =
      let q = same (shape (blocks old.store) fresh) p.is p.made in
      let nothing : q.list ≡ [] = ap (λ (v : model.Value). or_none (list_in v)) (sym q.was ∙ empty) in
      record {
        before = None;
        stands = none;
        from = q.from;
        now = q.now;
        form = q.form;
        made = (subst (λ (l : Elements). own l q.from q.now q.form) nothing q.made, q.counted);
        was_form = least q.from q.was_form;
        world = p.world ∙ ap (λ (v : model.Value). put (visible blocks old at) key (record { value = v; deadline = None })) q.is
            ∙ ap (λ (d : Option ℕ). put (visible blocks old at) key (record { value = ListOf q.now; deadline = d })) (sym (ap deadline_of none));
        value = p.now;
        only = p.only;
        encoded = p.encoded ∙ q.is_form;
      }

  pub list_there : (result : Result (Unit {0}) X) → OnOk result (Edits makes first last blocks old new at key) → OnOk result (ListChanged (Counting own left) keep_any blocks old new at key)
  list_there (Err e) p = tt
  list_there (Ok u) p =
      let q = same (shape (blocks old.store) p.was) (shape (blocks new.store) p.now) p.made in
      record {
        before = Some q.list;
        stands = record { deadline = p.deadline; stands = p.stands ∙ ap (λ (v : model.Value). Some (record { value = v; deadline = p.deadline })) q.was };
        from = q.from;
        now = q.now;
        form = q.form;
        made = (q.made, q.counted);
        was_form = (p.was, p.had, q.was_form);
        world = p.world ∙ ap (λ (v : model.Value). put (visible blocks old at) key (record { value = v; deadline = p.deadline })) q.is
            ∙ ap (λ (d : Option ℕ). put (visible blocks old at) key (record { value = ListOf q.now; deadline = d })) (sym (ap deadline_of p.stands));
        value = p.now;
        only = p.only;
        encoded = q.is_form;
      }

-- ---- a list without an element goes with its key

kept_is : (old new : World) (key : List ℕ) (list : Elements) → 0 < length list → new ≡ keep_any old key list → new ≡ keep_list old key list
kept_is old new key [] some is = absurd (omega (arith, some))
kept_is old new key (x ∷ rest) some is = is

gone_is : (old new : World) (key : List ℕ) (list : Elements) → length list ≡ 0 → new ≡ remove old key → new ≡ keep_list old key list
gone_is old new key [] none is = is
gone_is old new key (x ∷ rest) none is = absurd (omega (arith, none))

-- whatever stands at the key is this value still, where no key is written
only_on : (mid new : Bases) (m after : Blocks) (db : ℕ) (key : List ℕ) (value : Value) → HasOnly mid m db key value → Within (no_key db) mid new m after → HasOnly new after db key value
only_on mid new m after db key value only within at e found bytes =
    let stayed = within.stayed db at e found (λ named. named.1) in
    let itself : one_if (ref_eq e.key e.key) ≡ 1 = cond-true _ _ _ (ref_eq_refl e.key) in
    only at e stayed.stood (sym (stayed.bytes e.key (omega (arith, itself))) ∙ bytes)

module _ {S : Type 0} (own : Elements → Form → Elements → Form → Type 0) (left : ℕ) (blocks : S → Blocks) (old mid : Keyspace S) (at : Ctx) (key : List ℕ)
    (p : ListChanged (Counting own left) keep_any blocks old mid at key) where
  pub list_kept : 0 < left → ListChanged own keep_list blocks old mid at key
  list_kept some = record {
    before = p.before;
    stands = p.stands;
    from = p.from;
    now = p.now;
    form = p.form;
    made = p.made.0;
    was_form = p.was_form;
    world = kept_is (visible blocks old at) (visible blocks mid at) key p.now (omega (arith, some, p.made.1)) p.world;
    value = p.value;
    only = p.only;
    encoded = p.encoded;
  }

  pub list_gone : left ≡ 0 → (new : Keyspace S) → visible blocks new at ≡ remove (visible blocks mid at) key → Within (no_key at.db) mid.bases new.bases (blocks mid.store) (blocks new.store)
      → ListChanged own keep_list blocks old new at key
  list_gone none new world within = record {
    before = p.before;
    stands = p.stands;
    from = p.from;
    now = p.now;
    form = p.form;
    made = p.made.0;
    was_form = p.was_form;
    world = gone_is (visible blocks old at) (visible blocks new at) key p.now (omega (arith, none, p.made.1))
        (world ∙ ap (λ (w : World). remove w key) p.world ∙ remove_put (visible blocks old at) key
        (record { value = ListOf p.now; deadline = deadline_of (look (visible blocks old at) key) }));
    value = p.value;
    only = only_on mid.bases new.bases (blocks mid.store) (blocks new.store) at.db key p.value p.only within;
    encoded = p.encoded;
  }

-- a key is removed after it was changed
pub held_gone : {S : Type 0} (blocks : S → Blocks) (step : S → S → Type 0) (db : ℕ) (key : List ℕ) (old mid new : Keyspace S) → KeepsTo blocks step (one_key db key) old mid
    → KeepsTo blocks step (no_key db) mid new → KeepsTo blocks step (one_key db key) old new
held_gone blocks step db key old mid new p q =
    held_then blocks step (one_key db key) old mid new p (held_at_key blocks step db key mid new q)
