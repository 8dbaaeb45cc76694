-- A set at a key that was changed, or put there.
use Rattle.std.proofs.Common.{◌≡◌, false, ℕ, ◌<◌, List, Option, None, Some, Result, Ok, Err, OnOk, refl, sym, ap, subst, ◌∙◌, arith}
use Rattle.std.proofs.lemmas.Bool.{cond-true, cond-false, eq-eqb, ne_eqb}
use Rattle.std.specs.FinMap.{empty, len}
use Rattle.std.specs.Global.{Box}
use Rattle.blocks.specs.Blocks.{Blocks}
use Rattle.object_codec.specs.declared.form.Form.{Form}
use Rattle.object_codec.specs.declared.limits.Limits.{Limits}
use Rattle.object_codec.specs.Forms.{IsLeast}
use Rattle.set_object.specs.declared.members.Members as object
use Rattle.set_object.specs.Strings.{FitsMembers}
use Rattle.set_object.specs.Members.{members}
use Rattle.plain_world.specs.Worlds.{World, Entry, SetOf, look, put, remove, deadline_of}
use Rattle.plain_world.specs.Worlds as model
use Rattle.plain_model.specs.OfType.{set_in}
use Rattle.plain_model.specs.SetSteps.{Members, or_no_members, keep_set}
use Rattle.plain_model.specs.declared.ctx.Ctx.{Ctx}
use Rattle.held.specs.Calls.{AllAt, HasValue, StandsAt}
use Rattle.keyspace.specs.declared.value.Value.{Value}
use Rattle.keyspace.specs.declared.value.Value.TheVariants as kinds
use Rattle.keyspace.specs.Calls.{Found}
use Rattle.keyspace.specs.Values.{Encoding, OfText, OfForm, IsSound, value_of, encoding_of}
use Rattle.keyspace.specs.Databases.{Bases, Keyspace}
use Rattle.keyspace.specs.Sound.{Sound}
use Rattle.keyspace.specs.Scopes.{one_key, no_key}
use Rattle.keyspace.specs.Commands.{KeepsTo, seen, visible}
use Rattle.keyspace.specs.Edits.{Shape, shape, limits_of, Edits, MakesNew}
use Rattle.keyspace.proofs.Absent.{remove_put}
use Rattle.keyspace.proofs.Running.{held_then, held_at_key}
use Rattle.cmd_sets.specs.Changed.{HasSet, SetItem, IsSetThat, MakesSet, SetChanged, Counting, IsFormed, IsLasting, keep_any}
use Rattle.cmd_sets.proofs.Looking.{is_set}

-- the form that an encoding names
abbrev pub form_in : Form → Encoding → Form
form_in other (OfForm form) = form
form_in other (OfText raw) = other

pub not_set : (value : Value) → ((box : Box object.Members) → value ≡ kinds.Set box → ⊥) → is_set value ≡ false
not_set (kinds.Text text) other = refl
not_set (kinds.List box) other = refl
not_set (kinds.Set box) other = absurd (other box refl)
not_set (kinds.Hash box) other = refl
not_set (kinds.Zset box) other = refl
not_set (kinds.Stream box) other = refl

-- the set that was found at a key
pub set_item : (bases : Bases) (m : Blocks) (at : Ctx) (key : List ℕ) (number : ℕ) (value : Value) (box : Box object.Members) → value ≡ kinds.Set box
    → StandsAt bases m at.db key at.moment number → Found bases m at.db key at.moment value → SetItem (seen at bases m) bases m at.db key at.moment number
set_item bases m at key number value box is there found = record {
  there = there;
  members = members m box.value;
  has = record { deadline = found.deadline; stands = found.stands ∙ ap (λ (v : Value). Some (record { value = value_of m v; deadline = found.deadline })) is };
}

-- what holds of the value that stands at a key, where one does
abbrev HoldsThere : (Members → Type 0) → Option Entry → Type 0
HoldsThere Is None = Unit {0}
HoldsThere Is (Some entry) = IsSetThat Is entry.value

pub takes_there : (Is : Members → Type 0) (world : World) (key : List ℕ) (set : Members) → HasSet world key set → Is set → (entry : Entry) → look world key ≡ Some entry → IsSetThat Is entry.value
takes_there Is world key set has holds entry is = subst (HoldsThere Is) (sym has.stands ∙ is) holds

-- the limits of a value that keeps them are those that it was made with
sound_limits : (limits own : Limits) (seed : ℕ) (m : Blocks) (value : Value) → IsSound limits seed m value → limits_of value ≡ Some own → own ≡ limits
sound_limits limits own seed m (kinds.Text text) sound is = cc
sound_limits limits own seed m (kinds.List b) sound is = cc
sound_limits limits own seed m (kinds.Set b) sound is = let same = sound.1 in cc
sound_limits limits own seed m (kinds.Hash b) sound is = let same = sound.1 in cc
sound_limits limits own seed m (kinds.Zset b) sound is = let same = sound.1 in cc
sound_limits limits own seed m (kinds.Stream b) sound is = cc

same_limits : (a b : Limits) → Some a ≡ Some b → a ≡ b
same_limits a b is = cc

-- and so are those of a value that stands at a key
had_limits : (bases : Bases) (m : Blocks) (db : ℕ) (key : List ℕ) (value : Value) (own : Limits) → Sound bases m → HasValue bases m db key value → limits_of value ≡ Some own → own ≡ bases.limits
had_limits bases m db key value own sound had is = sound_limits bases.limits own bases.seed m value
    (subst (IsSound bases.limits bases.seed m) had.is (sound.arranged.values db had.at had.element had.found)) is

module _ {S T X : Type 0} (makes : T → T → Shape → Shape → Type 0) (own : Limits → Members → Form → Members → Form → Type 0) (left : ℕ) (first last : T) (blocks : S → Blocks)
    (old new : Keyspace S) (at : Ctx) (key : List ℕ)
    (same : (o n : Shape) → makes first last o n → MakesSet own left o n) where
  pub set_new : (fresh : Value) → value_of (blocks old.store) fresh ≡ SetOf empty → limits_of fresh ≡ Some old.bases.limits
      → ((f : Form) → encoding_of fresh ≡ OfForm f → IsLeast (FitsMembers old.bases.limits empty) f) → look (visible blocks old at) key ≡ None
      → (result : Result (Unit {0}) X) → OnOk result (MakesNew makes first last blocks old new at key fresh)
      → OnOk result (SetChanged (Counting (own old.bases.limits) left) keep_any IsFormed blocks old new at key)
  set_new fresh is_empty limits_are least none (Err e) p = tt
  set_new fresh is_empty limits_are least none (Ok u) p =
      let q = same (shape (blocks old.store) fresh) p.is p.made in
      let nothing : q.members ≡ empty = ap (λ (v : model.Value). or_no_members (set_in v)) (sym q.was ∙ is_empty) in
      let limits : q.limits ≡ old.bases.limits = same_limits _ _ (sym q.was_limits ∙ limits_are) in
      record {
        before = None;
        stands = none;
        from = q.from;
        now = q.now;
        form = q.form;
        made = (subst (λ (l : Limits). own l empty q.from q.now q.form) limits (subst (λ (s : Members). own q.limits s q.from q.now q.form) nothing q.made), q.counted);
        was_form = least q.from q.was_form;
        world = p.world ∙ ap (λ (v : model.Value). put (visible blocks old at) key (record { value = v; deadline = None })) q.is
            ∙ ap (λ (d : Option ℕ). put (visible blocks old at) key (record { value = SetOf q.now; deadline = d })) (sym (ap deadline_of none));
        is = λ number e found bytes. ap encoding_of (p.only number e found bytes) ∙ p.encoded ∙ q.is_form;
      }

  pub set_there : Sound old.bases (blocks old.store) → (result : Result (Unit {0}) X) → OnOk result (Edits makes first last blocks old new at key)
      → OnOk result (SetChanged (Counting (own old.bases.limits) left) keep_any IsFormed blocks old new at key)
  set_there sound (Err e) p = tt
  set_there sound (Ok u) p =
      let q = same (shape (blocks old.store) p.was) (shape (blocks new.store) p.now) p.made in
      let limits : q.limits ≡ old.bases.limits = had_limits old.bases (blocks old.store) at.db key p.was q.limits sound p.had q.was_limits in
      record {
        before = Some q.members;
        stands = record { deadline = p.deadline; stands = p.stands ∙ ap (λ (v : model.Value). Some (record { value = v; deadline = p.deadline })) q.was };
        from = q.from;
        now = q.now;
        form = q.form;
        made = (subst (λ (l : Limits). own l q.members q.from q.now q.form) limits q.made, q.counted);
        was_form = (p.was, p.had, q.was_form);
        world = p.world ∙ ap (λ (v : model.Value). put (visible blocks old at) key (record { value = v; deadline = p.deadline })) q.is
            ∙ ap (λ (d : Option ℕ). put (visible blocks old at) key (record { value = SetOf q.now; deadline = d })) (sym (ap deadline_of p.stands));
        is = λ number e found bytes. ap encoding_of (p.only number e found bytes) ∙ q.is_form;
      }

-- ---- a set without a member goes with its key

kept_is : (old new : World) (key : List ℕ) (set : Members) → 0 < len set → new ≡ keep_any old key set → new ≡ keep_set old key set
kept_is old new key set some is = is ∙ sym (cond-false _ _ _ (ne_eqb (len set) 0 (λ none. omega (arith, some, none))))

gone_is : (old new : World) (key : List ℕ) (set : Members) → len set ≡ 0 → new ≡ remove old key → new ≡ keep_set old key set
gone_is old new key set none is = is ∙ sym (cond-true _ _ _ (eq-eqb (len set) 0 none))

module _ {S : Type 0} (own : Members → Form → Members → Form → Type 0) (left : ℕ) (blocks : S → Blocks) (old mid : Keyspace S) (at : Ctx) (key : List ℕ)
    (p : SetChanged (Counting own left) keep_any IsFormed blocks old mid at key) where
  pub set_kept : 0 < left → SetChanged own keep_set IsLasting blocks old mid at key
  set_kept some =
      let lasts : 0 < len p.now = omega (arith, some, p.made.1) in
      record {
        before = p.before;
        stands = p.stands;
        from = p.from;
        now = p.now;
        form = p.form;
        made = p.made.0;
        was_form = p.was_form;
        world = kept_is (visible blocks old at) (visible blocks mid at) key p.now lasts p.world;
        is = λ number e found bytes. (p.is number e found bytes, lasts);
      }

  pub set_gone : left ≡ 0 → (new : Keyspace S) → visible blocks new at ≡ remove (visible blocks mid at) key → AllAt (λ value. ⊥) new.bases (blocks new.store) at.db key
      → SetChanged own keep_set IsLasting blocks old new at key
  set_gone none new world gone = record {
    before = p.before;
    stands = p.stands;
    from = p.from;
    now = p.now;
    form = p.form;
    made = p.made.0;
    was_form = p.was_form;
    world = gone_is (visible blocks old at) (visible blocks new at) key p.now (omega (arith, none, p.made.1))
        (world ∙ ap (λ (w : World). remove w key) p.world ∙ remove_put (visible blocks old at) key (record { value = SetOf p.now; deadline = deadline_of (look (visible blocks old at) key) }));
    is = λ number e found bytes. absurd (gone number e found bytes);
  }

-- a key is removed after it was changed
pub held_gone : {S : Type 0} (blocks : S → Blocks) (step : S → S → Type 0) (db : ℕ) (key : List ℕ) (old mid new : Keyspace S) → KeepsTo blocks step (one_key db key) old mid
    → KeepsTo blocks step (no_key db) mid new → KeepsTo blocks step (one_key db key) old new
held_gone blocks step db key old mid new p q =
    held_then blocks step (one_key db key) old mid new p (held_at_key blocks step db key mid new q)
