-- A hash at a key that was changed, or put there.
use Rattle.std.proofs.Common.{◌≡◌, false, ℕ, ◌<◌, List, Option, None, Some, Result, Ok, Err, OnOk, refl, sym, ap, subst, ◌∙◌, arith}
use Rattle.std.specs.FinMap.{empty, len}
use Rattle.blocks.specs.Blocks.{Blocks, ref_eq}
use Rattle.blocks.proofs.Change.{one_if}
use Rattle.blocks.proofs.Refs.{ref_eq_refl}
use Rattle.std.proofs.lemmas.Bool.{cond-true, cond-false, eq-eqb, ne_eqb}
use Rattle.object_codec.specs.declared.form.Form.{Form}
use Rattle.object_codec.specs.declared.limits.Limits.{Limits}
use Rattle.object_codec.specs.Forms.{IsLeast}
use Rattle.hash_object.specs.Maps.{FitsFields}
use Rattle.hash_object.specs.Fields as object
use Rattle.hash_object.specs.declared.fields.Fields as kept
use Rattle.plain_world.specs.Worlds.{World, Entry, HashOf, look, put, remove, deadline_of}
use Rattle.plain_world.specs.Worlds as model
use Rattle.plain_model.specs.OfType.{hash_in}
use Rattle.plain_model.specs.HashSteps.{Fields, or_no_fields, keep_hash}
use Rattle.plain_model.specs.declared.ctx.Ctx.{Ctx}
use Rattle.held.specs.Calls.{HasOnly, HasValue, StandsAt}
use Rattle.held.proofs.Timing.{some_none}
use Rattle.keyspace.specs.declared.value.Value.{Value}
use Rattle.keyspace.specs.declared.value.Value.TheVariants as kinds
use Rattle.keyspace.specs.Calls.{Found}
use Rattle.std.specs.Global.{Box}
use Rattle.keyspace.specs.Sound.{Sound}
use Rattle.keyspace.specs.Values.{Encoding, OfText, OfForm, value_of, encoding_of, IsSound}
use Rattle.keyspace.specs.Databases.{Bases, Keyspace}
use Rattle.keyspace.specs.Scopes.{one_key, no_key, Within}
use Rattle.keyspace.specs.Commands.{KeepsTo, seen, visible}
use Rattle.keyspace.specs.Edits.{Shape, shape, limits_of, Edits, MakesNew}
use Rattle.keyspace.proofs.Running.{held_then, held_at_key}
use Rattle.cmd_hashes.specs.Changed.{HasHash, HashItem, IsHashThat, Made, MakesHash, HashChanged, Counting, keep_any}
use Rattle.cmd_hashes.specs.Found.{FoundHash, FoundOther}
use Rattle.cmd_hashes.proofs.Looking.{is_hash}
use Rattle.keyspace.proofs.Absent.{remove_put}

-- the form that an encoding names
abbrev pub form_in : Form → Encoding → Form
form_in other (OfForm form) = form
form_in other (OfText raw) = other

pub not_hash : (value : Value) → ((box : Box kept.Fields) → value ≡ kinds.Hash box → ⊥) → is_hash value ≡ false
not_hash (kinds.Text text) other = refl
not_hash (kinds.Hash box) other = absurd (other box refl)
not_hash (kinds.Set box) other = refl
not_hash (kinds.List box) other = refl
not_hash (kinds.Zset box) other = refl
not_hash (kinds.Stream box) other = refl

-- the hash that was found at a key
pub hash_item : (bases : Bases) (m : Blocks) (at : Ctx) (key : List ℕ) (number : ℕ) (value : Value) (box : Box kept.Fields) → value ≡ kinds.Hash box
    → StandsAt bases m at.db key at.moment number → Found bases m at.db key at.moment value → HashItem (seen at bases m) bases m at.db key at.moment number
hash_item bases m at key number value box is there found = record {
  there = there;
  fields = object.fields m box.value;
  has = record { deadline = found.deadline; stands = found.stands ∙ ap (λ (v : Value). Some (record { value = value_of m v; deadline = found.deadline })) is };
}

-- the limits that a value was made with
abbrev limits_or : Limits → Option Limits → Limits
limits_or other None = other
limits_or other (Some limits) = limits

-- a sound value is kept by the limits of its databases
limits_known : (limits : Limits) (seed : ℕ) (m : Blocks) (value : Value) (own : Limits) → IsSound limits seed m value → limits_of value ≡ Some own → own ≡ limits
limits_known limits seed m (kinds.Text text) own sound is = cc
limits_known limits seed m (kinds.List box) own sound is = cc
limits_known limits seed m (kinds.Set box) own sound is = sym (ap (limits_or own) is) ∙ sound.1
limits_known limits seed m (kinds.Hash box) own sound is = sym (ap (limits_or own) is) ∙ sound.1
limits_known limits seed m (kinds.Zset box) own sound is = sym (ap (limits_or own) is) ∙ sound.1
limits_known limits seed m (kinds.Stream box) own sound is = cc

kept_by : (bases : Bases) (m : Blocks) (db : ℕ) (key : List ℕ) (value : Value) (own : Limits) → Sound bases m → HasValue bases m db key value → limits_of value ≡ Some own → own ≡ bases.limits
kept_by bases m db key value own sound had is = limits_known bases.limits bases.seed m value own
    (subst (IsSound bases.limits bases.seed m) had.is (sound.arranged.values db had.at had.element had.found)) is

-- the value that was found at a key is a hash
pub found_hash : (bases : Bases) (m : Blocks) (at : Ctx) (key : List ℕ) (value : Value) (box : Box kept.Fields) → value ≡ kinds.Hash box → Sound bases m
    → Found bases m at.db key at.moment value → FoundHash (seen at bases m) m key box.value
found_hash bases m at key value box is sound found =
    let own = subst (Found bases m at.db key at.moment) is found in
    record {
      deadline = own.deadline;
      stands = own.stands;
      sound = (subst (IsSound bases.limits bases.seed m) own.has.is (sound.arranged.values at.db own.has.at own.has.element own.has.found)).0;
    }

abbrev hash_found : Option Entry → Option Fields
hash_found None = None
hash_found (Some entry) = hash_in entry.value

-- where a hash stands at a key, the value that was found there is one
pub no_other : (world : World) (key : List ℕ) (fields : Fields) → HasHash world key fields → FoundOther world key → ⊥
no_other world key fields has other = some_none _ _ (ap hash_found (sym other.stands ∙ has.stands)) other.other

-- what holds of the value that stands at a key, where one does
abbrev HoldsThere : (Fields → Type 0) → Option Entry → Type 0
HoldsThere Is None = Unit {0}
HoldsThere Is (Some entry) = IsHashThat Is entry.value

pub takes_there : (Is : Fields → Type 0) (world : World) (key : List ℕ) (fields : Fields) → HasHash world key fields → Is fields → (entry : Entry) → look world key ≡ Some entry
    → IsHashThat Is entry.value
takes_there Is world key fields has holds entry is = subst (HoldsThere Is) (sym has.stands ∙ is) holds

module _ {S T X : Type 0} (makes : T → T → Shape → Shape → Type 0) (own : Made) (left : ℕ) (first last : T) (blocks : S → Blocks) (old new : Keyspace S) (at : Ctx) (key : List ℕ)
    (same : (o n : Shape) → makes first last o n → MakesHash own left o n) where
  pub hash_new : (fresh : Value) → value_of (blocks old.store) fresh ≡ HashOf empty → limits_of fresh ≡ Some old.bases.limits
      → ((f : Form) → encoding_of fresh ≡ OfForm f → IsLeast (FitsFields old.bases.limits empty) f) → look (visible blocks old at) key ≡ None
      → (result : Result (Unit {0}) X) → OnOk result (MakesNew makes first last blocks old new at key fresh) → OnOk result (HashChanged (Counting own left) keep_any blocks old new at key)
  hash_new fresh blank limits least none (Err e) p = tt
  hash_new fresh blank limits least none (Ok u) p =
      let q = same (shape (blocks old.store) fresh) p.is p.made in
      let nothing : q.fields ≡ empty = ap (λ (v : model.Value). or_no_fields (hash_in v)) (sym q.was ∙ blank) in
      let by : q.limits ≡ old.bases.limits = ap (limits_or q.limits) (sym q.kept_by ∙ limits) in
      record {
        before = None;
        stands = none;
        from = q.from;
        now = q.now;
        form = q.form;
        made = (subst (λ (n : Limits). own n empty q.from q.now q.form) by (subst (λ (l : Fields). own q.limits l q.from q.now q.form) nothing q.made), q.counted);
        was_form = least q.from q.was_form;
        world = p.world ∙ ap (λ (v : model.Value). put (visible blocks old at) key (record { value = v; deadline = None })) q.is
            ∙ ap (λ (d : Option ℕ). put (visible blocks old at) key (record { value = HashOf q.now; deadline = d })) (sym (ap deadline_of none));
        value = p.now;
        only = p.only;
        encoded = p.encoded ∙ q.is_form;
      }

  pub hash_there : Sound old.bases (blocks old.store) → (result : Result (Unit {0}) X) → OnOk result (Edits makes first last blocks old new at key)
      → OnOk result (HashChanged (Counting own left) keep_any blocks old new at key)
  hash_there sound (Err e) p = tt
  hash_there sound (Ok u) p =
      let q = same (shape (blocks old.store) p.was) (shape (blocks new.store) p.now) p.made in
      let by = kept_by old.bases (blocks old.store) at.db key p.was q.limits sound p.had q.kept_by in
      record {
        before = Some q.fields;
        stands = record { deadline = p.deadline; stands = p.stands ∙ ap (λ (v : model.Value). Some (record { value = v; deadline = p.deadline })) q.was };
        from = q.from;
        now = q.now;
        form = q.form;
        made = (subst (λ (n : Limits). own n q.fields q.from q.now q.form) by q.made, q.counted);
        was_form = (p.was, p.had, q.was_form);
        world = p.world ∙ ap (λ (v : model.Value). put (visible blocks old at) key (record { value = v; deadline = p.deadline })) q.is
            ∙ ap (λ (d : Option ℕ). put (visible blocks old at) key (record { value = HashOf q.now; deadline = d })) (sym (ap deadline_of p.stands));
        value = p.now;
        only = p.only;
        encoded = q.is_form;
      }

-- ---- a hash without a field goes with its key

kept_is : (old new : World) (key : List ℕ) (fields : Fields) → 0 < len fields → new ≡ keep_any old key fields → new ≡ keep_hash old key fields
kept_is old new key fields some is = is ∙ sym (cond-false _ _ _ (ne_eqb (len fields) 0 (λ none. omega (arith, some, none))))

gone_is : (old new : World) (key : List ℕ) (fields : Fields) → len fields ≡ 0 → new ≡ remove old key → new ≡ keep_hash old key fields
gone_is old new key fields none is = is ∙ sym (cond-true _ _ _ (eq-eqb (len fields) 0 none))

-- whatever stands at the key is this value still, where no key is written
only_on : (mid new : Bases) (m after : Blocks) (db : ℕ) (key : List ℕ) (value : Value) → HasOnly mid m db key value → Within (no_key db) mid new m after → HasOnly new after db key value
only_on mid new m after db key value only within at e found bytes =
    let stayed = within.stayed db at e found (λ named. named.1) in
    let itself : one_if (ref_eq e.key e.key) ≡ 1 = cond-true _ _ _ (ref_eq_refl e.key) in
    only at e stayed.stood (sym (stayed.bytes e.key (omega (arith, itself))) ∙ bytes)

module _ {S : Type 0} (own : Made) (left : ℕ) (blocks : S → Blocks) (old mid : Keyspace S) (at : Ctx) (key : List ℕ) (p : HashChanged (Counting own left) keep_any blocks old mid at key) where
  pub hash_kept : 0 < left → HashChanged own keep_hash blocks old mid at key
  hash_kept some = record {
    before = p.before;
    stands = p.stands;
    from = p.from;
    now = p.now;
    form = p.form;
    made = p.made.0;
    was_form = p.was_form;
    world = kept_is (visible blocks old at) (visible blocks mid at) key p.now (omega (arith, some, p.made.1)) p.world;
    value = p.value;
    only = p.only;
    encoded = p.encoded;
  }

  pub hash_gone : left ≡ 0 → (new : Keyspace S) → visible blocks new at ≡ remove (visible blocks mid at) key → Within (no_key at.db) mid.bases new.bases (blocks mid.store) (blocks new.store)
      → HashChanged own keep_hash blocks old new at key
  hash_gone none new world within = record {
    before = p.before;
    stands = p.stands;
    from = p.from;
    now = p.now;
    form = p.form;
    made = p.made.0;
    was_form = p.was_form;
    world = gone_is (visible blocks old at) (visible blocks new at) key p.now (omega (arith, none, p.made.1))
        (world ∙ ap (λ (w : World). remove w key) p.world ∙ remove_put (visible blocks old at) key
        (record { value = HashOf p.now; deadline = deadline_of (look (visible blocks old at) key) }));
    value = p.value;
    only = only_on mid.bases new.bases (blocks mid.store) (blocks new.store) at.db key p.value p.only within;
    encoded = p.encoded;
  }

-- a key is removed after it was changed
pub held_gone : {S : Type 0} (blocks : S → Blocks) (step : S → S → Type 0) (db : ℕ) (key : List ℕ) (old mid new : Keyspace S) → KeepsTo blocks step (one_key db key) old mid
    → KeepsTo blocks step (no_key db) mid new → KeepsTo blocks step (one_key db key) old new
held_gone blocks step db key old mid new p q =
    held_then blocks step (one_key db key) old mid new p (held_at_key blocks step db key mid new q)
