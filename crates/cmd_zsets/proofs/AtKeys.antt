-- A sorted set at a key that was changed, or put there.
use Rattle.std.proofs.Common.{◌≡◌, false, ℕ, ◌<◌, List, Option, None, Some, Result, Ok, Err, OnOk, refl, sym, ap, subst, ◌∙◌, arith}
use Rattle.std.specs.FinMap.{empty, len}
use Rattle.blocks.specs.Blocks.{Blocks, ref_eq}
use Rattle.blocks.proofs.Change.{one_if}
use Rattle.blocks.proofs.Refs.{ref_eq_refl}
use Rattle.std.proofs.lemmas.Bool.{cond-true, cond-false, eq-eqb, ne_eqb}
use Rattle.object_codec.specs.declared.form.Form.{Form}
use Rattle.object_codec.specs.declared.limits.Limits.{Limits}
use Rattle.object_codec.specs.Forms.{IsLeast}
use Rattle.zset_object.specs.Orders.{FitsScored}
use Rattle.zset_object.specs.Scored as object
use Rattle.zset_object.specs.declared.scored.Scored as kept
use Rattle.plain_world.specs.Worlds.{World, Entry, SortedOf, look, put, remove, deadline_of}
use Rattle.plain_world.specs.Worlds as model
use Rattle.plain_model.specs.OfType.{zset_in}
use Rattle.plain_model.specs.ZsetSteps.{Scores, or_no_scores, keep_zset}
use Rattle.plain_model.specs.declared.ctx.Ctx.{Ctx}
use Rattle.held.specs.Calls.{HasOnly, HasValue, StandsAt}
use Rattle.held.proofs.Timing.{some_none}
use Rattle.keyspace.specs.declared.value.Value.{Value}
use Rattle.keyspace.specs.declared.value.Value.TheVariants as kinds
use Rattle.keyspace.specs.Calls.{Found}
use Rattle.std.specs.Global.{Box}
use Rattle.keyspace.specs.Sound.{Sound}
use Rattle.keyspace.specs.Values.{Encoding, OfText, OfForm, value_of, encoding_of, IsSound}
use Rattle.keyspace.specs.Databases.{Bases, Keyspace}
use Rattle.keyspace.specs.Scopes.{one_key, no_key, Within}
use Rattle.keyspace.specs.Commands.{KeepsTo, seen, visible}
use Rattle.keyspace.specs.Edits.{Shape, shape, limits_of, Edits, MakesNew}
use Rattle.keyspace.proofs.Running.{held_then, held_at_key}
use Rattle.cmd_zsets.specs.Changed.{HasZset, ZsetItem, IsZsetThat, Made, MakesZset, ZsetChanged, Counting, keep_any}
use Rattle.cmd_zsets.specs.Found.{FoundZset, FoundOther}
use Rattle.cmd_zsets.proofs.Looking.{is_zset}
use Rattle.keyspace.proofs.Absent.{remove_put}

-- the form that an encoding names
abbrev pub form_in : Form → Encoding → Form
form_in other (OfForm form) = form
form_in other (OfText raw) = other

pub not_zset : (value : Value) → ((box : Box kept.Scored) → value ≡ kinds.Zset box → ⊥) → is_zset value ≡ false
not_zset (kinds.Text text) other = refl
not_zset (kinds.Zset box) other = absurd (other box refl)
not_zset (kinds.Set box) other = refl
not_zset (kinds.List box) other = refl
not_zset (kinds.Hash box) other = refl
not_zset (kinds.Stream box) other = refl

-- the sorted set that was found at a key
pub zset_item : (bases : Bases) (m : Blocks) (at : Ctx) (key : List ℕ) (number : ℕ) (value : Value) (box : Box kept.Scored) → value ≡ kinds.Zset box
    → StandsAt bases m at.db key at.moment number → Found bases m at.db key at.moment value → ZsetItem (seen at bases m) bases m at.db key at.moment number
zset_item bases m at key number value box is there found = record {
  there = there;
  scores = object.scores m box.value;
  has = record { deadline = found.deadline; stands = found.stands ∙ ap (λ (v : Value). Some (record { value = value_of m v; deadline = found.deadline })) is };
}

-- the limits that a value was made with
abbrev limits_or : Limits → Option Limits → Limits
limits_or other None = other
limits_or other (Some limits) = limits

-- a sound value is kept by the limits of its databases
limits_known : (limits : Limits) (seed : ℕ) (m : Blocks) (value : Value) (own : Limits) → IsSound limits seed m value → limits_of value ≡ Some own → own ≡ limits
limits_known limits seed m (kinds.Text text) own sound is = cc
limits_known limits seed m (kinds.List box) own sound is = cc
limits_known limits seed m (kinds.Set box) own sound is = sym (ap (limits_or own) is) ∙ sound.1
limits_known limits seed m (kinds.Hash box) own sound is = sym (ap (limits_or own) is) ∙ sound.1
limits_known limits seed m (kinds.Zset box) own sound is = sym (ap (limits_or own) is) ∙ sound.1
limits_known limits seed m (kinds.Stream box) own sound is = cc

kept_by : (bases : Bases) (m : Blocks) (db : ℕ) (key : List ℕ) (value : Value) (own : Limits) → Sound bases m → HasValue bases m db key value → limits_of value ≡ Some own → own ≡ bases.limits
kept_by bases m db key value own sound had is = limits_known bases.limits bases.seed m value own
    (subst (IsSound bases.limits bases.seed m) had.is (sound.arranged.values db had.at had.element had.found)) is

-- the value that was found at a key is a sorted set
pub found_zset : (bases : Bases) (m : Blocks) (at : Ctx) (key : List ℕ) (value : Value) (box : Box kept.Scored) → value ≡ kinds.Zset box → Sound bases m
    → Found bases m at.db key at.moment value → FoundZset (seen at bases m) m key box.value
found_zset bases m at key value box is sound found =
    let own = subst (Found bases m at.db key at.moment) is found in
    record {
      deadline = own.deadline;
      stands = own.stands;
      sound = (subst (IsSound bases.limits bases.seed m) own.has.is (sound.arranged.values at.db own.has.at own.has.element own.has.found)).0;
    }

abbrev zset_found : Option Entry → Option Scores
zset_found None = None
zset_found (Some entry) = zset_in entry.value

-- where a sorted set stands at a key, the value that was found there is one
pub no_other : (world : World) (key : List ℕ) (scores : Scores) → HasZset world key scores → FoundOther world key → ⊥
no_other world key scores has other = some_none _ _ (ap zset_found (sym other.stands ∙ has.stands)) other.other

-- what holds of the value that stands at a key, where one does
abbrev HoldsThere : (Scores → Type 0) → Option Entry → Type 0
HoldsThere Is None = Unit {0}
HoldsThere Is (Some entry) = IsZsetThat Is entry.value

pub takes_there : (Is : Scores → Type 0) (world : World) (key : List ℕ) (scores : Scores) → HasZset world key scores → Is scores → (entry : Entry) → look world key ≡ Some entry
    → IsZsetThat Is entry.value
takes_there Is world key scores has holds entry is = subst (HoldsThere Is) (sym has.stands ∙ is) holds

module _ {S T X : Type 0} (makes : T → T → Shape → Shape → Type 0) (own : Made) (left : ℕ) (first last : T) (blocks : S → Blocks) (old new : Keyspace S) (at : Ctx) (key : List ℕ)
    (same : (o n : Shape) → makes first last o n → MakesZset own left o n) where
  pub zset_new : (fresh : Value) → value_of (blocks old.store) fresh ≡ SortedOf empty → limits_of fresh ≡ Some old.bases.limits
      → ((f : Form) → encoding_of fresh ≡ OfForm f → IsLeast (FitsScored old.bases.limits empty) f) → look (visible blocks old at) key ≡ None
      → (result : Result (Unit {0}) X) → OnOk result (MakesNew makes first last blocks old new at key fresh) → OnOk result (ZsetChanged (Counting own left) keep_any blocks old new at key)
  zset_new fresh blank limits least none (Err e) p = tt
  zset_new fresh blank limits least none (Ok u) p =
      let q = same (shape (blocks old.store) fresh) p.is p.made in
      let nothing : q.scores ≡ empty = ap (λ (v : model.Value). or_no_scores (zset_in v)) (sym q.was ∙ blank) in
      let by : q.limits ≡ old.bases.limits = ap (limits_or q.limits) (sym q.kept_by ∙ limits) in
      record {
        before = None;
        stands = none;
        from = q.from;
        now = q.now;
        form = q.form;
        made = (subst (λ (n : Limits). own n empty q.from q.now q.form) by (subst (λ (l : Scores). own q.limits l q.from q.now q.form) nothing q.made), q.counted);
        was_form = least q.from q.was_form;
        world = p.world ∙ ap (λ (v : model.Value). put (visible blocks old at) key (record { value = v; deadline = None })) q.is
            ∙ ap (λ (d : Option ℕ). put (visible blocks old at) key (record { value = SortedOf q.now; deadline = d })) (sym (ap deadline_of none));
        value = p.now;
        only = p.only;
        encoded = p.encoded ∙ q.is_form;
      }

  pub zset_there : Sound old.bases (blocks old.store) → (result : Result (Unit {0}) X) → OnOk result (Edits makes first last blocks old new at key)
      → OnOk result (ZsetChanged (Counting own left) keep_any blocks old new at key)
  zset_there sound (Err e) p = tt
  zset_there sound (Ok u) p =
      let q = same (shape (blocks old.store) p.was) (shape (blocks new.store) p.now) p.made in
      let by = kept_by old.bases (blocks old.store) at.db key p.was q.limits sound p.had q.kept_by in
      record {
        before = Some q.scores;
        stands = record { deadline = p.deadline; stands = p.stands ∙ ap (λ (v : model.Value). Some (record { value = v; deadline = p.deadline })) q.was };
        from = q.from;
        now = q.now;
        form = q.form;
        made = (subst (λ (n : Limits). own n q.scores q.from q.now q.form) by q.made, q.counted);
        was_form = (p.was, p.had, q.was_form);
        world = p.world ∙ ap (λ (v : model.Value). put (visible blocks old at) key (record { value = v; deadline = p.deadline })) q.is
            ∙ ap (λ (d : Option ℕ). put (visible blocks old at) key (record { value = SortedOf q.now; deadline = d })) (sym (ap deadline_of p.stands));
        value = p.now;
        only = p.only;
        encoded = q.is_form;
      }

-- ---- a sorted set without a member goes with its key

kept_is : (old new : World) (key : List ℕ) (scores : Scores) → 0 < len scores → new ≡ keep_any old key scores → new ≡ keep_zset old key scores
kept_is old new key scores some is = is ∙ sym (cond-false _ _ _ (ne_eqb (len scores) 0 (λ none. omega (arith, some, none))))

gone_is : (old new : World) (key : List ℕ) (scores : Scores) → len scores ≡ 0 → new ≡ remove old key → new ≡ keep_zset old key scores
gone_is old new key scores none is = is ∙ sym (cond-true _ _ _ (eq-eqb (len scores) 0 none))

-- whatever stands at the key is this value still, where no key is written
only_on : (mid new : Bases) (m after : Blocks) (db : ℕ) (key : List ℕ) (value : Value) → HasOnly mid m db key value → Within (no_key db) mid new m after → HasOnly new after db key value
only_on mid new m after db key value only within at e found bytes =
    let stayed = within.stayed db at e found (λ named. named.1) in
    let itself : one_if (ref_eq e.key e.key) ≡ 1 = cond-true _ _ _ (ref_eq_refl e.key) in
    only at e stayed.stood (sym (stayed.bytes e.key (omega (arith, itself))) ∙ bytes)

module _ {S : Type 0} (own : Made) (left : ℕ) (blocks : S → Blocks) (old mid : Keyspace S) (at : Ctx) (key : List ℕ) (p : ZsetChanged (Counting own left) keep_any blocks old mid at key) where
  pub zset_kept : 0 < left → ZsetChanged own keep_zset blocks old mid at key
  zset_kept some = record {
    before = p.before;
    stands = p.stands;
    from = p.from;
    now = p.now;
    form = p.form;
    made = p.made.0;
    was_form = p.was_form;
    world = kept_is (visible blocks old at) (visible blocks mid at) key p.now (omega (arith, some, p.made.1)) p.world;
    value = p.value;
    only = p.only;
    encoded = p.encoded;
  }

  pub zset_gone : left ≡ 0 → (new : Keyspace S) → visible blocks new at ≡ remove (visible blocks mid at) key → Within (no_key at.db) mid.bases new.bases (blocks mid.store) (blocks new.store)
      → ZsetChanged own keep_zset blocks old new at key
  zset_gone none new world within = record {
    before = p.before;
    stands = p.stands;
    from = p.from;
    now = p.now;
    form = p.form;
    made = p.made.0;
    was_form = p.was_form;
    world = gone_is (visible blocks old at) (visible blocks new at) key p.now (omega (arith, none, p.made.1))
        (world ∙ ap (λ (w : World). remove w key) p.world ∙ remove_put (visible blocks old at) key
        (record { value = SortedOf p.now; deadline = deadline_of (look (visible blocks old at) key) }));
    value = p.value;
    only = only_on mid.bases new.bases (blocks mid.store) (blocks new.store) at.db key p.value p.only within;
    encoded = p.encoded;
  }

-- a key is removed after it was changed
pub held_gone : {S : Type 0} (blocks : S → Blocks) (step : S → S → Type 0) (db : ℕ) (key : List ℕ) (old mid new : Keyspace S) → KeepsTo blocks step (one_key db key) old mid
    → KeepsTo blocks step (no_key db) mid new → KeepsTo blocks step (one_key db key) old new
held_gone blocks step db key old mid new p q =
    held_then blocks step (one_key db key) old mid new p (held_at_key blocks step db key mid new q)
