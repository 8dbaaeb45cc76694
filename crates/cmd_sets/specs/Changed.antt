-- A set at a key that was changed, or put where none stood.
use Rattle.std.specs.Prelude.{◌≡◌, ◌<◌, ℕ, List, Option, None, Some, is_some}
use Rattle.std.specs.FinMap.{empty, len}
use Rattle.blocks.specs.Blocks.{Blocks}
use Rattle.object_codec.specs.declared.form.Form.{Form}
use Rattle.object_codec.specs.declared.limits.Limits.{Limits}
use Rattle.set_object.specs.Strings.{FitsMembers}
use Rattle.plain_world.specs.Worlds.{World, Value, Str, ListOf, SetOf, HashOf, SortedOf, StreamOf, look}
use Rattle.plain_model.specs.OfType.{keep}
use Rattle.plain_model.specs.SetSteps.{Members, or_no_members}
use Rattle.plain_model.specs.declared.ctx.Ctx.{Ctx}
use Rattle.held.specs.Calls.{AllAt, StandsAt}
use Rattle.keyspace.specs.declared.value.Value as kinds
use Rattle.keyspace.specs.Values.{OfForm, encoding_of}
use Rattle.keyspace.specs.Databases.{Bases, Keyspace}
use Rattle.keyspace.specs.Forms.{IsSourceForm}
use Rattle.keyspace.specs.Commands.{visible}
use Rattle.keyspace.specs.Edits.{Shape}

-- this set stands at the key
pub record HasSet (world : World) (key : List ℕ) (members : Members) : Type 0 where
  pub deadline : Option ℕ
  pub stands : look world key ≡ Some (record { value = SetOf members; deadline = deadline })

-- a set stands at the key, under this item number
pub record SetItem (world : World) (bases : Bases) (blocks : Blocks) (db : ℕ) (key : List ℕ) (moment item : ℕ) : Type 0 where
  pub there : StandsAt bases blocks db key moment item
  pub members : Members
  pub has : HasSet world key members

-- this set stands at the key, or nothing
abbrev pub IsBefore : World → List ℕ → Option Members → Type 0
IsBefore world key None = look world key ≡ None
IsBefore world key (Some members) = HasSet world key members

-- a set stands at the key, under this item number, or nothing
abbrev pub IsSetThere : World → Bases → Blocks → ℕ → List ℕ → ℕ → Option ℕ → Type 0
IsSetThere world bases blocks db key moment None = look world key ≡ None
IsSetThere world bases blocks db key moment (Some item) = SetItem world bases blocks db key moment item

-- it is a set of which this holds
abbrev pub IsSetThat : (Members → Type 0) → Value → Type 0
IsSetThat Is (SetOf members) = Is members
IsSetThat Is (Str bytes) = ⊥
IsSetThat Is (ListOf list) = ⊥
IsSetThat Is (HashOf fields) = ⊥
IsSetThat Is (SortedOf scores) = ⊥
IsSetThat Is (StreamOf stream) = ⊥

-- One set was made of another one that has these limits, with their forms, and it has so many members.
pub record MakesSet (makes : Limits → Members → Form → Members → Form → Type 0) (left : ℕ) (old new : Shape)
    : Type 0 where
  pub limits : Limits
  pub members : Members
  pub from : Form
  pub now : Members
  pub form : Form
  pub was : old.means ≡ SetOf members
  pub was_form : old.encoding ≡ OfForm from
  pub was_limits : old.limits ≡ Some limits
  pub is : new.means ≡ SetOf now
  pub is_form : new.encoding ≡ OfForm form
  pub made : makes limits members from now form
  pub counted : left ≡ len now

-- a set stands at a key and keeps the deadline that is there, also one without a member
abbrev pub keep_any : World → List ℕ → Members → World
keep_any old key members = keep old key (SetOf members)

-- a set that was made has so many members
abbrev pub Counting : (Members → Form → Members → Form → Type 0) → ℕ → Members → Form → Members → Form → Type 0
Counting makes left members from now form = makes members from now form × (left ≡ len now)

-- the value has the form of the set
abbrev pub IsFormed : Members → Form → kinds.Value → Type 0
IsFormed now form value = encoding_of value ≡ OfForm form

-- the same, and the set has a member
abbrev pub IsLasting : Members → Form → kinds.Value → Type 0
IsLasting now form value = IsFormed now form value × (0 < len now)

-- This was made of the set at the key, or of a new one where none stood. The new set is kept there, and so is whatever
-- stands at the key now.
pub record SetChanged {S : Type 0} (makes : Members → Form → Members → Form → Type 0)
    (kept : World → List ℕ → Members → World) (Is : Members → Form → kinds.Value → Type 0) (blocks : S → Blocks)
    (old new : Keyspace S) (at : Ctx) (key : List ℕ) : Type 0 where
  pub before : Option Members
  pub stands : IsBefore (visible blocks old at) key before
  pub from : Form
  pub now : Members
  pub form : Form
  pub made : makes (or_no_members before) from now form
  pub was_form : IsSourceForm (is_some before) (FitsMembers old.bases.limits empty) old.bases (blocks old.store) at.db key
      from
  pub world : visible blocks new at ≡ kept (visible blocks old at) key now
  pub is : AllAt (Is now form) new.bases (blocks new.store) at.db key
