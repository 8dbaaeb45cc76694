-- A hash at a key that was changed, or put where none stood.
use Rattle.std.specs.Prelude.{◌≡◌, ℕ, List, Option, None, Some, is_some}
use Rattle.std.specs.FinMap.{empty, get, len}
use Rattle.blocks.specs.Blocks.{Blocks}
use Rattle.object_codec.specs.declared.form.Form.{Form}
use Rattle.object_codec.specs.declared.limits.Limits.{Limits}
use Rattle.hash_object.specs.Maps.{FitsFields}
use Rattle.plain_world.specs.Worlds.{World, Value, Str, ListOf, SetOf, HashOf, SortedOf, StreamOf, look}
use Rattle.plain_model.specs.OfType.{keep}
use Rattle.plain_model.specs.HashSteps.{Fields, or_no_fields}
use Rattle.plain_model.specs.declared.ctx.Ctx.{Ctx}
use Rattle.held.specs.Calls.{HasOnly, StandsAt}
use Rattle.keyspace.specs.declared.value.Value as kinds
use Rattle.keyspace.specs.Values.{OfForm, encoding_of}
use Rattle.keyspace.specs.Databases.{Bases, Keyspace}
use Rattle.keyspace.specs.Forms.{IsSourceForm}
use Rattle.keyspace.specs.Commands.{visible}
use Rattle.keyspace.specs.Edits.{Shape}

-- a hash of these fields stands at the key
pub record HasHash (world : World) (key : List ℕ) (fields : Fields) : Type 0 where
  pub deadline : Option ℕ
  pub stands : look world key ≡ Some (record { value = HashOf fields; deadline = deadline })

-- a hash stands at the key, under this item number
pub record HashItem (world : World) (bases : Bases) (blocks : Blocks) (db : ℕ) (key : List ℕ) (moment item : ℕ) : Type 0 where
  pub there : StandsAt bases blocks db key moment item
  pub fields : Fields
  pub has : HasHash world key fields

-- a hash of these fields stands at the key, or nothing
abbrev pub IsBefore : World → List ℕ → Option Fields → Type 0
IsBefore world key None = look world key ≡ None
IsBefore world key (Some fields) = HasHash world key fields

-- a hash stands at the key, under this item number, or nothing
abbrev pub IsHashThere : World → Bases → Blocks → ℕ → List ℕ → ℕ → Option ℕ → Type 0
IsHashThere world bases blocks db key moment None = look world key ≡ None
IsHashThere world bases blocks db key moment (Some item) = HashItem world bases blocks db key moment item

-- this is the value of a field of the hash at the key, or none where it isn't there
pub record IsValue (world : World) (key field : List ℕ) (value : Option (List ℕ)) : Type 0 where
  pub before : Option Fields
  pub stands : IsBefore world key before
  pub is : get (or_no_fields before) field ≡ value

-- it is a hash of whose fields this holds
abbrev pub IsHashThat : (Fields → Type 0) → Value → Type 0
IsHashThat Is (HashOf fields) = Is fields
IsHashThat Is (Str bytes) = ⊥
IsHashThat Is (ListOf list) = ⊥
IsHashThat Is (SetOf members) = ⊥
IsHashThat Is (SortedOf scores) = ⊥
IsHashThat Is (StreamOf stream) = ⊥

-- what is made of the fields and the form of a hash that is kept by limits
abbrev pub Made : Type 1
Made = Limits → Fields → Form → Fields → Form → Type 0

-- One hash was made of another one, with their forms, and it has so many fields.
pub record MakesHash (makes : Made) (left : ℕ) (old new : Shape) : Type 0 where
  pub limits : Limits
  pub fields : Fields
  pub from : Form
  pub now : Fields
  pub form : Form
  pub kept_by : old.limits ≡ Some limits
  pub was : old.means ≡ HashOf fields
  pub was_form : old.encoding ≡ OfForm from
  pub is : new.means ≡ HashOf now
  pub is_form : new.encoding ≡ OfForm form
  pub made : makes limits fields from now form
  pub counted : left ≡ len now

-- a hash stands at a key and keeps the deadline that is there, also one without a field
abbrev pub keep_any : World → List ℕ → Fields → World
keep_any old key fields = keep old key (HashOf fields)

-- a hash that was made has so many fields
abbrev pub Counting : Made → ℕ → Made
Counting makes left limits fields from now form = makes limits fields from now form × (left ≡ len now)

-- This was made of the hash at the key, or of a new one where none stood, and the new hash is kept there.
pub record HashChanged {S : Type 0} (makes : Made) (kept : World → List ℕ → Fields → World) (blocks : S → Blocks)
    (old new : Keyspace S) (at : Ctx) (key : List ℕ) : Type 0 where
  pub before : Option Fields
  pub stands : IsBefore (visible blocks old at) key before
  pub from : Form
  pub now : Fields
  pub form : Form
  pub made : makes old.bases.limits (or_no_fields before) from now form
  pub was_form : IsSourceForm (is_some before) (FitsFields old.bases.limits empty) old.bases (blocks old.store) at.db key from
  pub world : visible blocks new at ≡ kept (visible blocks old at) key now
  pub value : kinds.Value
  pub only : HasOnly new.bases (blocks new.store) at.db key value
  pub encoded : encoding_of value ≡ OfForm form
