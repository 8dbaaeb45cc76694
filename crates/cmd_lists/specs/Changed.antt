-- A list at a key that was changed, or put where none stood.
use Rattle.std.specs.Prelude.{◌≡◌, ℕ, List, Option, None, Some, is_some, length}
use Rattle.blocks.specs.Blocks.{Blocks}
use Rattle.object_codec.specs.declared.form.Form.{Form}
use Rattle.plain_world.specs.Worlds.{World, Value, Str, ListOf, SetOf, HashOf, SortedOf, StreamOf, look}
use Rattle.plain_model.specs.OfType.{keep}
use Rattle.plain_model.specs.ListSteps.{Elements, or_none}
use Rattle.plain_model.specs.declared.ctx.Ctx.{Ctx}
use Rattle.held.specs.Calls.{HasOnly, StandsAt}
use Rattle.keyspace.specs.declared.value.Value as kinds
use Rattle.keyspace.specs.Values.{OfForm, encoding_of}
use Rattle.keyspace.specs.Databases.{Bases, Keyspace}
use Rattle.keyspace.specs.Forms.{IsFormAt}
use Rattle.keyspace.specs.Commands.{visible}
use Rattle.keyspace.specs.Edits.{Shape}

-- this list stands at the key
pub record HasList (world : World) (key : List ℕ) (list : Elements) : Type 0 where
  pub deadline : Option ℕ
  pub stands : look world key ≡ Some (record { value = ListOf list; deadline = deadline })

-- a list stands at the key, under this item number
pub record ListItem (world : World) (bases : Bases) (blocks : Blocks) (db : ℕ) (key : List ℕ) (moment item : ℕ) : Type 0 where
  pub there : StandsAt bases blocks db key moment item
  pub list : Elements
  pub has : HasList world key list

-- this list stands at the key, or nothing
abbrev pub IsBefore : World → List ℕ → Option Elements → Type 0
IsBefore world key None = look world key ≡ None
IsBefore world key (Some list) = HasList world key list

-- a list stands at the key, under this item number, or nothing
abbrev pub IsListThere : World → Bases → Blocks → ℕ → List ℕ → ℕ → Option ℕ → Type 0
IsListThere world bases blocks db key moment None = look world key ≡ None
IsListThere world bases blocks db key moment (Some item) = ListItem world bases blocks db key moment item

-- it is a list of which this holds
abbrev pub IsListThat : (Elements → Type 0) → Value → Type 0
IsListThat Is (ListOf list) = Is list
IsListThat Is (Str bytes) = ⊥
IsListThat Is (SetOf members) = ⊥
IsListThat Is (HashOf fields) = ⊥
IsListThat Is (SortedOf scores) = ⊥
IsListThat Is (StreamOf stream) = ⊥

-- One list was made of another one, with their forms, and it has so many elements.
pub record MakesList (makes : Elements → Form → Elements → Form → Type 0) (left : ℕ) (old new : Shape) : Type 0 where
  pub list : Elements
  pub from : Form
  pub now : Elements
  pub form : Form
  pub was : old.means ≡ ListOf list
  pub was_form : old.encoding ≡ OfForm from
  pub is : new.means ≡ ListOf now
  pub is_form : new.encoding ≡ OfForm form
  pub made : makes list from now form
  pub counted : left ≡ length now

-- a list stands at a key and keeps the deadline that is there, also one without an element
abbrev pub keep_any : World → List ℕ → Elements → World
keep_any old key list = keep old key (ListOf list)

-- a list that was made has so many elements
abbrev pub Counting : (Elements → Form → Elements → Form → Type 0) → ℕ → Elements → Form → Elements → Form → Type 0
Counting makes left list from now form = makes list from now form × (left ≡ length now)

-- This was made of the list at the key, or of a new one where none stood, and the new list is kept there.
pub record ListChanged {S : Type 0} (makes : Elements → Form → Elements → Form → Type 0)
    (kept : World → List ℕ → Elements → World) (blocks : S → Blocks) (old new : Keyspace S) (at : Ctx) (key : List ℕ)
    : Type 0 where
  pub before : Option Elements
  pub stands : IsBefore (visible blocks old at) key before
  pub from : Form
  pub now : Elements
  pub form : Form
  pub made : makes (or_none before) from now form
  pub was_form : IsFormAt (is_some before) old.bases (blocks old.store) at.db key from
  pub world : visible blocks new at ≡ kept (visible blocks old at) key now
  pub value : kinds.Value
  pub only : HasOnly new.bases (blocks new.store) at.db key value
  pub encoded : encoding_of value ≡ OfForm form
