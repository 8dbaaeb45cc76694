-- A sorted set at a key that was changed, or put where none stood.
use Rattle.std.specs.Prelude.{◌≡◌, ℕ, List, Option, None, Some, is_some}
use Rattle.std.specs.FinMap.{empty, len}
use Rattle.blocks.specs.Blocks.{Blocks}
use Rattle.object_codec.specs.declared.form.Form.{Form}
use Rattle.object_codec.specs.declared.limits.Limits.{Limits}
use Rattle.zset_object.specs.Orders.{FitsScored}
use Rattle.plain_world.specs.Worlds.{World, Value, Str, ListOf, SetOf, HashOf, SortedOf, StreamOf, look}
use Rattle.plain_model.specs.OfType.{keep}
use Rattle.plain_model.specs.ZsetSteps.{Scores, or_no_scores}
use Rattle.plain_model.specs.declared.ctx.Ctx.{Ctx}
use Rattle.held.specs.Calls.{HasOnly, StandsAt}
use Rattle.keyspace.specs.declared.value.Value as kinds
use Rattle.keyspace.specs.Values.{OfForm, encoding_of}
use Rattle.keyspace.specs.Databases.{Bases, Keyspace}
use Rattle.keyspace.specs.Forms.{IsSourceForm}
use Rattle.keyspace.specs.Commands.{visible}
use Rattle.keyspace.specs.Edits.{Shape}

-- a sorted set of these scores stands at the key
pub record HasZset (world : World) (key : List ℕ) (scores : Scores) : Type 0 where
  pub deadline : Option ℕ
  pub stands : look world key ≡ Some (record { value = SortedOf scores; deadline = deadline })

-- a sorted set stands at the key, under this item number
pub record ZsetItem (world : World) (bases : Bases) (blocks : Blocks) (db : ℕ) (key : List ℕ) (moment item : ℕ) : Type 0 where
  pub there : StandsAt bases blocks db key moment item
  pub scores : Scores
  pub has : HasZset world key scores

-- a sorted set of these scores stands at the key, or nothing
abbrev pub IsBefore : World → List ℕ → Option Scores → Type 0
IsBefore world key None = look world key ≡ None
IsBefore world key (Some scores) = HasZset world key scores

-- a sorted set stands at the key, under this item number, or nothing
abbrev pub IsZsetThere : World → Bases → Blocks → ℕ → List ℕ → ℕ → Option ℕ → Type 0
IsZsetThere world bases blocks db key moment None = look world key ≡ None
IsZsetThere world bases blocks db key moment (Some item) = ZsetItem world bases blocks db key moment item

-- it is a sorted set of whose scores this holds
abbrev pub IsZsetThat : (Scores → Type 0) → Value → Type 0
IsZsetThat Is (SortedOf scores) = Is scores
IsZsetThat Is (Str bytes) = ⊥
IsZsetThat Is (ListOf list) = ⊥
IsZsetThat Is (SetOf members) = ⊥
IsZsetThat Is (HashOf fields) = ⊥
IsZsetThat Is (StreamOf stream) = ⊥

-- what is made of the scores and the form of a sorted set that is kept by limits
abbrev pub Made : Type 1
Made = Limits → Scores → Form → Scores → Form → Type 0

-- One sorted set was made of another one, with their forms, and it has so many members.
pub record MakesZset (makes : Made) (left : ℕ) (old new : Shape) : Type 0 where
  pub limits : Limits
  pub scores : Scores
  pub from : Form
  pub now : Scores
  pub form : Form
  pub kept_by : old.limits ≡ Some limits
  pub was : old.means ≡ SortedOf scores
  pub was_form : old.encoding ≡ OfForm from
  pub is : new.means ≡ SortedOf now
  pub is_form : new.encoding ≡ OfForm form
  pub made : makes limits scores from now form
  pub counted : left ≡ len now

-- a sorted set stands at a key and keeps the deadline that is there, also one without a member
abbrev pub keep_any : World → List ℕ → Scores → World
keep_any old key scores = keep old key (SortedOf scores)

-- a sorted set that was made has so many members
abbrev pub Counting : Made → ℕ → Made
Counting makes left limits scores from now form = makes limits scores from now form × (left ≡ len now)

-- This was made of the sorted set at the key, or of a new one where none stood, and the new zset is kept there.
pub record ZsetChanged {S : Type 0} (makes : Made) (kept : World → List ℕ → Scores → World) (blocks : S → Blocks)
    (old new : Keyspace S) (at : Ctx) (key : List ℕ) : Type 0 where
  pub before : Option Scores
  pub stands : IsBefore (visible blocks old at) key before
  pub from : Form
  pub now : Scores
  pub form : Form
  pub made : makes old.bases.limits (or_no_scores before) from now form
  pub was_form : IsSourceForm (is_some before) (FitsScored old.bases.limits empty) old.bases (blocks old.store) at.db key from
  pub world : visible blocks new at ≡ kept (visible blocks old at) key now
  pub value : kinds.Value
  pub only : HasOnly new.bases (blocks new.store) at.db key value
  pub encoded : encoding_of value ≡ OfForm form
