-- A value changed in its place.
use Rattle.std.specs.Prelude.{◌≡◌, ℕ, List, Option, None, Some}
use Rattle.blocks.specs.Blocks.{Blocks}
use Rattle.plain_world.specs.Worlds.{look, put}
use Rattle.plain_world.specs.Worlds as model
use Rattle.plain_model.specs.declared.ctx.Ctx.{Ctx}
use Rattle.held.specs.Calls.{HasOnly, HasValue}
use Rattle.object_codec.specs.declared.limits.Limits.{Limits}
use Rattle.keyspace.specs.declared.value.Value.{Value}
use Rattle.keyspace.specs.declared.value.Value.TheVariants.{Text, Set, Hash, Zset}
use Rattle.keyspace.specs.declared.value.Value.TheVariants as kinds
use Rattle.keyspace.specs.Values.{Encoding, value_of, encoding_of}
use Rattle.keyspace.specs.Databases.{Keyspace}
use Rattle.keyspace.specs.Commands.{visible}

-- the limits that a value was made with, where it keeps them
abbrev pub limits_of : Value → Option Limits
limits_of (Text text) = None
limits_of (kinds.List b) = None
limits_of (Set b) = Some b.value.limits
limits_of (Hash b) = Some b.value.limits
limits_of (Zset b) = Some b.value.limits
limits_of (kinds.Stream b) = None

-- what a value means, how it is encoded, and the limits that it was made with
pub record Shape : Type 0 where
  pub means : model.Value
  pub encoding : Encoding
  pub limits : Option Limits

abbrev pub shape : Blocks → Value → Shape
shape blocks value =
    record { means = value_of blocks value; encoding = encoding_of value; limits = limits_of value }

-- What stood at the key was changed: this was made of its shape, and it keeps its deadline.
pub record Edits {S E : Type 0} (makes : E → E → Shape → Shape → Type 0) (first last : E) (blocks : S → Blocks)
    (old new : Keyspace S) (at : Ctx) (key : List ℕ) : Type 0 where
  pub was : Value
  pub now : Value
  pub deadline : Option ℕ
  pub stands : look (visible blocks old at) key
      ≡ Some (record { value = value_of (blocks old.store) was; deadline = deadline })
  pub had : HasValue old.bases (blocks old.store) at.db key was
  pub made : makes first last (shape (blocks old.store) was) (shape (blocks new.store) now)
  pub world : visible blocks new at
      ≡ put (visible blocks old at) key (record { value = value_of (blocks new.store) now; deadline = deadline })
  pub only : HasOnly new.bases (blocks new.store) at.db key now

-- A value stands at the key, without a deadline, of this shape at the moment of the edit: it was made of the shape of the
-- one that was handed in.
pub record MakesNew {S E : Type 0} (makes : E → E → Shape → Shape → Type 0) (first last : E) (blocks : S → Blocks)
    (old new : Keyspace S) (at : Ctx) (key : List ℕ) (fresh : Value) : Type 0 where
  pub now : Value
  pub is : Shape
  pub encoded : encoding_of now ≡ is.encoding
  pub made : makes first last (shape (blocks old.store) fresh) is
  pub world : visible blocks new at
      ≡ put (visible blocks old at) key (record { value = is.means; deadline = None })
  pub only : HasOnly new.bases (blocks new.store) at.db key now
