-- A stream at a key that was changed, or put where none stood.
use Rattle.std.specs.Prelude.{◌≡◌, ℕ, List, Option, None, Some}
use Rattle.blocks.specs.Blocks.{Blocks}
use Rattle.object_codec.specs.declared.form.Form.TheVariants as forms
use Rattle.plain_world.specs.Streams.{Stream}
use Rattle.plain_world.specs.Worlds.{World, Value, Str, ListOf, SetOf, HashOf, SortedOf, StreamOf, look}
use Rattle.plain_model.specs.StreamSteps.{or_no_stream, keep_stream}
use Rattle.plain_model.specs.declared.ctx.Ctx.{Ctx}
use Rattle.held.specs.Calls.{HasOnly, StandsAt}
use Rattle.keyspace.specs.declared.value.Value as kinds
use Rattle.keyspace.specs.Values.{OfForm, encoding_of}
use Rattle.keyspace.specs.Databases.{Bases, Keyspace}
use Rattle.keyspace.specs.Commands.{visible}
use Rattle.keyspace.specs.Edits.{Shape}

-- this stream stands at the key
pub record HasStream (world : World) (key : List ℕ) (stream : Stream) : Type 0 where
  pub deadline : Option ℕ
  pub stands : look world key ≡ Some (record { value = StreamOf stream; deadline = deadline })

-- a stream stands at the key, under this item number
pub record StreamItem (world : World) (bases : Bases) (blocks : Blocks) (db : ℕ) (key : List ℕ) (moment item : ℕ) : Type 0 where
  pub there : StandsAt bases blocks db key moment item
  pub stream : Stream
  pub has : HasStream world key stream

-- this stream stands at the key, or nothing
abbrev pub IsBefore : World → List ℕ → Option Stream → Type 0
IsBefore world key None = look world key ≡ None
IsBefore world key (Some stream) = HasStream world key stream

-- a stream stands at the key, under this item number, or nothing
abbrev pub IsStreamThere : World → Bases → Blocks → ℕ → List ℕ → ℕ → Option ℕ → Type 0
IsStreamThere world bases blocks db key moment None = look world key ≡ None
IsStreamThere world bases blocks db key moment (Some item) = StreamItem world bases blocks db key moment item

-- it is a stream of which this holds
abbrev pub IsStreamThat : (Stream → Type 0) → Value → Type 0
IsStreamThat Is (StreamOf stream) = Is stream
IsStreamThat Is (Str bytes) = ⊥
IsStreamThat Is (ListOf list) = ⊥
IsStreamThat Is (SetOf members) = ⊥
IsStreamThat Is (HashOf fields) = ⊥
IsStreamThat Is (SortedOf scores) = ⊥

-- what is made of a stream
abbrev pub Made : Type 1
Made = Stream → Stream → Type 0

-- One stream was made of another one.
pub record MakesStream (makes : Made) (old new : Shape) : Type 0 where
  pub stream : Stream
  pub now : Stream
  pub was : old.means ≡ StreamOf stream
  pub is : new.means ≡ StreamOf now
  pub is_form : new.encoding ≡ OfForm forms.Stream
  pub made : makes stream now

-- This was made of the stream at the key, or of a new one where none stood, and it is kept there.
pub record StreamChanged {S : Type 0} (makes : Made) (blocks : S → Blocks) (old new : Keyspace S) (at : Ctx)
    (key : List ℕ) : Type 0 where
  pub before : Option Stream
  pub stands : IsBefore (visible blocks old at) key before
  pub now : Stream
  pub made : makes (or_no_stream before) now
  pub world : visible blocks new at ≡ keep_stream (visible blocks old at) key now
  pub value : kinds.Value
  pub only : HasOnly new.bases (blocks new.store) at.db key value
  pub encoded : encoding_of value ≡ OfForm forms.Stream
