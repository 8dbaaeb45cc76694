-- The string at a key, and what a command on strings gives.
use Rattle.std.specs.Prelude.{◌≡◌, ◌<◌, ◌^◌, ℕ, ℤ, pos, List, [], ◌∷◌, length, map, Result, Option, Some, None, IfOk, Bool}
use Rattle.std.specs.Prelude.{true, false, if◌then◌else◌}
use Rattle.blocks.specs.Blocks.{Blocks, Owned}
use Rattle.string_object.specs.declared.text.Text.{Text}
use Rattle.string_object.specs.Text.{text_bytes, text_refs}
use Rattle.plain_world.specs.Worlds.{Str, World, Value, Entry, look}
use Rattle.plain_model.specs.Outcomes.{Outcome, leaves, refused}
use Rattle.plain_model.specs.declared.ctx.Ctx.{Ctx}
use Rattle.keyspace.specs.Databases.{Keyspace}
use Rattle.keyspace.specs.Commands.{visible}
use Rattle.plain_model.specs.StringSteps.{string_outcome, on_string, or_null, string_or_null, number_at, change, ok}
use Rattle.plain_model.specs.StringSteps.{with_lifetime}
use Rattle.plain_model.specs.declared.times.Lifetime.{Lifetime}
use Rattle.plain_world.specs.declared.refusal.Refusal.TheVariants.{InvalidExpireTime}
use Rattle.plain_model.specs.declared.command.StringCommand.{StringCommand}
use Rattle.plain_world.specs.declared.reply.Part.{Part}
use Rattle.plain_world.specs.declared.reply.Part.TheVariants.{Null}

-- the string stands at the key, and its blocks are live
pub record FoundText (world : World) (blocks : Blocks) (key : List ℕ) (text : Text) : Type 0 where
  pub deadline : Option ℕ
  pub stands : look world key ≡ Some (record { value = Str (text_bytes blocks text); deadline = deadline })
  pub owned : Owned (text_refs text) blocks

-- a value of another type
abbrev pub IsNoString : Value → Type 0
IsNoString (Str bytes) = ⊥
IsNoString other = Unit {0}

abbrev pub IsString : Value → Type 0
IsString (Str bytes) = Unit {0}
IsString other = ⊥

-- a value of another type stands at the key
pub record FoundOther (world : World) (key : List ℕ) : Type 0 where
  pub entry : Entry
  pub stands : look world key ≡ Some entry
  pub other : IsNoString entry.value

-- these bytes are the string at the key
pub record IsThere (world : World) (key bytes : List ℕ) : Type 0 where
  pub deadline : Option ℕ
  pub stands : look world key ≡ Some (record { value = Str bytes; deadline = deadline })

-- the string at the key has this length
abbrev pub HasLength : World → List ℕ → ℕ → Type 0
HasLength world key n = (bytes : List ℕ) × IsThere world key bytes × (n ≡ length bytes) × (n < 2 ^ 63)

-- the string at the key is changed
abbrev pub Becomes : World → List ℕ → (List ℕ → List ℕ) → World → Type 0
Becomes old key next new = (bytes : List ℕ) → IsThere old key bytes → new ≡ change old key (next bytes)

-- whatever is made of the string at the key is made of this one, or of none
abbrev pub IsStringBefore : World → List ℕ → Option (List ℕ) → Type 0
IsStringBefore world key before =
    (answer : Option (List ℕ) → Outcome) → on_string world (look world key) answer ≡ answer before

-- the reply is the string at the key, or null
pub record OldValue (world : World) (key : List ℕ) (reply : List Part) : Type 0 where
  pub before : Option (List ℕ)
  pub is : IsStringBefore world key before
  pub reply_is : reply ≡ or_null before ∷ []

-- the reply is the string at the key, or null; there is none where a value of another type stands there
abbrev pub IsOldValue : World → List ℕ → Option (List Part) → Type 0
IsOldValue world key None = FoundOther world key
IsOldValue world key (Some reply) = OldValue world key reply

-- what is made of a deadline that was decided on; of one that 64 bits with a sign don't hold, the refusal
abbrev pub decided : World → Option (Option ℕ) → (Option ℕ → Outcome) → Outcome
decided old None answer = refused InvalidExpireTime old
decided old (Some deadline) answer = answer deadline

-- whatever is made of the deadline that SET gives is made of this one
abbrev pub IsLifetime : World → ℕ → List ℕ → Lifetime → Option (Option ℕ) → Type 0
IsLifetime old moment key lifetime deadline =
    (answer : Option ℕ → Outcome) → with_lifetime old moment key lifetime answer ≡ decided old deadline answer

-- the string at the key is this number, or none
pub record HasNumber (world : World) (key : List ℕ) (number : Option ℤ) : Type 0 where
  pub before : Option (List ℕ)
  pub is : IsStringBefore world key before
  pub number_is : number_at before ≡ number
  pub string : (entry : Entry) → look world key ≡ Some entry → IsString entry.value

-- the string at a key, or null where none stands
abbrev pub value_at : World → List ℕ → Part
value_at world key = string_or_null (look world key)

-- the string at each key, or null
abbrev pub values_at : World → List (List ℕ) → List Part
values_at world keys = map (value_at world) keys

-- from the old world the command gives this reply, and leaves the new one
abbrev pub GivesIn : {E : Type 0} → ℕ → World → StringCommand → World → Result (List Part) E → Type 0
GivesIn moment old command new result = IfOk result (λ reply. string_outcome moment old command ≡ leaves reply new)

-- from what the old keyspace means the command gives this reply, and leaves what the new one means
abbrev pub Gives : {S E : Type 0} → (S → Blocks) → Keyspace S → Keyspace S → Ctx → StringCommand
    → Result (List Part) E → Type 0
Gives blocks old new at command result = GivesIn at.moment (visible blocks old at) command (visible blocks new at) result

-- the reply of SET: the old value where it is asked for, else OK, or null where nothing is written; none where the old
-- value is asked for and is no string
abbrev pub IsSetReply : World → List ℕ → Bool → Bool → Option (List Part) → Type 0
IsSetReply world key true written reply = IsOldValue world key reply
IsSetReply world key false written None = ⊥
IsSetReply world key false written (Some reply) = reply ≡ (if written then ok else Null) ∷ []
