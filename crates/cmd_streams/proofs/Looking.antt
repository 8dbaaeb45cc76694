-- What is found at a key, and what commands on streams give of it.
use Rattle.std.proofs.Common.{◌≡◌, refl, Bool, true, false, ℕ, List, [], ◌∷◌, Option, None, Result, Ok, Err, IfOk, sym, ap, ◌∙◌}
use Rattle.blocks.specs.Blocks.{Blocks}
use Rattle.plain_world.specs.Streams.{Stream}
use Rattle.plain_world.specs.Worlds.{World}
use Rattle.plain_model.specs.Outcomes.{Outcome, leaves}
use Rattle.plain_model.specs.OfType.{stream_in, of_type, on_type}
use Rattle.plain_model.specs.StreamSteps.{on_stream}
use Rattle.plain_model.specs.declared.ctx.Ctx.{Ctx}
use Rattle.plain_world.specs.declared.refusal.Refusal.TheVariants.{WrongType}
use Rattle.plain_world.specs.declared.reply.Part.{Part}
use Rattle.plain_world.specs.declared.reply.Part.TheVariants.{Refused}
use Rattle.keyspace.specs.declared.value.Value.{Value}
use Rattle.keyspace.specs.declared.value.Value.TheVariants as kinds
use Rattle.keyspace.specs.Values.{value_of}
use Rattle.keyspace.specs.Databases.{Bases}
use Rattle.keyspace.specs.Calls.{Found}
use Rattle.keyspace.specs.Commands.{seen}
use Rattle.cmd_streams.specs.Found.{FoundOther}

-- whatever would be made of a stream, a value of another type is refused
pub refused_other : {E : Type 0} (old : World) (key : List ℕ) (answer : Option Stream → Outcome) (result : Result (List Part) E) → FoundOther old key
    → IfOk result (λ reply. reply ≡ Refused WrongType ∷ [])
    → IfOk result (λ reply. on_stream old key answer ≡ leaves reply old)
refused_other old key answer (Ok reply) found is =
    ap (λ o. on_type stream_in old o answer) found.stands ∙ ap (λ o. of_type old o answer) found.other ∙ ap (λ r. leaves r old) (sym is)
refused_other old key answer (Err x) found is = tt

-- whether a value is a stream
abbrev pub is_stream : Value → Bool
is_stream (kinds.Stream b) = true
is_stream other = false

-- a value that is no stream means none
no_stream_in : (m : Blocks) (value : Value) → is_stream value ≡ false → stream_in (value_of m value) ≡ None
no_stream_in m (kinds.Text text) is = refl
no_stream_in m (kinds.List b) is = refl
no_stream_in m (kinds.Set b) is = refl
no_stream_in m (kinds.Hash b) is = refl
no_stream_in m (kinds.Zset b) is = refl
no_stream_in m (kinds.Stream b) is = cc

pub found_other : (bases : Bases) (m : Blocks) (at : Ctx) (key : List ℕ) (value : Value) → is_stream value ≡ false → Found bases m at.db key at.moment value → FoundOther (seen at bases m) key
found_other bases m at key value other found = record { entry = record { value = value_of m value; deadline = found.deadline }; stands = found.stands; other = no_stream_in m value other }

-- a reply is told in other words
pub told_as : {E : Type 0} (result : Result (List Part) E) (a b : List Part) → a ≡ b → IfOk result (λ reply. reply ≡ a) → IfOk result (λ reply. reply ≡ b)
told_as (Ok reply) a b same is = is ∙ same
told_as (Err e) a b same is = tt
