-- What is told of an entry that is to be added.
use Rattle.std.proofs.Common.{◌≡◌, ℕ, true, false, List, [], ◌∷◌, Option, None, Some, Result, Ok, Err, IfOk, refl, sym, ap, ◌∙◌}
use Rattle.std.specs.Prelude.{is_none}
use Rattle.std.proofs.lemmas.Bool.{cond-false}
use Rattle.blocks.specs.Blocks.{Blocks}
use Rattle.plain_world.specs.Streams.{Stream}
use Rattle.plain_world.specs.Worlds.{World}
use Rattle.plain_world.specs.declared.refusal.Refusal.{Refusal}
use Rattle.plain_world.specs.declared.reply.Part.{Part}
use Rattle.plain_world.specs.declared.reply.Part.TheVariants.{Refused}
use Rattle.plain_model.specs.Outcomes.{leaves}
use Rattle.plain_model.specs.StreamSteps.{Pair, on_stream, or_no_stream, append, append_as, id_for}
use Rattle.plain_model.specs.declared.stream_command.NewId.{NewId}
use Rattle.plain_model.specs.declared.stream_command.AppendOptions.{AppendOptions}
use Rattle.keyspace.specs.Databases.{Bases}
use Rattle.cmd_streams.specs.Changed.{IsBefore, IsStreamThere}
use Rattle.cmd_streams.proofs.Gone.{on_before}

-- what stands at a key that was sought
pub before_there : (world : World) (bases : Bases) (m : Blocks) (db : ℕ) (key : List ℕ) (moment : ℕ) (there : Option ℕ) → IsStreamThere world bases m db key moment there
    → (before : Option Stream) × IsBefore world key before × (is_none before ≡ true → there ≡ None)
before_there world bases m db key moment None is = (None, is, λ e. refl)
before_there world bases m db key moment (Some item) is = (Some is.stream, is.has, λ e. cc)

-- whatever is there, XADD goes by the last id, where it may make a stream
pub asked_of : (old : World) (moment : ℕ) (key : List ℕ) (options : AppendOptions) (asked : NewId) (pairs : List Pair) (before : Option Stream) → IsBefore old key before
    → (is_none before ≡ true → options.only_there ≡ false)
    → on_stream old key (append old moment key options asked pairs) ≡ append_as old key options.trim pairs (or_no_stream before) (id_for moment (or_no_stream before).last asked)
asked_of old moment key options asked pairs None is makes = on_before old key None (append old moment key options asked pairs) is ∙ cond-false _ _ _ (makes refl)
asked_of old moment key options asked pairs (Some s) is makes = on_before old key (Some s) (append old moment key options asked pairs) is

-- there is no id for it
pub no_id_told : {X : Type 0} (old : World) (moment : ℕ) (key : List ℕ) (options : AppendOptions) (asked : NewId) (pairs : List Pair) (before : Option Stream) (last : ℕ × ℕ)
    (refusal : Refusal) → IsBefore old key before → (is_none before ≡ true → options.only_there ≡ false) → (or_no_stream before).last ≡ last → id_for moment last asked ≡ Err refusal
    → (result : Result (List Part) X) → IfOk result (λ reply. reply ≡ Refused refusal ∷ []) → IfOk result (λ reply. on_stream old key (append old moment key options asked pairs) ≡ leaves reply old)
no_id_told old moment key options asked pairs before last refusal is makes same none (Err x) told = tt
no_id_told old moment key options asked pairs before last refusal is makes same none (Ok reply) told =
    let s = or_no_stream before in
    asked_of old moment key options asked pairs before is makes
    ∙ ap (λ (p : ℕ × ℕ). append_as old key options.trim pairs s (id_for moment p asked)) same
    ∙ ap (append_as old key options.trim pairs s) none
    ∙ ap (λ r. leaves r old) (sym told)

-- or there is one
pub id_told : {X : Type 0} (old new : World) (moment : ℕ) (key : List ℕ) (options : AppendOptions) (asked : NewId) (pairs : List Pair) (before : Option Stream) (last id : ℕ × ℕ)
    → IsBefore old key before → (is_none before ≡ true → options.only_there ≡ false) → (or_no_stream before).last ≡ last → id_for moment last asked ≡ Ok id
    → (result : Result (List Part) X) → IfOk result (λ reply. (b : Option Stream) → IsBefore old key b → append_as old key options.trim pairs (or_no_stream b) (Ok id) ≡ leaves reply new)
    → IfOk result (λ reply. on_stream old key (append old moment key options asked pairs) ≡ leaves reply new)
id_told old new moment key options asked pairs before last id is makes same some (Err x) told = tt
id_told old new moment key options asked pairs before last id is makes same some (Ok reply) told =
    let s = or_no_stream before in
    asked_of old moment key options asked pairs before is makes
    ∙ ap (λ (p : ℕ × ℕ). append_as old key options.trim pairs s (id_for moment p asked)) same
    ∙ ap (append_as old key options.trim pairs s) some
    ∙ told before is
