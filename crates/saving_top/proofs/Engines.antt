-- What an engine holds is fit.
use Rattle.std.proofs.Common.{ℕ, List, Some, sym, subst, arith}
use Rattle.class_heap.specs.Heap.{heap_blocks, heap_slabs, IsClassHeapStep}
use Rattle.fit_worlds.proofs.Steps.{steps_fit}
use Rattle.fit_worlds.proofs.Worlds.{fit_new, fit_live}
use Rattle.fit_worlds.specs.Fit.{AreShort, IsFit}
use Rattle.keyspace.specs.Databases.{means}
use Rattle.object_codec.specs.declared.limits.Limits.{Limits}
use Rattle.outside.specs.declared.pacing.Plan.{Plan}
use Rattle.plain_world.proofs.Lives.{live_later}
use Rattle.plain_world.specs.Words.{Words}
use Rattle.plain_world.specs.Worlds.{World, live}
use Rattle.plain_world.specs.declared.reply.Part.{Part}
use Rattle.program_top.specs.Engines.{Engine, world_of, works, Begun}
use Rattle.redis_core.proofs.Steps.{executes_step}
use Rattle.redis_core.specs.Engines.{Executes}
use Rattle.saving_top.proofs.Fit.{first_fit}
use Rattle.saving_top.specs.Laws.{EnginesAreFit}

-- its databases, whichever is selected, at a moment
abbrev held_at : ℕ → Engine → ℕ → World
held_at number engine moment = live (means number engine.bases (heap_blocks engine.store)) moment

begun_fit : (seed : ℕ) (limits : Limits) (engine : Engine) → Begun seed limits engine → IsFit (world_of engine)
begun_fit seed limits engine b = let own : IsFit (held_at 0 engine engine.last) = fit_live _ engine.last (subst IsFit (sym b.new.empty) fit_new) in record { each = own.each }

answered_fit : (moment : ℕ) (old : Engine) (words : Words) (reply : List Part) (new : Engine) → IsFit (world_of old) → AreShort words
    → Executes heap_blocks heap_slabs IsClassHeapStep moment old words reply new → IsFit (world_of new)
answered_fit moment old words reply new fit short e =
    steps_fit old.bases.seed (world_of old) new.last words reply (world_of new) fit short (executes_step heap_blocks heap_slabs IsClassHeapStep moment old words reply new e)

worked_fit : (moment : ℕ) (plan : Plan) (old new : Engine) → IsFit (world_of old) → works moment plan old new → IsFit (world_of new)
worked_fit moment plan old new fit w =
    let r = w.1 in
    let later : IsFit (live (world_of old) new.last) = fit_live (world_of old) new.last fit in
    let still : IsFit (held_at old.selected old new.last) = subst IsFit (live_later (means old.selected old.bases (heap_blocks old.store)) old.last new.last (omega (arith, r.last))) later in
    let same : IsFit (held_at new.selected old new.last) = record { each = still.each } in
    subst IsFit (sym (r.works.stays new.selected new.last (omega arith))) same

pub engines_fit : EnginesAreFit
engines_fit = record {
  begun = begun_fit;
  loaded = λ files limit name moment world l. first_fit files limit (Some name) moment world l;
  answered = answered_fit;
  worked = worked_fit;
}
