-- The engine, as a desk sees it.
use Rattle.std.proofs.Common.{◌≡◌, ℕ, ◌≤◌, refl, sym, ap, ◌∙◌, arith}
use Rattle.blocks.specs.Blocks.{Blocks}
use Rattle.blocks.specs.Slabs.{Heap}
use Rattle.keyspace.specs.Databases.{means}
use Rattle.outside.specs.declared.pacing.Plan.{Plan}
use Rattle.plain_model.specs.Meant.{asks_to_quit}
use Rattle.plain_world.proofs.Lives.{live_later}
use Rattle.plain_world.specs.Worlds.{live}
use Rattle.redis_core.proofs.Steps.{executes_step}
use Rattle.redis_core.specs.Background.{EngineRests}
use Rattle.redis_core.specs.Engines.{State, Executes, world_of}
use Rattle.redis_core.specs.declared.background.StepsDone.{StepsDone}
use Rattle.session_desk.specs.Engines.{View, IsModelled}

module _ {S : Type 0} (blocks : S → Blocks) where
  -- the world that it holds, its last moment, its seed, and the engine with a database selected
  abbrev pub engine_view : View (State S)
  engine_view =
      record {
        world = world_of blocks;
        last = λ engine. engine.last;
        seed = λ engine. engine.bases.seed;
        choose = λ engine db. record engine { selected = db };
      }

module _ {S : Type 0} (blocks : S → Blocks) (heap : S → Heap) (step_of : S → S → Type 0) where
  -- the work of a plan, whatever comes of it
  abbrev pub does_work : ℕ → Plan → State S → State S → Type 0
  does_work moment plan old new = (done : StepsDone) × EngineRests blocks heap step_of moment plan old new done

  work_stays : (moment : ℕ) (plan : Plan) (old new : State S) (done : StepsDone) → EngineRests blocks heap step_of moment plan old new done → (later : ℕ) → new.last ≤ later
      → live (world_of blocks new) later ≡ live (world_of blocks old) later
  work_stays moment plan old new done r later after =
      live_later (means new.selected new.bases (blocks new.store)) new.last later after
      ∙ r.works.stays new.selected later after
      ∙ ap (λ db. live (means db old.bases (blocks old.store)) later) r.selected
      ∙ sym (live_later (means old.selected old.bases (blocks old.store)) old.last later (omega (arith, r.last, after)))

  -- it runs the model
  pub engine_modelled : IsModelled (engine_view blocks) (λ moment old words reply new. Executes blocks heap step_of moment old words reply new) does_work asks_to_quit
  engine_modelled = record {
    steps = λ moment old words reply new x. record {
      at = x.last;
      ran = executes_step blocks heap step_of moment old words reply new x;
      within = x.answers.stands.within;
      same_seed = x.answers.stands.settings.seed;
    };
    rests = λ moment plan old new w. record {
      at = w.1.last;
      stays = λ later after. work_stays moment plan old new w.0 w.1 later after;
      same_seed = w.1.works.seed;
    };
    chooses = λ old db. record { is = refl; at = refl; same_seed = refl };
    quitting = λ words. refl;
  }
