-- Requests as steps of the model.
use Rattle.std.proofs.Common.{◌≡◌, ◌<◌, ◌≤◌, ℕ, Bool, arith, List, [], ◌∷◌, Option, Result, Ok, Err, IfOk, max, false, refl, sym, ap, subst, ◌∙◌}
use Rattle.std.specs.Prelude.{MatchResult, IfErr, codes}
use Rattle.blocks.specs.Blocks.{Blocks, Served, no_step}
use Rattle.plain_world.specs.Words.{Words}
use Rattle.plain_world.specs.Worlds.{World, live}
use Rattle.plain_model.specs.Meant.{meant, quits, IsAsked, is_quit}
use Rattle.plain_model.specs.Outcomes.{IsRefusal}
use Rattle.plain_model.proofs.Asked.{FitsCommand, command_fits}
use Rattle.plain_model.specs.declared.command.Command.TheVariants.{Strings, Lists, Sets, Hashes, Zsets, Streams, Keys, Connection}
use Rattle.plain_model.specs.declared.connection.ConnectionCommand.{ConnectionCommand}
use Rattle.plain_model.specs.declared.connection.ConnectionCommand.TheVariants as connection
use Rattle.blocks.specs.Slabs.{Heap}
use Rattle.defrag.specs.declared.walk.Walk.{Walk}
use Rattle.plain_world.proofs.Lives.{live_later}
use Rattle.plain_model.specs.Steps.{may_meant, step}
use Rattle.plain_model.specs.declared.command.Command.{Command}
use Rattle.plain_model.specs.declared.ctx.Ctx.{Ctx}
use Rattle.plain_world.specs.declared.refusal.Refusal.{Refusal}
use Rattle.plain_world.specs.declared.reply.Part.{Part}
use Rattle.plain_world.specs.declared.reply.Part.TheVariants.{Refused, Simple}
use Rattle.keyspace.specs.Databases.{Bases, means}
use Rattle.keyspace.specs.Databases.{Keyspace}
use Rattle.keyspace.specs.Commands.{visible, Ready, Runs}
use Rattle.keyspace.specs.Forms.{Unwritten, Formed}
use Rattle.keyspace.proofs.Forming.{formed_none, formed_items}
use Rattle.held.proofs.Rehashing.{keys_stay}
use Rattle.keyspace.specs.Sound.{Sound}
use Rattle.keyspace.specs.Scopes.{Within, scope_of}
use Rattle.keyspace.proofs.Running.{same_settings}
use Rattle.keyspace.proofs.Serving.{unmoved}
use Rattle.keyspace.proofs.Insides.{insides_none}
use Rattle.keyspace.specs.Databases.{SameSettings}
use Rattle.keyspace.specs.Shown.{IsRehashed}
use Rattle.keyspace.specs.Scopes.{untouched}
use Rattle.keyspace.specs.Shown.{ListsSlabs}
use Rattle.redis_core.specs.Touched.{scope_meant, IsCommon, Settles}
use Rattle.redis_core.specs.Walking.{connection_tends, Tends, IsDefragged}
use Rattle.redis_core.proofs.Settled.{settles_none, settles_means}
use Rattle.redis_core.proofs.Walks.{ends_once, table_of_slabs}
use Rattle.redis_core.specs.declared.answering.Executed.{Executed}
use Rattle.redis_core.specs.Engines.{State, keyspace_of, world_of, Keeps, Performs, Executes, Stands, Answers, answered_with}

-- what is told of a line that is known
pub ok_told : {E : Type 0} (result : Result (List Part) E) (line : List ℕ) → line ≡ codes "OK" → IfOk result (λ reply. reply ≡ Simple line ∷ [])
    → IfOk result (λ reply. reply ≡ Simple (codes "OK") ∷ [])
ok_told (Ok reply) line is told = told ∙ ap (λ t. Simple t ∷ []) is
ok_told (Err e) line is told = tt

-- a common command makes no steps, moves nothing, and leaves the walk

-- a common command on the connection or the server leaves the walk that is open
common_connection : {S : Type 0} (blocks : S → Blocks) (heap : S → Heap) (old new : Keyspace S) (walk : Option Walk) (command : ConnectionCommand) (reply : List Part)
    → IsCommon (Connection command) → connection_tends blocks heap old new walk walk command reply
common_connection blocks heap old new walk connection.MemorySlabs reply common = absurd common
common_connection blocks heap old new walk (connection.DebugDefrag n) reply common = absurd common
common_connection blocks heap old new walk other reply common = refl

-- a common command of any family leaves the walk that is open
common_tends : {S : Type 0} (blocks : S → Blocks) (heap : S → Heap) (old new : Keyspace S) (walk : Option Walk) (command : Command) (reply : List Part) → IsCommon command
    → Tends blocks heap old new walk walk command reply
common_tends blocks heap old new walk (Strings command) reply common = refl
common_tends blocks heap old new walk (Lists command) reply common = refl
common_tends blocks heap old new walk (Sets command) reply common = refl
common_tends blocks heap old new walk (Hashes command) reply common = refl
common_tends blocks heap old new walk (Zsets command) reply common = refl
common_tends blocks heap old new walk (Streams command) reply common = refl
common_tends blocks heap old new walk (Keys command) reply common = refl
common_tends blocks heap old new walk (Connection command) reply common = common_connection blocks heap old new walk command reply common

module _ {S E : Type 0} (blocks : S → Blocks) (heap : S → Heap) (step_of : S → S → Type 0) (at : Ctx) (walk : Option Walk) where
  -- a common command ran
  pub family_answers : (old new : Keyspace S) (command : Command) (result : Result (List Part) E) (quit : Bool) → at.db < 16 → quit ≡ is_quit command → IsCommon command
      → Runs blocks step_of old new at command result
      → IfOk result (λ reply. Settles old.bases new.bases (blocks old.store) (blocks new.store)) → Answers blocks heap step_of old new walk walk at (Ok command) (answered_with at.db quit result)
  family_answers old new command (Ok reply) quit within is common r settles = record {
    served = λ none. r.kept.held.served;
    tends = common_tends blocks heap old new walk command reply common;
    within = λ none. r.kept.held.within;
    insides = λ none. r.kept.held.insides;
    shows = r.shows;
    forms = λ none. r.forms;
    settles = settles;
    answers = (r.answers, λ refused. ap (λ (k : Keyspace S). visible blocks k at) (r.kept.refusals refused));
    quits = is;
    stands = record { within = within; refused = λ refused. (r.kept.refusals refused, refl); sound = r.kept.held.sound; settings = r.kept.held.settings };
  }
  family_answers old new command (Err e) quit within is common r settles = record {
    served = λ none. r.kept.held.served;
    tends = refl;
    within = λ none. r.kept.held.within;
    insides = λ none. r.kept.held.insides;
    shows = tt;
    forms = tt;
    settles = tt;
    answers = tt;
    quits = tt;
    stands = record { within = tt; refused = tt; sound = r.kept.held.sound; settings = r.kept.held.settings };
  }

  -- nothing changed
  pub stays : (keyspace : Keyspace S) (result : Result Executed E) → Sound keyspace.bases (blocks keyspace.store) → IfOk result (λ answered. answered.selected < 16)
      → IfOk result (λ answered. IsRefusal answered.reply → answered.selected ≡ at.db) → Stands blocks keyspace keyspace at result
  stays keyspace (Ok answered) sound within same = record { within = within; refused = λ r. (refl, same r); sound = sound; settings = same_settings keyspace.bases }
  stays keyspace (Err e) sound within same = record { within = tt; refused = tt; sound = sound; settings = same_settings keyspace.bases }

  -- memory was refused before anything changed
  pub nothing_answers : (keyspace : Keyspace S) (asked : Result Command Refusal) (e : E) → Ready blocks keyspace at → Answers blocks heap step_of keyspace keyspace walk walk at asked (Err e)
  nothing_answers keyspace asked e ready = record {
    served = λ none. no_step;
    tends = refl;
    within = λ none. unmoved (scope_meant at.db asked) keyspace.bases (blocks keyspace.store);
    insides = λ none. insides_none (scope_meant at.db asked) keyspace.bases (blocks keyspace.store);
    shows = tt;
    forms = tt;
    settles = tt;
    answers = tt;
    quits = tt;
    stands = stays keyspace (Err e) ready.sound tt tt;
  }

  -- the words of a request are refused
  pub refused_answers : (keyspace : Keyspace S) (asked : Result Command Refusal) (refusal : Refusal) (result : Result (List Part) E) → Ready blocks keyspace at → asked ≡ Err refusal
      → IfOk result (λ reply. reply ≡ Refused refusal ∷ []) → Answers blocks heap step_of keyspace keyspace walk walk at asked (answered_with at.db false result)
  refused_answers keyspace asked refusal (Ok reply) ready is told =
      subst (λ m. Answers {E = E} blocks heap step_of keyspace keyspace walk walk at m (Ok (record { reply = reply; selected = at.db; quit = false }))) (sym is) (record {
        served = λ none. no_step;
        tends = refl;
        within = λ none. unmoved untouched keyspace.bases (blocks keyspace.store);
        insides = λ none. insides_none untouched keyspace.bases (blocks keyspace.store);
        shows = tt;
        forms = λ none. formed_none blocks Unwritten keyspace;
        settles = settles_none keyspace.bases (blocks keyspace.store);
        answers = (told, λ r. refl);
        quits = refl;
        stands = stays keyspace (Ok (record { reply = reply; selected = at.db; quit = false })) ready.sound ready.db (λ r. refl);
      })
  refused_answers keyspace asked refusal (Err e) ready is told = nothing_answers keyspace asked e ready

  -- a command that is known
  known_answers : {old new : Keyspace S} {after : Option Walk} {result : Result Executed E} (command same : Command) → command ≡ same
      → Answers blocks heap step_of old new walk after at (Ok same) result → Answers blocks heap step_of old new walk after at (Ok command) result
  known_answers {old} {new} {after} {result} command same is r = subst (λ c. Answers blocks heap step_of old new walk after at (Ok c) result) (sym is) r

  -- SELECT
  pub select_answers : (keyspace : Keyspace S) (command : Command) (number : ℕ) (result : Result (List Part) E) → Ready blocks keyspace at → IsAsked command
      → command ≡ Connection (connection.Select number) → IfOk result (λ reply. reply ≡ Simple (codes "OK") ∷ [])
      → Answers blocks heap step_of keyspace keyspace walk walk at (Ok command) (answered_with number false result)
  select_answers keyspace command number (Ok reply) ready asked is told = known_answers command (Connection (connection.Select number)) is (record {
    served = λ none. no_step;
    tends = refl;
    within = λ none. unmoved untouched keyspace.bases (blocks keyspace.store);
    insides = λ none. insides_none untouched keyspace.bases (blocks keyspace.store);
    shows = tt;
    forms = λ none. formed_none blocks Unwritten keyspace;
    settles = settles_none keyspace.bases (blocks keyspace.store);
    answers = ((told, refl), λ r. absurd (subst IsRefusal told r));
    quits = refl;
    stands = stays keyspace (Ok (record { reply = reply; selected = number; quit = false })) ready.sound (subst FitsCommand is (command_fits asked.words command asked.means))
        (λ r. absurd (subst IsRefusal told r));
  })
  select_answers keyspace command number (Err e) ready asked is told = nothing_answers keyspace (Ok command) e ready

  -- MEMORY SLABS
  pub slabs_answers : (keyspace : Keyspace S) (command : Command) (result : Result (List Part) E) → Ready blocks keyspace at → command ≡ Connection connection.MemorySlabs
      → IfOk result (λ reply. ListsSlabs (heap keyspace.store) reply)
      → Answers blocks heap step_of keyspace keyspace walk walk at (Ok command) (answered_with at.db false result)
  slabs_answers keyspace command (Ok reply) ready is told = known_answers command (Connection connection.MemorySlabs) is (record {
    served = λ none. no_step;
    tends = (refl, told);
    within = λ none. unmoved untouched keyspace.bases (blocks keyspace.store);
    insides = λ none. insides_none untouched keyspace.bases (blocks keyspace.store);
    shows = tt;
    forms = λ none. formed_none blocks Unwritten keyspace;
    settles = settles_none keyspace.bases (blocks keyspace.store);
    answers = ((table_of_slabs (heap keyspace.store) reply told, refl), λ r. refl);
    quits = refl;
    stands = stays keyspace (Ok (record { reply = reply; selected = at.db; quit = false })) ready.sound ready.db (λ r. refl);
  })
  slabs_answers keyspace command (Err e) ready is told = nothing_answers keyspace (Ok command) e ready

  module _ (old new : Keyspace S) (command : Command) (steps : ℕ) (ready : Ready blocks old at)
      (world : (number : ℕ) → means number new.bases (blocks new.store) ≡ means number old.bases (blocks old.store)) (sound : Sound new.bases (blocks new.store))
      (settings : SameSettings old.bases new.bases) where
    -- DEBUG REHASH
    pub rehash_answers : (result : Result (List Part) E) → command ≡ Connection (connection.DebugRehash steps) → new.store ≡ old.store → IfOk result (λ reply. IsRehashed blocks steps old new reply)
        → Answers blocks heap step_of old new walk walk at (Ok command) (answered_with at.db false result)
    rehash_answers (Ok reply) is store shown = known_answers command (Connection (connection.DebugRehash steps)) is (record {
      served = λ none. subst (λ (s : S). Served step_of old.store s) (sym store) no_step;
      tends = refl;
      within = λ none. absurd none;
      insides = λ none. absurd none;
      shows = shown;
      forms = λ none. formed_items blocks old new (keys_stay shown.tables) shown.store;
      settles = settles_means old.bases new.bases (blocks old.store) (blocks new.store) ready.sound.arranged sound.arranged world;
      answers = (((shown.found, shown.tables.few, shown.is), ap (λ w. live w at.moment) (world at.db)), λ r. ap (λ w. live w at.moment) (world at.db));
      quits = refl;
      stands = record { within = ready.db; refused = λ r. absurd (subst IsRefusal shown.is r); sound = sound; settings = settings };
    })
    rehash_answers (Err e) is store shown = known_answers command (Connection (connection.DebugRehash steps)) is (record {
      served = λ none. subst (λ (s : S). Served step_of old.store s) (sym store) no_step;
      tends = refl;
      within = λ none. absurd none;
      insides = λ none. absurd none;
      shows = tt;
      forms = tt;
      settles = tt;
      answers = tt;
      quits = tt;
      stands = record { within = tt; refused = tt; sound = sound; settings = settings };
    })

    -- DEBUG DEFRAG
    pub defrag_answers : (after : Option Walk) (result : Result (List Part) E) → command ≡ Connection (connection.DebugDefrag steps)
        → IfOk result (λ reply. IsDefragged blocks heap old new walk after steps reply) → IfErr result (λ e. (new ≡ old) × (after ≡ walk))
        → Answers blocks heap step_of old new walk after at (Ok command) (answered_with at.db false result)
    defrag_answers after (Ok reply) is shown none = known_answers command (Connection (connection.DebugDefrag steps)) is (record {
      served = λ none. absurd none;
      tends = shown;
      within = λ none. absurd none;
      insides = λ none. absurd none;
      shows = tt;
      forms = λ moves. absurd moves;
      settles = settles_means old.bases new.bases (blocks old.store) (blocks new.store) ready.sound.arranged sound.arranged world;
      answers = (let once = ends_once blocks heap steps old new walk after shown.ended shown.defrags in
          (((shown.ended, once.0, once.1, shown.is), ap (λ w. live w at.moment) (world at.db)), λ r. ap (λ w. live w at.moment) (world at.db)));
      quits = refl;
      stands = record { within = ready.db; refused = λ r. absurd (subst IsRefusal shown.is r); sound = sound; settings = settings };
    })
    defrag_answers after (Err e) is shown none = known_answers command (Connection (connection.DebugDefrag steps)) is (record {
      served = λ moves. absurd moves;
      tends = none.1;
      within = λ none. absurd none;
      insides = λ none. absurd none;
      shows = tt;
      forms = tt;
      settles = tt;
      answers = tt;
      quits = tt;
      stands = record { within = tt; refused = tt; sound = sound; settings = settings };
    })

-- an engine that used a moment and did nothing more
pub observed_keeps : {S : Type 0} (blocks : S → Blocks) (engine inside : State S) (last : ℕ) → inside ≡ record engine { last = last } → Sound inside.bases (blocks inside.store)
    → Keeps blocks engine inside
observed_keeps blocks engine inside last e sound = record {
  sound = sound;
  settings = record { limits = ap (λ x. x.bases.limits) e; seed = ap (λ x. x.bases.seed) e; turn = ap (λ x. x.bases.turn) e };
}

-- the store of an engine that used a moment and did nothing more comes from the one before by no step
pub observed_served : {S : Type 0} (step_of : S → S → Type 0) (engine inside : State S) (last : ℕ) → inside ≡ record engine { last = last } → Served step_of engine.store inside.store
observed_served step_of engine inside last e = subst (Served step_of engine.store) (sym (ap (λ x. x.store) e)) no_step

module _ {S : Type 0} (blocks : S → Blocks) (heap : S → Heap) (step_of : S → S → Type 0) where
  -- a reply that came says the same whatever else might have come
  came_alone : {E : Type 0} (old new : Keyspace S) (before after : Option Walk) (at : Ctx) (asked : Result Command Refusal) (answered : Executed)
      → Answers {E = E} blocks heap step_of old new before after at asked (Ok answered)
      → Answers {E = ⊥} blocks heap step_of old new before after at asked (Ok (record { reply = answered.reply; selected = answered.selected; quit = quits asked }))
  came_alone old new before after at asked answered a = record {
    answers = a.answers;
    quits = refl;
    served = a.served;
    tends = a.tends;
    within = a.within;
    insides = a.insides;
    shows = a.shows;
    forms = a.forms;
    settles = a.settles;
    stands = record { within = a.stands.within; refused = a.stands.refused; sound = a.stands.sound; settings = a.stands.settings };
  }

  -- an engine answers as its keyspace does, at the moment that it used
  pub performs : {E : Type 0} (engine inside : State S) (moment : ℕ) (asked : Result Command Refusal) (answered : Executed) (bases : Bases) (store : S) (walk : Option Walk)
      → inside ≡ record engine { last = max engine.last moment } → inside.is_spent ≡ false
      → Answers {E = E} blocks heap step_of (record { bases = inside.bases; store = inside.store }) (record { bases = bases; store = store }) inside.walk walk
      (record { db = inside.selected; moment = inside.last }) asked (Ok answered)
      → Performs blocks heap step_of moment engine asked answered.reply (record inside { bases = bases; store = store; selected = answered.selected; walk = walk })
  performs engine inside moment asked answered bases store walk e alive a = record {
    last = ap (λ x. x.last) e;
    answers = subst
        (λ (x : State S). Answers {E = ⊥} blocks heap step_of (keyspace_of x) (record { bases = bases; store = store }) x.walk walk (record { db = x.selected; moment = inside.last })
        asked (Ok (record { reply = answered.reply; selected = answered.selected; quit = quits asked }))) e
        (came_alone (keyspace_of inside) (record { bases = bases; store = store }) inside.walk walk (record { db = inside.selected; moment = inside.last }) asked answered a);
    alive = alive;
  }

  -- what an engine answers is a step from the world that it holds: what was gone at the last moment that it used is gone
  pub executes_step : (moment : ℕ) (old : State S) (words : Words) (reply : List Part) (new : State S) → Executes blocks heap step_of moment old words reply new
      → step old.bases.seed (world_of blocks old) new.last words reply (world_of blocks new)
  executes_step moment old words reply new x =
      let held : live (means old.selected old.bases (blocks old.store)) new.last ≡ live (world_of blocks old) new.last =
      sym (live_later (means old.selected old.bases (blocks old.store)) old.last new.last (omega (arith, x.last))) in
      subst (λ w. may_meant old.bases.seed w new.last (meant words) reply (world_of blocks new)) held x.answers.answers
