-- The worlds on an engine's way are those of a run.
use Rattle.std.proofs.Common.{◌≡◌, ℕ, List, [], ◌∷◌, ◌++◌, map, max, Bool, true, false, Option, refl, sym, ap, ◌∙◌, subst, arith}
use Rattle.class_heap.specs.Heap.{heap_blocks, heap_slabs, IsClassHeapStep}
use Rattle.outside.specs.Clocks.{Answers, Tells}
use Rattle.outside.specs.Pacing.{PacerSeen, tuned}
use Rattle.plain_world.specs.Words.{Words}
use Rattle.plain_world.specs.Worlds.{live}
use Rattle.plain_world.specs.declared.reply.Part.{Part}
use Rattle.plain_model.specs.Runs.{Turn, run, calls_of, replies_of, moment_after}
use Rattle.plain_model.specs.Steps.{step}
use Rattle.plain_model.proofs.Covered.{runs_covered}
use Rattle.redis_core.proofs.Steps.{executes_step}
use Rattle.plain_model.specs.Meant.{asks_to_quit}
use Rattle.redis_core.specs.Engines.{Executes}
use Rattle.serving.proofs.Said.{served_as}
use Rattle.serving.specs.Path.{path, CutPath, whole, at_last}
use Rattle.serving.specs.Served.{answered, quit, write_fault, no_memory}
use Rattle.serving.specs.Timed.{Timed, ReadsMoment, TimedReply}
use Rattle.serving.specs.Timed as timed
use Rattle.serving.specs.declared.ending.Ended.{Ended}
use Rattle.serving.specs.declared.ending.Ended.TheVariants as served
use Rattle.program_top.specs.Engines.{Engine, world_of, works, IsFirst}
use Rattle.program_top.specs.Generating.{may_generate, GeneratesOn}
use Rattle.program_top.specs.Given.{Options, Given, Wrong, Run, Generate, Outside}
use Rattle.program_top.specs.WordsRead.{options_read, given_read}
use Rattle.program_top.specs.Headline.{Clocked, MayAnswer, may_answer, standing_clock}
use Rattle.program_top.specs.Lent.{Streams, Goes, AnswersLent, Lent}
use Rattle.program_top.specs.Notes.{Notes, line_of}
use Rattle.program_top.specs.Running as running
use Rattle.program_top.specs.Running.{RunsOptions, begun, not_begun, RunsOf, RunsWords, unread, ReadsNoMore}
use Rattle.program_top.specs.Starting.{Standing, BeginsWith, Begins}
use Rattle.program_top.specs.Statuses.{status_of, ending_of}
use Rattle.program_top.specs.Stepped.{standing_of, Steps, StepsLast, goes, goes_cut, engine_clock, BeginsEngine, RunsEngine, RunsNoted}
use Rattle.program_top.proofs.Generations.{worked_world, writes_seen}
use Rattle.program_top.specs.declared.words.Given as words
use Rattle.program_top.specs.declared.words.Given.TheVariants as read
use Rattle.program_top.specs.declared.words.Options as words_options
use Rattle.program_top.specs.declared.ending.Ending.{Ending}

-- One turn of an engine: the clock is read for it, and it is a step of the model on what the engine holds.
record Turned (first : Timed Engine) (words : Words) (reply : List Part) (next : Timed Engine) : Type 0 where
  now : ℕ
  read : Tells first.clock now next.clock
  moment : next.engine.last ≡ moment_after first.engine.last now
  ran : step first.engine.bases.seed (world_of first.engine) next.engine.last words reply (world_of next.engine)
  seed : next.engine.bases.seed ≡ first.engine.bases.seed
  alive : next.engine.is_spent ≡ false

-- a request that is answered at the moment that the clock tells is one turn
answered_turn : (moment : ℕ) (first : Timed Engine) (words : Words) (reply : List Part) (next : Timed Engine)
    → TimedReply (Executes heap_blocks heap_slabs IsClassHeapStep) works asks_to_quit moment first words reply next → Turned first words reply next
answered_turn moment first words reply next a = record {
  now = a.read.now;
  read = a.read.read;
  moment = a.answers.last ∙ ap (max first.engine.last) a.read.is;
  ran = executes_step heap_blocks heap_slabs IsClassHeapStep moment first.engine words reply next.engine a.answers;
  seed = a.answers.answers.stands.settings.seed;
  alive = a.answers.alive;
}

-- a turn stays one where what is planned is done behind it, or the request ends the run
rested_turn : (ends : Bool) (moment : ℕ) (first : Timed Engine) (words : Words) (reply : List Part) (mid next : Timed Engine) → mid.engine.last ≡ max first.engine.last moment
    → Turned first words reply mid → timed.Rests (Executes heap_blocks heap_slabs IsClassHeapStep) works asks_to_quit ends moment mid next → Turned first words reply next
rested_turn true moment first words reply mid next later t same = subst (Turned first words reply) (sym same) t
rested_turn false moment first words reply mid next later t w =
    let r = w.0.done.1 in
    let same : next.engine.last ≡ mid.engine.last = omega (arith, r.last, later) in
    record {
      now = t.now;
      read = subst (Tells first.clock t.now) (sym w.1) t.read;
      moment = same ∙ t.moment;
      ran = subst (λ last. step first.engine.bases.seed (world_of first.engine) last words reply (world_of next.engine)) (sym same)
          (subst (step first.engine.bases.seed (world_of first.engine) mid.engine.last words reply) (sym (worked_world moment w.0.plan mid.engine next.engine w.0.done.0 r same)) t.ran);
      seed = r.works.seed ∙ t.seed;
      alive = r.alive ∙ t.alive;
    }

-- a request that is answered and the planned work behind it are one turn
step_turn : (first : Timed Engine) (words : Words) (reply : List Part) (next : Timed Engine) → Steps first words reply next → Turned first words reply next
step_turn first words reply next s = rested_turn (asks_to_quit words) s.moment first words reply s.mid next s.answered.answers.last (answered_turn s.moment first words reply s.mid s.answered) s.rests

-- the turns of an engine's way, also where the last one was cut off
path_turned : (asked : List Words) (replies : List (List Part)) (first last : Timed Engine) → path Steps first asked replies last → path Turned first asked replies last
path_turned [] [] first last p = p
path_turned [] (reply ∷ replies) first last p = absurd p
path_turned (words ∷ asked) [] first last p = absurd p
path_turned (words ∷ asked) (reply ∷ replies) first last p = (p.0, step_turn first words reply p.0 p.1, path_turned asked replies p.0 last p.2)

-- a way of turns and one more turn behind it are a way of turns
one_more : (asked : List Words) (replies : List (List Part)) (first mid last : Timed Engine) (words : Words) (reply : List Part) → path Turned first asked replies mid
    → Turned mid words reply last → path Turned first (asked ++ words ∷ []) (replies ++ reply ∷ []) last
one_more [] [] first mid last words reply p t = (last, subst (λ e. Turned e words reply last) p t, refl)
one_more [] (r ∷ replies) first mid last words reply p t = absurd p
one_more (w ∷ asked) [] first mid last words reply p t = absurd p
one_more (w ∷ asked) (r ∷ replies) first mid last words reply p t = (p.0, p.1, one_more asked replies p.0 mid last words reply p.2 t)

-- an engine's way is one of turns, also where its last step was cut off
cut_turned : (asked : List Words) (replies : List (List Part)) (first last : Timed Engine) → CutPath Steps StepsLast first asked replies last → path Turned first asked replies last
cut_turned asked replies first last (whole p) = path_turned asked replies first last p
cut_turned asked replies first last (at_last others words front reply mid is are p c) =
    subst (λ l. path Turned first l replies last) (sym is)
    (subst (λ l. path Turned first (others ++ words ∷ []) l last) (sym are)
    (one_more others front first mid last words reply (path_turned others front first mid p) (answered_turn c.moment mid words reply last c.answered)))

-- the turns as those of the model
record Turns (seed : ℕ) (first : Standing) (asked : List Words) (replies : List (List Part)) (last : Standing) : Type 0 where
  turns : List Turn
  clocked : Clocked first.last first.clock asked (calls_of turns) last.last last.clock
  are : replies_of turns ≡ replies
  ran : run seed first.world turns last.world

-- a way of turns is a run of the model on what the engine holds
turned_turns : (seed : ℕ) (asked : List Words) (replies : List (List Part)) (first last : Timed Engine) → first.engine.bases.seed ≡ seed → path Turned first asked replies last
    → Turns seed (standing_of first) asked replies (standing_of last)
turned_turns seed [] [] first last same p = record {
  turns = [];
  clocked = (ap (λ t. t.engine.last) p, ap (λ t. t.clock) p);
  are = refl;
  ran = ap (λ t. world_of t.engine) p;
}
turned_turns seed [] (reply ∷ replies) first last same p = absurd p
turned_turns seed (words ∷ asked) [] first last same p = absurd p
turned_turns seed (words ∷ asked) (reply ∷ replies) first last same p =
    let mid : Timed Engine = p.0 in
    let next = turned_turns seed asked replies mid last (p.1.seed ∙ same) p.2 in
    record {
      turns = record { call = record { words = words; moment = mid.engine.last }; seen = live (world_of first.engine) mid.engine.last; reply = reply } ∷ next.turns;
      clocked = (p.1.now, mid.clock, p.1.read, refl, p.1.moment, next.clocked);
      are = ap (λ l. reply ∷ l) next.are;
      ran = (refl, world_of mid.engine, subst (λ s. step s (world_of first.engine) mid.engine.last words reply (world_of mid.engine)) same p.1.ran, next.ran);
    }

-- a plain map may answer the requests by the replies of a way of turns
turned_answers : (seed : ℕ) (asked : List Words) (replies : List (List Part)) (first last : Timed Engine) → first.engine.bases.seed ≡ seed → path Turned first asked replies last
    → MayAnswer seed (standing_of first) asked replies (standing_of last)
turned_answers seed asked replies first last same p =
    let t = turned_turns seed asked replies first last same p in
    record { turns = t.turns; clocked = t.clocked; are = t.are; ran = t.ran; covered = runs_covered seed (world_of first.engine) t.turns (world_of last.engine) t.ran }

-- a plain map may answer the requests by the replies of an engine's way
pub path_answers : (seed : ℕ) (asked : List Words) (replies : List (List Part)) (first last : Timed Engine) → first.engine.bases.seed ≡ seed → path Steps first asked replies last
    → MayAnswer seed (standing_of first) asked replies (standing_of last)
path_answers seed asked replies first last same p = turned_answers seed asked replies first last same (path_turned asked replies first last p)

-- a plain map may answer the requests by the replies of a way, also where its last step was cut off
pub cut_answers : (seed : ℕ) (asked : List Words) (replies : List (List Part)) (first last : Timed Engine) → first.engine.bases.seed ≡ seed
    → CutPath Steps StepsLast first asked replies last → MayAnswer seed (standing_of first) asked replies (standing_of last)
cut_answers seed asked replies first last same p = turned_answers seed asked replies first last same (cut_turned asked replies first last p)

-- a clock that was read no more
pub reads_none : (ended : Ended) (clock : Option Answers) → ReadsNoMore ended clock clock
reads_none served.Whole clock = refl
reads_none served.Quit clock = refl
reads_none served.Cut clock = refl
reads_none served.ReadFault clock = refl
reads_none served.Limit clock = refl
reads_none (served.Protocol rule at) clock = refl
reads_none served.Memory clock = tt
reads_none served.WriteFault clock = refl

-- where the same comes of the world that an engine holds as of the engine, a run of the engine is one of its worlds
module _ (Closes : Standing → Ended → Type 0) (ClosesEngine : Timed Engine → Ended → Type 0)
    (closed : (last : Timed Engine) (ended : Ended) → ClosesEngine last ended → Closes (standing_of last) ended) where
  pub run_seen : (options : Options) (before after : Outside) (ending : Ending) → RunsOptions BeginsEngine goes goes_cut engine_clock ClosesEngine options before after ending
      → RunsOptions Begins may_answer may_answer standing_clock Closes options before after ending
  run_seen options before after ending (begun first last ended b host s reads is closes) =
      let seen = served_as (goes options first) (goes_cut options first) (may_answer options (standing_of first)) (may_answer options (standing_of first)) asks_to_quit standing_of
      (λ asked replies last p. path_answers options.seed asked replies first last b.is.seed_is p)
      (λ asked replies last p. cut_answers options.seed asked replies first last b.is.seed_is p) options.max_input before.input after.input before.output after.output last ended s in
      running.begun (standing_of first) (standing_of last) ended b.begins host seen reads is (closed last ended closes)
  run_seen options before after ending (not_begun f) = running.not_begun f

  -- what is given runs on the engine's worlds as it runs on the engine, wrong words too
  run_of_seen : (given : Given) (before after : Outside) (ending : Ending) → RunsEngine ClosesEngine given before after ending
      → RunsOf Begins may_answer may_answer standing_clock Closes may_generate given before after ending
  run_of_seen Wrong before after ending r = r
  run_of_seen (Run options) before after ending r = run_seen options before after ending r
  run_of_seen (Generate n options) before after ending r = record { wrote = writes_seen options n before.pacers before.output after.output ending r.wrote; others = r.others }

  -- a run of the engine is one of its worlds, also where memory wanted before the words were read
  pub run_words_seen : (given : Given) (before after : Outside) (ending : Ending)
      → RunsWords BeginsEngine goes goes_cut engine_clock ClosesEngine GeneratesOn given before after ending
      → RunsWords Begins may_answer may_answer standing_clock Closes may_generate given before after ending
  run_words_seen given before after ending (running.read r) = running.read (run_of_seen given before after ending r)
  run_words_seen given before after ending (unread same is) = running.unread same is

-- what comes of the last engine may be said otherwise
pub closed_as : (Closes Other : Timed Engine → Ended → Type 0) → ((last : Timed Engine) (ended : Ended) → Closes last ended → Other last ended)
    → (options : Options) (before after : Outside) (ending : Ending) → RunsNoted Closes (Run options) before after ending → RunsNoted Other (Run options) before after ending
closed_as Closes Other other options before after ending n = record { run = run n.run; line = n.line }
  where
    run : RunsOptions BeginsEngine goes goes_cut engine_clock Closes options before after ending → RunsOptions BeginsEngine goes goes_cut engine_clock Other options before after ending
    run (begun first last ended b host s reads is closes) = begun first last ended b host s reads is (other last ended closes)
    run (not_begun f) = not_begun f

-- an engine begins the run, at the moment that was read
pub begins_engine : (options : Options) (before : Outside) (engine : Engine) (clock : Option Answers) (moment : ℕ) (paced : List PacerSeen) → ReadsMoment before.clock clock moment
    → BeginsWith before.host.files options.max_input options.file moment (world_of engine)
    → IsFirst options.seed options.limits engine → engine.last ≡ moment → paced ≡ map (λ p. tuned p options.effort) before.pacers
    → BeginsEngine options before (record { engine = engine; clock = clock; pacers = paced })
begins_engine options before engine clock moment paced read world first last is =
    let W : ℕ → Type 0 = λ m. BeginsWith before.host.files options.max_input options.file m (world_of engine) in
    record { begins = record { moment = subst (ReadsMoment before.clock clock) (sym last) read; world = subst W (sym last) world }; is = first; paced = is }

-- the pacers of a new conductor
pub conducted : {P : Type 0} (seen : P → PacerSeen) (given : List P) (effort : ℕ) → map (λ p. tuned (seen p) effort) given ≡ map (λ p. tuned p effort) (map (λ p. seen p) given)
conducted seen [] effort = refl
conducted seen (p ∷ ps) effort = ap (λ l. tuned (seen p) effort ∷ l) (conducted seen ps effort)

module _ (Closes : Timed Engine → Ended → Type 0) where
  -- what finishes with the options that were read is what was given
  pub finishes_as : (given read : Given) (before after : Outside) (ending : Ending) → given ≡ read → RunsNoted Closes read before after ending → RunsNoted Closes given before after ending
  finishes_as given read before after ending e f = let P : Given → Type 0 = λ g. RunsNoted Closes g before after ending in subst P (sym e) f

  -- a run with the options that were read is one of what was given
  pub run_read : (given : words.Given) (options : words_options.Options) (before after : Outside) (ending : Ending) → given ≡ read.Run options
      → RunsNoted Closes (Run (options_read options)) before after ending → RunsNoted Closes (given_read given) before after ending
  run_read given options before after ending e f = let P : words.Given → Type 0 = λ g. RunsNoted Closes (given_read g) before after ending in subst P (sym e) f

  -- generated commands with the options that were read are those of what was given
  pub generate_read : (given : words.Given) (n : ℕ) (options : words_options.Options) (before after : Outside) (ending : Ending) → given ≡ read.Generate n options
      → RunsNoted Closes (Generate n (options_read options)) before after ending → RunsNoted Closes (given_read given) before after ending
  generate_read given n options before after ending e f = let P : words.Given → Type 0 = λ g. RunsNoted Closes (given_read g) before after ending in subst P (sym e) f

-- ---- an engine that is lent

-- an engine that isn't spent isn't after any of its turns
turned_alive : (asked : List Words) (replies : List (List Part)) (first last : Timed Engine) → first.engine.is_spent ≡ false → path Turned first asked replies last → last.engine.is_spent ≡ false
turned_alive [] [] first last alive p = ap (λ t. t.engine.is_spent) p ∙ alive
turned_alive [] (reply ∷ replies) first last alive p = absurd p
turned_alive (words ∷ asked) [] first last alive p = absurd p
turned_alive (words ∷ asked) (reply ∷ replies) first last alive p = turned_alive asked replies p.0 last p.1.alive p.2

module _ (limit : ℕ) (before after : Streams) (first last : Timed Engine) (ended : Ended) (goes : Goes limit before after first last ended) where
  -- a plain map that begins with what a lent engine holds may answer as the engine does
  lent_answers : AnswersLent limit before after first last ended
  lent_answers =
      let seed = first.engine.bases.seed in
      served_as (path Steps first) (CutPath Steps StepsLast first) (MayAnswer seed (standing_of first)) (MayAnswer seed (standing_of first)) asks_to_quit standing_of
      (λ asked replies last p. path_answers seed asked replies first last refl p)
      (λ asked replies last p. cut_answers seed asked replies first last refl p) limit before.input after.input before.output after.output last ended goes

  -- it is spent only where memory wanted
  lent_spent : first.engine.is_spent ≡ false → last.engine.is_spent ≡ true → status_of (ending_of ended) ≡ 8
  lent_spent alive spent = elim goes.ends [
    | answered a by ↦ still goes.asked a.replies (path_turned goes.asked a.replies first last a.may)
    | quit a is ↦ still (a.front ++ a.quit ∷ []) a.replies (path_turned (a.front ++ a.quit ∷ []) a.replies first last a.may)
    | write_fault a is ↦ still a.some a.replies (cut_turned a.some a.replies first last a.may)
    | no_memory a is ↦ ap (λ e. status_of (ending_of e)) is
  ]
    where
      still : (asked : List Words) (replies : List (List Part)) → path Turned first asked replies last → status_of (ending_of ended) ≡ 8
      still asked replies p = let no : true ≡ false = sym spent ∙ turned_alive asked replies first last alive p in cc

  -- what `serve` answers of an engine that wasn't spent, where the notes have the line of the end
  pub lent : (ending : Ending) (status : ℕ) → Notes before.notes after.notes (line_of (ending_of ended)) → first.engine.is_spent ≡ false → ending ≡ ending_of ended
      → status ≡ status_of ending → Lent limit before after first last status
  lent ending status line alive is of = record {
    ended = ended;
    is = of ∙ ap status_of is;
    goes = record { goes = goes; line = line };
    answers = lent_answers;
    spent = λ s. of ∙ ap status_of is ∙ lent_spent alive s;
  }
