-- The units on a desk's way are those that a plain server may give.
use Rattle.std.proofs.Common.{◌≡◌, ℕ, ◌<◌, List, map, Option, refl, sym, ap, ◌∙◌, subst, arith}
use Rattle.class_heap.specs.Heap.{heap_blocks, heap_slabs, IsClassHeapStep}
use Rattle.outside.specs.Clocks.{Answers}
use Rattle.outside.specs.Pacing.{PacerSeen, tuned}
use Rattle.outside.specs.Streams.{SourceSeen, SinkSeen}
use Rattle.plain_world.specs.Words.{Words}
use Rattle.plain_world.specs.Worlds.{Entry, live}
use Rattle.plain_world.specs.declared.reply.Part.{Part}
use Rattle.plain_sessions.proofs.Running.{histories_run, histories_covered}
use Rattle.plain_sessions.specs.Histories.{Room, room_of}
use Rattle.plain_sessions.specs.Transactions.{new_session}
use Rattle.program_top.specs.Engines.{Engine, world_of, works, IsFirst}
use Rattle.program_top.specs.Given.{Options, Given, Wrong, Run, Generate, Outside}
use Rattle.program_top.specs.Headline.{standing_clock}
use Rattle.program_top.specs.Starting.{Standing, BeginsWith, Begins}
use Rattle.redis_core.specs.Engines.{Executes}
use Rattle.plain_model.specs.Meant.{asks_to_quit}
use Rattle.serving.specs.Timed.{Timed, ReadsMoment}
use Rattle.serving.specs.declared.ending.Ended.TheVariants as served
use Rattle.session_desk.specs.Engines.{IsModelled, seen}
use Rattle.session_desk.specs.OverEngine.{engine_modelled}
use Rattle.session_desk.specs.Kept.{Kept, new_kept, session_at}
use Rattle.session_desk.specs.Rooms.{SameSession}
use Rattle.sessions.specs.Served as served_by
use Rattle.sessions.specs.Served.{Served}
use Rattle.sessions.specs.Way.{Told, arrivals_in, units_told}
use Rattle.sessions.specs.declared.ending.SessionsEnded.{SessionsEnded}
use Rattle.sessions.specs.declared.ending.SessionsEnded.TheVariants as endings
use Rattle.sessions_top.proofs.Deeds.{Stands, Seen, way_seen, cut_seen}
use Rattle.sessions_top.specs.Headline.{sessions, may_serve}
use Rattle.sessions_top.specs.Plain as plain
use Rattle.sessions_top.specs.Plain.{MayServe, ServesSessions, ServesTo}
use Rattle.sessions_top.specs.Running as running
use Rattle.sessions_top.specs.Running.{RunsOptions, begun, not_begun, RunsOf, RunsWords, unread, ReadsNoMore}
use Rattle.sessions_top.specs.Stepped.{view, Desk, standing_of, BeginsDesk, serves, desk_clock, RunsDesk, RunsNoted}
use Rattle.sessions_top.specs.declared.ending.SessionsEnding.{SessionsEnding}

abbrev executes : ℕ → Engine → Words → List Part → Engine → Type 0
executes = Executes heap_blocks heap_slabs IsClassHeapStep

-- the engine runs the model
pub modelled : IsModelled view executes works asks_to_quit
modelled = engine_modelled heap_blocks heap_slabs IsClassHeapStep

-- a session that said nothing
silent_same : (sees : ℕ → List ℕ → Option Entry) (moment : ℕ) → SameSession sees moment new_kept new_session
silent_same sees moment = record {
  db = refl;
  within = omega arith;
  queue = tt;
  spoilt = refl;
  watched = record { kept_are = λ one c. absurd (let below : c.0 < 0 = c.1 in omega arith); are_kept = λ w c. absurd (let below : c.0 < 0 = c.1 in omega arith) };
}

-- the desk that a run begins with stands as a room of its world
begins_stands : (options : Options) (before : Outside) (first : Timed Desk) → BeginsDesk options before first
    → Stands view executes works asks_to_quit modelled options.seed first.engine.engine.last first.engine (room_of (world_of first.engine.engine))
begins_stands options before first b = record {
  at = refl;
  alike = record {
    late = omega arith;
    holds = λ later db after. refl;
    sessions = λ number. subst (λ (k : Kept). SameSession (seen view first.engine.engine.last first.engine.engine) first.engine.engine.last k new_session) (sym (b.silent number)) (silent_same (seen view first.engine.engine.last first.engine.engine) first.engine.engine.last);
  };
  seed_is = b.is.seed_is;
}

-- where a way ends
abbrev ends_at : ℕ → Timed Desk → Standing
ends_at last timed = record { world = live (world_of timed.engine.engine) last; last = last; clock = timed.clock }

-- what is seen of a way is what a plain server may answer
seen_serves : (seed : ℕ) (first : Timed Desk) (tolds : List Told) (new : Timed Desk)
    → (s : Seen view executes works asks_to_quit modelled seed first.engine.engine.last first.clock (room_of (world_of first.engine.engine)) tolds new)
    → MayServe seed (standing_of first) (arrivals_in tolds) (units_told tolds) (ends_at s.last' new)
seen_serves seed first tolds new s = record {
  deeds = s.deeds;
  are = s.are;
  units_are = s.units_are;
  timed = s.timed;
  room = s.room';
  ran = s.ran;
  one_run = histories_run seed (room_of (world_of first.engine.engine)) s.deeds s.room' s.ran;
  covered = histories_covered seed (room_of (world_of first.engine.engine)) s.deeds s.room' s.ran;
  left = sym (s.alike.holds s.last' 0 (omega arith));
}

-- the units of a run are those that a plain server may give
record SeenServed (options : Options) (first : Timed Desk) (input input' : SourceSeen) (old new : SinkSeen) (last : Timed Desk) (ended : SessionsEnded) : Type 0 where
  there : Standing
  serves_so : may_serve options (standing_of first) input input' old new there ended
  clock_is : there.clock ≡ last.clock

served_seen : (options : Options) (before : Outside) (first : Timed Desk) (input input' : SourceSeen) (old new : SinkSeen) (last : Timed Desk) (ended : SessionsEnded)
    → BeginsDesk options before first → serves options first input input' old new last ended → SeenServed options first input input' old new last ended
served_seen options before first input input' old new last ended b s = elim s.ends [
  | served_by.answered t by ↦ (let w = way_seen view executes works asks_to_quit modelled options.seed first.engine.engine.last room t.tolds first last st t.went in
      let may = seen_serves options.seed first t.tolds last w in
      record {
        there = ends_at w.last' last;
        serves_so = so (ends_at w.last' last) (plain.all (record { units = units_told t.tolds; may = subst (λ l. MayServe options.seed (standing_of first) l (units_told t.tolds) (ends_at w.last' last)) t.are may; wrote = t.wrote }) by);
        clock_is = refl;
      })
  | served_by.write_fault t is ↦ (let w = cut_seen view executes works asks_to_quit modelled options.seed first.engine.engine.last room t.tolds first t.last st t.went in
      record {
        there = standing_of last;
        serves_so = so (standing_of last) (plain.write_fault (record { some = arrivals_in t.tolds; others = t.others; split = t.split; units = units_told t.tolds; there = ends_at w.last' t.last; may = seen_serves options.seed first t.tolds t.last w; wrote = t.wrote }) is);
        clock_is = refl;
      })
  | served_by.no_memory t is ↦ (let w = way_seen view executes works asks_to_quit modelled options.seed first.engine.engine.last room t.tolds first t.last st t.went in
      record {
        there = standing_of last;
        serves_so = so (standing_of last) (plain.no_memory (record { some = arrivals_in t.tolds; others = t.others; split = t.split; units = units_told t.tolds; there = ends_at w.last' t.last; may = seen_serves options.seed first t.tolds t.last w; wrote = t.wrote }) is);
        clock_is = refl;
      })
]
  where
    room : Room
    room = room_of (world_of first.engine.engine)

    st : Stands view executes works asks_to_quit modelled options.seed first.engine.engine.last first.engine room
    st = begins_stands options before first b

    so : (there : Standing) → ServesTo (MayServe options.seed (standing_of first)) sessions options.max_input s.taken s.stop s.sent s.arrivals input'.told old new there ended
        → may_serve options (standing_of first) input input' old new there ended
    so there ends = record { taken = s.taken; took = s.took; few = s.few; sent = s.sent; stop = s.stop; pieced = s.pieced; arrivals = s.arrivals; arrive = s.arrive; ends = ends; counts = s.counts }

-- a clock that was read no more
pub reads_none : (ended : SessionsEnded) (clock : Option Answers) → ReadsNoMore ended clock clock
reads_none (endings.Plain served.Whole) clock = refl
reads_none (endings.Plain served.Quit) clock = refl
reads_none (endings.Plain served.Cut) clock = refl
reads_none (endings.Plain served.ReadFault) clock = refl
reads_none (endings.Plain served.Limit) clock = refl
reads_none (endings.Plain (served.Protocol rule at)) clock = refl
reads_none (endings.Plain served.Memory) clock = tt
reads_none (endings.Plain served.WriteFault) clock = tt
reads_none endings.Unknown clock = refl

-- a run at the desk is one of a plain server
run_seen : (options : Options) (before after : Outside) (ending : SessionsEnding) → RunsOptions BeginsDesk serves desk_clock options before after ending
    → RunsOptions Begins may_serve standing_clock options before after ending
run_seen options before after ending (begun first last ended b host s reads is) =
    let x = served_seen options before first before.input after.input before.output after.output last ended b s in
    running.begun (standing_of first) x.there ended b.begins host x.serves_so (subst (λ c. ReadsNoMore ended c after.clock) (sym x.clock_is) reads) is
run_seen options before after ending (not_begun why f is) = running.not_begun why f is

pub run_of_seen : (given : Given) (before after : Outside) (ending : SessionsEnding) → RunsDesk given before after ending
    → RunsOf Begins may_serve standing_clock given before after ending
run_of_seen Wrong before after ending r = r
run_of_seen (Run options) before after ending r = run_seen options before after ending r
run_of_seen (Generate n options) before after ending r = r

-- the same, where memory wanted before the words were read too
pub run_words_seen : (given : Given) (before after : Outside) (ending : SessionsEnding) → RunsWords BeginsDesk serves desk_clock given before after ending
    → RunsWords Begins may_serve standing_clock given before after ending
run_words_seen given before after ending (running.read r) = running.read (run_of_seen given before after ending r)
run_words_seen given before after ending (running.unread same is) = running.unread same is

-- a desk begins the run, at the moment that was read
begins_desk : (options : Options) (before : Outside) (desk : Desk) (clock : Option Answers) (moment : ℕ) (paced : List PacerSeen) → ReadsMoment before.clock clock moment
    → BeginsWith before.host.files options.max_input options.file moment (world_of desk.engine)
    → IsFirst options.seed options.limits desk.engine → desk.engine.last ≡ moment → ((number : ℕ) → session_at desk.sessions number ≡ new_kept) → paced ≡ map (λ p. tuned p options.effort) before.pacers
    → BeginsDesk options before (record { engine = desk; clock = clock; pacers = paced })
begins_desk options before desk clock moment paced read world first last silent is =
    let W : ℕ → Type 0 = λ m. BeginsWith before.host.files options.max_input options.file m (world_of desk.engine) in
    record { begins = record { moment = subst (ReadsMoment before.clock clock) (sym last) read; world = subst W (sym last) world }; is = first; silent = silent; paced = is }

-- what finishes with the options that were read is what was given
pub finishes_as : (given read : Given) (before after : Outside) (ending : SessionsEnding) → given ≡ read → RunsNoted read before after ending → RunsNoted given before after ending
finishes_as given read before after ending e f = let P : Given → Type 0 = λ g. RunsNoted g before after ending in subst P (sym e) f

-- a new desk at an engine begins the run that the engine begins
pub begins_new : (options : Options) (before : Outside) (engine : Engine) (desk : Desk) (clock : Option Answers) (moment : ℕ) (paced : List PacerSeen) → ReadsMoment before.clock clock moment
    → BeginsWith before.host.files options.max_input options.file moment (world_of engine) → IsFirst options.seed options.limits engine → engine.last ≡ moment → desk.engine ≡ engine
    → ((number : ℕ) → session_at desk.sessions number ≡ new_kept) → paced ≡ map (λ p. tuned p options.effort) before.pacers → BeginsDesk options before (record { engine = desk; clock = clock; pacers = paced })
begins_new options before engine desk clock moment paced read world first last same silent is =
    let W : Engine → Type 0 = λ e. BeginsWith before.host.files options.max_input options.file moment (world_of e) in
    begins_desk options before desk clock moment paced read (subst W (sym same) world) (subst (IsFirst options.seed options.limits) (sym same) first) (ap (λ (e : Engine). e.last) same ∙ last) silent is
