-- The world that a run leaves is fit.
use Rattle.std.proofs.Common.{◌≡◌, ℕ, List, [], ◌∷◌, ◌++◌, Option, Some, None, sym, ap, ◌∙◌, subst, arith}
use Rattle.std.specs.List.{AllByRecursion}
use Rattle.fit_files.proofs.Items.{file_fit}
use Rattle.fit_worlds.proofs.Steps.{runs_fit}
use Rattle.fit_worlds.proofs.Worlds.{fit_new}
use Rattle.fit_worlds.specs.Fit.{AreShort, IsFit}
use Rattle.fit_worlds.specs.Laws.{IsShortTurn}
use Rattle.outside.specs.Clocks.{Answers}
use Rattle.outside.specs.Files.{Files}
use Rattle.outside.specs.Streams.{SourceSeen, SinkSeen}
use Rattle.plain_model.specs.Meant.{asks_to_quit}
use Rattle.plain_model.specs.Runs.{Turn, calls_of}
use Rattle.plain_world.specs.Words.{Words}
use Rattle.plain_world.specs.Worlds.{World}
use Rattle.plain_world.specs.declared.reply.Part.{Part}
use Rattle.program_top.proofs.Counted.{not_begun_status}
use Rattle.program_top.proofs.Worlds.{run_seen}
use Rattle.program_top.specs.Engines.{Engine, world_of}
use Rattle.program_top.specs.Given.{Options, Run, Outside}
use Rattle.program_top.specs.Headline.{Clocked, MayAnswer, may_answer, standing_clock}
use Rattle.program_top.specs.Running.{RunsOptions, begun, not_begun}
use Rattle.program_top.specs.Starting.{Standing, BeginsWith, Begins}
use Rattle.program_top.specs.Statuses.{status_of, ending_of}
use Rattle.program_top.specs.Stepped.{standing_of, Leaves, RunsNoted}
use Rattle.program_top.specs.declared.ending.Ending.{Ending}
use Rattle.saving_top.proofs.Short.{frames_short, front_short}
use Rattle.serving.specs.Served.{answered, quit, write_fault, no_memory, Served}
use Rattle.serving.specs.Timed.{Timed}
use Rattle.serving.specs.declared.ending.Ended.{Ended}

-- the turns of requests of short words are of short words
turns_short : (turns : List Turn) (last : ℕ) (clock : Option Answers) (asked : List Words) (last' : ℕ) (clock' : Option Answers) → Clocked last clock asked (calls_of turns) last' clock'
    → AllByRecursion AreShort asked → AllByRecursion IsShortTurn turns
turns_short [] last clock asked last' clock' c short = tt
turns_short (turn ∷ turns) last clock [] last' clock' c short = absurd c
turns_short (turn ∷ turns) last clock (words ∷ asked) last' clock' c short =
    (subst AreShort (sym c.3) short.0, turns_short turns turn.call.moment c.1 asked last' clock' c.5 short.1)

-- so a plain map that answers such requests keeps a fit world
answers_fit : (seed : ℕ) (first : Standing) (asked : List Words) (replies : List (List Part)) (last : Standing) → IsFit first.world → AllByRecursion AreShort asked
    → MayAnswer seed first asked replies last → IsFit last.world
answers_fit seed first asked replies last fit short m =
    runs_fit seed first.world m.turns last.world fit (turns_short m.turns first.last first.clock asked last.last last.clock m.clocked short) m.ran

-- a run begins with a fit world, that without a key or the file's
pub first_fit : (files : Files) (limit : ℕ) (file : Option (List ℕ)) (moment : ℕ) (world : World) → BeginsWith files limit file moment world → IsFit world
first_fit files limit None moment world is = subst IsFit (sym is) fit_new
first_fit files limit (Some name) moment world l = file_fit l.bytes moment world l.file

-- what is served to an end of status 0 leaves a fit world
module _ (options : Options) (first last : Standing) (fit : IsFit first.world) (input input' : SourceSeen) (old new : SinkSeen) (ended : Ended)
    (s : Served (may_answer options first) (may_answer options first) asks_to_quit options.max_input input input' old new last ended) where
  served_fit : status_of (ending_of ended) ≡ 0 → IsFit last.world
  served_fit zero = elim s.ends [
    | answered a by ↦ answers_fit options.seed first s.asked a.replies last fit short a.may
    | quit a is ↦ answers_fit options.seed first (a.front ++ a.quit ∷ []) a.replies last fit (front_short s.asked (a.front ++ a.quit ∷ []) a.others a.split short) a.may
    | write_fault a is ↦ absurd (omega (arith, zero, ap (λ e. status_of (ending_of e)) is))
    | no_memory a is ↦ absurd (omega (arith, zero, ap (λ e. status_of (ending_of e)) is))
  ]
    where
      short : AllByRecursion AreShort s.asked
      short = frames_short s.taken s.asked s.end s.frames

-- a run of status 0 leaves this world, which is fit
abbrev Left : World → Standing → Ended → Type 0
Left world last ended = world ≡ last.world

run_fit : (world : World) (options : Options) (before after : Outside) (ending : Ending) → RunsOptions Begins may_answer may_answer standing_clock (Left world) options before after ending
    → status_of ending ≡ 0 → IsFit world
run_fit world options before after ending (begun first last ended b host s reads is left) zero =
    let fit = first_fit before.host.files options.max_input options.file first.last first.world b.world in
    subst IsFit (sym left) (served_fit options first last fit before.input after.input before.output after.output ended s (ap status_of (sym is) ∙ zero))
run_fit world options before after ending (not_begun f) zero = absurd (omega (arith, zero, not_begun_status before.host.files options.max_input options.file f.moment ending f.why))

engine_left : (engine : Engine) (last : Timed Engine) (ended : Ended) → Leaves (Some engine) last ended → Left (world_of engine) (standing_of last) ended
engine_left engine last ended is = let same : engine ≡ last.engine = cc in ap world_of same

-- what the last engine of a run of status 0 holds is fit
pub left_fit : (options : Options) (before after : Outside) (ending : Ending) (left : Option Engine) (engine : Engine) → left ≡ Some engine
    → RunsNoted (Leaves left) (Run options) before after ending → status_of ending ≡ 0 → IsFit (world_of engine)
left_fit options before after ending left engine is n zero =
    let m : RunsNoted (Leaves (Some engine)) (Run options) before after ending = subst (λ l. RunsNoted (Leaves l) (Run options) before after ending) is n in
    run_fit (world_of engine) options before after ending (run_seen (Left (world_of engine)) (Leaves (Some engine)) (engine_left engine) options before after ending m.run) zero
