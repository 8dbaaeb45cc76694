-- The worlds on the way of generated commands are those of a run.
use Rattle.std.proofs.Common.{◌≡◌, ℕ, ◌+◌, ◌≤◌, List, [], ◌∷◌, zero, suc, length, map, pos, Option, Some, None, Result, Ok, refl, sym, ap, ◌∙◌, subst, arith}
use Rattle.std.specs.Prelude.{ℤ, bytes_eq, ◌&&◌, if◌then◌else◌}
use Rattle.std.specs.FinMap.{len}
use Rattle.class_heap.specs.Heap.{heap_blocks, heap_slabs, IsClassHeapStep}
use Rattle.digests.specs.Crc.{crc_of}
use Rattle.generator.specs.Commands.{commands_after, commands}
use Rattle.generator.specs.Generated.{Paced, Generates, way, selects_first, asks_size}
use Rattle.generator.specs.Laws.{numbered}
use Rattle.generator.specs.Lines.{three_lines}
use Rattle.generator.proofs.Exact.{runs_one}
use Rattle.int_text.specs.Decimal.{number_of, is_i64}
use Rattle.keyspace.specs.Databases.{means}
use Rattle.object_codec.specs.declared.limits.Limits.{Limits}
use Rattle.outside.specs.Pacing.{PacerSeen, tuned}
use Rattle.outside.specs.Streams.{SinkSeen}
use Rattle.outside.specs.declared.pacing.Plan.{Plan}
use Rattle.plain_model.specs.Runs.{Turn, run, calls_of, replies_of}
use Rattle.plain_model.specs.Meant.{meant}
use Rattle.plain_model.specs.Shapes.{and_then, whole, database}
use Rattle.plain_model.specs.Steps.{step, may_meant}
use Rattle.plain_model.specs.declared.command.Command.{Command}
use Rattle.plain_model.specs.declared.command.Command.TheVariants.{Connection}
use Rattle.plain_model.specs.declared.connection.ConnectionCommand.{ConnectionCommand}
use Rattle.plain_model.specs.declared.connection.ConnectionCommand.TheVariants.{Select}
use Rattle.plain_world.proofs.Lives.{live_twice}
use Rattle.plain_world.proofs.Numerals.{zero_text}
use Rattle.plain_world.specs.Spelling.{spelled}
use Rattle.plain_world.specs.Words.{Words}
use Rattle.plain_world.specs.Worlds.{World, Database, new_world, live, live_keys, selecting}
use Rattle.plain_world.specs.declared.reply.Part.{Part}
use Rattle.plain_world.specs.declared.refusal.Refusal.{Refusal}
use Rattle.plain_world.specs.declared.reply.Part.TheVariants.{Number}
use Rattle.rdb_reader.proofs.Living.{new_live}
use Rattle.redis_core.proofs.Steps.{executes_step}
use Rattle.redis_core.specs.Background.{EngineRests}
use Rattle.redis_core.specs.Engines.{Executes}
use Rattle.redis_core.specs.declared.background.StepsDone.{StepsDone}
use Rattle.resp_frames.specs.Puts.{PutsAll, PutsFront}
use Rattle.program_top.specs.Engines.{Engine, world_of, works, Begun}
use Rattle.program_top.specs.Generating as generating
use Rattle.program_top.specs.Generating.{MayGenerate, may_generate, LinesAreOne, IsCount, GeneratesOn, Writes}
use Rattle.program_top.specs.Given.{Options}
use Rattle.program_top.specs.declared.ending.Ending.{Ending}
use Rattle.program_top.specs.declared.ending.Ending.TheVariants as endings

-- what is planned leaves what the engine holds at the moment that it used last
pub worked_world : (moment : ℕ) (plan : Plan) (old new : Engine) (done : StepsDone) → EngineRests heap_blocks heap_slabs IsClassHeapStep moment plan old new done → new.last ≡ old.last
    → world_of new ≡ world_of old
worked_world moment plan old new done r same =
    r.works.stays new.selected new.last (omega arith)
    ∙ ap (λ number. live (means number old.bases (heap_blocks old.store)) new.last) r.selected
    ∙ ap (λ last. live (means old.selected old.bases (heap_blocks old.store)) last) same

-- the engine answers a request, and does what is planned
abbrev answers : ℕ → Engine → Words → List Part → Engine → Type 0
answers = Executes heap_blocks heap_slabs IsClassHeapStep

-- the commands of an engine's way are a run of the model on what it holds, each at the moment of its number
record Ran (seed before : ℕ) (first : Engine) (asked : List Words) (replies : List (List Part)) (last : Engine) : Type 0 where
  turns : List Turn
  calls : calls_of turns ≡ numbered before asked
  are : replies_of turns ≡ replies
  ran : run seed (world_of first) turns (world_of last)
  moment : last.last ≡ before + length asked

nothing_more : (before : ℕ) → before ≡ before + 0
nothing_more before = omega arith

one_less : (before n : ℕ) → suc before + n ≡ before + suc n
one_less before n = omega arith

way_ran : (seed before : ℕ) (asked : List Words) (replies : List (List Part)) (first last : Paced Engine) → first.engine.bases.seed ≡ seed → first.engine.last ≡ before
    → way answers works before first asked replies last → Ran seed before first.engine asked replies last.engine
way_ran seed before [] [] first last same moment w = record {
  turns = [];
  calls = refl;
  are = refl;
  ran = ap (λ p. world_of p.engine) w;
  moment = ap (λ p. p.engine.last) w ∙ moment ∙ nothing_more before;
}
way_ran seed before [] (reply ∷ replies) first last same moment w = absurd w
way_ran seed before (words ∷ asked) [] first last same moment w = absurd w
way_ran seed before (words ∷ asked) (reply ∷ replies) first last same moment w =
    let next : Paced Engine = w.0 in
    let a = w.1 in
    let mid : Engine = a.mid in
    let r = a.rests.done.1 in
    let at : mid.last ≡ suc before = omega (arith, a.answers.last, moment) in
    let still : next.engine.last ≡ mid.last = omega (arith, r.last, at) in
    let after : next.engine.last ≡ suc before = still ∙ at in
    let seed_next : next.engine.bases.seed ≡ seed = r.works.seed ∙ a.answers.answers.stands.settings.seed ∙ same in
    let rest = way_ran seed (suc before) asked replies next last seed_next after w.2 in
    let world : world_of next.engine ≡ world_of mid = worked_world (suc before) a.rests.plan mid next.engine a.rests.done.0 r still in
    let one : step first.engine.bases.seed (world_of first.engine) mid.last words reply (world_of mid) =
    executes_step heap_blocks heap_slabs IsClassHeapStep (suc before) first.engine words reply mid a.answers in
    let S : ℕ → Type 0 = λ s. step s (world_of first.engine) mid.last words reply (world_of mid) in
    let M : ℕ → Type 0 = λ m. step seed (world_of first.engine) m words reply (world_of mid) in
    let W : World → Type 0 = λ v. step seed (world_of first.engine) (suc before) words reply v in
    record {
      turns = record { call = record { words = words; moment = suc before }; seen = live (world_of first.engine) (suc before); reply = reply } ∷ rest.turns;
      calls = ap (λ l. record { words = words; moment = suc before } ∷ l) rest.calls;
      are = ap (λ l. reply ∷ l) rest.are;
      ran = (refl, world_of next.engine, subst W (sym world) (subst M at (subst S same one)), rest.ran);
      moment = rest.moment ∙ one_less before (length asked);
    }

-- so many commands are so many
many_commands : (seed before n : ℕ) → length (commands_after seed before n) ≡ n
many_commands seed before zero = refl
many_commands seed before (suc n) = ap suc (many_commands seed (suc before) n)

behind_all : (moment many n : ℕ) → moment ≡ 0 + many → many ≡ n → moment ≡ n
behind_all moment many n a b = omega (arith, a, b)

-- an engine without a key holds the world of a server that was just begun
first_world : (seed : ℕ) (limits : Limits) (engine : Engine) → Begun seed limits engine → world_of engine ≡ new_world
first_world seed limits engine b =
    ap (λ db. live (means db engine.bases (heap_blocks engine.store)) engine.last) b.new.selected
    ∙ ap (λ w. live w engine.last) b.new.empty
    ∙ new_live engine.last

-- the text of 0 is read as 0
zero_read : number_of (48 ∷ []) ≡ Some (pos 0)
zero_read = ap (λ text. if bytes_eq text (48 ∷ []) && is_i64 (pos 0) then Some (pos 0) else None) zero_text

-- what SELECT means, where the word behind it is read so
abbrev selects_read : Option ℤ → Result Command Refusal
selects_read n =
    let words : Result (ℕ × Unit {0}) Refusal = and_then (and_then (whole n) database) (λ (number : ℕ). Ok (number, tt)) in
    let command : Result ConnectionCommand Refusal = and_then words (λ a. Ok (Select a.0)) in
    and_then command (λ c. Ok (Connection c))

selects_means : meant selects_first ≡ Ok (Connection (Select 0))
selects_means = ap selects_read zero_read

-- what SELECT 0 leaves
select_leaves : (moment : ℕ) (old new : Engine) (reply : List Part) → answers moment old selects_first reply new → world_of new ≡ selecting (live (world_of old) new.last) 0
select_leaves moment old new reply a =
    let one = executes_step heap_blocks heap_slabs IsClassHeapStep moment old selects_first reply new a in
    let X : Result Command Refusal → Type 0 = λ m. may_meant old.bases.seed (live (world_of old) new.last) new.last m reply (world_of new) in
    (subst X selects_means one).0.1

-- what DBSIZE answers
abbrev size_at : World → ℕ → ℕ
size_at world moment = len ((live world moment).bases (live world moment).selected)

size_is : (moment : ℕ) (old new : Engine) (reply : List Part) → answers moment old asks_size reply new → reply ≡ Number (pos (size_at (world_of old) new.last)) ∷ []
size_is moment old new reply a = (executes_step heap_blocks heap_slabs IsClassHeapStep moment old asks_size reply new a).0.0

pub is_count : (seed n sum : ℕ) (first : Paced Engine) (last : Engine) (size : List Part) → Generates answers works seed n first last size sum → IsCount size
is_count seed n sum first last size g = record { n = size_at (world_of g.asks.mid) last.last; is = size_is n g.asks.mid last size g.asks.asks }

-- the number of keys of database 0 that are there, behind a selection of it
size_selected : (world other : World) (moment : ℕ) → other ≡ selecting (live world moment) 0 → size_at other moment ≡ len (live_keys (world.bases 0) moment)
size_selected world other moment is =
    let S : World → ℕ = λ w. size_at w moment in
    let L : Database → ℕ = λ base. len base in
    let late : moment ≤ moment = omega arith in
    ap S is ∙ ap L (live_twice (world.bases 0) moment moment late)

number_same : (a b : ℕ) → Number (pos a) ∷ [] ≡ Number (pos b) ∷ [] → a ≡ b
number_same a b e = cc

lines_same : (n keys other sum also : ℕ) → keys ≡ other → sum ≡ also → three_lines n keys sum ≡ three_lines n other also
lines_same n keys other sum also a b =
    let K : ℕ → List ℕ = λ k. three_lines n k sum in
    let S : ℕ → List ℕ = λ s. three_lines n other s in
    ap K a ∙ ap S b

-- the lines of an engine are those that a plain map may have
generates_seen : (options : Options) (n : ℕ) (pacers : List PacerSeen) (lines : List ℕ) → GeneratesOn options n pacers lines → may_generate options n pacers lines
generates_seen options n pacers lines g =
    let r = way_ran options.seed 0 (commands options.seed n) g.generates.replies _ g.generates.last g.begun.first.seed_is g.begun.new.last g.generates.went in
    let last : Engine = g.generates.last.engine in
    let mid : Engine = g.generates.asks.mid in
    let at : last.last ≡ n = behind_all last.last (length (commands options.seed n)) n r.moment (many_commands options.seed 0 n) in
    let mid_at : mid.last ≡ n = omega (arith, g.generates.asks.selects.last, at) in
    let end_at : g.last.last ≡ n = omega (arith, g.generates.asks.asks.last, mid_at) in
    let world : world_of mid ≡ selecting (live (world_of last) n) 0 = select_leaves n last mid g.generates.asks.chosen g.generates.asks.selects
    ∙ ap (λ m. selecting (live (world_of last) m) 0) mid_at in
    let told : g.keys ≡ size_at (world_of mid) g.last.last = number_same _ _ (size_is n mid g.last _ g.generates.asks.asks) in
    let keys : g.keys ≡ len (live_keys ((world_of last).bases 0) n) = told ∙ ap (size_at (world_of mid)) end_at ∙ size_selected (world_of last) (world_of mid) n world in
    record {
      turns = r.turns;
      last = world_of last;
      asked = r.calls;
      ran = subst (λ w. run options.seed w r.turns (world_of last)) (first_world options.seed options.limits g.first g.begun) r.ran;
      are = g.are ∙ lines_same n g.keys _ g.sum _ keys (g.generates.sum ∙ ap (λ l. crc_of 0 (spelled l)) (sym r.are));
    }

-- what is written of an engine's lines is written of a plain map's
pub writes_seen : (options : Options) (n : ℕ) (pacers : List PacerSeen) (old new : SinkSeen) (ending : Ending) → Writes (GeneratesOn options n pacers) old new ending
    → Writes (may_generate options n pacers) old new ending
writes_seen options n pacers old new ending (generating.all lines l put is) = generating.all lines (generates_seen options n pacers lines l) put is
writes_seen options n pacers old new ending (generating.front lines l put is) = generating.front lines (generates_seen options n pacers lines l) put is
writes_seen options n pacers old new ending (generating.none same is) = generating.none same is

-- the lines of an engine, where the reply to DBSIZE is this number
pub generates_on : (options : Options) (n : ℕ) (pacers : List PacerSeen) (paced : List PacerSeen) (lines : List ℕ) (first last : Engine) (size : List Part) (keys sum : ℕ)
    → Begun options.seed options.limits first → paced ≡ map (λ p. tuned p options.effort) pacers
    → Generates answers works options.seed n (record { engine = first; pacers = paced }) last size sum → size ≡ Number (pos keys) ∷ [] → lines ≡ three_lines n keys sum
    → GeneratesOn options n pacers lines
generates_on options n pacers paced lines first last size keys sum b p g s are =
    let G : List Part → Type 0 = λ r. Generates answers works options.seed n (record { engine = first; pacers = paced }) last r sum in
    let Q : List PacerSeen → Type 0 = λ l. Generates answers works options.seed n (record { engine = first; pacers = l }) last (Number (pos keys) ∷ []) sum in
    record { first = first; begun = b; last = last; keys = keys; sum = sum; generates = subst Q p (subst G s g); are = are }

-- the lines of so many commands of a seed are one text
pub lines_one : LinesAreOne
lines_one seed n lines others a b =
    let same = runs_one n seed new_world a.turns b.turns a.last b.last a.asked b.asked a.ran b.ran in
    let T : List Turn → List ℕ = λ t. three_lines n (len (live_keys (a.last.bases 0) n)) (crc_of 0 (spelled (replies_of t))) in
    let W : World → List ℕ = λ w. three_lines n (len (live_keys (w.bases 0) n)) (crc_of 0 (spelled (replies_of b.turns))) in
    a.are ∙ ap T same.0 ∙ ap W same.1 ∙ sym b.are

-- the lines were put, or a front of them
pub wrote_all : (Lines : List ℕ → Type 0) (old new : SinkSeen) (lines bytes : List ℕ) → Lines lines → bytes ≡ lines → PutsAll old new bytes → Writes Lines old new endings.Whole
wrote_all Lines old new lines bytes l same put = let P : List ℕ → Type 0 = λ b. PutsAll old new b in generating.all lines l (subst P same put) refl

pub wrote_front : (Lines : List ℕ → Type 0) (old new : SinkSeen) (lines bytes : List ℕ) → Lines lines → bytes ≡ lines → PutsFront old new bytes → Writes Lines old new endings.WriteFault
wrote_front Lines old new lines bytes l same put = let P : List ℕ → Type 0 = λ b. PutsFront old new b in generating.front lines l (subst P same put) refl
