-- The commands of a history are one run.
use Rattle.std.proofs.Common.{◌≡◌, ℕ, ◌<◌, ◌≤◌, List, [], ◌∷◌, ◌++◌, map, flat_map, length, Bool, true, false, pos, Option, None, Some, Result, Ok, Err, refl, sym, ap, subst, ◌∙◌, arith, lt-ltb, eq-eqb, w64, FitsSigned}
use Rattle.std.specs.Prelude.{ℤ, if◌then◌else◌, codes}
use Rattle.std.specs.List.{AllByRecursion}
use Rattle.std.proofs.lemmas.List.{map-append}
use Rattle.outside.specs.Clocks.{Answers as ClockAnswers}
use Rattle.int_text.proofs.NumberOf.{number_back}
use Rattle.plain_world.specs.Words.{Words}
use Rattle.plain_world.specs.Worlds.{World, live, selecting}
use Rattle.plain_world.specs.declared.refusal.Refusal.{Refusal}
use Rattle.plain_world.specs.declared.refusal.Refusal.TheVariants as refusals
use Rattle.plain_world.specs.declared.reply.Part.{Part}
use Rattle.plain_world.specs.declared.reply.Part.TheVariants.{Simple, Array}
use Rattle.plain_world.proofs.Lives.{live_later}
use Rattle.plain_model.specs.Meant.{meant, asks_to_quit}
use Rattle.plain_model.specs.Shapes.{and_then, whole, database}
use Rattle.plain_model.specs.Steps.{step, may_meant}
use Rattle.plain_model.specs.Runs.{Call, Turn, calls_of, replies_of, run}
use Rattle.plain_model.specs.declared.command.Command.{Command}
use Rattle.plain_model.specs.declared.command.Command.TheVariants.{Connection}
use Rattle.plain_model.specs.declared.connection.ConnectionCommand.{ConnectionCommand}
use Rattle.plain_model.specs.declared.connection.ConnectionCommand.TheVariants.{Select}
use Rattle.plain_model.proofs.Covered.{runs_covered}
use Rattle.plain_sessions.specs.Arrivals.{Said, Asks, Breaks, Arrival}
use Rattle.plain_sessions.specs.Transactions.{Asked, Multi, Exec, Discard, Watch, Misnumbered, Common, asked_of, Session, begun, closed, queueing, spoiling, watching, sees, HasChanged, selected_after}
use Rattle.plain_sessions.specs.Transactions.{ok, queued, null_array, refused, Left, without_turn, called_at, run_in, wrong_words}
use Rattle.plain_sessions.specs.Transactions.{Runs, RunsOne, Executes, aborts, changed, runs_queue, queue_or_spoil, Queues, Answers}
use Rattle.plain_sessions.specs.Histories.{Room, Deed, DoesSaid, all_see, with_session, asking, Does, Times, select_words, select_turn, behind_select, turns_of, one_list}
use Rattle.plain_sessions.specs.Laws.{HistoriesAreRuns, HistoriesAreCovered, NullWhereChanged, IsPlain, call_said, OneSessionIsARun, MomentsNeverFall}

-- ---- runs, one behind the other

pub run_then : (seed : ℕ) (a b c : World) (xs ys : List Turn) → run seed a xs b → run seed b ys c → run seed a (xs ++ ys) c
run_then seed a b c [] ys p q = subst (λ w. run seed w ys c) p q
run_then seed a b c (x ∷ xs) ys p q = (p.0, p.1, p.2, run_then seed p.1 b c xs ys p.3 q)

-- ---- the selection of a database

-- what SELECT means, where the word behind it is read so
abbrev selects_read : Option ℤ → Result Command Refusal
selects_read n =
    let words : Result (ℕ × Unit {0}) Refusal = and_then (and_then (whole n) database) (λ (number : ℕ). Ok (number, tt)) in
    let command : Result ConnectionCommand Refusal = and_then words (λ a. Ok (Select a.0)) in
    and_then command (λ c. Ok (Connection c))

fits_small : (db : ℕ) → db < 16 → FitsSigned w64 (pos db)
fits_small db small = record { sfits = omega (arith, small) }

-- the number of a database is selected
selects_number : (db : ℕ) → db < 16 → selects_read (Some (pos db)) ≡ Ok (Connection (Select db))
selects_number db small =
    ap (λ b. let words : Result (ℕ × Unit {0}) Refusal = and_then (if b then Ok db else Err refusals.DatabaseOutOfRange) (λ (number : ℕ). Ok (number, tt)) in
    let command : Result ConnectionCommand Refusal = and_then words (λ a. Ok (Select a.0)) in
    let all : Result Command Refusal = and_then command (λ c. Ok (Connection c)) in all) (lt-ltb db 16 small)

pub selects_means : (db : ℕ) → db < 16 → meant (select_words db) ≡ Ok (Connection (Select db))
selects_means db small = ap selects_read (number_back (pos db) (fits_small db small)) ∙ selects_number db small

-- a selection is answered OK, and leaves the live world with this database selected
pub select_step : (seed : ℕ) (old : World) (moment db : ℕ) → db < 16 → step seed old moment (select_words db) (Simple (codes "OK") ∷ []) (selecting (live old moment) db)
select_step seed old moment db small =
    subst (λ m. may_meant seed (live old moment) moment m (Simple (codes "OK") ∷ []) (selecting (live old moment) db)) (sym (selects_means db small)) ((refl, refl), λ none. absurd none)

-- ---- what an arrival ran is a run

-- a list of one call
no_call : (call : Call) → (let l : List Call = [] in l) ≡ call ∷ [] → ⊥
no_call call e = cc

two_calls : (a b c : Call) (more : List Call) → a ∷ b ∷ more ≡ c ∷ [] → ⊥
two_calls a b c more e = cc

first_call : (a b : Call) (xs ys : List Call) → a ∷ xs ≡ b ∷ ys → a ≡ b
first_call a b xs ys e = cc

no_calls : (a : Call) (xs : List Call) → a ∷ xs ≡ [] → ⊥
no_calls a xs e = cc

-- the first of these turns is at this moment
first_moment : (moment : ℕ) (turn : Turn) (turns : List Turn) (asked : List Words) → calls_of (turn ∷ turns) ≡ map (called_at moment) asked → turn.call.moment ≡ moment
first_moment moment turn turns [] e = absurd (no_calls turn.call (calls_of turns) e)
first_moment moment turn turns (words ∷ asked) e =
    ap (λ c. c.moment) (first_call turn.call (called_at moment words) (calls_of turns) (map (called_at moment) asked) e)

-- turns that are run in a database are a run behind its selection
pub behind_selected : (seed moment db : ℕ) (old new : World) (turns : List Turn) (asked : List Words) → db < 16 → calls_of turns ≡ map (called_at moment) asked → run_in seed old db turns new
    → run seed old (behind_select (select_turn (live old moment) moment db) turns) new
behind_selected seed moment db old new [] asked small calls r = r
behind_selected seed moment db old new (turn ∷ turns) asked small calls r =
    let at : turn.call.moment ≡ moment = first_moment moment turn turns asked calls in
    let late : moment ≤ turn.call.moment = omega (arith, at) in
    let world : live (selecting old db) turn.call.moment ≡ live (selecting (live old moment) db) turn.call.moment = ap (λ w. selecting w db) (sym (live_later old moment turn.call.moment late)) in (
      refl,
      selecting (live old moment) db,
      select_step seed old moment db small,
      (r.0 ∙ world, r.1, subst (λ w. may_meant seed w turn.call.moment (meant turn.call.words) turn.reply r.1) world r.2, r.3),
    )

module _ (seed moment : ℕ) (old : World) (s : Session) (left : Left) where
  -- what was run is a run behind the selection of the session's database
  abbrev Ran : Type 0
  Ran = run seed old (behind_select (select_turn (live old moment) moment s.db) left.ran) left.world

  -- where nothing was run the world stays
  rested : (reply : List Part) (after : Session) → left ≡ without_turn old reply after → Ran
  rested reply after e = subst (λ (l : Left). run seed old (behind_select (select_turn (live old moment) moment s.db) l.ran) l.world) (sym e) refl

  -- what was run in its database is one
  runs_ran : (asked : List Words) (behind : Session) → Runs seed moment old s asked behind left → Ran
  runs_ran asked behind r = behind_selected seed moment s.db old left.world left.ran asked r.known r.calls r.ran

  queued_ran : (queue : List Words) (words : Words) (wrong : Option Refusal) → left ≡ queue_or_spoil seed moment old s queue words wrong → Ran
  queued_ran queue words None e = rested queued (queueing s (queue ++ words ∷ [])) e
  queued_ran queue words (Some refusal) e = rested (refused refusal) (spoiling s) e

  inside_ran : (queue : List Words) (words : Words) (quits : Bool) → Queues seed moment old s queue words quits left → Ran
  inside_ran queue words true r = runs_ran (words ∷ []) s r.runs
  inside_ran queue words false e = queued_ran queue words (wrong_words (meant words)) e

  exec_ran : (queue : List Words) → Executes seed moment old s queue left → Ran
  exec_ran queue (aborts spoilt e) = rested (refused refusals.ExecAbort) (closed s) e
  exec_ran queue (changed fine c e) = rested null_array (closed s) e
  exec_ran queue (runs_queue fine same r reply) = runs_ran queue (closed s) r

  answers_ran : (queue : Option (List Words)) (words : Words) (asked : Asked) → Answers seed moment old s queue words asked left → Ran
  answers_ran None words Multi e = rested ok (begun s) e
  answers_ran None words Exec e = rested (refused refusals.ExecWithoutMulti) s e
  answers_ran None words Discard e = rested (refused refusals.DiscardWithoutMulti) s e
  answers_ran None words (Watch keys) e = rested ok (watching (live old moment) keys s) e
  answers_ran None words Misnumbered e = rested (refused refusals.WrongNumberOfArguments) s e
  answers_ran None words Common r = runs_ran (words ∷ []) s r.runs
  answers_ran (Some queue) words Multi e = rested (refused refusals.NestedMulti) s e
  answers_ran (Some queue) words Exec r = exec_ran queue r
  answers_ran (Some queue) words Discard e = rested ok (closed s) e
  answers_ran (Some queue) words (Watch keys) e = rested (refused refusals.WatchInsideMulti) s e
  answers_ran (Some queue) words Misnumbered e = rested (refused refusals.WrongNumberOfArguments) (spoiling s) e
  answers_ran (Some queue) words Common r = inside_ran queue words (asks_to_quit words) r

  said_ran : (said : Said) → DoesSaid seed moment old s said left → Ran
  said_ran (Asks words) r = answers_ran s.queue words (asked_of words) r
  said_ran (Breaks rule at) e = rested [] s e

deed_ran : (seed : ℕ) (old : Room) (deed : Deed) (new : Room) → Does seed old deed new → run seed old.world (turns_of deed) new.world
deed_ran seed old deed new d =
    let r = said_ran seed deed.moment old.world (asking old deed) deed.left deed.arrival.said d.does in
    let world : deed.left.world ≡ new.world = sym (ap (λ r. r.world) d.leaves) in
    let R : World → ℕ → Type 0 = λ found db. run seed old.world (behind_select (select_turn found deed.moment db) deed.left.ran) deed.left.world in
    subst (run seed old.world (turns_of deed)) world
    (subst (R deed.found) (sym d.selected) (subst (λ found. R found (asking old deed).db) (sym d.found) r))

pub histories_run : HistoriesAreRuns
histories_run seed old [] new h = ap (λ r. r.world) h
histories_run seed old (deed ∷ deeds) new h =
    run_then seed old.world h.0.world new.world (turns_of deed) (one_list deeds) (deed_ran seed old deed h.0 h.1) (histories_run seed h.0 deeds new h.2)

pub histories_covered : HistoriesAreCovered
histories_covered seed old deeds new h = runs_covered seed old.world (one_list deeds) new.world (histories_run seed old deeds new h)

-- ---- EXEC

array_not_null : (n : ℕ) (parts : List Part) → Array n ∷ parts ≡ null_array → ⊥
array_not_null n parts e = cc

exec_null : (seed moment : ℕ) (old : World) (s : Session) (left : Left) (queue : List Words) → s.spoilt ≡ false → Executes seed moment old s queue left
    → (HasChanged s.watched → left.reply ≡ null_array) × (left.reply ≡ null_array → HasChanged s.watched)
exec_null seed moment old s left queue fine (aborts spoilt e) = absurd (let no : true ≡ false = sym spoilt ∙ fine in cc)
exec_null seed moment old s left queue fine (changed f c e) = (λ h. ap (λ l. l.reply) e, λ h. c)
exec_null seed moment old s left queue fine (runs_queue f same r reply) =
    (λ h. absurd (same h), λ h. absurd (array_not_null (length (replies_of left.ran)) (flat_map (λ (reply : List Part). reply) (replies_of left.ran)) (sym reply ∙ h)))

pub null_where_changed : NullWhereChanged
null_where_changed seed old deed new d a =
    let s = asking old deed in
    let does : DoesSaid seed deed.moment old.world s (Asks a.words) deed.left = subst (λ said. DoesSaid seed deed.moment old.world s said deed.left) a.asks d.does in
    let inside : Answers seed deed.moment old.world s (Some a.queue) a.words (asked_of a.words) deed.left =
    subst (λ q. Answers seed deed.moment old.world s q a.words (asked_of a.words) deed.left) a.inside does in
    let exec : Executes seed deed.moment old.world s a.queue deed.left = subst (λ asked. Answers seed deed.moment old.world s (Some a.queue) a.words asked deed.left) a.exec inside in
    exec_null seed deed.moment old.world s deed.left a.queue a.fine exec

-- ---- one session that asks for plain commands

-- what is run in the database that is selected already is a run
pub selected_already : (seed : ℕ) (old new : World) (turns : List Turn) → run_in seed old old.selected turns new → run seed old turns new
selected_already seed old new [] r = r
selected_already seed old new (turn ∷ turns) r = r

-- one command that an arrival ran, and the database that it leaves selected
record RanOne (seed : ℕ) (old : World) (call : Call) (left : Left) : Type 0 where
  calls : calls_of left.ran ≡ call ∷ []
  ran : run seed old left.ran left.world
  reply : replies_of left.ran ≡ left.reply ∷ []
  db : left.session.db ≡ left.world.selected
  queue : left.session.queue ≡ None

module _ (seed moment : ℕ) (old : World) (s : Session) (words : Words) (left : Left) (none : s.queue ≡ None) (same : s.db ≡ old.selected) (r : RunsOne seed moment old s words left) where
  ran_turns : (turns : List Turn) → left.ran ≡ turns → calls_of turns ≡ called_at moment words ∷ [] → RanOne seed old (called_at moment words) left
  ran_turns [] e c = absurd (no_call (called_at moment words) c)
  ran_turns (turn ∷ other ∷ turns) e c = absurd (two_calls turn.call other.call (called_at moment words) (calls_of turns) c)
  ran_turns (turn ∷ []) e c =
      let session : left.session ≡ selected_after s (turn ∷ []) left.world = r.runs.session ∙ ap (λ l. selected_after s l left.world) e in
      record {
        calls = ap calls_of e ∙ c;
        ran = selected_already seed old left.world left.ran (subst (λ db. run_in seed old db left.ran left.world) same r.runs.ran);
        reply = r.reply;
        db = ap (λ t. t.db) session;
        queue = ap (λ t. t.queue) session ∙ none;
      }

  ran_one : RanOne seed old (called_at moment words) left
  ran_one = ran_turns left.ran refl r.runs.calls

-- one of the sessions
with_own : (sessions : ℕ → Session) (number : ℕ) (s : Session) → with_session sessions number s number ≡ s
with_own sessions number s = ap (λ b. if b then s else sessions number) (eq-eqb number number refl)

-- a plain deed of the session ran one command, and its database is the selected one behind it
record PlainDeed (seed number : ℕ) (old : Room) (deed : Deed) (new : Room) : Type 0 where
  calls : calls_of deed.left.ran ≡ call_said deed.moment deed.arrival.said
  ran : run seed old.world deed.left.ran new.world
  reply : replies_of deed.left.ran ≡ deed.left.reply ∷ []
  queue : (new.sessions number).queue ≡ None
  db : (new.sessions number).db ≡ new.world.selected

plain_deed : (seed number : ℕ) (old : Room) (deed : Deed) (new : Room) → Does seed old deed new → (old.sessions number).queue ≡ None → (old.sessions number).db ≡ old.world.selected
    → IsPlain number deed → PlainDeed seed number old deed new
plain_deed seed number old deed new d none same p =
    let s : Session = sees deed.found (old.sessions number) in
    let before = all_see deed.found old.sessions in
    let does : DoesSaid seed deed.moment old.world s (Asks p.words) deed.left =
    subst (λ (a : Arrival). DoesSaid seed deed.moment old.world (sees deed.found (old.sessions a.session)) a.said deed.left) p.asks d.does in
    let outside : Answers seed deed.moment old.world s None p.words (asked_of p.words) deed.left =
    subst (λ q. Answers seed deed.moment old.world s q p.words (asked_of p.words) deed.left) none does in
    let one : RunsOne seed deed.moment old.world s p.words deed.left =
    subst (λ a. Answers seed deed.moment old.world s None p.words a deed.left) p.common outside in
    let r = ran_one seed deed.moment old.world s p.words deed.left none same one in
    let world : new.world ≡ deed.left.world = ap (λ t. t.world) d.leaves in
    let session : (new.sessions number).db ≡ deed.left.session.db =
    ap (λ (t : Room). (t.sessions number).db) d.leaves ∙ ap (λ (a : Arrival). (with_session before a.session deed.left.session number).db) p.asks
    ∙ ap (λ t. t.db) (with_own before number deed.left.session) in
    let kept : (new.sessions number).queue ≡ deed.left.session.queue =
    ap (λ (t : Room). (t.sessions number).queue) d.leaves ∙ ap (λ (a : Arrival). (with_session before a.session deed.left.session number).queue) p.asks
    ∙ ap (λ t. t.queue) (with_own before number deed.left.session) in
    record {
      calls = r.calls ∙ sym (ap (λ (a : Arrival). call_said deed.moment a.said) p.asks);
      ran = subst (run seed old.world deed.left.ran) (sym world) r.ran;
      reply = r.reply;
      queue = kept ∙ r.queue;
      db = session ∙ r.db ∙ sym (ap (λ w. w.selected) world);
    }

pub one_session : OneSessionIsARun
one_session seed number old [] new h none same p = record { turns = []; calls = refl; replies = refl; ran = ap (λ r. r.world) h }
one_session seed number old (deed ∷ deeds) new h none same p =
    let d = plain_deed seed number old deed h.0 h.1 none same p.0 in
    let rest = one_session seed number h.0 deeds new h.2 d.queue d.db p.1 in
    record {
      turns = deed.left.ran ++ rest.turns;
      calls = map-append (λ t. t.call) deed.left.ran rest.turns ∙ ap (λ l. l ++ calls_of rest.turns) d.calls ∙ ap (λ l. call_said deed.moment deed.arrival.said ++ l) rest.calls;
      replies = ap (λ l. deed.left.reply ∷ l) rest.replies ∙ sym (ap (λ l. l ++ replies_of rest.turns) d.reply) ∙ sym (map-append (λ t. t.reply) deed.left.ran rest.turns);
      ran = run_then seed old.world h.0.world new.world deed.left.ran rest.turns d.ran rest.ran;
    }

-- ---- moments

-- what a stretch of time holds, a longer one holds
wider : (a b c d : ℕ) (deeds : List Deed) → a ≤ b → c ≤ d → AllByRecursion (λ (deed : Deed). (b ≤ deed.moment) × (deed.moment ≤ c)) deeds → AllByRecursion (λ (deed : Deed). (a ≤ deed.moment) × (deed.moment ≤ d)) deeds
wider a b c d [] p q all = tt
wider a b c d (deed ∷ deeds) p q all =
    let low = all.0.0 in
    let high = all.0.1 in
    ((omega (arith, p, low), omega (arith, high, q)), wider a b c d deeds p q all.1)

never_before : (last moment : ℕ) (clock clock' : Option ClockAnswers) (said : Said) → Times last clock said moment clock' → last ≤ moment
never_before last moment clock clock' (Asks words) t =
    let is = t.2 in
    grind arith
never_before last moment clock clock' (Breaks rule at) t = let is = t.0 in omega (arith, is)

pub moments_rise : MomentsNeverFall
moments_rise last last' clock clock' [] t = let is = t.0 in (omega (arith, is), tt)
moments_rise last last' clock clock' (deed ∷ deeds) t =
    let first = never_before last deed.moment clock t.0 deed.arrival.said t.1 in
    let rest = moments_rise deed.moment last' t.0 clock' deeds t.2 in
    let later = rest.0 in
    (omega (arith, first, later), ((first, later), wider last deed.moment last' last' deeds first (omega arith) rest.1))
