-- What a desk does is a deed in a plain room.
use Rattle.std.proofs.Common.{◌≡◌, ℕ, ◌<◌, ◌≤◌, max, Bool, true, false, List, [], ◌∷◌, ◌++◌, map, Option, None, Some, refl, sym, ap, ◌∙◌, subst, arith}
use Rattle.std.specs.Prelude.{◌==◌}
use Rattle.std.specs.List.{AllByRecursion}
use Rattle.std.proofs.lemmas.Bool.{cond-true, cond-false, eqb-true}
use Rattle.std.proofs.lemmas.List.{map-append}
use Rattle.outside.specs.declared.pacing.Plan.{Plan}
use Rattle.plain_world.specs.Words.{Words, IsRequest}
use Rattle.plain_world.specs.Worlds.{World, live, look, look_in, selecting}
use Rattle.plain_world.specs.declared.refusal.Refusal.{Refusal}
use Rattle.plain_world.specs.declared.reply.Part.{Part}
use Rattle.plain_model.specs.Meant.{meant, asks_to_quit}
use Rattle.plain_model.specs.Runs.{Turn, calls_of, replies_of, run}
use Rattle.plain_model.specs.Steps.{step, may_meant}
use Rattle.plain_sessions.specs.Arrivals.{Asks, Breaks, arrival}
use Rattle.plain_sessions.specs.Transactions as plain
use Rattle.plain_sessions.specs.Transactions.{Asked, Multi, Exec, Discard, Watch, Misnumbered, Common, asked_of, Session, HasChanged, Left, without_turn, called_at, run_in, sees, selected_after, wrong_words}
use Rattle.plain_sessions.specs.Histories.{Room, Deed, Does, all_see, with_session}
use Rattle.resp_frames.specs.declared.rule.Rule.{Rule}
use Rattle.request_queue.specs.Queued.{AreQueued}
use Rattle.resp_frames.specs.Frames.{request_bytes}
use Rattle.serving.specs.Path.{path}
use Rattle.session_desk.specs.Engines.{View, seen, IsModelled, IsRest}
use Rattle.session_desk.specs.Kept as desk
use Rattle.session_desk.specs.Kept.{Look, Kept, with_kept, session_at, DeskSeen}
use Rattle.session_desk.specs.Watching.{watch, HasMoved, IsStill, Reviews}
use Rattle.session_desk.specs.Answered as answered
use Rattle.session_desk.specs.Answered.{Came, aborts, changed, runs_queue}
use Rattle.session_desk.specs.Desks.{Glances, DeskAnswers, DeskRests}
use Rattle.session_desk.specs.Rooms.{SameWatches, SameQueue, SameSession, Holds, StandsAs, IsDeed}
use Rattle.session_desk.proofs.Looking.{all_aged, all_glanced, all_anew, moved_changed, still_unchanged, elsewhere}

-- turns that follow one another from a world do so from one that holds the same at the first one's moment
run_from : (seed : ℕ) (A B : World) (turn : Turn) (more : List Turn) (new : World) → live A turn.call.moment ≡ live B turn.call.moment → run seed A (turn ∷ more) new → run seed B (turn ∷ more) new
run_from seed A B turn more new e r =
    (r.0 ∙ e, r.1, subst (λ w. may_meant seed w turn.call.moment (meant turn.call.words) turn.reply r.1) e r.2, r.3)

all_more : {A : Type 0} (P : A → Type 0) (xs : List A) (x : A) → AllByRecursion P xs → P x → AllByRecursion P (xs ++ x ∷ [])
all_more P [] x all p = (p, tt)
all_more P (y ∷ xs) x all p = (all.0, all_more P xs x all.1 p)

-- one request more is queued
pub one_more : (kept : List (List ℕ)) (asked : List Words) (words : Words) → AreQueued kept asked → IsRequest words → AreQueued (kept ++ request_bytes words ∷ []) (asked ++ words ∷ [])
one_more kept asked words q request = record {
  are = ap (λ l. l ++ request_bytes words ∷ []) q.are ∙ sym (map-append request_bytes asked (words ∷ []));
  each = all_more IsRequest asked words q.each request;
}

-- what a broken rule comes to
pub record IsBreak {E : Type 0} (v : View E) (moment : ℕ) (desk : DeskSeen E) (room : Room) (number : ℕ) (rule : Rule) (at : ℕ) : Type 0 where
  pub deed : Deed
  pub room' : Room
  pub is : deed.arrival ≡ arrival number (Breaks rule at)
  pub moment_is : deed.moment ≡ moment
  pub reply_is : deed.left.reply ≡ []
  pub does : (seed : ℕ) → Does seed room deed room'
  pub stands : StandsAs v moment desk room'

module _ {E : Type 0} (v : View E) (executes : ℕ → E → Words → List Part → E → Type 0) (works : ℕ → Plan → E → E → Type 0) (quits : Words → Bool) (modelled : IsModelled v executes works quits) where
  -- looks at what a world and an engine hold
  looks_alike : (R : World) (engine : E) (moment : ℕ) → Holds v moment R engine → (db : ℕ) (key : List ℕ) → look_in (live R moment) db key ≡ seen v moment engine db key
  looks_alike R engine moment holds db key = ap (λ w. look w key) (holds moment db (omega arith))

  -- requests that were run one behind the other
  record Ran (moment : ℕ) (first : E) (asked : List Words) (replies : List (List Part)) (last : E) : Type 0 where
    turns : List Turn
    calls : calls_of turns ≡ map (called_at moment) asked
    are : replies_of turns ≡ replies
    ran : run (v.seed first) (v.world first) turns (v.world last)
    seed_is : v.seed last ≡ v.seed first
    late : v.last last ≤ moment
    within : (v.world first).selected < 16 → (v.world last).selected < 16

  -- each at the same moment, which isn't before the last one
  path_ran : (given moment : ℕ) (asked : List Words) (replies : List (List Part)) (first last : E) → max (v.last first) given ≡ moment
      → path (executes given) first asked replies last → Ran moment first asked replies last
  path_ran given moment [] [] first last at p = record {
    turns = [];
    calls = refl;
    are = refl;
    ran = ap v.world p;
    seed_is = ap v.seed p;
    late = let same : v.last last ≡ v.last first = ap v.last p in omega (arith, same, at);
    within = λ known. subst (λ (e : E). (v.world e).selected < 16) (sym p) known;
  }
  path_ran given moment [] (reply ∷ replies) first last at p = absurd p
  path_ran given moment (words ∷ asked) [] first last at p = absurd p
  path_ran given moment (words ∷ asked) (reply ∷ replies) first last at p =
      let mid : E = p.0 in
      let one = modelled.steps given first words reply mid p.1 in
      let now : v.last mid ≡ moment = one.at ∙ at in
      let next = path_ran given moment asked replies mid last (omega (arith, now, at)) p.2 in
      let S : ℕ → Type 0 = λ s. run s (v.world mid) next.turns (v.world last) in
      record {
        turns = record { call = called_at moment words; seen = live (v.world first) moment; reply = reply } ∷ next.turns;
        calls = ap (λ l. called_at moment words ∷ l) next.calls;
        are = ap (λ l. reply ∷ l) next.are;
        ran = (refl, v.world mid, subst (λ m. step (v.seed first) (v.world first) m words reply (v.world mid)) now one.ran, subst S one.same_seed next.ran);
        seed_is = next.seed_is ∙ one.same_seed;
        late = next.late;
        within = λ known. next.within one.within;
      }

  -- ---- one request

  -- at a moment that is the later of the one given and the last one used, of an engine and a world that holds the same, of
  -- what is kept of a session and the session that it is
  module _ (given moment : ℕ) (R : World) (engine : E) (kept : Kept) (s : Session) (at : max (v.last engine) given ≡ moment) (holds : Holds v moment R engine)
      (same : SameSession (seen v moment engine) moment kept s)
      (moved : HasMoved (seen v moment engine) kept.watched → HasChanged s.watched) (still : IsStill (seen v moment engine) kept.watched → HasChanged s.watched → ⊥) where
    abbrev seed : ℕ
    seed = v.seed engine

    -- what came of it, by the desk and in the room
    record Comes (Plain : Left → Type 0) (came : Came E) : Type 0 where
      left : Left
      answers : Plain left
      reply_is : left.reply ≡ came.reply
      session_is : SameSession (seen v moment engine) moment came.kept left.session
      holds_then : Holds v moment left.world came.engine
      at_then : max (v.last came.engine) given ≡ moment
      seed_then : v.seed came.engine ≡ seed

    -- nothing is run
    rests_so : (Plain : Left → Type 0) (reply : List Part) (kept' : Kept) (s' : Session) (came : Came E) → Plain (without_turn R reply s')
        → SameSession (seen v moment engine) moment kept' s' → came ≡ answered.resting v executes given engine kept reply kept' → Comes Plain came
    rests_so Plain reply kept' s' came plain_is alike is = subst (Comes Plain) (sym is) (record {
      left = without_turn R reply s';
      answers = plain_is;
      reply_is = refl;
      session_is = alike;
      holds_then = holds;
      at_then = at;
      seed_then = refl;
    })

    -- with the session's database selected
    abbrev chosen : E
    chosen = v.choose engine kept.db

    chosen_at : max (v.last chosen) given ≡ moment
    chosen_at = let c = modelled.chooses engine kept.db in let same_last : v.last chosen ≡ v.last engine = c.at in omega (arith, same_last, at)

    -- requests, some, are run
    runs_so : (Plain : Left → Type 0) (words : Words) (asked : List Words) (behind : Kept) (behind' : Session) (reply : List Part) (replies : List (List Part)) (came : Came E)
        → SameSession (seen v moment engine) moment behind behind' → path (executes given) chosen (words ∷ asked) (reply ∷ replies) came.engine
        → came.kept ≡ desk.at_db behind (v.world came.engine).selected → kept.db < 16
        → ((left : Left) → plain.Runs seed moment R s (words ∷ asked) behind' left → replies_of left.ran ≡ reply ∷ replies → left.reply ≡ came.reply → Plain left)
        → Comes Plain came
    runs_so Plain words asked behind behind' reply replies came alike p kept_is known plain_is =
        let c = modelled.chooses engine kept.db in
        let mid : E = p.0 in
        let one = modelled.steps given chosen words reply mid p.1 in
        let now : v.last mid ≡ moment = one.at ∙ chosen_at in
        let next = path_ran given moment asked replies mid came.engine (omega (arith, now, at)) p.2 in
        let turn : Turn = record { call = called_at moment words; seen = live (v.world chosen) moment; reply = reply } in
        let S : ℕ → Type 0 = λ s. run s (v.world mid) next.turns (v.world came.engine) in
        let T : ℕ → Type 0 = λ s. run s (v.world chosen) (turn ∷ next.turns) (v.world came.engine) in
        let ran : run (v.seed chosen) (v.world chosen) (turn ∷ next.turns) (v.world came.engine) =
        (refl, v.world mid, subst (λ m. step (v.seed chosen) (v.world chosen) m words reply (v.world mid)) now one.ran, subst S one.same_seed next.ran) in
        let alike_then : live (v.world chosen) moment ≡ live (selecting R s.db) moment =
        ap (λ w. live w moment) c.is ∙ ap (λ db. live (selecting (v.world engine) db) moment) same.db ∙ sym (holds moment s.db (omega arith)) in
        let in_room : run seed (selecting R s.db) (turn ∷ next.turns) (v.world came.engine) =
        run_from seed (v.world chosen) (selecting R s.db) turn next.turns (v.world came.engine) alike_then (subst T c.same_seed ran) in
        let left : Left = record { ran = turn ∷ next.turns; reply = came.reply; world = v.world came.engine; session = selected_after behind' (turn ∷ next.turns) (v.world came.engine) } in
        let runs : plain.Runs seed moment R s (words ∷ asked) behind' left =
        record { known = subst (λ db. db < 16) same.db known; calls = ap (λ l. called_at moment words ∷ l) next.calls; ran = in_room; session = refl } in
        record {
          left = left;
          answers = plain_is left runs (ap (λ l. reply ∷ l) next.are) refl;
          reply_is = refl;
          session_is = subst (λ (k : Kept). SameSession (seen v moment engine) moment k left.session) (sym kept_is) (record {
            db = refl;
            within = next.within one.within;
            queue = alike.queue;
            spoilt = alike.spoilt;
            watched = alike.watched;
          });
          holds_then = λ later db after. refl;
          at_then = let last_is : v.last mid ≤ v.last came.engine = next_last mid came.engine asked replies p.2 in omega (arith, last_is, next.late, now, at);
          seed_then = next.seed_is ∙ one.same_seed ∙ c.same_seed;
        }
      where
        -- moments never fall
        next_last : (from to : E) (asked : List Words) (replies : List (List Part)) → path (executes given) from asked replies to → v.last from ≤ v.last to
        next_last from to [] [] q = let same_last : v.last to ≡ v.last from = ap v.last q in omega (arith, same_last)
        next_last from to [] (r ∷ rs) q = absurd q
        next_last from to (w ∷ ws) [] q = absurd q
        next_last from to (w ∷ ws) (r ∷ rs) q =
            let step_at = (modelled.steps given from w r q.0 q.1).at in
            let rest = next_last q.0 to ws rs q.2 in
            omega (arith, step_at, rest)

    closed_same : SameSession (seen v moment engine) moment (desk.closed kept) (plain.closed s)
    closed_same = record {
      db = same.db;
      within = same.within;
      queue = tt;
      spoilt = refl;
      watched = record { kept_are = λ one c. absurd (let below : c.0 < 0 = c.1 in omega arith); are_kept = λ w c. absurd (let below : c.0 < 0 = c.1 in omega arith) };
    }

    spoiling_same : SameSession (seen v moment engine) moment (desk.spoiling kept) (plain.spoiling s)
    spoiling_same = record { db = same.db; within = same.within; queue = same.queue; spoilt = refl; watched = same.watched }

    -- the queue is run, inside MULTI
    queue_so : (queue : List (List ℕ)) (asked : List Words) (came : Came E) → AreQueued queue asked → kept.db < 16 → kept.spoilt ≡ false → IsStill (seen v moment engine) kept.watched
        → answered.RunsQueue v executes given engine kept queue came → Comes (plain.Executes seed moment R s asked) came
    queue_so [] [] came q known fine none is =
        let left : Left = record { ran = []; reply = plain.array_of []; world = R; session = plain.closed s } in
        let runs : plain.Runs seed moment R s [] (plain.closed s) left = record { known = subst (λ db. db < 16) same.db known; calls = refl; ran = refl; session = refl } in
        rests_so (plain.Executes seed moment R s []) (plain.array_of []) (desk.closed kept) (plain.closed s) came (plain.runs_queue (sym same.spoilt ∙ fine) (still none) runs refl) closed_same is
    queue_so [] (words ∷ asked) came q known fine none is = absurd (let no = q.are in cc)
    queue_so (bytes ∷ queue) [] came q known fine none r = absurd (let no = q.are in cc)
    queue_so (bytes ∷ queue) (words ∷ asked) came q known fine none r = of_replies r.0.replies r.0.is (r.0.way (words ∷ asked) q)
      where
        of_replies : (replies : List (List Part)) → came.reply ≡ plain.array_of replies → path (executes given) chosen (words ∷ asked) replies came.engine
            → Comes (plain.Executes seed moment R s (words ∷ asked)) came
        of_replies [] is p = absurd p
        of_replies (reply ∷ replies) is p =
            runs_so (plain.Executes seed moment R s (words ∷ asked)) words asked (desk.closed kept) (plain.closed s) reply replies came closed_same p r.1 known
            (λ left runs are reply_is. plain.runs_queue (sym same.spoilt ∙ fine) (still none) runs (reply_is ∙ is ∙ ap plain.array_of (sym are)))

    -- EXEC inside MULTI
    exec_so : (queue : List (List ℕ)) (asked : List Words) (came : Came E) → AreQueued queue asked → kept.db < 16 → answered.Executes v executes given engine kept queue came
        → Comes (plain.Executes seed moment R s asked) came
    exec_so queue asked came q known (aborts spoilt is) =
        rests_so (plain.Executes seed moment R s asked) _ (desk.closed kept) (plain.closed s) came (plain.aborts (sym same.spoilt ∙ spoilt) refl) closed_same is
    exec_so queue asked came q known (changed fine has is) =
        rests_so (plain.Executes seed moment R s asked) _ (desk.closed kept) (plain.closed s) came (plain.changed (sym same.spoilt ∙ fine) (moved (subst (λ m. HasMoved (seen v m engine) kept.watched) at has)) refl) closed_same is
    exec_so queue asked came q known (runs_queue fine none r) = queue_so queue asked came q known fine (subst (λ m. IsStill (seen v m engine) kept.watched) at none) r

    -- one request is run at once
    one_so : (words : Words) (came : Came E) → kept.db < 16 → answered.RunsOne v executes given engine kept words came → Comes (plain.RunsOne seed moment R s words) came
    one_so words came known r =
        runs_so (plain.RunsOne seed moment R s words) words [] kept s came.reply [] came same (came.engine, r.ran, refl) r.kept known
        (λ left runs are reply_is. record { runs = runs; reply = are ∙ ap (λ x. x ∷ []) (sym reply_is) })

    -- a request is queued, or spoils what is queued
    queued_so : (queue : List (List ℕ)) (asked : List Words) (words : Words) (wrong : Option Refusal) (came : Came E) → AreQueued queue asked → IsRequest words
        → came ≡ answered.queue_or_spoil v executes given engine kept queue words wrong → Comes (λ left. left ≡ plain.queue_or_spoil seed moment R s asked words wrong) came
    queued_so queue asked words None came q request is =
        rests_so (λ left. left ≡ plain.queue_or_spoil seed moment R s asked words None) _ (desk.queueing kept (queue ++ request_bytes words ∷ [])) (plain.queueing s (asked ++ words ∷ [])) came refl
        (record { db = same.db; within = same.within; queue = one_more queue asked words q request; spoilt = same.spoilt; watched = same.watched }) is
    queued_so queue asked words (Some refusal) came q request is =
        rests_so (λ left. left ≡ plain.queue_or_spoil seed moment R s asked words (Some refusal)) _ (desk.spoiling kept) (plain.spoiling s) came refl spoiling_same is

    -- inside MULTI
    queues_so : (queue : List (List ℕ)) (asked : List Words) (words : Words) (ends : Bool) (came : Came E) → AreQueued queue asked → IsRequest words → kept.db < 16
        → answered.Queues v executes given engine kept queue words ends came → Comes (plain.Queues seed moment R s asked words ends) came
    queues_so queue asked words true came q request known r = one_so words came known r
    queues_so queue asked words false came q request known is = queued_so queue asked words (wrong_words (meant words)) came q request is

    begun_same : SameSession (seen v moment engine) moment (desk.begun kept) (plain.begun s)
    begun_same = record { db = same.db; within = same.within; queue = record { are = refl; each = tt }; spoilt = refl; watched = same.watched }

    watching_same : (keys : List (List ℕ))
        → SameSession (seen v moment engine) moment (desk.watching kept (kept.watched ++ map (watch (answered.sees v executes given engine kept) kept.db) keys)) (plain.watching (live R moment) keys s)
    watching_same keys = record {
      db = same.db;
      within = same.within;
      queue = same.queue;
      spoilt = same.spoilt;
      watched =
          let A : ℕ → ℕ → Type 0 = λ m db. SameWatches (seen v moment engine) moment (kept.watched ++ map (watch (seen v m engine) kept.db) keys) (map (plain.watch (live R moment) db) keys ++ s.watched) in
          subst (λ m. A m s.db) (sym at) (subst (A moment) same.db (all_anew (seen v moment engine) moment (live R moment) (looks_alike R engine moment holds) kept.db keys kept.watched s.watched same.watched));
    }

    outside_so : (words : Words) (asked : Asked) (came : Came E) → kept.db < 16 → answered.Answers v executes given engine kept None words asked came
        → Comes (plain.Answers seed moment R s None words asked) came
    outside_so words Multi came known is = rests_so (plain.Answers seed moment R s None words Multi) _ (desk.begun kept) (plain.begun s) came refl begun_same is
    outside_so words Exec came known is = rests_so (plain.Answers seed moment R s None words Exec) _ kept s came refl same is
    outside_so words Discard came known is = rests_so (plain.Answers seed moment R s None words Discard) _ kept s came refl same is
    outside_so words (Watch keys) came known is = rests_so (plain.Answers seed moment R s None words (Watch keys)) _ _ (plain.watching (live R moment) keys s) came refl (watching_same keys) is
    outside_so words Misnumbered came known is = rests_so (plain.Answers seed moment R s None words Misnumbered) _ kept s came refl same is
    outside_so words Common came known r = one_so words came known r

    inside_so : (queue : List (List ℕ)) (queue' : List Words) (words : Words) (asked : Asked) (came : Came E) → AreQueued queue queue' → IsRequest words → kept.db < 16
        → answered.Answers v executes given engine kept (Some queue) words asked came → Comes (plain.Answers seed moment R s (Some queue') words asked) came
    inside_so queue queue' words Multi came q request known is = rests_so (plain.Answers seed moment R s (Some queue') words Multi) _ kept s came refl same is
    inside_so queue queue' words Exec came q request known r = exec_so queue queue' came q known r
    inside_so queue queue' words Discard came q request known is = rests_so (plain.Answers seed moment R s (Some queue') words Discard) _ (desk.closed kept) (plain.closed s) came refl closed_same is
    inside_so queue queue' words (Watch keys) came q request known is = rests_so (plain.Answers seed moment R s (Some queue') words (Watch keys)) _ kept s came refl same is
    inside_so queue queue' words Misnumbered came q request known is = rests_so (plain.Answers seed moment R s (Some queue') words Misnumbered) _ (desk.spoiling kept) (plain.spoiling s) came refl spoiling_same is
    inside_so queue queue' words Common came q request known r = queues_so queue queue' words (asks_to_quit words) came q request known r

    answers_so : (queue : Option (List (List ℕ))) (queue' : Option (List Words)) (words : Words) (asked : Asked) (came : Came E) → SameQueue queue queue' → IsRequest words → kept.db < 16
        → answered.Answers v executes given engine kept queue words asked came → Comes (plain.Answers seed moment R s queue' words asked) came
    answers_so None None words asked came q request known a = outside_so words asked came known a
    answers_so None (Some queue') words asked came q request known a = absurd q
    answers_so (Some queue) None words asked came q request known a = absurd q
    answers_so (Some queue) (Some queue') words asked came q request known a = inside_so queue queue' words asked came q request known a

  -- ---- what all watch

  -- before a request only time has passed
  aged : (engine : E) (found : World) (first moment : ℕ) → first ≤ moment → ((db : ℕ) (key : List ℕ) → look_in found db key ≡ seen v moment engine db key)
      → (kept : Kept) (s : Session) → SameSession (seen v first engine) first kept s → SameSession (seen v moment engine) moment kept (sees found s)
  aged engine found first moment later alike kept s same = record {
    db = same.db;
    within = same.within;
    queue = same.queue;
    spoilt = same.spoilt;
    watched = all_aged (v.world engine) found first moment later alike kept.watched s.watched same.watched;
  }

  -- behind it all are looked at, or left out
  reviewed : (before after : E) (found : World) (moment : ℕ) → ((db : ℕ) (key : List ℕ) → look_in found db key ≡ seen v moment after db key)
      → (old new : Kept) (s : Session) → SameSession (seen v moment before) moment old s → Reviews (Glances (seen v moment before) (seen v moment after)) old new
      → SameSession (seen v moment after) moment new (sees found s)
  reviewed before after found moment alike old new s same r = record {
    db = r.db ∙ same.db;
    within = subst (λ db. db < 16) (sym r.db) same.within;
    queue = subst (λ q. SameQueue q s.queue) (sym r.queue) same.queue;
    spoilt = r.spoilt ∙ same.spoilt;
    watched = all_glanced (seen v moment before) (seen v moment after) moment found alike old.watched new.watched s.watched r.many r.each same.watched;
  }

  -- a request that a desk answers is a deed, at the moment given or the last one used where that is later
  pub is_deed : (before given moment : ℕ) (old : DeskSeen E) (room : Room) (words : Words) (reply : List Part) (new : DeskSeen E) → before ≤ moment → max (v.last old.engine) given ≡ moment
      → StandsAs v before old room → DeskAnswers v executes given old words reply new → IsDeed v given moment old room words reply new
  is_deed before given moment old room words reply new later at st d = record {
    deed = deed;
    room' = after;
    is = refl;
    moment_is = refl;
    reply_is = c.reply_is;
    does = record { found = refl; selected = refl; does = c.answers; leaves = refl };
    stands = record {
      late = omega (arith, c.at_then);
      holds = c.holds_then;
      sessions = session_then;
    };
    at = c.at_then;
    seed = c.seed_then;
  }
    where
      engine : E
      engine = old.engine

      holds : Holds v moment room.world engine
      holds at db after = st.holds at db (omega (arith, later, after))

      found : World
      found = live room.world moment

      alike : (db : ℕ) (key : List ℕ) → look_in found db key ≡ seen v moment engine db key
      alike = looks_alike room.world engine moment holds

      kept : Kept
      kept = session_at old.sessions old.current

      s : Session
      s = sees found (room.sessions old.current)

      same : SameSession (seen v moment engine) moment kept s
      same = aged engine found before moment later alike kept (room.sessions old.current) (st.sessions old.current)

      came : Came E
      came = record { engine = new.engine; reply = reply; kept = d.serves.kept }

      moved : HasMoved (seen v moment engine) kept.watched → HasChanged s.watched
      moved = moved_changed (v.world engine) found before moment later alike kept.watched (room.sessions old.current).watched (st.sessions old.current).watched

      still : IsStill (seen v moment engine) kept.watched → HasChanged s.watched → ⊥
      still = still_unchanged (v.world engine) found before moment later alike kept.watched (room.sessions old.current).watched (st.sessions old.current).watched

      c : Comes given moment room.world engine kept s at holds same moved still (plain.Answers (v.seed engine) moment room.world s s.queue words (asked_of words)) came
      c = answers_so given moment room.world engine kept s at holds same moved still kept.queue s.queue words (asked_of words) came same.queue d.serves.request same.within d.serves.answers

      deed : Deed
      deed = record { arrival = arrival old.current (Asks words); moment = moment; found = found; db = s.db; left = c.left }

      sessions : ℕ → Session
      sessions = with_session (all_see found room.sessions) old.current c.left.session

      after : Room
      after = record { world = c.left.world; sessions = all_see (live c.left.world moment) sessions }

      alike_then : (db : ℕ) (key : List ℕ) → look_in (live c.left.world moment) db key ≡ seen v moment new.engine db key
      alike_then = looks_alike c.left.world new.engine moment c.holds_then

      -- what is kept of each, with the session's own
      kept_then : (number : ℕ) (own : Bool) → number == old.current ≡ own
          → SameSession (seen v moment engine) moment (with_kept (session_at old.sessions) old.current d.serves.kept number) (with_session (all_see found room.sessions) old.current c.left.session number)
      kept_then number true is =
          subst (λ (k : Kept). SameSession (seen v moment engine) moment k (with_session (all_see found room.sessions) old.current c.left.session number)) (sym (cond-true _ _ _ is))
          (subst (λ (x : Session). SameSession (seen v moment engine) moment d.serves.kept x) (sym (cond-true _ _ _ is)) c.session_is)
      kept_then number false is =
          subst (λ (k : Kept). SameSession (seen v moment engine) moment k (with_session (all_see found room.sessions) old.current c.left.session number)) (sym (cond-false _ _ _ is))
          (subst (λ (x : Session). SameSession (seen v moment engine) moment (session_at old.sessions number) x) (sym (cond-false _ _ _ is))
          (aged engine found before moment later alike (session_at old.sessions number) (room.sessions number) (st.sessions number)))

      session_then : (number : ℕ) → SameSession (seen v moment new.engine) moment (session_at new.sessions number) (after.sessions number)
      session_then number =
          reviewed engine new.engine (live c.left.world moment) moment alike_then (with_kept (session_at old.sessions) old.current d.serves.kept number) (session_at new.sessions number) (sessions number)
          (kept_then number (number == old.current) refl)
          (let R : ℕ → ℕ → Type 0 = λ a b. Reviews (Glances (seen v a engine) (seen v b new.engine)) (with_kept (session_at old.sessions) old.current d.serves.kept number) (session_at new.sessions number) in
          subst (λ a. R a moment) at (subst (R (max (v.last old.engine) given)) c.at_then (d.serves.reviews number)))

  -- what is planned behind it changes nothing of that
  pub still_stands : (given moment : ℕ) (plan : Plan) (old new : DeskSeen E) (room : Room) → max (v.last old.engine) given ≡ moment → StandsAs v moment old room → DeskRests works given plan old new
      → StandsAs v moment new room
  still_stands given moment plan old new room at st r = record {
    late = let now : v.last new.engine ≡ max (v.last old.engine) given = rest.at in omega (arith, now, at);
    holds = λ later db after. st.holds later db after ∙ sym (same_then later db after);
    sessions = λ number.
        subst (λ (sessions : List Kept). SameSession (seen v moment new.engine) moment (session_at sessions number) (room.sessions number)) (sym r.sessions)
        (reviewed_none (session_at old.sessions number) (room.sessions number) (st.sessions number));
  }
    where
      rest : IsRest v given old.engine new.engine
      rest = modelled.rests given plan old.engine new.engine r.works

      same_then : (later db : ℕ) → moment ≤ later → live (selecting (v.world new.engine) db) later ≡ live (selecting (v.world old.engine) db) later
      same_then later db after =
          let now : v.last new.engine ≡ max (v.last old.engine) given = rest.at in
          ap (λ w. selecting w db) (rest.stays later (omega (arith, now, at, after)))

      same_looks : (db : ℕ) (key : List ℕ) → seen v moment old.engine db key ≡ seen v moment new.engine db key
      same_looks db key = ap (λ w. look w key) (sym (same_then moment db (omega arith)))

      reviewed_none : (kept : Kept) (s : Session) → SameSession (seen v moment old.engine) moment kept s → SameSession (seen v moment new.engine) moment kept s
      reviewed_none kept s same = record {
        db = same.db;
        within = same.within;
        queue = same.queue;
        spoilt = same.spoilt;
        watched = elsewhere (seen v moment old.engine) (seen v moment new.engine) moment same_looks kept.watched s.watched same.watched;
      }

  -- a broken rule is a deed at the last moment, which changes nothing
  pub is_broken : (moment : ℕ) (old : DeskSeen E) (room : Room) (number : ℕ) (rule : Rule) (at : ℕ) → StandsAs v moment old room → IsBreak v moment old room number rule at
  is_broken moment old room number rule at st = record {
    deed = record { arrival = arrival number (Breaks rule at); moment = moment; found = found; db = s.db; left = without_turn room.world [] s };
    room' = record { world = room.world; sessions = all_see found sessions };
    is = refl;
    moment_is = refl;
    reply_is = refl;
    does = λ seed. record { found = refl; selected = refl; does = refl; leaves = refl };
    stands = record { late = st.late; holds = st.holds; sessions = session_then };
  }
    where
      found : World
      found = live room.world moment

      alike : (db : ℕ) (key : List ℕ) → look_in found db key ≡ seen v moment old.engine db key
      alike = looks_alike room.world old.engine moment st.holds

      s : Session
      s = sees found (room.sessions number)

      sessions : ℕ → Session
      sessions = with_session (all_see found room.sessions) number s

      again : (other : ℕ) (own : Bool) → other == number ≡ own → SameSession (seen v moment old.engine) moment (session_at old.sessions other) (sessions other)
      again other true is =
          subst (λ (x : Session). SameSession (seen v moment old.engine) moment (session_at old.sessions other) x) (sym (cond-true _ _ _ is))
          (subst (λ n. SameSession (seen v moment old.engine) moment (session_at old.sessions other) (sees found (room.sessions n))) (eqb-true other number is)
          (aged old.engine found moment moment (omega arith) alike (session_at old.sessions other) (room.sessions other) (st.sessions other)))
      again other false is =
          subst (λ (x : Session). SameSession (seen v moment old.engine) moment (session_at old.sessions other) x) (sym (cond-false _ _ _ is))
          (aged old.engine found moment moment (omega arith) alike (session_at old.sessions other) (room.sessions other) (st.sessions other))

      session_then : (other : ℕ) → SameSession (seen v moment old.engine) moment (session_at old.sessions other) (sees found (sessions other))
      session_then other = aged old.engine found moment moment (omega arith) alike (session_at old.sessions other) (sessions other) (again other (other == number) refl)
