-- The answering of one session's requests, put together.
use Rattle.std.proofs.Common.{◌≡◌, ℕ, List, [], ◌∷◌, ◌++◌, map, Option, true, false, refl, sym, ap, subst, ◌∙◌, append_assoc, append-nil}
use Rattle.std.proofs.lemmas.List.{map-append}
use Rattle.std.proofs.lemmas.List.Concat.{flat_map-append}
use Rattle.outside.specs.Clocks.{Answers as ClockAnswers}
use Rattle.outside.specs.Pacing.{PacerSeen}
use Rattle.outside.specs.Streams.{SinkSeen}
use Rattle.outside.specs.declared.pacing.Plan.{Plan}
use Rattle.plain_world.specs.Words.{Words}
use Rattle.plain_world.specs.Spelling.{spelling}
use Rattle.plain_world.specs.declared.reply.Part.{Part}
use Rattle.plain_model.specs.Meant.{asks_to_quit}
use Rattle.plain_sessions.specs.Arrivals.{Asks, Arrival, arrival}
use Rattle.plain_sessions.specs.Units.{unit}
use Rattle.resp_frames.specs.Feeding.{GivesRequests}
use Rattle.resp_frames.specs.Frames.{Item, asked, requests}
use Rattle.resp_frames.specs.Puts.{PutsFront}
use Rattle.resp_frames.proofs.Giving.{all_append, framed_append}
use Rattle.serving.specs.Output.{Onward}
use Rattle.serving.specs.Timed.{Timed, ReadsMoment, Works}
use Rattle.session_hub.specs.Hearing.{GoOn}
use Rattle.sessions.specs.Way.{Told, Answers, AnswersCut, at_last}
use Rattle.sessions.specs.Telling.{Tells, Fails}
use Rattle.sessions.specs.Answering.{Serves, Quits, BreaksOff}
use Rattle.sessions.proofs.Ways.{tells_nothing, tells_as, fails_as, tells_then, fails_then}

-- the arrivals of requests of a session
abbrev pub asked_by : ℕ → List Words → List Arrival
asked_by session words = map (arrival session) (map Asks words)

pub asked_both : (session : ℕ) (p q : List Words) → asked_by session (p ++ q) ≡ asked_by session p ++ asked_by session q
asked_both session p q = ap (map (arrival session)) (map-append Asks p q) ∙ map-append (arrival session) (map Asks p) (map Asks q)

requests_both : (xs ys : List Item) → requests (xs ++ ys) ≡ requests xs ++ requests ys
requests_both xs ys = flat_map-append asked xs ys

asked_items : (session : ℕ) (xs ys : List Item) → asked_by session (requests xs) ++ asked_by session (requests ys) ≡ asked_by session (requests (xs ++ ys))
asked_items session xs ys = sym (ap (asked_by session) (requests_both xs ys) ∙ asked_both session (requests xs) (requests ys))

go_on_both : (p q : List Words) → GoOn p → GoOn q → GoOn (p ++ q)
go_on_both p q f g = all_append (λ words. asks_to_quit words ≡ false) p q f g

module _ {E : Type 0} (turns : ℕ → E → E → Type 0) (executes : ℕ → E → Words → List Part → E → Type 0) (works : ℕ → Plan → E → E → Type 0) (session : ℕ) where
  -- ---- one request

  module _ (words : Words) (reply : List Part) (first mid turned : E) (clock clock' : Option ClockAnswers) (pacers : List PacerSeen) (moment : ℕ) (read : ReadsMoment clock clock' moment)
      (turning : turns session first turned) (answers : executes moment turned words reply mid) where
    abbrev before : Timed E
    before = record { engine = first; clock = clock; pacers = pacers }

    one : Told
    one = record { arrival = arrival session (Asks words); reply = reply }

    pub tells_one : (new : E) (pacers' : List PacerSeen) (o o1 : SinkSeen) (p p1 : List ℕ) → Works works moment mid new pacers pacers' → Onward o o1 p p1 (unit session (spelling reply))
        → Tells turns executes works before (record { engine = new; clock = clock'; pacers = pacers' }) o o1 p p1 (arrival session (Asks words) ∷ [])
    tells_one new pacers' o o1 p p1 rests wrote =
        let W : List ℕ → Type 0 = λ l. Onward o o1 p p1 l in
        let after : Timed E = record { engine = new; clock = clock'; pacers = pacers' } in
        let does : Answers turns executes works session words before reply after = record { moment = moment; read = read; turned = turned; turning = turning; behind = mid; answers = answers; rests = rests } in
        record { tolds = record { arrival = arrival session (Asks words); reply = reply } ∷ []; are = refl; went = (after, does, refl); wrote = subst W (sym (append-nil (unit session (spelling reply)))) wrote }

    pub fails_one : (o o1 : SinkSeen) (p : List ℕ) → PutsFront o o1 (p ++ unit session (spelling reply))
        → Fails turns executes works before (record { engine = mid; clock = clock'; pacers = pacers }) o o1 p (arrival session (Asks words) ∷ [])
    fails_one o o1 p front =
        let W : List ℕ → Type 0 = λ l. PutsFront o o1 (p ++ l) in
        let does : AnswersCut turns executes works session words before reply (record { engine = mid; clock = clock'; pacers = pacers }) =
        record { moment = moment; read = read; turned = turned; turning = turning; answers = answers; pacers = refl } in
        let one : Told = record { arrival = arrival session (Asks words); reply = reply } in
        record { tolds = one ∷ []; are = refl; went = at_last [] one before refl refl does; wrote = subst W (sym (append-nil (unit session (spelling reply)))) front }

  -- ---- requests, one behind the other

  pub serves_nothing : (bytes : List ℕ) (e : Timed E) (o : SinkSeen) (p : List ℕ) → Serves turns executes works session bytes bytes e e o o p p
  serves_nothing bytes e o p = record { items = []; framed = record { whole = refl; each = tt }; go_on = tt; tells = tells_nothing turns executes works e o p }

  -- nothing is given out but what is passed over
  serves_none : (a b : List ℕ) (e : Timed E) (o : SinkSeen) (p : List ℕ) → GivesRequests a b [] → Serves turns executes works session a b e e o o p p
  serves_none a b e o p g = record {
    items = g.items;
    framed = g.framed;
    go_on = subst GoOn (sym g.are) tt;
    tells = tells_as turns executes works e e o o p p [] (asked_by session (requests g.items)) (ap (asked_by session) (sym g.are)) (tells_nothing turns executes works e o p);
  }

  module _ (a b : List ℕ) (words : Words) (g : GivesRequests a b (words ∷ [])) (e e1 : Timed E) (o o1 : SinkSeen) (p p1 : List ℕ) where
    serves_one : Tells turns executes works e e1 o o1 p p1 (arrival session (Asks words) ∷ []) → asks_to_quit words ≡ false → Serves turns executes works session a b e e1 o o1 p p1
    serves_one t goes = record {
      items = g.items;
      framed = g.framed;
      go_on = subst GoOn (sym g.are) (goes, tt);
      tells = tells_as turns executes works e e1 o o1 p p1 (asked_by session (words ∷ [])) (asked_by session (requests g.items)) (ap (asked_by session) (sym g.are)) t;
    }

    quits_one : Tells turns executes works e e1 o o1 p p1 (arrival session (Asks words) ∷ []) → asks_to_quit words ≡ true → Quits turns executes works session a e e1 o o1 p p1
    quits_one t ends = record { items = g.items; rest = b; framed = g.framed; others = []; last = words; are = g.are; go_on = tt; ends = ends; tells = t }

    breaks_one : Fails turns executes works e e1 o o1 p (arrival session (Asks words) ∷ []) → BreaksOff turns executes works session a e e1 o o1 p
    breaks_one f = record { items = g.items; rest = b; framed = g.framed; others = []; last = words; are = g.are; go_on = tt; fails = f }

  module _ (a b : List ℕ) (e e1 : Timed E) (o o1 : SinkSeen) (p p1 : List ℕ) (f : Serves turns executes works session a b e e1 o o1 p p1) where
    serves_then : (c : List ℕ) (e2 : Timed E) (o2 : SinkSeen) (p2 : List ℕ) → Serves turns executes works session b c e1 e2 o1 o2 p1 p2 → Serves turns executes works session a c e e2 o o2 p p2
    serves_then c e2 o2 p2 g = record {
      items = f.items ++ g.items;
      framed = framed_append a b c f.items g.items f.framed g.framed;
      go_on = subst GoOn (sym (requests_both f.items g.items)) (go_on_both (requests f.items) (requests g.items) f.go_on g.go_on);
      tells = tells_as turns executes works e e2 o o2 p p2 (asked_by session (requests f.items) ++ asked_by session (requests g.items)) (asked_by session (requests (f.items ++ g.items)))
          (asked_items session f.items g.items) (tells_then turns executes works e e1 o o1 p p1 (asked_by session (requests f.items)) f.tells e2 o2 p2 (asked_by session (requests g.items)) g.tells);
    }

    -- what was asked up to a last request
    to_last : (items : List Item) (others : List Words) (last : Words) → requests items ≡ others ++ last ∷ [] → requests (f.items ++ items) ≡ (requests f.items ++ others) ++ last ∷ []
    to_last items others last are = requests_both f.items items ∙ ap (λ l. requests f.items ++ l) are ∙ sym (append_assoc (requests f.items) others (last ∷ []))

    asked_last : (others : List Words) (last : Words) → asked_by session (requests f.items) ++ asked_by session (others ++ last ∷ []) ≡ asked_by session ((requests f.items ++ others) ++ last ∷ [])
    asked_last others last = sym (ap (asked_by session) (append_assoc (requests f.items) others (last ∷ [])) ∙ asked_both session (requests f.items) (others ++ last ∷ []))

    quits_then : (e2 : Timed E) (o2 : SinkSeen) (p2 : List ℕ) → Quits turns executes works session b e1 e2 o1 o2 p1 p2 → Quits turns executes works session a e e2 o o2 p p2
    quits_then e2 o2 p2 g = record {
      items = f.items ++ g.items;
      rest = g.rest;
      framed = framed_append a b g.rest f.items g.items f.framed g.framed;
      others = requests f.items ++ g.others;
      last = g.last;
      are = to_last g.items g.others g.last g.are;
      go_on = go_on_both (requests f.items) g.others f.go_on g.go_on;
      ends = g.ends;
      tells = tells_as turns executes works e e2 o o2 p p2 (asked_by session (requests f.items) ++ asked_by session (g.others ++ g.last ∷ []))
          (asked_by session ((requests f.items ++ g.others) ++ g.last ∷ [])) (asked_last g.others g.last)
          (tells_then turns executes works e e1 o o1 p p1 (asked_by session (requests f.items)) f.tells e2 o2 p2 (asked_by session (g.others ++ g.last ∷ [])) g.tells);
    }

    breaks_then : (e2 : Timed E) (o2 : SinkSeen) → BreaksOff turns executes works session b e1 e2 o1 o2 p1 → BreaksOff turns executes works session a e e2 o o2 p
    breaks_then e2 o2 g = record {
      items = f.items ++ g.items;
      rest = g.rest;
      framed = framed_append a b g.rest f.items g.items f.framed g.framed;
      others = requests f.items ++ g.others;
      last = g.last;
      are = to_last g.items g.others g.last g.are;
      go_on = go_on_both (requests f.items) g.others f.go_on g.go_on;
      fails = fails_as turns executes works e e2 o o2 p (asked_by session (requests f.items) ++ asked_by session (g.others ++ g.last ∷ []))
          (asked_by session ((requests f.items ++ g.others) ++ g.last ∷ [])) (asked_last g.others g.last)
          (fails_then turns executes works e e1 o o1 p p1 (asked_by session (requests f.items)) f.tells e2 o2 (asked_by session (g.others ++ g.last ∷ [])) g.fails);
    }

    -- behind what was answered nothing more is given out
    pub passed : (c : List ℕ) → GivesRequests b c [] → Serves turns executes works session a c e e1 o o1 p p1
    passed c g = serves_then c e1 o1 p1 (serves_none b c e1 o1 p1 g)

    -- behind it one request more is given out
    module _ (c : List ℕ) (words : Words) (g : GivesRequests b c (words ∷ [])) (e2 : Timed E) (o2 : SinkSeen) (p2 : List ℕ) where
      pub serves_more : Tells turns executes works e1 e2 o1 o2 p1 p2 (arrival session (Asks words) ∷ []) → asks_to_quit words ≡ false → Serves turns executes works session a c e e2 o o2 p p2
      serves_more t goes = serves_then c e2 o2 p2 (serves_one b c words g e1 e2 o1 o2 p1 p2 t goes)

      pub quits_more : Tells turns executes works e1 e2 o1 o2 p1 p2 (arrival session (Asks words) ∷ []) → asks_to_quit words ≡ true → Quits turns executes works session a e e2 o o2 p p2
      quits_more t ends = quits_then e2 o2 p2 (quits_one b c words g e1 e2 o1 o2 p1 p2 t ends)

      pub breaks_more : Fails turns executes works e1 e2 o1 o2 p1 (arrival session (Asks words) ∷ []) → BreaksOff turns executes works session a e e2 o o2 p
      breaks_more t = breaks_then e2 o2 (breaks_one b c words g e1 e2 o1 o2 p1 p2 t)

    -- where the output and what is pending stay
    pub serves_same : (o2 : SinkSeen) (p2 : List ℕ) → o2 ≡ o1 → p2 ≡ p1 → Serves turns executes works session a b e e1 o o2 p p2
    serves_same o2 p2 same is =
        let W : SinkSeen → Type 0 = λ s. Serves turns executes works session a b e e1 o s p p2 in
        let V : List ℕ → Type 0 = λ q. Serves turns executes works session a b e e1 o o1 p q in
        subst W (sym same) (subst V (sym is) f)
