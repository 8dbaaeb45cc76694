-- The serving of the bytes taken at once, step by step.
use Rattle.std.proofs.Common.{◌≡◌, ◌≢◌, ℕ, zero, suc, ◌+◌, ◌-◌, ◌≤◌, ◌<◌, ◌==◌, List, [], ◌∷◌, ◌++◌, take, drop, length, get_or, set, Bool, true, false, refl, sym, ap, subst, ◌∙◌, append_assoc, append-nil, arith, eqb-true, eq-eqb, length-take}
use Rattle.std.proofs.Math.Seq.{take-add}
use Rattle.std.proofs.lemmas.List.{take-append-drop, get_or-set_same, get_or-set_other, length-set, take_all, length-drop}
use Rattle.outside.specs.Streams.{SinkSeen}
use Rattle.outside.specs.declared.pacing.Plan.{Plan}
use Rattle.plain_world.specs.Words.{Words}
use Rattle.plain_world.specs.declared.reply.Part.{Part}
use Rattle.plain_sessions.specs.Arrivals.{Sent, sent_by, Arrival, Arrive}
use Rattle.plain_sessions.specs.Pieces.{Stop, Brings}
use Rattle.plain_sessions.proofs.Arriving.{arrivals_there, arrivals_grow, arrives_then}
use Rattle.serving.specs.Timed.{Timed}
use Rattle.session_hub.specs.Standing.{stop_of, StandsAt}
use Rattle.session_hub.specs.Stepping.{Hubbed, Steps}
use Rattle.session_hub.specs.declared.hub.Step.{Step}
use Rattle.session_hub.specs.declared.hub.Step.TheVariants as steps
use Rattle.sessions.specs.declared.slot.Slot.{Slot}
use Rattle.sessions.specs.declared.slot.Slot.TheVariants as slots
use Rattle.sessions.specs.declared.hearing.Heard.{Heard}
use Rattle.sessions.specs.declared.hearing.Heard.TheVariants as heard
use Rattle.sessions.specs.Slots.{fed_of}
use Rattle.sessions.specs.Hearing.{HeardAs, HearsAll, HearsPart, HearsFirst, Hears}
use Rattle.sessions.specs.Chunks.{AllHeard, FedAtMost, AreFirst, Running, StopsPart, StopsFirst, ServesChunk, AllPut, Finishes, HasPut, Failed}
use Rattle.sessions.proofs.Ways.{tells_then, fails_then, tells_put, fails_put}
use Rattle.sessions.proofs.Over.{others_as}

-- ---- the first of the arrivals

-- what arrives by some bytes is the first of what arrives by more
first_of : (n : ℕ) (front back : List ℕ) (some others : List Arrival) (stop : Stop) → Brings n front (some ++ others) stop → AreFirst n (front ++ back) some
first_of n front back some others stop b =
    let all = arrivals_there n (front ++ back) in
    let g = arrivals_grow n front back (some ++ others) all.0 stop all.1 b all.2 in
    record { arrivals = all.0; stop = all.1; brings = all.2; others = others ++ g.0; split = g.1 ∙ append_assoc some others g.0 }

-- all of it
all_of : (n : ℕ) (bytes : List ℕ) (all : List Arrival) (stop : Stop) → Brings n bytes all stop → AreFirst n bytes all
all_of n bytes all stop b = record { arrivals = all; stop = stop; brings = b; others = []; split = sym (append-nil all) }

-- ---- slots

module _ (sent : List Sent) (bytes : List ℕ) (session : ℕ) (slot : Slot) (all : List Slot) (within : session < length all) where
  heard_at : (number : ℕ) (b : Bool) → (session == number) ≡ b → HeardAs number sent (get_or all number slots.Ended) → HeardAs session (sent ++ sent_by session bytes) slot
      → HeardAs number (sent ++ sent_by session bytes) (get_or (set all session slot) number slots.Ended)
  heard_at number true e was now =
      let same : session ≡ number = eqb-true _ _ e in
      subst (λ k. HeardAs k (sent ++ sent_by session bytes) (get_or (set all session slot) k slots.Ended)) same
      (subst (HeardAs session (sent ++ sent_by session bytes)) (sym (get_or-set_same all session slot slots.Ended within)) now)
  heard_at number false e was now =
      let other : number ≢ session = λ is. let here : true ≡ false = sym (eq-eqb session number (sym is)) ∙ e in cc in
      subst (HeardAs number (sent ++ sent_by session bytes)) (sym (get_or-set_other all session number slot slots.Ended other))
      (others_as session number sent bytes (get_or all number slots.Ended) e was)

  all_heard : AllHeard sent all → HeardAs session (sent ++ sent_by session bytes) slot → AllHeard (sent ++ sent_by session bytes) (set all session slot)
  all_heard each now = λ number small.
      let long : length (set all session slot) ≡ length all = length-set all session slot in
      heard_at number (session == number) refl (each number (omega (arith, small, long))) now

fed_at : (all : List Slot) (session number : ℕ) (slot : Slot) (n k : ℕ) (b : Bool) → (session == number) ≡ b → session < length all → number < length all → FedAtMost n all → fed_of slot ≤ fed_of (get_or all session slots.Ended) + k
    → fed_of (get_or (set all session slot) number slots.Ended) ≤ n + k
fed_at all session number slot n k true e within small each few =
    let same : session ≡ number = eqb-true _ _ e in
    let was = each session within in
    let is : fed_of (get_or (set all session slot) session slots.Ended) ≡ fed_of slot = ap fed_of (get_or-set_same all session slot slots.Ended within) in
    subst (λ m. fed_of (get_or (set all session slot) m slots.Ended) ≤ n + k) same (omega (arith, is, was, few))
fed_at all session number slot n k false e within small each few =
    let other : number ≢ session = λ is. let here : true ≡ false = sym (eq-eqb session number (sym is)) ∙ e in cc in
    let is : fed_of (get_or (set all session slot) number slots.Ended) ≡ fed_of (get_or all number slots.Ended) = ap fed_of (get_or-set_other all session number slot slots.Ended other) in
    let was = each number small in
    omega (arith, is, was)

pub fed_set : (all : List Slot) (session : ℕ) (slot : Slot) (n k : ℕ) → session < length all → FedAtMost n all → fed_of slot ≤ fed_of (get_or all session slots.Ended) + k → FedAtMost (n + k) (set all session slot)
fed_set all session slot n k within each few = λ number small.
    let long : length (set all session slot) ≡ length all = length-set all session slot in
    fed_at all session number slot n k (session == number) refl within (omega (arith, small, long)) each few

pub fed_up : (all : List Slot) (n m : ℕ) → n ≤ m → FedAtMost n all → FedAtMost m all
fed_up all n m few each = λ number small. let was = each number small in omega (arith, was, few)

-- an element that is there is the same, whatever would stand for one that isn't
get_or_any : {X : Type 0} (xs : List X) (i : ℕ) (d e : X) → i < length xs → get_or xs i d ≡ get_or xs i e
get_or_any [] i d e small = absurd (omega (arith, small))
get_or_any (x ∷ xs) zero d e small = refl
get_or_any (x ∷ xs) (suc i) d e small = get_or_any xs i d e (omega (arith, small))

pub slot_at : (all : List Slot) (session : ℕ) (slot : Slot) → slot ≡ get_or all session slot → session < length all → slot ≡ get_or all session slots.Ended
slot_at all session slot is small = is ∙ get_or_any all session slot slots.Ended small

-- what is left of some bytes, and a piece of it
pub steps_whole : (a b : Hubbed) (bytes : List ℕ) (at : ℕ) (step : Step) → Steps a (take (length bytes - at) (drop at bytes)) step b → Steps a (drop at bytes) step b
steps_whole a b bytes at step s =
    let long : length (drop at bytes) ≡ length bytes - at = length-drop at bytes in
    subst (λ l. Steps a l step b) (take_all (length bytes - at) (drop at bytes) (omega (arith, long))) s

pub piece_is : (bytes : List ℕ) (at count : ℕ) → take (at + count - at) (drop at bytes) ≡ take count (drop at bytes)
piece_is bytes at count = let same : at + count - at ≡ count = omega arith in ap (λ k. take k (drop at bytes)) same

pub piece_short : (bytes : List ℕ) (at count : ℕ) → length (take (at + count - at) (drop at bytes)) ≤ count
piece_short bytes at count = let n = length-take (at + count - at) (drop at bytes) in omega (arith, n)

pub fed_on : (all : List Slot) (session : ℕ) (slot slot' : Slot) (before at count long : ℕ) → session < length all → slot ≡ get_or all session slots.Ended → FedAtMost (before + at) all
    → fed_of slot' ≤ fed_of slot + long → long ≤ count → FedAtMost (before + (at + count)) (set all session slot')
fed_on all session slot slot' before at count long small was each fed few =
    let is : fed_of slot ≡ fed_of (get_or all session slots.Ended) = ap fed_of was in
    fed_up (set all session slot') (before + at + count) (before + (at + count)) (omega arith) (fed_set all session slot' (before + at) count small each (omega (arith, is, fed, few)))

-- ---- steps

module _ {E : Type 0} (turns : ℕ → E → E → Type 0) (executes : ℕ → E → Words → List Part → E → Type 0) (works : ℕ → Plan → E → E → Type 0) where
  brings_of : (first now : Timed E) (o o1 : SinkSeen) (p taken : List ℕ) (hub : Hubbed) (all : List Slot) (r : Running turns executes works first now o o1 p taken hub all)
      → Brings hub.sessions taken r.arrivals (stop_of hub.standing)
  brings_of first now o o1 p taken hub all r = record { sent = r.sent; pieced = r.stands.pieced; arrive = r.arrived }

  module _ (first now : Timed E) (o o1 : SinkSeen) (p taken : List ℕ) (hub hub' : Hubbed) (all : List Slot) (r : Running turns executes works first now o o1 p taken hub all) (chunk : List ℕ) where
    many_on : hub'.sessions ≡ hub.sessions → length all ≡ hub'.sessions
    many_on same = r.many ∙ sym same

    -- a byte of a head
    pub runs_head : Steps hub chunk steps.Head hub' → Running turns executes works first now o o1 p (taken ++ take 1 chunk) hub' all
    runs_head s = record {
      sent = r.sent;
      stands = subst (λ l. StandsAt hub'.sessions (taken ++ take 1 chunk) l hub'.standing) (append-nil r.sent) (s.goes_on taken r.sent r.stands);
      arrivals = r.arrivals;
      arrived = r.arrived;
      tells = r.tells;
      many = many_on s.sessions;
      heard = r.heard;
    }

    -- bytes behind a number that no session has
    pub runs_unknown : Steps hub chunk steps.Unknown hub' → Running turns executes works first now o o1 p (taken ++ chunk) hub' all
    runs_unknown s = record {
      sent = r.sent;
      stands =
          subst (λ l. StandsAt hub'.sessions (taken ++ l) r.sent hub'.standing) (take_all (length chunk) chunk (omega arith))
          (subst (λ l. StandsAt hub'.sessions (taken ++ take (length chunk) chunk) l hub'.standing) (append-nil r.sent) (s.goes_on taken r.sent r.stands));
      arrivals = r.arrivals;
      arrived = r.arrived;
      tells = r.tells;
      many = many_on s.sessions;
      heard = r.heard;
    }

    -- bytes of a session
    module _ (session count : ℕ) (s : Steps hub chunk (steps.Bytes session count) hub') (after : Timed E) (o2 : SinkSeen) (p2 : List ℕ) where
      within : session < length all
      within = let known = s.tells.0 in let n = r.many in omega (arith, known, n)

      arrived_on : (new : List Arrival) → Arrive r.sent (sent_by session (take count chunk)) new → Arrive [] (r.sent ++ sent_by session (take count chunk)) (r.arrivals ++ new)
      arrived_on new a = arrives_then [] r.sent (sent_by session (take count chunk)) r.arrivals new r.arrived a

      brings_on : (new : List Arrival) → Arrive r.sent (sent_by session (take count chunk)) new → Brings hub.sessions (taken ++ take count chunk) (r.arrivals ++ new) (stop_of hub'.standing)
      brings_on new a = subst (λ n. Brings n (taken ++ take count chunk) (r.arrivals ++ new) (stop_of hub'.standing)) s.sessions
          (record { sent = r.sent ++ sent_by session (take count chunk); pieced = (s.goes_on taken r.sent r.stands).pieced; arrive = arrived_on new a })

      rest_is : (taken ++ take count chunk) ++ drop count chunk ≡ taken ++ chunk
      rest_is = append_assoc taken (take count chunk) (drop count chunk) ∙ ap (λ l. taken ++ l) (take-append-drop count chunk)

      are_first : (some others : List Arrival) → Arrive r.sent (sent_by session (take count chunk)) (some ++ others) → AreFirst hub.sessions (taken ++ chunk) (r.arrivals ++ some)
      are_first some others a =
          let b = subst (λ l. Brings hub.sessions (taken ++ take count chunk) l (stop_of hub'.standing)) (sym (append_assoc r.arrivals some others)) (brings_on (some ++ others) a) in
          subst (λ l. AreFirst hub.sessions l (r.arrivals ++ some)) rest_is
          (first_of hub.sessions (taken ++ take count chunk) (drop count chunk) (r.arrivals ++ some) others (stop_of hub'.standing) b)

      pub runs_bytes : (slot : Slot) → HearsAll turns executes works session (take count chunk) r.sent slot now after o1 o2 p p2
          → Running turns executes works first after o o2 p2 (taken ++ take count chunk) hub' (set all session slot)
      runs_bytes slot h = record {
        sent = r.sent ++ sent_by session (take count chunk);
        stands = s.goes_on taken r.sent r.stands;
        arrivals = r.arrivals ++ h.arrivals;
        arrived = arrived_on h.arrivals h.arrive;
        tells = tells_then turns executes works first now o o1 [] p r.arrivals r.tells after o2 p2 h.arrivals h.tells;
        many = length-set all session slot ∙ many_on s.sessions;
        heard = all_heard r.sent (take count chunk) session slot all within r.heard h.heard;
      }

      pub stops_part : HearsPart turns executes works session (take count chunk) r.sent now after o1 o2 p → StopsPart turns executes works hub.sessions first o o2 (taken ++ chunk)
      stops_part h = record {
        some = r.arrivals ++ h.some;
        are = are_first h.some h.others h.arrive;
        last = after;
        fails = fails_then turns executes works first now o o1 [] p r.arrivals r.tells after o2 h.some h.fails;
      }

      pub stops_first : HearsFirst turns executes works session (take count chunk) r.sent now o1 o2 p p2 → StopsFirst turns executes works hub.sessions first o o2 p2 (taken ++ chunk)
      stops_first h = record {
        some = r.arrivals ++ h.some;
        are = are_first h.some h.others h.arrive;
        last = h.there;
        tells = tells_then turns executes works first now o o1 [] p r.arrivals r.tells h.there o2 p2 h.some h.tells;
      }

  -- ---- from the start of the bytes taken at once

  -- what runs so far runs on
  abbrev pub RunsTo : (bytes : List ℕ) (hub hub' : Hubbed) (all all' : List Slot) (before now : Timed E) (old new : SinkSeen) (pending pending' : List ℕ) → Type 0
  RunsTo bytes hub hub' all all' before now old new pending pending' =
      (first : Timed E) (o : SinkSeen) (taken : List ℕ) → Running turns executes works first before o old pending taken hub all
      → Running turns executes works first now o new pending' (taken ++ bytes) hub' all'

  pub runs_start : (hub : Hubbed) (all : List Slot) (e : Timed E) (o : SinkSeen) (p : List ℕ) → RunsTo [] hub hub all all e e o o p p
  runs_start hub all e o p = λ first o0 taken r. subst (λ l. Running turns executes works first e o0 o p l hub all) (sym (append-nil taken)) r

  module _ (bytes : List ℕ) (at : ℕ) (hub hub1 hub2 : Hubbed) (all all1 : List Slot) (e e1 : Timed E) (o o1 : SinkSeen) (p p1 : List ℕ) (f : RunsTo (take at bytes) hub hub1 all all1 e e1 o o1 p p1) where
    on : (taken : List ℕ) (k : ℕ) → (taken ++ take at bytes) ++ take k (drop at bytes) ≡ taken ++ take (at + k) bytes
    on taken k = append_assoc taken (take at bytes) (take k (drop at bytes)) ∙ ap (λ l. taken ++ l) (sym (take-add at k bytes))

    to_end : (taken : List ℕ) → (taken ++ take at bytes) ++ drop at bytes ≡ taken ++ bytes
    to_end taken = append_assoc taken (take at bytes) (drop at bytes) ∙ ap (λ l. taken ++ l) (take-append-drop at bytes)

    pub to_head : Steps hub1 (drop at bytes) steps.Head hub2 → RunsTo (take (at + 1) bytes) hub hub2 all all1 e e1 o o1 p p1
    to_head s = λ first o0 taken r.
        subst (λ l. Running turns executes works first e1 o0 o1 p1 l hub2 all1) (on taken 1)
        (runs_head first e1 o0 o1 p1 (taken ++ take at bytes) hub1 hub2 all1 (f first o0 taken r) (drop at bytes) s)

    pub to_unknown : Steps hub1 (drop at bytes) steps.Unknown hub2 → RunsTo (take (length bytes) bytes) hub hub2 all all1 e e1 o o1 p p1
    to_unknown s = λ first o0 taken r.
        subst (λ l. Running turns executes works first e1 o0 o1 p1 l hub2 all1) (to_end taken ∙ ap (λ l. taken ++ l) (sym (take_all (length bytes) bytes (omega arith))))
        (runs_unknown first e1 o0 o1 p1 (taken ++ take at bytes) hub1 hub2 all1 (f first o0 taken r) (drop at bytes) s)

    -- all bytes were passed over
    pub runs_all : length bytes ≤ at → RunsTo bytes hub hub1 all all1 e e1 o o1 p p1
    runs_all ends = subst (λ l. RunsTo l hub hub1 all all1 e e1 o o1 p p1) (take_all at bytes ends) f

    module _ (session count : ℕ) (s : Steps hub1 (drop at bytes) (steps.Bytes session count) hub2) (piece : List ℕ) (is : piece ≡ take count (drop at bytes)) (slot : Slot)
        (was : slot ≡ get_or all1 session slots.Ended) where
      known : (first : Timed E) (o0 : SinkSeen) (taken : List ℕ) → Running turns executes works first e o0 o p taken hub all → session < length all1
      known first o0 taken r = let k = s.tells.0 in let m = (f first o0 taken r).many in omega (arith, k, m)

      kept : (first : Timed E) (o0 : SinkSeen) (taken : List ℕ) (r : Running turns executes works first e o0 o p taken hub all) → HeardAs session (f first o0 taken r).sent slot
      kept first o0 taken r = subst (HeardAs session (f first o0 taken r).sent) (sym was) ((f first o0 taken r).heard session (known first o0 taken r))

      pub to_bytes : (slot' : Slot) (e2 : Timed E) (o2 : SinkSeen) (p2 : List ℕ) → Hears turns executes works session piece slot slot' e1 e2 o1 o2 p1 p2 heard.On
          → RunsTo (take (at + count) bytes) hub hub2 all (set all1 session slot') e e2 o o2 p p2
      to_bytes slot' e2 o2 p2 h = λ first o0 taken r.
          let now = f first o0 taken r in
          let heard = subst (λ l. HearsAll turns executes works session l now.sent slot' e1 e2 o1 o2 p1 p2) is (h.0 now.sent (kept first o0 taken r)) in
          subst (λ l. Running turns executes works first e2 o0 o2 p2 l hub2 (set all1 session slot')) (on taken count)
          (runs_bytes first e1 o0 o1 p1 (taken ++ take at bytes) hub1 hub2 all1 now (drop at bytes) session count s e2 o2 p2 slot' heard)

      pub to_fault : (e2 : Timed E) (o2 : SinkSeen) → hub1.sessions ≡ hub.sessions → Hears turns executes works session piece slot slots.Ended e1 e2 o1 o2 p1 [] heard.Fault
          → (first : Timed E) (o0 : SinkSeen) (taken : List ℕ) → Running turns executes works first e o0 o p taken hub all → StopsPart turns executes works hub.sessions first o0 o2 (taken ++ bytes)
      to_fault e2 o2 same h = λ first o0 taken r.
          let now = f first o0 taken r in
          let heard = subst (λ l. HearsPart turns executes works session l now.sent e1 e2 o1 o2 p1) is (h now.sent (kept first o0 taken r)) in
          subst (λ n. StopsPart turns executes works n first o0 o2 (taken ++ bytes)) same
          (subst (StopsPart turns executes works hub1.sessions first o0 o2) (to_end taken)
          (stops_part first e1 o0 o1 p1 (taken ++ take at bytes) hub1 hub2 all1 now (drop at bytes) session count s e2 o2 [] heard))

      pub to_memory : (o2 : SinkSeen) (p2 : List ℕ) → hub1.sessions ≡ hub.sessions → Hears turns executes works session piece slot slots.Ended e1 e1 o1 o2 p1 p2 heard.Memory
          → (first : Timed E) (o0 : SinkSeen) (taken : List ℕ) → Running turns executes works first e o0 o p taken hub all → StopsFirst turns executes works hub.sessions first o0 o2 p2 (taken ++ bytes)
      to_memory o2 p2 same h = λ first o0 taken r.
          let now = f first o0 taken r in
          let heard = subst (λ l. HearsFirst turns executes works session l now.sent e1 o1 o2 p1 p2) is (h now.sent (kept first o0 taken r)) in
          subst (λ n. StopsFirst turns executes works n first o0 o2 p2 (taken ++ bytes)) same
          (subst (StopsFirst turns executes works hub1.sessions first o0 o2 p2) (to_end taken)
          (stops_first first e1 o0 o1 p1 (taken ++ take at bytes) hub1 hub2 all1 now (drop at bytes) session count s e1 o2 p2 heard))

  -- ---- what is pending is put

  module _ (bytes : List ℕ) (count : ℕ) (hub hub' : Hubbed) (all all' : List Slot) (e e1 : Timed E) (o o1 o2 : SinkSeen) (p p1 p2 : List ℕ) (none : p ≡ []) where
    abbrev Does : Heard → Type 0
    Does result = ServesChunk turns executes works bytes count hub hub' all all' e e1 o o2 [] [] result

    was : (first : Timed E) (o0 : SinkSeen) (taken : List ℕ) → Running turns executes works first e o0 o [] taken hub all → Running turns executes works first e o0 o p taken hub all
    was first o0 taken r = subst (λ q. Running turns executes works first e o0 o q taken hub all) (sym none) r

    pub puts_on : hub'.sessions ≡ hub.sessions → (result : Heard) → ServesChunk turns executes works bytes count hub hub' all all' e e1 o o1 p p1 heard.On → Finishes o1 o2 p1 p2 heard.On result
        → ServesChunk turns executes works bytes count hub hub' all all' e e1 o o2 [] [] result
    puts_on same result c (HasPut is put empty) =
        subst Does (sym is) (
          λ first o0 taken r.
              let now = c.0 first o0 taken (was first o0 taken r) in
              record {
                sent = now.sent;
                stands = now.stands;
                arrivals = now.arrivals;
                arrived = now.arrived;
                tells = tells_put turns executes works first e1 o0 o1 [] p1 now.arrivals now.tells o2 put;
                many = now.many;
                heard = now.heard;
              },
          c.1,
        )
    puts_on same result c (Failed is front) =
        subst Does (sym is)
        (λ first o0 taken r.
        let now = c.0 first o0 taken (was first o0 taken r) in
        record {
          some = now.arrivals;
          are =
              subst (λ n. AreFirst n (taken ++ bytes) now.arrivals) same
              (all_of hub'.sessions (taken ++ bytes) now.arrivals (stop_of hub'.standing) (brings_of first e1 o0 o1 p1 (taken ++ bytes) hub' all' now));
          last = e1;
          fails = fails_put turns executes works first e1 o0 o1 [] p1 now.arrivals now.tells o2 front;
        })

    pub puts_memory : (result : Heard) → ServesChunk turns executes works bytes count hub hub' all all' e e1 o o1 p p1 heard.Memory → Finishes o1 o2 p1 p2 heard.Memory result
        → ServesChunk turns executes works bytes count hub hub' all all' e e1 o o2 [] [] result
    puts_memory result c (HasPut is put empty) =
        subst Does (sym is)
        (λ first o0 taken r.
        let s = c first o0 taken (was first o0 taken r) in
        record { some = s.some; are = s.are; last = s.last; tells = tells_put turns executes works first s.last o0 o1 [] p1 s.some s.tells o2 put })
    puts_memory result c (Failed is front) =
        subst Does (sym is)
        (λ first o0 taken r.
        let s = c first o0 taken (was first o0 taken r) in
        record { some = s.some; are = s.are; last = s.last; fails = fails_put turns executes works first s.last o0 o1 [] p1 s.some s.tells o2 front })

-- nothing is pending where the run goes on
pub all_put : (o o1 : SinkSeen) (p p1 : List ℕ) (wanted result : Heard) → Finishes o o1 p p1 wanted result → AllPut p1 result
all_put o o1 p p1 wanted heard.On (HasPut is put none) = none
all_put o o1 p p1 wanted heard.On (Failed is front) = absurd (cc is)
all_put o o1 p p1 wanted heard.Fault f = tt
all_put o o1 p p1 wanted heard.Memory f = tt
