-- How a run ends.
use Rattle.std.proofs.Common.{◌≡◌, ◌≢◌, ◌<◌, ◌≤◌, ◌^◌, ◌-◌, ◌+◌, ℕ, List, [], ◌++◌, min, true, false, length, take, get_or, refl, sym, ap, subst, ◌∙◌, inl, inr, arith, append-nil, length-append, length-take}
use Rattle.std.specs.Io.KnownBytes.{Consumes, IsAtEnd}
use Rattle.std.proofs.KnownBytes.{Consumes-nil}
use Rattle.std.proofs.lemmas.List.{length-take-le, length-replicate, get_or-replicate}
use Rattle.outside.specs.Counts.{Rose}
use Rattle.outside.specs.Streams.{SourceSeen, SinkSeen, TakesAll, TakesNone}
use Rattle.outside.specs.declared.pacing.Plan.{Plan}
use Rattle.outside.proofs.Takings.{takes_nothing, takes_then, takes_none}
use Rattle.plain_world.specs.Words.{Words}
use Rattle.plain_world.specs.declared.reply.Part.{Part}
use Rattle.plain_sessions.specs.Arrivals.{Sent, bytes_of}
use Rattle.plain_sessions.specs.Pieces.{Outside, Pieced}
use Rattle.resp_frames.specs.Ends.{Whole, Cut, IsCut, Frames}
use Rattle.resp_frames.specs.Frames.{requests}
use Rattle.resp_frames.specs.Puts.{PutsAll}
use Rattle.resp_frames.proofs.Putting.{all_nothing}
use Rattle.resp_frames.proofs.Streams.{one_frames}
use Rattle.serving.specs.Timed.{Timed}
use Rattle.serving.specs.declared.ending.Ended.{Ended}
use Rattle.serving.specs.declared.ending.Ended.TheVariants as plain
use Rattle.serving.proofs.Onward.{onward_all}
use Rattle.session_hub.specs.Standing.{Standing, AtHead, stop_of, StandsAt}
use Rattle.session_hub.specs.Stepping.{Hubbed}
use Rattle.sessions.specs.declared.slot.Slot.{Slot}
use Rattle.sessions.specs.declared.slot.Slot.TheVariants as slots
use Rattle.sessions.specs.declared.hearing.Heard.TheVariants as heard
use Rattle.sessions.specs.declared.ending.SessionsEnded.{SessionsEnded}
use Rattle.sessions.specs.declared.ending.SessionsEnded.TheVariants as endings
use Rattle.sessions.specs.Way.{units_told}
use Rattle.sessions.specs.Slots.{fed_of, AreIdle, IsHalf}
use Rattle.sessions.specs.Hearing.{HeardAs}
use Rattle.sessions.specs.Chunks.{AllHeard, FedAtMost, Running, StopsPart, StopsFirst, ServesChunk, TakesBytes, IsUnknownNow, EndsThere, at_piece, at_request, at_outside}
use Rattle.sessions.specs.Served.{IsCutSession, IsCutInput, in_piece, in_request, EndsInput, cut, not_cut, EndsBy, unknown, at_limit, take_fails, finds_end, Counts, answered, write_fault, no_memory, Served}
use Rattle.sessions.proofs.Ways.{tells_nothing}

-- ---- whether the input is cut

module _ (number : ℕ) (sent : List Sent) where
  -- a session of which a part of a request is kept stops inside it
  half_cut : (slot : Slot) → HeardAs number sent slot → IsHalf slot → IsCutSession number sent
  half_cut slots.Idle h half = absurd half
  half_cut (slots.Open feeder) h half =
      let begun : IsCut feeder.kept = elim h.1 [ inl none ↦ absurd (half none) | inr c ↦ c ] in
      record {
        asked = requests h.0.items;
        frames = record { items = h.0.items; rest = feeder.kept; framed = h.0.framed; are = refl; ends = begun };
        go_on = h.0.go_on;
      }
  half_cut slots.Ended h half = absurd half

  whole_uncut : (asked other : List Words) → Frames (bytes_of number sent) asked Whole → Frames (bytes_of number sent) other Cut → ⊥
  whole_uncut asked other f g =
      let same = one_frames (bytes_of number sent) asked other Whole Cut f g in
      let is : Whole ≡ Cut = same.1 in
      cc

  -- and no other does
  cut_half : (slot : Slot) → HeardAs number sent slot → IsCutSession number sent → IsHalf slot
  cut_half slots.Idle h c =
      absurd (whole_uncut [] c.asked (record { items = []; rest = []; framed = record { whole = h; each = tt }; are = refl; ends = refl }) c.frames)
  cut_half (slots.Open feeder) h c = elim h.1 [
    | inl none ↦ absurd (whole_uncut (requests h.0.items) c.asked (record { items = h.0.items; rest = feeder.kept; framed = h.0.framed; are = refl; ends = none }) c.frames)
    | inr begun ↦ begun.some
  ]
  cut_half slots.Ended h c =
      absurd (h.never_cut [] c.asked (subst (λ l. Frames l c.asked Cut) (sym (append-nil (bytes_of number sent))) c.frames) c.go_on)

ends_input : (sessions : ℕ) (standing : Standing) (sent : List Sent) (all : List Slot) (ended : Ended) → length all ≡ sessions → AllHeard sent all → EndsThere standing all ended
    → EndsInput sessions (stop_of standing) sent ended
ends_input sessions standing sent all ended many each (at_piece stop is) = cut (in_piece stop) is
ends_input sessions standing sent all ended many each (at_request half is) =
    let small = half.1 in
    cut (in_request half.0 (omega (arith, small, many)) (half_cut half.0 sent (get_or all half.0 slots.Ended) (each half.0 half.1) half.2)) is
ends_input sessions standing sent all ended many each (at_outside stop none is) = not_cut no is
  where
    no : IsCutInput sessions (stop_of standing) sent → ⊥
    no (in_piece inside) = stop inside
    no (in_request number small c) =
        let within : number < length all = omega (arith, small, many) in
        none number within (cut_half number sent (get_or all number slots.Ended) (each number within) c)

module _ {E : Type 0} (turns : ℕ → E → E → Type 0) (executes : ℕ → E → Words → List Part → E → Type 0) (works : ℕ → Plan → E → E → Type 0) where
  -- what serving keeps from take to take
  pub record Serving (sessions : ℕ) (first now : Timed E) (i i1 : SourceSeen) (o o1 : SinkSeen) (count : ℕ) (hub : Hubbed) (all : List Slot) : Type 0 where
    pub taken : List ℕ
    pub took : TakesAll i i1 taken
    pub counted : length taken ≡ count
    pub same : hub.sessions ≡ sessions
    pub running : Running turns executes works first now o o1 [] taken hub all
    pub fed : FedAtMost count all

  stands_first : (n : ℕ) → StandsAt n [] [] (AtHead [])
  stands_first n = record { pieced = record { pieces = []; rest = []; each = tt; whole = refl; stands = refl; brings = refl }; rest = record { is = refl; short = omega arith } }

  pub serving_starts : (first : Timed E) (i : SourceSeen) (o : SinkSeen) (hub : Hubbed) (all : List Slot) → hub.standing ≡ AtHead [] → AreIdle hub.sessions all
      → Serving hub.sessions first first i i o o 0 hub all
  serving_starts first i o hub all at idle =
      let long : length all ≡ hub.sessions = ap (λ (l : List Slot). length l) idle ∙ length-replicate hub.sessions slots.Idle in
      let idle_at : (number : ℕ) → number < length all → get_or all number slots.Ended ≡ slots.Idle = λ number small.
      ap (λ l. get_or l number slots.Ended) idle ∙ get_or-replicate hub.sessions number slots.Idle slots.Ended (omega (arith, small, long)) in
      record {
        taken = [];
        took = takes_nothing i;
        counted = refl;
        same = refl;
        running = record {
          sent = [];
          stands = subst (StandsAt hub.sessions [] []) (sym at) (stands_first hub.sessions);
          arrivals = [];
          arrived = refl;
          tells = tells_nothing turns executes works first o [];
          many = long;
          heard = λ number small. subst (HeardAs number []) (sym (idle_at number small)) refl;
        };
        fed = λ number small. let none : fed_of (get_or all number slots.Ended) ≡ 0 = ap fed_of (idle_at number small) in omega (arith, none);
      }

  module _ (sessions : ℕ) (first now : Timed E) (limit : ℕ) (i i1 : SourceSeen) (o o1 : SinkSeen) (count : ℕ) (hub : Hubbed) (all : List Slot)
      (s : Serving sessions first now i i1 o o1 count hub all) where
    -- more is taken and served
    module _ (i2 : SourceSeen) (most k : ℕ) (into : List ℕ) (t : TakesBytes i1 i2 most k into) (within : count + k ≤ limit) where
      long : length (take k into) ≡ k
      long = let few = t.few in let l = t.long in length-take-le k into (omega (arith, few, l))

      counted_on : length (s.taken ++ take k into) ≡ count + k
      counted_on = let n = length-append s.taken (take k into) in let c = s.counted in let l = long in omega (arith, n, c, l)

      took_on : TakesAll i i2 (s.taken ++ take k into)
      took_on = takes_then i i1 i2 s.taken (take k into) s.took t.took

      few_on : length (s.taken ++ take k into) ≤ limit
      few_on = let n = counted_on in omega (arith, n, within)

      pub serving_on : (now' : Timed E) (o2 : SinkSeen) (hub' : Hubbed) (all' : List Slot) → hub'.sessions ≡ hub.sessions
          → ServesChunk turns executes works (take k into) count hub hub' all all' now now' o1 o2 [] [] heard.On → Serving sessions first now' i i2 o o2 (count + k) hub' all'
      serving_on now' o2 hub' all' same c = record {
        taken = s.taken ++ take k into;
        took = took_on;
        counted = counted_on;
        same = same ∙ s.same;
        running = c.0 first o s.taken s.running;
        fed = subst (λ n. FedAtMost (count + n) all') long c.1;
      }

      pub ends_fault : (now' : Timed E) (o2 : SinkSeen) → ServesChunk turns executes works (take k into) count hub hub all all now now o1 o2 [] [] heard.Fault
          → Served turns executes works sessions limit i i2 o o2 first now' (endings.Plain plain.WriteFault)
      ends_fault now' o2 c =
          let stops = subst (λ n. StopsPart turns executes works n first o o2 (s.taken ++ take k into)) s.same (c first o s.taken s.running) in
          record {
            taken = s.taken ++ take k into;
            took = took_on.told;
            few = few_on;
            sent = stops.are.brings.sent;
            stop = stops.are.stop;
            pieced = stops.are.brings.pieced;
            arrivals = stops.are.arrivals;
            arrive = stops.are.brings.arrive;
            ends = write_fault (record {
              tolds = stops.fails.tolds;
              others = stops.are.others;
              split = stops.are.split ∙ ap (λ l. l ++ stops.are.others) (sym stops.fails.are);
              last = stops.last;
              went = stops.fails.went;
              wrote = stops.fails.wrote;
            }) refl;
            counts = (took_on.faults, stops.fails.wrote.rose);
          }

      pub ends_memory : (now' : Timed E) (o2 : SinkSeen) → ServesChunk turns executes works (take k into) count hub hub all all now now o1 o2 [] [] heard.Memory
          → Served turns executes works sessions limit i i2 o o2 first now' (endings.Plain plain.Memory)
      ends_memory now' o2 c =
          let stops = subst (λ n. StopsFirst turns executes works n first o o2 [] (s.taken ++ take k into)) s.same (c first o s.taken s.running) in
          let wrote = onward_all o o2 (units_told stops.tells.tolds) stops.tells.wrote in
          record {
            taken = s.taken ++ take k into;
            took = took_on.told;
            few = few_on;
            sent = stops.are.brings.sent;
            stop = stops.are.stop;
            pieced = stops.are.brings.pieced;
            arrivals = stops.are.arrivals;
            arrive = stops.are.brings.arrive;
            ends = no_memory (record {
              tolds = stops.tells.tolds;
              others = stops.are.others;
              split = stops.are.split ∙ ap (λ l. l ++ stops.are.others) (sym stops.tells.are);
              last = stops.last;
              went = stops.tells.went;
              wrote = wrote;
            }) refl;
            counts = (took_on.faults, wrote.faults);
          }

    -- all is answered, and the run ends
    wrote_all : PutsAll o o1 (units_told s.running.tells.tolds)
    wrote_all = onward_all o o1 (units_told s.running.tells.tolds) s.running.tells.wrote

    concludes : (i2 : SourceSeen) (ended : SessionsEnded) → Consumes i.told i2.told s.taken → count ≤ limit
        → EndsBy sessions limit s.taken (stop_of hub.standing) s.running.sent i2.told ended → Counts i i2 o o1 ended
        → Served turns executes works sessions limit i i2 o o1 first now ended
    concludes i2 ended took few by counts = record {
      taken = s.taken;
      took = took;
      few = let c = s.counted in omega (arith, c, few);
      sent = s.running.sent;
      stop = stop_of hub.standing;
      pieced = subst (λ n. Pieced n s.taken s.running.sent (stop_of hub.standing)) s.same s.running.stands.pieced;
      arrivals = s.running.arrivals;
      arrive = s.running.arrived;
      ends = answered (record { tolds = s.running.tells.tolds; are = s.running.tells.are; went = s.running.tells.went; wrote = wrote_all }) by;
      counts = counts;
    }

    pub ends_unknown : count ≤ limit → IsUnknownNow hub.standing true → Served turns executes works sessions limit i i1 o o1 first now endings.Unknown
    ends_unknown few is = concludes i1 endings.Unknown s.took.told few (unknown is refl) (s.took.faults, wrote_all.faults)

    pub ends_limit : count ≤ limit → IsUnknownNow hub.standing false → count ≡ limit → Served turns executes works sessions limit i i1 o o1 first now (endings.Plain plain.Limit)
    ends_limit few known is = concludes i1 (endings.Plain plain.Limit) s.took.told few (at_limit known (s.counted ∙ is) refl) (s.took.faults, wrote_all.faults)

    below : (count ≡ limit → ⊥) → length s.taken ≢ limit
    below not = λ is. not (sym s.counted ∙ is)

    pub ends_read_fault : count ≤ limit → IsUnknownNow hub.standing false → (count ≡ limit → ⊥) → (i2 : SourceSeen) → TakesNone i1 i2
        → Served turns executes works sessions limit i i2 o o1 first now (endings.Plain plain.ReadFault)
    ends_read_fault few known not i2 t =
        concludes i2 (endings.Plain plain.ReadFault) (takes_none i i1 i2 s.taken s.took t.told) few (take_fails known (below not) refl)
        ((subst (λ f. Rose f i2.faults) s.took.faults t.rose, λ sure. t.unsure (s.took.sure sure)), wrote_all.faults)

    counts_end : (i2 : SourceSeen) (ended : Ended) → i2.faults ≡ i.faults → EndsThere hub.standing all ended → Counts i i2 o o1 (endings.Plain ended)
    counts_end i2 ended reads (at_piece stop is) = subst (λ e. Counts i i2 o o1 (endings.Plain e)) (sym is) (reads, wrote_all.faults)
    counts_end i2 ended reads (at_request half is) = subst (λ e. Counts i i2 o o1 (endings.Plain e)) (sym is) (reads, wrote_all.faults)
    counts_end i2 ended reads (at_outside stop none is) = subst (λ e. Counts i i2 o o1 (endings.Plain e)) (sym is) (reads, wrote_all.faults)

    pub ends_end : count ≤ limit → IsUnknownNow hub.standing false → (count ≡ limit → ⊥) → (i2 : SourceSeen) → TakesAll i1 i2 [] → IsAtEnd i2.told → (ended : Ended) → EndsThere hub.standing all ended
        → Served turns executes works sessions limit i i2 o o1 first now (endings.Plain ended)
    ends_end few known not i2 t end ended there =
        concludes i2 (endings.Plain ended) (takes_none i i1 i2 s.taken s.took t.told) few
        (finds_end known (below not) end ended (ends_input sessions hub.standing s.running.sent all ended (s.running.many ∙ s.same) s.running.heard there) refl)
        (counts_end i2 ended (t.faults ∙ s.took.faults) there)

  -- want of memory before anything is taken
  pub ends_at_once : (sessions limit : ℕ) (first last : Timed E) (i : SourceSeen) (o : SinkSeen) → Served turns executes works sessions limit i i o o first last (endings.Plain plain.Memory)
  ends_at_once sessions limit first last i o = record {
    taken = [];
    took = Consumes-nil i.told;
    few = omega arith;
    sent = [];
    stop = Outside;
    pieced = record { pieces = []; rest = []; each = tt; whole = refl; stands = refl; brings = refl };
    arrivals = [];
    arrive = refl;
    ends = no_memory (record { tolds = []; others = []; split = refl; last = first; went = refl; wrote = all_nothing o }) refl;
    counts = (refl, refl);
  }

-- ---- how much is taken at once

pub taken_within : (m limit taken k : ℕ) → m ≡ min (limit - taken) 65536 → taken ≤ limit → k ≤ m → taken + k ≤ limit
taken_within m limit taken k e le h = omega (arith, e, le, h)

-- where the limit isn't reached there is room for a byte at least
pub most_some : (m limit taken : ℕ) → m ≡ min (limit - taken) 65536 → taken ≤ limit → (taken ≡ limit → ⊥) → 0 < m
most_some m limit taken e le not = omega arith

-- what was taken and the next bytes come to 2^62 at most
pub few_left : (m limit taken k : ℕ) (room : List ℕ) → m ≡ min (limit - taken) 65536 → taken ≤ limit → k ≤ m → limit ≤ 2 ^ 62 → taken + length (take k room) ≤ 2 ^ 62
few_left m limit taken k room e le h small = let n = length-take k room in omega (arith, e, le, h, small, n)
