-- What the hearing of one session's bytes comes to.
use Rattle.std.proofs.Common.{◌≡◌, ℕ, ◌+◌, ◌≤◌, List, [], ◌∷◌, ◌++◌, map, length, ◌⊎◌, refl, sym, ap, subst, ◌∙◌, append-nil, arith}
use Rattle.std.specs.Prelude.{None}
use Rattle.std.proofs.Common.{length-append}
use Rattle.std.proofs.lemmas.List.{map-append}
use Rattle.outside.specs.Streams.{SinkSeen}
use Rattle.outside.specs.declared.pacing.Plan.{Plan}
use Rattle.plain_world.specs.Words.{Words}
use Rattle.plain_world.specs.declared.reply.Part.{Part}
use Rattle.plain_sessions.specs.Arrivals.{Sent, sent_by, Asks, Breaks, arrival, Arrive}
use Rattle.plain_sessions.specs.Units.{unit}
use Rattle.plain_sessions.proofs.Arriving.{arrive_there}
use Rattle.resp_frames.specs.Ends.{IsCut}
use Rattle.resp_frames.specs.FaultLines.{fault_line}
use Rattle.resp_frames.specs.Feeding.{Feeding, SameFed}
use Rattle.resp_frames.specs.Frames.{Item, Framed, requests}
use Rattle.resp_frames.specs.Puts.{PutsFront}
use Rattle.resp_frames.specs.declared.rule.Rule.{Rule}
use Rattle.serving.specs.Answering.{IsBroken}
use Rattle.serving.specs.Output.{Onward}
use Rattle.serving.specs.Timed.{Timed}
use Rattle.session_hub.proofs.Heard.{ended_brings, heard_more, more_arrive, fault_arrives, fault_ends, quit_arrives, quit_ends}
use Rattle.sessions.specs.declared.slot.Slot.{Slot}
use Rattle.sessions.specs.declared.slot.Slot.TheVariants as slots
use Rattle.sessions.specs.declared.hearing.Heard.TheVariants as heard
use Rattle.sessions.specs.Way.{whole}
use Rattle.sessions.specs.Telling.{Tells, Fails}
use Rattle.sessions.specs.Answering.{Serves, Quits, BreaksOff}
use Rattle.sessions.specs.Slots.{fed_of, Feeds}
use Rattle.sessions.specs.Hearing.{IsOver, HeardAs, Hears}
use Rattle.sessions.proofs.Ways.{tells_nothing, tells_then, fails_then}
use Rattle.sessions.proofs.Answered.{asked_by}
use Rattle.sessions.proofs.Over.{over_stays, quit_over, fault_over, some_arrive, last_arrives, opened_heard}

fed_is : (slot : Slot) (feeder : Feeding) → Feeds slot feeder → feeder.gone + length feeder.kept ≡ fed_of slot
fed_is slots.Idle feeder is = ap (λ (f : Feeding). f.gone + length f.kept) is
fed_is (slots.Open feeder') feeder is = ap (λ (f : Feeding). f.gone + length f.kept) is
fed_is slots.Ended feeder is = absurd is

-- a feeder may be fed as much as its slot
pub may_feed : (slot : Slot) (feeder : Feeding) (n most : ℕ) → Feeds slot feeder → fed_of slot + n ≤ most → feeder.gone + length feeder.kept + n ≤ most
may_feed slot feeder n most is few = let e = fed_is slot feeder is in omega (arith, e, few)

module _ {E : Type 0} (turns : ℕ → E → E → Type 0) (executes : ℕ → E → Words → List Part → E → Type 0) (works : ℕ → Plan → E → E → Type 0) (session : ℕ) (bytes : List ℕ) where
  -- bytes of a session that has ended are passed over
  pub hears_ended : (slot slot' : Slot) (e : Timed E) (o : SinkSeen) (p : List ℕ) → slot ≡ slots.Ended → slot' ≡ slots.Ended
      → Hears turns executes works session bytes slot slot' e e o o p p heard.On
  hears_ended slot slot' e o p is left = (
    λ sent h.
        let over : IsOver session sent = subst (HeardAs session sent) is h in
        record {
          arrivals = [];
          arrive = ended_brings session sent bytes over.ended;
          tells = tells_nothing turns executes works e o p;
          heard = subst (HeardAs session (sent ++ sent_by session bytes)) (sym left) (over_stays session sent bytes over);
        },
    subst (λ s. fed_of s ≤ fed_of slot + length bytes) (sym left) (omega arith),
  )

  -- want of memory before anything is fed
  pub hears_nothing : (slot : Slot) (e : Timed E) (o : SinkSeen) (p : List ℕ) → Hears turns executes works session bytes slot slots.Ended e e o o p p heard.Memory
  hears_nothing slot e o p = λ sent h.
      let there = arrive_there sent (sent_by session bytes) in
      record { some = []; others = there.0; there = e; arrive = there.1; tells = tells_nothing turns executes works e o p }

  -- the line of a broken rule
  tells_line : (e : Timed E) (rule : Rule) (at : ℕ) (o o1 : SinkSeen) (p p1 : List ℕ) → Onward o o1 p p1 (unit session (fault_line rule at))
      → Tells turns executes works e e o o1 p p1 (arrival session (Breaks rule at) ∷ [])
  tells_line e rule at o o1 p p1 wrote =
      let W : List ℕ → Type 0 = λ l. Onward o o1 p p1 l in
      record {
        tolds = record { arrival = arrival session (Breaks rule at); reply = [] } ∷ [];
        are = refl;
        went = (e, (refl, refl), refl);
        wrote = subst W (sym (append-nil (unit session (fault_line rule at)))) wrote;
      }

  fails_line : (e : Timed E) (rule : Rule) (at : ℕ) (o o1 : SinkSeen) (p : List ℕ) → PutsFront o o1 (p ++ unit session (fault_line rule at))
      → Fails turns executes works e e o o1 p (arrival session (Breaks rule at) ∷ [])
  fails_line e rule at o o1 p front =
      let W : List ℕ → Type 0 = λ l. PutsFront o o1 (p ++ l) in
      record {
        tolds = record { arrival = arrival session (Breaks rule at); reply = [] } ∷ [];
        are = refl;
        went = whole (e, (refl, refl), refl);
        wrote = subst W (sym (append-nil (unit session (fault_line rule at)))) front;
      }

  -- requests, and behind them a broken rule
  asked_broken : (words : List Words) (rule : Rule) (at : ℕ) → asked_by session words ++ arrival session (Breaks rule at) ∷ [] ≡ map (arrival session) (map Asks words ++ Breaks rule at ∷ [])
  asked_broken words rule at = sym (map-append (arrival session) (map Asks words) (Breaks rule at ∷ []))

  -- bytes are fed to the slot's feeder
  module _ (slot : Slot) (f0 f1 : Feeding) (feeds : Feeds slot f0) (fed : f1 ≡ record { gone = f0.gone; kept = f0.kept ++ bytes; current = None }) where
    kept_is : f1.kept ≡ f0.kept ++ bytes
    kept_is = ap (λ (f : Feeding). f.kept) fed

    fed_same : (f2 : Feeding) → SameFed f1 f2 → f2.gone + length f2.kept ≡ f0.gone + length (f0.kept ++ bytes)
    fed_same f2 same = same ∙ ap (λ (f : Feeding). f.gone + length f.kept) fed

    fed_within : (f2 : Feeding) → SameFed f1 f2 → fed_of (slots.Open f2) ≤ fed_of slot + length bytes
    fed_within f2 same = let a = fed_same f2 same in let b = fed_is slot f0 feeds in let n = length-append f0.kept bytes in omega (arith, a, b, n)

    framed_is : (items : List Item) (rest : List ℕ) → Framed f1.kept items rest → Framed (f0.kept ++ bytes) items rest
    framed_is items rest f = subst (λ l. Framed l items rest) kept_is f

    module _ (e e1 : Timed E) (o o1 : SinkSeen) (p p1 : List ℕ) where
      -- all requests are answered
      pub hears_all : (f2 : Feeding) → Serves turns executes works session f1.kept f2.kept e e1 o o1 p p1 → (f2.kept ≡ []) ⊎ IsCut f2.kept → SameFed f1 f2
          → Hears turns executes works session bytes slot (slots.Open f2) e e1 o o1 p p1 heard.On
      hears_all f2 s unread same = (
        λ sent h.
            let was = opened_heard session sent slot f0 feeds h in
            let framed = framed_is s.items f2.kept s.framed in
            record {
              arrivals = asked_by session (requests s.items);
              arrive = more_arrive session sent bytes f0 was.0 was.1 s.items f2.kept framed s.go_on unread;
              tells = s.tells;
              heard = (heard_more session sent bytes f0 was.0 was.1 s.items f2.kept framed f2 refl (fed_same f2 same) s.go_on, unread);
            },
        fed_within f2 same,
      )

      -- the last one ends the session
      pub hears_quit : (slot' : Slot) → slot' ≡ slots.Ended → Quits turns executes works session f1.kept e e1 o o1 p p1
          → Hears turns executes works session bytes slot slot' e e1 o o1 p p1 heard.On
      hears_quit slot' left q = (
        λ sent h.
            let was = opened_heard session sent slot f0 feeds h in
            let framed = framed_is q.items q.rest q.framed in
            let ended = quit_ends session sent bytes f0 was.0 was.1 q.items q.rest framed q.others q.last q.are q.go_on q.ends in
            record {
              arrivals = asked_by session (q.others ++ q.last ∷ []);
              arrive = quit_arrives session sent bytes f0 was.0 was.1 q.items q.rest framed q.others q.last q.are q.go_on q.ends;
              tells = q.tells;
              heard =
                  subst (HeardAs session (sent ++ sent_by session bytes)) (sym left)
                  (quit_over session sent bytes f0 was.0 was.1 q.items q.rest framed ended q.others q.last q.are q.ends);
            },
        subst (λ s. fed_of s ≤ fed_of slot + length bytes) (sym left) (omega arith),
      )

      -- a unit met a fault
      pub hears_fault : BreaksOff turns executes works session f1.kept e e1 o o1 p → Hears turns executes works session bytes slot slots.Ended e e1 o o1 p [] heard.Fault
      hears_fault b = λ sent h.
          let was = opened_heard session sent slot f0 feeds h in
          let first = last_arrives session sent bytes f0 was.0 was.1 b.items b.rest (framed_is b.items b.rest b.framed) b.others b.last b.are b.go_on in
          record { some = asked_by session (b.others ++ b.last ∷ []); others = first.0; arrive = first.1; fails = b.fails }

      -- want of memory behind some of them
      pub hears_memory : (rest : List ℕ) → Serves turns executes works session f1.kept rest e e1 o o1 p p1
          → Hears turns executes works session bytes slot slots.Ended e e1 o o1 p p1 heard.Memory
      hears_memory rest s = λ sent h.
          let was = opened_heard session sent slot f0 feeds h in
          let first = some_arrive session sent bytes f0 was.0 was.1 s.items rest (framed_is s.items rest s.framed) s.go_on in
          record { some = asked_by session (requests s.items); others = first.0; there = e1; arrive = first.1; tells = s.tells }

      -- behind them a rule is broken
      module _ (f2 : Feeding) (s : Serves turns executes works session f1.kept f2.kept e e1 o o1 p p1) (rule : Rule) (at : ℕ) (b : IsBroken f2 rule at) (same : SameFed f1 f2) where
        place : at + length b.from ≡ f0.gone + length (f0.kept ++ bytes)
        place = b.place ∙ fed_same f2 same

        brings : (sent : List Sent) → HeardAs session sent slot → Arrive sent (sent_by session bytes) (asked_by session (requests s.items) ++ arrival session (Breaks rule at) ∷ [])
        brings sent h =
            let was = opened_heard session sent slot f0 feeds h in
            let framed = framed_is s.items f2.kept s.framed in
            subst (Arrive sent (sent_by session bytes)) (sym (asked_broken (requests s.items) rule at))
            (fault_arrives session sent bytes f0 was.0 was.1 s.items f2.kept framed s.go_on rule at b.from b.fault place)

        over : (sent : List Sent) → HeardAs session sent slot → IsOver session (sent ++ sent_by session bytes)
        over sent h =
            let was = opened_heard session sent slot f0 feeds h in
            let framed = framed_is s.items f2.kept s.framed in
            let ended = fault_ends session sent bytes f0 was.0 was.1 s.items f2.kept framed s.go_on rule at b.from b.fault place in
            fault_over session sent bytes f0 was.0 was.1 s.items f2.kept framed ended s.go_on rule at b.from b.fault place

        pub hears_broken : (slot' : Slot) (o2 : SinkSeen) (p2 : List ℕ) → slot' ≡ slots.Ended → Onward o1 o2 p1 p2 (unit session (fault_line rule at))
            → Hears turns executes works session bytes slot slot' e e1 o o2 p p2 heard.On
        hears_broken slot' o2 p2 left wrote = (
          λ sent h.
              record {
                arrivals = asked_by session (requests s.items) ++ arrival session (Breaks rule at) ∷ [];
                arrive = brings sent h;
                tells =
                    tells_then turns executes works e e1 o o1 p p1 (asked_by session (requests s.items)) s.tells e1 o2 p2 (arrival session (Breaks rule at) ∷ [])
                    (tells_line e1 rule at o1 o2 p1 p2 wrote);
                heard = subst (HeardAs session (sent ++ sent_by session bytes)) (sym left) (over sent h);
              },
          subst (λ s. fed_of s ≤ fed_of slot + length bytes) (sym left) (omega arith),
        )

        pub hears_unwritten : (o2 : SinkSeen) → PutsFront o1 o2 (p1 ++ unit session (fault_line rule at))
            → Hears turns executes works session bytes slot slots.Ended e e1 o o2 p [] heard.Fault
        hears_unwritten o2 front = λ sent h.
            record {
              some = asked_by session (requests s.items) ++ arrival session (Breaks rule at) ∷ [];
              others = [];
              arrive = subst (Arrive sent (sent_by session bytes)) (sym (append-nil (asked_by session (requests s.items) ++ arrival session (Breaks rule at) ∷ []))) (brings sent h);
              fails =
                  fails_then turns executes works e e1 o o1 p p1 (asked_by session (requests s.items)) s.tells e1 o2 (arrival session (Breaks rule at) ∷ [])
                  (fails_line e1 rule at o1 o2 p1 front);
            }
