-- How a run ends.
use Rattle.std.proofs.Common.{◌≡◌, ◌<◌, ◌≤◌, ◌^◌, ◌-◌, ◌+◌, ℕ, List, [], ◌++◌, min, Bool, length, take, refl, sym, ap, subst, ◌∙◌, inl, inr, arith, length-append, length-take, Fits, w64}
use Rattle.std.specs.Prelude.{◌⊎◌}
use Rattle.std.specs.Io.KnownBytes.{Consumes, IsAtEnd}
use Rattle.std.proofs.KnownBytes.{Consumes-nil}
use Rattle.std.proofs.lemmas.List.{append-nil, nil_from_length}
use Rattle.outside.specs.Counts.{Rose}
use Rattle.outside.specs.Streams.{SourceSeen, SinkSeen}
use Rattle.plain_world.specs.Words.{Words}
use Rattle.plain_world.specs.Spelling.{spelled}
use Rattle.plain_world.specs.declared.reply.Part.{Part}
use Rattle.resp_frames.specs.FaultLines.{fault_line}
use Rattle.resp_frames.specs.Frames.{requests}
use Rattle.resp_frames.specs.Ends.{End, Whole, Cut, Fault, EndsAs, IsCut, Frames}
use Rattle.resp_frames.specs.Feeding.{Feeding, SameFed}
use Rattle.resp_frames.specs.Puts.{PutsAll, PutsFront}
use Rattle.resp_frames.proofs.Putting.{all_nothing, all_then, fault_then}
use Rattle.resp_frames.proofs.Streams.{frames_there, requests_first}
use Rattle.resp_frames.specs.declared.rule.Rule.{Rule}
use Rattle.serving.specs.declared.ending.Ended.{Ended}
use Rattle.serving.specs.declared.ending.Ended.TheVariants as endings
use Rattle.serving.specs.Path.{path, CutPath, whole}
use Rattle.serving.specs.Answering.{Serves, Breaks, Quits, IsBroken}
use Rattle.outside.specs.Streams.{TakesAll, TakesNone}
use Rattle.outside.proofs.Takings.{takes_nothing, takes_then, takes_none}
use Rattle.serving.specs.Taking.{IsFresh, TakesPiece, Feeds}
use Rattle.serving.specs.Served.{tail_of, at_limit, take_fails, finds_end, EndsBy, CountsReads, CountsWrites, answered, quit, write_fault, no_memory, Served}
use Rattle.serving.proofs.Onward.{onward_all}
use Rattle.serving.proofs.Runs.{go_on_all, serves_starts, serves_then, serves_more, breaks_then, quits_then}

module _ {E : Type 0} (X C : E → Words → List Part → E → Type 0) (quits : Words → Bool) where
  -- what serving keeps from piece to piece
  pub record Serving (first : E) (i i1 : SourceSeen) (count : ℕ) (feeder : Feeding) (after : E) (o o1 : SinkSeen) : Type 0 where
    pub taken : List ℕ
    pub took : TakesAll i i1 taken
    pub counted : length taken ≡ count
    pub fed : feeder.gone + length feeder.kept ≡ count
    pub serves : Serves X C quits taken feeder.kept first after o o1 [] []

  -- serving starts with no byte taken or fed, and no request answered
  pub serving_starts : (first : E) (i : SourceSeen) (o : SinkSeen) (feeder : Feeding) → IsFresh feeder → Serving first i i 0 feeder first o o
  serving_starts first i o feeder fresh =
      let S : List ℕ → Type 0 = λ r. Serves X C quits [] r first first o o [] [] in
      record {
        taken = [];
        took = takes_nothing i;
        counted = refl;
        fed = omega (arith, fresh.gone, ap length fresh.kept);
        serves = subst S (sym fresh.kept) (serves_starts X C quits [] first o [] refl);
      }

  -- ---- what is served at each ending

  module _ (first : E) (limit : ℕ) (i i2 : SourceSeen) (o o1 : SinkSeen) (taken : List ℕ) (took : Consumes i.told i2.told taken) (few : length taken ≤ limit) where
    -- the frames of the bytes taken are the requests that were served, with the end that the rest has
    frames_of : (rest : List ℕ) (w : E) (s : Serves X C quits taken rest first w o o1 [] []) (end : End) → EndsAs taken rest end → Frames taken (requests s.items) end
    frames_of rest w s end e = record { items = s.items; rest = rest; framed = s.framed; are = refl; ends = e }

    -- all requests are answered
    concludes : (rest : List ℕ) (w : E) (s : Serves X C quits taken rest first w o o1 [] []) (end : End) → EndsAs taken rest end → (ended : Ended) (o2 : SinkSeen)
        → PutsAll o1 o2 (tail_of ended) → EndsBy limit taken end i2.told ended
        → CountsReads i i2 ended → CountsWrites o o2 ended → Served (path X first) (CutPath X C first) quits limit i i2 o o2 w ended
    concludes rest w s end e ended o2 tail by reads writes = record {
      taken = taken;
      took = took;
      few = few;
      asked = requests s.items;
      end = end;
      frames = frames_of rest w s end e;
      ends = answered
          (record { replies = s.replies; may = s.went; go_on = s.go_on; wrote = all_then o o1 o2 (spelled s.replies) (tail_of ended) (onward_all o o1 (spelled s.replies) s.wrote) tail })
          by;
      reads = reads;
      writes = writes;
    }

    -- where requests are served, the output counts no fault
    no_faults : (rest : List ℕ) (w : E) → Serves X C quits taken rest first w o o1 [] [] → o1.faults ≡ o.faults
    no_faults rest w s = (onward_all o o1 (spelled s.replies) s.wrote).faults

    -- all requests are answered, and then a rule is broken, whose line can't be written
    concludes_tail : (rest : List ℕ) (w : E) (s : Serves X C quits taken rest first w o o1 [] []) (rule : Rule) (at : ℕ) → EndsAs taken rest (Fault rule at) → (o2 : SinkSeen)
        → PutsFront o1 o2 (fault_line rule at) → i2.faults ≡ i.faults
        → Served (path X first) (CutPath X C first) quits limit i i2 o o2 w endings.WriteFault
    concludes_tail rest w s rule at e o2 tail reads =
        let front = fault_then o o1 o2 (spelled s.replies) (fault_line rule at) (onward_all o o1 (spelled s.replies) s.wrote) tail in
        record {
          taken = taken;
          took = took;
          few = few;
          asked = requests s.items;
          end = Fault rule at;
          frames = frames_of rest w s (Fault rule at) e;
          ends = write_fault (record {
            some = requests s.items;
            others = [];
            split = sym (append-nil (requests s.items));
            replies = s.replies;
            may = whole s.went;
            go_on = go_on_all quits (requests s.items) s.go_on;
            tail = fault_line rule at;
            behind = inr (rule, at, refl, refl, s.go_on, refl);
            wrote = front;
          }) refl;
          reads = reads;
          writes = front.rose;
        }

    -- a run that wants memory behind some requests served is served to this end
    concludes_memory : (rest : List ℕ) (w last : E) → Serves X C quits taken rest first w o o1 [] [] → i2.faults ≡ i.faults
        → Served (path X first) (CutPath X C first) quits limit i i2 o o1 last endings.Memory
    concludes_memory rest w last s reads =
        let f = frames_there taken in
        let r = requests_first taken s.items rest f.0 f.1 s.framed f.2 in
        let wrote = onward_all o o1 (spelled s.replies) s.wrote in
        record {
          taken = taken;
          took = took;
          few = few;
          asked = f.0;
          end = f.1;
          frames = f.2;
          ends = no_memory (record { some = requests s.items; others = r.0; split = r.1; go_on = s.go_on; replies = s.replies; last = w; may = s.went; wrote = wrote }) refl;
          reads = reads;
          writes = wrote.faults;
        }

    -- a run that breaks at a reply that fails to be put is served to a fault of the output
    concludes_fault : (last : E) → Breaks X C quits taken first last o o1 [] → i2.faults ≡ i.faults → Served (path X first) (CutPath X C first) quits limit i i2 o o1 last endings.WriteFault
    concludes_fault last s reads =
        let f = frames_there taken in
        let r = requests_first taken s.items s.rest f.0 f.1 s.framed f.2 in
        let P : List ℕ → Type 0 = λ l. PutsFront o o1 l in
        record {
          taken = taken;
          took = took;
          few = few;
          asked = f.0;
          end = f.1;
          frames = f.2;
          ends = write_fault (record {
            some = requests s.items;
            others = r.0;
            split = r.1;
            replies = s.replies;
            may = s.went;
            go_on = s.go_on;
            tail = [];
            behind = inl refl;
            wrote = subst P (sym (append-nil (spelled s.replies))) s.wrote;
          }) refl;
          reads = reads;
          writes = s.wrote.rose;
        }

    -- a run that comes to a request that ends it is served to this end
    concludes_quit : (w : E) → Quits X C quits taken first w o o1 [] [] → i2.faults ≡ i.faults → Served (path X first) (CutPath X C first) quits limit i i2 o o1 w endings.Quit
    concludes_quit w s reads =
        let f = frames_there taken in
        let r = requests_first taken s.items s.rest f.0 f.1 s.framed f.2 in
        let wrote = onward_all o o1 (spelled s.replies) s.wrote in
        record {
          taken = taken;
          took = took;
          few = few;
          asked = f.0;
          end = f.1;
          frames = f.2;
          ends = quit (record {
            front = s.others;
            quit = s.last;
            others = r.0;
            split = r.1 ∙ ap (λ l. l ++ r.0) s.are;
            go_on = s.go_on;
            ends_run = s.ends_run;
            replies = s.replies;
            may = subst (λ l. path X first l s.replies w) s.are s.went;
            wrote = wrote;
          }) refl;
          reads = reads;
          writes = wrote.faults;
        }

  module _ (first : E) (limit : ℕ) (i i1 : SourceSeen) (o o0 o1 : SinkSeen) (n : ℕ) (old : Feeding) (e0 : E) (le : n ≤ limit) (s : Serving first i i1 n old e0 o o0) where
    -- no more bytes were taken than the limit
    few : length s.taken ≤ limit
    few = omega (arith, s.counted, le)

    -- a run that comes to a request that ends it among those fed next ends by it
    pub ends_quit : (w : E) → Quits X C quits old.kept e0 w o0 o1 [] [] → Served (path X first) (CutPath X C first) quits limit i i1 o o1 w endings.Quit
    ends_quit w f = concludes_quit first limit i i1 o o1 s.taken s.took.told few w (quits_then X C quits s.taken old.kept first e0 o o0 [] [] s.serves w o1 [] f) s.took.faults

    -- a run whose output fails at the requests fed next ends by a fault of the output
    pub ends_fault : (last : E) → Breaks X C quits old.kept e0 last o0 o1 [] → Served (path X first) (CutPath X C first) quits limit i i1 o o1 last endings.WriteFault
    ends_fault last f = concludes_fault first limit i i1 o o1 s.taken s.took.told few last (breaks_then X C quits s.taken old.kept first e0 o o0 [] [] s.serves last o1 f) s.took.faults

    -- a run that wants memory behind some of the requests fed next ends by want of memory
    pub ends_memory : (rest : List ℕ) (w last : E) → Serves X C quits old.kept rest e0 w o0 o1 [] [] → Served (path X first) (CutPath X C first) quits limit i i1 o o1 last endings.Memory
    ends_memory rest w last f = concludes_memory first limit i i1 o o1 s.taken s.took.told few rest w last
        (serves_then X C quits s.taken old.kept first e0 o o0 [] [] s.serves rest w o1 [] f) s.took.faults

    -- the requests that are whole are answered
    module _ (i2 : SourceSeen) (o2 : SinkSeen) (new : Feeding) (e1 : E) (f : Serves X C quits old.kept new.kept e0 e1 o0 o1 [] []) where
      -- all requests that are whole in the bytes taken are served
      all_served : Serves X C quits s.taken new.kept first e1 o o1 [] []
      all_served = serves_then X C quits s.taken old.kept first e0 o o0 [] [] s.serves new.kept e1 o1 [] f

      -- a rule that is broken in what the feeder keeps is broken at that byte of all that was taken
      broken : (rule : Rule) (at : ℕ) → IsBroken new rule at → SameFed old new → EndsAs s.taken new.kept (Fault rule at)
      broken rule at b fed = (b.from, b.fault, b.place ∙ (fed ∙ s.fed ∙ sym s.counted))

      -- a run that comes to a broken rule and puts its line ends by this rule
      pub ends_protocol : (rule : Rule) (at : ℕ) → IsBroken new rule at → SameFed old new → PutsAll o1 o2 (fault_line rule at)
          → Served (path X first) (CutPath X C first) quits limit i i1 o o2 e1 (endings.Protocol rule at)
      ends_protocol rule at b fed tail =
          concludes first limit i i1 o o1 s.taken s.took.told few new.kept e1 all_served (Fault rule at) (broken rule at b fed) (endings.Protocol rule at) o2 tail refl s.took.faults
          (tail.faults ∙ no_faults first limit i i1 o o1 s.taken s.took.told few new.kept e1 all_served)

      -- a run that comes to a broken rule and fails to put its line ends by a fault of the output
      pub ends_tail : (rule : Rule) (at : ℕ) → IsBroken new rule at → SameFed old new → PutsFront o1 o2 (fault_line rule at)
          → Served (path X first) (CutPath X C first) quits limit i i1 o o2 e1 endings.WriteFault
      ends_tail rule at b fed tail = concludes_tail first limit i i1 o o1 s.taken s.took.told few new.kept e1 all_served rule at (broken rule at b fed) o2 tail s.took.faults

      -- where the whole requests are served, the output counts no fault
      writes_none : o1.faults ≡ o.faults
      writes_none = no_faults first limit i i1 o o1 s.taken s.took.told few new.kept e1 all_served

      -- a run that has taken the limit's number of bytes ends by the limit
      pub ends_limit : n ≡ limit → (new.kept ≡ []) ⊎ IsCut new.kept → Served (path X first) (CutPath X C first) quits limit i i1 o o1 e1 endings.Limit
      ends_limit is e = elim e [
        | inl none ↦ concludes first limit i i1 o o1 s.taken s.took.told few new.kept e1 all_served Whole none endings.Limit o1 (all_nothing o1) (at_limit (s.counted ∙ is) refl)
            s.took.faults writes_none
        | inr cut ↦ concludes first limit i i1 o o1 s.taken s.took.told few new.kept e1 all_served Cut cut endings.Limit o1 (all_nothing o1) (at_limit (s.counted ∙ is) refl) s.took.faults writes_none
      ]

      -- where the count isn't the limit, the bytes taken aren't as many as the limit
      below : (n ≡ limit → ⊥) → length s.taken ≡ limit → ⊥
      below not is = not (sym s.counted ∙ is)

      -- a run below the limit whose take fails ends by a fault of the input
      pub ends_read_fault : (n ≡ limit → ⊥) → (new.kept ≡ []) ⊎ IsCut new.kept → TakesNone i1 i2 → Served (path X first) (CutPath X C first) quits limit i i2 o o1 e1 endings.ReadFault
      ends_read_fault not e t =
          let reads : CountsReads i i2 endings.ReadFault = (subst (λ f. Rose f i2.faults) s.took.faults t.rose, λ h. t.unsure (s.took.sure h)) in
          elim e [
            | inl none ↦ concludes first limit i i2 o o1 s.taken (takes_none i i1 i2 s.taken s.took t.told) few new.kept e1 all_served Whole none endings.ReadFault o1 (all_nothing o1)
                (take_fails (below not) refl) reads writes_none
            | inr cut ↦ concludes first limit i i2 o o1 s.taken (takes_none i i1 i2 s.taken s.took t.told) few new.kept e1 all_served Cut cut endings.ReadFault o1 (all_nothing o1)
                (take_fails (below not) refl) reads writes_none
          ]

      -- a run below the limit whose input ends after a whole request ends whole
      pub ends_whole : (n ≡ limit → ⊥) → TakesAll i1 i2 [] → IsAtEnd i2.told → length new.kept ≡ 0 → Served (path X first) (CutPath X C first) quits limit i i2 o o1 e1 endings.Whole
      ends_whole not t end none =
          concludes first limit i i2 o o1 s.taken (takes_none i i1 i2 s.taken s.took t.told) few new.kept e1 all_served Whole (nil_from_length new.kept none) endings.Whole o1
          (all_nothing o1) (finds_end (below not) end refl) (t.faults ∙ s.took.faults) writes_none

      -- what the feeder keeps, where it keeps any byte, ends inside a request
      is_cut : (new.kept ≡ []) ⊎ IsCut new.kept → (length new.kept ≡ 0 → ⊥) → IsCut new.kept
      is_cut e some = elim e [ inl none ↦ absurd (some (ap length none)) | inr begun ↦ begun ]

      -- a run below the limit whose input ends inside a request ends cut
      pub ends_cut : (n ≡ limit → ⊥) → (new.kept ≡ []) ⊎ IsCut new.kept → TakesAll i1 i2 [] → IsAtEnd i2.told → (length new.kept ≡ 0 → ⊥)
          → Served (path X first) (CutPath X C first) quits limit i i2 o o1 e1 endings.Cut
      ends_cut not e t end some =
          concludes first limit i i2 o o1 s.taken (takes_none i i1 i2 s.taken s.took t.told) few new.kept e1 all_served Cut (is_cut e some) endings.Cut o1 (all_nothing o1)
          (finds_end (below not) end refl) (t.faults ∙ s.took.faults) writes_none

      -- want of memory, when a piece was taken
      pub ends_taken : (most : ℕ) → n + most ≤ limit → TakesPiece i1 i2 most → Served (path X first) (CutPath X C first) quits limit i i2 o o1 e1 endings.Memory
      ends_taken most within t =
          let took = takes_then i i1 i2 s.taken t.piece s.took t.took in
          concludes_memory first limit i i2 o o1 (s.taken ++ t.piece) took.told (omega (arith, length-append s.taken t.piece, s.counted, within, t.few)) (new.kept ++ t.piece) e1 e1
          (serves_more X C quits s.taken new.kept first e1 o o1 [] [] all_served t.piece) took.faults

      -- a piece was taken and fed
      pub serving_on : SameFed old new → (most count : ℕ) (fed : Feeding) → Feeds i1 i2 most count new fed → Serving first i i2 (n + count) fed e1 o o1
      serving_on same most count fed t =
          let P : List ℕ → Type 0 = λ r. Serves X C quits (s.taken ++ t.piece) r first e1 o o1 [] [] in
          record {
            taken = s.taken ++ t.piece;
            took = takes_then i i1 i2 s.taken t.piece s.took t.took;
            counted = length-append s.taken t.piece ∙ ap (λ x. x + length t.piece) s.counted ∙ ap (λ x. n + x) t.long;
            fed = let a : new.gone + length new.kept ≡ n = same ∙ s.fed in omega (arith, t.gone, ap length t.kept, length-append new.kept t.piece, t.long);
            serves = subst P (sym t.kept) (serves_more X C quits s.taken new.kept first e1 o o1 [] [] all_served t.piece);
          }

  -- want of memory before anything is taken
  pub ends_at_once : (first : E) (limit : ℕ) (i : SourceSeen) (o : SinkSeen) → Served (path X first) (CutPath X C first) quits limit i i o o first endings.Memory
  ends_at_once first limit i o = concludes_memory first limit i i o o [] (Consumes-nil i.told) (omega arith) [] first first (serves_starts X C quits [] first o [] refl) refl

-- ---- how much is taken at once

-- no more bytes are asked for at once than the room holds
pub most_within : (m limit taken len : ℕ) → m ≡ min (limit - taken) 65536 → len ≡ 65536 → m ≤ len
most_within m limit taken len e f = omega arith

-- where the limit isn't reached there is room for a byte at least
pub some_taken : (m limit taken : ℕ) (room : List ℕ) → m ≡ min (limit - taken) 65536 → length room ≡ 65536 → taken ≤ limit → (taken ≡ limit → ⊥) → 0 < length (take m room)
some_taken m limit taken room e f le not = omega (arith, length-take m room)

-- what was fed and the room for the next piece come to 2^62 bytes at most
pub room_left : (m limit taken fed : ℕ) (room : List ℕ) → m ≡ min (limit - taken) 65536 → length room ≡ 65536 → taken ≤ limit → limit ≤ 2 ^ 62 → fed ≡ taken → fed + length (take m room) ≤ 2 ^ 62
room_left m limit taken fed room e f le small is = omega (arith, length-take m room)

-- what was taken and the next piece come to the limit at most
pub taken_within : (m limit taken k : ℕ) (room : List ℕ) → m ≡ min (limit - taken) 65536 → taken ≤ limit → k ≤ length (take m room) → taken + k ≤ limit
taken_within m limit taken k room e le h = omega (arith, length-take m room)

-- a count within the limit fits 64 bits
pub fits_w64 : (n limit : ℕ) → n ≤ limit → limit ≤ 2 ^ 62 → Fits w64 n
fits_w64 n limit h small = omega arith

-- a piece with a byte leaves fewer bytes up to the limit
pub falls : (limit taken k : ℕ) → taken + k ≤ limit → 0 < k → limit - (taken + k) < limit - taken
falls limit taken k h some = omega arith
