-- What bytes of one session bring, as its feeder gives it out.
use Rattle.std.proofs.Common.{◌≡◌, ℕ, ◌+◌, List, [], ◌∷◌, ◌++◌, map, length, true, false, ◌==◌, ◌⊎◌, inl, inr, refl, sym, ap, subst, ◌∙◌, arith, append_assoc, append-nil}
use Rattle.std.proofs.lemmas.List.{map-append, length-append}
use Rattle.std.proofs.lemmas.List.Concat.{flat_map-append}
use Rattle.plain_world.specs.Words.{Words}
use Rattle.plain_model.specs.Meant.{asks_to_quit}
use Rattle.resp_frames.specs.Ends.{Whole, Cut, Fault, IsCut, BreaksAt}
use Rattle.resp_frames.specs.Faults.{RequestFault}
use Rattle.resp_frames.specs.Feeding.{Feeding}
use Rattle.resp_frames.specs.Frames.{Item, asked, requests, Framed}
use Rattle.resp_frames.specs.declared.rule.Rule.{Rule}
use Rattle.resp_frames.proofs.Giving.{all_append, framed_append}
use Rattle.resp_frames.proofs.Streams.{frames_there, requests_first, framed_more, breaks_stay}
use Rattle.plain_sessions.specs.Arrivals.{Sent, bytes_of, sent_by, Said, Asks, Breaks, broken, said_until_quit, Says, arrival, Arrive}
use Rattle.plain_sessions.proofs.Arriving.{bytes_both, bytes_own, if_true, if_false, stretch_arrives}
use Rattle.session_hub.specs.Hearing.{GoOn, IsHeard, HasEnded}

-- ---- what items say

said_all : (asked : List Words) (behind : List Said) → GoOn asked → said_until_quit asked behind ≡ map Asks asked ++ behind
said_all [] behind g = refl
said_all (words ∷ asked) behind g = ap (λ l. Asks words ∷ l) (if_false (asks_to_quit words) [] (said_until_quit asked behind) g.0 ∙ said_all asked behind g.1)

said_quit : (front more : List Words) (last : Words) (behind : List Said) → GoOn front → asks_to_quit last ≡ true → said_until_quit (front ++ last ∷ more) behind ≡ map Asks (front ++ last ∷ [])
said_quit [] more last behind g q = ap (λ l. Asks last ∷ l) (if_true (asks_to_quit last) [] (said_until_quit more behind) q)
said_quit (words ∷ front) more last behind g q =
    ap (λ l. Asks words ∷ l) (if_false (asks_to_quit words) [] (said_until_quit (front ++ last ∷ more) behind) g.0 ∙ said_quit front more last behind g.1 q)

module _ (bytes rest : List ℕ) (items : List Item) (f : Framed bytes items rest) where
  -- items, and a rest that is none or a front of an item
  says_open : GoOn (requests items) → (rest ≡ []) ⊎ IsCut rest → Says bytes (map Asks (requests items))
  says_open g (inl none) = record {
    asked = requests items;
    end = Whole;
    frames = record { items = items; rest = rest; framed = f; are = refl; ends = none };
    is = sym (said_all (requests items) [] g ∙ append-nil (map Asks (requests items)));
  }
  says_open g (inr cut) = record {
    asked = requests items;
    end = Cut;
    frames = record { items = items; rest = rest; framed = f; are = refl; ends = cut };
    is = sym (said_all (requests items) [] g ∙ append-nil (map Asks (requests items)));
  }

  -- items, and a broken rule
  says_broken : GoOn (requests items) → (rule : Rule) (at : ℕ) → BreaksAt bytes rest rule at → Says bytes (map Asks (requests items) ++ Breaks rule at ∷ [])
  says_broken g rule at b = record {
    asked = requests items;
    end = Fault rule at;
    frames = record { items = items; rest = rest; framed = f; are = refl; ends = b };
    is = sym (said_all (requests items) (Breaks rule at ∷ []) g);
  }

  -- items of which the last ends the session, whatever stands behind them
  says_quit : (front : List Words) (last : Words) → requests items ≡ front ++ last ∷ [] → GoOn front → asks_to_quit last ≡ true → Says bytes (map Asks (front ++ last ∷ []))
  says_quit front last are g q =
      let there = frames_there bytes in
      let first = requests_first bytes items rest there.0 there.1 f there.2 in
      let asks : there.0 ≡ front ++ last ∷ first.0 = first.1 ∙ ap (λ l. l ++ first.0) are ∙ append_assoc front (last ∷ []) first.0 in
      record {
        asked = there.0;
        end = there.1;
        frames = there.2;
        is = sym (ap (λ l. said_until_quit l (broken there.1)) asks ∙ said_quit front first.0 last (broken there.1) g q);
      }

-- ---- bytes of other sessions

bytes_other : (session number : ℕ) (bytes : List ℕ) → (session == number) ≡ false → bytes_of number (sent_by session bytes) ≡ []
bytes_other session number [] e = refl
bytes_other session number (byte ∷ bytes) e =
    if_false (session == number) (byte ∷ bytes_of number (sent_by session bytes)) (bytes_of number (sent_by session bytes)) e ∙ bytes_other session number bytes e

pub others_leave : (session number : ℕ) (sent : List Sent) (bytes : List ℕ) → (session == number) ≡ false → bytes_of number sent ≡ bytes_of number (sent ++ sent_by session bytes)
others_leave session number sent bytes e =
    sym (bytes_both number sent (sent_by session bytes) ∙ ap (λ l. bytes_of number sent ++ l) (bytes_other session number bytes e) ∙ append-nil (bytes_of number sent))

-- what was heard of a session stays, whatever another sends
pub others_heard : (session number : ℕ) (sent : List Sent) (bytes : List ℕ) (feeder : Feeding) → (session == number) ≡ false → IsHeard number sent feeder
    → IsHeard number (sent ++ sent_by session bytes) feeder
others_heard session number sent bytes feeder e h =
    let same = others_leave session number sent bytes e in
    record {
      items = h.items;
      framed = subst (λ l. Framed l h.items feeder.kept) same h.framed;
      go_on = h.go_on;
      fed = h.fed ∙ ap (λ l. length l) same;
    }

pub others_ended : (session number : ℕ) (sent : List Sent) (bytes : List ℕ) → (session == number) ≡ false → HasEnded number sent → HasEnded number (sent ++ sent_by session bytes)
others_ended session number sent bytes e h =
    let same = others_leave session number sent bytes e in
    record { said = h.said; last = λ more. subst (λ l. Says (l ++ more) h.said) same (h.last more) }

-- nothing was heard of a session that sent nothing
pub heard_first : (number : ℕ) (sent : List Sent) (feeder : Feeding) → bytes_of number sent ≡ [] → feeder.gone ≡ 0 → feeder.kept ≡ [] → IsHeard number sent feeder
heard_first number sent feeder none gone kept =
    let long : length feeder.kept ≡ 0 = ap (λ l. length l) kept in
    let all : length (bytes_of number sent) ≡ 0 = ap (λ l. length l) none in
    record { items = []; framed = record { whole = none ∙ sym kept; each = tt }; go_on = tt; fed = omega (arith, gone, long, all) }

-- ---- bytes of the session

pub own_bytes : (number : ℕ) (sent : List Sent) (bytes : List ℕ) → bytes_of number sent ++ bytes ≡ bytes_of number (sent ++ sent_by number bytes)
own_bytes number sent bytes = sym (bytes_both number sent (sent_by number bytes) ∙ ap (λ l. bytes_of number sent ++ l) (bytes_own number bytes))

module _ (number : ℕ) (sent : List Sent) (bytes : List ℕ) where
  -- bytes of a session that has ended bring nothing, and it stays so
  pub ended_brings : HasEnded number sent → Arrive sent (sent_by number bytes) []
  ended_brings h =
      let own = bytes_of number sent in
      stretch_arrives number sent bytes h.said [] (subst (λ l. Says l h.said) (append-nil own) (h.last [])) (subst (Says (own ++ bytes)) (sym (append-nil h.said)) (h.last bytes))

  pub ended_stays : HasEnded number sent → HasEnded number (sent ++ sent_by number bytes)
  ended_stays h = record {
    said = h.said;
    last = λ more. subst (λ l. Says (l ++ more) h.said) (own_bytes number sent bytes) (subst (λ l. Says l h.said) (sym (append_assoc (bytes_of number sent) bytes more)) (h.last (bytes ++ more)));
  }

  -- where a session hasn't ended, the bytes are fed to its feeder, and more items are given out
  module _ (feeder : Feeding) (h : IsHeard number sent feeder) (unread : (feeder.kept ≡ []) ⊎ IsCut feeder.kept) (more : List Item) (rest : List ℕ) (f : Framed (feeder.kept ++ bytes) more rest) where
    said_before : Says (bytes_of number sent) (map Asks (requests h.items))
    said_before = says_open (bytes_of number sent) feeder.kept h.items h.framed h.go_on unread

    pub framed_all : Framed (bytes_of number sent ++ bytes) (h.items ++ more) rest
    framed_all = framed_append (bytes_of number sent ++ bytes) (feeder.kept ++ bytes) rest h.items more (framed_more (bytes_of number sent) feeder.kept bytes h.items h.framed) f

    pub asked_all : requests (h.items ++ more) ≡ requests h.items ++ requests more
    asked_all = flat_map-append asked h.items more

    told_all : map Asks (requests (h.items ++ more)) ≡ map Asks (requests h.items) ++ map Asks (requests more)
    told_all = ap (map Asks) asked_all ∙ map-append Asks (requests h.items) (requests more)

    go_on_all : GoOn (requests more) → GoOn (requests (h.items ++ more))
    go_on_all g = subst GoOn (sym asked_all) (all_append (λ words. asks_to_quit words ≡ false) (requests h.items) (requests more) h.go_on g)

    pub brings_new : (new : List Said) → Says (bytes_of number sent ++ bytes) (map Asks (requests h.items) ++ new) → Arrive sent (sent_by number bytes) (map (arrival number) new)
    brings_new new says = stretch_arrives number sent bytes (map Asks (requests h.items)) new said_before says

    -- none of them ends the session, and no rule is broken
    pub heard_more : (feeder' : Feeding) → feeder'.kept ≡ rest → feeder'.gone + length feeder'.kept ≡ feeder.gone + length (feeder.kept ++ bytes) → GoOn (requests more)
        → IsHeard number (sent ++ sent_by number bytes) feeder'
    heard_more feeder' kept fed g =
        let long = length-append feeder.kept bytes in
        let all = length-append (bytes_of number sent) bytes in
        let before = h.fed in
        let both : feeder'.gone + length feeder'.kept ≡ length (bytes_of number sent ++ bytes) = omega (arith, long, all, before, fed) in
        record {
          items = h.items ++ more;
          framed = subst (λ l. Framed l (h.items ++ more) feeder'.kept) (own_bytes number sent bytes) (subst (Framed (bytes_of number sent ++ bytes) (h.items ++ more)) (sym kept) framed_all);
          go_on = go_on_all g;
          fed = both ∙ ap (λ l. length l) (own_bytes number sent bytes);
        }

    pub more_arrive : GoOn (requests more) → (rest ≡ []) ⊎ IsCut rest → Arrive sent (sent_by number bytes) (map (arrival number) (map Asks (requests more)))
    more_arrive g open_yet =
        brings_new (map Asks (requests more))
        (subst (Says (bytes_of number sent ++ bytes)) told_all (says_open (bytes_of number sent ++ bytes) rest (h.items ++ more) framed_all (go_on_all g) open_yet))

    -- behind them a rule is broken
    module _ (g : GoOn (requests more)) (rule : Rule) (at : ℕ) (from : List ℕ) (fault : RequestFault rest rule from) (place : at + length from ≡ feeder.gone + length (feeder.kept ++ bytes)) where
      pub breaks : BreaksAt (bytes_of number sent ++ bytes) rest rule at
      breaks =
          let long = length-append feeder.kept bytes in
          let all = length-append (bytes_of number sent) bytes in
          let before = h.fed in
          (from, fault, omega (arith, long, all, before, place))

      said_broken : (behind : List ℕ) → Says ((bytes_of number sent ++ bytes) ++ behind) (map Asks (requests (h.items ++ more)) ++ Breaks rule at ∷ [])
      said_broken behind =
          says_broken ((bytes_of number sent ++ bytes) ++ behind) (rest ++ behind) (h.items ++ more) (framed_more (bytes_of number sent ++ bytes) rest behind (h.items ++ more) framed_all)
          (go_on_all g) rule at (breaks_stay (bytes_of number sent ++ bytes) rest behind rule at breaks)

      pub fault_arrives : Arrive sent (sent_by number bytes) (map (arrival number) (map Asks (requests more) ++ Breaks rule at ∷ []))
      fault_arrives =
          let told : map Asks (requests (h.items ++ more)) ++ Breaks rule at ∷ [] ≡ map Asks (requests h.items) ++ (map Asks (requests more) ++ Breaks rule at ∷ []) =
          ap (λ l. l ++ Breaks rule at ∷ []) told_all ∙ append_assoc (map Asks (requests h.items)) (map Asks (requests more)) (Breaks rule at ∷ []) in
          brings_new (map Asks (requests more) ++ Breaks rule at ∷ [])
          (subst (Says (bytes_of number sent ++ bytes)) told (subst (λ l. Says l (map Asks (requests (h.items ++ more)) ++ Breaks rule at ∷ [])) (append-nil (bytes_of number sent ++ bytes)) (said_broken [])))

      pub fault_ends : HasEnded number (sent ++ sent_by number bytes)
      fault_ends = record {
        said = map Asks (requests (h.items ++ more)) ++ Breaks rule at ∷ [];
        last = λ behind. subst (λ l. Says (l ++ behind) (map Asks (requests (h.items ++ more)) ++ Breaks rule at ∷ [])) (own_bytes number sent bytes) (said_broken behind);
      }

    -- the last of them ends the session
    module _ (others : List Words) (last : Words) (are : requests more ≡ others ++ last ∷ []) (g : GoOn others) (quits : asks_to_quit last ≡ true) where
      said_to_quit : (behind : List ℕ) → Says ((bytes_of number sent ++ bytes) ++ behind) (map Asks ((requests h.items ++ others) ++ last ∷ []))
      said_to_quit behind =
          says_quit ((bytes_of number sent ++ bytes) ++ behind) (rest ++ behind) (h.items ++ more) (framed_more (bytes_of number sent ++ bytes) rest behind (h.items ++ more) framed_all)
          (requests h.items ++ others) last (asked_all ∙ ap (λ l. requests h.items ++ l) are ∙ sym (append_assoc (requests h.items) others (last ∷ [])))
          (all_append (λ words. asks_to_quit words ≡ false) (requests h.items) others h.go_on g) quits

      pub quit_arrives : Arrive sent (sent_by number bytes) (map (arrival number) (map Asks (others ++ last ∷ [])))
      quit_arrives =
          let told : map Asks ((requests h.items ++ others) ++ last ∷ []) ≡ map Asks (requests h.items) ++ map Asks (others ++ last ∷ []) =
          ap (map Asks) (append_assoc (requests h.items) others (last ∷ [])) ∙ map-append Asks (requests h.items) (others ++ last ∷ []) in
          brings_new (map Asks (others ++ last ∷ []))
          (subst (Says (bytes_of number sent ++ bytes)) told (subst (λ l. Says l (map Asks ((requests h.items ++ others) ++ last ∷ []))) (append-nil (bytes_of number sent ++ bytes)) (said_to_quit [])))

      pub quit_ends : HasEnded number (sent ++ sent_by number bytes)
      quit_ends = record {
        said = map Asks ((requests h.items ++ others) ++ last ∷ []);
        last = λ behind. subst (λ l. Says (l ++ behind) (map Asks ((requests h.items ++ others) ++ last ∷ []))) (own_bytes number sent bytes) (said_to_quit behind);
      }
