-- What is kept of a session, as bytes come.
use Rattle.std.proofs.Common.{◌≡◌, ℕ, ◌+◌, ◌==◌, List, [], ◌∷◌, ◌++◌, map, length, true, false, ◌⊎◌, inl, refl, sym, ap, subst, ◌∙◌, append_assoc}
use Rattle.std.proofs.lemmas.List.{map-append}
use Rattle.plain_world.specs.Words.{Words}
use Rattle.plain_model.specs.Meant.{asks_to_quit}
use Rattle.resp_frames.specs.Ends.{End, Cut, Fault, IsCut, Frames}
use Rattle.resp_frames.specs.Faults.{RequestFault}
use Rattle.resp_frames.specs.Feeding.{Feeding}
use Rattle.resp_frames.specs.Frames.{Item, requests, Framed}
use Rattle.resp_frames.specs.declared.rule.Rule.{Rule}
use Rattle.resp_frames.proofs.Streams.{one_frames, frames_there, requests_first, framed_more, fault_frames}
use Rattle.plain_sessions.specs.Arrivals.{Sent, bytes_of, sent_by, Said, Asks, broken, said_until_quit, Says, Arrival, arrival, Arrive}
use Rattle.plain_sessions.proofs.Arriving.{if_false}
use Rattle.session_hub.specs.Hearing.{GoOn, IsHeard, HasEnded}
use Rattle.session_hub.proofs.Heard.{others_leave, others_heard, others_ended, heard_first, own_bytes, ended_stays, framed_all, asked_all, brings_new, breaks}
use Rattle.sessions.specs.declared.slot.Slot.{Slot}
use Rattle.sessions.specs.declared.slot.Slot.TheVariants as slots
use Rattle.sessions.specs.Slots.{Feeds}
use Rattle.sessions.specs.Hearing.{IsOver, HeardAs}
use Rattle.sessions.proofs.Answered.{asked_by}

-- ---- a session that has ended

last_goes : (front more : List Words) (last : Words) → GoOn ((front ++ last ∷ []) ++ more) → asks_to_quit last ≡ false
last_goes [] more last g = g.0
last_goes (words ∷ front) more last g = last_goes front more last g.1

module _ (all rest : List ℕ) (items : List Item) (f : Framed all items rest) where
  -- behind a request that ends it, it never stops inside a request that it goes on to
  quit_uncut : (front : List Words) (last : Words) → requests items ≡ front ++ last ∷ [] → asks_to_quit last ≡ true
      → (behind : List ℕ) (asked : List Words) → Frames (all ++ behind) asked Cut → GoOn asked → ⊥
  quit_uncut front last are ends behind asked frames g =
      let r = requests_first (all ++ behind) items (rest ++ behind) asked Cut (framed_more all rest behind items f) frames in
      let is : asked ≡ (front ++ last ∷ []) ++ r.0 = r.1 ∙ ap (λ l. l ++ r.0) are in
      let goes : asks_to_quit last ≡ false = last_goes front r.0 last (subst GoOn is g) in
      let both : true ≡ false = sym ends ∙ goes in
      cc

fault_uncut : (all : List ℕ) (asked0 : List Words) (rule : Rule) (at : ℕ) → Frames all asked0 (Fault rule at)
    → (behind : List ℕ) (asked : List Words) → Frames (all ++ behind) asked Cut → GoOn asked → ⊥
fault_uncut all asked0 rule at f behind asked frames g =
    let same = one_frames (all ++ behind) asked asked0 Cut (Fault rule at) frames (fault_frames all behind asked0 rule at f) in
    let is : Cut ≡ Fault rule at = same.1 in
    cc

module _ (number : ℕ) (sent : List Sent) (bytes : List ℕ) where
  -- it goes on so
  pub over_stays : IsOver number sent → IsOver number (sent ++ sent_by number bytes)
  over_stays h = record {
    ended = ended_stays number sent bytes h.ended;
    never_cut = λ more asked frames g.
        h.never_cut (bytes ++ more) asked
        (subst (λ l. Frames l asked Cut) (append_assoc (bytes_of number sent) bytes more) (subst (λ l. Frames (l ++ more) asked Cut) (sym (own_bytes number sent bytes)) frames)) g;
  }

  module _ (feeder : Feeding) (h : IsHeard number sent feeder) (unread : (feeder.kept ≡ []) ⊎ IsCut feeder.kept) (more : List Item) (rest : List ℕ) (f : Framed (feeder.kept ++ bytes) more rest) where
    -- the last of the new requests ends it
    pub quit_over : HasEnded number (sent ++ sent_by number bytes) → (others : List Words) (last : Words) → requests more ≡ others ++ last ∷ [] → asks_to_quit last ≡ true
        → IsOver number (sent ++ sent_by number bytes)
    quit_over ended others last are ends = record {
      ended = ended;
      never_cut = λ behind asked frames g.
          quit_uncut (bytes_of number sent ++ bytes) rest (h.items ++ more) (framed_all number sent bytes feeder h unread more rest f) (requests h.items ++ others) last
          (asked_all number sent bytes feeder h unread more rest f ∙ ap (λ l. requests h.items ++ l) are ∙ sym (append_assoc (requests h.items) others (last ∷ []))) ends behind asked
          (subst (λ l. Frames (l ++ behind) asked Cut) (sym (own_bytes number sent bytes)) frames) g;
    }

    -- behind the new requests a rule is broken
    pub fault_over : HasEnded number (sent ++ sent_by number bytes) → (g : GoOn (requests more)) (rule : Rule) (at : ℕ) (from : List ℕ) (fault : RequestFault rest rule from)
        → (place : at + length from ≡ feeder.gone + length (feeder.kept ++ bytes)) → IsOver number (sent ++ sent_by number bytes)
    fault_over ended g rule at from fault place =
        let first : Frames (bytes_of number sent ++ bytes) (requests (h.items ++ more)) (Fault rule at) = record {
          items = h.items ++ more;
          rest = rest;
          framed = framed_all number sent bytes feeder h unread more rest f;
          are = refl;
          ends = breaks number sent bytes feeder h unread more rest f g rule at from fault place;
        } in
        record {
          ended = ended;
          never_cut = λ behind asked frames go.
              fault_uncut (bytes_of number sent ++ bytes) (requests (h.items ++ more)) rule at first behind asked
              (subst (λ l. Frames (l ++ behind) asked Cut) (sym (own_bytes number sent bytes)) frames) go;
        }

-- ---- the first of what bytes bring

said_front : (p more : List Words) (behind : List Said) → GoOn p → said_until_quit (p ++ more) behind ≡ map Asks p ++ said_until_quit more behind
said_front [] more behind g = refl
said_front (words ∷ p) more behind g = ap (λ l. Asks words ∷ l) (if_false (asks_to_quit words) [] (said_until_quit (p ++ more) behind) g.0 ∙ said_front p more behind g.1)

-- up to a last request, which ends the session or doesn't
said_last : (p more : List Words) (last : Words) (behind : List Said) → GoOn p → (others : List Said) × (said_until_quit ((p ++ last ∷ []) ++ more) behind ≡ map Asks (p ++ last ∷ []) ++ others)
said_last [] more last behind g = (_, refl)
said_last (words ∷ p) more last behind g =
    let rest = said_last p more last behind g.1 in
    (rest.0, ap (λ l. Asks words ∷ l) (if_false (asks_to_quit words) [] (said_until_quit ((p ++ last ∷ []) ++ more) behind) g.0 ∙ rest.1))

go_on_join : (p q : List Words) → GoOn p → GoOn q → GoOn (p ++ q)
go_on_join [] q f g = g
go_on_join (words ∷ p) q f g = (f.0, go_on_join p q f.1 g)

module _ (number : ℕ) (sent : List Sent) (bytes : List ℕ) (feeder : Feeding) (h : IsHeard number sent feeder) (unread : (feeder.kept ≡ []) ⊎ IsCut feeder.kept) (more : List Item) (rest : List ℕ)
    (f : Framed (feeder.kept ++ bytes) more rest) where
  split_new : (some : List Words) (others : List Said) (all : List Said) → all ≡ map Asks (requests h.items ++ some) ++ others → all ≡ map Asks (requests h.items) ++ (map Asks some ++ others)
  split_new some others all e = e ∙ ap (λ l. l ++ others) (map-append Asks (requests h.items) some) ∙ append_assoc (map Asks (requests h.items)) (map Asks some) others

  arrive_first : (some : List Words) (others : List Said) (asked : List Words) (end : End) → Frames (bytes_of number sent ++ bytes) asked end
      → said_until_quit asked (broken end) ≡ map Asks (requests h.items ++ some) ++ others
      → Arrive sent (sent_by number bytes) (asked_by number some ++ map (arrival number) others)
  arrive_first some others asked end frames is =
      let says : Says (bytes_of number sent ++ bytes) (map Asks (requests h.items) ++ (map Asks some ++ others)) = record { asked = asked; end = end; frames = frames; is = sym (split_new some others _ is) } in
      subst (Arrive sent (sent_by number bytes)) (map-append (arrival number) (map Asks some) others)
      (brings_new number sent bytes feeder h unread more rest f (map Asks some ++ others) says)

  -- the requests given out are the first of what the bytes bring
  pub some_arrive : GoOn (requests more) → (others : List Arrival) × Arrive sent (sent_by number bytes) (asked_by number (requests more) ++ others)
  some_arrive g =
      let there = frames_there (bytes_of number sent ++ bytes) in
      let first = requests_first (bytes_of number sent ++ bytes) (h.items ++ more) rest there.0 there.1 (framed_all number sent bytes feeder h unread more rest f) there.2 in
      let asks : there.0 ≡ (requests h.items ++ requests more) ++ first.0 = first.1 ∙ ap (λ l. l ++ first.0) (asked_all number sent bytes feeder h unread more rest f) in
      let is = ap (λ l. said_until_quit l (broken there.1)) asks ∙ said_front (requests h.items ++ requests more) first.0 (broken there.1) (go_on_join (requests h.items) (requests more) h.go_on g) in
      (map (arrival number) (said_until_quit first.0 (broken there.1)), arrive_first (requests more) (said_until_quit first.0 (broken there.1)) there.0 there.1 there.2 is)

  -- the same up to a last one
  pub last_arrives : (others : List Words) (last : Words) → requests more ≡ others ++ last ∷ [] → GoOn others
      → (behind : List Arrival) × Arrive sent (sent_by number bytes) (asked_by number (others ++ last ∷ []) ++ behind)
  last_arrives others last are g =
      let there = frames_there (bytes_of number sent ++ bytes) in
      let first = requests_first (bytes_of number sent ++ bytes) (h.items ++ more) rest there.0 there.1 (framed_all number sent bytes feeder h unread more rest f) there.2 in
      let asks : there.0 ≡ ((requests h.items ++ others) ++ last ∷ []) ++ first.0 =
      first.1 ∙ ap (λ l. l ++ first.0) (asked_all number sent bytes feeder h unread more rest f ∙ ap (λ l. requests h.items ++ l) are ∙ sym (append_assoc (requests h.items) others (last ∷ []))) in
      let told = said_last (requests h.items ++ others) first.0 last (broken there.1) (go_on_join (requests h.items) others h.go_on g) in
      let is : said_until_quit there.0 (broken there.1) ≡ map Asks (requests h.items ++ (others ++ last ∷ [])) ++ told.0 =
      ap (λ l. said_until_quit l (broken there.1)) asks ∙ told.1 ∙ ap (λ l. map Asks l ++ told.0) (append_assoc (requests h.items) others (last ∷ [])) in
      (map (arrival number) told.0, arrive_first (others ++ last ∷ []) told.0 there.0 there.1 there.2 is)

-- ---- slots

-- the feeder of a slot has heard what the session sent
pub opened_heard : (number : ℕ) (sent : List Sent) (slot : Slot) (feeder : Feeding) → Feeds slot feeder → HeardAs number sent slot
    → IsHeard number sent feeder × ((feeder.kept ≡ []) ⊎ IsCut feeder.kept)
opened_heard number sent slots.Idle feeder is none =
    let kept : feeder.kept ≡ [] = ap (λ f. f.kept) is in
    (heard_first number sent feeder none (ap (λ f. f.gone) is) kept, inl kept)
opened_heard number sent (slots.Open feeder') feeder is h =
    subst (λ (g : Feeding). IsHeard number sent g × ((g.kept ≡ []) ⊎ IsCut g.kept)) (sym is) h
opened_heard number sent slots.Ended feeder is h = absurd is

-- what is kept of a session stays, whatever another sends
pub others_as : (session number : ℕ) (sent : List Sent) (bytes : List ℕ) (slot : Slot) → (session == number) ≡ false → HeardAs number sent slot → HeardAs number (sent ++ sent_by session bytes) slot
others_as session number sent bytes slots.Idle e h = sym (others_leave session number sent bytes e) ∙ h
others_as session number sent bytes (slots.Open feeder) e h = (others_heard session number sent bytes feeder e h.0, h.1)
others_as session number sent bytes slots.Ended e h = record {
  ended = others_ended session number sent bytes e h.ended;
  never_cut = λ more asked frames g. h.never_cut more asked (subst (λ l. Frames (l ++ more) asked Cut) (sym (others_leave session number sent bytes e)) frames) g;
}
