-- What a feeder gives out.
use Rattle.std.proofs.Common.{◌≡◌, ℕ, ◌+◌, ◌-◌, ◌^◌, ◌<◌, ◌≤◌, List, [], ◌∷◌, true, false, Bool, Option, None, Result, Ok, Err, length, drop, take, length-drop, arith, sym, ap, subst, ◌∙◌}
use Rattle.std.proofs.Common.{refl, inl, inr, ◌⊎◌}
use Rattle.std.proofs.lemmas.List.{drop-drop, take_rest}
use Rattle.resp_frames.specs.Reading.{read_item, Open}
use Rattle.resp_frames.specs.Ends.{IsCut}
use Rattle.resp_frames.specs.Faults.{RequestFault}
use Rattle.plain_world.specs.Words.{Words}
use Rattle.resp_frames.specs.Feeding.{Feeding, feeding, current_words, GivesRequests, GivesOut, GivesNone, GivesFault, NextIs, NextFound, IsState, IsFeeder}
use Rattle.resp_frames.specs.declared.feeder.FrameFault.{FrameFault}
use Rattle.resp_frames.specs.declared.feeder.FrameFault.TheVariants as faults
use Rattle.resp_frames.specs.RequestRead.{words_at, Stands, IsPassedAt, IsRequestAt}
use Rattle.resp_frames.specs.declared.feeder.Next.{Next}
use Rattle.resp_frames.specs.declared.feeder.Next.TheVariants as next
use Rattle.resp_frames.specs.declared.span.Span.{Span}
use Rattle.resp_frames.specs.declared.request.Progress.{Progress}
use Rattle.resp_frames.proofs.Giving.{gives_append, gives_none, gives_request, gives_passed, gives_fewer}
use Rattle.resp_frames.proofs.Items.{cut_from_open}
use Rattle.resp_frames.specs.declared.rule.Rule.{Rule}

pub record Further (bytes : List ℕ) (at : ℕ) (spans : List Span) : Type 0 where
  pub gives : GivesRequests bytes (drop at bytes) []
  pub within : at ≤ length bytes
  pub none : spans ≡ []

-- a header more is passed over
pub passed_further : (bytes : List ℕ) (at end : ℕ) (spans : List Span) → GivesRequests bytes (drop at bytes) [] → at ≤ length bytes
    → IsPassedAt (take (length bytes - at) (drop at bytes)) end spans → Further bytes (at + end) spans
passed_further bytes at end spans g low h =
    let P : List ℕ → Type 0 = λ l. IsPassedAt l end spans in
    let k = subst P (take_rest bytes at) h in
    let e : drop end (drop at bytes) ≡ drop (at + end) bytes = drop-drop end at bytes ∙ ap (λ n. drop n bytes) (omega arith) in
    let w : end ≤ length (drop at bytes) = k.within in
    record {
      gives = subst (λ l. GivesRequests bytes l []) e (gives_append bytes (drop at bytes) (drop end (drop at bytes)) [] [] g (gives_passed (drop at bytes) end spans k));
      within = omega (arith, length-drop at bytes);
      none = k.none;
    }

-- what the code read of the part that it lent
whole_found : (bytes lent : List ℕ) (at passed : ℕ) (spans : List Span) (n : Next) → lent ≡ bytes → NextFound (take (length lent - at) (drop at lent)) spans passed n
    → NextFound (drop at bytes) spans passed n
whole_found bytes lent at passed spans n same h =
    let P : List ℕ → Type 0 = λ l. NextFound l spans passed n in
    subst P (take_rest lent at ∙ ap (drop at) same) h

rest_is : (bytes : List ℕ) (at passed : ℕ) → drop passed (drop at bytes) ≡ drop (at + passed) bytes
rest_is bytes at passed = drop-drop passed at bytes ∙ ap (λ n. drop n bytes) (omega arith)

-- a feeder that lends nothing
pub lends_none : (bytes : List ℕ) (base : ℕ) (spans : List Span) (ready : Bool) → current_words bytes base spans ready ≡ None → ready ≡ false
lends_none bytes base spans true e = cc
lends_none bytes base spans false e = refl

none_lent : (bytes : List ℕ) (base : ℕ) (spans : List Span) (ready : Bool) → ready ≡ false → current_words bytes base spans ready ≡ None
none_lent bytes base spans ready e = ap (current_words bytes base spans) e

module _ (old : Feeding) (gone at passed : ℕ) (bytes lent : List ℕ) (spans : List Span)
    (start : gone + at ≡ old.gone) (kept : drop at bytes ≡ old.kept) (same : lent ≡ bytes) (low : at ≤ length bytes) where
  fed_as_before : (more : ℕ) → passed + more ≤ length (drop at bytes) → gone + (at + passed + more) + length (drop (at + passed + more) bytes) ≡ old.gone + length old.kept
  fed_as_before more h =
      let k : length (drop at bytes) ≡ length old.kept = ap length kept in
      omega (arith, length-drop (at + passed + more) bytes, length-drop at bytes)

  pub request_out : (end : ℕ) → NextFound (take (length lent - at) (drop at lent)) spans passed (next.Request end) → GivesOut old (feeding gone bytes (at + passed) (at + passed + end) spans true)
  request_out end h =
      let m = whole_found bytes lent at passed spans (next.Request end) same h in
      let rest = rest_is bytes at passed in
      let left : drop end (drop passed (drop at bytes)) ≡ drop (at + passed + end) bytes = ap (drop end) rest ∙ rest_is bytes (at + passed) end in
      let g = gives_append (drop at bytes) (drop passed (drop at bytes)) (drop end (drop passed (drop at bytes))) [] _ m.gives (gives_request (drop passed (drop at bytes)) end spans m.reads) in
      let w : end ≤ length (drop passed (drop at bytes)) = m.reads.within in
      let P : List ℕ → List ℕ → List ℕ → Type 0 = λ a b l. GivesRequests a b (words_at l spans ∷ []) in
      record {
        words = words_at (drop (at + passed) bytes) spans;
        gives = subst (λ a. P a (drop (at + passed + end) bytes) (drop (at + passed) bytes)) kept
            (subst (λ b. P (drop at bytes) b (drop (at + passed) bytes)) left (subst (λ l. P (drop at bytes) (drop end (drop passed (drop at bytes))) l) rest g));
        current = refl;
        fed = fed_as_before end (let v : passed ≤ length (drop at bytes) = m.within in omega (arith, length-drop passed (drop at bytes)));
      }

  gives_rest : GivesRequests (drop at bytes) (drop passed (drop at bytes)) [] → GivesRequests old.kept (drop (at + passed) bytes) []
  gives_rest g = subst (λ a. GivesRequests a (drop (at + passed) bytes) []) kept (subst (λ b. GivesRequests (drop at bytes) b []) (rest_is bytes at passed) g)

  fed_none : passed ≤ length (drop at bytes) → gone + (at + passed) + length (drop (at + passed) bytes) ≡ old.gone + length old.kept
  fed_none w = let k : length (drop at bytes) ≡ length old.kept = ap length kept in omega (arith, length-drop (at + passed) bytes, length-drop at bytes)

  pub none_out : (base : ℕ) (spans' : List Span) (ready : Bool) → ready ≡ false → (p : Progress) → NextFound (take (length lent - at) (drop at lent)) spans passed (next.Open p)
      → GivesNone old (feeding gone bytes base (at + passed) spans' ready)
  none_out base spans' ready not p h =
      let m = whole_found bytes lent at passed spans (next.Open p) same h in
      let rest = drop (at + passed) bytes in
      let e : read_item rest ≡ Open = ap read_item (sym (rest_is bytes at passed)) ∙ m.reads.more in
      record {
        gives = gives_rest m.gives;
        unread = elim rest as (λ l. read_item l ≡ Open → (l ≡ []) ⊎ IsCut l) [ [] ↦ λ r. inl refl | b ∷ l ↦ λ r. inr (cut_from_open (b ∷ l) r (λ none. cc)) ] e;
        current = none_lent bytes base spans' ready not;
        fed = fed_none m.within;
      }

  pub fault_out : (base : ℕ) (spans' : List Span) (ready : Bool) → ready ≡ false → (rule : Rule) (place : ℕ)
      → NextFound (take (length lent - at) (drop at lent)) spans passed (next.Broken rule place)
      → GivesFault old (feeding gone bytes base (at + passed) spans' ready) rule (gone + (at + passed + place))
  fault_out base spans' ready not rule place h =
      let m = whole_found bytes lent at passed spans (next.Broken rule place) same h in
      let rest = rest_is bytes at passed in
      let f = subst (λ l. RequestFault l rule (drop place l)) rest m.reads.fault in
      let w : place ≤ length (drop passed (drop at bytes)) = m.reads.within in
      let v : place ≤ length (drop (at + passed) bytes) = omega (arith, ap length rest) in
      record {
        gives = gives_rest m.gives;
        from = drop place (drop (at + passed) bytes);
        fault = f;
        place = omega (arith, length-drop place (drop (at + passed) bytes));
        current = none_lent bytes base spans' ready not;
        fed = fed_none m.within;
      }

  -- a request that is read at once
  pub request_ahead : (end : ℕ) → passed ≡ 0 → IsRequestAt (take (length lent - at) (drop at lent)) end spans → GivesOut old (feeding gone bytes at (at + end) spans true)
  request_ahead end none h =
      let all = take (length lent - at) (drop at lent) in
      let P : ℕ → Type 0 = λ n. NextFound all spans n (next.Request end) in
      let found : NextFound all spans 0 (next.Request end) = record { gives = gives_none all; within = omega arith; reads = h } in
      let Q : ℕ → Type 0 = λ n. GivesOut old (feeding gone bytes n (n + end) spans true) in
      let here : at + passed ≡ at = omega arith in
      subst Q here (request_out end (subst P (sym none) found))

-- how far a feeder that lends nothing has read what it lends the reader
pub lent_stands : (bytes lent : List ℕ) (base at : ℕ) (spans : List Span) (p : Progress) (ready : Bool) → lent ≡ bytes → ready ≡ false → IsState bytes base at spans p ready
    → Stands (take (length lent - at) (drop at lent)) p.read spans p.due
lent_stands bytes lent base at spans p ready same not state =
    let P : Bool → Type 0 = λ r. IsState bytes base at spans p r in
    let Q : List ℕ → Type 0 = λ l. Stands l p.read spans p.due in
    subst Q (sym (take_rest lent at ∙ ap (drop at) same)) (subst P not state).1

-- What was read keeps a feeder sound.
module _ (gone at passed : ℕ) (bytes lent : List ℕ) (spans : List Span) (same : lent ≡ bytes) (low : at ≤ length bytes) (fits : gone + length bytes ≤ 2 ^ 62) where
  pub request_kept : (end : ℕ) (p : Progress) → NextFound (take (length lent - at) (drop at lent)) spans passed (next.Request end) → IsFeeder gone bytes (at + passed) (at + passed + end) spans p true
  request_kept end p h =
      let m = whole_found bytes lent at passed spans (next.Request end) same h in
      let P : List ℕ → Type 0 = λ l. IsRequestAt l end spans in
      let r = subst P (rest_is bytes at passed) m.reads in
      let first : passed ≤ length (drop at bytes) = m.within in
      let then' : end ≤ length (drop (at + passed) bytes) = r.within in
      record {
        within = omega (arith, length-drop at bytes, length-drop (at + passed) bytes);
        before = omega arith;
        fits = fits;
        state = record { inside = r.inside; sound = r.sound };
      }

  pub open_kept : (ready : Bool) (p : Progress) → ready ≡ false → NextFound (take (length lent - at) (drop at lent)) spans passed (next.Open p)
      → IsFeeder gone bytes (at + passed) (at + passed) spans p ready
  open_kept ready p not h =
      let m = whole_found bytes lent at passed spans (next.Open p) same h in
      let P : Bool → Type 0 = λ r. IsState bytes (at + passed) (at + passed) spans p r in
      let Q : List ℕ → Type 0 = λ l. Stands l p.read spans p.due in
      let first : passed ≤ length (drop at bytes) = m.within in
      record {
        within = omega (arith, length-drop at bytes);
        before = omega arith;
        fits = fits;
        state = subst P (sym not) (refl, subst Q (rest_is bytes at passed) m.reads.stands);
      }

-- what is answered doesn't rest on what was lent before
as_before : (lent : Option Words) (old new : Feeding) (r : Result Bool FrameFault) → NextIs (record { gone = old.gone; kept = old.kept; current = lent }) r new → NextIs old r new
as_before lent old new (Ok true) h = record { words = h.words; gives = h.gives; current = h.current; fed = h.fed }
as_before lent old new (Ok false) h = record { gives = h.gives; unread = h.unread; current = h.current; fed = h.fed }
as_before lent old new (Err (faults.Protocol rule at)) h = record { gives = h.gives; from = h.from; fault = h.fault; place = h.place; current = h.current; fed = h.fed }
as_before lent old new (Err faults.Memory) h = h

pub next_as_before : (gone : ℕ) (kept : List ℕ) (lent : Option Words) (old new : Feeding) (r : Result Bool FrameFault) → gone ≡ old.gone → kept ≡ old.kept
    → NextIs (record { gone = gone; kept = kept; current = lent }) r new → NextIs old r new
next_as_before gone kept lent old new r same_gone same_kept h =
    let P : ℕ → Type 0 = λ g. NextIs (record { gone = g; kept = kept; current = lent }) r new in
    let Q : List ℕ → Type 0 = λ k. NextIs (record { gone = old.gone; kept = k; current = lent }) r new in
    as_before lent old new r (subst Q same_kept (subst P same_gone h))

pub fewer_left : (old new : Feeding) (r : Result Bool FrameFault) → NextIs old r new → r ≡ Ok true → length new.kept < length old.kept
fewer_left old new r h is =
    let P : Result Bool FrameFault → Type 0 = λ x. NextIs old x new in
    let g : GivesOut old new = subst P is h in
    gives_fewer old.kept new.kept g.words g.gives
