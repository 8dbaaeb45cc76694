-- What the answering of requests ends with.
use Rattle.std.proofs.Common.{◌≡◌, ℕ, List, [], ◌∷◌, Bool, true, false, Option, Some, Ok, Err, sym, subst, ◌∙◌}
use Rattle.outside.specs.Streams.{SinkSeen}
use Rattle.plain_world.specs.Words.{Words}
use Rattle.plain_world.specs.declared.reply.Part.{Part}
use Rattle.resp_frames.specs.declared.feeder.FrameFault.{FrameFault}
use Rattle.resp_frames.specs.declared.feeder.FrameFault.TheVariants as faults
use Rattle.resp_frames.specs.Feeding.{Feeding, GivesRequests, SameFed, GivesOut, GivesNone, GivesFault, NextIs}
use Rattle.resp_frames.specs.Puts.{PutsAll}
use Rattle.resp_frames.specs.declared.rule.Rule.{Rule}
use Rattle.serving.specs.declared.answering.Answered.{Answered}
use Rattle.serving.specs.declared.answering.Answered.TheVariants as all
use Rattle.serving.specs.Answering.{Replied, RepliedPart, Serves, Breaks, AnswersAll, Finishes}
use Rattle.serving.specs.Answering.Finishes.{HasPut, Failed}
use Rattle.serving.proofs.Onward.{onward_put}
use Rattle.serving.proofs.Runs.{serves_then, breaks_then, quits_then, serves_put, serves_fails, quits_put, quits_fails, serves_none, quits_one, breaks_one, Halves}

-- ---- what the feeder answers

pub protocol_is : (e : FrameFault) (rule : Rule) (at : ℕ) (old new : Feeding) → e ≡ faults.Protocol rule at → NextIs old (Err e) new → GivesFault old new rule at
protocol_is e rule at old new is n = let P : FrameFault → Type 0 = λ x. NextIs old (Err x) new in subst P is n

pub false_is : (b : Bool) (old new : Feeding) → b ≡ false → NextIs old (Ok b) new → GivesNone old new
false_is b old new is n = let P : Bool → Type 0 = λ x. NextIs old (Ok x) new in subst P is n

pub true_is : (b : Bool) (old new : Feeding) → b ≡ true → NextIs old (Ok b) new → GivesOut old new
true_is b old new is n = let P : Bool → Type 0 = λ x. NextIs old (Ok x) new in subst P is n

-- the request that is lent is the one that was given out
pub gives_lent : (old new : Feeding) (lent : Words) → GivesOut old new → new.current ≡ Some lent → GivesRequests old.kept new.kept (lent ∷ [])
gives_lent old new lent g e =
    let same : (let o : Option Words = Some g.words in o) ≡ Some lent = sym g.current ∙ e in
    let is : g.words ≡ lent = cc in
    let P : Words → Type 0 = λ w. GivesRequests old.kept new.kept (w ∷ []) in
    subst P is g.gives

module _ {E : Type 0} (X C : E → Words → List Part → E → Type 0) (quits : Words → Bool) where
  -- from the first bytes to those that are left: what is answered so far, and how many bytes were fed
  module _ (old mid new : Feeding) (e0 e1 : E) (o0 o1 o2 : SinkSeen) (p p' : List ℕ) (s : Serves X C quits old.kept mid.kept e0 e1 o0 o1 [] p) (fed : SameFed old mid) where
    passed : GivesRequests mid.kept new.kept [] → Serves X C quits old.kept new.kept e0 e1 o0 o1 [] p
    passed g = serves_then X C quits old.kept mid.kept e0 e1 o0 o1 [] p s new.kept e1 o1 p (serves_none X C quits mid.kept new.kept e1 o1 p g)

    put_all : (rest : List ℕ) → Serves X C quits old.kept rest e0 e1 o0 o1 [] p → PutsAll o1 o2 p → Serves X C quits old.kept rest e0 e1 o0 o2 [] []
    put_all rest f put = serves_put X C quits old.kept rest e0 e1 o0 o1 [] p f o2 (onward_put o1 o2 p put)

    pub finish_all : (result : Answered) → GivesNone mid new → Finishes o1 o2 p p' all.All result → AnswersAll X C quits old new e0 e1 o0 o2 result
    finish_all result g (HasPut is put none) =
        let P : Answered → Type 0 = λ r. AnswersAll X C quits old new e0 e1 o0 o2 r in
        subst P (sym is) (put_all new.kept (passed g.gives) put, g.unread, g.fed ∙ fed)
    finish_all result g (Failed is front) =
        let P : Answered → Type 0 = λ r. AnswersAll X C quits old new e0 e1 o0 o2 r in
        subst P (sym is) (serves_fails X C quits old.kept new.kept e0 e1 o0 o1 [] p (passed g.gives) o2 front)

    pub finish_protocol : (rule : Rule) (at : ℕ) (result : Answered) → GivesFault mid new rule at → Finishes o1 o2 p p' (all.Protocol rule at) result → AnswersAll X C quits old new e0 e1 o0 o2 result
    finish_protocol rule at result g (HasPut is put none) =
        let P : Answered → Type 0 = λ r. AnswersAll X C quits old new e0 e1 o0 o2 r in
        subst P (sym is) (put_all new.kept (passed g.gives) put, record { from = g.from; fault = g.fault; place = g.place }, g.fed ∙ fed)
    finish_protocol rule at result g (Failed is front) =
        let P : Answered → Type 0 = λ r. AnswersAll X C quits old new e0 e1 o0 o2 r in
        subst P (sym is) (serves_fails X C quits old.kept new.kept e0 e1 o0 o1 [] p (passed g.gives) o2 front)

  -- want of memory: what is pending isn't put
  pub finish_memory : (fed rest : List ℕ) (e0 e1 : E) (o0 o1 o2 : SinkSeen) (p : List ℕ) → Halves X C quits fed rest e0 e1 o0 o1 p → o2 ≡ o1 → (mid : List ℕ) × (there : E)
      × Serves X C quits fed mid e0 there o0 o2 [] []
  finish_memory fed rest e0 e1 o0 o1 o2 p h same = let P : SinkSeen → Type 0 = λ o. (mid : List ℕ) × (there : E)
      × Serves X C quits fed mid e0 there o0 o [] [] in subst P (sym same) (h.mid, h.there, h.written)

  -- a request is given out and answered
  module _ (old mid new : Feeding) (words : Words) (e0 e1 e2 : E) (o0 o1 o2 : SinkSeen) (p p1 : List ℕ) (s : Serves X C quits old.kept mid.kept e0 e1 o0 o1 [] p)
      (g : GivesRequests mid.kept new.kept (words ∷ [])) where
    pub breaks_off : RepliedPart X C quits e1 e2 words o1 o2 p → Breaks X C quits old.kept e0 e2 o0 o2 []
    breaks_off r = breaks_then X C quits old.kept mid.kept e0 e1 o0 o1 [] p s e2 o2 (breaks_one X C quits mid.kept new.kept words e1 e2 o1 o2 p p g r)

    pub finish_quit : (o3 : SinkSeen) (p' : List ℕ) (result : Answered) → Replied X C quits e1 e2 words o1 o2 p p1 true → Finishes o2 o3 p1 p' all.Quit result
        → AnswersAll X C quits old new e0 e2 o0 o3 result
    finish_quit o3 p' result r (HasPut is put none) =
        let P : Answered → Type 0 = λ a. AnswersAll X C quits old new e0 e2 o0 o3 a in
        let q = quits_then X C quits old.kept mid.kept e0 e1 o0 o1 [] p s e2 o2 p1 (quits_one X C quits mid.kept new.kept words e1 e2 o1 o2 p p1 g r) in
        subst P (sym is) (quits_put X C quits old.kept e0 e2 o0 o2 o3 [] p1 q (onward_put o2 o3 p1 put))
    finish_quit o3 p' result r (Failed is front) =
        let P : Answered → Type 0 = λ a. AnswersAll X C quits old new e0 e2 o0 o3 a in
        let q = quits_then X C quits old.kept mid.kept e0 e1 o0 o1 [] p s e2 o2 p1 (quits_one X C quits mid.kept new.kept words e1 e2 o1 o2 p p1 g r) in
        subst P (sym is) (quits_fails X C quits old.kept e0 e2 o0 o2 o3 [] p1 q front)
