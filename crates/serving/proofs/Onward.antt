-- What is written and what is pending, step by step.
use Rattle.std.proofs.Common.{◌≡◌, ℕ, ◌+◌, ◌<◌, List, [], ◌++◌, length, take, get_or, Result, Ok, Err, refl, sym, ap, subst, ◌∙◌}
use Rattle.std.specs.Prelude.{flat_map, OnOk}
use Rattle.std.proofs.lemmas.List.{append_assoc, append-nil}
use Rattle.outside.specs.Streams.{SinkSeen}
use Rattle.resp_frames.specs.Puts.{Puts, PutsAll, PutsFront}
use Rattle.resp_frames.proofs.Putting.{all_nothing, all_then, fault_then, fault_stops, parts_next, parts_around}
use Rattle.serving.specs.Output.{Onward, Writes, WritesWhole, AllPending, OnePending, NonePending, WritesReply}

pub onward_nothing : (o : SinkSeen) (p : List ℕ) → Onward o o p p []
onward_nothing o p = record { written = []; put = all_nothing o; order = sym (append-nil p) }

-- what was pending is put
pub onward_put : (o o1 : SinkSeen) (p : List ℕ) → PutsAll o o1 p → Onward o o1 p [] []
onward_put o o1 p put = record { written = p; put = put; order = refl }

pub onward_then : (o o1 o2 : SinkSeen) (p p1 p2 a b : List ℕ) → Onward o o1 p p1 a → Onward o1 o2 p1 p2 b → Onward o o2 p p2 (a ++ b)
onward_then o o1 o2 p p1 p2 a b f g = record {
  written = f.written ++ g.written;
  put = all_then o o1 o2 f.written g.written f.put g.put;
  order = append_assoc f.written g.written p2 ∙ ap (λ l. f.written ++ l) g.order ∙ sym (append_assoc f.written p1 b) ∙ ap (λ l. l ++ b) f.order ∙ append_assoc p a b;
}

-- a failure behind what went on
pub onward_breaks : (o o1 o2 : SinkSeen) (p p1 a b : List ℕ) → Onward o o1 p p1 a → PutsFront o1 o2 (p1 ++ b) → PutsFront o o2 (p ++ (a ++ b))
onward_breaks o o1 o2 p p1 a b f g =
    let P : List ℕ → Type 0 = λ l. PutsFront o o2 l in
    subst P (sym (append_assoc f.written p1 b) ∙ ap (λ l. l ++ b) f.order ∙ append_assoc p a b) (fault_then o o1 o2 f.written (p1 ++ b) f.put g)

-- a failure before more bytes
pub breaks_before : (o o1 : SinkSeen) (p a b : List ℕ) → PutsFront o o1 (p ++ a) → PutsFront o o1 (p ++ (a ++ b))
breaks_before o o1 p a b f = let P : List ℕ → Type 0 = λ l. PutsFront o o1 l in subst P (append_assoc p a b) (fault_stops o o1 (p ++ a) b f)

-- all that was pending and all that came is put
pub onward_all : (o o1 : SinkSeen) (a : List ℕ) → Onward o o1 [] [] a → PutsAll o o1 a
onward_all o o1 a f = let P : List ℕ → Type 0 = λ l. PutsAll o o1 l in subst P (sym (append-nil f.written) ∙ f.order) f.put

-- what was pending is put, and then a part at once
pub puts_straight : {T E : Type 0} (o o1 o2 : SinkSeen) (p p1 p2 a : List ℕ) (r : Result T E) → p1 ≡ p → PutsAll o o1 p1 → p2 ≡ [] → Puts o1 o2 a r → Writes o o2 p p2 a r
puts_straight o o1 o2 p p1 p2 a (Ok x) same put none q =
    let P : List ℕ → Type 0 = λ l. PutsAll o o1 l in
    record { written = p ++ a; put = all_then o o1 o2 p a (subst P same put) q; order = ap (λ l. (p ++ a) ++ l) none ∙ append-nil (p ++ a) }
puts_straight o o1 o2 p p1 p2 a (Err e) same put none q =
    let P : List ℕ → Type 0 = λ l. PutsAll o o1 l in
    fault_then o o1 o2 p a (subst P same put) q

module _ {X : Type 0} (f : X → List ℕ) (xs : List X) (i : ℕ) (x : X) (here : i < length xs) (is : x ≡ get_or xs i x) (o o1 o2 : SinkSeen) (p p1 : List ℕ)
    (so_far : Onward o o1 p p1 (flat_map f (take i xs))) where
  -- a part more
  pub onward_part : (p2 : List ℕ) → Onward o1 o2 p1 p2 (f x) → Onward o o2 p p2 (flat_map f (take (i + 1) xs))
  onward_part p2 g = let P : List ℕ → Type 0 = λ l. Onward o o2 p p2 l in subst P (parts_next f xs i x here is) (onward_then o o1 o2 p p1 p2 _ (f x) so_far g)

  -- a part that failed, in the whole
  pub breaks_part : PutsFront o1 o2 (p1 ++ f x) → PutsFront o o2 (p ++ flat_map f xs)
  breaks_part g =
      let P : List ℕ → Type 0 = λ l. PutsFront o o2 (p ++ l) in
      subst P (parts_around f xs i x here is) (onward_breaks o o1 o2 p p1 _ _ so_far (breaks_before o1 o2 p1 (f x) _ g))

-- ---- whole replies

-- bytes are pending behind the others
pub onward_pending : (o : SinkSeen) (p p1 a : List ℕ) → p1 ≡ p ++ a → Onward o o p p1 a
onward_pending o p p1 a is = record { written = []; put = all_nothing o; order = is }

-- all is written
pub onward_through : (o o1 : SinkSeen) (p a : List ℕ) → PutsAll o o1 (p ++ a) → Onward o o1 p [] a
onward_through o o1 p a put = record { written = p ++ a; put = put; order = append-nil (p ++ a) }

-- a whole reply comes behind what was pending
pub onward_whole : (o o1 : SinkSeen) (p p1 a : List ℕ) → WritesWhole o o1 p p1 a → Onward o o1 p p1 a
onward_whole o o1 p p1 a (AllPending same is) = let P : SinkSeen → Type 0 = λ s. Onward o s p p1 a in subst P (sym same) (onward_pending o p p1 a is)
onward_whole o o1 p p1 a (OnePending put is) = record { written = p; put = put; order = ap (λ l. p ++ l) is }
onward_whole o o1 p p1 a (NonePending put is) = let P : List ℕ → Type 0 = λ q. Onward o o1 p q a in subst P (sym is) (onward_through o o1 p a put)

-- what is pending, where it has no length
pub none_pending : {T E : Type 0} (r : Result T E) (n : ℕ) (xs : List ℕ) → OnOk r (n ≡ 0) → OnOk r (take n xs ≡ [])
none_pending (Ok x) n xs none = ap (λ k. take k xs) none
none_pending (Err e) n xs none = tt

-- what was pending fails to be put
pub fails_before : (o o1 : SinkSeen) (p p1 a : List ℕ) → p1 ≡ p → PutsFront o o1 p1 → PutsFront o o1 (p ++ a)
fails_before o o1 p p1 a same f = let P : List ℕ → Type 0 = λ l. PutsFront o o1 (l ++ a) in subst P same (fault_stops o o1 p1 a f)

-- what was pending is put, and a reply is pending alone
pub one_pending : (o o1 : SinkSeen) (p p1 p2 p3 a : List ℕ) → p1 ≡ p → PutsAll o o1 p1 → p2 ≡ [] → p3 ≡ p2 ++ a → WritesWhole o o1 p p3 a
one_pending o o1 p p1 p2 p3 a same put none is =
    let P : List ℕ → Type 0 = λ l. PutsAll o o1 l in
    OnePending (subst P same put) (is ∙ ap (λ l. l ++ a) none)

-- what was pending is put, and then a reply, part by part and what is left of it
module _ (o o1 o2 o3 : SinkSeen) (p p1 p2 p3 p4 a : List ℕ) (same : p1 ≡ p) (put : PutsAll o o1 p1) (none : p2 ≡ []) where
  before : PutsAll o o1 p
  before = let P : List ℕ → Type 0 = λ l. PutsAll o o1 l in subst P same put

  none_before : (q : List ℕ) → p2 ++ q ≡ q
  none_before q = ap (λ l. l ++ q) none

  pub parts_fail : PutsFront o1 o2 (p2 ++ a) → PutsFront o o2 (p ++ a)
  parts_fail f = let P : List ℕ → Type 0 = λ l. PutsFront o1 o2 l in fault_then o o1 o2 p a before (subst P (none_before a) f)

  module _ (so_far : Onward o1 o2 p2 p3 a) where
    -- what is written of the reply and what is pending of it are the reply
    whole : so_far.written ++ p3 ≡ a
    whole = so_far.order ∙ none_before a

    pub rest_put : {T E : Type 0} (r : Result T E) → OnOk r (p4 ≡ []) → Puts o2 o3 p3 r → WritesReply o o3 p p4 a r
    rest_put (Ok x) empty q =
        let P : List ℕ → Type 0 = λ l. PutsAll o o3 (p ++ l) in
        NonePending (subst P whole (all_then o o1 o3 p (so_far.written ++ p3) before (all_then o1 o2 o3 so_far.written p3 so_far.put q))) empty
    rest_put (Err e) empty q =
        let P : List ℕ → Type 0 = λ l. PutsFront o o3 (p ++ l) in
        subst P whole (fault_then o o1 o3 p (so_far.written ++ p3) before (fault_then o1 o2 o3 so_far.written p3 so_far.put q))
