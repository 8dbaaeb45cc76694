-- Ways and what is written on them, one behind the other.
use Rattle.std.proofs.Common.{◌≡◌, ℕ, List, [], ◌∷◌, ◌++◌, refl, sym, ap, subst, ◌∙◌, append_assoc, append-nil}
use Rattle.std.proofs.lemmas.List.{map-append}
use Rattle.std.proofs.lemmas.List.Concat.{flat_map-append}
use Rattle.outside.specs.Streams.{SinkSeen}
use Rattle.outside.specs.declared.pacing.Plan.{Plan}
use Rattle.plain_world.specs.Words.{Words}
use Rattle.plain_world.specs.declared.reply.Part.{Part}
use Rattle.plain_sessions.specs.Arrivals.{Arrival}
use Rattle.resp_frames.specs.Puts.{PutsAll, PutsFront}
use Rattle.serving.specs.Output.{Onward}
use Rattle.serving.specs.Timed.{Timed}
use Rattle.serving.proofs.Onward.{onward_nothing, onward_put, onward_then, onward_breaks}
use Rattle.sessions.specs.Way.{Told, arrivals_in, unit_told, units_told, way, CutWay, whole, at_last}
use Rattle.sessions.specs.Telling.{Tells, Fails}

arrivals_both : (xs ys : List Told) → arrivals_in (xs ++ ys) ≡ arrivals_in xs ++ arrivals_in ys
arrivals_both xs ys = map-append (λ (told : Told). told.arrival) xs ys

units_both : (xs ys : List Told) → units_told (xs ++ ys) ≡ units_told xs ++ units_told ys
units_both xs ys = flat_map-append unit_told xs ys

both_are : (xs ys : List Told) (some others : List Arrival) → arrivals_in xs ≡ some → arrivals_in ys ≡ others → arrivals_in (xs ++ ys) ≡ some ++ others
both_are xs ys some others p q = arrivals_both xs ys ∙ ap (λ l. l ++ arrivals_in ys) p ∙ ap (λ l. some ++ l) q

module _ {E : Type 0} (turns : ℕ → E → E → Type 0) (executes : ℕ → E → Words → List Part → E → Type 0) (works : ℕ → Plan → E → E → Type 0) where
  way_append : (a b c : Timed E) (xs ys : List Told) → way turns executes works a xs b → way turns executes works b ys c → way turns executes works a (xs ++ ys) c
  way_append a b c [] ys x y = subst (λ e. way turns executes works e ys c) x y
  way_append a b c (told ∷ xs) ys x y = (x.0, x.1, way_append x.0 b c xs ys x.2 y)

  cut_append : (a b c : Timed E) (xs ys : List Told) → way turns executes works a xs b → CutWay turns executes works b ys c → CutWay turns executes works a (xs ++ ys) c
  cut_append a b c xs ys x (whole y) = whole (way_append a b c xs ys x y)
  cut_append a b c xs ys x (at_last front last mid is y cut) =
      at_last (xs ++ front) last mid (ap (λ l. xs ++ l) is ∙ sym (append_assoc xs front (last ∷ []))) (way_append a b mid xs front x y) cut

  pub tells_nothing : (e : Timed E) (o : SinkSeen) (p : List ℕ) → Tells turns executes works e e o o p p []
  tells_nothing e o p = record { tolds = []; are = refl; went = refl; wrote = onward_nothing o p }

  pub tells_as : (a b : Timed E) (o o1 : SinkSeen) (p p1 : List ℕ) (xs ys : List Arrival) → xs ≡ ys → Tells turns executes works a b o o1 p p1 xs → Tells turns executes works a b o o1 p p1 ys
  tells_as a b o o1 p p1 xs ys e f = record { tolds = f.tolds; are = f.are ∙ e; went = f.went; wrote = f.wrote }

  pub fails_as : (a b : Timed E) (o o1 : SinkSeen) (p : List ℕ) (xs ys : List Arrival) → xs ≡ ys → Fails turns executes works a b o o1 p xs → Fails turns executes works a b o o1 p ys
  fails_as a b o o1 p xs ys e f = record { tolds = f.tolds; are = f.are ∙ e; went = f.went; wrote = f.wrote }

  module _ (a b : Timed E) (o o1 : SinkSeen) (p p1 : List ℕ) (xs : List Arrival) (f : Tells turns executes works a b o o1 p p1 xs) where
    pub tells_then : (c : Timed E) (o2 : SinkSeen) (p2 : List ℕ) (ys : List Arrival) → Tells turns executes works b c o1 o2 p1 p2 ys → Tells turns executes works a c o o2 p p2 (xs ++ ys)
    tells_then c o2 p2 ys g =
        let W : List ℕ → Type 0 = λ l. Onward o o2 p p2 l in
        record {
          tolds = f.tolds ++ g.tolds;
          are = both_are f.tolds g.tolds xs ys f.are g.are;
          went = way_append a b c f.tolds g.tolds f.went g.went;
          wrote = subst W (sym (units_both f.tolds g.tolds)) (onward_then o o1 o2 p p1 p2 (units_told f.tolds) (units_told g.tolds) f.wrote g.wrote);
        }

    pub fails_then : (c : Timed E) (o2 : SinkSeen) (ys : List Arrival) → Fails turns executes works b c o1 o2 p1 ys → Fails turns executes works a c o o2 p (xs ++ ys)
    fails_then c o2 ys g =
        let W : List ℕ → Type 0 = λ l. PutsFront o o2 (p ++ l) in
        record {
          tolds = f.tolds ++ g.tolds;
          are = both_are f.tolds g.tolds xs ys f.are g.are;
          went = cut_append a b c f.tolds g.tolds f.went g.went;
          wrote = subst W (sym (units_both f.tolds g.tolds)) (onward_breaks o o1 o2 p p1 (units_told f.tolds) (units_told g.tolds) f.wrote g.wrote);
        }

    -- what is pending is put
    pub tells_put : (o2 : SinkSeen) → PutsAll o1 o2 p1 → Tells turns executes works a b o o2 p [] xs
    tells_put o2 put =
        let W : List ℕ → Type 0 = λ l. Onward o o2 p [] l in
        record {
          tolds = f.tolds;
          are = f.are;
          went = f.went;
          wrote = subst W (append-nil (units_told f.tolds)) (onward_then o o1 o2 p p1 [] (units_told f.tolds) [] f.wrote (onward_put o1 o2 p1 put));
        }

    -- what is pending fails to be put
    pub fails_put : (o2 : SinkSeen) → PutsFront o1 o2 p1 → Fails turns executes works a b o o2 p xs
    fails_put o2 front =
        let W : List ℕ → Type 0 = λ l. PutsFront o o2 (p ++ l) in
        let G : List ℕ → Type 0 = λ l. PutsFront o1 o2 l in
        record {
          tolds = f.tolds;
          are = f.are;
          went = whole f.went;
          wrote = subst W (append-nil (units_told f.tolds)) (onward_breaks o o1 o2 p p1 (units_told f.tolds) [] f.wrote (subst G (sym (append-nil p1)) front));
        }

    -- no byte is pending, and nothing more is written
    pub tells_same : (o2 : SinkSeen) (p2 : List ℕ) → o2 ≡ o1 → p2 ≡ p1 → Tells turns executes works a b o o2 p p2 xs
    tells_same o2 p2 same is =
        let W : SinkSeen → Type 0 = λ s. Tells turns executes works a b o s p p2 xs in
        let V : List ℕ → Type 0 = λ q. Tells turns executes works a b o o1 p q xs in
        subst W (sym same) (subst V (sym is) f)
