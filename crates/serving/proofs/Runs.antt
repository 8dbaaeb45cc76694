-- Runs and what they write are put together.
use Rattle.std.proofs.Common.{◌≡◌, ℕ, List, [], ◌∷◌, ◌++◌, Bool, true, false, refl, sym, ap, subst, ◌∙◌}
use Rattle.std.proofs.lemmas.List.{append-nil, append_assoc}
use Rattle.std.proofs.lemmas.List.Concat.{flat_map-append}
use Rattle.outside.specs.Streams.{SinkSeen}
use Rattle.plain_world.specs.Words.{Words}
use Rattle.plain_world.specs.Spelling.{spelling, spelled}
use Rattle.plain_world.specs.declared.reply.Part.{Part}
use Rattle.resp_frames.specs.Frames.{Item, asked, requests}
use Rattle.resp_frames.specs.Feeding.{GivesRequests}
use Rattle.resp_frames.specs.Puts.{PutsFront}
use Rattle.resp_frames.proofs.Giving.{framed_append}
use Rattle.resp_frames.proofs.Streams.{framed_more}
use Rattle.serving.specs.Path.{path, CutPath, whole, at_last, GoOn, GoOnToLast}
use Rattle.serving.specs.Output.{Onward, WritesWhole, AllPending, OnePending, NonePending}
use Rattle.serving.specs.Answering.{Replied, RepliedPart, Serves, Breaks, Quits}
use Rattle.serving.proofs.Onward.{onward_nothing, onward_put, onward_then, onward_breaks, onward_pending, onward_through, onward_whole}

-- where no request of two lists ends the run none of both together does
go_on_append : (quits : Words → Bool) (p q : List Words) → GoOn quits p → GoOn quits q → GoOn quits (p ++ q)
go_on_append quits [] q f g = g
go_on_append quits (w ∷ p) q f g = (f.0, go_on_append quits p q f.1 g)

-- where no request ends the run, none but the last one does
pub go_on_all : (quits : Words → Bool) (p : List Words) → GoOn quits p → GoOnToLast quits p
go_on_all quits [] f = tt
go_on_all quits (w ∷ []) f = tt
go_on_all quits (w ∷ v ∷ p) f = (f.0, go_on_all quits (v ∷ p) f.1)

-- where none of the requests of one list ends the run, and none of another but its last, none of both together does but the last
go_on_then : (quits : Words → Bool) (p q : List Words) → GoOn quits p → GoOnToLast quits q → GoOnToLast quits (p ++ q)
go_on_then quits [] q f g = g
go_on_then quits (w ∷ []) [] f g = tt
go_on_then quits (w ∷ []) (v ∷ q) f g = (f.0, g)
go_on_then quits (w ∷ v ∷ p) q f g = (f.0, go_on_then quits (v ∷ p) q f.1 g)

module _ {E : Type 0} (X C : E → Words → List Part → E → Type 0) (quits : Words → Bool) where
  -- ways, one after the other
  path_append : (a b c : E) (p q : List Words) (r s : List (List Part)) → path X a p r b → path X b q s c → path X a (p ++ q) (r ++ s) c
  path_append a b c [] q [] s x y = subst (λ e. path X e q s c) x y
  path_append a b c [] q (r ∷ rs) s x y = absurd x
  path_append a b c (p ∷ ps) q [] s x y = absurd x
  path_append a b c (p ∷ ps) q (r ∷ rs) s x y = (x.0, x.1, path_append x.0 b c ps q rs s x.2 y)

  -- a way for the requests of some items and one for those behind them are a way for all
  path_items : (e0 e1 e2 : E) (xs ys : List Item) (r s : List (List Part)) → path X e0 (requests xs) r e1 → path X e1 (requests ys) s e2 → path X e0 (requests (xs ++ ys)) (r ++ s) e2
  path_items e0 e1 e2 xs ys r s x y = subst (λ l. path X e0 l (r ++ s) e2) (sym (flat_map-append asked xs ys)) (path_append e0 e1 e2 (requests xs) (requests ys) r s x y)

  -- a way that goes on may be cut off
  cut_append : (a b c : E) (p q : List Words) (r s : List (List Part)) → path X a p r b → CutPath X C b q s c → CutPath X C a (p ++ q) (r ++ s) c
  cut_append a b c p q r s x (whole y) = whole (path_append a b c p q r s x y)
  cut_append a b c p q r s x (at_last others last front reply mid is are y cut) =
      at_last (p ++ others) last (r ++ front) reply mid (ap (λ l. p ++ l) is ∙ sym (append_assoc p others (last ∷ []))) (ap (λ l. r ++ l) are ∙ sym (append_assoc r front (reply ∷ [])))
      (path_append a b mid p others r front x y) cut

  -- a way for the requests of some items and a cut one for those behind them are a cut way for all
  cut_items : (e0 e1 e2 : E) (xs ys : List Item) (r s : List (List Part)) → path X e0 (requests xs) r e1 → CutPath X C e1 (requests ys) s e2 → CutPath X C e0 (requests (xs ++ ys)) (r ++ s) e2
  cut_items e0 e1 e2 xs ys r s x y = subst (λ l. CutPath X C e0 l (r ++ s) e2) (sym (flat_map-append asked xs ys)) (cut_append e0 e1 e2 (requests xs) (requests ys) r s x y)

  -- two lists of replies spell together what they spell one behind the other
  spelled_both : (r s : List (List Part)) → spelled r ++ spelled s ≡ spelled (r ++ s)
  spelled_both r s = sym (flat_map-append spelling r s)

  -- one reply is spelled as a list of it alone
  spelled_one : (reply : List Part) → spelling reply ≡ spelled (reply ∷ [])
  spelled_one reply = sym (append-nil (spelling reply))

  -- where no request is served the engine, the output and what is pending stay
  serves_nothing : (bytes : List ℕ) (e : E) (o : SinkSeen) (p : List ℕ) → Serves X C quits bytes bytes e e o o p p
  serves_nothing bytes e o p = record { items = []; replies = []; framed = record { whole = refl; each = tt }; went = refl; go_on = tt; wrote = onward_nothing o p }

  -- serving starts with no request answered and nothing pending
  pub serves_starts : (bytes : List ℕ) (e : E) (o : SinkSeen) (p : List ℕ) → p ≡ [] → Serves X C quits bytes bytes e e o o [] p
  serves_starts bytes e o p none = let S : List ℕ → Type 0 = λ l. Serves X C quits bytes bytes e e o o [] l in subst S (sym none) (serves_nothing bytes e o [])

  module _ (a b : List ℕ) (e0 e1 : E) (o0 o1 : SinkSeen) (p0 p1 : List ℕ) (f : Serves X C quits a b e0 e1 o0 o1 p0 p1) where
    -- it goes on
    pub serves_then : (c : List ℕ) (e2 : E) (o2 : SinkSeen) (p2 : List ℕ) → Serves X C quits b c e1 e2 o1 o2 p1 p2 → Serves X C quits a c e0 e2 o0 o2 p0 p2
    serves_then c e2 o2 p2 g =
        let W : List ℕ → Type 0 = λ l. Onward o0 o2 p0 p2 l in
        record {
          items = f.items ++ g.items;
          replies = f.replies ++ g.replies;
          framed = framed_append a b c f.items g.items f.framed g.framed;
          went = path_items e0 e1 e2 f.items g.items f.replies g.replies f.went g.went;
          go_on = subst (GoOn quits) (sym (flat_map-append asked f.items g.items)) (go_on_append quits (requests f.items) (requests g.items) f.go_on g.go_on);
          wrote = subst W (spelled_both f.replies g.replies) (onward_then o0 o1 o2 p0 p1 p2 _ _ f.wrote g.wrote);
        }

    -- it breaks
    pub breaks_then : (e2 : E) (o2 : SinkSeen) → Breaks X C quits b e1 e2 o1 o2 p1 → Breaks X C quits a e0 e2 o0 o2 p0
    breaks_then e2 o2 g =
        let W : List ℕ → Type 0 = λ l. PutsFront o0 o2 (p0 ++ l) in
        record {
          items = f.items ++ g.items;
          replies = f.replies ++ g.replies;
          rest = g.rest;
          framed = framed_append a b g.rest f.items g.items f.framed g.framed;
          went = cut_items e0 e1 e2 f.items g.items f.replies g.replies f.went g.went;
          go_on = subst (GoOnToLast quits) (sym (flat_map-append asked f.items g.items)) (go_on_then quits (requests f.items) (requests g.items) f.go_on g.go_on);
          wrote = subst W (spelled_both f.replies g.replies) (onward_breaks o0 o1 o2 p0 p1 _ _ f.wrote g.wrote);
        }

    -- it comes to a request that ends the run
    pub quits_then : (e2 : E) (o2 : SinkSeen) (p2 : List ℕ) → Quits X C quits b e1 e2 o1 o2 p1 p2 → Quits X C quits a e0 e2 o0 o2 p0 p2
    quits_then e2 o2 p2 g =
        let W : List ℕ → Type 0 = λ l. Onward o0 o2 p0 p2 l in
        record {
          items = f.items ++ g.items;
          replies = f.replies ++ g.replies;
          rest = g.rest;
          framed = framed_append a b g.rest f.items g.items f.framed g.framed;
          went = path_items e0 e1 e2 f.items g.items f.replies g.replies f.went g.went;
          others = requests f.items ++ g.others;
          last = g.last;
          are = flat_map-append asked f.items g.items ∙ ap (λ l. requests f.items ++ l) g.are ∙ sym (append_assoc (requests f.items) g.others (g.last ∷ []));
          go_on = go_on_append quits (requests f.items) g.others f.go_on g.go_on;
          ends_run = g.ends_run;
          wrote = subst W (spelled_both f.replies g.replies) (onward_then o0 o1 o2 p0 p1 p2 _ _ f.wrote g.wrote);
        }

    -- what is pending is put, or that fails
    pub serves_put : (o2 : SinkSeen) → Onward o1 o2 p1 [] [] → Serves X C quits a b e0 e1 o0 o2 p0 []
    serves_put o2 g = let W : List ℕ → Type 0 = λ l. Onward o0 o2 p0 [] l in record {
      items = f.items;
      replies = f.replies;
      framed = f.framed;
      went = f.went;
      go_on = f.go_on;
      wrote = subst W (append-nil (spelled f.replies)) (onward_then o0 o1 o2 p0 p1 [] _ [] f.wrote g);
    }

    -- where what is pending behind the served requests fails to be put, serving breaks
    pub serves_fails : (o2 : SinkSeen) → PutsFront o1 o2 p1 → Breaks X C quits a e0 e1 o0 o2 p0
    serves_fails o2 g =
        let W : List ℕ → Type 0 = λ l. PutsFront o0 o2 (p0 ++ l) in
        let G : List ℕ → Type 0 = λ l. PutsFront o1 o2 l in
        record {
          items = f.items;
          replies = f.replies;
          rest = b;
          framed = f.framed;
          went = whole f.went;
          go_on = go_on_all quits (requests f.items) f.go_on;
          wrote = subst W (append-nil (spelled f.replies)) (onward_breaks o0 o1 o2 p0 p1 _ [] f.wrote (subst G (sym (append-nil p1)) g));
        }

    -- more bytes come
    pub serves_more : (more : List ℕ) → Serves X C quits (a ++ more) (b ++ more) e0 e1 o0 o1 p0 p1
    serves_more more = record { items = f.items; replies = f.replies; framed = framed_more a b more f.items f.framed; went = f.went; go_on = f.go_on; wrote = f.wrote }

  module _ (a : List ℕ) (e0 e1 : E) (o0 o1 o2 : SinkSeen) (p0 p1 : List ℕ) (f : Quits X C quits a e0 e1 o0 o1 p0 p1) where
    -- where what is pending is put, requests answered up to one that ends the run leave nothing pending
    pub quits_put : Onward o1 o2 p1 [] [] → Quits X C quits a e0 e1 o0 o2 p0 []
    quits_put g = let W : List ℕ → Type 0 = λ l. Onward o0 o2 p0 [] l in record {
      items = f.items;
      replies = f.replies;
      rest = f.rest;
      framed = f.framed;
      went = f.went;
      others = f.others;
      last = f.last;
      are = f.are;
      go_on = f.go_on;
      ends_run = f.ends_run;
      wrote = subst W (append-nil (spelled f.replies)) (onward_then o0 o1 o2 p0 p1 [] _ [] f.wrote g);
    }

    -- where what is pending behind the request that ends the run fails to be put, serving breaks
    pub quits_fails : PutsFront o1 o2 p1 → Breaks X C quits a e0 e1 o0 o2 p0
    quits_fails g =
        let W : List ℕ → Type 0 = λ l. PutsFront o0 o2 (p0 ++ l) in
        let G : List ℕ → Type 0 = λ l. PutsFront o1 o2 l in
        record {
          items = f.items;
          replies = f.replies;
          rest = f.rest;
          framed = f.framed;
          went = whole f.went;
          go_on = subst (GoOnToLast quits) (sym f.are) (go_on_then quits f.others (f.last ∷ []) f.go_on tt);
          wrote = subst W (append-nil (spelled f.replies)) (onward_breaks o0 o1 o2 p0 p1 _ [] f.wrote (subst G (sym (append-nil p1)) g));
        }

  -- nothing is given out but what is passed over
  pub serves_none : (a b : List ℕ) (e : E) (o : SinkSeen) (p : List ℕ) → GivesRequests a b [] → Serves X C quits a b e e o o p p
  serves_none a b e o p g =
      let R : List Words → Type 0 = λ l. path X e l [] e in
      record { items = g.items; replies = []; framed = g.framed; went = subst R (sym g.are) refl; go_on = subst (GoOn quits) (sym g.are) tt; wrote = onward_nothing o p }

  module _ (a b : List ℕ) (words : Words) (e0 e1 : E) (o0 o1 : SinkSeen) (p0 p1 : List ℕ) (g : GivesRequests a b (words ∷ [])) where
    -- a request and the reply that it has are a way of one step
    way : (reply : List Part) → X e0 words reply e1 → path X e0 (requests g.items) (reply ∷ []) e1
    way reply may = let R : List Words → Type 0 = λ l. path X e0 l (reply ∷ []) e1 in subst R (sym g.are) (e1, may, refl)

    -- one request is given out and answered
    serves_reply : (reply : List Part) → X e0 words reply e1 → quits words ≡ false → Onward o0 o1 p0 p1 (spelling reply) → Serves X C quits a b e0 e1 o0 o1 p0 p1
    serves_reply reply may goes w = let W : List ℕ → Type 0 = λ l. Onward o0 o1 p0 p1 l in record {
      items = g.items;
      replies = reply ∷ [];
      framed = g.framed;
      went = way reply may;
      go_on = subst (GoOn quits) (sym g.are) (goes, tt);
      wrote = subst W (spelled_one reply) w;
    }

    -- one request is given out and answered, and ends the run
    pub quits_one : Replied X C quits e0 e1 words o0 o1 p0 p1 true → Quits X C quits a e0 e1 o0 o1 p0 p1
    quits_one r = let W : List ℕ → Type 0 = λ l. Onward o0 o1 p0 p1 l in record {
      items = g.items;
      replies = r.reply ∷ [];
      rest = b;
      framed = g.framed;
      went = way r.reply r.may;
      others = [];
      last = words;
      are = g.are;
      go_on = tt;
      ends_run = r.ends_run;
      wrote = subst W (spelled_one r.reply) (onward_whole o0 o1 p0 p1 (spelling r.reply) r.wrote);
    }

    -- one request is given out, and of its reply only a front is written
    pub breaks_one : RepliedPart X C quits e0 e1 words o0 o1 p0 → Breaks X C quits a e0 e1 o0 o1 p0
    breaks_one r = let W : List ℕ → Type 0 = λ l. PutsFront o0 o1 (p0 ++ l) in record {
      items = g.items;
      replies = r.reply ∷ [];
      rest = b;
      framed = g.framed;
      went = at_last [] words [] r.reply e0 g.are refl refl r.may;
      go_on = subst (GoOnToLast quits) (sym g.are) tt;
      wrote = subst W (spelled_one r.reply) r.wrote;
    }

  -- The first of the requests are answered by what is written, and those behind them by what is pending.
  pub record Halves (bytes rest : List ℕ) (before after : E) (old new : SinkSeen) (pending : List ℕ) : Type 0 where
    pub mid : List ℕ
    pub there : E
    pub written : Serves X C quits bytes mid before there old new [] []
    pub waiting : Serves X C quits mid rest there after new new [] pending

  pub halves_start : (bytes : List ℕ) (e : E) (o : SinkSeen) (p : List ℕ) → p ≡ [] → Halves bytes bytes e e o o p
  halves_start bytes e o p none = record { mid = bytes; there = e; written = serves_nothing bytes e o []; waiting = serves_starts bytes e o p none }

  module _ (a b : List ℕ) (e0 e1 : E) (o0 o1 : SinkSeen) (p : List ℕ) (h : Halves a b e0 e1 o0 o1 p) where
    -- both together
    pub of_both : Serves X C quits a b e0 e1 o0 o1 [] p
    of_both = serves_then a h.mid e0 h.there o0 o1 [] [] h.written b e1 o1 p h.waiting

    -- one request more is answered
    pub halves_on : (c : List ℕ) (words : Words) (e2 : E) (o2 : SinkSeen) (p2 : List ℕ) → GivesRequests b c (words ∷ []) → Replied X C quits e1 e2 words o1 o2 p p2 false → Halves a c e0 e2 o0 o2 p2
    halves_on c words e2 o2 p2 g r = by r.wrote
      where
        one : (o o' : SinkSeen) (q q' : List ℕ) → Onward o o' q q' (spelling r.reply) → Serves X C quits b c e1 e2 o o' q q'
        one o o' q q' w = serves_reply b c words e1 e2 o o' q q' g r.reply r.may r.ends_run w

        by : WritesWhole o1 o2 p p2 (spelling r.reply) → Halves a c e0 e2 o0 o2 p2
        by (AllPending same is) =
            let P : SinkSeen → Type 0 = λ o. Halves a c e0 e2 o0 o p2 in
            subst P (sym same)
            (record {
              mid = h.mid;
              there = h.there;
              written = h.written;
              waiting =
                  serves_then h.mid b h.there e1 o1 o1 [] p h.waiting c e2 o1 p2 (one o1 o1 p p2 (onward_pending o1 p p2 (spelling r.reply) is));
            })
        by (OnePending put is) = record {
          mid = b;
          there = e1;
          written = serves_put a b e0 e1 o0 o1 [] p of_both o2 (onward_put o1 o2 p put);
          waiting = one o2 o2 [] p2 (onward_pending o2 [] p2 (spelling r.reply) is);
        }
        by (NonePending put is) =
            let P : List ℕ → Type 0 = λ q. Serves X C quits c c e2 e2 o2 o2 [] q in
            record {
              mid = c;
              there = e2;
              written = serves_then a b e0 e1 o0 o1 [] p of_both c e2 o2 [] (one o1 o2 p [] (onward_through o1 o2 p (spelling r.reply) put));
              waiting = subst P (sym is) (serves_nothing c e2 o2 []);
            }
